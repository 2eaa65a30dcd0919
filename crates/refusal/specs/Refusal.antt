-- The number and the place of each refusal: the table, as a definition.
use Rattle.std.specs.Prelude.{ℕ, List, ◌++◌, codes, decimal}
use Rattle.refusal.specs.declared.Refusal.{Refusal}
use Rattle.refusal.specs.declared.Refusal.TheVariants.{Length, Discrepancy, SyncPair, Unlisted, FrameCount, ClockValue, TimingRange, LineCounter, LineOffset, Unbalanced, NotData, HighBits, GuardWord, NotTerc4, SyncBits, HeaderParity, SubpacketParity}

abbrev pub number_of : Refusal → ℕ
number_of Length = 1
number_of Discrepancy = 2
number_of SyncPair = 3
number_of Unlisted = 4
number_of FrameCount = 5
number_of ClockValue = 6
number_of TimingRange = 7
number_of LineCounter = 8
number_of LineOffset = 9
number_of Unbalanced = 10
number_of (NotData i) = 11
number_of (HighBits i) = 12
number_of (GuardWord i) = 13
number_of (NotTerc4 i) = 14
number_of (SyncBits i) = 15
number_of HeaderParity = 16
number_of (SubpacketParity s) = 17

-- 0 where the table has no place
abbrev pub place_of : Refusal → ℕ
place_of Length = 0
place_of Discrepancy = 0
place_of SyncPair = 0
place_of Unlisted = 0
place_of FrameCount = 0
place_of ClockValue = 0
place_of TimingRange = 0
place_of LineCounter = 0
place_of LineOffset = 0
place_of Unbalanced = 0
place_of (NotData i) = i
place_of (HighBits i) = i
place_of (GuardWord i) = i
place_of (NotTerc4 i) = i
place_of (SyncBits i) = i
place_of HeaderParity = 0
place_of (SubpacketParity s) = s

-- how a refusal is printed: its number and its place
abbrev pub refusal_text : Refusal → List ℕ
refusal_text r = codes "refusal " ++ (decimal (number_of r) ++ (codes " at " ++ decimal (place_of r)))
