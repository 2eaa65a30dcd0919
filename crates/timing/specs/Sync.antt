-- The sync levels that a timing gives, and the control characters with them.
use Rattle.std.specs.Prelude.{Bool, true, false, not, ◌&&◌, List, [], ◌∷◌, ℕ, eqb, ltb, Result, Ok, Err}
use Rattle.dvi.specs.Control.{pair_of}
use Rattle.hdmi.specs.Period.{idle}
use Rattle.refusal.specs.declared.Refusal.TheVariants.{Unlisted}
use Rattle.refusal.specs.declared.Refusal.{Refusal}
use Rattle.symbol.specs.declared.Tmds3.{Tmds3}
use Rattle.refusal.specs.Verdict.{Ask, ask, verdict, answered}
use Rattle.timing.specs.declared.DviTiming.{DviTiming}
use Rattle.timing.specs.declared.SyncLevels.{SyncLevels}

-- a sync line of positive polarity is high while sync is on, one of negative polarity while it is off
abbrev pub level_of : Bool → Bool → Bool
level_of positive true = positive
level_of positive false = not positive

-- polarity 0 is negative, 1 positive
abbrev pub positive : ℕ → Bool
positive polarity = eqb polarity 1

-- the levels of HSYNC and VSYNC while horizontal and vertical sync are on or off
abbrev pub levels_for : DviTiming → Bool → Bool → SyncLevels
levels_for t h v = record { h = level_of (positive t.h_sync_polarity) h; v = level_of (positive t.v_sync_polarity) v }

-- the sync pair while horizontal and vertical sync are on or off
unfoldable pub pair_for : DviTiming → Bool → Bool → ℕ
pair_for t h v = pair_of (level_of (positive t.h_sync_polarity) h) (level_of (positive t.v_sync_polarity) v)

-- the word of one control character
abbrev pub sync_for : DviTiming → Bool → Bool → ℕ
sync_for t h v = idle (pair_for t h v)

abbrev pub polarity_asks : DviTiming → List Ask
polarity_asks t = ask (ltb t.h_sync_polarity 2 && ltb t.v_sync_polarity 2) Unlisted ∷ []

-- what `tmds3_for_sync` answers
abbrev pub sync_word_of : DviTiming → Bool → Bool → Result Tmds3 Refusal
sync_word_of t h v = answered (verdict (polarity_asks t)) (Ok (record { 0 = sync_for t h v })) Err
