-- What the private functions say of an island line before it is known to be the definition's.
use Rattle.std.specs.Prelude.{true, false, List, ℕ, set}
use borrow.Rule.Slice.PartMut.{put_mid}
use Rattle.hdmi.specs.Period.{data_preamble}
use Rattle.timing.specs.declared.DviTiming.{DviTiming}
use Rattle.timing.specs.Sync.{pair_for, sync_for}
use Rattle.line.specs.Line.{v_sync, lead}

-- a line with its control words, the island and the command words as they stood
unfoldable pub framed : DviTiming → ℕ → List ℕ → List ℕ
framed t s l =
    put_mid 46 10
    (set (set (set (set l 1 (sync_for t false (v_sync s))) 3 (data_preamble (pair_for t false (v_sync s)))) 42 (sync_for t true (v_sync s))) 44 (sync_for t false (v_sync s)))
    (lead t s)
