-- The row of the counter's line, carried over.
use Rattle.std.proofs.Common.{rules, ◌≡◌, ap}
use Rattle.counter.specs.Counter.{counter_at}
use Rattle.c_counter.specs.Crossing.{shown}
use Rattle.c_counter.proofs.counter_row.Goals as goal

pub returns : goal.returns
returns c =
    let shows : c.crossed.result ≡ shown c.new-from.result c.v_scanline_index.result = search rules in
    rw (c.v_scanline_index.ensures, c.into.ensures, ap counter_at c.new-from.ensures) at shows
