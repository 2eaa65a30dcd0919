-- The three lanes of one pixel clock in a word of 30 bits: lane 0 in bits 0..9, lane 1 in 10..19, lane 2 in 20..29.
use Rattle.std.specs.Prelude.{ℕ, ◌+◌, ◌*◌, ◌/◌, ◌%◌, ◌^◌}

abbrev pub lanes : ℕ → ℕ → ℕ → ℕ
lanes a b c = a + b * 2 ^ 10 + c * 2 ^ 20

-- lane k of a word
abbrev pub lane : ℕ → ℕ → ℕ
lane k w = w / 2 ^ (10 * k) % 2 ^ 10
