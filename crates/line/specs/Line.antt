-- The lines of timing.rs, each as the sends that it asks the command expander for, and as the words that ask for them.
use Rattle.std.specs.Prelude.{Bool, true, false, not, cond, ◌||◌, List, [], ◌∷◌, ◌++◌, ℕ, ◌-◌, eqb, get_or, replicate}
use Rattle.laws.proofs.Tables.{made}
use Rattle.hdmi.specs.Island.{island}
use Rattle.hdmi.specs.Period.{video_preamble, data_preamble, preamble_length, guard_length, video_guard}
use Rattle.timing.specs.declared.DviTiming.{DviTiming}
use Rattle.timing.specs.declared.DviTimingLineState.TheVariants.{FrontPorch, Sync, Active}
use Rattle.timing.specs.Command.{Send, raw, repeat, commanded}
use Rattle.timing.specs.LineState.{state_number}
use Rattle.timing.specs.Sync.{pair_for, sync_for}

-- a horizontal blanking: front porch, sync, back porch, the last 8 characters as they stand
abbrev pub sync_pulse : DviTiming → Bool → List Send
sync_pulse t v =
    repeat t.h_front_porch (sync_for t false v) ∷ repeat t.h_sync_width (sync_for t true v)
    ∷ repeat (t.h_back_porch - 8) (sync_for t false v) ∷ raw (replicate 8 (sync_for t false v)) ∷ []

unfoldable pub pulse_words : DviTiming → Bool → List ℕ
pulse_words t v = commanded (sync_pulse t v)

-- the same length as the active pixels, with none sent
abbrev pub sync_only : DviTiming → Bool → List Send
sync_only t v = repeat (t.h_active_pixels - 8) (sync_for t false v) ∷ raw (replicate 8 (sync_for t false v)) ∷ []

unfoldable pub only_words : DviTiming → Bool → List ℕ
only_words t v = commanded (sync_only t v)

-- vertical sync is on in the lines of state 1
abbrev pub v_sync : ℕ → Bool
v_sync state = eqb state (state_number Sync)

-- the last ten characters before the active pixels: where pixels follow, their preamble and their guard band
abbrev pub lead : DviTiming → ℕ → List ℕ
lead t state =
    cond (eqb state (state_number Active))
    (replicate preamble_length (video_preamble (pair_for t false (v_sync state))) ++ replicate guard_length video_guard)
    (replicate 10 (sync_for t false (v_sync state)))

-- a horizontal blanking with an island: it opens with horizontal sync, after its preamble, and has the sync pair of that time
abbrev pub island_line : DviTiming → ℕ → List ℕ → List Send
island_line t state packet =
    repeat (t.h_front_porch - 8) (sync_for t false (v_sync state)) ∷ repeat preamble_length (data_preamble (pair_for t false (v_sync state)))
    ∷ raw (island (pair_for t true (v_sync state)) packet) ∷ repeat (t.h_sync_width - 36) (sync_for t true (v_sync state))
    ∷ repeat (t.h_back_porch - 10) (sync_for t false (v_sync state)) ∷ raw (lead t state) ∷ []

unfoldable pub island_words : DviTiming → ℕ → List ℕ → List ℕ
island_words t state packet = commanded (island_line t state packet)

-- ---- what is written of an island line, and when

-- the places of its six command words
abbrev pub command_place : ℕ → Bool
command_place k = eqb k 0 || (eqb k 2 || (eqb k 4 || (eqb k 41 || (eqb k 43 || eqb k 45))))

-- a line of 56 words: at the places that f names the new ones, and at the others what stood there
abbrev pub replaced : (ℕ → Bool) → List ℕ → List ℕ → List ℕ
replaced f new old = made (λ k. cond (f k) (get_or new k 0) (get_or old k 0)) 0 56

-- `init_data_island` writes the command words, which are the same for every state and packet
unfoldable pub init_line : DviTiming → List ℕ → List ℕ
init_line t line = replaced command_place (island_words t (state_number FrontPorch) (replicate 36 0)) line

-- `encode_data_island` writes all the others
unfoldable pub encode_line : DviTiming → ℕ → List ℕ → List ℕ → List ℕ
encode_line t state packet line = replaced (λ k. not (command_place k)) (island_words t state packet) line
