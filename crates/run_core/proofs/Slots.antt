-- The words of a slot among those of all slots.
use Rattle.std.proofs.Common.{◌≡◌, ℕ, zero, suc, ◌+◌, ◌*◌, ◌<◌, ◌≤◌, ◌^◌, List, [], ◌∷◌, ◌++◌, length, take, drop, get_or, sym, ap, ◌∙◌, subst, arith, refl}
use Rattle.std.proofs.Math.Seq.{drop-append-add}
use Rattle.std.proofs.lemmas.List.{take_at}
use Rattle.std.proofs.lemmas.List.Sums.{sum_by-cons}
use Rattle.sim_base.specs.BitValue.{BitValue, bit_value}
use Rattle.sim_base.specs.Parts.{halves_of, number_of_parts}
use Rattle.sim_base.specs.Shape.{words_of_width}
use Rattle.sim_base.specs.TimeText.{largest_time}
use Rattle.sim_base.proofs.Parts.{length-parts}
use Rattle.circuit.specs.Rounds.{Run}
use Rattle.circuit.specs.Shown.{shown}
use Rattle.circuit.specs.Slots.{slot_widths}
use Rattle.spool_format.specs.Records.{IsSampleOf, place_of, slot_number, slot_words}
use Rattle.run_core.specs.Samples.{sample_of}
use Rattle.run_core.specs.Words.{words_at, words_of_slots}
use Rattle.run_core.proofs.Writing.{slots_room}

slot_of : (widths : List ℕ) (f : ℕ → ℕ) (n : ℕ) → n < length widths → slot_words widths (words_of_slots widths f) n ≡ halves_of (bit_value (get_or widths n 0) (f n))
unfolding words_of_slots
slot_of [] f n lt = absurd (omega (arith, lt))
slot_of (w ∷ ws) f zero lt = take_at (halves_of (bit_value w (f 0))) (words_of_slots ws (λ slot. f (suc slot))) (words_of_width w) (length-parts 32 (words_of_width w) (f 0))
slot_of (w ∷ ws) f (suc n) lt =
    let first = halves_of (bit_value w (f 0)) in
    let rest = words_of_slots ws (λ slot. f (suc slot)) in
    let room = words_of_width (get_or ws n 0) in
    let place : place_of (w ∷ ws) (suc n) ≡ length first + place_of ws n =
    sum_by-cons words_of_width w (take n ws) ∙ ap (λ m. m + place_of ws n) (sym (length-parts 32 (words_of_width w) (f 0))) in
    ap (λ m. take room (drop m (first ++ rest))) place ∙ ap (take room) (drop-append-add first rest (place_of ws n))
    ∙ slot_of ws (λ slot. f (suc slot)) n (omega (arith, lt))

same_number : (ws : List ℕ) → slot_number ws ≡ number_of_parts 32 ws
unfolding slot_number number_of_parts
same_number [] = refl
same_number (w ∷ ws) = ap (λ n. n * 2 ^ 32 + w) (same_number ws)

module _ (run : Run) (k : ℕ) (below : (slot : ℕ) → shown run k slot < 2 ^ get_or (slot_widths run.circuit) slot 0) (halves : (v : BitValue) → v.number < 2 ^ v.width → number_of_parts 32 (halves_of v) ≡ v.number) where
  pub slot_shows : (slot : ℕ) → slot < length (slot_widths run.circuit) → slot_number (slot_words (slot_widths run.circuit) (words_at run k) slot) ≡ shown run k slot
  slot_shows slot lt =
      ap slot_number (slot_of (slot_widths run.circuit) (shown run k) slot lt)
      ∙ same_number (halves_of (bit_value (get_or (slot_widths run.circuit) slot 0) (shown run k slot)))
      ∙ halves (bit_value (get_or (slot_widths run.circuit) slot 0) (shown run k slot)) (below slot)

  pub sample_fits : (run.row k).time ≤ largest_time → IsSampleOf (slot_widths run.circuit) (sample_of run k)
  sample_fits time = record {
    time = time;
    room = slots_room (slot_widths run.circuit) (shown run k);
    below = λ slot lt. subst (λ n. n < 2 ^ get_or (slot_widths run.circuit) slot 0) (sym (slot_shows slot lt)) (below slot);
  }
