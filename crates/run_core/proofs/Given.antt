-- What a runner gives next.
use Rattle.std.proofs.Common.{◌≡◌, ℕ, ◌+◌, ◌<◌, List, sym, ap, ◌∙◌, true, false, inl, inr}
use Rattle.std.specs.Prelude.{is_some}
use Rattle.std.proofs.lemmas.Bool.{cases_Bool, cond-false, false≢true}
use Rattle.circuit.specs.Rounds.{Run, standing_at}
use Rattle.circuit.specs.declared.netlist.Circuit.{Circuit}
use Rattle.spool_format.specs.declared.sample.Sample.{Sample}
use Rattle.stimulus_blocks.specs.Courses.{Course, row_of, run_of, sample_count}
use Rattle.run_core.specs.Samples.{Following, after_next, has_next, next_of}
use Rattle.run_core.specs.Samples as samples
use Rattle.run_core.specs.Words.{words_at}
use Rattle.run_core.specs.declared.next.Next.TheVariants as next
use Rattle.run_core.proofs.Steps.{has_none, sample_next, unsettled_next}

abbrev pub following : Circuit → Course → ℕ → Following
following c s k = record { circuit = c; course = s; given = k }

abbrev pub sample : ℕ → ℕ → List ℕ → Sample
sample number time words = record { number = number; time = time; words = words }

module _ (c : Circuit) (s : Course) (k : ℕ) (f : Following) (c1 : Circuit) (s1 : Course) (circuit : c1 ≡ c) (course : s1 ≡ s) (view : following c s k ≡ f) where
  same_run : run_of c1 s1 ≡ run_of c s
  same_run = ap (λ (x : Circuit). run_of x s1) circuit ∙ ap (run_of c) course

  none : (is_some (standing_at (run_of c1 s1) k) ≡ true → false ≡ true) → is_some (standing_at (run_of c s) k) ≡ false
  none told = elim (cases_Bool (is_some (standing_at (run_of c s) k))) [
    | inl some ↦ absurd (false≢true (told (ap (λ (r : Run). is_some (standing_at r k)) same_run ∙ some)))
    | inr off ↦ off
  ]

  pub unsettled_given : k < sample_count s → (is_some (standing_at (run_of c1 s1) k) ≡ true → false ≡ true) → next.Unsettled ≡ next_of (samples.run_of f) f.given
  unsettled_given lt told = sym (unsettled_next (run_of c s) k lt (none told)) ∙ ap (λ (g : Following). next_of (samples.run_of g) g.given) view

  pub none_given : (n : ℕ) → n ≡ k → (is_some (standing_at (run_of c1 s1) k) ≡ true → false ≡ true) → following c s n ≡ after_next f
  none_given n is told =
      ap (following c s) (is ∙ sym (cond-false (has_next (run_of c s) k) (k + 1) k (has_none (run_of c s) k (none told)))) ∙ ap after_next view

  pub sample_given : (time : ℕ) (words : List ℕ) → k < sample_count s → is_some (standing_at (run_of c1 s1) k) ≡ true → time ≡ (row_of s1 k).time → words ≡ words_at (run_of c1 s1) k
      → next.Sample (sample k time words) ≡ next_of (samples.run_of f) f.given
  sample_given time words lt some time_is words_are =
      ap (λ t. next.Sample (sample k t words)) (time_is ∙ ap (λ (y : Course). (row_of y k).time) course)
      ∙ ap (λ ws. next.Sample (sample k (row_of s k).time ws)) (words_are ∙ ap (λ (r : Run). words_at r k) same_run)
      ∙ sym (sample_next (run_of c s) k lt (ap (λ (r : Run). is_some (standing_at r k)) (sym same_run) ∙ some))
      ∙ ap (λ (g : Following). next_of (samples.run_of g) g.given) view
