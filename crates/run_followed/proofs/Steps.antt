-- A run goes on by a sample, or ends there.
use Rattle.std.proofs.Common.{◌≡◌, ℕ, ◌+◌, ◌<◌, ◌≤◌, List, length, get_or, set, sym, ap, ◌∙◌, arith, inl, inr, true, Option, Some, None, subst}
use Rattle.std.specs.Prelude.{IfSome, is_some, slice_get}
use Rattle.std.proofs.lemmas.Bool.{cases_eq, cases_lt, false≢true}
use Rattle.std.proofs.lemmas.List.{get_or-set_other, get_or-set_same, length-set}
use Rattle.std.proofs.lemmas.Option.{get_or_from_slice_get, slice_get-get_or, slice_get_within}
use Rattle.sim_base.specs.declared.kinds.Kinds.{Kinds}
use Rattle.circuit.specs.Rounds.{Run, run_length, standing_after}
use Rattle.circuit.proofs.Length.{unsettled_above}
use Rattle.run_followed.specs.Fired.{kinds_at}

-- the samples before a standing settle
pub reached : (run : Run) (k : ℕ) → k ≤ run.count → is_some (standing_after run k) ≡ true → k ≤ run_length run
reached run k within here = elim (cases_lt (run_length run) k) [
  | inl lt ↦ absurd (false≢true (sym (unsettled_above run run.count k lt within) ∙ here))
  | inr ge ↦ ge
]

pub of_some : {X : Type 0} (o : Option X) (P : Type 0) → true ≡ is_some o → IfSome o (λ x. P) → P
of_some None P e h = absurd (false≢true (sym e))
of_some (Some x) P e h = h

-- the kinds of so many samples are kept
abbrev pub AreKept : Run → ℕ → List Kinds → Type 0
AreKept run given fired = (k : ℕ) (kinds : Kinds) → k < given → slice_get fired k ≡ Some kinds → kinds ≡ kinds_at run k

pub kept_more : (run : Run) (given : ℕ) (fired : List Kinds) (new : Kinds) → new ≡ kinds_at run given → AreKept run given fired → AreKept run (given + 1) (set fired given new)
kept_more run given fired new is kept k kinds lt at = elim (cases_eq k given) [
  | inl same ↦
      (let there : slice_get (set fired given new) given ≡ Some kinds = subst (λ (i : ℕ). slice_get (set fired given new) i ≡ Some kinds) same at in
      let inside : given < length fired = (let l = slice_get_within (set fired given new) given kinds there in omega (arith, l, length-set fired given new)) in
      sym (get_or_from_slice_get (set fired given new) given kinds kinds there) ∙ get_or-set_same fired given new kinds inside ∙ is ∙ ap (kinds_at run) (sym same))
  | inr other ↦
      (let inside : k < length fired = (let l = slice_get_within (set fired given new) k kinds at in omega (arith, l, length-set fired given new)) in
      let here : get_or fired k kinds ≡ kinds = sym (get_or-set_other fired given k new kinds other) ∙ get_or_from_slice_get (set fired given new) k kinds kinds at in
      kept k kinds (omega (arith, lt, other)) (slice_get-get_or fired k kinds inside ∙ ap (λ x. Some x) here))
]
