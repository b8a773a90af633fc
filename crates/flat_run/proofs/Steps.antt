-- A run goes on by a sample, or ends there.
use Rattle.std.proofs.Common.{◌≡◌, ℕ, suc, ◌+◌, ◌≤◌, Option, Some, sym, ◌∙◌, ap, add-one, inl, inr, List}
use Rattle.std.specs.Prelude.{is_some, option_and_then}
use Rattle.std.proofs.lemmas.Bool.{cases_lt, false≢true}
use Rattle.circuit.specs.Rounds.{Run, Standing, run_length, settled, standing_after, start}
use Rattle.circuit.proofs.Length.{unsettled_above}

pub stands_first : (run : Run) (s : Standing) → s ≡ start run.circuit → standing_after run 0 ≡ Some s
unfolding standing_after
stands_first run s e = ap (λ t. Some t) (sym e)

pub goes_on : (run : Run) (k : ℕ) (s : Standing) (inputs : List ℕ) (next : Option Standing) → standing_after run k ≡ Some s → inputs ≡ (run.row k).inputs → settled run.circuit s inputs ≡ next → standing_after run (k + 1) ≡ next
unfolding standing_after
goes_on run k s inputs next here same steps =
    let one : k + 1 ≡ suc k = add-one k in
    ap (standing_after run) one
    ∙ ap (option_and_then (λ t. settled run.circuit t (run.row k).inputs)) here
    ∙ ap (settled run.circuit s) (let e : (run.row k).inputs ≡ inputs = cc same in e) ∙ steps

-- the samples before a standing settle
pub reached : (run : Run) (k : ℕ) (s : Standing) → k ≤ run.count → standing_after run k ≡ Some s → k ≤ run_length run
reached run k s within here = elim (cases_lt (run_length run) k) [
  | inl lt ↦ absurd (false≢true (sym (unsettled_above run run.count k lt within) ∙ ap is_some here))
  | inr ge ↦ ge
]
