-- A run goes on by a sample.
use Rattle.std.proofs.Common.{◌≡◌, ℕ, suc, Option, Some, ◌∙◌, ap, List}
use Rattle.std.specs.Prelude.{option_and_then}
use Rattle.circuit.specs.Rounds.{Run, Standing, settled, standing_after}

pub goes_on : (run : Run) (k : ℕ) (s : Standing) (inputs : List ℕ) (next : Option Standing) → standing_after run k ≡ Some s → inputs ≡ (run.row k).inputs → settled run.circuit s inputs ≡ next → standing_after run (suc k) ≡ next
unfolding standing_after
goes_on run k s inputs next here same steps =
    ap (option_and_then (λ t. settled run.circuit t (run.row k).inputs)) here
    ∙ ap (settled run.circuit s) (let e : (run.row k).inputs ≡ inputs = cc same in e) ∙ steps
