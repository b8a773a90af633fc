use Rattle.std.proofs.Common.{◌≡◌, List, ℕ, Some, map, sym, ◌∙◌, ap, Err}
use Rattle.std.specs.Borrow.{Bor}
use Rattle.flat_text.specs.declared.fault.FlatFault.{FlatFault as fault}
use Rattle.flat_stimulus.proofs.Facts.{block_lost, block_read, map_ok}
use Rattle.flat_stimulus.proofs.stimulus.read_stimulus.Goals as goal

pub returns-clause-not_built : goal.returns-clause-not_built
returns-clause-not_built c same =
    block_lost c.args.text.now c.args.circuit.now (c.in-Err.ensures.not_built (ap Err (let e : c.in-Err.fault ≡ fault.NotBuilt = cc same in e)))

pub returns-in-Ok-clause-ok : goal.returns-in-Ok-clause-ok
returns-in-Ok-clause-ok c =
    map_ok c.read_lines_for.result _ _
    (λ s l.
    block_read c.args.text.now c.args.circuit.now c.deref.result.now (map (λ x. x.now) c.deref-in-Ok.result.now) (c.deref.ensures.value ∙ c.in_ok-columns.ensures.ok)
    (c.in-Ok.ensures.ok ∙ ap (λ (ls : List (Bor (List ℕ))). Some (map (λ x. x.now) ls)) (sym c.deref-in-Ok.ensures.value)) ∙ l)
    c.read_lines_for.ensures.ok

pub returns-in-Ok-clause-not_built : goal.returns-in-Ok-clause-not_built
returns-in-Ok-clause-not_built c same =
    block_read c.args.text.now c.args.circuit.now c.deref.result.now (map (λ x. x.now) c.deref-in-Ok.result.now) (c.deref.ensures.value ∙ c.in_ok-columns.ensures.ok)
    (c.in-Ok.ensures.ok ∙ ap (λ (ls : List (Bor (List ℕ))). Some (map (λ x. x.now) ls)) (sym c.deref-in-Ok.ensures.value)) ∙ c.read_lines_for.ensures.not_built same
