use Rattle.std.proofs.Common.{◌+◌, Ok, ap, sym, ◌∙◌}
use Rattle.design_parts.specs.Parts.{Made}
use Rattle.design_wires.specs.Places.{seen_here}
use Rattle.design_walk.proofs.Arrivals.{entered_ok}
use Rattle.design_walk.proofs.scopes.enter.Goals as goal

pub returns : goal.returns
returns c =
    entered_ok (seen_here c.args.around.now) c.args.unit.now c.args.cell.now c.args.draft.now
    ∙ ap Ok (sym (c.add_instance.ensures ∙ ap (λ (m : Made). let new : Made = record m { instances = m.instances + 1 } in new) c.in_ok-show.ensures))
