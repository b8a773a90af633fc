use Rattle.std.proofs.Common.{◌≡◌, subst, arith, Some}
use Rattle.eval_plan.specs.TableInvariants.{driver_row}
use Rattle.eval_plan.specs.declared.sources.Kind.{Kind}
use Rattle.eval_plan.proofs.Given.{part_low, register_low}
use Rattle.eval_plan.proofs.listing.row_count.Goals as goal

pub returns-in-Part : goal.returns-in-Part
returns-in-Part c = λ width row b fits e.
    let h = part_low c.args.circuit.now c.args.parts.now.nodes.items c.args.parts.now.ports.items c.requires width row b fits (subst (λ (k : Kind). driver_row c.args.circuit.now k b ≡ Some row) c.in-Part.is e) in
    omega (arith, h, c.len-in-Part.ensures)

pub returns-in-Register : goal.returns-in-Register
returns-in-Register c = λ width row b fits e.
    let h = register_low c.args.circuit.now width row b fits (subst (λ (k : Kind). driver_row c.args.circuit.now k b ≡ Some row) c.in-Register.is e) in
    omega (arith, h, c.len-in-Register.ensures)
