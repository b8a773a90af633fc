use Rattle.std.proofs.Common.{List, sym, ◌∙◌, ap, subst, arith}
use Rattle.circuit.specs.declared.netlist.Net.{Net}
use Rattle.driver_check.specs.Numbers.{IsInsideNet, start_of}
use Rattle.driver_check.proofs.Fitting.{fits_inside, net_width}
use Rattle.eval_plan.proofs.roots.root_of.Goals as goal

pub start-start-requires-clause-inside : goal.start-start-requires-clause-inside
start-start-requires-clause-inside c =
    subst (λ (nets : List Net). IsInsideNet nets c.args.owner.now) (sym c.as_slice.ensures) (fits_inside c.args.circuit.now c.args.owner.now c.requires.owner)

pub overflow_cast-origin : goal.overflow_cast-origin
overflow_cast-origin c =
    let circuit = c.args.circuit.now in
    let x = fits_inside circuit c.args.owner.now c.requires.owner in
    let w = net_width circuit c.requires.valid c.args.owner.now.net x.0 x.1 in
    let start = c.start-start.ensures.value ∙ ap (λ (nets : List Net). start_of nets c.args.owner.now) c.as_slice.ensures in
    omega (arith, x.2, w, start, c.requires.owner_inside, c.requires.origin)

pub overflow_add-result : goal.overflow_add-result
overflow_add-result c =
    let circuit = c.args.circuit.now in
    let x = fits_inside circuit c.args.drive.now c.requires.drive in
    let w = net_width circuit c.requires.valid c.args.drive.now.net x.0 x.1 in
    omega (arith, x.2, w, c.requires.inside)
