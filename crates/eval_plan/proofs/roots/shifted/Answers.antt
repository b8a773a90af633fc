use Rattle.std.proofs.Common.{◌+◌, ◌≤◌, ap, ◌∙◌, arith}
use Rattle.std.proofs.lemmas.Bool.{eq-eqb}
use Rattle.circuit.specs.Valid.{driver_fits, drivers_of}
use Rattle.circuit.specs.declared.netlist.By.TheVariants as by
use Rattle.driver_check.proofs.Fitting.{drive_ends, moved_fits}
use Rattle.eval_plan.proofs.roots.shifted.Goals.{in-Const+in_ok-part_of-in-Const, in-Input, in-Wire, in-Cell, in-Reg, in-Read}
use Rattle.eval_plan.proofs.roots.shifted.Goals as goal

pub overflow_add-result : goal.overflow_add-result
overflow_add-result c =
    let h : c.in-Input.at + c.args.drive.now.width ≤ 65536 = drive_ends c.args.circuit.now c.requires.valid c.args.drive.now c.requires.fits (by.Input c.in-Input.n c.in-Input.at) c.in-Input.is in
    omega (arith, h, c.requires.within)

pub overflow_add-result-in-Wire : goal.overflow_add-result-in-Wire
overflow_add-result-in-Wire c =
    let h : c.in-Wire.at + c.args.drive.now.width ≤ 65536 = drive_ends c.args.circuit.now c.requires.valid c.args.drive.now c.requires.fits (by.Wire c.in-Wire.n c.in-Wire.at) c.in-Wire.is in
    omega (arith, h, c.requires.within)

pub overflow_add-result-in-Cell : goal.overflow_add-result-in-Cell
overflow_add-result-in-Cell c =
    let h : c.in-Cell.at + c.args.drive.now.width ≤ 65536 = drive_ends c.args.circuit.now c.requires.valid c.args.drive.now c.requires.fits (by.Cell c.in-Cell.n c.in-Cell.at) c.in-Cell.is in
    omega (arith, h, c.requires.within)

pub overflow_add-result-in-Reg : goal.overflow_add-result-in-Reg
overflow_add-result-in-Reg c =
    let h : c.in-Reg.at + c.args.drive.now.width ≤ 65536 = drive_ends c.args.circuit.now c.requires.valid c.args.drive.now c.requires.fits (by.Reg c.in-Reg.n c.in-Reg.at) c.in-Reg.is in
    omega (arith, h, c.requires.within)

pub overflow_add-result-in-Read : goal.overflow_add-result-in-Read
overflow_add-result-in-Read c =
    let h : c.in-Read.at + c.args.drive.now.width ≤ 65536 = drive_ends c.args.circuit.now c.requires.valid c.args.drive.now c.requires.fits (by.Read c.in-Read.m c.in-Read.n c.in-Read.at) c.in-Read.is in
    omega (arith, h, c.requires.within)

pub returns-clause-fits : goal.returns-clause-fits
returns-clause-fits c =
    let circuit = c.args.circuit.now in
    let d = c.args.drive.now in
    elim c.match-drive.branch [
      | in-Const+in_ok-part_of-in-Const w ↦ ap (driver_fits (drivers_of circuit) c.args.count) w.result-is ∙ eq-eqb w.in_ok-part_of-in-Const.field-0.width c.args.count w.in_ok-part_of-in-Const.ensures.width
      | in-Input w ↦ ap (driver_fits (drivers_of circuit) c.args.count) w.result-is ∙ moved_fits circuit d c.requires.fits (by.Input w.in-Input.n w.in-Input.at) w.in-Input.is (λ v e. cc e) c.args.offset c.args.count c.requires.within
      | in-Wire w ↦ ap (driver_fits (drivers_of circuit) c.args.count) w.result-is ∙ moved_fits circuit d c.requires.fits (by.Wire w.in-Wire.n w.in-Wire.at) w.in-Wire.is (λ v e. cc e) c.args.offset c.args.count c.requires.within
      | in-Cell w ↦ ap (driver_fits (drivers_of circuit) c.args.count) w.result-is ∙ moved_fits circuit d c.requires.fits (by.Cell w.in-Cell.n w.in-Cell.at) w.in-Cell.is (λ v e. cc e) c.args.offset c.args.count c.requires.within
      | in-Reg w ↦ ap (driver_fits (drivers_of circuit) c.args.count) w.result-is ∙ moved_fits circuit d c.requires.fits (by.Reg w.in-Reg.n w.in-Reg.at) w.in-Reg.is (λ v e. cc e) c.args.offset c.args.count c.requires.within
      | in-Read w ↦ ap (driver_fits (drivers_of circuit) c.args.count) w.result-is ∙ moved_fits circuit d c.requires.fits (by.Read w.in-Read.m w.in-Read.n w.in-Read.at) w.in-Read.is (λ v e. cc e) c.args.offset c.args.count c.requires.within
    ]
