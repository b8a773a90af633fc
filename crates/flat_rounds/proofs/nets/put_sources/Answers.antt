use Rattle.std.proofs.Common.{◌≡◌, [], ap, length, subst, refl, arith, Some}
use Rattle.std.specs.Prelude.{slice_get}
use Rattle.std.proofs.lemmas.Option.{slice_get_read}
use Rattle.circuit.specs.declared.netlist.By.TheVariants as by
use Rattle.flat_rounds.specs.Pass.{IsSourced}
use Rattle.flat_rounds.proofs.Pass.{source_fits, source_right, source_skip, no_source, zeros_right}
use Rattle.flat_rounds.proofs.nets.put_sources.Goals as goal
use Rattle.flat_rounds.proofs.nets.put_sources.Goals.{in-Input, in-Reg, in_default}

drive_is : (c : goal.Joined-drive) → slice_get c.args.circuit.now.drives c.loop-drive.drive-index ≡ Some c.drive-item.result
drive_is c =
    subst (λ ds. slice_get ds c.loop-drive.drive-index ≡ Some c.drive-item.result) c.as_slice-drive-items.ensures
    (slice_get_read c.as_slice-drive-items.result.now (length c.as_slice-drive-items.result.now) c.loop-drive.drive-index c.drive-item.result refl (omega arith) c.drive-item.is)

pub loop-drive-init : goal.loop-drive-init
loop-drive-init c = record {
  fits = c.requires.nets;
  right = λ numbers are. zeros_right c.args.circuit.now c.args.regs.now c.args.inputs.now c.args.nets.now.items numbers c.requires.blank are;
}

pub loop-drive-preserved : goal.loop-drive-preserved
loop-drive-preserved c =
    let at = drive_is c in
    let h = c.requires.flat.drives c.loop-drive.drive-index c.drive-item.result at in
    elim c.match-drive.branch [
      | in-Input w ↦ rw (w.nets-is) (record {
        fits = source_fits c.args.circuit.now (record { regs = c.args.regs.now; mems = [] }) c.args.inputs.now c.requires.flat c.requires.inputs c.requires.regs c.loop-drive.nets.items c.loop-drive.invariant.fits
            c.loop-drive.drive-index _ c.drive-item.result (by.Input w.in-Input.n w.in-Input.field-1) at w.in-Input.is refl;
        right = λ numbers are. source_right c.args.circuit.now c.args.regs.now c.args.inputs.now c.loop-drive.nets.items numbers c.requires.flat c.loop-drive.invariant.fits are
            c.loop-drive.drive-index _ c.drive-item.result (by.Input w.in-Input.n w.in-Input.field-1) at w.in-Input.is refl (c.loop-drive.invariant.right numbers are);
      })
      | in-Reg w ↦ rw (w.nets-is) (record {
        fits = source_fits c.args.circuit.now (record { regs = c.args.regs.now; mems = [] }) c.args.inputs.now c.requires.flat c.requires.inputs c.requires.regs c.loop-drive.nets.items c.loop-drive.invariant.fits
            c.loop-drive.drive-index _ c.drive-item.result (by.Reg w.in-Reg.n w.in-Reg.field-1) at w.in-Reg.is refl;
        right = λ numbers are. source_right c.args.circuit.now c.args.regs.now c.args.inputs.now c.loop-drive.nets.items numbers c.requires.flat c.loop-drive.invariant.fits are
            c.loop-drive.drive-index _ c.drive-item.result (by.Reg w.in-Reg.n w.in-Reg.field-1) at w.in-Reg.is refl (c.loop-drive.invariant.right numbers are);
      })
      | in_default w ↦ rw (w.nets-is) (record {
        fits = c.loop-drive.invariant.fits;
        right = λ numbers are. source_skip c.args.circuit.now c.loop-drive.nets.items numbers c.loop-drive.drive-index c.drive-item.result at
            (no_source c.args.circuit.now c.drive-item.result.net c.drive-item.result.width c.drive-item.result.by w.in_default.not-Input w.in_default.not-Reg h.2)
            (c.loop-drive.invariant.right numbers are);
      })
    ]

pub returns-clause-right : goal.returns-clause-right
returns-clause-right c numbers n are done = c.loop-drive.invariant.right numbers are n (subst (λ k. IsSourced c.args.circuit.now k n) (let e : length c.as_slice-drive-items.result.now ≡ length c.args.circuit.now.drives = ap length c.as_slice-drive-items.ensures in omega arith) done)
