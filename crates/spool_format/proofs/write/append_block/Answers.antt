-- Each slot keeps what is written in step with what was compared.
use Rattle.std.proofs.Common.{◌<◌, ◌≤◌, length, refl, sym, ◌∙◌, arith}
use Rattle.spool_format.proofs.Upto.{IsWritten-none, IsWritten-same, IsWritten-changed, begins_on}
use Rattle.spool_format.proofs.write.append_block.Goals as goal
use Rattle.spool_format.proofs.write.append_block.Goals.{then-not-is_same_slot+in_ok-append_slot, else-not-is_same_slot}

pub loop-slot-init : goal.loop-slot-init
loop-slot-init c = IsWritten-none _ _ _ _ _ _ c.requires.place

pub returns-in_err-append_slot-clause-begins : goal.returns-in_err-append_slot-clause-begins
returns-in_err-append_slot-clause-begins c = begins_on _ _ _ _ c.loop-slot.invariant.into c.append_slot.ensures.begins

pub loop-slot-preserved : goal.loop-slot-preserved
loop-slot-preserved c =
    let from : c.args.from ≤ c.loop-slot.slot = omega arith in
    let within : c.loop-slot.slot < length c.args.widths.now = omega arith in
    elim c.if-not-is_same_slot.branch [
      | then-not-is_same_slot+in_ok-append_slot w ↦ rw (w.count-is, w.into-is)
          (IsWritten-changed _ _ c.loop-slot.invariant from within c.div_ceil.ensures (sym c.is_same_slot.ensures ∙ w.if-not-is_same_slot.true) (w.in_ok-append_slot.ensures.ok refl))
      | else-not-is_same_slot w ↦ rw (w.count-is, w.into-is)
          (IsWritten-same _ c.loop-slot.invariant from within c.div_ceil.ensures (sym c.is_same_slot.ensures ∙ w.if-not-is_same_slot.false))
    ]
