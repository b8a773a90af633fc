use Rattle.std.proofs.Common.{◌∙◌, ap, ◌+◌, drop, arith}
use Rattle.std.proofs.lemmas.Bool.{ne_eqb, eq-eqb}
use Rattle.circuit.specs.Valid.{slots_run}
use Rattle.circuit.proofs.Tested.{slots_fail, slots_pass, slots_all}
use Rattle.circuit.proofs.validity.items.slots_run.Goals as goal

pub returns-then-from-before : goal.returns-then-from-before
returns-then-from-before c =
    slots_fail c.args.mems.now c.args.items.now c.loop-item.item-index c.loop-item.before c.item-item.result (omega arith) c.item-item.is
    (ne_eqb c.item-item.result.first_slot c.loop-item.before (λ e. omega (arith, e))) c.loop-item.invariant.1

pub loop-item-preserved : goal.loop-item-preserved
loop-item-preserved c = (
  omega arith,
  ap (λ slots. slots_run c.args.mems.now (c.loop-item.before + slots) (drop (c.loop-item.item-index + 1) c.args.items.now)) (c.from-before.ensures ∙ c.slots_of.ensures)
      ∙ slots_pass c.args.mems.now c.args.items.now c.loop-item.item-index c.loop-item.before c.item-item.result (omega arith) c.item-item.is
      (eq-eqb c.item-item.result.first_slot c.loop-item.before (omega arith)) c.loop-item.invariant.1,
)

pub returns : goal.returns
returns c = slots_all c.args.mems.now c.args.items.now c.loop-item.item-index c.loop-item.before (omega arith) c.loop-item.invariant.1
