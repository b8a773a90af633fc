use Rattle.std.proofs.Common.{◌∙◌, sym, ap, arith}
use Rattle.circuit.specs.Valid.{names_rise, stands_before}
use Rattle.circuit.proofs.Tested.{behind, fails_at, passes_at, passes_all, rise_step, rise_none}
use Rattle.circuit.proofs.validity.items.names_rise.Goals as goal

pub returns-then-not-stands_before : goal.returns-then-not-stands_before
returns-then-not-stands_before c =
    fails_at names_rise stands_before rise_step c.args.items.now c.loop-i.i c.index-items-i.result c.index-items-i.result (omega arith) c.index-items-i.is
    (ap (stands_before c.index-items-i.result) (sym (behind c.args.items.now c.loop-i.i)) ∙ sym c.stands_before.ensures ∙ c.if-not-stands_before.true)
    c.loop-i.invariant

pub loop-i-preserved : goal.loop-i-preserved
loop-i-preserved c =
    passes_at names_rise stands_before rise_step c.args.items.now c.loop-i.i c.index-items-i.result c.index-items-i.result (omega arith) c.index-items-i.is
    (ap (stands_before c.index-items-i.result) (sym (behind c.args.items.now c.loop-i.i)) ∙ sym c.stands_before.ensures ∙ c.if-not-stands_before.false)
    c.loop-i.invariant

pub returns : goal.returns
returns c = passes_all names_rise stands_before rise_step rise_none c.args.items.now c.loop-i.i (omega arith) c.loop-i.invariant
