use Rattle.std.proofs.Common.{arith, refl, true, false, ◌==◌, get_or}
use Rattle.circuit.specs.Valid.{numbers_differ}
use Rattle.circuit.proofs.Tested.{none_behind, fails_at, passes_at, passes_all, differs, numbers_step, numbers_none}
use Rattle.circuit.proofs.validity.items.numbers_differ.Goals as goal

pub returns-then-has_number : goal.returns-then-has_number
returns-then-has_number c =
    fails_at numbers_differ differs numbers_step c.args.numbers.now c.loop-i.i 0 (get_or c.args.numbers.now c.loop-i.i 0) (omega arith) refl
    (none_behind (λ other. other == get_or c.args.numbers.now c.loop-i.i 0) c.args.numbers.now c.loop-i.i c.has_number.result true c.has_number.ensures c.if-has_number.true)
    c.loop-i.invariant

pub loop-i-preserved : goal.loop-i-preserved
loop-i-preserved c =
    passes_at numbers_differ differs numbers_step c.args.numbers.now c.loop-i.i 0 (get_or c.args.numbers.now c.loop-i.i 0) (omega arith) refl
    (none_behind (λ other. other == get_or c.args.numbers.now c.loop-i.i 0) c.args.numbers.now c.loop-i.i c.has_number.result false c.has_number.ensures c.if-has_number.false)
    c.loop-i.invariant

pub returns : goal.returns
returns c = passes_all numbers_differ differs numbers_step numbers_none c.args.numbers.now c.loop-i.i (omega arith) c.loop-i.invariant
