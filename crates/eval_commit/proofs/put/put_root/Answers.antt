use Rattle.eval_commit.specs.Spread.{taken_digit}
use Rattle.eval_commit.proofs.Telling.{root_told, same_told}
use Rattle.eval_commit.proofs.put.put_root.Goals as goal

pub returns-then-put-clause-told : goal.returns-then-put-clause-told
returns-then-put-clause-told c roots table place apart at row =
    root_told roots table place c.args.root.now c.args.readers.now c.args.nets.now c.put.new.nets c.args.marks.now c.mark_all.new.marks (taken_digit c.args.from.now.number c.args.root.now) apart at row c.put.ensures.digits c.mark_all.ensures

pub returns-then-put-clause-listed : goal.returns-then-put-clause-listed
returns-then-put-clause-listed c = c.mark_all.ensures.only

pub returns-else-put-clause-told : goal.returns-else-put-clause-told
returns-else-put-clause-told c roots table place apart at row =
    same_told roots table c.args.nets.now c.put.new.nets c.args.marks.now (c.put.ensures.same c.if-put.false)
