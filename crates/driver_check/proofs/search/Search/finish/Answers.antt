use Rattle.std.proofs.Common.{ℕ, List, set, sym, subst, length-set}
use Rattle.driver_check.specs.Invariants.{IsSearch}
use Rattle.driver_check.specs.declared.search.Mark.TheVariants as mark
use Rattle.driver_check.proofs.Steps.{finished, newer_set}
use Rattle.driver_check.proofs.Turns.{turns_off}
use Rattle.driver_check.proofs.search.Search.finish.Goals as goal

pub returns-in_err-push-clause-newer : goal.returns-in_err-push-clause-newer
returns-in_err-push-clause-newer c = newer_set c.args.self.now.marks.items c.args.frame.vertex mark.Done (λ e. cc e)

pub returns-clause-newer : goal.returns-clause-newer
returns-clause-newer c = newer_set c.args.self.now.marks.items c.args.frame.vertex mark.Done (λ e. cc e)

pub returns-clause-search : goal.returns-clause-search
returns-clause-search c = λ rows was all.
    let h = c.in_ok-push.ensures.items in
    subst (λ (order : List ℕ). IsSearch rows (set c.args.self.now.marks.items c.args.frame.vertex mark.Done) order c.args.self.now.stack.items) (sym h)
    (finished rows c.args.self.now.marks.items c.args.self.now.order.items c.args.self.now.stack.items c.args.frame was all)

pub returns-clause-turns : goal.returns-clause-turns
returns-clause-turns c = λ rows.
    let marks = c.args.self.now.marks.items in
    let v = c.args.frame.vertex in
    turns_off rows marks (set marks v mark.Done) c.args.self.now.stack.items c.args.frame (length-set marks v mark.Done) (newer_set marks v mark.Done (λ e. cc e))
