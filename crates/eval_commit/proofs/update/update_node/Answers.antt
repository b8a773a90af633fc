use Rattle.std.proofs.Common.{sym, subst}
use Rattle.driver_check.specs.declared.parts.Node.{Node}
use Rattle.eval_commit.specs.Computed.{node_row}
use Rattle.eval_commit.specs.Marked.{ReadListed}
use Rattle.eval_commit.proofs.update.update_node.Goals as goal

pub returns-in-Cell-clause-listed : goal.returns-in-Cell-clause-listed
returns-in-Cell-clause-listed g c =
    subst (λ (m : Node). ReadListed c.args.plan.now.readers (node_row c.args.plan.now.sources m) c.args.marks.now c.update_cell.new.marks) (sym c.in-Cell.is) c.update_cell.ensures.listed

pub returns-in-Read-clause-listed : goal.returns-in-Read-clause-listed
returns-in-Read-clause-listed g c =
    subst (λ (m : Node). ReadListed c.args.plan.now.readers (node_row c.args.plan.now.sources m) c.args.marks.now c.compute_read.new.marks) (sym c.in-Read.is) c.compute_read.ensures.listed
