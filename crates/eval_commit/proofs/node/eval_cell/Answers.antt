use Rattle.eval_commit.proofs.Belonging.{evaluated, fetched}
use Rattle.eval_commit.proofs.node.eval_cell.Goals as goal

pub eval-requires-clause-fits : goal.eval-requires-clause-fits
eval-requires-clause-fits g c =
    c.law_of_stores.ensures.cell c.args.circuit.now c.args.store.now c.args.n c.index-as_slice-n.result c.requires.valid c.requires.store
    (fetched c.args.circuit.now.cells c.as_slice.result.now c.args.n c.index-as_slice-n.result c.as_slice.ensures c.requires.there c.index-as_slice-n.is)

pub eval_wide-requires-clause-fits : goal.eval_wide-requires-clause-fits
eval_wide-requires-clause-fits g c =
    c.law_of_stores.ensures.cell c.args.circuit.now c.args.store.now c.args.n c.index-as_slice-n.result c.requires.valid c.requires.store
    (fetched c.args.circuit.now.cells c.as_slice.result.now c.args.n c.index-as_slice-n.result c.as_slice.ensures c.requires.there c.index-as_slice-n.is)

pub returns-then-is_word_cell-clause-store : goal.returns-then-is_word_cell-clause-store
returns-then-is_word_cell-clause-store g c =
    (evaluated c.args.circuit.now c.args.store.now c.eval.new.store c.args.n c.index-as_slice-n.result c.requires.store
    (fetched c.args.circuit.now.cells c.as_slice.result.now c.args.n c.index-as_slice-n.result c.as_slice.ensures c.requires.there c.index-as_slice-n.is) c.eval.ensures.output).belongs

pub returns-then-is_word_cell-clause-number : goal.returns-then-is_word_cell-clause-number
returns-then-is_word_cell-clause-number g c =
    (evaluated c.args.circuit.now c.args.store.now c.eval.new.store c.args.n c.index-as_slice-n.result c.requires.store
    (fetched c.args.circuit.now.cells c.as_slice.result.now c.args.n c.index-as_slice-n.result c.as_slice.ensures c.requires.there c.index-as_slice-n.is) c.eval.ensures.output).number

pub returns-else-is_word_cell-clause-store : goal.returns-else-is_word_cell-clause-store
returns-else-is_word_cell-clause-store g c =
    (evaluated c.args.circuit.now c.args.store.now c.eval_wide.new.store c.args.n c.index-as_slice-n.result c.requires.store
    (fetched c.args.circuit.now.cells c.as_slice.result.now c.args.n c.index-as_slice-n.result c.as_slice.ensures c.requires.there c.index-as_slice-n.is) c.eval_wide.ensures.output).belongs

pub returns-else-is_word_cell-clause-number : goal.returns-else-is_word_cell-clause-number
returns-else-is_word_cell-clause-number g c =
    (evaluated c.args.circuit.now c.args.store.now c.eval_wide.new.store c.args.n c.index-as_slice-n.result c.requires.store
    (fetched c.args.circuit.now.cells c.as_slice.result.now c.args.n c.index-as_slice-n.result c.as_slice.ensures c.requires.there c.index-as_slice-n.is) c.eval_wide.ensures.output).number
