use Rattle.std.proofs.Common.{◌++◌, ◌∷◌, [], ◌+◌, drop, sym, ◌∙◌, ap, append_assoc, arith}
use Rattle.std.proofs.lemmas.List.{drop_more, drop_all, append-nil}
use Rattle.flat_stimulus.specs.Text.{columns_among}
use Rattle.flat_stimulus.proofs.Columns.{among_cons, among_none}
use Rattle.flat_stimulus.proofs.column.columns_of.Goals as goal

pub loop-item-preserved : goal.loop-item-preserved
loop-item-preserved c =
    c.loop-item.invariant
    ∙ ap (λ rest. c.loop-item.columns.items ++ columns_among c.args.circuit.now rest) (drop_more c.as_slice-item-items.result.now c.loop-item.item-index c.item-item.result c.loop-item-test.true)
    ∙ ap (λ i. c.loop-item.columns.items ++ columns_among c.args.circuit.now (i ∷ drop (c.loop-item.item-index + 1) c.as_slice-item-items.result.now)) (sym c.item-item.is)
    ∙ ap (λ columns. c.loop-item.columns.items ++ columns) (among_cons c.args.circuit.now c.item-item.result (drop (c.loop-item.item-index + 1) c.as_slice-item-items.result.now))
    ∙ sym (append_assoc c.loop-item.columns.items (columns_among c.args.circuit.now (c.item-item.result ∷ [])) (columns_among c.args.circuit.now (drop (c.loop-item.item-index + 1) c.as_slice-item-items.result.now)))
    ∙ ap (λ columns. columns ++ columns_among c.args.circuit.now (drop (c.loop-item.item-index + 1) c.as_slice-item-items.result.now)) (sym c.in_ok-push_column.ensures)

pub returns-clause-ok : goal.returns-clause-ok
returns-clause-ok c =
    sym (ap (columns_among c.args.circuit.now) (sym c.as_slice-item-items.ensures)
    ∙ c.loop-item.invariant
    ∙ ap (λ rest. c.loop-item.columns.items ++ columns_among c.args.circuit.now rest) (drop_all c.loop-item.item-index c.as_slice-item-items.result.now (omega (arith, c.loop-item-test.false)))
    ∙ ap (λ columns. c.loop-item.columns.items ++ columns) (among_none c.args.circuit.now)
    ∙ append-nil c.loop-item.columns.items)
