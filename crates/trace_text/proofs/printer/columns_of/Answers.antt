use Rattle.std.proofs.Common.{◌+◌, ◌++◌, refl, sym, ◌∙◌, ap}
use Rattle.std.proofs.lemmas.List.{drop_all}
use Rattle.trace_text.specs.Columns.{columns_from}
use Rattle.trace_text.proofs.Columns.{all_columns, next_columns}
use Rattle.trace_text.proofs.printer.columns_of.Goals as goal

pub loop-item-preserved : goal.loop-item-preserved
loop-item-preserved c =
    next_columns c.args.circuit.now.nets c.args.circuit.now.mems _ c.loop-item.columns.items c.push_column.new.columns.items c.loop-item.place c.in-Some.behind c.loop-item.item-index c.as_slice-item-items.result.now c.item-item.result c.item-item.result.kind
    c.loop-item-test.true c.item-item.is refl c.loop-item.invariant c.in_ok-push_column.ensures ((c.in-Some.ensures).1 ∙ ap (λ n. c.loop-item.place + n) c.words_of.ensures)

pub returns : goal.returns
returns c =
    let items = c.as_slice-item-items.result.now in
    let none = drop_all c.loop-item.item-index items c.loop-item-test.false in
    all_columns c.args.circuit.now.nets c.args.circuit.now.mems c.loop-item.columns.items _ c.loop-item.place
    (ap (λ is. c.loop-item.columns.items ++ columns_from c.args.circuit.now.nets c.args.circuit.now.mems c.loop-item.place is) (sym none) ∙ c.loop-item.invariant)
