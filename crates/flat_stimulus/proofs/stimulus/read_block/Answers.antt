use Rattle.std.proofs.Common.{List, map, sym, ◌∙◌, ap, subst, refl}
use Rattle.flat_stimulus.specs.Text.{AreWordColumns, numbers_of_columns}
use Rattle.flat_stimulus.specs.declared.column.Column.{Column}
use Rattle.flat_stimulus.proofs.Facts.{columns_long, columns_words, map_ok, numbers_good, rows_good, samples_below, values_there}
use Rattle.flat_stimulus.proofs.stimulus.read_block.Goals as goal
use Rattle.flat_stimulus.proofs.stimulus.read_block.Goals.{In_ok-numbers}

pub read_rows-requires : goal.read_rows-requires
read_rows-requires c = subst (λ (cs : List Column). AreWordColumns cs) (sym c.requires.columns) (columns_words c.args.circuit.now c.requires.flat)

pub limit-requires-clause-before : goal.limit-requires-clause-before
limit-requires-clause-before c i row at = (rows_good c.args.columns.now c.in_ok-repeats.period 0 (map (λ x. x.now) c.args.lines.now) c.in_ok-rows.rows c.in_ok-rows.ensures.ok i row at).before

pub limit-requires-clause-values : goal.limit-requires-clause-values
limit-requires-clause-values c =
    values_there c.args.columns.now c.in_ok-repeats.period c.in_ok-rows.rows c.args.circuit.now.inputs c.in_ok-numbers.numbers.items c.from_vec.result
    (rows_good c.args.columns.now c.in_ok-repeats.period 0 (map (λ x. x.now) c.args.lines.now) c.in_ok-rows.rows c.in_ok-rows.ensures.ok)
    (numbers_good c.args.columns.now c.args.circuit.now.inputs c.in_ok-numbers.numbers.items (ap (numbers_of_columns c.args.columns.now) (sym c.as_slice.ensures) ∙ c.in_ok-numbers.ensures.ok))
    c.from_vec.ensures

pub returns-clause-columns : goal.returns-clause-columns
returns-clause-columns c =
    map_ok c.limit.result _ _
    (λ s l.
    columns_long c.args.columns.now c.args.circuit.now.inputs c.in_ok-numbers.numbers.items c.from_vec.result (record { repeats = c.in_ok-repeats.repeats; period = c.in_ok-repeats.period; rows = c.in_ok-rows.rows; columns = c.from_vec.result }) s
    (numbers_good c.args.columns.now c.args.circuit.now.inputs c.in_ok-numbers.numbers.items (ap (numbers_of_columns c.args.columns.now) (sym c.as_slice.ensures) ∙ c.in_ok-numbers.ensures.ok))
    c.from_vec.ensures refl l)
    c.limit.ensures.ok

pub returns-clause-widths : goal.returns-clause-widths
returns-clause-widths c =
    map_ok c.limit.result _ _
    (λ s l.
    samples_below c.args.circuit.now c.args.columns.now c.in_ok-numbers.numbers.items c.from_vec.result (record { repeats = c.in_ok-repeats.repeats; period = c.in_ok-repeats.period; rows = c.in_ok-rows.rows; columns = c.from_vec.result }) s
    c.requires.columns
    (rows_good c.args.columns.now c.in_ok-repeats.period 0 (map (λ x. x.now) c.args.lines.now) c.in_ok-rows.rows c.in_ok-rows.ensures.ok)
    (numbers_good c.args.columns.now c.args.circuit.now.inputs c.in_ok-numbers.numbers.items (ap (numbers_of_columns c.args.columns.now) (sym c.as_slice.ensures) ∙ c.in_ok-numbers.ensures.ok))
    c.from_vec.ensures refl l)
    c.limit.ensures.ok
