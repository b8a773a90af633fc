use Rattle.std.proofs.Common.{◌≡◌, ◌++◌, [], ◌+◌, drop, map, sym, ◌∙◌, ap, arith, Some, Err}
use Rattle.flat_text.specs.declared.fault.FlatFault.{FlatFault as fault}
use Rattle.std.specs.Option.{option_map}
use Rattle.flat_stimulus.specs.Text.{rows_in}
use Rattle.flat_stimulus.proofs.Values.{rows_end, rows_step, rows_stop}
use Rattle.flat_stimulus.proofs.row.read_rows.Goals as goal

pub returns-in-Err-clause-not_built : goal.returns-in-Err-clause-not_built
returns-in-Err-clause-not_built c same =
    rows_stop c.args.columns.now c.args.period c.loop-line.least c.args.lines.now c.loop-line.rows.items c.loop-line.line-index (record { ref_ptr = (0, 0); now = [] }) c.loop-line.invariant c.loop-line-test.true (c.in-Err.ensures.not_built (ap Err (let e : c.in-Err.fault ≡ fault.NotBuilt = cc same in e)))

pub loop-line-preserved : goal.loop-line-preserved
loop-line-preserved c =
    rows_step c.args.columns.now c.args.period c.loop-line.least c.args.lines.now c.loop-line.rows.items c.loop-line.line-index (record { ref_ptr = (0, 0); now = [] }) c.loop-line.invariant c.loop-line-test.true c.in-Ok.row c.in-Ok.ensures.ok
    ∙ ap (λ xs. option_map (λ more. xs ++ more) (rows_in c.args.columns.now c.args.period (c.in-Ok.row.offset + 1) (map (λ x. x.now) (drop (c.loop-line.line-index + 1) c.args.lines.now)))) (sym c.in_ok-push-in-Ok.ensures.items)
    ∙ ap (λ least. option_map (λ more. c.push.new.self.items ++ more) (rows_in c.args.columns.now c.args.period least (map (λ x. x.now) (drop (c.loop-line.line-index + 1) c.args.lines.now)))) (ap (λ n. n + 1) (sym c.femtoseconds-least.ensures.value))

pub returns-clause-ok : goal.returns-clause-ok
returns-clause-ok c =
    rows_end c.args.columns.now c.args.period c.loop-line.least c.args.lines.now c.loop-line.rows.items c.loop-line.line-index (record { ref_ptr = (0, 0); now = [] }) c.loop-line.invariant (omega (arith, c.loop-line-test.false))
    ∙ ap (λ xs. Some xs) (sym c.from_vec.ensures)
