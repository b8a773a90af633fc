use Rattle.std.proofs.Common.{◌≡◌, ◌<◌, ◌++◌, [], ◌+◌, drop, map, length, sym, ◌∙◌, ap, arith, Some, Err}
use Rattle.flat_text.specs.declared.fault.FlatFault.{FlatFault as fault}
use Rattle.std.specs.Option.{option_map}
use Rattle.flat_stimulus.specs.Text.{values_of}
use Rattle.flat_stimulus.proofs.Values.{values_end, values_step, values_stop, values_unequal}
use Rattle.std.proofs.lemmas.List.{length-map}
use Rattle.flat_stimulus.proofs.row.read_values.Goals as goal

pub returns-then-words-columns-clause-not_built : goal.returns-then-words-columns-clause-not_built
returns-then-words-columns-clause-not_built c same =
    values_unequal c.args.columns.now _ (λ e. c.if-words-columns.true (sym (e ∙ length-map c.args.words.now (λ x. x.now))))

pub returns-in-Err-clause-not_built : goal.returns-in-Err-clause-not_built
returns-in-Err-clause-not_built c same =
    let words_left : c.loop-i.i < length c.args.words.now = omega (arith, c.loop-i-test.true, c.if-words-columns.false) in
    values_stop c.args.columns.now c.args.words.now c.loop-i.values.items c.loop-i.i c.index-columns-i.result (record { ref_ptr = (0, 0); now = [] }) c.loop-i.invariant c.loop-i-test.true words_left (c.in-Err.ensures.not_built (ap Err (let e : c.in-Err.fault ≡ fault.NotBuilt = cc same in e)))

pub loop-i-preserved : goal.loop-i-preserved
loop-i-preserved c =
    let words_left : c.loop-i.i < length c.args.words.now = omega (arith, c.loop-i-test.true, c.if-words-columns.false) in
    values_step c.args.columns.now c.args.words.now c.loop-i.values.items c.loop-i.i c.index-columns-i.result (record { ref_ptr = (0, 0); now = [] }) c.loop-i.invariant c.loop-i-test.true words_left c.in-Ok.value c.in-Ok.ensures.ok
    ∙ ap (λ xs. option_map (λ more. xs ++ more) (values_of (drop (c.loop-i.i + 1) c.args.columns.now) (map (λ x. x.now) (drop (c.loop-i.i + 1) c.args.words.now)))) (sym c.in_ok-push-in-Ok.ensures.items)

pub returns-clause-ok : goal.returns-clause-ok
returns-clause-ok c =
    values_end c.args.columns.now c.args.words.now c.loop-i.values.items c.loop-i.i c.loop-i.invariant (omega (arith, c.loop-i-test.false)) (omega (arith, c.loop-i-test.false, c.if-words-columns.false))
    ∙ ap (λ xs. Some xs) (sym c.from_vec.ensures)
