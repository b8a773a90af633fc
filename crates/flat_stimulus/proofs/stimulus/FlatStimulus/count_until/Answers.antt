use Rattle.std.proofs.Common.{◌≡◌, ◌*◌, ◌+◌, ◌/◌, ◌%◌, ◌<◌, ◌≤◌, ap, arith, length, leb, subst, sym, ◌∙◌}
use Rattle.std.specs.List.{count_by}
use Rattle.flat_stimulus.specs.Block.{Block, row_of, sample_count}
use Rattle.flat_stimulus.specs.Until.{samples_until}
use Rattle.flat_stimulus.proofs.Until.{period_some, until_all, until_part}
use Rattle.flat_stimulus.proofs.stimulus.FlatStimulus.count_until.Goals as goal

pub nonzero_div-periods : goal.nonzero_div-periods
nonzero_div-periods c = omega (arith, c.femtoseconds-2.ensures.value, period_some _ c.self.invariant)

pub nonzero_rem-rest : goal.nonzero_rem-rest
nonzero_rem-rest c = omega (arith, c.femtoseconds-4.ensures.value, period_some _ c.self.invariant)

pub returns-then-periods-from-clause-value : goal.returns-then-periods-from-clause-value
returns-then-periods-from-clause-value c =
    let same : c.femtoseconds.result / c.femtoseconds-2.result ≡ c.args.time / c.self.inside.period =
    ap (λ t. t / c.femtoseconds-2.result) c.femtoseconds.ensures.value ∙ ap (λ p. c.args.time / p) c.femtoseconds-2.ensures.value in
    let behind : c.self.inside.repeats ≤ c.args.time / c.self.inside.period = omega (arith, same, c.from.ensures, c.if-periods-from.true) in
    c.count.ensures.value
    ∙ subst (λ (b : Block). sample_count b ≡ samples_until (row_of b) (sample_count b) c.args.time) c.self.view_is (sym (until_all _ c.args.time c.self.invariant behind))

pub returns-clause-value : goal.returns-clause-value
returns-clause-value c =
    let same : c.femtoseconds.result / c.femtoseconds-2.result ≡ c.args.time / c.self.inside.period =
    ap (λ t. t / c.femtoseconds-2.result) c.femtoseconds.ensures.value ∙ ap (λ p. c.args.time / p) c.femtoseconds-2.ensures.value in
    let rest : c.femtoseconds-3.result % c.femtoseconds-4.result ≡ c.args.time % c.self.inside.period =
    ap (λ t. t % c.femtoseconds-4.result) c.femtoseconds-3.ensures.value ∙ ap (λ p. c.args.time % p) c.femtoseconds-4.ensures.value in
    let inside : c.args.time / c.self.inside.period < c.self.inside.repeats = omega (arith, same, c.from.ensures, c.if-periods-from.false) in
    let counted : c.rows_until.result ≡ count_by (λ row. leb row.offset (c.args.time % c.self.inside.period)) c.self.inside.rows =
    c.rows_until.ensures.value ∙ ap (λ most. count_by (λ row. leb row.offset most) c.as_slice-rows.result.now) rest
    ∙ ap (λ rows. count_by (λ row. leb row.offset (c.args.time % c.self.inside.period)) rows) c.as_slice-rows.ensures in
    ap (λ p. p * length c.as_slice-rows.result.now + c.rows_until.result) same
    ∙ ap (λ rows. c.args.time / c.self.inside.period * length rows + c.rows_until.result) c.as_slice-rows.ensures
    ∙ ap (λ n. c.args.time / c.self.inside.period * length c.self.inside.rows + n) counted
    ∙ sym (until_part _ c.args.time c.self.invariant inside)
    ∙ ap (λ (b : Block). samples_until (row_of b) (sample_count b) c.args.time) c.self.view_is
