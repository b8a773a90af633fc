use Rattle.std.proofs.Common.{◌++◌, ◌+◌, drop, sym, ◌∙◌, ap, arith, get_or, Some}
use Rattle.std.specs.Option.{option_map}
use Rattle.std.proofs.lemmas.List.{drop_more, drop_all, append-nil}
use Rattle.flat_stimulus.specs.Text.{numbers_of_columns}
use Rattle.flat_stimulus.proofs.Columns.{numbers_none, numbers_cons, numbers_fail}
use Rattle.flat_stimulus.proofs.Options.{front_onto, front_none}
use Rattle.flat_stimulus.proofs.column.numbers_of.Goals as goal

pub loop-net-init : goal.loop-net-init
loop-net-init c = sym (ap (λ xs. option_map (λ more. xs ++ more) (numbers_of_columns c.args.columns.now c.args.nets.now)) c.new-numbers.ensures.items ∙ front_none (numbers_of_columns c.args.columns.now c.args.nets.now))

pub loop-net-preserved : goal.loop-net-preserved
loop-net-preserved c =
    c.loop-net.invariant
    ∙ ap (λ rest. option_map (λ more. c.loop-net.numbers.items ++ more) (numbers_of_columns c.args.columns.now rest)) (drop_more c.args.nets.now c.loop-net.net-index 0 c.loop-net-test.true)
    ∙ ap (option_map (λ more. c.loop-net.numbers.items ++ more)) (numbers_cons c.args.columns.now (get_or c.args.nets.now c.loop-net.net-index 0) (drop (c.loop-net.net-index + 1) c.args.nets.now) c.in-Some.number (sym c.in-Some.ensures))
    ∙ front_onto c.loop-net.numbers.items c.in-Some.number (numbers_of_columns c.args.columns.now (drop (c.loop-net.net-index + 1) c.args.nets.now))
    ∙ ap (λ xs. option_map (λ more. xs ++ more) (numbers_of_columns c.args.columns.now (drop (c.loop-net.net-index + 1) c.args.nets.now))) (sym c.in_ok-push-in-Some.ensures.items)

pub returns-in-None-clause-not_built : goal.returns-in-None-clause-not_built
returns-in-None-clause-not_built c same =
    c.loop-net.invariant
    ∙ ap (λ rest. option_map (λ more. c.loop-net.numbers.items ++ more) (numbers_of_columns c.args.columns.now rest)) (drop_more c.args.nets.now c.loop-net.net-index 0 c.loop-net-test.true)
    ∙ ap (option_map (λ more. c.loop-net.numbers.items ++ more)) (numbers_fail c.args.columns.now (get_or c.args.nets.now c.loop-net.net-index 0) (drop (c.loop-net.net-index + 1) c.args.nets.now) (sym c.in-None.ensures))

pub returns-clause-ok : goal.returns-clause-ok
returns-clause-ok c =
    c.loop-net.invariant
    ∙ ap (λ rest. option_map (λ more. c.loop-net.numbers.items ++ more) (numbers_of_columns c.args.columns.now rest)) (drop_all c.loop-net.net-index c.args.nets.now (omega (arith, c.loop-net-test.false)))
    ∙ ap (option_map (λ more. c.loop-net.numbers.items ++ more)) (numbers_none c.args.columns.now)
    ∙ ap (λ xs. Some xs) (append-nil c.loop-net.numbers.items)
