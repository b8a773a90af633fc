use Rattle.std.proofs.Common.{rules, arith, ◌≡◌, ◌++◌, ◌∷◌, [], true, false, ap, sym, ◌∙◌, bytes_eq, append-nil}
use Rattle.std.proofs.lemmas.Grind.{common_steps}
use Rattle.std.proofs.lemmas.List.{at_drop_all}
use Rattle.std.specs.Map.{keys_of, lookup}
use Rattle.std.specs.Option.{is_some}
use Rattle.design_parts.specs.Parts.{first_fault}
use Rattle.design_top.specs.Names.{name_checks, numbered}
use Rattle.design_top.proofs.Steps.{names_more, names_none, names_stop, numbers_more}
use Rattle.design_top.proofs.names.number_modules.Goals as goal

pub returns-then-not-branch-clause-passes : goal.returns-then-not-branch-clause-passes
returns-then-not-branch-clause-passes c =
    let m = c.index-modules-number.result in
    let there : is_some (lookup (bytes_eq m.name) c.loop-number.numbers) ≡ true = grind (arith, common_steps) in
    let e = c.loop-number.invariant.same ∙ names_stop c.loop-number.numbers c.args.modules.now c.loop-number.number m c.loop-number-test.true c.index-modules-number.is there in
    rw e (search rules)

pub loop-number-preserved : goal.loop-number-preserved
loop-number-preserved c =
    let m = c.index-modules-number.result in
    let fresh : is_some (lookup (bytes_eq m.name) c.loop-number.numbers) ≡ false = grind (arith, common_steps) in
    let added : c.add.new.self ≡ c.loop-number.numbers ++ (m.name, c.loop-number.number) ∷ [] = grind (arith, common_steps) in
    record {
      same = c.loop-number.invariant.same ∙ names_more c.loop-number.numbers c.args.modules.now c.loop-number.number m c.loop-number-test.true c.index-modules-number.is c.add.new.self added fresh;
      numbers = numbers_more c.loop-number.numbers c.args.modules.now c.loop-number.number m c.loop-number-test.true c.index-modules-number.is c.add.new.self (numbered 0 c.args.modules.now) added c.loop-number.invariant.numbers;
    }

pub returns-clause-passes : goal.returns-clause-passes
returns-clause-passes c = c.loop-number.invariant.same ∙ at_drop_all (λ ms. first_fault (name_checks (keys_of c.loop-number.numbers) ms)) c.args.modules.now c.loop-number.number c.loop-number-test.false ∙ names_none (keys_of c.loop-number.numbers)

pub returns-clause-numbers : goal.returns-clause-numbers
returns-clause-numbers c = sym (append-nil c.loop-number.numbers) ∙ ap (λ xs. c.loop-number.numbers ++ xs) (sym (at_drop_all (numbered c.loop-number.number) c.args.modules.now c.loop-number.number c.loop-number-test.false)) ∙ c.loop-number.invariant.numbers
