use Rattle.std.proofs.Common.{◌≡◌, ◌≢◌, ◌<◌, ◌^◌, ◌∙◌, ap, subst, sym, arith, refl}
use Rattle.sim_base.specs.BitValue.{BitValue}
use Rattle.sim_base.proofs.Field.{number_of_first}
use Rattle.sim_base.proofs.view.BitsView.word.Goals as goal

width_is : (c : goal.After-result-1) → c.self.inside.width ≡ c.args.self.now.width
width_is c = ap (λ (v : BitValue). v.width) c.self.view_is

below : (c : goal.After-result-1) → c.args.self.now.number < 2 ^ c.args.self.now.width
below c = subst (λ (v : BitValue). v.number < 2 ^ v.width) c.self.view_is c.self.invariant.1

pub returns-else-self-eq0-clause-value : goal.returns-else-self-eq0-clause-value
returns-else-self-eq0-clause-value c =
    let ne : c.self.inside.width ≢ 0 = c.if-self-eq0.false in
    sym (number_of_first c.self.inside.words.now _ (omega (arith, c.self.invariant.0, width_is c, c.requires)) (omega (arith, c.self.invariant.0, ne)) refl)
    ∙ ap (λ (v : BitValue). v.number) c.self.view_is

pub returns-else-self-eq0-clause-below : goal.returns-else-self-eq0-clause-below
returns-else-self-eq0-clause-below c = subst (λ m. m < 2 ^ c.args.self.now.width) (sym (returns-else-self-eq0-clause-value c)) (below c)
