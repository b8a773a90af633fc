use Rattle.std.proofs.Common.{arith, ℕ, ◌≡◌, ◌≤◌, List, length, sym, ◌∙◌, ap}
use Rattle.sim_base.specs.BitValue.{number_of_words}
use Rattle.sim_base.proofs.Field.{number_of_first}
use Rattle.sim_base.proofs.bits.Bits.word.Goals as goal

pub returns-in-Some : goal.returns-in-Some
returns-in-Some c =
    let w : c.self.inside.width ≡ c.args.self.now.width = ap (λ v. v.width) c.self.view_is in
    let is : c.deref.result.now ≡ c.self.inside.words.items = c.deref.ensures.value in
    let short : length c.deref.result.now ≤ 1 = omega (arith, w, ap (λ (ws : List ℕ). length ws) is, c.self.invariant.0, c.requires) in
    sym (number_of_first c.deref.result.now c.in-Some.word.now short c.in-Some.ensures.item.3.0 (c.in-Some.ensures.item.3.1 0)) ∙ ap number_of_words is ∙ ap (λ v. v.number) c.self.view_is
