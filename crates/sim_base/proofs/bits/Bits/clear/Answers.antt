use Rattle.std.proofs.Common.{ℕ, ◌≡◌, replicate, ap, ◌∙◌}
use Rattle.std.proofs.lemmas.List.{length-replicate}
use Rattle.std.proofs.lemmas.Nat.{pow_pos}
use Rattle.std.specs.Vec.{vec_len}
use Rattle.sim_base.specs.BitValue.{number_of_words, bit_value, zeros}
use Rattle.sim_base.proofs.Words.{number_of_zeros, fit_zeros}
use Rattle.sim_base.proofs.bits.Bits.clear.Goals as goal

filled : (c : goal.After-fill) → c.fill.new.self.items ≡ replicate {A = ℕ} (vec_len c.self.inside.words) 0
filled c = c.fill.ensures.items (λ y e. e)

pub invariant_of-self : goal.invariant_of-self
invariant_of-self c =
    let l = c.self.inside.words.ok.0 in
    rw (filled c)
    (length-replicate {A = ℕ} (vec_len c.self.inside.words) 0 ∙ l ∙ c.self.invariant.0, rw (number_of_zeros (vec_len c.self.inside.words)) (pow_pos c.self.inside.width), fit_zeros (vec_len c.self.inside.words))

pub returns : goal.returns
returns c =
    let e : number_of_words c.fill.new.self.items ≡ 0 = ap number_of_words (filled c) ∙ number_of_zeros (vec_len c.self.inside.words) in
    ap (bit_value c.self.inside.width) e ∙ ap (λ v. zeros v.width) c.self.view_is
