use Rattle.std.proofs.Common.{ℕ, ◌≡◌, ◌/◌, ◌+◌, replicate, ap, ◌∙◌}
use Rattle.std.proofs.lemmas.List.{length-replicate}
use Rattle.std.proofs.lemmas.Nat.{pow_pos}
use Rattle.sim_base.specs.BitValue.{number_of_words, BitValue}
use Rattle.sim_base.proofs.Words.{number_of_zeros, fit_zeros}
use Rattle.sim_base.proofs.bits.Bits.zero.Goals as goal

zeros : (c : goal.In_ok-words) → c.in_ok-words.words.items ≡ replicate {A = ℕ} ((c.args.width + 63) / 64) 0
zeros c = c.in_ok-words.ensures.items_if_clones_equal (λ y e. e)

pub invariant_of-result : goal.invariant_of-result
invariant_of-result c =
    rw (zeros c)
    (length-replicate {A = ℕ} ((c.args.width + 63) / 64) 0, rw (number_of_zeros ((c.args.width + 63) / 64)) (pow_pos c.args.width), fit_zeros ((c.args.width + 63) / 64))

pub returns : goal.returns
returns c =
    let e : number_of_words c.in_ok-words.words.items ≡ 0 = ap number_of_words (zeros c) ∙ number_of_zeros ((c.args.width + 63) / 64) in
    let f : ℕ → BitValue = λ n. record { width = c.args.width; number = n } in
    ap f e
