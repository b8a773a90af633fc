use Rattle.std.proofs.Common.{◌≡◌, ◌≢◌, ◌-◌, ◌*◌, ◌%◌, ◌^◌, ◌∙◌, ap, sym, arith, bit_and, bit_or, w64}
use Rattle.std.proofs.lemmas.Nat.{and_mask, one_shl}
use Rattle.std.specs.Int.{bit_at, bit_not}
use Rattle.sim_base.proofs.Copies.{merged_digit}
use Rattle.sim_base.proofs.bits.merged.Goals as goal
use Rattle.sim_base.proofs.bits.merged.Goals.{then-n-eq64, else-n-eq64}

pub returns : goal.returns
returns c j lt =
    let ones : c.if-n-eq64.ones ≡ 2 ^ c.args.n - 1 = elim c.if-n-eq64.branch [
      | then-n-eq64 w ↦ w.ones-is ∙ sym (ap (λ n. 2 ^ n - 1) w.if-n-eq64.true)
      | else-n-eq64 w ↦ (let ne : c.args.n ≢ 64 = w.if-n-eq64.false in w.ones-is ∙ ap (λ m. m - 1) (one_shl c.args.n 64 (omega (arith, c.requires.inside, ne))))
    ] in
    ap (λ o. bit_at (bit_or (bit_and c.args.word (bit_not w64 (o * 2 ^ c.args.off % 2 ^ 64))) (bit_and c.args.v o * 2 ^ c.args.off % 2 ^ 64)) j) ones
    ∙ ap (λ p. bit_at (bit_or (bit_and c.args.word (bit_not w64 ((2 ^ c.args.n - 1) * 2 ^ c.args.off % 2 ^ 64))) (p * 2 ^ c.args.off % 2 ^ 64)) j) (and_mask c.args.v c.args.n)
    ∙ merged_digit c.args.word c.args.off c.args.n c.args.v j c.requires.inside lt
