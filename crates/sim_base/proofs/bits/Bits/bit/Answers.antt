use Rattle.std.proofs.Common.{arith, ◌≡◌, ◌∙◌, ap}
use Rattle.std.specs.Int.{bit_at}
use Rattle.sim_base.proofs.Words.{digit_read}
use Rattle.sim_base.proofs.bits.Bits.bit.Goals as goal

pub returns : goal.returns
returns c =
    let w : c.self.inside.width ≡ c.args.self.now.width = ap (λ v. v.width) c.self.view_is in
    digit_read c.self.inside.words.items c.args.i c.index.result.now c.self.invariant.2 (omega (arith, c.self.invariant.0)) c.index.ensures
    ∙ ap (λ v. bit_at v.number c.args.i) c.self.view_is
