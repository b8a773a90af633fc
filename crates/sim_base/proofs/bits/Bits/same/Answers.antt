use Rattle.std.proofs.Common.{arith, ◌≡◌, ◌∙◌, ap, sym}
use lib.Pointwise.{bytes_decides}
use Rattle.sim_base.specs.BitValue.{number_of_words, BitValue}
use Rattle.sim_base.proofs.Words.{same_words}
use Rattle.sim_base.proofs.bits.Bits.same.Goals as goal

pub returns-then-self-other : goal.returns-then-self-other
returns-then-self-other c =
    let d = bytes_decides c.self.inside.words.items c.other.inside.words.items in (
      λ t. let e : c.self.inside.words.items ≡ c.other.inside.words.items = d.0 (sym c.eq.ensures ∙ t) in
          let n : number_of_words c.self.inside.words.items ≡ number_of_words c.other.inside.words.items = ap number_of_words e in
          let v : BitValue = record { width = c.self.inside.width; number = number_of_words c.self.inside.words.items } in
          sym c.self.view_is ∙ cc (n, c.if-self-other.true) ∙ c.other.view_is,
      λ e. let same = c.self.view_is ∙ e ∙ sym c.other.view_is in
          let n : number_of_words c.self.inside.words.items ≡ number_of_words c.other.inside.words.items = ap (λ v. v.number) same in
          c.eq.ensures ∙ d.1 (same_words _ _ c.self.invariant.2 c.other.invariant.2 (omega (arith, c.self.invariant.0, c.other.invariant.0, c.if-self-other.true)) n),
    )
