use Rattle.std.proofs.Common.{◌≡◌, ◌∙◌, arith}
use Rattle.driver_check.proofs.Numbered.{bit_below}
use Rattle.driver_check.proofs.rows.bit_rows.Goals as goal

pub returns : goal.returns
returns c =
    let end : c.loop-number.number ≡ c.args.numbering.now.bits = omega arith in (
      c.loop-number.invariant.long ∙ end,
      λ x bit.
          let h = bit_below c.args.circuit.now.nets x bit in
          c.loop-number.invariant.bit x bit (omega (arith, h, end, c.requires.numbers.total)),
    )
