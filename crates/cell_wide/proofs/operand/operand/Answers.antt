use Rattle.std.proofs.Common.{◌≡◌, ◌-◌, ◌&&◌, ◌∙◌, ap, arith}
use Rattle.std.specs.Int.{bit_at}
use Rattle.std.specs.Prelude.{◌==◌}
use Rattle.sim_base.specs.BitValue.{BitValue, digit_of}
use Rattle.circuit.specs.Signal.{sig_number, sig_width}
use Rattle.signal_words.specs.Values.{digits_in}
use Rattle.signal_words.proofs.Signals.{are_bits}
use Rattle.cell_wide.specs.Words.{low_of_chain, low_of_fill, low_of_number, low_of_operand}
use Rattle.cell_wide.proofs.Operands.{operand_low, sign_is, no_sign}
use Rattle.cell_wide.proofs.operand.operand.Goals as goal
use Rattle.cell_wide.proofs.operand.operand.Goals.{then-signed, else-signed}

pub returns : goal.returns
returns c w =
    let number = sig_number (digits_in c.args.nets.now) c.args.sig.now in
    let sign : c.if-signed.ones ≡ (c.args.signed && (bit_at number (sig_width c.args.sig.now - 1) == 1)) =
    elim c.if-signed.branch [
      | then-signed w ↦ sign_is c.args.signed c.if-signed.ones number (sig_width c.args.sig.now - 1) w.saturating_sub.result w.if-signed.true (ap digit_of w.ones-is ∙ w.sig_bit-ones.ensures) (omega (arith, w.saturating_sub.ensures, c.sig_width-width.ensures.value))
      | else-signed w ↦ no_sign c.args.signed c.if-signed.ones number (sig_width c.args.sig.now - 1) w.if-signed.false (w.ones-is ∙ w.if-signed.false)
    ] in
    ap (λ (v : BitValue). low_of_operand v c.sig_width-width.result c.if-signed.ones w) c.new.ensures
    ∙ ap (λ k. low_of_chain (low_of_number number) k (low_of_fill c.if-signed.ones) w) c.sig_width-width.ensures.value
    ∙ operand_low c.args.signed c.if-signed.ones number (sig_width c.args.sig.now) w (c.sig_width-width.ensures.below (digits_in c.args.nets.now) (are_bits c.args.nets.now)) sign
