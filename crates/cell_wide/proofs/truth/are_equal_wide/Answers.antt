use Rattle.std.proofs.Common.{◌<◌, ◌≤◌, ◌^◌, ◌&&◌, ◌∙◌, ap, subst, arith}
use Rattle.std.specs.Prelude.{◌==◌}
use Rattle.circuit.specs.Output.{modulo, cell_inputs, left}
use Rattle.circuit.specs.Signal.{sig_number, sig_width}
use Rattle.signal_words.specs.Values.{digits_in}
use Rattle.signal_words.proofs.Signals.{are_bits}
use Rattle.cell_wide.specs.Words.{low_of_operand}
use Rattle.cell_wide.proofs.Truths.{operands_equal}
use Rattle.cell_wide.proofs.truth.are_equal_wide.Goals as goal

pub returns : goal.returns
returns c =
    let digits = digits_in c.args.nets.now in
    let cell = c.args.cell.now in
    let m = c.max-width.result in
    let a : sig_number digits cell.a < 2 ^ sig_width cell.a = subst (λ sig. sig_number digits sig < 2 ^ sig_width sig) c.as_slice-a.ensures (c.sig_width.ensures.below (digits_in c.args.nets.now) (are_bits c.args.nets.now)) in
    let b : sig_number digits cell.b < 2 ^ sig_width cell.b = subst (λ sig. sig_number digits sig < 2 ^ sig_width sig) c.as_slice-b.ensures (c.sig_width-2.ensures.below (digits_in c.args.nets.now) (are_bits c.args.nets.now)) in
    let la : sig_width cell.a ≤ m = omega (arith, c.max-width.ensures, c.sig_width.ensures.value ∙ ap sig_width c.as_slice-a.ensures) in
    let lb : sig_width cell.b ≤ m = omega (arith, c.max-width.ensures, c.sig_width-2.ensures.value ∙ ap sig_width c.as_slice-b.ensures) in
    c.same.ensures
    ∙ ap (λ x. (x == low_of_operand c.operands-one.result.1.low c.operands-one.result.1.left c.operands-one.result.1.high.ones m)) (c.operands-one.ensures.one m)
    ∙ ap (λ x. (modulo m (left (cell_inputs digits cell)) == x)) (c.operands-one.ensures.other m)
    ∙ operands_equal (cell.a_signed && cell.b_signed) (sig_width cell.a) (sig_width cell.b) m (sig_number digits cell.a) (sig_number digits cell.b) a b la lb
