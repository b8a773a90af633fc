use Rattle.std.proofs.Common.{◌≡◌, ◌^◌, ◌<◌, subst, arith}
use Rattle.std.specs.Prelude.{IfSome}
use Rattle.sim_base.specs.BitValue.{BitValue}
use Rattle.circuit.specs.Signal.{sig_value}
use Rattle.sim_base.specs.Values.{width_at}
use Rattle.signal_words.specs.Values.{digits_in}
use Rattle.cell_wide.proofs.Copied.{piece_operand}
use Rattle.cell_wide.proofs.bitwise.unary_wide.Goals as goal

pub returns-in-Some : goal.returns-in-Some
returns-in-Some c =
    let digits = digits_in c.args.nets.now in
    let cell = c.args.cell.now in
    let sig = c.as_slice-a.result.now in
    c.unary_by.ensures digits
    (piece_operand digits cell.a_signed sig cell.a c.in-Some.digits (width_at c.args.into.now c.args.out)
    (subst (λ o. IfSome o (λ (r : BitValue). r ≡ sig_value digits sig)) c.in-Some.is c.one_piece.ensures.value)
    (subst (λ o. IfSome o (λ (r : BitValue). r.number < 2 ^ r.width)) c.in-Some.is c.one_piece.ensures.below)
    (omega (arith, c.if-width-cell.true, c.width.ensures, c.requires.ready.into_width)) c.as_slice-a.ensures)
