use Rattle.std.proofs.Common.{◌≡◌, ◌&&◌, ◌^◌, ◌<◌, subst, arith}
use Rattle.std.specs.Prelude.{IfSome}
use Rattle.sim_base.specs.BitValue.{BitValue}
use Rattle.circuit.specs.Signal.{sig_value}
use Rattle.sim_base.specs.Values.{width_at}
use Rattle.signal_words.specs.Values.{digits_in}
use Rattle.cell_wide.proofs.Copied.{piece_operand}
use Rattle.cell_wide.proofs.bitwise.bitwise_wide.Goals as goal

pub returns-then-width-cell-2 : goal.returns-then-width-cell-2
returns-then-width-cell-2 c =
    let digits = digits_in c.args.nets.now in
    let cell = c.args.cell.now in
    let signed = cell.a_signed && cell.b_signed in
    let one = c.as_slice.result.now in
    let other = c.as_slice-in-Some.result.now in
    c.bitwise_by.ensures digits
    (piece_operand digits signed one cell.a c.in-Some.a (width_at c.args.into.now c.args.out)
    (subst (λ o. IfSome o (λ (r : BitValue). r ≡ sig_value digits one)) c.in-Some.is c.one_piece.ensures.value)
    (subst (λ o. IfSome o (λ (r : BitValue). r.number < 2 ^ r.width)) c.in-Some.is c.one_piece.ensures.below)
    (omega (arith, c.if-width-cell.true, c.width.ensures, c.requires.ready.into_width)) c.as_slice.ensures)
    (piece_operand digits signed other cell.b c.in-Some-one_piece.b (width_at c.args.into.now c.args.out)
    (subst (λ o. IfSome o (λ (r : BitValue). r ≡ sig_value digits other)) c.in-Some-one_piece.is c.one_piece-in-Some.ensures.value)
    (subst (λ o. IfSome o (λ (r : BitValue). r.number < 2 ^ r.width)) c.in-Some-one_piece.is c.one_piece-in-Some.ensures.below)
    (omega (arith, c.if-width-cell-2.true, c.width-then-width-cell.ensures, c.requires.ready.into_width)) c.as_slice-in-Some.ensures)
