use Rattle.std.proofs.Common.{◌+◌, ◌*◌, ◌/◌, ◌%◌, ◌^◌, ◌<◌, sym, ◌∙◌, ap, subst, arith}
use Rattle.sim_base.specs.BitValue.{BitValue}
use Rattle.circuit.specs.Signal.{sig_number}
use Rattle.signal_words.specs.Values.{digits_in}
use Rattle.signal_words.proofs.Numbers.{IsRead, none_read}
use Rattle.signal_words.proofs.Signals.{are_bits, inside_first}
use Rattle.signal_words.proofs.Steps.{IsTaken, part_fits, read_inside, read_behind, taken_whole, taken_end}
use Rattle.signal_words.proofs.reader.SigReader.take_across.Goals as goal
use Rattle.signal_words.proofs.reader.SigReader.take_across.Goals.{else-loop-taken-test, then-loop-taken-test+in_default}

pub loop-taken-init : goal.loop-taken-init
loop-taken-init c = record {
  place = c.self.invariant;
  most = omega arith;
  wide = ap (λ (v : BitValue). v.width) (sym c.self.view_is) ∙ omega arith;
  read = subst (λ (v : BitValue). IsRead v.number (sig_number (digits_in c.self.inside.nets.now) c.self.inside.pieces.now / 2 ^ c.self.inside.at) 0 0) c.self.view_is (none_read (sig_number (digits_in c.self.inside.nets.now) c.self.inside.pieces.now / 2 ^ c.self.inside.at));
}

pub piece_field-requires-clause-inside : goal.piece_field-requires-clause-inside
piece_field-requires-clause-inside c =
    inside_first c.self.inside.nets.now c.loop-taken.pieces.now c.in-Some.piece.now c.in-Some.behind.now c.loop-taken.at c.in-Some.ensures.cases.0 c.loop-taken.invariant.place.inside

pub overflow_add-word : goal.overflow_add-word
overflow_add-word c =
    let f : c.loop-taken.word + c.piece_field.result * 2 ^ c.loop-taken.taken % 2 ^ 64 < 2 ^ 64 =
    part_fits c.self.inside.nets.now c.loop-taken.pieces.now c.in-Some.piece.now c.in-Some.behind.now c.loop-taken.at c.args.n c.args.self.now.width c.args.self.now.number c.loop-taken.word c.loop-taken.taken c.min-width.result c.piece_field.result
    c.in-Some.ensures.cases.0 c.loop-taken.invariant (record { small = c.requires; wide = omega (arith, c.min-width.ensures, c.width.ensures.value); field = c.piece_field.ensures }) in
    omega (arith, f)

pub loop-taken-preserved-then-width-left : goal.loop-taken-preserved-then-width-left
loop-taken-preserved-then-width-left c =
    read_inside c.self.inside.nets.now c.loop-taken.pieces.now c.in-Some.piece.now c.in-Some.behind.now c.loop-taken.at c.args.n c.args.self.now.width c.args.self.now.number c.loop-taken.word c.loop-taken.taken c.min-width.result c.piece_field.result
    c.in-Some.ensures.cases.0 c.loop-taken.invariant (record { small = c.requires; wide = omega (arith, c.min-width.ensures, c.width.ensures.value); field = c.piece_field.ensures })

pub loop-taken-preserved : goal.loop-taken-preserved
loop-taken-preserved c =
    read_behind c.self.inside.nets.now c.loop-taken.pieces.now c.in-Some.piece.now c.in-Some.behind.now c.loop-taken.at c.args.n c.args.self.now.width c.args.self.now.number c.loop-taken.word c.loop-taken.taken c.min-width.result c.piece_field.result
    c.in-Some.ensures.cases.0 c.loop-taken.invariant (record { small = c.requires; wide = omega (arith, c.min-width.ensures, c.width.ensures.value); field = c.piece_field.ensures }) (c.width.ensures.below (digits_in c.self.inside.nets.now) (are_bits c.self.inside.nets.now)) (omega (arith, c.min-width.ensures, c.width.ensures.value, c.if-width-left.false))

taken : (c : goal.After-self-1) → IsTaken c.self.inside.nets.now c.loop-taken.pieces.now c.loop-taken.at c.args.n c.args.self.now.width c.args.self.now.number c.loop-taken.word
taken c = elim c.loop-taken-test.branch [
  | else-loop-taken-test w ↦ taken_whole c.self.inside.nets.now c.loop-taken.pieces.now c.loop-taken.at c.args.n c.args.self.now.width c.args.self.now.number c.loop-taken.word c.loop-taken.taken c.loop-taken.invariant w.loop-taken-test.false
  | then-loop-taken-test+in_default w ↦ taken_end c.self.inside.nets.now c.loop-taken.pieces.now c.loop-taken.at c.args.n c.args.self.now.width c.args.self.now.number c.loop-taken.word c.loop-taken.taken c.loop-taken.invariant w.in_default.ensures.cases
]

pub returns : goal.returns
returns c = record { word = (taken c).word_is; rest = (taken c).rest }
