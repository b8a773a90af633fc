use Rattle.std.proofs.Common.{◌≡◌, ◌+◌, ◌<◌, ◌≤◌, ◌++◌, ◌∷◌, [], List, ℕ, length, take, drop, Option, refl, sym, subst, arith, ◌∙◌}
use Rattle.std.specs.Io.KnownBytes.{IsAtEnd, prepend_known}
use Rattle.std.proofs.lemmas.List.{length-take-le}
use Rattle.hall_core.specs.declared.entry.Entry.TheVariants as entry
use Rattle.hall_core.specs.declared.entry.Why.TheVariants as why
use Rattle.solo_session.specs.Pace.{input_limit}
use Rattle.solo_session.specs.Reading.{IsOutputCause, IsReading, IsTurn}
use Rattle.solo_session.specs.Session.{Over, conversation}
use Rattle.solo_session.specs.Solo.{IsEnded, outset_of}
use Rattle.solo_session.specs.declared.solo.Ending.{Ending}
use Rattle.solo_session.specs.declared.solo.Ending.TheVariants as ending
use Rattle.solo_session.proofs.Leaving.{cause_behind, input_fails, on_err, over_by, reading_wanting}
use Rattle.solo_session.proofs.Reading.{at_limit, front_count, front_some, reading_serves, reads_first, reads_piece}
use Rattle.solo_session.proofs.solo.serve.Goals as goal

pub loop-session-init : goal.loop-session-init
loop-session-init g c = record {
  reading = subst (λ (z : List ℕ). IsReading (outset_of (g.F.Followed.run c.args.session.now.samples) (g.I.Source.seen c.args.input.now) (g.O.Sink.seen c.args.out.now)) (g.I.Source.seen c.args.input.now).left (g.O.Sink.seen c.args.out.now).held (conversation g.F.Followed.run c.args.session.now) z 0) (sym c.in_ok-framer.ensures)
      (reads_first (conversation g.F.Followed.run c.args.session.now) (g.I.Source.seen c.args.input.now).left (g.O.Sink.seen c.args.out.now).held c.requires);
  serving = c.requires.has_said.serving;
  run = refl;
  within = omega arith;
  room = c.in_ok-piece.ensures.len;
  input = refl;
  output = refl;
}

pub returns-in-Bytes-clause-ended : goal.returns-in-Bytes-clause-ended
returns-in-Bytes-clause-ended g c =
    let reading : IsReading (outset_of (g.F.Followed.run c.args.session.now.samples) (g.I.Source.seen c.args.input.now) (g.O.Sink.seen c.args.out.now)) (prepend_known (take c.in-Bytes.field-0 c.read_piece.new.piece) (g.I.Source.seen c.read_piece.new.input).left) (g.O.Sink.seen c.loop-session.out).held (conversation g.F.Followed.run c.loop-session.session) c.loop-session.framer c.loop-session.taken = (subst (λ z. IsReading (outset_of (g.F.Followed.run c.args.session.now.samples) (g.I.Source.seen c.args.input.now) (g.O.Sink.seen c.args.out.now)) z (g.O.Sink.seen c.loop-session.out).held (conversation g.F.Followed.run c.loop-session.session) c.loop-session.framer c.loop-session.taken) c.in-Bytes.ensures.bytes c.loop-session.invariant.reading) in
    let inside : c.in-Bytes.field-0 ≤ length c.read_piece.new.piece = omega (arith, c.in-Bytes.ensures.within.1, c.in-Bytes.ensures.room) in
    let count : length (take c.in-Bytes.field-0 c.read_piece.new.piece) ≡ c.in-Bytes.field-0 = length-take-le c.in-Bytes.field-0 c.read_piece.new.piece inside in
    let one : c.in-Bytes.field-0 ≤ 1 = c.in-Bytes.ensures.one c.in-Bytes.field-0 refl c.if-taken-eq-LIMIT.true in
    subst (λ (n : Over g.row.F.Denot). IsEnded (outset_of (g.F.Followed.run c.args.session.now.samples) (g.I.Source.seen c.args.input.now) (g.O.Sink.seen c.args.out.now)) (g.I.Source.seen c.read_piece.new.input).left (g.O.Sink.seen c.loop-session.out).held n.history ending.Limit) (sym c.in_ok-leave-in-Bytes.ensures)
    (over_by (outset_of (g.F.Followed.run c.args.session.now.samples) (g.I.Source.seen c.args.input.now) (g.O.Sink.seen c.args.out.now)) (g.I.Source.seen c.read_piece.new.input).left (g.O.Sink.seen c.loop-session.out).held (g.O.Sink.seen c.loop-session.out).held (conversation g.F.Followed.run c.loop-session.session) c.loop-session.framer (take c.in-Bytes.field-0 c.read_piece.new.piece) c.loop-session.taken (c.loop-session.session.history ++ entry.Close 0 why.Limit ∷ entry.End ∷ [])
    reading (omega (arith, count, one))
    (at_limit (outset_of (g.F.Followed.run c.args.session.now.samples) (g.I.Source.seen c.args.input.now) (g.O.Sink.seen c.args.out.now)) (g.I.Source.seen c.read_piece.new.input).left (g.O.Sink.seen c.loop-session.out).held (conversation g.F.Followed.run c.loop-session.session) c.loop-session.framer (take c.in-Bytes.field-0 c.read_piece.new.piece) c.loop-session.taken reading
    c.if-taken-eq-LIMIT.true (front_some c.in-Bytes.field-0 c.read_piece.new.piece c.in-Bytes.ensures.within.0 inside) (omega (arith, count, one))))

pub returns-in-Some-clause-ended : goal.returns-in-Some-clause-ended
returns-in-Some-clause-ended g c =
    let inside : c.in-Bytes.field-0 ≤ length c.read_piece.new.piece = omega (arith, c.in-Bytes.ensures.within.1, c.in-Bytes.ensures.room) in
    let count : length (take c.in-Bytes.field-0 c.deref.result.now) ≡ c.in-Bytes.field-0 = front_count c.in-Bytes.field-0 c.loop-session.piece.len c.read_piece.new.piece c.deref.result.now (drop (length c.read_piece.new.piece) c.loop-session.piece.items) c.deref.ensures.value (c.in-Bytes.ensures.room ∙ c.deref_mut.ensures.len) inside in
    let below : c.loop-session.taken < input_limit = omega (arith, c.loop-session.invariant.within, c.if-taken-eq-LIMIT.false) in
    let within : c.loop-session.taken + c.in-Bytes.field-0 ≤ input_limit = c.in-Bytes.ensures.limit c.in-Bytes.field-0 refl below in
    let turn : IsTurn (outset_of (g.F.Followed.run c.args.session.now.samples) (g.I.Source.seen c.args.input.now) (g.O.Sink.seen c.args.out.now)) (g.I.Source.seen c.read_piece.new.input).left (g.O.Sink.seen c.answer_piece.new.out).held (conversation g.F.Followed.run c.answer_piece.new.session) c.answer_piece.new.framer (c.loop-session.taken + length (take c.in-Bytes.field-0 c.deref.result.now)) c.in_ok-ending-in-Bytes-2.field-0 =
    c.in_ok-ending-in-Bytes-2.ensures.turn (outset_of (g.F.Followed.run c.args.session.now.samples) (g.I.Source.seen c.args.input.now) (g.O.Sink.seen c.args.out.now)) (g.I.Source.seen c.read_piece.new.input).left c.loop-session.taken
    (reads_piece (outset_of (g.F.Followed.run c.args.session.now.samples) (g.I.Source.seen c.args.input.now) (g.O.Sink.seen c.args.out.now)) (g.I.Source.seen c.loop-session.input).left (g.I.Source.seen c.read_piece.new.input).left (g.O.Sink.seen c.loop-session.out).held (conversation g.F.Followed.run c.loop-session.session) c.loop-session.framer c.loop-session.taken c.in-Bytes.field-0 c.loop-session.piece.len c.read_piece.new.piece c.deref.result.now (drop (length c.read_piece.new.piece) c.loop-session.piece.items) c.loop-session.invariant.reading c.in-Bytes.ensures.bytes c.deref.ensures.value (c.in-Bytes.ensures.room ∙ c.deref_mut.ensures.len))
    (omega (arith, count, within)) in
    subst (λ (t : Option Ending). IsTurn (outset_of (g.F.Followed.run c.args.session.now.samples) (g.I.Source.seen c.args.input.now) (g.O.Sink.seen c.args.out.now)) (g.I.Source.seen c.read_piece.new.input).left (g.O.Sink.seen c.answer_piece.new.out).held (conversation g.F.Followed.run c.answer_piece.new.session) c.answer_piece.new.framer (c.loop-session.taken + length (take c.in-Bytes.field-0 c.deref.result.now)) t) c.in-Some.is turn

pub loop-session-preserved : goal.loop-session-preserved
loop-session-preserved g c =
    let inside : c.in-Bytes.field-0 ≤ length c.read_piece.new.piece = omega (arith, c.in-Bytes.ensures.within.1, c.in-Bytes.ensures.room) in
    let count : length (take c.in-Bytes.field-0 c.deref.result.now) ≡ c.in-Bytes.field-0 = front_count c.in-Bytes.field-0 c.loop-session.piece.len c.read_piece.new.piece c.deref.result.now (drop (length c.read_piece.new.piece) c.loop-session.piece.items) c.deref.ensures.value (c.in-Bytes.ensures.room ∙ c.deref_mut.ensures.len) inside in
    let below : c.loop-session.taken < input_limit = omega (arith, c.loop-session.invariant.within, c.if-taken-eq-LIMIT.false) in
    let within : c.loop-session.taken + c.in-Bytes.field-0 ≤ input_limit = c.in-Bytes.ensures.limit c.in-Bytes.field-0 refl below in
    let turn : IsTurn (outset_of (g.F.Followed.run c.args.session.now.samples) (g.I.Source.seen c.args.input.now) (g.O.Sink.seen c.args.out.now)) (g.I.Source.seen c.read_piece.new.input).left (g.O.Sink.seen c.answer_piece.new.out).held (conversation g.F.Followed.run c.answer_piece.new.session) c.answer_piece.new.framer (c.loop-session.taken + length (take c.in-Bytes.field-0 c.deref.result.now)) c.in_ok-ending-in-Bytes-2.field-0 =
    c.in_ok-ending-in-Bytes-2.ensures.turn (outset_of (g.F.Followed.run c.args.session.now.samples) (g.I.Source.seen c.args.input.now) (g.O.Sink.seen c.args.out.now)) (g.I.Source.seen c.read_piece.new.input).left c.loop-session.taken
    (reads_piece (outset_of (g.F.Followed.run c.args.session.now.samples) (g.I.Source.seen c.args.input.now) (g.O.Sink.seen c.args.out.now)) (g.I.Source.seen c.loop-session.input).left (g.I.Source.seen c.read_piece.new.input).left (g.O.Sink.seen c.loop-session.out).held (conversation g.F.Followed.run c.loop-session.session) c.loop-session.framer c.loop-session.taken c.in-Bytes.field-0 c.loop-session.piece.len c.read_piece.new.piece c.deref.result.now (drop (length c.read_piece.new.piece) c.loop-session.piece.items) c.loop-session.invariant.reading c.in-Bytes.ensures.bytes c.deref.ensures.value (c.in-Bytes.ensures.room ∙ c.deref_mut.ensures.len))
    (omega (arith, count, within)) in
    let goes : IsReading (outset_of (g.F.Followed.run c.args.session.now.samples) (g.I.Source.seen c.args.input.now) (g.O.Sink.seen c.args.out.now)) (g.I.Source.seen c.read_piece.new.input).left (g.O.Sink.seen c.answer_piece.new.out).held (conversation g.F.Followed.run c.answer_piece.new.session) c.answer_piece.new.framer (c.loop-session.taken + c.in-Bytes.field-0) =
    subst (λ (k : ℕ). IsReading (outset_of (g.F.Followed.run c.args.session.now.samples) (g.I.Source.seen c.args.input.now) (g.O.Sink.seen c.args.out.now)) (g.I.Source.seen c.read_piece.new.input).left (g.O.Sink.seen c.answer_piece.new.out).held (conversation g.F.Followed.run c.answer_piece.new.session) c.answer_piece.new.framer (c.loop-session.taken + k)) count
    (subst (λ (t : Option Ending). IsTurn (outset_of (g.F.Followed.run c.args.session.now.samples) (g.I.Source.seen c.args.input.now) (g.O.Sink.seen c.args.out.now)) (g.I.Source.seen c.read_piece.new.input).left (g.O.Sink.seen c.answer_piece.new.out).held (conversation g.F.Followed.run c.answer_piece.new.session) c.answer_piece.new.framer (c.loop-session.taken + length (take c.in-Bytes.field-0 c.deref.result.now)) t) c.in_default.is turn) in
    record {
      reading = goes;
      serving = reading_serves (outset_of (g.F.Followed.run c.args.session.now.samples) (g.I.Source.seen c.args.input.now) (g.O.Sink.seen c.args.out.now)) (g.I.Source.seen c.read_piece.new.input).left (g.O.Sink.seen c.answer_piece.new.out).held (conversation g.F.Followed.run c.answer_piece.new.session) c.answer_piece.new.framer (c.loop-session.taken + c.in-Bytes.field-0) goes;
      run = c.in_ok-ending-in-Bytes-2.ensures.run ∙ c.loop-session.invariant.run;
      within = within;
      room = c.loop-session.invariant.room;
      input = c.in-Bytes.ensures.cause ∙ c.loop-session.invariant.input;
      output = subst (λ (t : Option Ending). IsOutputCause t (g.O.Sink.seen c.loop-session.out) (g.O.Sink.seen c.answer_piece.new.out)) c.in_default.is c.in_ok-ending-in-Bytes-2.ensures.cause ∙ c.loop-session.invariant.output;
    }

pub returns-in-End-clause-ended : goal.returns-in-End-clause-ended
returns-in-End-clause-ended g c =
    c.in_ok-ending-in-End.ensures.ended (outset_of (g.F.Followed.run c.args.session.now.samples) (g.I.Source.seen c.args.input.now) (g.O.Sink.seen c.args.out.now)) (g.I.Source.seen c.read_piece.new.input).left c.loop-session.framer c.loop-session.taken
    (subst (λ z. IsReading (outset_of (g.F.Followed.run c.args.session.now.samples) (g.I.Source.seen c.args.input.now) (g.O.Sink.seen c.args.out.now)) z (g.O.Sink.seen c.loop-session.out).held (conversation g.F.Followed.run c.loop-session.session) c.loop-session.framer c.loop-session.taken) (sym c.in-End.ensures.bytes.0) c.loop-session.invariant.reading)
    (subst (λ z. IsAtEnd z) (sym c.in-End.ensures.bytes.0) c.in-End.ensures.bytes.1)

pub returns-in-Failed-clause-ended : goal.returns-in-Failed-clause-ended
returns-in-Failed-clause-ended g c =
    subst (λ (n : Over g.row.F.Denot). IsEnded (outset_of (g.F.Followed.run c.args.session.now.samples) (g.I.Source.seen c.args.input.now) (g.O.Sink.seen c.args.out.now)) (g.I.Source.seen c.read_piece.new.input).left (g.O.Sink.seen c.loop-session.out).held n.history ending.InputFailed) (sym c.in_ok-leave-in-Failed.ensures)
    (input_fails (outset_of (g.F.Followed.run c.args.session.now.samples) (g.I.Source.seen c.args.input.now) (g.O.Sink.seen c.args.out.now)) (g.I.Source.seen c.read_piece.new.input).left (g.O.Sink.seen c.loop-session.out).held (conversation g.F.Followed.run c.loop-session.session) c.loop-session.framer c.loop-session.taken
    (subst (λ z. IsReading (outset_of (g.F.Followed.run c.args.session.now.samples) (g.I.Source.seen c.args.input.now) (g.O.Sink.seen c.args.out.now)) z (g.O.Sink.seen c.loop-session.out).held (conversation g.F.Followed.run c.loop-session.session) c.loop-session.framer c.loop-session.taken) (sym c.in-Failed.ensures.bytes) c.loop-session.invariant.reading))

-- memory is wanting
pub returns-in_err-framer-clause-wanting : goal.returns-in_err-framer-clause-wanting
returns-in_err-framer-clause-wanting g c = on_err c.from_residual.result (reading_wanting (outset_of (g.F.Followed.run c.args.session.now.samples) (g.I.Source.seen c.args.input.now) (g.O.Sink.seen c.args.out.now)) (g.I.Source.seen c.args.input.now).left (g.O.Sink.seen c.args.out.now).held (conversation g.F.Followed.run c.args.session.now) [] 0 (reads_first (conversation g.F.Followed.run c.args.session.now) (g.I.Source.seen c.args.input.now).left (g.O.Sink.seen c.args.out.now).held c.requires))

pub returns-in_err-piece-clause-wanting : goal.returns-in_err-piece-clause-wanting
returns-in_err-piece-clause-wanting g c = on_err c.from_residual-in_err-piece.result (reading_wanting (outset_of (g.F.Followed.run c.args.session.now.samples) (g.I.Source.seen c.args.input.now) (g.O.Sink.seen c.args.out.now)) (g.I.Source.seen c.args.input.now).left (g.O.Sink.seen c.args.out.now).held (conversation g.F.Followed.run c.args.session.now) [] 0 (reads_first (conversation g.F.Followed.run c.args.session.now) (g.I.Source.seen c.args.input.now).left (g.O.Sink.seen c.args.out.now).held c.requires))

pub returns-in_err-leave-in-Bytes-clause-wanting : goal.returns-in_err-leave-in-Bytes-clause-wanting
returns-in_err-leave-in-Bytes-clause-wanting g c = on_err c.from_residual-in_err-leave-in-Bytes.result (reading_wanting (outset_of (g.F.Followed.run c.args.session.now.samples) (g.I.Source.seen c.args.input.now) (g.O.Sink.seen c.args.out.now)) (g.I.Source.seen c.loop-session.input).left (g.O.Sink.seen c.loop-session.out).held (conversation g.F.Followed.run c.loop-session.session) c.loop-session.framer c.loop-session.taken c.loop-session.invariant.reading)

pub returns-in_err-ending-in-Bytes-2-clause-wanting : goal.returns-in_err-ending-in-Bytes-2-clause-wanting
returns-in_err-ending-in-Bytes-2-clause-wanting g c =
    let inside : c.in-Bytes.field-0 ≤ length c.read_piece.new.piece = omega (arith, c.in-Bytes.ensures.within.1, c.in-Bytes.ensures.room) in
    let count : length (take c.in-Bytes.field-0 c.deref.result.now) ≡ c.in-Bytes.field-0 = front_count c.in-Bytes.field-0 c.loop-session.piece.len c.read_piece.new.piece c.deref.result.now (drop (length c.read_piece.new.piece) c.loop-session.piece.items) c.deref.ensures.value (c.in-Bytes.ensures.room ∙ c.deref_mut.ensures.len) inside in
    let below : c.loop-session.taken < input_limit = omega (arith, c.loop-session.invariant.within, c.if-taken-eq-LIMIT.false) in
    let within : c.loop-session.taken + c.in-Bytes.field-0 ≤ input_limit = c.in-Bytes.ensures.limit c.in-Bytes.field-0 refl below in
    on_err c.from_residual-in_err-ending-in-Bytes-2.result
    (c.in_err-ending-in-Bytes-2.ensures.wanting (outset_of (g.F.Followed.run c.args.session.now.samples) (g.I.Source.seen c.args.input.now) (g.O.Sink.seen c.args.out.now)) (g.I.Source.seen c.read_piece.new.input).left c.loop-session.taken
    (reads_piece (outset_of (g.F.Followed.run c.args.session.now.samples) (g.I.Source.seen c.args.input.now) (g.O.Sink.seen c.args.out.now)) (g.I.Source.seen c.loop-session.input).left (g.I.Source.seen c.read_piece.new.input).left (g.O.Sink.seen c.loop-session.out).held (conversation g.F.Followed.run c.loop-session.session) c.loop-session.framer c.loop-session.taken c.in-Bytes.field-0 c.loop-session.piece.len c.read_piece.new.piece c.deref.result.now (drop (length c.read_piece.new.piece) c.loop-session.piece.items) c.loop-session.invariant.reading c.in-Bytes.ensures.bytes c.deref.ensures.value (c.in-Bytes.ensures.room ∙ c.deref_mut.ensures.len))
    (omega (arith, count, within)))

pub returns-in_err-ending-in-End-clause-wanting : goal.returns-in_err-ending-in-End-clause-wanting
returns-in_err-ending-in-End-clause-wanting g c =
    on_err c.from_residual-in_err-ending-in-End.result
    (c.in_err-ending-in-End.ensures.wanting (outset_of (g.F.Followed.run c.args.session.now.samples) (g.I.Source.seen c.args.input.now) (g.O.Sink.seen c.args.out.now)) (g.I.Source.seen c.read_piece.new.input).left c.loop-session.framer c.loop-session.taken
    (subst (λ z. IsReading (outset_of (g.F.Followed.run c.args.session.now.samples) (g.I.Source.seen c.args.input.now) (g.O.Sink.seen c.args.out.now)) z (g.O.Sink.seen c.loop-session.out).held (conversation g.F.Followed.run c.loop-session.session) c.loop-session.framer c.loop-session.taken) (sym c.in-End.ensures.bytes.0) c.loop-session.invariant.reading)
    (subst (λ z. IsAtEnd z) (sym c.in-End.ensures.bytes.0) c.in-End.ensures.bytes.1))

pub returns-in_err-leave-in-Failed-clause-wanting : goal.returns-in_err-leave-in-Failed-clause-wanting
returns-in_err-leave-in-Failed-clause-wanting g c = on_err c.from_residual-in_err-leave-in-Failed.result (reading_wanting (outset_of (g.F.Followed.run c.args.session.now.samples) (g.I.Source.seen c.args.input.now) (g.O.Sink.seen c.args.out.now)) (g.I.Source.seen c.loop-session.input).left (g.O.Sink.seen c.loop-session.out).held (conversation g.F.Followed.run c.loop-session.session) c.loop-session.framer c.loop-session.taken c.loop-session.invariant.reading)

pub returns-in-Some-clause-cause : goal.returns-in-Some-clause-cause
returns-in-Some-clause-cause g c =
    cause_behind c.in-Some.ending (g.I.Source.seen c.args.input.now) (g.I.Source.seen c.read_piece.new.input) (g.O.Sink.seen c.args.out.now) (g.O.Sink.seen c.loop-session.out) (g.O.Sink.seen c.answer_piece.new.out)
    (c.in-Bytes.ensures.cause ∙ c.loop-session.invariant.input) c.loop-session.invariant.output
    (subst (λ (t : Option Ending). IsOutputCause t (g.O.Sink.seen c.loop-session.out) (g.O.Sink.seen c.answer_piece.new.out)) c.in-Some.is c.in_ok-ending-in-Bytes-2.ensures.cause)

pub returns-in-End-clause-cause : goal.returns-in-End-clause-cause
returns-in-End-clause-cause g c =
    cause_behind c.in_ok-ending-in-End.ending (g.I.Source.seen c.args.input.now) (g.I.Source.seen c.read_piece.new.input) (g.O.Sink.seen c.args.out.now) (g.O.Sink.seen c.loop-session.out) (g.O.Sink.seen c.finish.new.out)
    (c.in-End.ensures.cause ∙ c.loop-session.invariant.input) c.loop-session.invariant.output c.in_ok-ending-in-End.ensures.cause
