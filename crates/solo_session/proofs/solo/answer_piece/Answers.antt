use Rattle.std.proofs.Common.{◌+◌, ◌++◌, ◌∷◌, [], List, ℕ, Option, length, ap, sym, subst, ◌∙◌}
use Rattle.std.specs.Io.KnownBytes.{append_known, prepend_known}
use Rattle.hall_core.specs.declared.entry.Entry.TheVariants as entry
use Rattle.hall_core.specs.declared.entry.Why.TheVariants as why
use Rattle.outside.specs.Sink.{TookPart}
use Rattle.solo_session.specs.Session.{Over, conversation}
use Rattle.solo_session.specs.Solo.{IsEnded, IsWanting}
use Rattle.outside.proofs.SinkLemmas.{sent_more, sent_part}
use Rattle.solo_session.specs.declared.solo.Ending.{Ending}
use Rattle.solo_session.specs.declared.solo.Ending.TheVariants as ending
use Rattle.solo_session.proofs.Leaving.{broken_wanting, on_err, reading_wanting}
use Rattle.solo_session.proofs.Reading.{broken, left_long, left_none, turned, turned_given}
use Rattle.solo_session.proofs.Unsent.{long_ends, piece_ends}
use Rattle.solo_session.proofs.solo.answer_piece.Goals as goal

pub returns-then-branch-clause-turn : goal.returns-then-branch-clause-turn
returns-then-branch-clause-turn g c outset left taken (told, read, sent, none) within =
    subst (λ (n : Over g.row.F.Denot). IsEnded outset left (g.O.Sink.seen c.refuse.new.out).held n.history c.in_ok-ending.ending) (sym c.in_ok-ending.ensures.session)
    (long_ends outset left (g.O.Sink.seen c.args.out.now).held (g.O.Sink.seen c.refuse.new.out).held (conversation g.F.Followed.run c.args.session.now) (conversation g.F.Followed.run c.serve_packets.new.self) c.args.framer.now c.serve_packets.new.framer c.args.piece.now taken (taken + length c.args.piece.now) told c.serve_packets.new.text.items read (turned outset left (conversation g.F.Followed.run c.args.session.now) (conversation g.F.Followed.run c.serve_packets.new.self) c.args.framer.now c.feed.new.self c.args.piece.now c.serve_packets.new.framer taken told c.new-text.result.items c.serve_packets.new.text.items c.in_ok-serve_packets.field-0 read within c.in_ok-feed.ensures.fed c.new-text.ensures.items c.in_ok-serve_packets.ensures.served) (turned_given outset left (conversation g.F.Followed.run c.args.session.now) (conversation g.F.Followed.run c.serve_packets.new.self) c.args.framer.now c.feed.new.self c.args.piece.now c.serve_packets.new.framer taken told c.new-text.result.items c.serve_packets.new.text.items c.in_ok-serve_packets.field-0 read within c.in_ok-feed.ensures.fed c.new-text.ensures.items c.in_ok-serve_packets.ensures.served) none c.requires.few sent c.in_ok-ending.ending
    (left_long c.serve_packets.new.framer c.in_ok-serve_packets.field-0 c.in_ok-serve_packets.ensures.served.rest c.if-branch.true) c.in_ok-ending.ensures.sent)

pub returns-in-Ok-clause-turn : goal.returns-in-Ok-clause-turn
returns-in-Ok-clause-turn g c outset left taken (told, read, sent, none) within = (
  told ++ c.serve_packets.new.text.items,
  turned outset left (conversation g.F.Followed.run c.args.session.now) (conversation g.F.Followed.run c.serve_packets.new.self) c.args.framer.now c.feed.new.self c.args.piece.now c.serve_packets.new.framer taken told c.new-text.result.items c.serve_packets.new.text.items c.in_ok-serve_packets.field-0 read within c.in_ok-feed.ensures.fed c.new-text.ensures.items c.in_ok-serve_packets.ensures.served,
  sent_more outset.held (g.O.Sink.seen c.args.out.now).held (g.O.Sink.seen c.put_all.new.sink).held told c.serve_packets.new.text.items sent (c.in-Ok.ensures.ok ∙ ap (λ z. append_known (g.O.Sink.seen c.args.out.now).held z) c.deref.ensures.value),
  left_none c.serve_packets.new.framer c.in_ok-serve_packets.field-0 c.in_ok-serve_packets.ensures.served.rest c.if-branch.false,
)

pub returns-clause-turn : goal.returns-clause-turn
returns-clause-turn g c outset left taken (told, read, sent, none) within =
    subst (λ (e : Ending). IsEnded outset left (g.O.Sink.seen c.put_all.new.sink).held c.break_off.new.session.history e) (sym c.in_ok-broken-in-Err.ensures.ending)
    (subst (λ (n : Over g.row.F.Denot). IsEnded outset left (g.O.Sink.seen c.put_all.new.sink).held n.history ending.OutputFailed) (sym c.in_ok-broken-in-Err.ensures.session)
    (piece_ends outset left (g.O.Sink.seen c.args.out.now).held (g.O.Sink.seen c.put_all.new.sink).held (conversation g.F.Followed.run c.args.session.now) (conversation g.F.Followed.run c.serve_packets.new.self) c.args.framer.now c.serve_packets.new.framer c.args.piece.now taken (taken + length c.args.piece.now) told c.serve_packets.new.text.items read (turned outset left (conversation g.F.Followed.run c.args.session.now) (conversation g.F.Followed.run c.serve_packets.new.self) c.args.framer.now c.feed.new.self c.args.piece.now c.serve_packets.new.framer taken told c.new-text.result.items c.serve_packets.new.text.items c.in_ok-serve_packets.field-0 read within c.in_ok-feed.ensures.fed c.new-text.ensures.items c.in_ok-serve_packets.ensures.served) (turned_given outset left (conversation g.F.Followed.run c.args.session.now) (conversation g.F.Followed.run c.serve_packets.new.self) c.args.framer.now c.feed.new.self c.args.piece.now c.serve_packets.new.framer taken told c.new-text.result.items c.serve_packets.new.text.items c.in_ok-serve_packets.field-0 read within c.in_ok-feed.ensures.fed c.new-text.ensures.items c.in_ok-serve_packets.ensures.served) none c.requires.few sent
    (left_none c.serve_packets.new.framer c.in_ok-serve_packets.field-0 c.in_ok-serve_packets.ensures.served.rest c.if-branch.false)
    (subst (λ z. TookPart (g.O.Sink.seen c.args.out.now).held (g.O.Sink.seen c.put_all.new.sink).held z) c.deref.ensures.value c.in-Err.ensures.err)))

-- memory is wanting: before anything is sent, or when a part was
pub returns-in_err-feed-clause-wanting : goal.returns-in_err-feed-clause-wanting
returns-in_err-feed-clause-wanting g c = on_err c.from_residual.result (λ outset left taken reading within. reading_wanting outset (prepend_known c.args.piece.now left) (g.O.Sink.seen c.args.out.now).held (conversation g.F.Followed.run c.args.session.now) c.args.framer.now taken reading)

pub returns-in_err-serve_packets-clause-wanting : goal.returns-in_err-serve_packets-clause-wanting
returns-in_err-serve_packets-clause-wanting g c = on_err c.from_residual-in_err-serve_packets.result (λ outset left taken reading within. reading_wanting outset (prepend_known c.args.piece.now left) (g.O.Sink.seen c.args.out.now).held (conversation g.F.Followed.run c.args.session.now) c.args.framer.now taken reading)

pub returns-in_err-ending-clause-wanting : goal.returns-in_err-ending-clause-wanting
returns-in_err-ending-clause-wanting g c =
    on_err c.from_residual-in_err-ending.result
    (λ outset left taken reading within. subst (λ (z : Option (List ℕ)). IsWanting outset z) (sym c.in_err-ending.ensures.wanting) (reading_wanting outset (prepend_known c.args.piece.now left) (g.O.Sink.seen c.args.out.now).held (conversation g.F.Followed.run c.args.session.now) c.args.framer.now taken reading))

pub returns-in_err-broken-in-Err-clause-wanting : goal.returns-in_err-broken-in-Err-clause-wanting
returns-in_err-broken-in-Err-clause-wanting g c =
    on_err c.from_residual-in_err-broken-in-Err.result
    (λ outset left taken reading within. broken_wanting outset (g.O.Sink.seen c.put_all.new.sink).held (c.serve_packets.new.self.history ++ entry.Close 0 why.Fault ∷ entry.End ∷ [])
    (broken outset left (g.O.Sink.seen c.put_all.new.sink).held (conversation g.F.Followed.run c.serve_packets.new.self) c.serve_packets.new.framer (taken + length c.args.piece.now) (reading.0 ++ c.serve_packets.new.text.items)
    (turned outset left (conversation g.F.Followed.run c.args.session.now) (conversation g.F.Followed.run c.serve_packets.new.self) c.args.framer.now c.feed.new.self c.args.piece.now c.serve_packets.new.framer taken reading.0 c.new-text.result.items c.serve_packets.new.text.items c.in_ok-serve_packets.field-0
    reading.1 within c.in_ok-feed.ensures.fed c.new-text.ensures.items c.in_ok-serve_packets.ensures.served)
    (sent_part outset.held (g.O.Sink.seen c.args.out.now).held (g.O.Sink.seen c.put_all.new.sink).held reading.0 c.serve_packets.new.text.items reading.2
    (subst (λ z. TookPart (g.O.Sink.seen c.args.out.now).held (g.O.Sink.seen c.put_all.new.sink).held z) c.deref.ensures.value c.in-Err.ensures.err))))
