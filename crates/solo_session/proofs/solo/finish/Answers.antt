use Rattle.std.proofs.Common.{◌++◌, ◌∷◌, [], ap, sym, subst, ◌∙◌}
use Rattle.std.specs.Io.KnownBytes.{append_known}
use Rattle.hall_core.specs.declared.entry.Entry.TheVariants as entry
use Rattle.hall_core.specs.declared.entry.Why.TheVariants as why
use Rattle.outside.specs.Sink.{TookPart}
use Rattle.solo_session.specs.Session.{HasSaid, Over, conversation}
use Rattle.solo_session.specs.Solo.{IsEnded}
use Rattle.solo_session.specs.declared.solo.Ending.{Ending}
use Rattle.solo_session.specs.declared.solo.Ending.TheVariants as ending
use Rattle.solo_session.proofs.Unsent.{finish_unsent}
use Rattle.solo_session.proofs.Leaving.{broken_wanting, ended_by, on_err, reading_wanting, whole_wanting}
use Rattle.solo_session.proofs.Reading.{SaysOn, finished, finished_in_part}
use Rattle.solo_session.proofs.solo.finish.Goals as goal

pub returns-in-Ok-clause-ended : goal.returns-in-Ok-clause-ended
returns-in-Ok-clause-ended g c outset left rest taken (told, read, sent, none) ends =
    subst (λ (n : Over g.row.F.Denot). IsEnded outset left (g.O.Sink.seen c.put_all.new.sink).held n.history ending.Served) (sym c.in_ok-leave-in-Ok.ensures)
    (ended_by outset left (g.O.Sink.seen c.put_all.new.sink).held (conversation g.F.Followed.run c.args.session.now) rest taken told (c.run_out.new.self.history ++ entry.Close 0 why.Ended ∷ entry.End ∷ []) ending.Served read
    (finished outset left (g.O.Sink.seen c.args.out.now).held (g.O.Sink.seen c.put_all.new.sink).held (conversation g.F.Followed.run c.args.session.now) (conversation g.F.Followed.run c.run_out.new.self) rest taken c.run_out.new.text.items (told, read, sent, none) ends (ap (conversation g.F.Followed.run) c.in_ok-run_out.ensures.session)
    (λ ps said has. c.in_ok-run_out.ensures.served ps said (subst (λ z. HasSaid ps (conversation g.F.Followed.run c.args.session.now) (said ++ z)) (sym c.new-text.ensures.items) has))
    (c.in-Ok.ensures.ok ∙ ap (λ z. append_known (g.O.Sink.seen c.args.out.now).held z) c.deref.ensures.value)))

pub returns-clause-ended : goal.returns-clause-ended
returns-clause-ended g c outset left rest taken (told, read, sent, none) ends =
    let says : SaysOn (conversation g.F.Followed.run c.args.session.now) (conversation g.F.Followed.run c.run_out.new.self) c.run_out.new.text.items = (λ ps said has. c.in_ok-run_out.ensures.served ps said (subst (λ z. HasSaid ps (conversation g.F.Followed.run c.args.session.now) (said ++ z)) (sym c.new-text.ensures.items) has)) in
    let part : TookPart (g.O.Sink.seen c.args.out.now).held (g.O.Sink.seen c.put_all.new.sink).held c.run_out.new.text.items = subst (λ z. TookPart (g.O.Sink.seen c.args.out.now).held (g.O.Sink.seen c.put_all.new.sink).held z) c.deref.ensures.value c.in-Err.ensures.err in
    subst (λ (e : Ending). IsEnded outset left (g.O.Sink.seen c.put_all.new.sink).held c.break_off.new.session.history e) (sym c.in_ok-ending-in-Err.ensures.ending)
    (subst (λ (n : Over g.row.F.Denot). IsEnded outset left (g.O.Sink.seen c.put_all.new.sink).held n.history ending.OutputFailed) (sym c.in_ok-ending-in-Err.ensures.session)
    (ended_by outset left (g.O.Sink.seen c.put_all.new.sink).held (conversation g.F.Followed.run c.args.session.now) rest taken told (c.run_out.new.self.history ++ entry.Close 0 why.Fault ∷ entry.End ∷ []) ending.OutputFailed read (
      finished_in_part outset left (g.O.Sink.seen c.args.out.now).held (g.O.Sink.seen c.put_all.new.sink).held (conversation g.F.Followed.run c.args.session.now) (conversation g.F.Followed.run c.run_out.new.self) rest taken c.run_out.new.text.items (told, read, sent, none) ends (ap (conversation g.F.Followed.run) c.in_ok-run_out.ensures.session) says part,
      finish_unsent outset left (g.O.Sink.seen c.args.out.now).held (g.O.Sink.seen c.put_all.new.sink).held (conversation g.F.Followed.run c.args.session.now) (conversation g.F.Followed.run c.run_out.new.self) rest taken c.run_out.new.text.items (told, read, sent, none) ends (ap (conversation g.F.Followed.run) c.in_ok-run_out.ensures.session) says part,
    )))

-- memory is wanting: before anything is sent, or when all or a part was
pub returns-in_err-run_out-clause-wanting : goal.returns-in_err-run_out-clause-wanting
returns-in_err-run_out-clause-wanting g c =
    on_err c.from_residual.result (λ outset left rest taken reading ends. reading_wanting outset left (g.O.Sink.seen c.args.out.now).held (conversation g.F.Followed.run c.args.session.now) rest taken reading)

pub returns-in_err-leave-in-Ok-clause-wanting : goal.returns-in_err-leave-in-Ok-clause-wanting
returns-in_err-leave-in-Ok-clause-wanting g c =
    on_err c.from_residual-in_err-leave-in-Ok.result
    (λ outset left rest taken reading ends. whole_wanting outset left (g.O.Sink.seen c.put_all.new.sink).held (c.run_out.new.self.history ++ entry.Close 0 why.Ended ∷ entry.End ∷ []) reading.1.given ending.Served
    (finished outset left (g.O.Sink.seen c.args.out.now).held (g.O.Sink.seen c.put_all.new.sink).held (conversation g.F.Followed.run c.args.session.now) (conversation g.F.Followed.run c.run_out.new.self) rest taken c.run_out.new.text.items reading ends (ap (conversation g.F.Followed.run) c.in_ok-run_out.ensures.session)
    (λ ps said has. c.in_ok-run_out.ensures.served ps said (subst (λ z. HasSaid ps (conversation g.F.Followed.run c.args.session.now) (said ++ z)) (sym c.new-text.ensures.items) has))
    (c.in-Ok.ensures.ok ∙ ap (λ z. append_known (g.O.Sink.seen c.args.out.now).held z) c.deref.ensures.value)))

pub returns-in_err-ending-in-Err-clause-wanting : goal.returns-in_err-ending-in-Err-clause-wanting
returns-in_err-ending-in-Err-clause-wanting g c =
    on_err c.from_residual-in_err-ending-in-Err.result
    (λ outset left rest taken reading ends. broken_wanting outset (g.O.Sink.seen c.put_all.new.sink).held (c.run_out.new.self.history ++ entry.Close 0 why.Fault ∷ entry.End ∷ [])
    (finished_in_part outset left (g.O.Sink.seen c.args.out.now).held (g.O.Sink.seen c.put_all.new.sink).held (conversation g.F.Followed.run c.args.session.now) (conversation g.F.Followed.run c.run_out.new.self) rest taken c.run_out.new.text.items reading ends (ap (conversation g.F.Followed.run) c.in_ok-run_out.ensures.session)
    (λ ps said has. c.in_ok-run_out.ensures.served ps said (subst (λ z. HasSaid ps (conversation g.F.Followed.run c.args.session.now) (said ++ z)) (sym c.new-text.ensures.items) has))
    (subst (λ z. TookPart (g.O.Sink.seen c.args.out.now).held (g.O.Sink.seen c.put_all.new.sink).held z) c.deref.ensures.value c.in-Err.ensures.err)))
