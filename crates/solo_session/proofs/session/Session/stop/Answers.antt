use Rattle.std.proofs.Common.{◌++◌, ap, sym, ◌∙◌, append-nil}
use Rattle.hall_core.specs.Facts.{facts_of}
use Rattle.hall_core.specs.Replay.{replay}
use Rattle.hall_core.specs.declared.entry.Entry.TheVariants as entry
use Rattle.session_core.specs.Replies.{event}
use Rattle.solo_session.specs.Session.{Over}
use Rattle.solo_session.proofs.Batching.{events_stopped, events_unstopped}
use Rattle.solo_session.proofs.session.Session.stop.Goals as goal

pub returns-in_ok-enter_and_tell-clause-text : goal.returns-in_ok-enter_and_tell-clause-text
returns-in_ok-enter_and_tell-clause-text g c =
    c.in_ok-enter_and_tell.ensures.text
    ∙ ap (λ (x : Over g.row.F.Denot). c.args.text.now.items ++ event (g.F.Followed.run x.samples) x.client.greeted (replay x.history) entry.Unsettled) c.may_stop.ensures.same
    ∙ ap (λ l. c.args.text.now.items ++ l) (sym (events_stopped (g.F.Followed.run c.args.self.now.samples) c.args.self.now.client.greeted (facts_of (g.F.Followed.run c.args.self.now.samples)) (replay c.args.self.now.history) (sym c.may_stop.ensures.stop ∙ c.if-may_stop.true)))

pub returns-else-may_stop-clause-text : goal.returns-else-may_stop-clause-text
returns-else-may_stop-clause-text g c =
    sym (append-nil c.args.text.now.items)
    ∙ ap (λ l. c.args.text.now.items ++ l) (sym (events_unstopped (g.F.Followed.run c.args.self.now.samples) c.args.self.now.client.greeted (facts_of (g.F.Followed.run c.args.self.now.samples)) (replay c.args.self.now.history) (sym c.may_stop.ensures.stop ∙ c.if-may_stop.false)))
