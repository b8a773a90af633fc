use Rattle.std.proofs.Common.{◌≡◌, ◌++◌, true, ap, sym, ◌∙◌, subst, append-nil, arith}
use Rattle.hall_core.specs.Facts.{facts_of}
use Rattle.hall_core.specs.Legal.{allowed}
use Rattle.hall_core.specs.Replay.{Replayed, after, replay}
use Rattle.hall_core.proofs.Progress.{replay-push}
use Rattle.hall_core.specs.declared.entry.Entry.TheVariants as entry
use Rattle.solo_session.specs.Session.{IsRunning, IsServing, Over}
use Rattle.session_core.specs.Replies.{events, event}
use Rattle.solo_session.specs.Pace.{most_next, record_entries}
use Rattle.solo_session.proofs.Batching.{events_recorded, events_unrecorded, may_most, most_running, settles_most}
use Rattle.solo_session.proofs.Serving.{record_served}
use Rattle.solo_session.proofs.session.Session.record.Goals as goal

pub enter_and_tell-requires-clause-allowed : goal.enter_and_tell-requires-clause-allowed
enter_and_tell-requires-clause-allowed g c =
    subst (λ (x : Over g.row.F.Denot). allowed (g.F.Followed.run x.samples).count (replay x.history) (entry.Record c.next_batch-batch.result.samples c.next_batch-batch.result.hit) ≡ true) (sym c.next_batch-batch.ensures.same)
    (may_most (facts_of (g.F.Followed.run c.args.self.now.samples)) (replay c.args.self.now.history) c.next_batch-batch.result.samples c.next_batch-batch.result.hit c.next_batch-batch.ensures.most c.if-batch-gt0.true (c.next_batch-batch.ensures.entry c.if-batch-gt0.true))

pub enter_and_tell-requires-clause-running : goal.enter_and_tell-requires-clause-running
enter_and_tell-requires-clause-running g c =
    subst (λ (x : Over g.row.F.Denot). IsRunning (replay x.history).goal) (sym c.next_batch-batch.ensures.same)
    (most_running (g.F.Followed.run c.args.self.now.samples) (replay c.args.self.now.history) c.next_batch-batch.result.samples c.requires.serving c.next_batch-batch.ensures.most c.if-batch-gt0.true)

pub enter_and_tell-requires-clause-serving : goal.enter_and_tell-requires-clause-serving
enter_and_tell-requires-clause-serving g c =
    subst (λ (x : Over g.row.F.Denot). IsServing (g.F.Followed.run x.samples) (after (replay x.history) (entry.Record c.next_batch-batch.result.samples c.next_batch-batch.result.hit))) (sym c.next_batch-batch.ensures.same)
    (record_served (g.F.Followed.run c.args.self.now.samples) (replay c.args.self.now.history) c.next_batch-batch.result.samples c.next_batch-batch.result.hit c.requires.serving
    (settles_most (facts_of (g.F.Followed.run c.args.self.now.samples)) (replay c.args.self.now.history) c.next_batch-batch.result.samples c.next_batch-batch.ensures.most c.if-batch-gt0.true)
    (may_most (facts_of (g.F.Followed.run c.args.self.now.samples)) (replay c.args.self.now.history) c.next_batch-batch.result.samples c.next_batch-batch.result.hit c.next_batch-batch.ensures.most c.if-batch-gt0.true (c.next_batch-batch.ensures.entry c.if-batch-gt0.true)))

pub returns-in_ok-enter_and_tell-clause-serving : goal.returns-in_ok-enter_and_tell-clause-serving
returns-in_ok-enter_and_tell-clause-serving g c =
    subst (λ (x : Over g.row.F.Denot). IsServing (g.F.Followed.run x.samples) (replay x.history)) (sym c.in_ok-enter_and_tell.ensures.session)
    (subst (λ (x : Replayed). IsServing (g.F.Followed.run c.next_batch-batch.new.self.samples) x) (sym (replay-push c.next_batch-batch.new.self.history (entry.Record c.next_batch-batch.result.samples c.next_batch-batch.result.hit)))
    (subst (λ (x : Over g.row.F.Denot). IsServing (g.F.Followed.run x.samples) (after (replay x.history) (entry.Record c.next_batch-batch.result.samples c.next_batch-batch.result.hit))) (sym c.next_batch-batch.ensures.same)
    (record_served (g.F.Followed.run c.args.self.now.samples) (replay c.args.self.now.history) c.next_batch-batch.result.samples c.next_batch-batch.result.hit c.requires.serving
    (settles_most (facts_of (g.F.Followed.run c.args.self.now.samples)) (replay c.args.self.now.history) c.next_batch-batch.result.samples c.next_batch-batch.ensures.most c.if-batch-gt0.true)
    (may_most (facts_of (g.F.Followed.run c.args.self.now.samples)) (replay c.args.self.now.history) c.next_batch-batch.result.samples c.next_batch-batch.result.hit c.next_batch-batch.ensures.most c.if-batch-gt0.true (c.next_batch-batch.ensures.entry c.if-batch-gt0.true)))))

pub returns-in_ok-enter_and_tell-clause-text : goal.returns-in_ok-enter_and_tell-clause-text
returns-in_ok-enter_and_tell-clause-text g c =
    c.in_ok-enter_and_tell.ensures.text
    ∙ ap (λ (x : Over g.row.F.Denot). c.args.text.now.items ++ event (g.F.Followed.run x.samples) x.client.greeted (replay x.history) (entry.Record c.next_batch-batch.result.samples c.next_batch-batch.result.hit)) c.next_batch-batch.ensures.same
    ∙ ap (λ l. c.args.text.now.items ++ l) (sym (events_recorded (g.F.Followed.run c.args.self.now.samples) c.args.self.now.client.greeted (facts_of (g.F.Followed.run c.args.self.now.samples)) (replay c.args.self.now.history) c.next_batch-batch.result.samples c.next_batch-batch.result.hit c.if-batch-gt0.true (c.next_batch-batch.ensures.entry c.if-batch-gt0.true)))
    ∙ ap (λ m. c.args.text.now.items ++ events (g.F.Followed.run c.args.self.now.samples) c.args.self.now.client.greeted (replay c.args.self.now.history) (record_entries (facts_of (g.F.Followed.run c.args.self.now.samples)) (replay c.args.self.now.history) m)) c.next_batch-batch.ensures.most

pub returns-else-batch-gt0-clause-text : goal.returns-else-batch-gt0-clause-text
returns-else-batch-gt0-clause-text g c =
    sym (append-nil c.args.text.now.items)
    ∙ ap (λ l. c.args.text.now.items ++ l) (sym (events_unrecorded (g.F.Followed.run c.args.self.now.samples) c.args.self.now.client.greeted (facts_of (g.F.Followed.run c.args.self.now.samples)) (replay c.args.self.now.history) (most_next (facts_of (g.F.Followed.run c.args.self.now.samples)) (replay c.args.self.now.history)) (sym c.next_batch-batch.ensures.most ∙ omega (arith, c.if-batch-gt0.false))))
