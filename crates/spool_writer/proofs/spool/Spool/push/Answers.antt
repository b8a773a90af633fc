-- The record of the next sample stands behind those of its chunk, which is full at 256.
use Rattle.std.proofs.Common.{◌≡◌, ◌+◌, ◌++◌, ◌%◌, cond, eqb, ap, refl, sym, ◌∙◌, subst, rules, true}
use Rattle.std.specs.Arc.{arc_value}
use Rattle.std.specs.Result.{is_ok}
use Rattle.spool_format.specs.Kept.{recording_of, with_sample}
use Rattle.spool_format.specs.Records.{IsNext, change_record, whole_record}
use Rattle.spool_writer.specs.Growing.{full_after, growing_after}
use Rattle.spool_writer.proofs.Growth.{pushed}
use Rattle.spool_writer.proofs.spool.Spool.push.Goals as goal

pub invariant_of-self-2 : goal.invariant_of-self-2
invariant_of-self-2 c =
    let ws = arc_value c.self.inside.shape in
    let r = recording_of ws c.self.inside.full c.self.inside.growing.items in
    let ok : IsNext r.widths r.samples c.args.s.now = subst (λ v. IsNext v.widths v.samples c.args.s.now) (sym c.self.view_is) c.requires.next in
    let closed : is_ok c.close_full-closed.result ≡ true = search rules in
    let written : c.write_next.new.growing.items ≡ c.self.inside.growing.items ++ cond (eqb (c.self.inside.count % 256) 0) (whole_record c.args.s.now) (change_record ws c.self.inside.last c.args.s.now) =
    c.in_ok-write_next.ensures ∙ ap (λ w. c.self.inside.growing.items ++ cond (eqb (c.self.inside.count % 256) 0) (whole_record c.args.s.now) (change_record w c.self.inside.last c.args.s.now)) c.deref.ensures in
    let full : c.close_full-closed.new.full ≡ full_after (c.self.inside.count + 1) c.self.inside.full c.write_next.new.growing.items = rw closed at c.close_full-closed.ensures.full in
    let growing : c.close_full-closed.new.growing.items ≡ growing_after (c.self.inside.count + 1) c.write_next.new.growing.items = rw closed at c.close_full-closed.ensures.growing in
    let last : c.keep_last.new.last.words ≡ c.args.s.now.words = c.keep_last.ensures.words in
    (pushed ws c.self.inside.full c.self.inside.growing.items c.self.inside.count (c.self.inside.count + 1) c.self.inside.last c.args.s.now c.write_next.new.growing.items
    c.close_full-closed.new.full c.close_full-closed.new.growing.items c.keep_last.new.last.words c.keep_last.new.last.time c.self.invariant ok refl written full growing last c.keep_last.ensures.time).1

pub returns : goal.returns
returns c =
    let ws = arc_value c.self.inside.shape in
    let r = recording_of ws c.self.inside.full c.self.inside.growing.items in
    let ok : IsNext r.widths r.samples c.args.s.now = subst (λ v. IsNext v.widths v.samples c.args.s.now) (sym c.self.view_is) c.requires.next in
    let closed : is_ok c.close_full-closed.result ≡ true = search rules in
    let written : c.write_next.new.growing.items ≡ c.self.inside.growing.items ++ cond (eqb (c.self.inside.count % 256) 0) (whole_record c.args.s.now) (change_record ws c.self.inside.last c.args.s.now) =
    c.in_ok-write_next.ensures ∙ ap (λ w. c.self.inside.growing.items ++ cond (eqb (c.self.inside.count % 256) 0) (whole_record c.args.s.now) (change_record w c.self.inside.last c.args.s.now)) c.deref.ensures in
    let full : c.close_full-closed.new.full ≡ full_after (c.self.inside.count + 1) c.self.inside.full c.write_next.new.growing.items = rw closed at c.close_full-closed.ensures.full in
    let growing : c.close_full-closed.new.growing.items ≡ growing_after (c.self.inside.count + 1) c.write_next.new.growing.items = rw closed at c.close_full-closed.ensures.growing in
    let last : c.keep_last.new.last.words ≡ c.args.s.now.words = c.keep_last.ensures.words in
    (pushed ws c.self.inside.full c.self.inside.growing.items c.self.inside.count (c.self.inside.count + 1) c.self.inside.last c.args.s.now c.write_next.new.growing.items
    c.close_full-closed.new.full c.close_full-closed.new.growing.items c.keep_last.new.last.words c.keep_last.new.last.time c.self.invariant ok refl written full growing last c.keep_last.ensures.time).0
    ∙ ap (λ v. with_sample v c.args.s.now) c.self.view_is
