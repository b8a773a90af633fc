use Rattle.std.proofs.Common.{◌∙◌, Err, List, ℕ, ap, refl, subst, sym}
use Rattle.cxxsim.specs.Answers.{task}
use Rattle.cxxsim.specs.Outcome.{WentBy}
use Rattle.cxxsim.specs.Outside.{HasGot, outside_of}
use Rattle.cxxsim.specs.Printed.{refusal_line}
use Rattle.cxxsim.specs.declared.outcome.Outcome.TheVariants as outcome
use Rattle.cxxsim.specs.declared.refusal.Refusal.{Refusal}
use Rattle.cxxsim.proofs.Following.{refused, served, traced}
use Rattle.cxxsim.proofs.program.run.Goals as goal

pub returns-in-Trace-clause-went : goal.returns-in-Trace-clause-went
returns-in-Trace-clause-went g c =
    traced c.args.limit
    (outside_of (g.S.Shelf.seen c.args.shelf.now) (g.I.Source.seen c.args.input.now) (g.O.Sink.seen c.args.out.now) (g.G.Sink.seen c.args.log.now))
    (outside_of (g.S.Shelf.seen c.load.new.shelf) (g.I.Source.seen c.args.input.now) (g.O.Sink.seen c.write_trace.new.out) (g.G.Sink.seen c.args.log.now))
    c.args.command.now c.given-design.result.now c.given-stimulus.result.now c.in-Ok.loaded.circuit c.in-Ok.loaded.stimulus c.write_trace.result c.given-design.ensures c.given-stimulus.ensures c.in-Ok.ensures.run
    (record { ends = c.write_trace.ensures.ends; printed = c.write_trace.ensures.printed; begun = c.write_trace.ensures.begun; write = c.write_trace.ensures.write })
    refl refl c.in-Trace.is

pub returns-in-Solo-clause-went : goal.returns-in-Solo-clause-went
returns-in-Solo-clause-went g c =
    served c.args.limit
    (outside_of (g.S.Shelf.seen c.args.shelf.now) (g.I.Source.seen c.args.input.now) (g.O.Sink.seen c.args.out.now) (g.G.Sink.seen c.args.log.now))
    (outside_of (g.S.Shelf.seen c.load.new.shelf) (g.I.Source.seen c.serve_one.new.input) (g.O.Sink.seen c.serve_one.new.out) (g.G.Sink.seen c.serve_one.new.log))
    c.args.command.now c.given-design.result.now c.given-stimulus.result.now c.in-Ok.loaded.circuit c.in-Ok.loaded.stimulus c.serve_one.result c.given-design.ensures c.given-stimulus.ensures c.in-Ok.ensures.run
    c.serve_one.ensures.session c.serve_one.ensures.quiet c.serve_one.ensures.wanting c.in-Solo.is

pub returns-in-Err-Refused-clause-went : goal.returns-in-Err-Refused-clause-went
returns-in-Err-Refused-clause-went g c =
    let before = outside_of (g.S.Shelf.seen c.args.shelf.now) (g.I.Source.seen c.args.input.now) (g.O.Sink.seen c.args.out.now) (g.G.Sink.seen c.args.log.now) in
    let now = outside_of (g.S.Shelf.seen c.load.new.shelf) (g.I.Source.seen c.args.input.now) (g.O.Sink.seen c.args.out.now) (g.G.Sink.seen c.put_log.new.log) in
    subst (λ (r : Refusal). WentBy (task c.args.limit before now c.args.command.now) c.args.command.now.mode (outcome.Refused r c.put_log.result)) (sym c.in-Err-Refused.refusal-is)
    (refused c.args.limit before now c.args.command.now c.given-design.result.now c.given-stimulus.result.now c.in-Err-Refused.refusal c.put_log.result c.given-design.ensures c.given-stimulus.ensures
    (c.in-Err-Refused.ensures.refused c.in-Err-Refused.refusal (ap Err c.in-Err-Refused.field-0-is))
    (subst (λ (line : List ℕ). HasGot c.put_log.result (g.G.Sink.seen c.args.log.now) (g.G.Sink.seen c.put_log.new.log) line) (c.line.ensures ∙ ap refusal_line c.in-Err-Refused.refusal-is) c.put_log.ensures.got)
    refl refl)
