use Rattle.std.proofs.Common.{ℕ, Some, subst, sym}
use Rattle.cxxsim.specs.Answers.{IsAnswered, file_limit}
use Rattle.cxxsim.specs.Outside.{outside_of}
use Rattle.cxxsim.proofs.Answering.{answers_by}
use Rattle.cxxsim.proofs.program.solo.Goals as goal

pub returns-clause-answered : goal.returns-clause-answered
returns-clause-answered g c =
    let before = outside_of (g.S.Shelf.seen c.args.shelf.now) (g.I.Source.seen c.args.input.now) (g.O.Sink.seen c.args.out.now) (g.G.Sink.seen c.args.log.now) in
    let now = outside_of (g.S.Shelf.seen c.run.new.shelf) (g.I.Source.seen c.run.new.input) (g.O.Sink.seen c.run.new.out) (g.G.Sink.seen c.run.new.log) in
    subst (λ (n : ℕ). IsAnswered file_limit (Some c.args.command.now) before now n) (sym c.status.ensures) (answers_by file_limit before now c.args.command.now c.run.result c.run.ensures.went)
