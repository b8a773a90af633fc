use Rattle.std.proofs.Common.{Err, ℕ, Option, Some, ap, map, refl, subst, sym}
use Rattle.std.specs.Prelude.{string_bytes}
use Rattle.cxxsim.specs.Answers.{IsAnswered, file_limit}
use Rattle.cxxsim.specs.Outside.{outside_of}
use Rattle.cxxsim.specs.Words.{command_of}
use Rattle.cxxsim.specs.declared.command.Command.{Command}
use Rattle.cxxsim.proofs.Answering.{answers_by, answers_misuse, answers_wanting}
use Rattle.cxxsim.proofs.program.cxxsim.Goals as goal

pub returns-in-Ok-clause-answered : goal.returns-in-Ok-clause-answered
returns-in-Ok-clause-answered g c =
    let before = outside_of (g.S.Shelf.seen c.args.shelf.now) (g.I.Source.seen c.args.input.now) (g.O.Sink.seen c.args.out.now) (g.G.Sink.seen c.args.log.now) in
    let now = outside_of (g.S.Shelf.seen c.run.new.shelf) (g.I.Source.seen c.run.new.input) (g.O.Sink.seen c.run.new.out) (g.G.Sink.seen c.run.new.log) in
    subst (λ (z : Option Command). IsAnswered file_limit z before now c.status.result) (sym c.in-Ok.ensures.command)
    (subst (λ (n : ℕ). IsAnswered file_limit (Some c.in-Ok.command) before now n) (sym c.status.ensures) (answers_by file_limit before now c.in-Ok.command c.run.result c.run.ensures.went))

pub returns-in-Err-Usage-clause-answered : goal.returns-in-Err-Usage-clause-answered
returns-in-Err-Usage-clause-answered g c =
    let before = outside_of (g.S.Shelf.seen c.args.shelf.now) (g.I.Source.seen c.args.input.now) (g.O.Sink.seen c.args.out.now) (g.G.Sink.seen c.args.log.now) in
    let now = outside_of (g.S.Shelf.seen c.args.shelf.now) (g.I.Source.seen c.args.input.now) (g.O.Sink.seen c.args.out.now) (g.G.Sink.seen c.put_log.new.log) in
    subst (λ (n : ℕ). IsAnswered file_limit (command_of (map string_bytes c.args.words.now)) before now n) (sym c.if_logged.ensures)
    (answers_misuse file_limit (command_of (map string_bytes c.args.words.now)) before now c.put_log.result (c.in-Err-Usage.ensures.usage (ap Err c.in-Err-Usage.field-0-is)) (refl, c.put_log.ensures.got, refl, refl))

pub returns-in-Err-NoMemory-clause-answered : goal.returns-in-Err-NoMemory-clause-answered
returns-in-Err-NoMemory-clause-answered g c =
    let before = outside_of (g.S.Shelf.seen c.args.shelf.now) (g.I.Source.seen c.args.input.now) (g.O.Sink.seen c.args.out.now) (g.G.Sink.seen c.args.log.now) in
    answers_wanting file_limit (command_of (map string_bytes c.args.words.now)) before before (c.in-Err-NoMemory.ensures.no_memory (ap Err c.in-Err-NoMemory.field-0-is)) (refl, refl, refl)
