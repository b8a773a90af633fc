use Rattle.std.proofs.Common.{sym, ap, arith}
use Rattle.sim_base.specs.BitValue.{BitValue}
use Rattle.signal_words.proofs.Steps.{first_taken, first_left}
use Rattle.signal_words.proofs.reader.SigReader.take.Goals as goal

pub returns-then-n-left-clause-word : goal.returns-then-n-left-clause-word
returns-then-n-left-clause-word c =
    first_taken c.self.inside.nets.now c.self.inside.pieces.now c.in-Some.piece.now c.in-Some.field-0-1.now c.self.inside.at c.args.n c.args.self.now.width c.args.self.now.number c.piece_field-word.result
    c.in-Some.ensures.cases.0 (omega (arith, c.if-n-left.true, c.width.ensures.value)) (ap (λ (v : BitValue). v.number) (sym c.self.view_is)) c.piece_field-word.ensures

pub returns-then-n-left-clause-rest : goal.returns-then-n-left-clause-rest
returns-then-n-left-clause-rest c =
    first_left c.self.inside.nets.now c.self.inside.pieces.now c.in-Some.piece.now c.in-Some.field-0-1.now c.self.inside.at c.args.n c.args.self.now.width c.args.self.now.number c.piece_field-word.result
    c.in-Some.ensures.cases.0 (omega (arith, c.if-n-left.true, c.width.ensures.value)) (ap (λ (v : BitValue). v.number) (sym c.self.view_is)) (ap (λ (v : BitValue). v.width) (sym c.self.view_is))
