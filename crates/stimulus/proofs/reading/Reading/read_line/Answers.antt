use Rattle.std.proofs.Common.{◌∙◌, List, ℕ, map, sym, ap}
use Rattle.std.specs.Borrow.{Bor}
use Rattle.stimulus.proofs.LineSteps.{line_comment, line_words, map_ok}
use Rattle.stimulus.proofs.reading.Reading.read_line.Goals as goal

pub returns-then-is_comment-clause-ok : goal.returns-then-is_comment-clause-ok
returns-then-is_comment-clause-ok c = line_comment c.args.circuit.now c.args.self c.args.line.now (sym c.is_comment.ensures ∙ c.if-is_comment.true)

pub returns-clause-ok : goal.returns-clause-ok
returns-clause-ok c =
    map_ok c.read_words.result _ _
    (λ next e. sym (line_words c.args.circuit.now c.args.self c.args.line.now (map (λ x. x.now) c.deref.result.now) (sym c.is_comment.ensures ∙ c.if-is_comment.false)
    (ap (λ (ws : List (Bor (List ℕ))). map (λ x. x.now) ws) c.deref.ensures.value ∙ c.in_ok-words.ensures)) ∙ e)
    c.read_words.ensures.ok

pub returns-clause-fault : goal.returns-clause-fault
returns-clause-fault c kind e =
    sym (line_words c.args.circuit.now c.args.self c.args.line.now (map (λ x. x.now) c.deref.result.now) (sym c.is_comment.ensures ∙ c.if-is_comment.false)
    (ap (λ (ws : List (Bor (List ℕ))). map (λ x. x.now) ws) c.deref.ensures.value ∙ c.in_ok-words.ensures)) ∙ c.read_words.ensures.fault kind e
