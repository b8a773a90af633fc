use Rattle.std.proofs.Common.{◌≡◌, ◌∷◌, ◌+◌, ◌∙◌, ℕ, List, length, get_or, take, drop, sym, ap, arith}
use Rattle.std.proofs.lemmas.Bool.{eqb-true, eq-eqb}
use Rattle.std.proofs.lemmas.Bool.Decides.{nat_tests}
use Rattle.stimulus_text.specs.Lines.{lines_of, without_return}
use Rattle.stimulus_text.proofs.FirstLines.{first_line, last_line, lines_short, behind, behind_all}
use Rattle.stimulus_text.proofs.lines.next_line.Goals as goal

pub returns-then-is_empty-clause-lines : goal.returns-then-is_empty-clause-lines
returns-then-is_empty-clause-lines c = lines_short c.args.text.now (grind (arith, nat_tests))

pub returns-in-Some-clause-lines : goal.returns-in-Some-clause-lines
returns-in-Some-clause-lines c =
    let found = c.in-Some.ensures in
    let at : get_or c.args.text.now c.in-Some.end 0 ≡ 10 = eqb-true (get_or c.args.text.now c.in-Some.end 0) 10 found.1 in
    let first : lines_of c.args.text.now ≡ without_return (take c.in-Some.end c.args.text.now) ∷ lines_of (drop (c.in-Some.end + 1) c.args.text.now) =
    first_line c.args.text.now c.in-Some.end found.0.high at (λ k lt e. found.0.before k (omega arith) lt (eq-eqb (get_or c.args.text.now k 0) 10 e)) in
    first ∙ ap (λ (l : List ℕ). l ∷ lines_of (drop (c.in-Some.end + 1) c.args.text.now)) (sym c.without_return.ensures)
    ∙ ap (λ (d : List ℕ). c.without_return.result.now ∷ lines_of d) (sym (behind c.args.text.now (c.in-Some.end + 1)))

pub returns-in-None-clause-lines : goal.returns-in-None-clause-lines
returns-in-None-clause-lines c =
    last_line c.args.text.now (grind (arith, nat_tests)) (λ k lt e. c.in-None.ensures k (omega arith) lt (eq-eqb (get_or c.args.text.now k 0) 10 e))
    ∙ ap (λ (ls : List (List ℕ)). c.args.text.now ∷ ls) (sym (ap lines_of (behind c.args.text.now (length c.args.text.now)) ∙ behind_all c.args.text.now))
