-- The text of a trace, piece by piece.
use Rattle.std.proofs.Common.{◌≡◌, ℕ, zero, suc, ◌+◌, ◌≤◌, List, [], ◌++◌, refl, sym, ◌∙◌, ap, append_assoc, Option, Some, true, add-one, arith, inl, inr, ◌-◌}
use Rattle.std.specs.Prelude.{is_some, nat_lt}
use Rattle.std.proofs.lemmas.Bool.{cases_Bool, cases_lt, cond-true, cond-false, false≢true}
use Rattle.std.proofs.lemmas.List.{append-nil}
use Rattle.circuit.specs.Rounds.{Run, Standing, run_length, settled_samples, standing_after, start}
use Rattle.outside.specs.Sink.{IsSentInPart}
use Rattle.cxxsim.specs.Trace.{HasLeft}
use Rattle.cxxsim.specs.TraceText.{header, last_line, run_text, sample_line, sample_lines, trace_text}
use Rattle.cxxsim.proofs.Begun.{begun_longer, left_more, left_then}

pub no_lines : (run : Run) → sample_lines run 0 ≡ []
unfolding sample_lines
no_lines run = refl

pub one_more_line : (run : Run) (k : ℕ) → sample_lines run (k + 1) ≡ sample_lines run k ++ sample_line run k
unfolding sample_lines
one_more_line run k = ap (sample_lines run) (add-one k)

pub stands_first : (run : Run) (s : Standing) → s ≡ start run.circuit → standing_after run 0 ≡ Some s
unfolding standing_after
stands_first run s e = ap (λ t. Some t) (sym e)

-- at the start the text is the header
pub no_lines_more : (run : Run) → header run.circuit ++ sample_lines run 0 ≡ header run.circuit
no_lines_more run = ap (λ l. header run.circuit ++ l) (no_lines run) ∙ append-nil (header run.circuit)

-- a line more
pub line_more : (run : Run) (k : ℕ) (before held : Option (List ℕ)) (text text' : List ℕ) → HasLeft before held (header run.circuit ++ sample_lines run k) text → text' ≡ text ++ sample_line run k → HasLeft before held (header run.circuit ++ sample_lines run (k + 1)) text'
line_more run k before held text text' printed line =
    left_more before held (header run.circuit ++ sample_lines run k) text (sample_line run k) (header run.circuit ++ sample_lines run (k + 1)) text' printed
    (ap (λ l. header run.circuit ++ l) (one_more_line run k) ∙ sym (append_assoc (header run.circuit) (sample_lines run k) (sample_line run k))) line

pub printed_more : (run : Run) (k : ℕ) (before held held' : Option (List ℕ)) (text text' text'' : List ℕ) → HasLeft before held (header run.circuit ++ sample_lines run k) text → text' ≡ text ++ sample_line run k → HasLeft held held' text' text'' → HasLeft before held' (header run.circuit ++ sample_lines run (k + 1)) text''
printed_more run k before held held' text text' text'' printed line flushed =
    left_then before held held' (header run.circuit ++ sample_lines run (k + 1)) text' text'' (line_more run k before held text text' printed line) flushed

-- the last line
pub printed_last : (run : Run) (k count : ℕ) (before held : Option (List ℕ)) (text text' : List ℕ) → HasLeft before held (header run.circuit ++ sample_lines run k) text → text' ≡ text ++ last_line (nat_lt k count) k → count ≡ run.count → run_length run ≡ k → HasLeft before held (run_text run) text'
printed_last run k count before held text text' printed line all same =
    left_more before held (header run.circuit ++ sample_lines run k) text (last_line (nat_lt k count) k) (run_text run) text' printed
    (ap (λ n. trace_text run n (nat_lt n run.count)) same ∙ ap (λ n. trace_text run k (nat_lt k n)) (sym all))
    line

-- the run is as long as samples settle
settled_most : (run : Run) (n k : ℕ) → k ≤ n → is_some (standing_after run k) ≡ true → k ≤ settled_samples run n
unfolding settled_samples
settled_most run zero k le is = omega arith
settled_most run (suc n) k le is =
    elim (cases_Bool (is_some (standing_after run (suc n)))) [
      | inl more ↦ (let e = cond-true (is_some (standing_after run (suc n))) (suc n) (settled_samples run n) more in omega arith)
      | inr none ↦
          (let e = cond-false (is_some (standing_after run (suc n))) (suc n) (settled_samples run n) none in
          let here : k ≤ n = elim (cases_lt n k) [
            | inl last ↦ (let same : k ≡ suc n = omega arith in absurd (false≢true (sym none ∙ ap (λ j. is_some (standing_after run j)) (sym same) ∙ is)))
            | inr le ↦ le
          ] in
          let rest = settled_most run n k here is in omega arith)
    ]

-- more lines begin with fewer
more_lines : (run : Run) (k more : ℕ) → (rest : List ℕ) × (sample_lines run (k + more) ≡ sample_lines run k ++ rest)
more_lines run k zero = ([], ap (sample_lines run) (let e : k + 0 ≡ k = omega arith in e) ∙ sym (append-nil (sample_lines run k)))
more_lines run k (suc more) =
    let (rest, e) = more_lines run k more in (
      rest ++ sample_line run (k + more),
      ap (sample_lines run) (let e : k + suc more ≡ k + more + 1 = omega arith in e) ∙ one_more_line run (k + more) ∙ ap (λ l. l ++ sample_line run (k + more)) e ∙ append_assoc (sample_lines run k) rest (sample_line run (k + more)),
    )

-- the whole text begins with the lines of the samples that settle
whole_begins : (run : Run) (k : ℕ) → k ≤ run.count → is_some (standing_after run k) ≡ true → (more : List ℕ) × (run_text run ≡ (header run.circuit ++ sample_lines run k) ++ more)
whole_begins run k le is =
    let most = settled_most run run.count k le is in
    let (rest, e) = more_lines run k (run_length run - k) in
    let last = last_line (nat_lt (run_length run) run.count) (run_length run) in (
      rest ++ last,
      ap (λ l. header run.circuit ++ l ++ last) (ap (sample_lines run) (let e : run_length run ≡ k + (run_length run - k) = omega arith in e) ∙ e)
          ∙ ap (λ l. l ++ last) (sym (append_assoc (header run.circuit) (sample_lines run k) rest))
          ∙ append_assoc (header run.circuit ++ sample_lines run k) rest last,
    )

-- what was handed on up to a sample that settles is a beginning of the whole text
pub begun_here : (run : Run) (k : ℕ) (before now : Option (List ℕ)) → k ≤ run.count → is_some (standing_after run k) ≡ true → IsSentInPart before now (header run.circuit ++ sample_lines run k) → IsSentInPart before now (run_text run)
begun_here run k before now le is begun =
    let (more, e) = whole_begins run k le is in begun_longer before now (header run.circuit ++ sample_lines run k) more (run_text run) begun e
