-- The lines of a text, one after another.
use Rattle.std.proofs.Common.{◌≡◌, ℕ, ◌+◌, List, [], ◌∷◌, true, false, refl, sym, ◌∙◌, ap, Result, Ok, Err}
use Rattle.std.specs.Prelude.{IfOk}
use Rattle.std.proofs.lemmas.Bool.{cond-true, cond-false}
use Rattle.circuit.specs.declared.netlist.Circuit.{Circuit}
use Rattle.stimulus_text.specs.Lines.{is_comment, words_of}
use Rattle.stimulus_text.specs.declared.fault.StimFault.{StimFault}
use Rattle.stimulus_text.specs.declared.fault.StimFault.TheVariants.{At}
use Rattle.stimulus_text.specs.declared.fault.StimFaultKind.{StimFaultKind}
use Rattle.stimulus_blocks.specs.Courses.{Course}
use Rattle.stimulus.specs.Reading.{Fails, at_end, at_line, course_from}
use Rattle.stimulus.specs.Steps.{end_step, line_step, words_step}
use Rattle.stimulus.specs.Stops.{stopped}
use Rattle.stimulus.specs.declared.reading.Reading.{Reading}
use Rattle.stimulus.specs.declared.stop.Stop.{Stop}
use Rattle.stimulus.specs.declared.stop.Stop.TheVariants as stop

pub map_ok : {T E : Type 0} (r : Result T E) (P Q : T → Type 0) → ((x : T) → P x → Q x) → IfOk r P → IfOk r Q
map_ok (Ok x) P Q f h = f x h
map_ok (Err e) P Q f h = tt

pub line_comment : (c : Circuit) (place : Reading) (line : List ℕ) → is_comment line ≡ true → line_step c place line ≡ Ok place
unfolding line_step
line_comment c place line e = cond-true (is_comment line) (Ok place) (words_step c place (words_of line)) e

pub line_words : (c : Circuit) (place : Reading) (line : List ℕ) (words : List (List ℕ)) → is_comment line ≡ false → words ≡ words_of line → words_step c place words ≡ line_step c place line
unfolding line_step
line_words c place line words e is = ap (words_step c place) is ∙ sym (cond-false (is_comment line) (Ok place) (words_step c place (words_of line)) e)

course_cons : (c : Circuit) (n : ℕ) (place : Reading) (line : List ℕ) (lines : List (List ℕ)) → course_from c n place (line ∷ lines) ≡ at_line (n + 1) (λ next. course_from c (n + 1) next lines) (line_step c place line)
unfolding course_from
course_cons c n place line lines = refl

course_end : (c : Circuit) (n : ℕ) (place : Reading) → course_from c n place [] ≡ at_end n (end_step place)
unfolding course_from
course_end c n place = refl

module _ (c : Circuit) (n : ℕ) (place : Reading) (all : List (List ℕ)) where
  pub goes_on : (line : List ℕ) (lines : List (List ℕ)) (next : Reading) → all ≡ line ∷ lines → line_step c place line ≡ Ok next → course_from c n place all ≡ course_from c (n + 1) next lines
  goes_on line lines next is e = ap (course_from c n place) is ∙ course_cons c n place line lines ∙ ap (at_line (n + 1) (λ next. course_from c (n + 1) next lines)) e

  pub fails_at : (line : List ℕ) (lines : List (List ℕ)) (kind : StimFaultKind) → all ≡ line ∷ lines → line_step c place line ≡ Err kind → course_from c n place all ≡ Err (At kind (n + 1))
  fails_at line lines kind is e = ap (course_from c n place) is ∙ course_cons c n place line lines ∙ ap (at_line (n + 1) (λ next. course_from c (n + 1) next lines)) e

  pub ends : (end : Result Course StimFaultKind) → all ≡ [] → end ≡ end_step place → course_from c n place all ≡ at_end n end
  ends end is e = ap (course_from c n place) is ∙ course_end c n place ∙ ap (at_end n) (sym e)

pub stopped_fails : (why : Stop) (n : ℕ) (read : Result Course StimFault) → ((kind : StimFaultKind) → why ≡ stop.Fault kind → read ≡ Err (At kind n)) → Fails (stopped why n) read
stopped_fails (stop.Fault kind) n read h = h kind refl
stopped_fails stop.NoMemory n read h = tt
