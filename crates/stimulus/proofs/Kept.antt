-- Each line keeps the widths of the inputs, which the line that names them gives.
use Rattle.std.proofs.Common.{◌≡◌, ℕ, suc, ◌+◌, ◌<◌, List, [], ◌∷◌, length, get_or, map, Bool, cond, eqb, leb, ltb, ◌&&◌, refl, sym, ◌∙◌, ap, subst, arith, inl, inr, Option, Some, None, Result, Ok, Err}
use Rattle.std.specs.Prelude.{bytes_eq, codes, option_and_then}
use Rattle.std.specs.Option.{option_map}
use Rattle.std.proofs.lemmas.Bool.{cases_Bool, cond-true, cond-false}
use Rattle.std.proofs.lemmas.List.{get_or-map}
use Rattle.sim_base.specs.TimeText.{read_time}
use Rattle.circuit.specs.declared.netlist.Circuit.{Circuit}
use Rattle.stimulus_text.specs.Lines.{is_comment, words_of}
use Rattle.stimulus_text.specs.declared.fault.StimFault.{StimFault}
use Rattle.stimulus_text.specs.declared.fault.StimFaultKind.{StimFaultKind}
use Rattle.stimulus_text.specs.declared.fault.StimFaultKind.TheVariants as fault
use Rattle.stimulus_blocks.specs.Courses.{Course, input_widths}
use Rattle.stimulus_blocks.specs.declared.block.Block.{Block}
use Rattle.stimulus.specs.Inputs.{columns_of, course_named, course_over, inputs_named, nets_named, width_of}
use Rattle.stimulus.specs.Reading.{at_end, at_line, course_from}
use Rattle.stimulus.specs.Steps.{Head, Step, block_line, closed, closed_step, end_line, end_step, fault_at_end, head_of, head_step, least_behind, line_step, named_step, offset_step, opened, row_line, values_of, values_step, version_line, with_row, words_step}
use Rattle.stimulus.specs.declared.reading.Reading.{Reading}
use Rattle.stimulus.specs.declared.reading.Reading.TheVariants as reading
use Rattle.stimulus.proofs.Columns.{columns_good}

abbrev HasInputs : Circuit → Course → Type 0
HasInputs c course = input_widths course ≡ map (width_of c) c.inputs

abbrev Keeps : Circuit → Reading → Type 0
Keeps c (reading.Between course) = HasInputs c course
Keeps c (reading.Within course block) = HasInputs c course
Keeps c _ = Unit {0}

-- a choice that gave a value
chosen : {X E : Type 0} (b : Bool) (r : Result X E) (e : E) (x : X) → cond b r (Err e) ≡ Ok x → r ≡ Ok x
chosen b r e x is = elim (cases_Bool b) [
  | inl t ↦ sym (cond-true b r (Err e) t) ∙ is
  | inr f ↦ (let g : Err e ≡ Ok x = sym (cond-false b r (Err e) f) ∙ is in cc g)
]

pub chosen_last : {X E : Type 0} (b : Bool) (r : Result X E) (e : E) (x : X) → cond b (Err e) r ≡ Ok x → r ≡ Ok x
chosen_last b r e x is = elim (cases_Bool b) [
  | inl t ↦ (let g : Err e ≡ Ok x = sym (cond-true b (Err e) r t) ∙ is in cc g)
  | inr f ↦ sym (cond-false b (Err e) r f) ∙ is
]

-- ---- the line that names the inputs

mapped : (f : ℕ → ℕ) (nets columns : List ℕ) → ((n : ℕ) → n < length columns → get_or columns n 0 < length nets) → map (λ column. get_or (map f nets) column 0) columns ≡ map f (map (λ column. get_or nets column 0) columns)
mapped f nets [] there = refl
mapped f nets (column ∷ columns) there =
    ap (λ n. n ∷ map (λ column. get_or (map f nets) column 0) columns) (get_or-map f nets column 0 0 (there 0 (omega arith)))
    ∙ ap (λ ns. f (get_or nets column 0) ∷ ns) (mapped f nets columns (λ n lt. there (suc n) (omega arith)))

over_has : (c : Circuit) (nets : List ℕ) (o : Option (List ℕ)) (course : Course) → columns_of nets c.inputs ≡ o → option_map (course_over c nets) o ≡ Some course → HasInputs c course
over_has c nets None course e is = cc is
over_has c nets (Some columns) course e is =
    let good = columns_good nets c.inputs columns e in
    let s : course_over c nets columns ≡ course = cc is in
    subst (λ (x : Course). HasInputs c x) s (mapped (width_of c) nets columns good.there ∙ ap (map (width_of c)) good.named)

named_has : (c : Circuit) (nets : List ℕ) (course : Course) → course_named c nets ≡ Some course → HasInputs c course
named_has c nets course e = elim (cases_Bool (eqb (length nets) (length c.inputs))) [
  | inl t ↦ over_has c nets (columns_of nets c.inputs) course refl (sym (cond-true (eqb (length nets) (length c.inputs)) (option_map (course_over c nets) (columns_of nets c.inputs)) None t) ∙ e)
  | inr f ↦ (let g : None ≡ Some course = sym (cond-false (eqb (length nets) (length c.inputs)) (option_map (course_over c nets) (columns_of nets c.inputs)) None f) ∙ e in cc g)
]

words_have : (c : Circuit) (o : Option (List ℕ)) (course : Course) → option_and_then (course_named c) o ≡ Some course → HasInputs c course
words_have c None course e = cc e
words_have c (Some nets) course e = named_has c nets course e

inputs_have : (c : Circuit) (words : List (List ℕ)) (course : Course) → inputs_named c words ≡ Some course → HasInputs c course
unfolding inputs_named
inputs_have c words course e = words_have c (nets_named c words) course e

named_keeps : (c : Circuit) (o : Option Course) (next : Reading) → ((course : Course) → o ≡ Some course → HasInputs c course) → named_step o ≡ Ok next → Keeps c next
named_keeps c None next has e = cc e
named_keeps c (Some course) next has e = let s : reading.Between course ≡ next = cc e in subst (λ (r : Reading). Keeps c r) s (has course refl)

-- ---- the other lines

version_keeps : (c : Circuit) (words : List (List ℕ)) (next : Reading) → version_line words ≡ Ok next → Keeps c next
version_keeps c [] next e = cc e
version_keeps c (word ∷ []) next e = cc e
version_keeps c (word ∷ version ∷ []) next e =
    let f : Ok reading.Headed ≡ Ok next = chosen (bytes_eq word (codes "stimulus") && bytes_eq version (codes "0")) (Ok reading.Headed) fault.Head next e in
    let s : reading.Headed ≡ next = cc f in subst (λ (r : Reading). Keeps c r) s tt
version_keeps c (word ∷ version ∷ more ∷ words) next e = cc e

head_keeps : (c : Circuit) (course : Course) (head : Head) (next : Reading) → HasInputs c course → head_step course head ≡ Ok next → Keeps c next
head_keeps c course (Ok head) next has e = let s : reading.Within course (opened head.0 head.1) ≡ next = cc e in subst (λ (r : Reading). Keeps c r) s has
head_keeps c course (Err kind) next has e = cc e

closed_keeps : (c : Circuit) (course : Course) (block : Block) (o : Option StimFaultKind) (next : Reading) → HasInputs c course → closed_step course block o ≡ Ok next → Keeps c next
closed_keeps c course block None next has e = let s : reading.Between (closed course block) ≡ next = cc e in subst (λ (r : Reading). Keeps c r) s has
closed_keeps c course block (Some kind) next has e = cc e

values_keep : (c : Circuit) (course : Course) (block : Block) (offset : ℕ) (o : Option (List ℕ)) (next : Reading) → HasInputs c course → values_step course block offset o ≡ Ok next → Keeps c next
values_keep c course block offset None next has e = cc e
values_keep c course block offset (Some values) next has e = let s : reading.Within course (with_row block offset values) ≡ next = cc e in subst (λ (r : Reading). Keeps c r) s has

offset_keeps : (c : Circuit) (course : Course) (block : Block) (values : List (List ℕ)) (o : Option ℕ) (next : Reading) → HasInputs c course → offset_step course block values o ≡ Ok next → Keeps c next
offset_keeps c course block values None next has e = cc e
offset_keeps c course block values (Some offset) next has e =
    values_keep c course block offset (values_of course.widths values) next has
    (chosen (leb (least_behind block.rows) offset && ltb offset block.period) (values_step course block offset (values_of course.widths values)) fault.NotRising next e)

block_keeps : (c : Circuit) (course : Course) (block : Block) (word : List ℕ) (words : List (List ℕ)) (next : Reading) → HasInputs c course → block_line course block word words ≡ Ok next → Keeps c next
block_keeps c course block word words next has e =
    let rest : cond (bytes_eq word (codes "end")) (end_line course block words) (row_line course block word words) ≡ Ok next =
    chosen_last (bytes_eq word (codes "block")) (cond (bytes_eq word (codes "end")) (end_line course block words) (row_line course block word words)) fault.Head next e in
    elim (cases_Bool (bytes_eq word (codes "end"))) [
      | inl t ↦ closed_keeps c course block (fault_at_end course block words) next has (sym (cond-true (bytes_eq word (codes "end")) (end_line course block words) (row_line course block word words) t) ∙ rest)
      | inr f ↦ offset_keeps c course block words (read_time word) next has (sym (cond-false (bytes_eq word (codes "end")) (end_line course block words) (row_line course block word words) f) ∙ rest)
    ]

words_keep : (c : Circuit) (place : Reading) (words : List (List ℕ)) (next : Reading) → Keeps c place → words_step c place words ≡ Ok next → Keeps c next
words_keep c place [] next has e = let s : place ≡ next = cc e in subst (λ (r : Reading). Keeps c r) s has
words_keep c reading.Start (word ∷ words) next has e = version_keeps c (word ∷ words) next e
words_keep c reading.Headed (word ∷ words) next has e =
    named_keeps c (inputs_named c words) next (inputs_have c words) (chosen (bytes_eq word (codes "inputs")) (named_step (inputs_named c words)) fault.InputNames next e)
words_keep c (reading.Between course) (word ∷ words) next has e =
    head_keeps c course (head_of words) next has (chosen (bytes_eq word (codes "block")) (head_step course (head_of words)) fault.Head next e)
words_keep c (reading.Within course block) (word ∷ words) next has e = block_keeps c course block word words next has e

line_keeps : (c : Circuit) (place : Reading) (line : List ℕ) (next : Reading) → Keeps c place → line_step c place line ≡ Ok next → Keeps c next
unfolding line_step
line_keeps c place line next has e = elim (cases_Bool (is_comment line)) [
  | inl t ↦ (let f : Ok place ≡ Ok next = sym (cond-true (is_comment line) (Ok place) (words_step c place (words_of line)) t) ∙ e in let s : place ≡ next = cc f in subst (λ (r : Reading). Keeps c r) s has)
  | inr f ↦ words_keep c place (words_of line) next has (sym (cond-false (is_comment line) (Ok place) (words_step c place (words_of line)) f) ∙ e)
]

-- ---- the text

end_has : (c : Circuit) (place : Reading) (s : Course) → Keeps c place → end_step place ≡ Ok s → HasInputs c s
end_has c reading.Start s has e = cc e
end_has c reading.Headed s has e = cc e
end_has c (reading.Between course) s has e =
    let f : Ok course ≡ Ok s = chosen_last (eqb (length course.blocks) 0) (Ok course) fault.Empty s e in
    let is : course ≡ s = cc f in subst (λ (x : Course). HasInputs c x) is has
end_has c (reading.Within course block) s has e = cc e

pub ended : (n : ℕ) (r : Result Course StimFaultKind) (s : Course) → at_end n r ≡ Ok s → r ≡ Ok s
ended n (Ok course) s e = (let is : course ≡ s = cc e in ap (λ x. Ok x) is)
ended n (Err kind) s e = cc e

pub went_on : (n : ℕ) (go_on : Reading → Result Course StimFault) (r : Step) (s : Course) → at_line n go_on r ≡ Ok s → (next : Reading) × (r ≡ Ok next) × (go_on next ≡ Ok s)
went_on n go_on (Ok next) s e = (next, refl, e)
went_on n go_on (Err kind) s e = cc e

course_has : (c : Circuit) (n : ℕ) (place : Reading) (lines : List (List ℕ)) (s : Course) → Keeps c place → course_from c n place lines ≡ Ok s → HasInputs c s
unfolding course_from
course_has c n place [] s has e = end_has c place s has (ended n (end_step place) s e)
course_has c n place (line ∷ lines) s has e =
    let a = went_on (n + 1) (λ next. course_from c (n + 1) next lines) (line_step c place line) s e in
    course_has c (n + 1) a.0 lines s (line_keeps c place line a.0 has a.1) a.2

pub inputs_kept : (c : Circuit) (lines : List (List ℕ)) (s : Course) → course_from c 0 reading.Start lines ≡ Ok s → input_widths s ≡ map (width_of c) c.inputs
inputs_kept c lines s e = course_has c 0 reading.Start lines s tt e
