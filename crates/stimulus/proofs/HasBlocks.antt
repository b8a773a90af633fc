-- A stimulus that was read has a block.
use Rattle.std.proofs.Common.{◌≡◌, ℕ, ◌+◌, ◌<◌, List, [], ◌∷◌, length, cond, eqb, sym, ap, ◌∙◌, subst, arith, inl, inr, Ok, Err}
use Rattle.std.proofs.lemmas.Bool.{cases_eq}
use Rattle.circuit.specs.declared.netlist.Circuit.{Circuit}
use Rattle.stimulus_text.specs.declared.fault.StimFaultKind.TheVariants as fault
use Rattle.stimulus_blocks.specs.Courses.{Course}
use Rattle.stimulus.specs.Reading.{course_from}
use Rattle.stimulus.specs.Steps.{end_step, line_step}
use Rattle.stimulus.specs.declared.reading.Reading.{Reading}
use Rattle.stimulus.specs.declared.reading.Reading.TheVariants as reading
use Rattle.stimulus.proofs.Kept.{chosen_last, ended, went_on}

some_blocks : (course s : Course) → cond (eqb (length course.blocks) 0) (Err fault.Empty) (Ok course) ≡ Ok s → 0 < length s.blocks
some_blocks course s e =
    let f : Ok course ≡ Ok s = chosen_last (eqb (length course.blocks) 0) (Ok course) fault.Empty s e in
    let same : course ≡ s = cc f in
    elim (cases_eq (length course.blocks) 0) [
      | inl none ↦ (let g : Err fault.Empty ≡ Ok s = sym (ap (λ n. cond (eqb n 0) (Err fault.Empty) (Ok course)) none) ∙ e in cc g)
      | inr some ↦ subst (λ (x : Course). 0 < length x.blocks) same (omega (arith, some))
    ]

end_blocks : (place : Reading) (s : Course) → end_step place ≡ Ok s → 0 < length s.blocks
end_blocks reading.Start s e = cc e
end_blocks reading.Headed s e = cc e
end_blocks (reading.Between course) s e = some_blocks course s e
end_blocks (reading.Within course block) s e = cc e

pub has_blocks : (c : Circuit) (n : ℕ) (place : Reading) (lines : List (List ℕ)) (s : Course) → course_from c n place lines ≡ Ok s → 0 < length s.blocks
unfolding course_from
has_blocks c n place [] s e = end_blocks place s (ended n (end_step place) s e)
has_blocks c n place (line ∷ lines) s e =
    let a = went_on (n + 1) (λ next. course_from c (n + 1) next lines) (line_step c place line) s e in
    has_blocks c (n + 1) a.0 lines s a.2
