use Rattle.std.proofs.Common.{refl, ◌≡◌, ◌+◌, ◌*◌, ◌≤◌, ◌++◌, ◌∷◌, [], List, ℕ, sym, ap, subst, ◌∙◌}
use Rattle.sim_base.specs.TimeText.{largest_time}
use Rattle.stimulus_blocks.specs.Blocks.{IsBlock, length_in, length_of, samples_in, samples_of}
use Rattle.stimulus_blocks.specs.Courses.{Course, IsCourse}
use Rattle.stimulus_blocks.specs.Placed.{blocks_of, IsPlaced}
use Rattle.stimulus_blocks.specs.declared.block.Block.{Block}
use Rattle.stimulus_blocks.specs.declared.course.Placed.{Placed}
use Rattle.stimulus_blocks.proofs.Here.{time_value}
use Rattle.stimulus_blocks.proofs.Placing.{blocks_push, course_push, placed_push}
use Rattle.stimulus_blocks.proofs.course.Stimulus.push.Goals as goal

grown : (widths columns : List ℕ) (ps qs : List Placed) (samples finish more later : ℕ) (p : Placed) (self : Course) → ◌≡◌ {A = Course} (record { widths = widths; columns = columns; blocks = blocks_of ps }) self
    → IsPlaced ps samples finish × IsCourse (record { widths = widths; columns = columns; blocks = blocks_of ps })
    → qs ≡ ps ++ p ∷ [] → p.first ≡ samples → p.start ≡ finish → more ≡ samples + samples_of p.block → later ≡ finish + length_of p.block
    → IsBlock self.widths p.block → samples_in self.blocks + samples_of p.block ≤ 16777216 → length_in self.blocks + length_of p.block ≤ largest_time
    → IsPlaced qs more later × IsCourse (record { widths = widths; columns = columns; blocks = blocks_of qs })
grown widths columns ps qs samples finish more later p self view good is first start more_is later_is block few ends =
    let s : Course = record { widths = widths; columns = columns; blocks = blocks_of ps } in
    let course : IsCourse (record { widths = widths; columns = columns; blocks = blocks_of ps ++ p.block ∷ [] }) =
    course_push (record { widths = widths; columns = columns; blocks = blocks_of ps }) p.block good.1
    (subst (λ (x : Course). IsBlock x.widths p.block) (sym view) block)
    (subst (λ (x : Course). samples_in x.blocks + samples_of p.block ≤ 16777216) (sym view) few)
    (subst (λ (x : Course). length_in x.blocks + length_of p.block ≤ largest_time) (sym view) ends) in (
      subst (λ (l : List Placed). IsPlaced l more later) (sym is) (placed_push ps p samples finish more later good.0 first start more_is later_is),
      subst (λ (l : List Block). IsCourse (record { widths = widths; columns = columns; blocks = l })) (sym (ap blocks_of is ∙ blocks_push ps p)) course,
    )

pub invariant_of-result : goal.invariant_of-result
invariant_of-result c =
    let len = c.len.ensures in
    let time : c.unwrap.result ≡ c.femtoseconds-2.result + c.from.result * c.femtoseconds.result = time_value _ _ (sym c.of.ensures ∙ c.unwrap.ensures) in
    grown c.self.inside.widths c.self.inside.columns c.self.inside.blocks.items c.push.new.self.items c.self.inside.count c.self.inside.end _ _ (record { first = c.self.inside.count; start = c.self.inside.end; block = c.args.block }) c.args.self c.self.view_is c.self.invariant
    c.in_ok-push.ensures.items refl refl
    (ap (λ n. c.self.inside.count + c.args.block.repeats * n) c.len.ensures)
    (time ∙ ap (λ t. t + c.from.result * c.femtoseconds.result) c.femtoseconds-2.ensures.value ∙ ap (λ r. c.self.inside.end + r * c.femtoseconds.result) c.from.ensures ∙ ap (λ p. c.self.inside.end + c.args.block.repeats * p) c.femtoseconds.ensures.value)
    c.requires.block c.requires.few c.requires.ends
