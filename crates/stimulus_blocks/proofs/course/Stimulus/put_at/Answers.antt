use Rattle.std.proofs.Common.{◌∙◌, ap, subst}
use Rattle.stimulus_blocks.specs.Courses.{Course, IsCourse}
use Rattle.stimulus_blocks.proofs.Here.{holds, columns_there, values_fit, inputs_put}
use Rattle.stimulus_blocks.proofs.course.Stimulus.put_at.Goals as goal

pub put_row-requires-clause-there : goal.put_row-requires-clause-there
put_row-requires-clause-there c =
    let h = holds _ _ _ _ _ _ _ _ _ c.self.view_is c.self.invariant c.requires.stands.has c.index-placed.ensures in
    let good : IsCourse c.args.self.now = subst (λ (s : Course). IsCourse s) c.self.view_is c.self.invariant.1 in
    columns_there c.args.self.now c.args.at.now c.index-placed.result.now h c.requires.stands good c.values-row.result.now c.as_slice.result.now (c.as_slice.ensures ∙ ap (λ (s : Course). s.columns) c.self.view_is) c.values-row.ensures

pub put_row-requires-clause-fit : goal.put_row-requires-clause-fit
put_row-requires-clause-fit c =
    let h = holds _ _ _ _ _ _ _ _ _ c.self.view_is c.self.invariant c.requires.stands.has c.index-placed.ensures in
    let good : IsCourse c.args.self.now = subst (λ (s : Course). IsCourse s) c.self.view_is c.self.invariant.1 in
    values_fit c.args.self.now c.args.at.now c.index-placed.result.now h c.requires.stands good c.values-row.result.now c.as_slice.result.now (c.as_slice.ensures ∙ ap (λ (s : Course). s.columns) c.self.view_is) c.values-row.ensures _ c.requires.room

pub returns-clause-inputs : goal.returns-clause-inputs
returns-clause-inputs c =
    let h = holds _ _ _ _ _ _ _ _ _ c.self.view_is c.self.invariant c.requires.stands.has c.index-placed.ensures in
    let good : IsCourse c.args.self.now = subst (λ (s : Course). IsCourse s) c.self.view_is c.self.invariant.1 in
    c.put_row.ensures.numbers ∙ inputs_put c.args.self.now c.args.at.now c.index-placed.result.now h c.requires.stands good c.values-row.result.now c.as_slice.result.now (c.as_slice.ensures ∙ ap (λ (s : Course). s.columns) c.self.view_is) c.values-row.ensures
