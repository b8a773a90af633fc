use Rattle.std.proofs.Common.{◌+◌, subst, arith}
use Rattle.stimulus_blocks.specs.Courses.{Course, IsCourse}
use Rattle.stimulus_blocks.proofs.Here.{holds, next_repeat, next_row, repeat_before, small, time_small}
use Rattle.stimulus_blocks.proofs.course.Stimulus.find_behind.Goals as goal

pub overflow_add-sample : goal.overflow_add-sample
overflow_add-sample c =
    let h = holds _ _ _ _ _ _ _ _ _ c.self.view_is c.self.invariant c.requires.stands.has c.index-placed.ensures in
    let good : IsCourse c.args.self.now = subst (λ (s : Course). IsCourse s) c.self.view_is c.self.invariant.1 in
    let l = small c.args.self.now c.args.at c.index-placed.result.now h c.requires.stands good in let m = l.0 in omega arith

pub overflow_add-row : goal.overflow_add-row
overflow_add-row c =
    let h = holds _ _ _ _ _ _ _ _ _ c.self.view_is c.self.invariant c.requires.stands.has c.index-placed.ensures in
    let good : IsCourse c.args.self.now = subst (λ (s : Course). IsCourse s) c.self.view_is c.self.invariant.1 in
    let l = small c.args.self.now c.args.at c.index-placed.result.now h c.requires.stands good in let n = l.2 in omega arith

pub overflow_add-repeat : goal.overflow_add-repeat
overflow_add-repeat c =
    let h = holds _ _ _ _ _ _ _ _ _ c.self.view_is c.self.invariant c.requires.stands.has c.index-placed.ensures in
    let good : IsCourse c.args.self.now = subst (λ (s : Course). IsCourse s) c.self.view_is c.self.invariant.1 in
    let l = small c.args.self.now c.args.at c.index-placed.result.now h c.requires.stands good in let n = l.1 in omega arith

pub returns-then-row-len-clause-stands : goal.returns-then-row-len-clause-stands
returns-then-row-len-clause-stands c =
    let h = holds _ _ _ _ _ _ _ _ _ c.self.view_is c.self.invariant c.requires.stands.has c.index-placed.ensures in
    next_row c.args.self.now c.args.at c.index-placed.result.now h c.requires.stands (omega (arith, c.if-row-len.true, c.len.ensures))

pub overflow_add-start : goal.overflow_add-start
overflow_add-start c =
    let h = holds _ _ _ _ _ _ _ _ _ c.self.view_is c.self.invariant c.requires.stands.has c.index-placed.ensures in
    let t = time_small c.args.self.now c.args.at c.index-placed.result.now h c.requires.stands in
    let m = c.femtoseconds.ensures.most in omega arith

pub returns-clause-stands : goal.returns-clause-stands
returns-clause-stands c =
    let h = holds _ _ _ _ _ _ _ _ _ c.self.view_is c.self.invariant c.requires.stands.has c.index-placed.ensures in
    let b = repeat_before c.args.self.now c.args.at c.index-placed.result.now h c.requires.stands in
    let e = c.femtoseconds.ensures.value in
    next_repeat c.args.self.now c.args.at c.index-placed.result.now h c.requires.stands (omega (arith, c.if-row-len.false, c.len.ensures)) (omega (arith, c.if-repeat-block.false)) (c.args.at.start + c.femtoseconds.result) (omega arith)
