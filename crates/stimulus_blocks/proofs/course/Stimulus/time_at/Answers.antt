use Rattle.std.proofs.Common.{◌≡◌, ◌≤◌, ◌+◌, sym, ◌∙◌, arith}
use Rattle.sim_base.specs.TimeText.{largest_time}
use Rattle.stimulus_blocks.proofs.Here.{holds, time_is, time_small, time_value, time_some}
use Rattle.stimulus_blocks.proofs.course.Stimulus.time_at.Goals as goal

pub overflow_add-at : goal.overflow_add-at
overflow_add-at c =
    let h = holds _ _ _ _ _ _ _ _ _ c.self.view_is c.self.invariant c.requires.has c.index-placed.ensures in
    let t = time_small c.args.self.now c.args.at.now c.index-placed.result.now h c.requires in
    let m = c.femtoseconds.ensures.most in omega arith

pub unwrap-requires : goal.unwrap-requires
unwrap-requires c =
    let h = holds _ _ _ _ _ _ _ _ _ c.self.view_is c.self.invariant c.requires.has c.index-placed.ensures in
    let t = time_small c.args.self.now c.args.at.now c.index-placed.result.now h c.requires in
    let e = c.femtoseconds.ensures.value in let o = c.offset-offset.ensures in
    let s : c.args.at.now.start + c.femtoseconds.result ≤ largest_time = omega arith in
    rw (c.of.ensures ∙ time_some _ s)

pub returns : goal.returns
returns c =
    let h = holds _ _ _ _ _ _ _ _ _ c.self.view_is c.self.invariant c.requires.has c.index-placed.ensures in
    let t = time_is c.args.self.now c.args.at.now c.index-placed.result.now h c.requires in
    let e = c.femtoseconds.ensures.value in let o = c.offset-offset.ensures in
    let v : c.unwrap.result ≡ c.args.at.now.start + c.femtoseconds.result = time_value _ _ (sym c.of.ensures ∙ c.unwrap.ensures) in
    omega arith
