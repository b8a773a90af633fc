use Rattle.std.proofs.Common.{List, ◌++◌, ◌∷◌, [], length, subst, arith}
use Rattle.driver_check.specs.Invariants.{AreFramesInside}
use Rattle.driver_check.specs.Search.{Needs, row_of}
use Rattle.driver_check.specs.declared.graph.Span.{Span}
use Rattle.driver_check.specs.declared.search.Frame.{Frame}
use Rattle.driver_check.proofs.Places.{last}
use Rattle.driver_check.proofs.Steps.{frames_inside}
use Rattle.driver_check.proofs.search.Search.step.Goals as goal

pub row-requires : goal.row-requires
row-requires c =
    let stack = c.pop.new.self.items in
    let f : Frame = c.in-Some.frame in
    let inside : AreFramesInside c.args.self.now.marks.items (stack ++ f ∷ []) =
    subst (λ (xs : List Frame). AreFramesInside c.args.self.now.marks.items xs) c.in-Some.ensures.items
    (frames_inside (row_of c.args.graph.now) c.args.self.now.marks.items c.args.self.now.order.items c.args.self.now.stack.items c.requires.search) in
    omega (arith, inside (length stack) f (last stack f), c.requires.size)

pub advance-requires-clause-frames : goal.advance-requires-clause-frames
advance-requires-clause-frames c =
    subst (λ (xs : List Frame). AreFramesInside c.args.self.now.marks.items xs) c.in-Some.ensures.items
    (frames_inside (row_of c.args.graph.now) c.args.self.now.marks.items c.args.self.now.order.items c.args.self.now.stack.items c.requires.search)

pub advance-requires-clause-inside : goal.advance-requires-clause-inside
advance-requires-clause-inside c = λ w need.
    let lt = c.requires.graph c.in-Some.frame.vertex w (subst (λ (spans : List Span). Needs spans w) c.row.ensures need) in
    omega (arith, lt, c.requires.size)
