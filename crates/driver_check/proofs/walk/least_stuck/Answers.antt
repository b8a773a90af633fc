use Rattle.std.proofs.Common.{◌≡◌, ◌+◌, List, ◌++◌, ◌∷◌, [], take, get_or, sym, subst, arith}
use Rattle.std.proofs.lemmas.List.{take_more}
use Rattle.std.proofs.lemmas.Option.{slice_get-get_or}
use Rattle.driver_check.specs.Invariants.{IsLeastStuck}
use Rattle.driver_check.specs.declared.graph.Span.{Span}
use Rattle.driver_check.proofs.Nexts.{least_more}
use Rattle.driver_check.proofs.walk.least_stuck.Goals as goal

abbrev none : Span
none = record { first = 0; width = 0 }

pub stuck_within-least-requires : goal.stuck_within-least-requires
stuck_within-least-requires c = λ w inside. c.requires w (c.loop-span.span-index, get_or c.args.row.now c.loop-span.span-index none, slice_get-get_or c.args.row.now c.loop-span.span-index none (omega arith), inside.0, inside.1)

pub loop-span-preserved : goal.loop-span-preserved
loop-span-preserved c =
    let at = c.loop-span.span-index in
    let s : Span = get_or c.args.row.now at none in
    let more : take (at + 1) c.args.row.now ≡ take at c.args.row.now ++ s ∷ [] = take_more c.args.row.now at none (omega arith) in
    subst (λ (row : List Span). IsLeastStuck c.args.marks.now row c.args.bound c.stuck_within-least.result) (sym more)
    (least_more c.args.marks.now (take at c.args.row.now) s c.args.bound c.loop-span.least c.stuck_within-least.result c.loop-span.invariant c.stuck_within-least.ensures.most c.stuck_within-least.ensures.below c.stuck_within-least.ensures.is)
