use Rattle.std.proofs.Common.{◌≡◌, ◌+◌, ◌++◌, ◌∷◌, [], Bool, List, Some, None, drop, false, get_or, slice_get, ap, ◌∙◌, rules}
use Rattle.std.proofs.lemmas.Option.{slice_get-get_or}
use Rattle.design_walk.specs.Walks.{clash_flags}
use Rattle.design_walk.proofs.Joined.{flags_all, flags_end, flags_more}
use Rattle.design_walk.proofs.flags.either.Goals as goal

pub returns-in_default : goal.returns-in_default
returns-in_default c =
    let cells = c.args.cells.now in
    let items = c.args.items.now in
    let none : slice_get items c.loop-place.place ≡ None = search rules in
    flags_end cells items c.loop-place.flags (clash_flags cells items) c.loop-place.place c.loop-place.invariant none

pub loop-place-preserved : goal.loop-place-preserved
loop-place-preserved c =
    let cells = c.args.cells.now in
    let items = c.args.items.now in
    let place = c.loop-place.place in
    let there : slice_get items place ≡ Some c.in-Some.item.now = search rules in
    ap (λ (fs : List Bool). fs ++ clash_flags (drop (place + 1) cells) (drop (place + 1) items)) (c.in_ok-push.ensures.ok ∙ ap (λ (b : Bool). c.loop-place.flags ++ b ∷ []) c.is_either.ensures)
    ∙ flags_more cells items c.loop-place.flags (clash_flags cells items) place c.loop-place.invariant (get_or cells place false) c.in-Some.item.now (slice_get-get_or cells place false c.loop-place-test.true) there

pub returns : goal.returns
returns c =
    let cells = c.args.cells.now in
    let items = c.args.items.now in
    flags_all cells items c.loop-place.flags (clash_flags cells items) c.loop-place.place c.loop-place.invariant c.loop-place-test.false
