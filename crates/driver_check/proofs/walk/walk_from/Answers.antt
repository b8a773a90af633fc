use Rattle.std.proofs.Common.{◌<◌, length, arith}
use Rattle.std.proofs.lemmas.List.{get_or_read}
use Rattle.driver_check.proofs.Walked.{closed_walk, walk_within}
use Rattle.driver_check.proofs.walk.walk_from.Goals as goal

pub turns-smaller : goal.turns-smaller
turns-smaller c =
    let next = c.go.new.self in
    let most = walk_within c.args.circuit.now c.requires.valid c.args.sorting.now c.requires.sorting next.bits.items next.seen.items next.number c.in_ok-go.ensures.walking in
    omega (arith, most, c.in_ok-go.ensures.longer)

pub returns : goal.returns
returns c =
    let walk = c.turns.walk in
    let here = c.turns.invariant in
    let inside : walk.number < length walk.seen.items = omega (arith, here.inside, here.long) in
    let at = get_or_read walk.seen.items walk.number c.index.result.now inside c.index.ensures 0 in
    (inside, closed_walk c.args.circuit.now c.requires.valid c.args.sorting.now c.requires.sorting walk.bits.items walk.seen.items walk.number here (omega (arith, at, c.turns-test.false, c.len.ensures)))
