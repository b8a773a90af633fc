use Rattle.std.proofs.Common.{ℕ, ◌+◌, ◌∙◌, ap, arith}
use Rattle.std.proofs.lemmas.List.{get_or_read}
use Rattle.driver_check.proofs.Places.{within}
use Rattle.driver_check.proofs.Numbered.{start_inside}
use Rattle.driver_check.proofs.numbering.Numbering.start.Goals as goal

pub index-requires : goal.index-requires
index-requires c = let lt = within c.args.nets.now c.args.drive.now.net c.requires.inside.0 c.requires.inside.1 in omega (arith, lt, c.requires.numbers.long)

pub returns-clause-value : goal.returns-clause-value
returns-clause-value c =
    let lt = within c.args.nets.now c.args.drive.now.net c.requires.inside.0 c.requires.inside.1 in
    let at = get_or_read c.args.self.now.firsts.items c.args.drive.now.net c.index.result.now (omega (arith, lt, c.requires.numbers.long)) c.index.ensures 0 in
    ap (λ (n : ℕ). n + c.args.drive.now.at) (at ∙ c.requires.numbers.first c.args.drive.now.net lt)

pub overflow_add-result : goal.overflow_add-result
overflow_add-result c =
    let lt = within c.args.nets.now c.args.drive.now.net c.requires.inside.0 c.requires.inside.1 in
    let at = get_or_read c.args.self.now.firsts.items c.args.drive.now.net c.index.result.now (omega (arith, lt, c.requires.numbers.long)) c.index.ensures 0 in
    let e = at ∙ c.requires.numbers.first c.args.drive.now.net lt in
    let h = start_inside c.args.nets.now c.args.drive.now c.requires.inside in
    omega (arith, e, h, c.requires.few)

pub returns-clause-inside : goal.returns-clause-inside
returns-clause-inside c =
    let lt = within c.args.nets.now c.args.drive.now.net c.requires.inside.0 c.requires.inside.1 in
    let at = get_or_read c.args.self.now.firsts.items c.args.drive.now.net c.index.result.now (omega (arith, lt, c.requires.numbers.long)) c.index.ensures 0 in
    let e = at ∙ c.requires.numbers.first c.args.drive.now.net lt in
    let h = start_inside c.args.nets.now c.args.drive.now c.requires.inside in
    omega (arith, e, h, c.requires.numbers.total)
