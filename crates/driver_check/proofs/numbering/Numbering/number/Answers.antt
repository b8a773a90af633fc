use Rattle.std.proofs.Common.{ℕ, ◌+◌, length, ◌∙◌, ap, arith}
use Rattle.std.proofs.lemmas.List.{get_or_read}
use Rattle.driver_check.specs.Numbers.{width_of}
use Rattle.driver_check.proofs.Places.{within}
use Rattle.driver_check.proofs.Numbered.{before_later}
use Rattle.driver_check.proofs.numbering.Numbering.number.Goals as goal

pub index-requires : goal.index-requires
index-requires c = let lt = within c.args.nets.now c.args.net c.requires.inside.0 c.requires.inside.1 in omega (arith, lt, c.requires.numbers.long)

pub overflow_add-result : goal.overflow_add-result
overflow_add-result c =
    let lt = within c.args.nets.now c.args.net c.requires.inside.0 c.requires.inside.1 in
    let at = get_or_read c.args.self.now.firsts.items c.args.net c.index.result.now (omega (arith, lt, c.requires.numbers.long)) c.index.ensures 0 ∙ c.requires.numbers.first c.args.net lt in
    let h = before_later width_of c.args.nets.now c.args.net (length c.args.nets.now) c.requires.inside.0 c.requires.inside.1 lt in
    omega (arith, at, h, c.requires.inside.2, c.requires.few)

pub returns-clause-value : goal.returns-clause-value
returns-clause-value c =
    let lt = within c.args.nets.now c.args.net c.requires.inside.0 c.requires.inside.1 in
    ap (λ (n : ℕ). n + c.args.at) (get_or_read c.args.self.now.firsts.items c.args.net c.index.result.now (omega (arith, lt, c.requires.numbers.long)) c.index.ensures 0 ∙ c.requires.numbers.first c.args.net lt)

pub returns-clause-few : goal.returns-clause-few
returns-clause-few c =
    let lt = within c.args.nets.now c.args.net c.requires.inside.0 c.requires.inside.1 in
    let at = get_or_read c.args.self.now.firsts.items c.args.net c.index.result.now (omega (arith, lt, c.requires.numbers.long)) c.index.ensures 0 ∙ c.requires.numbers.first c.args.net lt in
    let h = before_later width_of c.args.nets.now c.args.net (length c.args.nets.now) c.requires.inside.0 c.requires.inside.1 lt in
    omega (arith, at, h, c.requires.inside.2, c.requires.few)
