use Rattle.std.proofs.Common.{rules}
use Rattle.std.specs.Option.{option_copied}
use Rattle.design_parts.specs.Parts.{Fails, Made, run}
use Rattle.elaborate.specs.Elaborated.{whole_walk}
use Rattle.elaborate.proofs.Names.{module_first}
use Rattle.elaborate.proofs.Whole.{names_fail, top_fails, walk_left}
use Rattle.elaborate.proofs.start.start_of.Goals as goal

pub returns-in_err-top-clause-refused : goal.returns-in_err-top-clause-refused
returns-in_err-top-clause-refused c =
    let h : (so_far : Made) → Fails c.in_err-top.field-0.0 (run (whole_walk c.args.modules.now (option_copied c.args.name)) so_far) =
    λ so_far. top_fails c.args.modules.now (option_copied c.args.name) so_far c.in_err-top.field-0.0 c.in_err-top.ensures.passes in
    search rules

pub returns-in_err-places-clause-refused : goal.returns-in_err-places-clause-refused
returns-in_err-places-clause-refused c =
    let h : (so_far : Made) → Fails c.in_err-places.field-0.0 (run (whole_walk c.args.modules.now (option_copied c.args.name)) so_far) =
    λ so_far. names_fail c.args.modules.now (option_copied c.args.name) so_far c.in_err-places.field-0.0 c.in_ok-top.ensures.passes c.in_err-places.ensures.passes in
    search rules

pub returns-clause-first : goal.returns-clause-first
returns-clause-first c top at = module_first c.args.modules.now c.in_ok-top.top top c.in_ok-places.ensures.passes at

pub returns-clause-left : goal.returns-clause-left
returns-clause-left c top so_far at = walk_left c.args.modules.now (option_copied c.args.name) so_far c.in_ok-top.top top c.in_ok-top.ensures.passes c.in_ok-places.ensures.passes c.in_ok-top.ensures.found at
