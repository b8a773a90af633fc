use Rattle.std.proofs.Common.{Some, ap, sym, ◌∙◌}
use Rattle.std.specs.Option.{option_copied}
use Rattle.std.proofs.lemmas.Option.{slice_get-get_or}
use Rattle.design_parts.proofs.Runs.{runs_as}
use Rattle.elaborate.specs.Elaborated.{walk_of, whole_walk}
use Rattle.elaborate.proofs.elaboration.walk_modules.Goals as goal

pub returns : goal.returns
returns c =
    let ms = c.args.modules.now in
    let name = option_copied c.args.name in
    let top = c.index-modules-start.result in
    let at = slice_get-get_or ms c.in_ok-start.start.top top c.in_ok-start.ensures.within ∙ ap Some (sym c.index-modules-start.is) in
    runs_as (whole_walk ms name) (walk_of ms top) c.args.draft.now c.walk_design.result c.walk_design.new.draft (c.in_ok-start.ensures.left top c.args.draft.now at) c.walk_design.ensures
