use Rattle.std.proofs.Common.{◌≡◌, nat_eq, None, arith, ◌∙◌, ◌++◌, ◌∷◌, [], cond, sym}
use Rattle.std.specs.Map.{lookup}
use Rattle.std.proofs.lemmas.Grind.{common_steps}
use Rattle.indexmap.proofs.CallerLemmas.{insert_entry-new}
use Rattle.stimulus.proofs.Places.{absent}
use Rattle.stimulus.proofs.inputs.add_net.Goals as goal

pub returns-in_ok-insert : goal.returns-in_ok-insert
returns-in_ok-insert c =
    let none : lookup (nat_eq c.args.net) c.args.places.now.entries ≡ None = absent (lookup (nat_eq c.args.net) c.args.places.now.entries) (grind (arith, common_steps)) in
    let e = c.in_ok-insert.ensures.entries ∙ insert_entry-new nat_eq c.args.places.now c.args.net c.args.at none in
    grind (arith, common_steps, e, none)
