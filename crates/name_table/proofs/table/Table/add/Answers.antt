use Rattle.std.proofs.Common.{◌++◌, ◌∷◌, [], bytes_eq, ap, ◌∙◌, arith, map}
use Rattle.std.proofs.lemmas.Grind.{common_steps}
use Rattle.std.specs.Map.{lookup}
use Rattle.std.specs.Option.{is_some}
use Rattle.name_table.proofs.Views.{lookup_in_view, view_behind}
use Rattle.indexmap.proofs.CallerLemmas.{insert_entry-new}
use Rattle.name_table.proofs.table.Table.add.Goals as goal

pub returns-then-contains_key-clause-new : goal.returns-then-contains_key-clause-new
returns-then-contains_key-clause-new g c =
    let e = ap is_some (lookup_in_view (λ k. k.now) (bytes_eq c.args.name.now) c.self.inside.entries.entries) in
    let f = ap (λ t. is_some (lookup (bytes_eq c.args.name.now) t)) c.self.view_is in
    grind (arith, common_steps, e, f)

pub returns-clause-new : goal.returns-clause-new
returns-clause-new g c =
    let e = ap is_some (lookup_in_view (λ k. k.now) (bytes_eq c.args.name.now) c.self.inside.entries.entries) in
    let f = ap (λ t. is_some (lookup (bytes_eq c.args.name.now) t)) c.self.view_is in
    grind (arith, common_steps, e, f)

pub returns-clause-ok : goal.returns-clause-ok
returns-clause-ok g c =
    let old = c.self.inside.entries.entries in
    let e = c.in_ok-insert.ensures.entries ∙ insert_entry-new (λ x y. bytes_eq x.now y.now) c.self.inside.entries c.args.name c.args.value (grind (arith, common_steps)) in
    ap (map (λ p. (p.0.now, p.1))) e ∙ (view_behind (λ k. k.now) old c.args.name c.args.value ∙ ap (λ t. t ++ (c.args.name.now, c.args.value) ∷ []) c.self.view_is)
