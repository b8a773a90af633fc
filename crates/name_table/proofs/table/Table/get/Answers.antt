use Rattle.std.proofs.Common.{bytes_eq, ap, sym, ◌∙◌}
use Rattle.std.specs.Map.{lookup}
use Rattle.name_table.proofs.Views.{lookup_in_view}
use Rattle.name_table.proofs.table.Table.get.Goals as goal

pub returns : goal.returns
returns g c = c.copied.ensures ∙ (c.get.ensures.value ∙ (sym (lookup_in_view (λ k. k.now) (bytes_eq c.args.name.now) c.self.inside.entries.entries) ∙ ap (lookup (bytes_eq c.args.name.now)) c.self.view_is))
