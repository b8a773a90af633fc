use Rattle.std.proofs.Common.{◌≡◌, ℕ, List, Option, Ok, ap, sym, ◌∙◌, rules}
use Rattle.design_parts.specs.Parts.{both_made}
use Rattle.design_wires.specs.Places.{seen_here}
use Rattle.design_cells.specs.Joined.{seen_ports}
use Rattle.design_memory.specs.Memories.{memory_made}
use Rattle.design_memory.specs.Settings.{item_identifier, shape_of, values_of}
use Rattle.design_memory.specs.declared.settings.Shape.{Shape}
use Rattle.design_memory.specs.declared.settings.Values.{Values}
use Rattle.design_memory.proofs.Steps.{taken_fails, taken_ok}
use Rattle.design_memory.proofs.cell.take_memory.Goals as goal

pub returns-in_err-allowed : goal.returns-in_err-allowed
returns-in_err-allowed c =
    let h = taken_fails (seen_here c.args.here.now) c.args.name.now c.args.attributes.now c.args.settings.now c.args.connections.now (seen_ports c.args.ports.now) c.args.draft.now c.in_err-allowed.field-0.0 c.in_err-allowed.ensures.passes in
    search rules

pub returns : goal.returns
returns c =
    let m = c.args.draft.now in
    let shown = (seen_here c.args.here.now).shown in
    let attributes = c.args.attributes.now in
    let ss = c.args.settings.now in
    let js = seen_ports c.args.ports.now in
    taken_ok (seen_here c.args.here.now) c.args.name.now attributes ss c.args.connections.now js m c.in_ok-allowed.ensures.passes
    ∙ ap Ok (sym (
    c.in_ok-push_memory.ensures
    ∙ ap (λ (name : Option (List ℕ)). both_made m (memory_made shown name attributes c.in_ok-shape.shape c.in_ok-values.values js m)) c.in_ok-identifier.ensures
    ∙ ap (λ (s : Shape). both_made m (memory_made shown (item_identifier ss) attributes s c.in_ok-values.values js m)) c.in_ok-shape.ensures
    ∙ ap (λ (v : Values). both_made m (memory_made shown (item_identifier ss) attributes (shape_of ss) v js m)) c.in_ok-values.ensures))
