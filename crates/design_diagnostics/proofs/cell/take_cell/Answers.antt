use Rattle.std.proofs.Common.{ℕ, List, Ok, ap, sym, ◌∙◌, rules}
use Rattle.design_parts.specs.Parts.{both_made}
use Rattle.design_wires.specs.Places.{seen_here}
use Rattle.design_cells.specs.Joined.{seen_ports}
use Rattle.design_diagnostics.specs.Diagnostics.{silent_made}
use Rattle.design_diagnostics.proofs.Steps.{taken_fails, taken_ok}
use Rattle.design_diagnostics.proofs.cell.take_cell.Goals as goal

pub returns-in_err-allowed : goal.returns-in_err-allowed
returns-in_err-allowed c =
    let h = taken_fails (seen_here c.args.here.now) c.args.name.now c.args.attributes.now c.args.reading c.args.settings.now (seen_ports c.args.ports.now) c.args.draft.now c.in_err-allowed.field-0.0 c.in_err-allowed.ensures.passes in
    search rules

pub returns : goal.returns
returns c =
    let m = c.args.draft.now in
    let attributes = c.args.attributes.now in
    let ss = c.args.settings.now in
    let js = seen_ports c.args.ports.now in
    taken_ok (seen_here c.args.here.now) c.args.name.now attributes c.args.reading ss js m c.in_ok-allowed.ensures.passes
    ∙ ap Ok (sym (
    c.in_ok-push_diagnostic.ensures
    ∙ ap (λ (text : List ℕ). both_made m (silent_made c.args.reading text attributes ss js)) c.in_ok-text.ensures))
