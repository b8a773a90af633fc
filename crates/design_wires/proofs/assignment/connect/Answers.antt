use Rattle.std.proofs.Common.{◌≡◌, ◌++◌, List, Ok, ap, sym, ◌∙◌, rules}
use Rattle.circuit.specs.declared.netlist.Piece.{Piece}
use Rattle.design_parts.specs.Parts.{Made}
use Rattle.rtlil_signals.specs.Drives.{connected}
use Rattle.rtlil_signals.specs.Signals.{sig_pieces}
use Rattle.rtlil_signals.specs.Spans.{pieces_of}
use Rattle.design_wires.specs.Connects.{or_none}
use Rattle.design_wires.proofs.Steps.{connect_fails, connect_ok}
use Rattle.design_wires.proofs.assignment.connect.Goals as goal

pub returns-in_err-ends : goal.returns-in_err-ends
returns-in_err-ends c = search (rules, connect_fails)

pub returns : goal.returns
returns c =
    let m = c.args.draft.now in
    let a = c.args.assignment.now in
    let left : pieces_of c.as_slice.result.now ≡ or_none (sig_pieces c.args.scope.now a.left) = ap pieces_of c.as_slice.ensures ∙ c.in_ok-ends.ensures.left in
    let right : pieces_of c.as_slice-2.result.now ≡ or_none (sig_pieces c.args.scope.now a.right) = ap pieces_of c.as_slice-2.ensures ∙ c.in_ok-ends.ensures.right in
    connect_ok c.args.owner.now c.args.scope.now a m c.in_ok-ends.ensures.passes
    ∙ ap Ok (sym (
    c.in_ok-connect.ensures
    ∙ ap (λ (l : List Piece). let q : Made = record m { drives = m.drives ++ connected l (pieces_of c.as_slice-2.result.now) } in q) left
    ∙ ap (λ (r : List Piece). let q : Made = record m { drives = m.drives ++ connected (or_none (sig_pieces c.args.scope.now a.left)) r } in q) right))
