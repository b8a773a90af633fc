use Rattle.std.proofs.Common.{◌++◌, ◌∷◌, [], ℕ, Option, Ok, ap, sym, ◌∙◌, rules}
use Rattle.circuit.specs.declared.netlist.Net.{Net}
use Rattle.rtlil_tree.specs.declared.sig.Const.{Const}
use Rattle.design_parts.specs.Parts.{Made}
use Rattle.design_wires.specs.Places.{seen_here}
use Rattle.design_wires.specs.Wires.{init_of, wire_items, wire_net}
use Rattle.design_wires.proofs.Steps.{wire_fails, wire_ok}
use Rattle.design_wires.proofs.wire.wire.Goals as goal

pub returns-in_err-wire_allowed-clause-runs : goal.returns-in_err-wire_allowed-clause-runs
returns-in_err-wire_allowed-clause-runs c =
    let h = wire_fails (seen_here c.args.here.now) c.args.scope.now c.args.wire.now c.args.draft.now c.in_err-wire_allowed.field-0.0 c.in_err-wire_allowed.ensures.passes in
    search rules

pub returns-clause-runs : goal.returns-clause-runs
returns-clause-runs c =
    let m = c.args.draft.now in
    let here = seen_here c.args.here.now in
    let w = c.args.wire.now in
    let n = c.net_count-net.result in
    wire_ok here c.args.scope.now w m c.in_ok-wire_allowed.ensures.passes
    ∙ ap Ok (sym (
    c.in_ok-show.ensures
    ∙ ap (λ (p : Made). let q : Made = record p { items = p.items ++ wire_items here.shown n w } in q) c.in_ok-push_net.ensures
    ∙ ap (λ (x : Net). let q : Made = record m { nets = m.nets ++ x ∷ []; inits = m.inits ++ c.init_of.result ∷ []; items = m.items ++ wire_items here.shown n w } in q) c.in_ok-wire_net.ensures
    ∙ ap (λ (i : Option Const). let q : Made = record m { nets = m.nets ++ wire_net here w ∷ []; inits = m.inits ++ i ∷ []; items = m.items ++ wire_items here.shown n w } in q) c.init_of.ensures
    ∙ ap (λ (k : ℕ). let q : Made = record m { nets = m.nets ++ wire_net here w ∷ []; inits = m.inits ++ init_of w ∷ []; items = m.items ++ wire_items here.shown k w } in q) c.net_count-net.ensures))
