use Rattle.std.proofs.Common.{◌≡◌, ◌++◌, [], length, drop}
use Rattle.design_parts.specs.Parts.{run}
use Rattle.design_wires.specs.Places.{seen_here}
use Rattle.design_wires.specs.Wires.{scope_of, wires}
use Rattle.design_wires.proofs.wire.wires.Given as goal

abbrev pub invariant-loop-statement : goal.invariant-loop-statement
invariant-loop-statement l =
    let rest = drop l.statement-index l.statements in
    record {
      same : run (wires (seen_here l.fn.here) [] l.statements) l.fn.draft ≡ run (wires (seen_here l.fn.here) l.scope rest) l.draft;
      scope : l.scope ++ scope_of (length l.draft.nets) rest ≡ scope_of (length l.fn.draft.nets) l.statements;
    }
