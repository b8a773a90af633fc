-- What a machine is to its callers.
use Rattle.std.specs.Prelude.{ℕ, List, length, map, Bool, ◌&&◌, Option, option_and_then, is_some}
use Rattle.circuit.specs.Rounds.{Standing, rounds_from, settled}
use Rattle.circuit.specs.Shown.{fires_by}
use Rattle.circuit.specs.declared.netlist.Circuit.{Circuit}
use Rattle.cell_changes.specs.Changes.{changes_in}

-- a circuit, with its state and the numbers of its nets after the last sample, or neither once a sample did not settle,
-- and whether each diagnostic fired at that sample: none did before the first one, and where it did not settle
pub record MachineState : Type 0 where
  pub circuit : Circuit
  pub standing : Option Standing
  pub fired : List Bool

-- after one more sample, under these inputs
abbrev pub after_sample : MachineState → List ℕ → MachineState
after_sample m inputs =
    let standing = option_and_then (λ s. settled m.circuit s inputs) m.standing in
    record {
      circuit = m.circuit;
      standing = standing;
      fired = map (λ d. is_some standing && fires_by d.trigger d (rounds_from m.circuit m.standing inputs)) m.circuit.diags;
    }

-- how many rounds that sample takes: 256 where it does not settle, and none where one before it did not
abbrev pub rounds_of_sample : MachineState → List ℕ → ℕ
rounds_of_sample m inputs = length (rounds_from m.circuit m.standing inputs)

-- over these rounds, how many cells have an input bit that differs between the round before and the round
abbrev pub changes_of_sample : MachineState → List ℕ → ℕ
changes_of_sample m inputs = changes_in m.circuit.cells (rounds_from m.circuit m.standing inputs)
