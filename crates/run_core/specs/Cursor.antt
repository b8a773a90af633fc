-- A machine that goes through the samples of its stimulus.
use Rattle.std.specs.Prelude.{◌≡◌, ℕ, ◌≤◌, ◌<◌, map, true, false, None, is_some}
use Rattle.sim_base.specs.Values.{widths}
use Rattle.circuit.specs.Rounds.{Run, standing_after, standing_at}
use Rattle.circuit.specs.Shown.{fires_at}
use Rattle.circuit.specs.Valid.{is_valid}
use Rattle.circuit.specs.declared.netlist.Circuit.{Circuit}
use Rattle.eval_commit.specs.Evaluation.{input_width}
use Rattle.eval_commit.specs.Machine.{MachineState}
use Rattle.stimulus_blocks.specs.Courses.{Course, input_widths, run_of, sample_count}
use Rattle.stimulus_blocks.specs.Standings.{IsPlace}
use Rattle.run_core.specs.declared.cursor.Cursor.{Cursor}

-- how sample k of a run leaves a machine
abbrev pub left_by : Run → ℕ → MachineState
left_by run k = record { circuit = run.circuit; standing = standing_at run k; fired = map (fires_at run k) run.circuit.diags }

-- so many samples were given, and the circuit stands as these leave it, or the one behind them does not settle
pub record IsCursor (c : Circuit) (s : Course) (p : Cursor) : Type 0 where
  pub valid : is_valid c ≡ true
  pub fits : input_widths s ≡ map (input_width c) c.inputs
  pub circuit : p.machine.circuit ≡ c
  pub place : IsPlace s p.place
  pub inputs : widths p.inputs.items ≡ input_widths s
  pub within : p.given ≤ sample_count s
  pub settled : is_some (standing_after (run_of c s) p.given) ≡ true
  pub stands : p.stuck ≡ false → p.machine.standing ≡ standing_after (run_of c s) p.given
  pub ends : p.stuck ≡ true → (p.given < sample_count s) × (standing_at (run_of c s) p.given ≡ None)
