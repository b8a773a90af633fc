-- A circuit whose rounds are done over stores.
use Rattle.std.specs.Prelude.{◌≡◌, List, length, map}
use Rattle.circuit.specs.Rounds.{Standing}
use Rattle.circuit.specs.State.{State}
use Rattle.circuit.specs.declared.netlist.Circuit.{Circuit}
use Rattle.eval_plan.specs.declared.plan.Plan.{Plan}
use Rattle.sim_base.specs.BitValue.{BitValue}
use Rattle.signal_words.specs.Stores.{IsStoreOf}
use Rattle.sim_base.specs.Values.{numbers, widths}
use Rattle.eval_commit.specs.Computed.{AreAllRows}
use Rattle.eval_commit.specs.Evaluation.{IsBlank}
use Rattle.eval_commit.specs.Marked.{AreReadPlaces}
use Rattle.eval_commit.specs.KeptState.{kept_state}
use Rattle.eval_commit.specs.declared.step.Rounds.{Rounds}

-- a value for each read port, of the width of a row
abbrev pub ArePortsOf : Circuit → List (List BitValue) → Type 0
ArePortsOf c ports = map widths ports ≡ map (λ m. map (λ _. m.width) m.reads) c.mems

-- each value has the width of what it is the value of, each bit of a net that no root covers is 0, there is a flag for each
-- diagnostic and a mark for each node, and the read ports among the nodes are listed
pub record AreRoundsOf (c : Circuit) (plan : Plan) (r : Rounds) : Type 0 where
  pub regs : widths r.regs ≡ map (λ x. x.width) c.regs
  pub rows : AreAllRows c r.rows
  pub ports : ArePortsOf c r.ports
  pub before : IsStoreOf c r.before
  pub before_blank : IsBlank plan.roots r.before.nets
  pub now : IsStoreOf c r.now
  pub now_blank : IsBlank plan.roots r.now.nets
  pub rooms : widths r.rooms.items ≡ map (λ m. m.width) c.mems
  pub fired : length r.fired ≡ length c.diags
  pub marks : r.marks.width ≡ length plan.nodes
  pub reads : AreReadPlaces plan.nodes r.reads.items

abbrev pub state_of : Rounds → State
state_of r = kept_state r.regs r.rows r.ports

-- the state, and the number of each net in the last round that was done
abbrev pub standing_of : Rounds → Standing
standing_of r = record { state = state_of r; nets = numbers r.before.nets }
