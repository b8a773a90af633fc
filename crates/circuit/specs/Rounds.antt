-- Rounds and samples. The rounds are after Yosys CXXRTL; that there are at most 256 for a sample, and that inputs were 0
-- before the first one, is this project's own choice.
use Rattle.std.specs.Prelude.{◌≡◌, ⊤, ℕ, zero, suc, List, [], ◌∷◌, map, Option, Some, None, option_and_then, is_some, if◌then◌else◌}
use Rattle.sim_base.specs.Parts.{parts}
use Rattle.circuit.specs.State.{State, Stored, same_state}
use Rattle.circuit.specs.Valuation.{valuation}
use Rattle.circuit.specs.Next.{next}
use Rattle.circuit.specs.declared.netlist.Circuit.{Circuit}
use Rattle.circuit.specs.declared.memory.Mem.{Mem}

-- the time of a sample in femtoseconds, and the number of each input, in the order of the circuit's inputs
pub record Row : Type 0 where
  pub time : ℕ
  pub inputs : List ℕ

-- a circuit under a stimulus of so many samples
pub record Run : Type 0 where
  pub circuit : Circuit
  pub count : ℕ
  pub row : ℕ → Row

-- a state, and the number of each net in the last round
pub record Standing : Type 0 where
  pub state : State
  pub nets : List ℕ

-- a round: the number of each net in the one before, and in itself
pub record Round : Type 0 where
  pub before : List ℕ
  pub now : List ℕ

-- the rounds up to the first that leaves the state as it is, and how the circuit stands after it, where there is one
pub record Settling : Type 0 where
  pub rounds : List Round
  pub standing : Option Standing

-- so many rounds at most
unfoldable pub settling : ℕ → Circuit → State → List ℕ → List ℕ → Settling
settling zero c state before inputs = record { rounds = []; standing = None }
settling (suc most) c state before inputs =
    let now = valuation c state inputs in
    let after = next c state before now in
    let still = same_state after state in
    let later = settling most c after now inputs in
    record {
      rounds = record { before = before; now = now } ∷ (if still then [] else later.rounds);
      standing = if still then Some (record { state = state; nets = now }) else later.standing;
    }

abbrev pub settled_within : ℕ → Circuit → State → List ℕ → List ℕ → Option Standing
settled_within most c state before inputs = (settling most c state before inputs).standing

abbrev pub rounds_within : ℕ → Circuit → State → List ℕ → List ℕ → List Round
rounds_within most c state before inputs = (settling most c state before inputs).rounds

-- at most 256 rounds
abbrev pub settled : Circuit → Standing → List ℕ → Option Standing
settled c s inputs = settled_within 256 c s.state s.nets inputs

-- before the first sample: the start values, under inputs that are all 0
abbrev pub start_stored : Mem → Stored
start_stored m = record { rows = parts m.width m.size m.init.number; reads = map (λ p. p.init.number) m.reads }

abbrev pub start_state : Circuit → State
start_state c = record { regs = map (λ r. r.init.number) c.regs; mems = map start_stored c.mems }

abbrev pub start : Circuit → Standing
start c = record { state = start_state c; nets = valuation c (start_state c) (map (λ _. 0) c.inputs) }

-- how the circuit stands after the first k samples, where these settle
unfoldable pub standing_after : Run → ℕ → Option Standing
standing_after run zero = Some (start run.circuit)
standing_after run (suc k) = option_and_then (λ s. settled run.circuit s (run.row k).inputs) (standing_after run k)

-- how it stands after sample k, where the samples up to it settle
abbrev pub standing_at : Run → ℕ → Option Standing
standing_at run k = standing_after run (suc k)

-- the most samples, at most n, that all settle
unfoldable pub settled_samples : Run → ℕ → ℕ
settled_samples run zero = 0
settled_samples run (suc n) = if is_some (standing_after run (suc n)) then suc n else settled_samples run n

-- how many samples the run has: up to the first that does not settle
abbrev pub run_length : Run → ℕ
run_length run = settled_samples run run.count

-- ---- the rounds of a sample, one by one

abbrev pub rounds_from : Circuit → Option Standing → List ℕ → List Round
rounds_from c None inputs = []
rounds_from c (Some s) inputs = rounds_within 256 c s.state s.nets inputs

-- the rounds of sample k
abbrev pub rounds_at : Run → ℕ → List Round
rounds_at run k = rounds_from run.circuit (standing_after run k) (run.row k).inputs

-- each round begins with the valuation in which the one ahead of it ends
unfoldable pub FollowOn : List ℕ → List Round → Type 0
FollowOn before [] = ⊤
FollowOn before (r ∷ rs) = (r.before ≡ before) × FollowOn r.now rs

-- the valuation in which rounds end, or the one before them where there are none
unfoldable pub nets_after : List ℕ → List Round → List ℕ
nets_after before [] = before
nets_after before (r ∷ rs) = nets_after r.now rs
