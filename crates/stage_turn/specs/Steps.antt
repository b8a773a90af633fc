-- What a seat is before and after each kind of step, and what the step tells.
-- There are eleven kinds of step. `new`: the first seat is cut in two. `take`: word 0 goes from 0 to 1, or stays where a seat holds the turn; the value leaves the slot.
-- `leave`: the value comes into the slot; the count is stored; word 0 becomes 0. `split`: a clerk is cut in two. `join`: two clerks are made one; the note of that is read. `load_count`: the count is loaded. `close`: the writer is joined into the clerk.
use Rattle.std.specs.Prelude.{◌≡◌, ℕ, ◌≤◌, max, nat_lt, if◌then◌else◌, List, [], ◌∷◌, length, true, false, Option, Some, None}
use Rattle.atomic_table.specs.Table.{Me, Step}
use Rattle.stage_turn.specs.declared.known.Part.{Part}
use Rattle.stage_turn.specs.declared.known.Known.{Known}
use Rattle.stage_turn.specs.Kept.{Reading}
use Rattle.stage_turn.specs.Known.{whole_share, no_part, both_parts, Follows, appended, holding, resting, told}
use Rattle.stage_turn.specs.Turn.{Finds, Leaves}

-- the seat with which the table begins
abbrev pub opener : {T R E : Type 0} → Reading T R E → T → Known R E
opener k x = record { own = record { pen = true; share = whole_share; seen = k.entries x; clients = [] }; note = no_part; in_turn = false; run = Some (k.run x); heard = 0 }

-- of two parts the one that has seen the shorter history
abbrev pub behind_part : {E : Type 0} → Part E → Part E → Part E
behind_part p q = if nat_lt (length p.seen) (length q.seen) then p else q

module _ {R E : Type 0} where
  -- the pen goes to the one, the share and the clients to the other
  abbrev pub writer_of : Known R E → Known R E
  writer_of u = record { own = record { pen = u.own.pen; share = 0; seen = u.own.seen; clients = [] }; note = no_part; in_turn = u.in_turn; run = u.run; heard = u.heard }

  abbrev pub clerk_of : Known R E → Known R E
  clerk_of u = record { own = record { pen = false; share = u.own.share; seen = u.own.seen; clients = u.own.clients }; note = no_part; in_turn = false; run = u.run; heard = u.heard }

  -- two seats as one, with a note of the part that had seen less
  abbrev pub joining : Known R E → Known R E → Known R E
  joining u w = record { own = both_parts u.own w.own; note = behind_part u.own w.own; in_turn = false; run = u.run; heard = max u.heard w.heard }

  abbrev pub spent : Known R E
  spent = record { own = no_part; note = no_part; in_turn = false; run = None; heard = 0 }

  abbrev pub unmarked : Known R E → Known R E
  unmarked u = record { own = u.own; note = no_part; in_turn = u.in_turn; run = u.run; heard = u.heard }

module _ {T R E : Type 0} (k : Reading T R E) where
  -- the value was taken, or nothing changed
  abbrev pub Took : Step (Option T) → Me (Option T) (Known R E) → ℕ → Me (Option T) (Known R E) → Type 0
  Took st m found n = (¬ (found ≡ 0) → n ≡ m) × (found ≡ 0 → (value : T) × (n.1 ≡ (0, Some value) ∷ []) × (n.0 ≡ holding (k.entries value) m.0) × Finds k m.0 value)

  abbrev pub Stored : Step (Option T) → Me (Option T) (Known R E) → ℕ → Me (Option T) (Known R E) → Type 0
  Stored st m found n = (n.1 ≡ m.1) × ((more : List E) × (value : T) × (m.1 ≡ (0, Some value) ∷ []) × Leaves k m.0 value more × (n.0 ≡ appended k more m.0))

  -- where the noted part has seen the shorter history, the longer follows it
  abbrev pub Learned : Step (Option T) → Me (Option T) (Known R E) → ℕ → Me (Option T) (Known R E) → Type 0
  Learned st m found n = (n.1 ≡ m.1) × (n.0 ≡ unmarked m.0) × (length m.0.note.seen ≤ length m.0.own.seen → Follows k m.0.note m.0.own.seen)

module _ {T R E : Type 0} where
  abbrev pub Left : Step (Option T) → Me (Option T) (Known R E) → ℕ → Me (Option T) (Known R E) → Type 0
  Left st m found n = (n.1 ≡ []) × (n.0 ≡ resting m.0)

  abbrev pub Counted : Step (Option T) → Me (Option T) (Known R E) → ℕ → Me (Option T) (Known R E) → Type 0
  Counted st m found n = (n.1 ≡ m.1) × (n.0 ≡ told found m.0) × (m.0.heard ≤ found) × (length m.0.own.seen ≤ found)
