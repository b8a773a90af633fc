-- The rule of the turn, which holds between any two steps.
-- Word 0 is the turn, 0 where it is free and 1 where a seat holds it. Word 1 is the number of entries. The one slot has the value while the turn is free.
-- A part with the pen is the writer's, one with a share above 0 a clerk's, one with both the closer's, and one with neither is spent.
use Rattle.std.specs.Prelude.{◌≡◌, ◌⊎◌, ℕ, ◌<◌, ◌≤◌, if◌then◌else◌, List, [], length, slice_index, Bool, true, Option, Some, sum_by}
use mathlib.Core.Option.{some}
use mathlib.Core.Option as maybe
use lib.ListN.{get_elem?}
use Rattle.atomic_table.specs.Table.{State}
use Rattle.stage_turn.specs.declared.known.Part.{Part}
use Rattle.stage_turn.specs.declared.known.Known.{Known}
use Rattle.stage_turn.specs.Kept.{Owner, Reading, count_of, openings}
use Rattle.stage_turn.specs.Known.{whole_share, Guards, IsInTurn, Follows}

abbrev pub one_if : Bool → ℕ
one_if b = if b then 1 else 0

-- a part that is not spent
abbrev pub IsAlive : {E : Type 0} → Part E → Type 0
IsAlive p = (p.pen ≡ true) ⊎ (0 < p.share)

module _ {R E : Type 0} where
  abbrev pub pens : Known R E → ℕ
  pens u = one_if u.own.pen

  abbrev pub shares : Known R E → ℕ
  shares u = u.own.share

  abbrev pub turns : Known R E → ℕ
  turns u = one_if u.in_turn

  abbrev pub clients_at : ℕ → Known R E → ℕ
  clients_at c u = count_of c u.own.clients

module _ {T R E : Type 0} (k : Reading T R E) where
  -- what the rule says of one seat, where the run and the history are these
  pub record Fits (run : R) (history : List E) (u : Known R E) : Type 0 where
    pub names : IsAlive u.own → u.run ≡ Some run
    pub own : Follows k u.own history
    pub heard : u.heard ≤ length history
    pub holds : IsInTurn u → IsAlive u.own × (u.own.seen ≡ history)
    pub plain : u.own.share ≡ 0 → u.own.clients ≡ []
    -- what a join left to be read
    pub note : Follows k u.note history
    pub within : (o : Owner) → Guards u.note o → Guards u.own o

  -- a value in order, of this run and with this history, lies in the slot
  abbrev pub IsHome : List (maybe.Option (Option T)) → R → List E → Type 0
  IsHome homes run history = (value : T) × (get_elem? homes 0 ≡ some (some (Some value))) × k.in_order value × (k.run value ≡ run) × (k.entries value ≡ history)

  pub record TurnRule (s : State (Option T) (Known R E)) : Type 0 where
    pub run : R
    pub history : List E
    pub words : length s.words ≡ 2
    pub one_pen : sum_by pens s.views ≡ 1
    pub all_shares : sum_by shares s.views ≡ whole_share
    pub turn : slice_index s.words 0 ≡ sum_by turns s.views
    pub one_turn : slice_index s.words 0 < 2
    pub count : slice_index s.words 1 ≡ length history
    pub home : slice_index s.words 0 ≡ 0 → IsHome s.homes run history
    -- a client stands with one seat where the history opens it, and with none elsewhere
    pub clients : (c : ℕ) → sum_by (clients_at c) s.views ≡ count_of c (openings k history)
    pub once : (c : ℕ) → count_of c (openings k history) ≤ 1
    pub each : (by : ℕ) (u : Known R E) → get_elem? s.views by ≡ some u → Fits run history u
