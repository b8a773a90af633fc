-- A seat: which turn it belongs to, what it knows, and what it holds between two calls.
use Rattle.std.specs.Prelude.{◌≡◌, [], ◌∷◌, Bool, true, false, Option}
use Rattle.atomic_table.specs.Table.{Me}
use Rattle.atomic_table.specs.Seated.{TableId}
use Rattle.stage_turn.specs.declared.known.Known.{Known}
use Rattle.stage_turn.specs.Known.{no_part}
use Rattle.stage_turn.specs.Rule.{IsAlive}

pub record Seated (R E : Type 0) : Type 0 where
  pub turn : TableId
  pub knows : Known R E

-- it holds the slot while it is in its turn, and nothing else ever
abbrev pub Holds : {T R E : Type 0} → Bool → Me (Option T) (Known R E) → Type 0
Holds {T} true m = (held : Option T) × (m.1 ≡ (0, held) ∷ [])
Holds false m = m.1 ≡ []

pub record Sits {T R E : Type 0} (m : Me (Option T) (Known R E)) : Type 0 where
  pub carries : Holds m.0.in_turn m
  pub alone : m.0.note ≡ no_part
  pub lives : IsAlive m.0.own
  pub plain : m.0.own.share ≡ 0 → m.0.own.clients ≡ []
