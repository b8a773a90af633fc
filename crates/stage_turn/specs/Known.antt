-- What a seat is and knows, in words, and what each call makes of it.
use Rattle.std.specs.Prelude.{◌≡◌, ◌⊎◌, ℕ, ◌+◌, ◌-◌, max, nat_lt, ◌||◌, ◌<◌, if◌then◌else◌, List, [], ◌++◌, length, true, false, All, Some}
use Rattle.stage_turn.specs.declared.known.Part.{Part}
use Rattle.stage_turn.specs.declared.known.Known.{Known}
use Rattle.stage_turn.specs.Kept.{Owner, writer, client, nobody, Reading, count_of, openings}

-- all shares of all clerks together
abbrev pub whole_share : ℕ
whole_share = 1024

module _ {R E : Type 0} where
  abbrev pub IsWriter : Known R E → Type 0
  IsWriter u = u.own.pen ≡ true

  abbrev pub IsClerk : Known R E → Type 0
  IsClerk u = 0 < u.own.share

  -- the only clerk
  abbrev pub HasWholeShare : Known R E → Type 0
  HasWholeShare u = u.own.share ≡ whole_share

  -- between `take` and `leave`
  abbrev pub IsInTurn : Known R E → Type 0
  IsInTurn u = u.in_turn ≡ true

  abbrev pub IsResting : Known R E → Type 0
  IsResting u = u.in_turn ≡ false

module _ {E : Type 0} where
  abbrev pub no_part : Part E
  no_part = record { pen = false; share = 0; seen = []; clients = [] }

  -- No other part adds an entry of this owner: the pen guards the writer's entries, a client's are guarded by whoever opened it, and nobody's by each clerk
  abbrev pub Guards : Part E → Owner → Type 0
  Guards p writer = p.pen ≡ true
  Guards p (client c) = 0 < count_of c p.clients
  Guards p nobody = 0 < p.share

  -- this part may add an entry of this owner
  abbrev pub MayAdd : Part E → Owner → Type 0
  MayAdd p writer = p.pen ≡ true
  MayAdd p (client c) = 0 < count_of c p.clients
  MayAdd p nobody = p.share ≡ whole_share

  -- the longer of two histories
  abbrev pub longer : List E → List E → List E
  longer xs ys = if nat_lt (length xs) (length ys) then ys else xs

  -- one of the two histories begins the other
  abbrev pub OneBeginsOther : List E → List E → Type 0
  OneBeginsOther xs ys = ((more : List E) × (ys ≡ xs ++ more)) ⊎ ((more : List E) × (xs ≡ ys ++ more))

  -- both parts as one, which has seen the longer history
  abbrev pub both_parts : Part E → Part E → Part E
  both_parts p q = record { pen = p.pen || q.pen; share = p.share + q.share; seen = longer p.seen q.seen; clients = p.clients ++ q.clients }

module _ {T R E : Type 0} (k : Reading T R E) where
  -- none of these entries is one that the part guards
  abbrev pub IsForeign : Part E → List E → Type 0
  IsForeign p entries = All (λ e. ¬ Guards p (k.owner e)) entries

  -- the history begins with what the part has seen, and behind that has no entry that the part guards
  pub record Follows (p : Part E) (history : List E) : Type 0 where
    pub behind : List E
    pub begins : history ≡ p.seen ++ behind
    pub foreign : IsForeign p behind

  -- the part with these entries more, and the clients that they open
  abbrev pub grown : List E → Part E → Part E
  grown more p = record { pen = p.pen; share = p.share; seen = p.seen ++ more; clients = p.clients ++ openings k more }

  -- what the two seats of a new turn know
  abbrev pub first_writer : T → Known R E
  first_writer x = record { own = record { pen = true; share = 0; seen = k.entries x; clients = [] }; note = no_part; in_turn = false; run = Some (k.run x); heard = 0 }

  abbrev pub first_clerk : T → Known R E
  first_clerk x = record { own = record { pen = false; share = whole_share; seen = k.entries x; clients = [] }; note = no_part; in_turn = false; run = Some (k.run x); heard = 0 }

  -- a seat that added these entries, and opened the clients that they open
  abbrev pub appended : List E → Known R E → Known R E
  appended more u = record { own = grown more u.own; note = u.note; in_turn = u.in_turn; run = u.run; heard = u.heard }

module _ {R E : Type 0} where
  -- a seat that took the turn and has seen all of this history
  abbrev pub holding : List E → Known R E → Known R E
  holding history u = record { own = record { pen = u.own.pen; share = u.own.share; seen = history; clients = u.own.clients }; note = u.note; in_turn = true; run = u.run; heard = u.heard }

  -- a seat that left the turn
  abbrev pub resting : Known R E → Known R E
  resting u = record { own = u.own; note = u.note; in_turn = false; run = u.run; heard = u.heard }

  -- a seat that was told this count
  abbrev pub told : ℕ → Known R E → Known R E
  told count u = record { own = u.own; note = u.note; in_turn = u.in_turn; run = u.run; heard = count }

  -- a clerk that gave a share of one to a new clerk, and that new clerk, who has opened nobody
  abbrev pub giver : Known R E → Known R E
  giver u = record { own = record { pen = u.own.pen; share = u.own.share - 1; seen = u.own.seen; clients = u.own.clients }; note = no_part; in_turn = u.in_turn; run = u.run; heard = u.heard }

  abbrev pub newcomer : Known R E → Known R E
  newcomer u = record { own = record { pen = false; share = 1; seen = u.own.seen; clients = [] }; note = no_part; in_turn = false; run = u.run; heard = u.heard }

  -- two clerks that became one
  abbrev pub joined : Known R E → Known R E → Known R E
  joined u w = record { own = both_parts u.own w.own; note = no_part; in_turn = false; run = u.run; heard = max u.heard w.heard }
