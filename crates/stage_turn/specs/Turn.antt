-- What the calls of a turn ask and tell of its value.
use Rattle.std.specs.Prelude.{◌≡◌, ◌⊎◌, ℕ, ◌<◌, ◌≤◌, List, [], ◌++◌, length, All, Some, ⊤}
use Rattle.stage_turn.specs.declared.known.Known.{Known}
use Rattle.stage_turn.specs.Kept.{Owner, writer, client, nobody, Reading, count_of, openings}
use Rattle.stage_turn.specs.Known.{Guards, MayAdd, HasWholeShare, Follows, grown}

module _ {T R E : Type 0} (k : Reading T R E) where
  -- a seat that knows u takes this value
  pub record Finds (u : Known R E) (value : T) : Type 0 where
    pub order : k.in_order value
    pub run : u.run ≡ Some (k.run value)
    pub follows : Follows k u.own (k.entries value)
    pub heard : u.heard ≤ length (k.entries value)
    -- the only clerk has opened all clients that were opened
    pub whole : HasWholeShare u → (c : ℕ) → count_of c u.own.clients ≡ count_of c (openings k (k.entries value))

  -- a seat that knows u may leave this value, with these entries more
  pub record Leaves (u : Known R E) (value : T) (more : List E) : Type 0 where
    pub order : k.in_order value
    pub run : u.run ≡ Some (k.run value)
    pub entries : k.entries value ≡ u.own.seen ++ more
    pub own : All (λ e. MayAdd (grown k more u.own) (k.owner e)) more
    -- only a clerk opens clients
    pub clerk : u.own.share ≡ 0 → openings k more ≡ []

  -- an owner of which these entries tell: a client where one of them opens it
  abbrev pub IsNamed : List E → Owner → Type 0
  IsNamed entries writer = ⊤
  IsNamed entries (client c) = 0 < count_of c (openings k entries)
  IsNamed entries nobody = ⊤

  -- the writer's seat and the only clerk's close the turn with this value
  pub record Closes (writer clerk : Known R E) (value : T) : Type 0 where
    pub order : k.in_order value
    pub run : clerk.run ≡ Some (k.run value)
    pub writer_follows : Follows k writer.own (k.entries value)
    pub clerk_follows : Follows k clerk.own (k.entries value)
    pub writer_heard : writer.heard ≤ length (k.entries value)
    pub clerk_heard : clerk.heard ≤ length (k.entries value)
    pub clients : (c : ℕ) → count_of c clerk.own.clients ≡ count_of c (openings k (k.entries value))
    -- no entry is another's
    pub own : (o : Owner) → IsNamed (k.entries value) o → Guards writer.own o ⊎ Guards clerk.own o
