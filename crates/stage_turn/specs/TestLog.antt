-- The log that the tests keep in a turn, as data.
use Rattle.std.specs.Prelude.{◌≡◌, ℕ, ◌≤◌, List, [], ◌∷◌, ◌++◌, Bool, true, false, Option, Some, None}
use Rattle.stage_turn.specs.declared.known.Known.{Known}
use Rattle.stage_turn.specs.Kept.{Owner, writer, client, nobody, Reading, count_of, opened}

-- one entry: whose it is, whether it opens that client, and a number
pub record Noted : Type 0 where
  pub owner : Owner
  pub opens : Bool
  pub number : ℕ

pub record Logged : Type 0 where
  pub run : ℕ
  pub entries : List Noted

abbrev pub owner_from : Option ℕ → Bool → Owner
owner_from (Some c) ends = client c
owner_from None true = nobody
owner_from None false = writer

abbrev pub opening_of : ℕ → Noted
opening_of c = record { owner = client c; opens = true; number = 0 }

abbrev pub clients_of : List Noted → List ℕ
clients_of entries = opened (λ (e : Noted). e.owner) (λ (e : Noted). e.opens) entries

abbrev pub OpensOnce : List Noted → Type 0
OpensOnce entries = (c : ℕ) → count_of c (clients_of entries) ≤ 1

abbrev pub log_reading : Reading Logged ℕ Noted
log_reading = record { run = λ l. l.run; entries = λ l. l.entries; owner = λ e. e.owner; opens = λ e. e.opens; in_order = λ l. OpensOnce l.entries }

-- one entry more
abbrev pub Adds : Logged → Noted → Logged → Type 0
Adds old e new = (new.run ≡ old.run) × (new.entries ≡ old.entries ++ e ∷ [])

-- one client more, who was not opened before
abbrev pub Opens : Logged → ℕ → Logged → Type 0
Opens old c new = Adds old (opening_of c) new × (count_of c (clients_of old.entries) ≡ 0)

-- the pen and the share stay
abbrev pub IsSameRole : {R E : Type 0} → Known R E → Known R E → Type 0
IsSameRole u v = (v.own.pen ≡ u.own.pen) × (v.own.share ≡ u.own.share)
