-- A kept value: its run, its entries, whose they are, and the clients that they open.
use Rattle.std.specs.Prelude.{◌==◌, ℕ, List, [], ◌∷◌, Bool, true, false, count_by, flat_map}

-- Whose an entry is. An entry of nobody ends the whole, and only the clerk with the whole share may add it.
pub data Owner : Type 0 where
  writer : Owner
  client : ℕ → Owner
  nobody : Owner

-- What a value of type T means. `opens` says whether an entry opens the client whose it is.
pub record Reading (T R E : Type 0) : Type 1 where
  pub run : T → R
  pub entries : T → List E
  pub owner : E → Owner
  pub opens : E → Bool
  pub in_order : T → Type 0

-- how often the client c stands in the list
abbrev pub count_of : ℕ → List ℕ → ℕ
count_of c clients = count_by (λ d. d == c) clients

-- the client that an entry of this owner opens, if it opens one
abbrev pub opened_by : Owner → Bool → List ℕ
opened_by writer opens = []
opened_by (client c) true = c ∷ []
opened_by (client c) false = []
opened_by nobody opens = []

-- the clients that these entries open, in their order
abbrev pub opened : {E : Type 0} → (E → Owner) → (E → Bool) → List E → List ℕ
opened owner opens entries = flat_map (λ e. opened_by (owner e) (opens e)) entries

abbrev pub openings : {T R E : Type 0} → Reading T R E → List E → List ℕ
openings k entries = opened k.owner k.opens entries
