-- Steps from clap's words to those of the definitions.
use Rattle.std.proofs.Common.{◌≡◌, ◌⊎◌, ap₂, sym, refl, inl, inr, List, [], ◌∷◌, ℕ, Option, Some, None, option_map}
use Rattle.std.specs.Prelude.{is_some}
use Rattle.clap.proofs.WalkLemmas.{first_value-rows}
use Rattle.clap.specs.Words.{IsAmong, Kinds, Row, fault_of, first_of, first_value, matches_of, rows_of}
use Rattle.clap.specs.declared.error.kind.ErrorKind.{ErrorKind}
use Rattle.clap.specs.declared.error.kind.ErrorKind.TheVariants.{OutOfMemory}
use Rattle.clap.specs.declared.parser.matches.Found.{Found}
use Rattle.command_words.specs.Asked.{command_asked, command_by, command_in}
use Rattle.command_words.specs.Line.{line}

pub first_value_rows : (f : Found) (id : List ℕ) → first_value f id ≡ first_of id (rows_of f)
first_value_rows f id = first_value-rows f id

pub same_presence : {X Y : Type 0} (f : X → Y) (o : Option X) → is_some (option_map f o) ≡ is_some o
same_presence f None = refl
same_presence f (Some x) = refl

fits_by : (kinds : Kinds) (rows given : List Row) → kinds ≡ [] → given ≡ rows → command_by kinds rows ≡ command_in given
fits_by kinds rows given none same = ap₂ command_by none (sym same)

-- words that the line takes ask for what is given
pub asked_where_fits : (ws : List (List ℕ)) (given : List Row) → fault_of line ws ≡ [] → given ≡ matches_of line ws → command_asked ws ≡ command_in given
unfolding command_asked
asked_where_fits ws given none same = fits_by _ _ given none same

none_by : (k : ErrorKind) (kinds : Kinds) (rows : List Row) → IsAmong k kinds → command_by kinds rows ≡ None
none_by k [] rows among = absurd among
none_by k (x ∷ xs) rows among = refl

-- words that it refuses, but for want of memory, ask for nothing
pub none_where_refused : (ws : List (List ℕ)) (k : ErrorKind) → (k ≡ OutOfMemory → ⊥) → (k ≡ OutOfMemory) ⊎ IsAmong k (fault_of line ws) → command_asked ws ≡ None
unfolding command_asked
none_where_refused ws k other (inl memory) = absurd (other memory)
none_where_refused ws k other (inr among) = none_by k _ _ among
