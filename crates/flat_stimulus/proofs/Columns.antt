-- The columns among items, one after another.
use Rattle.std.proofs.Common.{◌≡◌, ℕ, List, [], ◌∷◌, ◌++◌, true, false, refl, ap, Some, None}
use Rattle.std.specs.Prelude.{◌==◌, option_and_then, position}
use Rattle.std.specs.Option.{option_map}
use Rattle.flat_stimulus.specs.Text.{column_onto, columns_among, numbers_of_columns}
use Rattle.flat_stimulus.specs.declared.column.Column.{Column}
use Rattle.circuit.specs.declared.netlist.Circuit.{Circuit}
use Rattle.circuit.specs.declared.item.Item.{Item}
use Rattle.circuit.specs.declared.item.ItemKind.{ItemKind}
use Rattle.circuit.specs.declared.item.ItemKind.TheVariants as item

onto_is : (c : Circuit) (name : List ℕ) (k : ItemKind) (more : List Column) → column_onto c name k more ≡ column_onto c name k [] ++ more
onto_is c name (item.Node net lsb_at true output) more = refl
onto_is c name (item.Node net lsb_at false output) more = refl
onto_is c name (item.Memory m) more = refl

pub among_cons : (c : Circuit) (i : Item) (is : List Item) → columns_among c (i ∷ is) ≡ columns_among c (i ∷ []) ++ columns_among c is
unfolding columns_among
among_cons c i is = onto_is c i.name i.kind (columns_among c is)

pub among_one : (c : Circuit) (i : Item) → columns_among c (i ∷ []) ≡ column_onto c i.name i.kind []
unfolding columns_among
among_one c i = refl

pub among_none : (c : Circuit) → columns_among c [] ≡ []
unfolding columns_among
among_none c = refl

pub numbers_none : (columns : List Column) → numbers_of_columns columns [] ≡ Some []
unfolding numbers_of_columns
numbers_none columns = refl

pub numbers_cons : (columns : List Column) (net : ℕ) (nets : List ℕ) (n : ℕ) → position (λ column. column.net == net) columns ≡ Some n → numbers_of_columns columns (net ∷ nets) ≡ option_map (λ ns. n ∷ ns) (numbers_of_columns columns nets)
unfolding numbers_of_columns
numbers_cons columns net nets n e = ap (option_and_then (λ n. option_map (λ ns. n ∷ ns) (numbers_of_columns columns nets))) e

pub numbers_fail : (columns : List Column) (net : ℕ) (nets : List ℕ) → position (λ column. column.net == net) columns ≡ None → numbers_of_columns columns (net ∷ nets) ≡ None
unfolding numbers_of_columns
numbers_fail columns net nets e = ap (option_and_then (λ n. option_map (λ ns. n ∷ ns) (numbers_of_columns columns nets))) e
