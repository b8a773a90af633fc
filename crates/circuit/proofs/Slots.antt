-- How many slots a valid circuit has.
use Rattle.std.proofs.Common.{◌≡◌, ℕ, ◌<◌, ◌^◌, List, [], ◌∷◌, ◌++◌, length, map, true, refl, sym, ◌∙◌, ap, subst, arith, Option, Some, None, sum_by, length-append}
use Rattle.std.specs.List.{flat_map}
use Rattle.std.proofs.lemmas.Bool.{and_parts, ltb-true}
use Rattle.std.proofs.lemmas.List.{length-map, length-replicate}
use Rattle.std.proofs.lemmas.List.Concat.{length-flat_map}
use Rattle.std.proofs.lemmas.List.Sums.{sum_by-cons}
use Rattle.circuit.specs.Shown.{rows_of, slots_of}
use Rattle.circuit.specs.Slots.{row_widths, item_widths, slot_widths}
use Rattle.circuit.specs.Valid.{counts_fit, is_valid, is_countable, slot_count}
use Rattle.circuit.specs.declared.netlist.Circuit.{Circuit}
use Rattle.circuit.specs.declared.netlist.Net.{Net}
use Rattle.circuit.specs.declared.memory.Mem.{Mem}
use Rattle.circuit.specs.declared.diagnostic.Diag.{Diag}
use Rattle.circuit.specs.declared.item.Item.{Item}
use Rattle.circuit.specs.declared.item.ItemKind.{ItemKind}
use Rattle.circuit.specs.declared.item.ItemKind.TheVariants as item

row_count : (m : Option Mem) → length (row_widths m) ≡ rows_of m
row_count None = refl
row_count (Some m) = length-replicate m.size m.width

pub item_count : (nets : List Net) (mems : List Mem) (k : ItemKind) → length (item_widths nets mems k) ≡ slots_of mems k
item_count nets mems (item.Node net lsb_at input output) = refl
item_count nets mems (item.Memory m) = row_count _

items_count : (c : Circuit) (xs : List Item) → sum_by (λ (i : Item). length (item_widths c.nets c.mems i.kind)) xs ≡ sum_by (λ (i : Item). slots_of c.mems i.kind) xs
items_count c [] = refl
items_count c (x ∷ xs) =
    omega (arith, item_count c.nets c.mems x.kind, items_count c xs, sum_by-cons (λ (i : Item). length (item_widths c.nets c.mems i.kind)) x xs, sum_by-cons (λ (i : Item). slots_of c.mems i.kind) x xs)

pub slots_count : (c : Circuit) → length (slot_widths c) ≡ slot_count c
slots_count c =
    omega (arith, length-append (flat_map (λ (i : Item). item_widths c.nets c.mems i.kind) c.items) (map (λ _. 1) c.diags), length-flat_map (λ (i : Item). item_widths c.nets c.mems i.kind) c.items, items_count c c.items, length-map {B = ℕ} c.diags (λ _. 1))

countable_slots : (c : Circuit) → is_valid c ≡ true → is_countable (slot_count c) ≡ true
countable_slots c valid =
    let all = and_parts (counts_fit c) _ valid in
    let nets = and_parts (is_countable (length c.nets)) _ all.0 in
    let cells = and_parts (is_countable (length c.cells)) _ nets.1 in
    let regs = and_parts (is_countable (length c.regs)) _ cells.1 in
    let mems = and_parts (is_countable (length c.mems)) _ regs.1 in
    let inputs = and_parts (is_countable (length c.inputs)) _ mems.1 in
    let scopes = and_parts (is_countable (length c.scopes)) _ inputs.1 in
    (and_parts (is_countable (slot_count c)) _ scopes.1).0

pub valid_slots : (c : Circuit) → is_valid c ≡ true → length (slot_widths c) < 2 ^ 32
valid_slots c valid =
    let below : slot_count c < 2 ^ 32 = ltb-true (slot_count c) (2 ^ 32) (countable_slots c valid) in
    subst (λ (n : ℕ). n < 2 ^ 32) (sym (slots_count c)) below

-- the items' widths first, and then the diagnostics'
pub joined_widths : (c : Circuit) (none some all : List ℕ) (xs : List Item) (ds : List Diag) → none ≡ [] → xs ≡ c.items → ds ≡ c.diags
    → some ≡ none ++ flat_map (λ (i : Item). item_widths c.nets c.mems i.kind) xs → all ≡ some ++ map (λ _. 1) ds → all ≡ slot_widths c
joined_widths c none some all xs ds n x d s a =
    a ∙ ap (λ (w : List ℕ). w ++ map (λ _. 1) ds) (s ∙ ap (λ (w : List ℕ). w ++ flat_map (λ (i : Item). item_widths c.nets c.mems i.kind) xs) n ∙ ap (flat_map (λ (i : Item). item_widths c.nets c.mems i.kind)) x)
    ∙ ap (λ (ys : List Diag). flat_map (λ (i : Item). item_widths c.nets c.mems i.kind) c.items ++ map (λ _. 1) ys) d

pub few_widths : (c : Circuit) (all : List ℕ) → is_valid c ≡ true → all ≡ slot_widths c → length all < 2 ^ 32
few_widths c all valid is = subst (λ (ws : List ℕ). length ws < 2 ^ 32) (sym is) (valid_slots c valid)
