-- Which slot shows what.
use Rattle.std.proofs.Common.{◌≡◌, ℕ, zero, suc, ◌+◌, ◌-◌, ◌<◌, ◌≤◌, List, [], ◌∷◌, ◌++◌, map, take, ltb, refl, ◌∙◌, ap, arith, true, ◌==◌, Option, Some, append_assoc}
use Rattle.std.specs.Prelude.{slice_get, slice_index}
use Rattle.std.specs.List.{flat_map}
use Rattle.std.proofs.lemmas.Bool.{and_from, and_parts, cond-true, cond-false, eqb-true, eq-eqb, le-ltb, lt-ltb}
use Rattle.std.proofs.lemmas.List.{get_or_append_left, get_or-append_right}
use Rattle.std.proofs.lemmas.List.Concat.{flat_map-cons}
use Rattle.std.proofs.lemmas.List.Sums.{sum_by-cons}
use Rattle.circuit.specs.Built.{slots_of_items}
use Rattle.circuit.specs.Rounds.{Run, Standing, standing_at}
use Rattle.circuit.specs.Shown.{diag_number, fires_at, flag, item_number, shown, shown_in, slot_number, slots_of}
use Rattle.circuit.specs.Slots.{item_widths, slot_widths}
use Rattle.circuit.specs.Valid.{is_valid, slots_run}
use Rattle.circuit.specs.declared.netlist.Circuit.{Circuit}
use Rattle.circuit.specs.declared.netlist.Net.{Net}
use Rattle.circuit.specs.declared.memory.Mem.{Mem}
use Rattle.circuit.specs.declared.item.Item.{Item}
use Rattle.circuit.specs.declared.diagnostic.Diag.{Diag}
use Rattle.circuit.proofs.Grown.{fitting_of}
use Rattle.circuit.proofs.Slots.{item_count}

module _ (mems : List Mem) where
  slots_more : (x : Item) (xs : List Item) → slots_of_items mems (x ∷ xs) ≡ slots_of mems x.kind + slots_of_items mems xs
  slots_more x xs = sum_by-cons (λ (i : Item). slots_of mems i.kind) x xs

  -- ---- first slots are running sums

  pub sums_run : (before : ℕ) (xs : List Item) → ((n : ℕ) (i : Item) → slice_get xs n ≡ Some i → i.first_slot ≡ before + slots_of_items mems (take n xs)) → slots_run mems before xs ≡ true
  unfolding slots_run
  sums_run before [] h = refl
  sums_run before (x ∷ xs) h =
      let here = h 0 x refl in
      and_from (x.first_slot == before) (slots_run mems (before + slots_of mems x.kind) xs) (eq-eqb x.first_slot before (omega (arith, here)))
      (sums_run (before + slots_of mems x.kind) xs (λ n i e. let there = h (suc n) i e in let more = slots_more x (take n xs) in omega (arith, there, more)))

  pub run_sums : (before : ℕ) (xs : List Item) → slots_run mems before xs ≡ true → (n : ℕ) (i : Item) → slice_get xs n ≡ Some i → i.first_slot ≡ before + slots_of_items mems (take n xs)
  unfolding slots_run
  run_sums before [] h n i e = cc e
  run_sums before (x ∷ xs) h zero i e =
      let same : x ≡ i = let g : Some x ≡ Some i = e in cc g in
      let t = and_parts (x.first_slot == before) (slots_run mems (before + slots_of mems x.kind) xs) h in
      let first = eqb-true x.first_slot before t.0 in
      let own = ap (λ (y : Item). y.first_slot) same in
      omega (arith, first, own)
  run_sums before (x ∷ xs) h (suc n) i e =
      let t = and_parts (x.first_slot == before) (slots_run mems (before + slots_of mems x.kind) xs) h in
      let rest = run_sums (before + slots_of mems x.kind) xs t.1 n i e in
      let more = slots_more x (take n xs) in
      omega (arith, rest, more)

  -- the slots of an item lie among those of all items
  pub slots_within : (xs : List Item) (n : ℕ) (i : Item) → slice_get xs n ≡ Some i → slots_of_items mems (take n xs) + slots_of mems i.kind ≤ slots_of_items mems xs
  slots_within [] n i e = cc e
  slots_within (x ∷ xs) zero i e =
      let same : x ≡ i = let g : Some x ≡ Some i = e in cc g in
      let own = ap (λ (y : Item). slots_of mems y.kind) same in
      let more = slots_more x xs in
      omega (arith, own, more)
  slots_within (x ∷ xs) (suc n) i e =
      let rest = slots_within xs n i e in
      let more = slots_more x xs in
      let first = slots_more x (take n xs) in
      omega (arith, rest, more, first)

pub sums_from_0 : (mems : List Mem) (xs : List Item) → ((n : ℕ) (i : Item) → slice_get xs n ≡ Some i → i.first_slot ≡ slots_of_items mems (take n xs)) → slots_run mems 0 xs ≡ true
sums_from_0 mems xs h = sums_run mems 0 xs (λ n i e. let first = h n i e in omega (arith, first))

pub first_is_sum : (c : Circuit) (n : ℕ) (i : Item) → is_valid c ≡ true → slice_get c.items n ≡ Some i → i.first_slot ≡ slots_of_items c.mems (take n c.items)
first_is_sum c n i valid e = let first = run_sums c.mems 0 c.items (fitting_of c valid).slots n i e in omega (arith, first)

-- ---- numbers

module _ (run : Run) (k : ℕ) (s : Standing) where
  abbrev mems : List Mem
  mems = run.circuit.mems

  in_first : (x : Item) (xs : List Item) (slot : ℕ) → slot < slots_of mems x.kind → slot_number run k s (x ∷ xs) slot ≡ item_number s x.kind slot
  unfolding slot_number
  in_first x xs slot lt = cond-true (ltb slot (slots_of mems x.kind)) (item_number s x.kind slot) (slot_number run k s xs (slot - slots_of mems x.kind)) (lt-ltb slot (slots_of mems x.kind) lt)

  behind_first : (x : Item) (xs : List Item) (slot : ℕ) → slot_number run k s (x ∷ xs) (slots_of mems x.kind + slot) ≡ slot_number run k s xs slot
  unfolding slot_number
  behind_first x xs slot =
      cond-false (ltb (slots_of mems x.kind + slot) (slots_of mems x.kind)) (item_number s x.kind (slots_of mems x.kind + slot)) (slot_number run k s xs (slots_of mems x.kind + slot - slots_of mems x.kind)) (le-ltb (slots_of mems x.kind + slot) (slots_of mems x.kind) (omega arith))
      ∙ ap (slot_number run k s xs) (omega arith)

  item_at : (xs : List Item) (n : ℕ) (i : Item) (p : ℕ) → slice_get xs n ≡ Some i → p < slots_of mems i.kind → slot_number run k s xs (slots_of_items mems (take n xs) + p) ≡ item_number s i.kind p
  item_at [] n i p e lt = cc e
  item_at (x ∷ xs) zero i p e lt =
      let same : x ≡ i = let g : Some x ≡ Some i = e in cc g in
      let own = ap (λ (y : Item). slots_of mems y.kind) same in
      let none : slots_of_items mems (take 0 (x ∷ xs)) + p ≡ p = omega arith in
      ap (slot_number run k s (x ∷ xs)) none ∙ in_first x xs p (omega (arith, own, lt)) ∙ ap (λ (y : Item). item_number s y.kind p) same
  item_at (x ∷ xs) (suc n) i p e lt =
      let more = slots_more mems x (take n xs) in
      ap (slot_number run k s (x ∷ xs)) (omega (arith, more)) ∙ behind_first x xs (slots_of_items mems (take n xs) + p) ∙ item_at xs n i p e lt

  diag_at : (xs : List Item) (slot : ℕ) → slot_number run k s xs (slots_of_items mems xs + slot) ≡ diag_number run k (slice_get run.circuit.diags slot)
  unfolding slot_number
  diag_at [] slot = let none : 0 + slot ≡ slot = omega arith in ap (λ (n : ℕ). diag_number run k (slice_get run.circuit.diags n)) none
  diag_at (x ∷ xs) slot =
      let more = slots_more mems x xs in
      ap (slot_number run k s (x ∷ xs)) (omega (arith, more)) ∙ behind_first x xs (slots_of_items mems xs + slot) ∙ diag_at xs slot

pub item_shown : (run : Run) (k : ℕ) (s : Standing) (n : ℕ) (i : Item) (p : ℕ) → is_valid run.circuit ≡ true → standing_at run k ≡ Some s → slice_get run.circuit.items n ≡ Some i → p < slots_of run.circuit.mems i.kind
    → shown run k (i.first_slot + p) ≡ item_number s i.kind p
item_shown run k s n i p valid at e lt =
    let first = run_sums run.circuit.mems 0 run.circuit.items (fitting_of run.circuit valid).slots n i e in
    ap (λ (o : Option Standing). shown_in run k o (i.first_slot + p)) at
    ∙ ap (slot_number run k s run.circuit.items) (omega (arith, first))
    ∙ item_at run k s run.circuit.items n i p e lt

pub diag_shown : (run : Run) (k : ℕ) (s : Standing) (n : ℕ) (d : Diag) → standing_at run k ≡ Some s → slice_get run.circuit.diags n ≡ Some d
    → shown run k (slots_of_items run.circuit.mems run.circuit.items + n) ≡ flag (fires_at run k d)
diag_shown run k s n d at e =
    ap (λ (o : Option Standing). shown_in run k o (slots_of_items run.circuit.mems run.circuit.items + n)) at
    ∙ diag_at run k s run.circuit.items n
    ∙ ap (diag_number run k) e

-- ---- widths

module _ (nets : List Net) (mems : List Mem) (tail : List ℕ) where
  abbrev widths_from : List Item → List ℕ
  widths_from xs = flat_map (λ (i : Item). item_widths nets mems i.kind) xs ++ tail

  joined : (x : Item) (xs : List Item) → widths_from (x ∷ xs) ≡ item_widths nets mems x.kind ++ widths_from xs
  joined x xs =
      ap (λ (ws : List ℕ). ws ++ tail) (flat_map-cons (λ (i : Item). item_widths nets mems i.kind) x xs)
      ∙ append_assoc (item_widths nets mems x.kind) (flat_map (λ (i : Item). item_widths nets mems i.kind) xs) tail

  behind_widths : (x : Item) (xs : List Item) (slot : ℕ) → slice_index (widths_from (x ∷ xs)) (slots_of mems x.kind + slot) ≡ slice_index (widths_from xs) slot
  behind_widths x xs slot =
      ap (λ (ws : List ℕ). slice_index ws (slots_of mems x.kind + slot)) (joined x xs)
      ∙ get_or-append_right (item_widths nets mems x.kind) (widths_from xs) (slots_of mems x.kind) (slots_of mems x.kind + slot) 0 (item_count nets mems x.kind) (omega arith)
      ∙ ap (slice_index (widths_from xs)) (omega arith)

  pub item_width_at : (xs : List Item) (n : ℕ) (i : Item) (p : ℕ) → slice_get xs n ≡ Some i → p < slots_of mems i.kind → slice_index (widths_from xs) (slots_of_items mems (take n xs) + p) ≡ slice_index (item_widths nets mems i.kind) p
  item_width_at [] n i p e lt = cc e
  item_width_at (x ∷ xs) zero i p e lt =
      let same : x ≡ i = let g : Some x ≡ Some i = e in cc g in
      let own = ap (λ (y : Item). slots_of mems y.kind) same in
      let many = item_count nets mems x.kind in
      let none : slots_of_items mems (take 0 (x ∷ xs)) + p ≡ p = omega arith in
      ap (slice_index (widths_from (x ∷ xs))) none
      ∙ ap (λ (ws : List ℕ). slice_index ws p) (joined x xs)
      ∙ get_or_append_left (item_widths nets mems x.kind) (widths_from xs) 0 p (omega (arith, own, lt, many))
      ∙ ap (λ (y : Item). slice_index (item_widths nets mems y.kind) p) same
  item_width_at (x ∷ xs) (suc n) i p e lt =
      let more = slots_more mems x (take n xs) in
      ap (slice_index (widths_from (x ∷ xs))) (omega (arith, more)) ∙ behind_widths x xs (slots_of_items mems (take n xs) + p) ∙ item_width_at xs n i p e lt

  pub diag_width_at : (xs : List Item) (slot : ℕ) → slice_index (widths_from xs) (slots_of_items mems xs + slot) ≡ slice_index tail slot
  diag_width_at [] slot = let none : 0 + slot ≡ slot = omega arith in ap (slice_index tail) none
  diag_width_at (x ∷ xs) slot =
      let more = slots_more mems x xs in
      ap (slice_index (widths_from (x ∷ xs))) (omega (arith, more)) ∙ behind_widths x xs (slots_of_items mems xs + slot) ∙ diag_width_at xs slot

ones_at : (ds : List Diag) (n : ℕ) (d : Diag) → slice_get ds n ≡ Some d → slice_index (map {B = ℕ} (λ _. 1) ds) n ≡ 1
ones_at [] n d e = cc e
ones_at (x ∷ xs) zero d e = refl
ones_at (x ∷ xs) (suc n) d e = ones_at xs n d e

pub item_width : (c : Circuit) (n : ℕ) (i : Item) (p : ℕ) → is_valid c ≡ true → slice_get c.items n ≡ Some i → p < slots_of c.mems i.kind → slice_index (slot_widths c) (i.first_slot + p) ≡ slice_index (item_widths c.nets c.mems i.kind) p
item_width c n i p valid e lt =
    let first = run_sums c.mems 0 c.items (fitting_of c valid).slots n i e in
    ap (slice_index (slot_widths c)) (omega (arith, first)) ∙ item_width_at c.nets c.mems (map (λ _. 1) c.diags) c.items n i p e lt

pub diag_width : (c : Circuit) (n : ℕ) (d : Diag) → slice_get c.diags n ≡ Some d → slice_index (slot_widths c) (slots_of_items c.mems c.items + n) ≡ 1
diag_width c n d e = diag_width_at c.nets c.mems (map (λ _. 1) c.diags) c.items n ∙ ones_at c.diags n d e

pub items_within : (c : Circuit) (n : ℕ) (i : Item) → is_valid c ≡ true → slice_get c.items n ≡ Some i → i.first_slot + slots_of c.mems i.kind ≤ slots_of_items c.mems c.items
items_within c n i valid e =
    let first = run_sums c.mems 0 c.items (fitting_of c valid).slots n i e in
    let within = slots_within c.mems c.items n i e in
    omega (arith, first, within)
