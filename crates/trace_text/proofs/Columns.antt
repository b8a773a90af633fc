-- The columns of a circuit stand where the slots of its nodes do.
use Rattle.std.proofs.Common.{◌≡◌, ℕ, zero, suc, ◌+◌, ◌<◌, ◌≤◌, List, [], ◌∷◌, ◌++◌, length, map, take, drop, slice_index, get_or, Option, Some, None, true, refl, sym, ◌∙◌, ap, subst, arith, append_assoc, length-append, add-one, ◌==◌, if◌then◌else◌}
use Rattle.std.specs.Prelude.{slice_get}
use Rattle.std.specs.List.{filter, flat_map}
use Rattle.std.proofs.lemmas.Bool.{and_parts, eqb-true}
use Rattle.std.proofs.lemmas.List.{append-nil, length-replicate}
use Rattle.std.proofs.lemmas.List.Sums.{sum_by-append, sum_by-cons}
use Rattle.std.proofs.lemmas.Grind.{flat_map-append}
use Rattle.std.proofs.Math.Seq.{drop-cons, take-append_seam, get_or-append_seam}
use Rattle.sim_base.specs.Shape.{words_of_width, words_of_widths}
use Rattle.circuit.specs.Shown.{rows_of, slots_of}
use Rattle.circuit.specs.Slots.{item_widths, net_width, row_widths, slot_widths}
use Rattle.circuit.specs.Valid.{slots_run}
use Rattle.circuit.specs.declared.netlist.Circuit.{Circuit}
use Rattle.circuit.specs.declared.netlist.Net.{Net}
use Rattle.circuit.specs.declared.memory.Mem.{Mem}
use Rattle.circuit.specs.declared.item.Item.{Item}
use Rattle.circuit.specs.declared.item.ItemKind.{ItemKind}
use Rattle.circuit.specs.declared.item.ItemKind.TheVariants as item
use Rattle.spool_format.specs.Records.{slot_number, slot_words}
use Rattle.trace_text.specs.Text.{is_node, kind_width, nodes, value_text, values_text}
use Rattle.trace_text.specs.Columns.{AreWithin, column_text, columns, columns_from, columns_of}
use Rattle.trace_text.specs.declared.printer.Column.{Column}

-- ---- making them

pub all_columns : (nets : List Net) (mems : List Mem) (made whole : List Column) (place : ℕ) → made ++ columns_from nets mems place [] ≡ whole → made ≡ whole
unfolding columns_from
all_columns nets mems made whole place e = sym (append-nil made) ∙ e

pub one_column : (nets : List Net) (mems : List Mem) (made : List Column) (place : ℕ) (i : Item) (is : List Item)
    → made ++ columns_from nets mems place (i ∷ is) ≡ (made ++ columns_of nets place i.kind) ++ columns_from nets mems (place + words_of_widths (item_widths nets mems i.kind)) is
unfolding columns_from
one_column nets mems made place i is = sym (append_assoc made (columns_of nets place i.kind) _)

one_more : (nets : List Net) (mems : List Mem) (place : ℕ) (i : Item) (is : List Item)
    → ((p : ℕ) → length (columns_from nets mems p is) ≡ length (filter (λ j. is_node j.kind) is))
    → (k : ItemKind) → i.kind ≡ k → length (columns_from nets mems place (i ∷ is)) ≡ length (filter (λ j. is_node j.kind) (i ∷ is))
unfolding columns_from
one_more nets mems place i is rest (item.Node net lsb_at input output) e = let left = rest (place + words_of_widths (item_widths nets mems i.kind)) in cc (e, left)
one_more nets mems place i is rest (item.Memory m) e = let left = rest (place + words_of_widths (item_widths nets mems i.kind)) in cc (e, left)

pub as_many : (nets : List Net) (mems : List Mem) (place : ℕ) (items : List Item) → length (columns_from nets mems place items) ≡ length (filter (λ i. is_node i.kind) items)
unfolding columns_from
as_many nets mems place [] = refl
as_many nets mems place (i ∷ is) = one_more nets mems place i is (λ p. as_many nets mems p is) i.kind refl

pub next_columns : (nets : List Net) (mems : List Mem) (whole made more : List Column) (place behind n : ℕ) (items : List Item) (i : Item) (k : ItemKind) → n < length items → i ≡ get_or items n i → i.kind ≡ k
    → made ++ columns_from nets mems place (drop n items) ≡ whole → more ≡ made ++ columns_of nets place k → behind ≡ place + words_of_widths (item_widths nets mems k)
    → more ++ columns_from nets mems behind (drop (n + 1) items) ≡ whole
next_columns nets mems whole made more place behind n items i k there own is_kind before pushed ends =
    let e : drop n items ≡ i ∷ drop (n + 1) items = drop-cons items n i there ∙ ap (λ j. j ∷ drop (suc n) items) (sym own) ∙ ap (λ m. i ∷ drop m items) (sym (add-one n)) in
    let step = one_column nets mems made place i (drop (n + 1) items) in
    let same : more ++ columns_from nets mems behind (drop (n + 1) items) ≡ (made ++ columns_of nets place i.kind) ++ columns_from nets mems (place + words_of_widths (item_widths nets mems i.kind)) (drop (n + 1) items) = cc (pushed, ends, is_kind) in
    same ∙ sym step ∙ ap (λ is. made ++ columns_from nets mems place is) (sym e) ∙ before

-- ---- what they show

row_count : (m : Option Mem) → length (row_widths m) ≡ rows_of m
row_count None = refl
row_count (Some m) = length-replicate m.size m.width

item_count : (nets : List Net) (mems : List Mem) (k : ItemKind) → length (item_widths nets mems k) ≡ slots_of mems k
item_count nets mems (item.Node net lsb_at input output) = refl
item_count nets mems (item.Memory m) = row_count _

words_more : (front more : List ℕ) → words_of_widths (front ++ more) ≡ words_of_widths front + words_of_widths more
words_more front more = sum_by-append words_of_width front more

-- items with slots behind some of these widths and before others
module _ (nets : List Net) (mems : List Mem) (widths words : List ℕ) (room : length words ≡ words_of_widths widths) where
  here : (front : List ℕ) (i : Item) (is : List Item) (rest : List ℕ) → widths ≡ front ++ (flat_map (λ j. item_widths nets mems j.kind) (i ∷ is) ++ rest)
      → (k : ItemKind) → i.kind ≡ k → widths ≡ (front ++ item_widths nets mems k) ++ (flat_map (λ j. item_widths nets mems j.kind) is ++ rest)
  here front i is rest whole k e =
      whole ∙ ap (λ j. front ++ ((item_widths nets mems j ++ flat_map (λ j. item_widths nets mems j.kind) is) ++ rest)) e
      ∙ ap (λ ks. front ++ ks) (append_assoc (item_widths nets mems k) (flat_map (λ j. item_widths nets mems j.kind) is) rest)
      ∙ sym (append_assoc front (item_widths nets mems k) (flat_map (λ j. item_widths nets mems j.kind) is ++ rest))

  kind_within : (front : List ℕ) (is : List Item) (rest : List ℕ) (k : ItemKind) → widths ≡ (front ++ item_widths nets mems k) ++ (flat_map (λ j. item_widths nets mems j.kind) is ++ rest)
      → AreWithin (columns_from nets mems (words_of_widths front + words_of_widths (item_widths nets mems k)) is) words
      → AreWithin (columns_of nets (words_of_widths front) k ++ columns_from nets mems (words_of_widths front + words_of_widths (item_widths nets mems k)) is) words
  kind_within front is rest (item.Node net lsb_at input output) whole behind zero x there =
      let w = net_width (slice_get nets net) in
      let tail = flat_map (λ j. item_widths nets mems j.kind) is ++ rest in
      let all : words_of_widths widths ≡ words_of_widths (front ++ w ∷ []) + words_of_widths tail = ap words_of_widths whole ∙ words_more (front ++ w ∷ []) tail in
      let one : words_of_widths (w ∷ []) ≡ words_of_width w + 0 = sum_by-cons words_of_width w [] in
      let more = words_more front (w ∷ []) in
      let ends : words_of_widths front + words_of_width w ≤ length words = omega (arith, room, all, one, more) in
      let same : record { width = w; place = words_of_widths front } ≡ x = cc there in
      subst (λ (y : Column). y.place + words_of_width y.width ≤ length words) same ends
  kind_within front is rest (item.Node net lsb_at input output) whole behind (suc n) x there = behind n x there
  kind_within front is rest (item.Memory m) whole behind n x there = behind n x there

  within : (front : List ℕ) (items : List Item) (rest : List ℕ) → widths ≡ front ++ (flat_map (λ i. item_widths nets mems i.kind) items ++ rest)
      → AreWithin (columns_from nets mems (words_of_widths front) items) words
  unfolding columns_from
  within front [] rest whole n x there = cc there
  within front (i ∷ is) rest whole n x there =
      let own = here front i is rest whole i.kind refl in
      kind_within front is rest i.kind own
      (subst (λ p. AreWithin (columns_from nets mems p is) words) (words_more front (item_widths nets mems i.kind)) (within (front ++ item_widths nets mems i.kind) is rest own)) n x there

  -- ---- the text of a column is that of its node

  number_in : ℕ → ℕ
  number_in slot = slot_number (slot_words widths words slot)

  kind_text : (front : List ℕ) (first : ℕ) (is : List Item) (tail : List ℕ) (k : ItemKind) → widths ≡ (front ++ item_widths nets mems k) ++ tail → first ≡ length front
      → flat_map (column_text words) (columns_of nets (words_of_widths front) k) ≡ (if is_node k then value_text (kind_width nets k) (slot_number (slot_words widths words first)) else [])
  kind_text front first is tail (item.Node net lsb_at input output) whole at_first =
      let w = net_width (slice_get nets net) in
      let e : widths ≡ front ++ w ∷ tail = whole ∙ append_assoc front (w ∷ []) tail in
      let before : take (length front) widths ≡ front = ap (take (length front)) e ∙ take-append_seam front (w ∷ tail) in
      let own : slice_index widths (length front) ≡ w = ap (λ ws. slice_index ws (length front)) e ∙ get_or-append_seam front w tail 0 in
      let same : take (words_of_width w) (drop (words_of_widths front) words) ≡ slot_words widths words first =
      sym (ap (slot_words widths words) at_first
      ∙ ap (λ n. take (words_of_width n) (drop (words_of_widths (take (length front) widths)) words)) own
      ∙ ap (λ f. take (words_of_width w) (drop (words_of_widths f) words)) before) in
      append-nil (value_text w (slot_number (take (words_of_width w) (drop (words_of_widths front) words)))) ∙ ap (λ ws. value_text w (slot_number ws)) same
  kind_text front first is tail (item.Memory m) whole at_first = refl

  node_texts : Item → List Item → List ℕ → Type 0
  node_texts i is left = (k : ItemKind) → i.kind ≡ k → (if is_node k then value_text (kind_width nets k) (slot_number (slot_words widths words i.first_slot)) else []) ++ left
      ≡ flat_map (λ j. value_text (kind_width nets j.kind) (slot_number (slot_words widths words j.first_slot))) (filter (λ j. is_node j.kind) (i ∷ is))

  split_node : (i : Item) (is : List Item) (left : List ℕ) → left ≡ flat_map (λ j. value_text (kind_width nets j.kind) (slot_number (slot_words widths words j.first_slot))) (filter (λ j. is_node j.kind) is)
      → node_texts i is left
  unfolding node_texts
  split_node i is left e (item.Node net lsb_at input output) is_kind = cc (e, is_kind)
  split_node i is left e (item.Memory m) is_kind = cc (e, is_kind)

  texts : (front : List ℕ) (items : List Item) (rest : List ℕ) → widths ≡ front ++ (flat_map (λ i. item_widths nets mems i.kind) items ++ rest) → slots_run mems (length front) items ≡ true
      → flat_map (column_text words) (columns_from nets mems (words_of_widths front) items)
      ≡ flat_map (λ i. value_text (kind_width nets i.kind) (slot_number (slot_words widths words i.first_slot))) (filter (λ i. is_node i.kind) items)
  unfolding columns_from slots_run node_texts
  texts front [] rest whole run = refl
  texts front (i ∷ is) rest whole run =
      let parts = and_parts (i.first_slot == length front) (slots_run mems (length front + slots_of mems i.kind) is) run in
      let own = here front i is rest whole i.kind refl in
      let runs : slots_run mems (length (front ++ item_widths nets mems i.kind)) is ≡ true =
      ap (λ n. slots_run mems n is) (length-append front (item_widths nets mems i.kind) ∙ ap (λ n. length front + n) (item_count nets mems i.kind)) ∙ parts.1 in
      let left = ap (λ p. flat_map (column_text words) (columns_from nets mems p is)) (sym (words_more front (item_widths nets mems i.kind))) ∙ texts (front ++ item_widths nets mems i.kind) is rest own runs in
      flat_map-append (column_text words) (columns_of nets (words_of_widths front) i.kind) _
      ∙ ap (λ l. l ++ flat_map (column_text words) (columns_from nets mems (words_of_widths front + words_of_widths (item_widths nets mems i.kind)) is))
      (kind_text front i.first_slot is (flat_map (λ j. item_widths nets mems j.kind) is ++ rest) i.kind own (eqb-true i.first_slot (length front) parts.0))
      ∙ split_node i is _ left i.kind refl

-- ---- of a valid circuit

pub columns_within : (c : Circuit) (words : List ℕ) → length words ≡ words_of_widths (slot_widths c) → AreWithin (columns c) words
columns_within c words room = within c.nets c.mems (slot_widths c) words room [] c.items (map (λ _. 1) c.diags) refl

pub columns_show : (c : Circuit) (words : List ℕ) → slots_run c.mems 0 c.items ≡ true → length words ≡ words_of_widths (slot_widths c)
    → flat_map (column_text words) (columns c) ≡ values_text c (λ slot. slot_number (slot_words (slot_widths c) words slot))
columns_show c words run room = texts c.nets c.mems (slot_widths c) words room [] c.items (map (λ _. 1) c.diags) refl run

pub columns_count : (c : Circuit) → length (columns c) ≡ length (nodes c)
columns_count c = as_many c.nets c.mems 0 c.items

pub header_is : (c : Circuit) (text front : List ℕ) (count : List ℕ) (lines : List ℕ) → ((text ++ front) ++ count) ++ 10 ∷ [] ++ lines ≡ text ++ (front ++ count ++ 10 ∷ [] ++ lines)
header_is c text front count lines = simp append_assoc

pub line_is : (text time values : List ℕ) → ((text ++ time) ++ values) ++ 10 ∷ [] ≡ text ++ (time ++ values ++ 10 ∷ [])
line_is text time values = simp append_assoc
