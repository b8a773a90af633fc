-- What is shown in the slots of items and of diagnostics, slot by slot.
use Rattle.std.proofs.Common.{◌≡◌, ℕ, zero, suc, ◌+◌, ◌-◌, ◌<◌, ◌≤◌, ◌^◌, List, [], ◌∷◌, ◌++◌, length, take, drop, map, refl, sym, ap, ◌∙◌, subst, arith, Bool, true, false, Option, Some, None, length-append}
use Rattle.std.specs.Prelude.{nat_lt, slice_get}
use Rattle.std.specs.List.{flat_map}
use Rattle.std.proofs.Math.Seq.{take_all}
use Rattle.std.proofs.lemmas.Bool.{cond-true, cond-false}
use Rattle.std.proofs.lemmas.Bool.Decides.{nat_tests}
use Rattle.std.proofs.lemmas.List.{append_assoc, append-nil, take-append-drop, take_more, length-map, length-replicate}
use Rattle.std.proofs.lemmas.List.Concat.{flat_map-append}
use Rattle.std.proofs.lemmas.List.Sums.{sum_by-append, sum_by-cons}
use Rattle.std.proofs.lemmas.Option.{get_or_from_slice_get}
use Rattle.sim_base.specs.BitValue.{bit_value}
use Rattle.sim_base.specs.Parts.{halves_of, parts}
use Rattle.sim_base.specs.Shape.{words_of_width, words_of_widths}
use Rattle.circuit.specs.Rounds.{Run, Standing, standing_at}
use Rattle.circuit.specs.Shown.{diag_number, fires_at, flag, item_number, shown_in, rows_of, slot_number, slots_of}
use Rattle.circuit.specs.Slots.{item_widths, row_widths, slot_widths}
use Rattle.circuit.specs.Valid.{slot_count}
use Rattle.circuit.specs.declared.netlist.Circuit.{Circuit}
use Rattle.circuit.specs.declared.netlist.Net.{Net}
use Rattle.circuit.specs.declared.memory.Mem.{Mem}
use Rattle.circuit.specs.declared.item.Item.{Item}
use Rattle.circuit.specs.declared.item.ItemKind.{ItemKind}
use Rattle.circuit.specs.declared.item.ItemKind.TheVariants as item
use Rattle.circuit.specs.declared.diagnostic.Diag.{Diag}
use Rattle.eval_commit.specs.Machine.{MachineState}
use Rattle.spool_format.specs.Reading.{written_at}
use Rattle.run_core.specs.Words.{StandsAt, item_words, kind_words, widths_of_items, words_at, words_of_slots}
use Rattle.run_core.proofs.Writing.{slots_joined, slots_room, slots_same, within, written_all, written_more}

-- ---- item after item

-- with one item more
joined_more : {X : Type 0} (f : X → List ℕ) (xs : List X) (n : ℕ) (x : X) → slice_get xs n ≡ Some x → flat_map f (take (n + 1) xs) ≡ flat_map f (take n xs) ++ f x
joined_more f xs n x at =
    ap (flat_map f) (take_more xs n x (within xs n x at) ∙ ap (λ (y : _). take n xs ++ y ∷ []) (get_or_from_slice_get xs n x x at))
    ∙ flat_map-append f (take n xs) (x ∷ []) ∙ ap (λ ys. flat_map f (take n xs) ++ ys) (append-nil (f x))

pub items_more : (c : Circuit) (n : ℕ) (i : Item) → slice_get c.items n ≡ Some i
    → words_of_widths (widths_of_items c (take (n + 1) c.items)) ≡ words_of_widths (widths_of_items c (take n c.items)) + words_of_widths (item_widths c.nets c.mems i.kind)
items_more c n i at =
    ap words_of_widths (joined_more (λ (x : Item). item_widths c.nets c.mems x.kind) c.items n i at)
    ∙ sum_by-append words_of_width (widths_of_items c (take n c.items)) (item_widths c.nets c.mems i.kind)

items_within : (c : Circuit) (n : ℕ) → words_of_widths (widths_of_items c (take n c.items)) ≤ words_of_widths (widths_of_items c c.items)
items_within c n =
    let whole : words_of_widths (widths_of_items c c.items) ≡ words_of_widths (widths_of_items c (take n c.items)) + words_of_widths (widths_of_items c (drop n c.items)) =
    ap (λ xs. words_of_widths (widths_of_items c xs)) (sym (take-append-drop n c.items))
    ∙ ap words_of_widths (flat_map-append (λ (x : Item). item_widths c.nets c.mems x.kind) (take n c.items) (drop n c.items))
    ∙ sum_by-append words_of_width (widths_of_items c (take n c.items)) (widths_of_items c (drop n c.items)) in
    omega (arith, whole)

pub items_fit : (c : Circuit) (n : ℕ) (i : Item) → slice_get c.items n ≡ Some i
    → words_of_widths (widths_of_items c (take n c.items)) + words_of_widths (item_widths c.nets c.mems i.kind) ≤ words_of_widths (widths_of_items c c.items)
items_fit c n i at = omega (arith, items_more c n i at, items_within c (n + 1))

pub items_all : (c : Circuit) (xs : List Item) (n : ℕ) → xs ≡ c.items → length xs ≤ n → take n c.items ≡ c.items
items_all c xs n is le = take_all n c.items (subst (λ (ys : List Item). length ys ≤ n) is le)

items_room : (c : Circuit) (s : Standing) (xs : List Item) → length (item_words c s xs) ≡ words_of_widths (widths_of_items c xs)
items_room c s [] = refl
items_room c s (i ∷ is) =
    length-append (kind_words c s i.kind) (item_words c s is)
    ∙ ap (λ n. n + length (item_words c s is)) (slots_room (item_widths c.nets c.mems i.kind) (item_number s i.kind))
    ∙ ap (λ n. words_of_widths (item_widths c.nets c.mems i.kind) + n) (items_room c s is)
    ∙ sym (sum_by-append words_of_width (item_widths c.nets c.mems i.kind) (widths_of_items c is))

pub items_words : (c : Circuit) (s : Standing) (n : ℕ) (i : Item) → slice_get c.items n ≡ Some i → (w one two : List ℕ) (place : ℕ) → place ≡ words_of_widths (widths_of_items c (take n c.items))
    → words_of_widths (widths_of_items c c.items) ≤ length w → one ≡ written_at w 0 (item_words c s (take n c.items)) → two ≡ written_at one place (kind_words c s i.kind)
    → two ≡ written_at w 0 (item_words c s (take (n + 1) c.items))
items_words c s n i at w one two place is room first second =
    let fits = items_fit c n i at in
    let begun = items_room c s (take n c.items) in
    let long = slots_room (item_widths c.nets c.mems i.kind) (item_number s i.kind) in
    written_more w one two (item_words c s (take n c.items)) (kind_words c s i.kind) 0 place first second (omega (arith, is, begun)) (omega (arith, fits, is, long, room))
    ∙ ap (written_at w 0) (sym (joined_more (λ (x : Item). kind_words c s x.kind) c.items n i at))

-- ---- diagnostics

pub flag_at : (xs : List Bool) (n : ℕ) (x : Bool) (word : ℕ) → slice_get xs n ≡ Some x → word ≡ flag x → slice_get (map flag xs) n ≡ Some word
flag_at [] n x word at is = cc at
flag_at (y ∷ xs) zero x word at is = let e : y ≡ x = cc at in ap (λ b. Some (flag b)) e ∙ ap (λ n. Some n) (sym is)
flag_at (y ∷ xs) (suc n) x word at is = flag_at xs n x word at is

pub diags_few : (c : Circuit) → slot_count c < 2 ^ 32 → length c.diags < 2 ^ 32
diags_few c few = omega (arith, few)

ones : (ds : List Diag) → words_of_widths (map {B = ℕ} (λ _. 1) ds) ≡ length ds
ones [] = refl
ones (d ∷ ds) = (let e = ones ds in let f = sum_by-cons words_of_width 1 (map {B = ℕ} (λ _. 1) ds) in omega (arith, e, f))

pub slots_apart : (c : Circuit) → words_of_widths (slot_widths c) ≡ words_of_widths (widths_of_items c c.items) + length c.diags
slots_apart c =
    sum_by-append words_of_width (widths_of_items c c.items) (map (λ _. 1) c.diags) ∙ ap (λ n. words_of_widths (widths_of_items c c.items) + n) (ones c.diags)

one_word : (b : Bool) → halves_of (bit_value 1 (flag b)) ≡ flag b ∷ []
unfolding parts
one_word true = refl
one_word false = refl

-- ---- slot by slot

row_count : (m : Option Mem) → length (row_widths m) ≡ rows_of m
row_count None = refl
row_count (Some m) = length-replicate m.size m.width

item_count : (nets : List Net) (mems : List Mem) (kind : ItemKind) → length (item_widths nets mems kind) ≡ slots_of mems kind
item_count nets mems (item.Node net lsb_at input output) = refl
item_count nets mems (item.Memory m) = row_count (slice_get mems m)

module _ (run : Run) (k : ℕ) (s : Standing) where
  diags_shown : (ds : List Diag) → words_of_slots (map (λ _. 1) ds) (λ slot. diag_number run k (slice_get ds slot)) ≡ map flag (map (fires_at run k) ds)
  unfolding words_of_slots
  diags_shown [] = refl
  diags_shown (d ∷ ds) =
      ap (λ xs. xs ++ words_of_slots (map (λ _. 1) ds) (λ slot. diag_number run k (slice_get ds slot))) (one_word (fires_at run k d))
      ∙ ap (λ xs. flag (fires_at run k d) ∷ xs) (diags_shown ds)

  abbrev widths_from : List Item → List ℕ
  widths_from xs = widths_of_items run.circuit xs ++ map (λ _. 1) run.circuit.diags

  first_shown : (i : Item) (is : List Item) (n : ℕ) → n < slots_of run.circuit.mems i.kind → slot_number run k s (i ∷ is) n ≡ item_number s i.kind n
  unfolding slot_number
  first_shown i is n lt = cond-true (nat_lt n (slots_of run.circuit.mems i.kind)) _ _ (let e : nat_lt n (slots_of run.circuit.mems i.kind) ≡ true = grind (arith, nat_tests) in e)

  rest_shown : (i : Item) (is : List Item) (n : ℕ) → slot_number run k s (i ∷ is) (slots_of run.circuit.mems i.kind + n) ≡ slot_number run k s is n
  unfolding slot_number
  rest_shown i is n =
      let slots = slots_of run.circuit.mems i.kind in
      let behind : nat_lt (slots + n) slots ≡ false = grind (arith, nat_tests) in
      let at : slots + n - slots ≡ n = omega arith in
      cond-false (nat_lt (slots + n) slots) _ _ behind ∙ ap (slot_number run k s is) at

  none_shown : (n : ℕ) → slot_number run k s [] n ≡ diag_number run k (slice_get run.circuit.diags n)
  unfolding slot_number
  none_shown n = refl

  items_shown : (xs : List Item) → words_of_slots (widths_from xs) (slot_number run k s xs) ≡ item_words run.circuit s xs ++ map flag (map (fires_at run k) run.circuit.diags)
  items_shown [] = slots_same (map (λ _. 1) run.circuit.diags) (slot_number run k s []) (λ slot. diag_number run k (slice_get run.circuit.diags slot)) (λ n lt. none_shown n) ∙ diags_shown run.circuit.diags
  items_shown (i ∷ is) =
      let first = item_widths run.circuit.nets run.circuit.mems i.kind in
      let count : length first ≡ slots_of run.circuit.mems i.kind = item_count run.circuit.nets run.circuit.mems i.kind in
      let number = slot_number run k s (i ∷ is) in
      ap (λ ws. words_of_slots ws number) (append_assoc first (widths_of_items run.circuit is) (map (λ _. 1) run.circuit.diags))
      ∙ slots_joined first (widths_from is) number
      ∙ ap (λ ws. ws ++ words_of_slots (widths_from is) (λ n. number (length first + n)))
      (slots_same first number (item_number s i.kind) (λ n lt. first_shown i is n (omega (arith, lt, count))))
      ∙ ap (λ ws. kind_words run.circuit s i.kind ++ ws)
      (slots_same (widths_from is) (λ n. number (length first + n)) (slot_number run k s is) (λ n lt. ap (λ m. number (m + n)) count ∙ rest_shown i is n) ∙ items_shown is)
      ∙ sym (append_assoc (kind_words run.circuit s i.kind) (item_words run.circuit s is) (map flag (map (fires_at run k) run.circuit.diags)))

  all_shown : standing_at run k ≡ Some s → words_at run k ≡ item_words run.circuit s run.circuit.items ++ map flag (map (fires_at run k) run.circuit.diags)
  all_shown at =
      slots_same (slot_widths run.circuit) (λ slot. shown_in run k (standing_at run k) slot) (slot_number run k s run.circuit.items) (λ n lt. ap (λ o. shown_in run k o n) at)
      ∙ items_shown run.circuit.items

  pub words_shown : (m : MachineState) (c : Circuit) → StandsAt run k m s → m.circuit ≡ c → (w one two : List ℕ) (place : ℕ) → length w ≡ words_of_widths (slot_widths c) → place ≡ words_of_widths (widths_of_items c c.items)
      → one ≡ written_at w 0 (item_words c s c.items) → two ≡ written_at one place (map flag m.fired) → two ≡ words_at run k
  words_shown m c at same w one two place room is first second =
      let circuit : c ≡ run.circuit = sym same ∙ at.circuit in
      let fired : map flag m.fired ≡ map flag (map (fires_at run k) run.circuit.diags) = ap (map flag) at.fired in
      let items = items_room c s c.items in
      let apart = slots_apart c in
      let flags : length (map flag m.fired) ≡ length c.diags =
      length-map m.fired flag ∙ ap length at.fired ∙ length-map run.circuit.diags (fires_at run k) ∙ ap (λ (x : Circuit). length x.diags) (sym circuit) in
      written_more w one two (item_words c s c.items) (map flag m.fired) 0 place first second (omega (arith, is, items)) (omega (arith, is, apart, flags, room))
      ∙ written_all w (item_words c s c.items ++ map flag m.fired) (omega (arith, length-append (item_words c s c.items) (map flag m.fired), items, flags, apart, room))
      ∙ ap (λ ys. item_words c s c.items ++ ys) fired
      ∙ ap (λ (x : Circuit). item_words x s x.items ++ map flag (map (fires_at run k) run.circuit.diags)) circuit
      ∙ sym (all_shown at.left)
