-- Tests of a list element by element, each against those behind it.
use Rattle.std.proofs.Common.{◌≡◌, ℕ, ◌+◌, ◌-◌, ◌<◌, ◌≤◌, List, [], ◌∷◌, length, drop, take, get_or, sym, ◌∙◌, ap, refl, Bool, true, false, not, ◌&&◌, ◌==◌, bytes_eq, arith}
use Rattle.std.specs.List.{list_any}
use Rattle.std.proofs.lemmas.List.{at_drop_more, at_drop_all}
use Rattle.std.proofs.lemmas.Grind.{common_steps}
use Rattle.circuit.specs.Shown.{slots_of}
use Rattle.circuit.specs.Valid.{numbers_differ, names_differ, names_rise, stands_before, slots_run}
use Rattle.circuit.specs.declared.memory.Mem.{Mem}
use Rattle.circuit.specs.declared.item.Item.{Item}
use Rattle.circuit.specs.declared.item.Scope.{Scope}

pub behind : {X : Type 0} (xs : List X) (i : ℕ) → take (length xs - (i + 1)) (drop (i + 1) xs) ≡ drop (i + 1) xs
behind xs i = grind (arith, common_steps)

-- what was asked of those behind an element
pub none_behind : {X : Type 0} (q : X → Bool) (xs : List X) (i : ℕ) (t b : Bool) → t ≡ list_any q (take (length xs - (i + 1)) (drop (i + 1) xs)) → t ≡ b → not (list_any q (drop (i + 1) xs)) ≡ not b
none_behind q xs i t b asked is = ap not (ap (list_any q) (sym (behind xs i)) ∙ sym asked ∙ is)

module _ {X : Type 0} (all : List X → Bool) (test : X → List X → Bool) (step : (x : X) (xs : List X) → all (x ∷ xs) ≡ (test x xs && all xs)) where
  first : (xs : List X) (i : ℕ) (d x : X) → i < length xs → x ≡ get_or xs i d → all (drop i xs) ≡ (test x (drop (i + 1) xs) && all (drop (i + 1) xs))
  first xs i d x within is =
      at_drop_more all xs i d within ∙ ap (λ (y : X). all (y ∷ drop (i + 1) xs)) (sym is) ∙ step x (drop (i + 1) xs)

  pub fails_at : (xs : List X) (i : ℕ) (d x : X) → i < length xs → x ≡ get_or xs i d → test x (drop (i + 1) xs) ≡ false → all (drop i xs) ≡ all xs → false ≡ all xs
  fails_at xs i d x within is off kept =
      sym (sym kept ∙ first xs i d x within is ∙ ap (λ (b : Bool). b && all (drop (i + 1) xs)) off)

  pub passes_at : (xs : List X) (i : ℕ) (d x : X) → i < length xs → x ≡ get_or xs i d → test x (drop (i + 1) xs) ≡ true → all (drop i xs) ≡ all xs → all (drop (i + 1) xs) ≡ all xs
  passes_at xs i d x within is on kept =
      sym (ap (λ (b : Bool). b && all (drop (i + 1) xs)) on) ∙ sym (first xs i d x within is) ∙ kept

  pub passes_all : all [] ≡ true → (xs : List X) (i : ℕ) → length xs ≤ i → all (drop i xs) ≡ all xs → true ≡ all xs
  passes_all none xs i past kept = sym none ∙ sym (at_drop_all all xs i past) ∙ kept

-- ---- numbers and names that differ, names that rise

abbrev pub differs : ℕ → List ℕ → Bool
differs n ns = not (list_any (λ other. other == n) ns)

pub numbers_step : (n : ℕ) (ns : List ℕ) → numbers_differ (n ∷ ns) ≡ (differs n ns && numbers_differ ns)
unfolding numbers_differ
numbers_step n ns = refl

pub numbers_none : numbers_differ [] ≡ true
unfolding numbers_differ
numbers_none = refl

abbrev pub is_other : Scope → List Scope → Bool
is_other s ss = not (list_any (λ other. bytes_eq s.name other.name) ss)

pub names_step : (s : Scope) (ss : List Scope) → names_differ (s ∷ ss) ≡ (is_other s ss && names_differ ss)
unfolding names_differ
names_step s ss = refl

pub names_none : names_differ [] ≡ true
unfolding names_differ
names_none = refl

pub rise_step : (x : Item) (xs : List Item) → names_rise (x ∷ xs) ≡ (stands_before x xs && names_rise xs)
unfolding names_rise
rise_step x xs = refl

pub rise_none : names_rise [] ≡ true
unfolding names_rise
rise_none = refl

-- ---- first slots

module _ (mems : List Mem) (xs : List Item) (i before : ℕ) where
  slots_first : (x : Item) → i < length xs → x ≡ get_or xs i x → slots_run mems before (drop i xs) ≡ (x.first_slot == before && slots_run mems (before + slots_of mems x.kind) (drop (i + 1) xs))
  unfolding slots_run
  slots_first x within is =
      at_drop_more (slots_run mems before) xs i x within ∙ ap (λ (y : Item). slots_run mems before (y ∷ drop (i + 1) xs)) (sym is)

  pub slots_fail : (x : Item) → i < length xs → x ≡ get_or xs i x → x.first_slot == before ≡ false → slots_run mems before (drop i xs) ≡ slots_run mems 0 xs → false ≡ slots_run mems 0 xs
  slots_fail x within is off kept =
      sym (sym kept ∙ slots_first x within is ∙ ap (λ (b : Bool). b && slots_run mems (before + slots_of mems x.kind) (drop (i + 1) xs)) off)

  pub slots_pass : (x : Item) → i < length xs → x ≡ get_or xs i x → x.first_slot == before ≡ true → slots_run mems before (drop i xs) ≡ slots_run mems 0 xs → slots_run mems (before + slots_of mems x.kind) (drop (i + 1) xs) ≡ slots_run mems 0 xs
  slots_pass x within is on kept =
      sym (ap (λ (b : Bool). b && slots_run mems (before + slots_of mems x.kind) (drop (i + 1) xs)) on) ∙ sym (slots_first x within is) ∙ kept

  pub slots_all : length xs ≤ i → slots_run mems before (drop i xs) ≡ slots_run mems 0 xs → true ≡ slots_run mems 0 xs
  unfolding slots_run
  slots_all past kept = sym (at_drop_all (slots_run mems before) xs i past) ∙ kept
