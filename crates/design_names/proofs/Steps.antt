-- Lists of names that are gone through from the front.
use Rattle.std.proofs.Common.{◌≡◌, ℕ, suc, ◌+◌, ◌<◌, ◌≤◌, List, [], ◌∷◌, ◌++◌, map, length, get_or, drop, drop-cons, add-one, Bool, true, false, ◌||◌, Option, refl, sym, ap, ◌∙◌, append_assoc, append-nil}
use Rattle.std.proofs.lemmas.List.{at_drop_all}
use Rattle.rtlil_tree.specs.declared.module.Statement.{Statement}
use Rattle.rtlil_signals.specs.Signals.{Scope}
use Rattle.design_names.specs.Clashes.{cell_clashes, cells_clash, item_clashes, items_clash, with_cell, with_item}
use Rattle.design_names.specs.Names.{Names, any_again, has, with_name}

drop_item : {X : Type 0} (xs : List X) (i : ℕ) (x : X) → i < length xs → x ≡ get_or xs i x → drop i xs ≡ x ∷ drop (i + 1) xs
drop_item xs i x below e = rw (add-one, drop-cons xs i x) (ap (λ y. y ∷ drop (suc i) xs) (sym e))

-- ---- names that stand again

module _ {X : Type 0} (f : X → List ℕ) (earlier : Names) (all : List X) (i : ℕ) (whole : Bool) where
  again_here : (x : X) → i < length all → x ≡ get_or all i x → any_again earlier (map f (drop i all)) ≡ (has earlier (f x) || any_again (with_name earlier (f x)) (map f (drop (i + 1) all)))
  unfolding any_again
  again_here x below is = ap (λ xs. any_again earlier (map f xs)) (drop_item all i x below is)

  pub again_more : (x : X) (again : Bool) (later : Names) → i < length all → x ≡ get_or all i x → again ≡ has earlier (f x) → again ≡ false → later ≡ with_name earlier (f x)
      → any_again earlier (map f (drop i all)) ≡ whole → any_again later (map f (drop (i + 1) all)) ≡ whole
  again_more x again later below is value new names before =
      ap (λ n. any_again n (map f (drop (i + 1) all))) names
      ∙ sym (again_here x below is ∙ ap (λ b. b || any_again (with_name earlier (f x)) (map f (drop (i + 1) all))) (sym value ∙ new))
      ∙ before

  pub again_found : (x : X) (again : Bool) → i < length all → x ≡ get_or all i x → again ≡ has earlier (f x) → again ≡ true → any_again earlier (map f (drop i all)) ≡ whole → true ≡ whole
  again_found x again below is value found before =
      sym (again_here x below is ∙ ap (λ b. b || any_again (with_name earlier (f x)) (map f (drop (i + 1) all))) (sym value ∙ found))
      ∙ before

  pub again_none : length all ≤ i → any_again earlier (map f (drop i all)) ≡ whole → false ≡ whole
  unfolding any_again
  again_none past before = sym (at_drop_all (λ rest. any_again earlier (map f rest)) all i past) ∙ before

-- ---- one answer for each of a list

pub all_looked : {X Y : Type 0} (answers : List X → List Y) (done whole : List Y) (all : List X) (i : ℕ) → answers [] ≡ [] → length all ≤ i → done ++ answers (drop i all) ≡ whole → done ≡ whole
all_looked answers done whole all i none past before =
    sym (append-nil done) ∙ ap (λ rest. done ++ rest) (sym (at_drop_all answers all i past ∙ none)) ∙ before

pub cells_none : (earlier : Names) → cells_clash earlier [] ≡ []
unfolding cells_clash
cells_none earlier = refl

pub items_none : (wires : Scope) (earlier : Names) → items_clash wires earlier [] ≡ []
unfolding items_clash
items_none wires earlier = refl

pub map_step : {X Y : Type 0} (f : X → Y) (done more whole : List Y) (y : Y) (all : List X) (i : ℕ) (x : X) → i < length all → x ≡ get_or all i x
    → more ≡ done ++ y ∷ [] → y ≡ f x → done ++ map f (drop i all) ≡ whole → more ++ map f (drop (i + 1) all) ≡ whole
map_step f done more whole y all i x below is pushed value before =
    ap (λ xs. xs ++ map f (drop (i + 1) all)) pushed
    ∙ append_assoc done (y ∷ []) (map f (drop (i + 1) all))
    ∙ ap (λ z. done ++ z ∷ map f (drop (i + 1) all)) value
    ∙ ap (λ xs. done ++ map f xs) (sym (drop_item all i x below is))
    ∙ before

cells_more : (earlier : Names) (all : List Statement) (i : ℕ) (s : Statement) → i < length all → s ≡ get_or all i s → cells_clash earlier (drop i all) ≡ cell_clashes earlier s ∷ cells_clash (with_cell earlier s) (drop (i + 1) all)
unfolding cells_clash
cells_more earlier all i s below is = ap (cells_clash earlier) (drop_item all i s below is)

pub cells_step : (done more whole : List Bool) (flag : Bool) (earlier later : Names) (all : List Statement) (i : ℕ) (s : Statement) → i < length all → s ≡ get_or all i s
    → more ≡ done ++ flag ∷ [] → flag ≡ cell_clashes earlier s → later ≡ with_cell earlier s → done ++ cells_clash earlier (drop i all) ≡ whole → more ++ cells_clash later (drop (i + 1) all) ≡ whole
cells_step done more whole flag earlier later all i s below is pushed value names before =
    ap (λ xs. xs ++ cells_clash later (drop (i + 1) all)) pushed
    ∙ append_assoc done (flag ∷ []) (cells_clash later (drop (i + 1) all))
    ∙ ap (λ (b : Bool). done ++ b ∷ cells_clash later (drop (i + 1) all)) value
    ∙ ap (λ (n : Names). done ++ cell_clashes earlier s ∷ cells_clash n (drop (i + 1) all)) names
    ∙ ap (λ xs. done ++ xs) (sym (cells_more earlier all i s below is))
    ∙ before

items_more : (wires : Scope) (earlier : Names) (all : List (Option (List ℕ))) (i : ℕ) (x : Option (List ℕ)) → i < length all → x ≡ get_or all i x → items_clash wires earlier (drop i all) ≡ item_clashes wires earlier x ∷ items_clash wires (with_item earlier x) (drop (i + 1) all)
unfolding items_clash
items_more wires earlier all i x below is = ap (items_clash wires earlier) (drop_item all i x below is)

pub items_step : (wires : Scope) (done more whole : List Bool) (flag : Bool) (earlier later : Names) (all : List (Option (List ℕ))) (i : ℕ) (x : Option (List ℕ)) → i < length all → x ≡ get_or all i x
    → more ≡ done ++ flag ∷ [] → flag ≡ item_clashes wires earlier x → later ≡ with_item earlier x → done ++ items_clash wires earlier (drop i all) ≡ whole → more ++ items_clash wires later (drop (i + 1) all) ≡ whole
items_step wires done more whole flag earlier later all i x below is pushed value names before =
    ap (λ xs. xs ++ items_clash wires later (drop (i + 1) all)) pushed
    ∙ append_assoc done (flag ∷ []) (items_clash wires later (drop (i + 1) all))
    ∙ ap (λ (b : Bool). done ++ b ∷ items_clash wires later (drop (i + 1) all)) value
    ∙ ap (λ (n : Names). done ++ item_clashes wires earlier x ∷ items_clash wires n (drop (i + 1) all)) names
    ∙ ap (λ xs. done ++ xs) (sym (items_more wires earlier all i x below is))
    ∙ before
