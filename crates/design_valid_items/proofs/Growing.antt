-- What is shown stays so, and more is shown behind it.
use Rattle.std.proofs.Common.{◌≡◌, ℕ, zero, suc, ◌<◌, ◌==◌, ◌&&◌, ◌||◌, List, [], ◌∷◌, ◌++◌, length, Bool, true, false, Some, refl, sym, ap, ◌∙◌, subst, arith, length-append}
use Rattle.std.specs.Prelude.{nat_lt, slice_get}
use Rattle.std.specs.List.{list_all, list_any}
use Rattle.std.specs.Str.{is_utf8}
use Rattle.std.proofs.lemmas.Bool.{and_from, and_parts, lt-ltb, ltb-true}
use Rattle.std.proofs.lemmas.List.Sums.{sum_by-append, sum_by-cons}
use Rattle.circuit.specs.Built.{slots_of_items}
use Rattle.circuit.specs.Shown.{rows_of, slots_of}
use Rattle.circuit.specs.Valid.{is_countable, item_fits, kind_fits, scope_fits, text_fits}
use Rattle.circuit.specs.declared.item.Item.{Item}
use Rattle.circuit.specs.declared.item.ItemKind.{ItemKind}
use Rattle.circuit.specs.declared.item.ItemKind.TheVariants as item
use Rattle.circuit.specs.declared.item.Scope.{Scope as Shown}
use Rattle.circuit.specs.declared.memory.Mem.{Mem}
use Rattle.circuit.specs.declared.netlist.Net.{Net}
use Rattle.circuit.proofs.Grown.{all_mono, appended_stands}
use Rattle.design_parts.specs.Parts.{Made, both_made}
use Rattle.design_wires.specs.Places.{InstancePlace, ShownPlace}
use Rattle.design_valid.proofs.Lists.{all_both}
use Rattle.design_valid_walk.proofs.Growing.{Grew}
use Rattle.design_valid_items.specs.Shown.{AreShown, HasTop, IsShown, diag_told}

-- ---- items over more

longer : {X : Type 0} (n : ℕ) (xs more : List X) → nat_lt n (length xs) ≡ true → nat_lt n (length (xs ++ more)) ≡ true
longer n xs more h = let lt : n < length xs = ltb-true n (length xs) h in lt-ltb n (length (xs ++ more)) (omega (arith, lt, length-append xs more))

kind_stays : (nets nets_more : List Net) (mems mems_more : List Mem) (k : ItemKind) → kind_fits nets mems k ≡ true → kind_fits (nets ++ nets_more) (mems ++ mems_more) k ≡ true
kind_stays nets nets_more mems mems_more (item.Node net lsb_at input output) h = longer net nets nets_more h
kind_stays nets nets_more mems mems_more (item.Memory m) h = longer m mems mems_more h

module _ (m f : Made) where
  abbrev all : Made
  all = both_made m f

  item_stays : (i : Item) → item_fits m.nets m.mems m.scopes i ≡ true → item_fits all.nets all.mems all.scopes i ≡ true
  item_stays i h =
      let texts : Bool = is_countable (length i.name) && (is_utf8 i.name && text_fits i.src) in
      let a = and_parts (nat_lt i.scope (length m.scopes)) (kind_fits m.nets m.mems i.kind && texts) h in
      let b = and_parts (kind_fits m.nets m.mems i.kind) texts a.1 in
      and_from (nat_lt i.scope (length all.scopes)) (kind_fits all.nets all.mems i.kind && texts) (longer i.scope m.scopes f.scopes a.0)
      (and_from (kind_fits all.nets all.mems i.kind) texts (kind_stays m.nets f.nets m.mems f.mems i.kind b.0) b.1)

  -- ---- slots of what is there stay

  there : {X : Type 0} (xs : List X) (n : ℕ) → n < length xs → (x : X) × (slice_get xs n ≡ Some x)
  there [] n lt = absurd (omega (arith, lt))
  there (x ∷ xs) zero lt = (x, refl)
  there (x ∷ xs) (suc n) lt = there xs n (omega (arith, lt))

  kind_slots : (k : ItemKind) → kind_fits m.nets m.mems k ≡ true → slots_of all.mems k ≡ slots_of m.mems k
  kind_slots (item.Node net lsb_at input output) h = refl
  kind_slots (item.Memory n) h =
      let found = there m.mems n (ltb-true n (length m.mems) h) in
      ap rows_of (appended_stands m.mems f.mems n found.0 found.1) ∙ sym (ap rows_of found.1)

  slots_stay : (is : List Item) → list_all (item_fits m.nets m.mems m.scopes) is ≡ true → slots_of_items all.mems is ≡ slots_of_items m.mems is
  slots_stay [] h = refl
  slots_stay (i ∷ is) h =
      let both = and_parts (item_fits m.nets m.mems m.scopes i) (list_all (item_fits m.nets m.mems m.scopes) is) h in
      let a = and_parts (nat_lt i.scope (length m.scopes)) _ both.0 in
      let b = and_parts (kind_fits m.nets m.mems i.kind) _ a.1 in
      let one = kind_slots i.kind b.0 in
      let rest = slots_stay is both.1 in
      omega (arith, one, rest, sum_by-cons (λ (j : Item). slots_of all.mems j.kind) i is, sum_by-cons (λ (j : Item). slots_of m.mems j.kind) i is)

  pub shown_both : IsShown m → AreShown all f → IsShown all
  shown_both h g =
      let old = all_mono (item_fits m.nets m.mems m.scopes) (item_fits all.nets all.mems all.scopes) m.items item_stays h.items in
      let same = slots_stay m.items h.items in
      record {
        items = all_both (item_fits all.nets all.mems all.scopes) m.items f.items old g.items;
        slots = omega (arith, same, h.slots, g.slots, sum_by-append (λ (j : Item). slots_of all.mems j.kind) m.items f.items, length-append m.nets f.nets, sum_by-append (λ (x : Mem). x.size) m.mems f.mems);
        scopes = all_both scope_fits m.scopes f.scopes h.scopes g.scopes;
        diags = all_both diag_told m.diags f.diags h.diags g.diags;
      }

-- ---- in an instance

-- where an instance is shown: in a scope that is there, behind a text
pub record ShowsIn (scopes : List Shown) (s : ShownPlace) : Type 0 where
  pub scope : s.scope < length scopes
  pub prefix : is_utf8 s.prefix ≡ true

pub record FitsPlace (p : InstancePlace) (scopes : List Shown) : Type 0 where
  pub prefix : is_utf8 p.prefix ≡ true
  pub shown : (s : ShownPlace) → p.shown ≡ Some s → ShowsIn scopes s

pub record Inside (p : InstancePlace) (m : Made) : Type 0 where
  pub shown : IsShown m
  pub place : FitsPlace p m.scopes
  pub top : HasTop m

pub place_stays : (p : InstancePlace) (scopes more : List Shown) → FitsPlace p scopes → FitsPlace p (scopes ++ more)
place_stays p scopes more h = record {
  prefix = h.prefix;
  shown = λ s e. (let old = h.shown s e in record { scope = omega (arith, old.scope, length-append scopes more); prefix = old.prefix });
}

any_stays : {X : Type 0} (test : X → Bool) (xs more : List X) → list_any test xs ≡ true → list_any test (xs ++ more) ≡ true
any_stays test [] more h = cc h
any_stays test (x ∷ xs) more h = by (test x) h (any_stays test xs more)
  where
    by : (b : Bool) → (b || list_any test xs) ≡ true → (list_any test xs ≡ true → list_any test (xs ++ more) ≡ true) → (b || list_any test (xs ++ more)) ≡ true
    by true e rest = refl
    by false e rest = rest e

pub top_stays : (m f : Made) → HasTop m → HasTop (both_made m f)
top_stays m f h = any_stays (λ (s : Shown). length s.name == 0) m.scopes f.scopes h

pub inside_both : (p : InstancePlace) (m f : Made) → Inside p m → AreShown (both_made m f) f → Inside p (both_made m f)
inside_both p m f h g = record { shown = shown_both m f h.shown g; place = place_stays p m.scopes f.scopes h.place; top = top_stays m f h.top }

pub place_behind : (p : InstancePlace) (before behind : Made) → Grew before behind → FitsPlace p before.scopes → FitsPlace p behind.scopes
place_behind p before behind grew h = subst (λ (m : Made). FitsPlace p m.scopes) (sym grew.1) (place_stays p before.scopes grew.0.scopes h)

-- a part without items, scopes and diagnostics
pub none_shown : (all f : Made) → f.items ≡ [] → f.scopes ≡ [] → f.diags ≡ [] → AreShown all f
none_shown all f items scopes diags = record {
  items = ap (list_all (item_fits all.nets all.mems all.scopes)) items;
  slots = (let none : slots_of_items all.mems f.items ≡ 0 = ap (slots_of_items all.mems) items in omega (arith, none));
  scopes = ap (list_all scope_fits) scopes;
  diags = ap (list_all diag_told) diags;
}
