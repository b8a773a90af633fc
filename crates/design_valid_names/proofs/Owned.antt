-- The items of an instance that is shown, and names that are taken in it.
use Rattle.std.proofs.Common.{◌≡◌, ℕ, not, cond, List, [], ◌∷◌, ◌++◌, drop, length, append-nil, Bool, true, false, Option, Some, None, Ok, refl, sym, ap, ◌∙◌, ◌⊎◌, inl, inr, bytes_eq}
use Rattle.std.specs.Map.{lookup}
use Rattle.std.specs.Option.{is_some}
use Rattle.std.proofs.lemmas.Bool.Decides.{Decides-eqb}
use Rattle.std.proofs.lemmas.Slice.Eq.{bytes_eq-Decides}
use Rattle.circuit.specs.declared.item.Item.{Item}
use Rattle.rtlil_signals.specs.Signals.{Scope, net_named}
use Rattle.rtlil_signals.specs.declared.scope.NamedNet.{NamedNet}
use Rattle.rtlil_tree.specs.declared.module.Statement.{Statement}
use Rattle.rtlil_tree.specs.declared.module.Statement.TheVariants as statement
use Rattle.rtlil_tree.specs.declared.module.Wire.{Wire}
use Rattle.design_parts.specs.Parts.{Made, give, run}
use Rattle.design_wires.specs.Places.{InstancePlace, ShownPlace}
use Rattle.design_wires.specs.Wires.{is_public, named, named_net, node_item, wire, wire_checks, wire_items, wire_made}
use Rattle.design_names.specs.Names.{Names, has, with_name}
use Rattle.design_valid.proofs.Keeping.{holds_at, run_given, run_guarded}
use Rattle.rtlil_names.specs.Names.{has_no_space, is_spaceless}
use Rattle.design_valid_names.proofs.Owning.{AreOthers, Left, Owns, owns_leaf, owns_more}

abbrev pub item_name : Item → List ℕ
item_name i = i.name

-- no item begins with a text
abbrev pub Fresh : List ℕ → Made → Type 0
Fresh front m = AreOthers item_name front m.items

-- items of an instance, and what is left of this when it is left
abbrev pub Own : List ℕ → Made → (List ℕ → Type 0) → (List ℕ → Type 0) → Made → Type 0
Own front start Leaf Branch m = Owns item_name front start.items Leaf Branch m.items

abbrev pub Ends : List ℕ → Made → Made → Type 0
Ends front start m = Left item_name front start.items m.items

-- the same items, of which more is known to be taken
pub own_more : (front : List ℕ) (start : Made) (Leaf Branch More Wider : List ℕ → Type 0) → ((u : List ℕ) → Leaf u → More u) → ((c : List ℕ) → Branch c → Wider c) → (m n : Made) → n.items ≡ m.items → Own front start Leaf Branch m → Own front start More Wider n
own_more front start Leaf Branch More Wider f g m n same h = owns_more item_name front start.items Leaf Branch More Wider f g m.items n.items same h

-- one more wire or memory, whose name is not taken
pub own_leaf : (front : List ℕ) (start : Made) (Leaf Branch More : List ℕ → Type 0) → Fresh front start → (u : List ℕ) → has_no_space u ≡ true → (Leaf u → ⊥) → ((v : List ℕ) → Leaf v → More v) → More u → (m n : Made) (new : Item) → n.items ≡ m.items ++ new ∷ [] → new.name ≡ front ++ u
    → Own front start Leaf Branch m → Own front start More Branch n
own_leaf front start Leaf Branch More fresh u text free f taken m n new is name h = owns_leaf item_name front start.items Leaf Branch More Branch f (λ c b. b) fresh u text free taken m.items n.items new is name h

-- ---- names that are taken

-- by a wire, or by a memory
abbrev pub Taken : Scope → Names → List ℕ → Type 0
Taken scope names u = (is_some (net_named scope (92 ∷ u)) ≡ true) ⊎ (has names (92 ∷ u) ≡ true)

-- by a cell
abbrev pub Placed : Names → List ℕ → Type 0
Placed names c = has names (92 ∷ c) ≡ true

pub some_more : {X : Type 0} (xs ys : List (List ℕ × X)) (key : List ℕ) → is_some (lookup (bytes_eq key) xs) ≡ true → is_some (lookup (bytes_eq key) (xs ++ ys)) ≡ true
some_more [] ys key h = cc h
some_more {X} (x ∷ xs) ys key h = by (bytes_eq key x.0) h (some_more xs ys key)
  where
    by : (b : Bool) → is_some (cond b (Some x.1) (lookup (bytes_eq key) xs)) ≡ true → (is_some (lookup (bytes_eq key) xs) ≡ true → is_some (lookup (bytes_eq key) (xs ++ ys)) ≡ true) → is_some (cond b (Some x.1) (lookup (bytes_eq key) (xs ++ ys))) ≡ true
    by true g next = refl
    by false g next = next g

last_some : {X : Type 0} (xs : List (List ℕ × X)) (key : List ℕ) (x : X) → is_some (lookup (bytes_eq key) (xs ++ (key, x) ∷ [])) ≡ true
last_some [] key x = ap (λ b. is_some (cond b (Some x) None)) ((bytes_eq-Decides key key).1 refl)
last_some {X} (y ∷ ys) key x = by (bytes_eq key y.0) (last_some ys key x)
  where
    by : (b : Bool) → is_some (lookup (bytes_eq key) (ys ++ (key, x) ∷ [])) ≡ true → is_some (cond b (Some y.1) (lookup (bytes_eq key) (ys ++ (key, x) ∷ []))) ≡ true
    by true h = refl
    by false h = h

pub has_more : (names : Names) (name key : List ℕ) → has names key ≡ true → has (with_name names name) key ≡ true
has_more names name key h = by (has names name)
  where
    by : (b : Bool) → has (cond b names (names ++ (name, tt) ∷ [])) key ≡ true
    by true = h
    by false = some_more names ((name, tt) ∷ []) key h

pub has_new : (names : Names) (name : List ℕ) → has (with_name names name) name ≡ true
has_new names name = by (has names name) refl
  where
    by : (b : Bool) → has names name ≡ b → has (cond b names (names ++ (name, tt) ∷ [])) name ≡ true
    by true e = e
    by false e = last_some names name tt

-- an identifier that begins with `\`
pub public_is : (name : List ℕ) → is_public name ≡ true → name ≡ 92 ∷ drop 1 name
public_is [] p = cc p
public_is (c ∷ name) p = ap (λ d. d ∷ name) ((Decides-eqb c 92).0 p)

pub is_none : (b : Bool) → b ≡ false → b ≡ true → ⊥
is_none true h e = cc h
is_none false h e = cc e

-- the name of a cell that is none of the earlier ones, and then is one
pub new_placed : (placed : Names) (name : List ℕ) → is_public name ≡ true → has placed name ≡ false → Placed placed (drop 1 name) → ⊥
new_placed placed name p free b = is_none (has placed name) free (ap (has placed) (public_is name p) ∙ b)

pub now_placed : (placed : Names) (name : List ℕ) → is_public name ≡ true → Placed (with_name placed name) (drop 1 name)
now_placed placed name p = ap (has (with_name placed name)) (sym (public_is name p)) ∙ has_new placed name

none_is : (o : Option NamedNet) → not (is_some o) ≡ true → is_some o ≡ true → ⊥
none_is None h e = cc e
none_is (Some n) h e = cc h

-- ---- wires

-- a name without a space, and so without its first byte
abbrev pub Spaceless : Statement → Type 0
Spaceless s = is_spaceless s ≡ true

module _ (here : InstancePlace) (place : ShownPlace) (shown : here.shown ≡ Some place) (start : Made) (fresh : Fresh place.prefix start) (Branch : List ℕ → Type 0) where
  pub wire_owned : (earlier : Scope) (w : Wire) (m n : Made) → has_no_space (drop 1 w.name) ≡ true → run (wire here earlier w) m ≡ Ok n → Own place.prefix start (Taken earlier []) Branch m → Own place.prefix start (Taken (earlier ++ named (length m.nets) (statement.Wire w)) []) Branch n
  unfolding wire wire_checks
  wire_owned earlier w m n text e h =
      let k : ℕ = length m.nets in
      let parts = run_guarded (wire_checks here earlier w) (give (wire_made here w)) m n e in
      let free = holds_at (wire_checks here earlier w m) 0 _ parts.0 refl in
      let items = ap (λ (x : Made). x.items) (run_given (wire_made here w) m n parts.1) ∙ ap (λ (o : Option ShownPlace). m.items ++ wire_items o k w) shown in
      by free (is_public w.name) refl items
    where
      more : Scope
      more = (w.name, named_net (length m.nets) w) ∷ []

      stay : (v : List ℕ) → Taken earlier [] v → Taken (earlier ++ more) [] v
      stay v (inl t) = inl (some_more earlier more (92 ∷ v) t)
      stay v (inr t) = inr t

      untaken : not (is_some (net_named earlier w.name)) ≡ true → is_public w.name ≡ true → Taken earlier [] (drop 1 w.name) → ⊥
      untaken free p (inl t) = none_is (net_named earlier w.name) free (ap (λ (x : List ℕ). is_some (net_named earlier x)) (public_is w.name p) ∙ t)
      untaken free p (inr t) = cc t

      by : not (is_some (net_named earlier w.name)) ≡ true → (b : Bool) → is_public w.name ≡ b → n.items ≡ m.items ++ cond b (node_item place (length m.nets) w ∷ []) [] → Own place.prefix start (Taken (earlier ++ more) []) Branch n
      by free true p is =
          own_leaf place.prefix start (Taken earlier []) Branch (Taken (earlier ++ more) []) fresh (drop 1 w.name) text (untaken free p) stay
          (inl (ap (λ (x : List ℕ). is_some (net_named (earlier ++ more) x)) (sym (public_is w.name p)) ∙ last_some earlier w.name (named_net (length m.nets) w))) m n (node_item place (length m.nets) w) is refl h
      by free false p is = own_more place.prefix start (Taken earlier []) Branch (Taken (earlier ++ more) []) Branch stay (λ c b. b) m n (is ∙ append-nil m.items) h
