-- What instances show fits, up to their statements.
use Rattle.std.proofs.Common.{◌≡◌, ℕ, ◌<◌, cond, List, [], ◌∷◌, ◌++◌, length, length-append, Bool, true, false, Option, Some, None, Ok, refl, sym, subst, arith, bytes_eq}
use Rattle.std.specs.List.{list_all}
use Rattle.std.specs.Str.{is_utf8}
use Rattle.std.proofs.lemmas.Bool.{and_from, and_parts}
use Rattle.circuit.specs.Valid.{scope_fits, text_fits}
use Rattle.circuit.specs.declared.item.Scope.{Scope as Shown}
use Rattle.rtlil_signals.specs.Signals.{Scope}
use Rattle.rtlil_tree.specs.declared.module.Cell.{Cell}
use Rattle.rtlil_tree.specs.declared.module.Module.{Module}
use Rattle.rtlil_tree.specs.declared.module.Statement.{Statement}
use Rattle.design_parts.specs.Parts.{Made, Walk, ◌>>◌, both_made, none_made, run}
use Rattle.design_wires.specs.Places.{InstancePlace, ShownPlace}
use Rattle.design_wires.specs.Texts.{source_text}
use Rattle.design_wires.specs.Wires.{is_public, scope_of, shown_name, wires}
use Rattle.design_instances.specs.Joins.{join_drives}
use Rattle.design_instances.specs.Ports.{ports_of}
use Rattle.design_walk.specs.Instances.{bare_name, entered, place_within, scope_of_instance, scopes_within, shown_within, top_entered, top_place}
use Rattle.design_walk.specs.Modules.{module_named}
use Rattle.design_walk.specs.Walks.{arrival, joins, top_wires}
use Rattle.design_valid.proofs.Keeping.{run_given, run_parts}
use Rattle.design_valid.proofs.Lists.{all_one}
use Rattle.design_valid_walk.proofs.Walking.{Each}
use Rattle.design_valid_items.specs.Shown.{HasTop, IsShown}
use Rattle.rtlil_names.specs.Names.{is_text_module, is_text_statement}
use Rattle.design_valid_items.proofs.Growing.{FitsPlace, Inside, ShowsIn, inside_both, none_shown, shown_both, top_stays}
use Rattle.design_valid_items.proofs.Leaves.{Good, wires_shown}
use Rattle.design_valid_items.proofs.Texts.{bare_text, no_text, public_text, source_fits, space_text, text_both}

-- ---- what is known of modules

pub each_good : (ss : List Statement) → list_all is_text_statement ss ≡ true → Each Good ss
each_good [] h = tt
each_good (s ∷ ss) h = let both = and_parts (is_text_statement s) (list_all is_text_statement ss) h in (both.0, each_good ss both.1)

pub good_statements : (m : Module) → is_text_module m ≡ true → Each Good m.statements
good_statements m h = each_good m.statements (and_parts (is_utf8 m.name) (list_all is_text_statement m.statements) h).1

pub named_text : (ms : List Module) (name : List ℕ) (m : Module) → list_all is_text_module ms ≡ true → module_named ms name ≡ Some m → is_text_module m ≡ true
named_text [] name m h e = cc e
named_text (x ∷ xs) name m h e =
    let both = and_parts (is_text_module x) (list_all is_text_module xs) h in
    by (bytes_eq name x.name) both.0 e (named_text xs name m both.1)
  where
    by : (b : Bool) → is_text_module x ≡ true → cond b (Some x) (module_named xs name) ≡ Some m → (module_named xs name ≡ Some m → is_text_module m ≡ true) → is_text_module m ≡ true
    by true one k rest = let same : x ≡ m = cc k in subst (λ (y : Module). is_text_module y ≡ true) same one
    by false one k rest = rest k

-- ---- scopes

scope_fits_at : (name : List ℕ) (md : Module) (source : Option (List ℕ)) → is_utf8 name ≡ true → is_utf8 md.name ≡ true → text_fits source ≡ true → scope_fits (scope_of_instance name md source) ≡ true
scope_fits_at name md source f g h =
    and_from (is_utf8 name) _ f
    (and_from (is_utf8 (bare_name md.name)) _ (bare_text md.name g)
    (and_from (text_fits (source_text md.attributes)) (text_fits source) (source_fits md.attributes) h))

module _ (around : InstancePlace) (md : Module) (c : Cell) (unit_text : is_utf8 md.name ≡ true) (cell_text : is_utf8 c.name ≡ true) (m : Made) (place : FitsPlace around m.scopes) where
  abbrev name_of : ShownPlace → List ℕ
  name_of s = shown_name s c.name

  name_text : (s : ShownPlace) → around.shown ≡ Some s → is_public c.name ≡ true → is_utf8 (name_of s) ≡ true
  name_text s is p = text_both s.prefix _ (place.shown s is).prefix (public_text c.name p cell_text)

  scopes_fit : (shown : Option ShownPlace) → around.shown ≡ shown → list_all scope_fits (scopes_within shown md c) ≡ true
  scopes_fit None is = refl
  scopes_fit (Some s) is = by (is_public c.name) refl
    where
      by : (b : Bool) → is_public c.name ≡ b → list_all scope_fits (cond b (scope_of_instance (shown_name s c.name) md (source_text c.attributes) ∷ []) []) ≡ true
      by true p = all_one scope_fits (scope_of_instance (name_of s) md (source_text c.attributes)) (scope_fits_at (name_of s) md (source_text c.attributes) (name_text s is p) unit_text (source_fits c.attributes))
      by false p = refl

  -- its own place, in its own scope
  shows_within : (shown : Option ShownPlace) → around.shown ≡ shown → (s : ShownPlace) → shown_within shown c.name (length m.scopes) ≡ Some s → ShowsIn (m.scopes ++ scopes_within shown md c) s
  shows_within None is s e = cc e
  shows_within (Some t) is s e = by (is_public c.name) refl e
    where
      by : (b : Bool) → is_public c.name ≡ b → cond b (Some (record { prefix = shown_name t c.name ++ 32 ∷ []; scope = length m.scopes })) None ≡ Some s
          → ShowsIn (m.scopes ++ cond b (scope_of_instance (shown_name t c.name) md (source_text c.attributes) ∷ []) []) s
      by true p k =
          let new : List Shown = scope_of_instance (name_of t) md (source_text c.attributes) ∷ [] in
          let here : ShownPlace = record { prefix = name_of t ++ 32 ∷ []; scope = length m.scopes } in
          let same : here ≡ s = cc k in
          subst (ShowsIn (m.scopes ++ new)) same (record { scope = omega (arith, length-append m.scopes new); prefix = text_both (name_of t) (32 ∷ []) (name_text t is p) space_text })
      by false p k = cc k

  within_fits : FitsPlace (place_within around md.name c.name (length m.scopes)) (m.scopes ++ scopes_within around.shown md c)
  within_fits = record {
    prefix = text_both (around.prefix ++ c.name) (32 ∷ []) (text_both around.prefix c.name place.prefix cell_text) space_text;
    shown = λ s e. shows_within around.shown refl s e;
  }

  entered_shown : (n : Made) → IsShown m → HasTop m → run (entered around md c) m ≡ Ok n → Inside (place_within around md.name c.name (length m.scopes)) n
  unfolding entered
  entered_shown n h top ran =
      let made : Made = record none_made { scopes = scopes_within around.shown md c; instances = 1 } in
      let is = run_given (λ _. made) m n ran in
      subst (Inside (place_within around md.name c.name (length m.scopes))) (sym is)
      (record { shown = shown_both m made h (record { items = refl; slots = omega arith; scopes = scopes_fit around.shown refl; diags = refl }); place = within_fits; top = top_stays m made top })

joins_shown : (here : InstancePlace) (within around : Scope) (c : Cell) (md : Module) (m n : Made) → run (joins within around c md) m ≡ Ok n → Inside here m → Inside here n
unfolding joins
joins_shown here within around c md m n ran h =
    let made : Made = record none_made { drives = join_drives within around (ports_of md.statements) c.connections } in
    subst (Inside here) (sym (run_given (λ _. made) m n ran)) (inside_both here m made h (none_shown (both_made m made) made refl refl refl))

pub arrival_shown : (around : InstancePlace) (scope : Scope) (c : Cell) (md : Module) (m n : Made) → is_text_module md ≡ true → is_utf8 c.name ≡ true → run (arrival around scope c md) m ≡ Ok n → Inside around m → Inside (place_within around md.name c.name (length m.scopes)) n
unfolding arrival run
arrival_shown around scope c md m n text named ran h =
    let within : Scope = scope_of (length m.nets) md.statements in
    let here : InstancePlace = place_within around md.name c.name (length m.scopes) in
    let lines : Walk = wires here [] md.statements in
    let unit = (and_parts (is_utf8 md.name) (list_all is_text_statement md.statements) text).0 in
    let first = run_parts (entered around md c) (lines >> joins within scope c md) m n ran in
    let second = run_parts lines (joins within scope c md) first.0 n first.2 in
    joins_shown here within scope c md second.0 n second.2
    (wires_shown here [] md.statements (good_statements md text) first.0 second.0 second.1 (entered_shown around md c unit named m h.place first.0 h.shown h.top first.1))

-- ---- the top

top_fits : (md : Module) (scopes : List Shown) → 0 < length scopes → FitsPlace (top_place md 0) scopes
top_fits md scopes some = record {
  prefix = no_text;
  shown = λ s e. (let here : ShownPlace = record { prefix = []; scope = 0 } in let same : here ≡ s = cc e in subst (ShowsIn scopes) same (record { scope = some; prefix = no_text }));
}

none_shown_yet : IsShown none_made
none_shown_yet = record { items = refl; slots = omega arith; scopes = refl; diags = refl }

pub top_shown : (md : Module) (n : Made) → is_text_module md ≡ true → run (top_wires md) none_made ≡ Ok n → Inside (top_place md 0) n
unfolding top_wires top_entered run
top_shown md n text ran =
    let here : InstancePlace = top_place md 0 in
    let made : Made = record none_made { scopes = scope_of_instance [] md None ∷ [] } in
    let unit = (and_parts (is_utf8 md.name) (list_all is_text_statement md.statements) text).0 in
    let parts = run_parts (top_entered md) (wires here [] md.statements) none_made n ran in
    let is = run_given (λ _. made) none_made parts.0 parts.1 in
    let fits = all_one scope_fits (scope_of_instance [] md None) (scope_fits_at [] md None no_text unit refl) in
    let first : Inside here (both_made none_made made) = record { shown = shown_both none_made made none_shown_yet (record { items = refl; slots = omega arith; scopes = fits; diags = refl }); place = top_fits md made.scopes (omega arith); top = refl } in
    wires_shown here [] md.statements (good_statements md text) parts.0 n parts.2 (subst (Inside here) (sym is) first)
