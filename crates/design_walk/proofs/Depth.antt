-- Instances stand within each other at most as deep as there are modules, since each of them has another module.
use Rattle.std.proofs.Common.{◌≡◌, ℕ, zero, suc, ◌+◌, ◌≤◌, ◌||◌, Bool, true, false, not, cond, List, [], ◌∷◌, ◌++◌, length, map, Option, Some, None, bytes_eq, refl, sym, ap, subst, ◌∙◌, length-append, arith}
use Rattle.std.proofs.lemmas.List.{length-map}
use Rattle.std.proofs.lemmas.Option.{same_Some}
use Rattle.std.specs.List.{list_any, IsDistinct}
use Rattle.std.specs.Option.{is_some, IsSome}
use Rattle.std.proofs.lemmas.Cmp.{nat_list_eq_equiv}
use Rattle.std.proofs.lemmas.List.Folds.{list_any-append}
use Rattle.std.proofs.lemmas.Map.Keys.{IsDistinct-push}
use Rattle.std.proofs.lemmas.Map.Steps.{length-le_from_keys}
use Rattle.std.proofs.lemmas.Slice.Eq.{bytes_eq-Decides}
use Rattle.circuit.specs.declared.fault.DesignFault.{DesignFault}
use Rattle.rtlil_tree.specs.declared.module.Cell.{Cell}
use Rattle.rtlil_tree.specs.declared.module.Module.{Module}
use Rattle.rtlil_tree.specs.declared.module.Statement.{Statement}
use Rattle.rtlil_tree.specs.declared.module.Statement.TheVariants as statement
use Rattle.rtlil_signals.specs.Signals.{Scope}
use Rattle.design_parts.specs.Parts.{Check, Made, Part, Walk, first_fault, both_made, ◌>>◌, allowed, guard}
use Rattle.design_parts.proofs.Runs.{or_else, first_of_both}
use Rattle.design_instances.specs.Instances as instances
use Rattle.design_instances.specs.Ports.{ports_of}
use Rattle.design_names.specs.Clashes.{clashes_in}
use Rattle.design_walk.specs.Cells.{clash_checks, typed_cell}
use Rattle.design_walk.specs.Instances.{instance_checks, statements_in, type_checks}
use Rattle.design_walk.specs.Modules.{module_named}
use Rattle.design_walk.specs.Walks.{Down, Standing, all_steps, arrival, cell, down_into, flags_of, inside, instance, step, steps, top_inside, top_walk, top_walk_within, top_wires, typed_or, walk, walk_in}

-- two ways down give the same from here on: into each module whose name is known and that is no ancestor
abbrev pub Agree : List Module → List (List ℕ) → Down → Down → Type 0
Agree ms ancestors d e = (m : Module) → IsSome (module_named ms m.name) → list_any (bytes_eq m.name) ancestors ≡ false → (around : Standing) → around.ancestors ≡ ancestors → (c : Cell) (so_far : Made) → d around c m so_far ≡ e around c m so_far

behind : Part → Part → Part
behind p q = record { checks = p.checks ++ q.checks; made = both_made p.made q.made }

-- the module of a name has that name
named_by : (ks : List Module) (k m : Module) (name : List ℕ) (b : Bool) → bytes_eq name k.name ≡ b → (module_named ks name ≡ Some m → name ≡ m.name) → cond b (Some k) (module_named ks name) ≡ Some m → name ≡ m.name
named_by ks k m name true same later e = (bytes_eq-Decides name k.name).0 same ∙ ap (λ (x : Module). x.name) (same_Some k m e)
named_by ks k m name false same later e = later e

named_so : (ms : List Module) (name : List ℕ) (m : Module) → module_named ms name ≡ Some m → name ≡ m.name
named_so [] name m e = cc
named_so (k ∷ ks) name m e = named_by ks k m name (bytes_eq name k.name) refl (named_so ks name m) e

-- where the checks of an instance hold, its module is no ancestor
no_ancestor : (b c : Bool) (f g : DesignFault) → cond b (cond (not c) None (Some g)) (Some f) ≡ None → c ≡ false
no_ancestor true true f g e = cc
no_ancestor true false f g e = refl
no_ancestor false c f g e = cc

or_none : (a b : Option DesignFault) → or_else a b ≡ None → a ≡ None
or_none None b e = refl
or_none (Some f) b e = cc

open_checks : (ms : List Module) (ancestors : List (List ℕ)) (owner : List ℕ) (c : Cell) → first_fault (type_checks ms ancestors owner c) ≡ None → list_any (bytes_eq c.kind) ancestors ≡ false
unfolding type_checks
open_checks ms ancestors owner c e = no_ancestor (is_some (module_named ms c.kind)) (list_any (bytes_eq c.kind) ancestors) _ _ e

open_instance : (ms : List Module) (ancestors : List (List ℕ)) (owner : List ℕ) (around : Scope) (c : Cell) (m : Made) → first_fault (instance_checks ms ancestors owner around c m) ≡ None → list_any (bytes_eq c.kind) ancestors ≡ false
open_instance ms ancestors owner around c m e =
    let rest = instances.instance_checks owner around (ports_of (statements_in (module_named ms c.kind))) c m in
    open_checks ms ancestors owner c (or_none (first_fault (type_checks ms ancestors owner c)) (first_fault rest) (sym (first_of_both (type_checks ms ancestors owner c) rest) ∙ e))

same_guard : (checks : Made → List Check) (p q : Walk) (n : Made) → (first_fault (checks n) ≡ None → p n ≡ q n) → guard checks p n ≡ guard checks q n
unfolding guard
same_guard checks p q n h = by (first_fault (checks n)) refl
  where
    by : (o : Option DesignFault) → first_fault (checks n) ≡ o → allowed (first_fault (checks n)) (checks n) (p n) ≡ allowed (first_fault (checks n)) (checks n) (q n)
    by None e = ap (allowed (first_fault (checks n)) (checks n)) (h e)
    by (Some f) e = ap (λ o. allowed o (checks n) (p n)) e ∙ sym (ap (λ o. allowed o (checks n) (q n)) e)

-- one behind the other
same_then : (p q r s : Walk) (n : Made) → p n ≡ q n → ((k : Made) → r k ≡ s k) → (p >> r) n ≡ (q >> s) n
unfolding ◌>>◌ behind
same_then p q r s n a b = ap (λ x. behind x (r (both_made n x.made))) a ∙ ap (behind (q n)) (b (both_made n (q n).made))

same_typed : (o : Option Walk) (p q : Walk) (n : Made) → p n ≡ q n → typed_or o p n ≡ typed_or o q n
same_typed None p q n h = h
same_typed (Some w) p q n h = refl

module _ (ms : List Module) (here : Standing) (d e : Down) (agree : Agree ms here.ancestors d e) where
  same_down : (c : Cell) (o : Option Module) → module_named ms c.kind ≡ o → list_any (bytes_eq c.kind) here.ancestors ≡ false → (n : Made) → down_into o (d here c) n ≡ down_into o (e here c) n
  same_down c None found free n = refl
  same_down c (Some m) found free n =
      let name = named_so ms c.kind m found in
      agree m (subst (λ q. IsSome (module_named ms q)) name (ap is_some found)) (subst (λ q. list_any (bytes_eq q) here.ancestors ≡ false) name free) here refl c n

  same_instance : (c : Cell) (n : Made) → instance d ms here c n ≡ instance e ms here c n
  unfolding instance
  same_instance c n = same_guard (instance_checks ms here.ancestors here.place.owner here.scope c) _ _ n (λ h. same_down c (module_named ms c.kind) refl (open_instance ms here.ancestors here.place.owner here.scope c n h) n)

  same_cell : (clash : Bool) (c : Cell) (n : Made) → cell d ms here clash c n ≡ cell e ms here clash c n
  unfolding cell
  same_cell clash c n = same_guard (λ _. clash_checks here.place.owner clash c) _ _ n (λ h. same_typed (typed_cell here.place here.scope c) (instance d ms here c) (instance e ms here c) n (same_instance c n))

  same_step : (clash : Bool) (s : Statement) (n : Made) → step d ms here clash s n ≡ step e ms here clash s n
  unfolding step
  same_step clash (statement.Parameter p) n = refl
  same_step clash (statement.Wire w) n = refl
  same_step clash (statement.Memory m) n = refl
  same_step clash (statement.Cell c) n = same_cell clash c n
  same_step clash (statement.Connect a) n = refl
  same_step clash (statement.Process p) n = refl

  same_steps : (bs : List Bool) (ss : List Statement) (n : Made) → steps d ms here bs ss n ≡ steps e ms here bs ss n
  unfolding steps
  same_steps [] ss n = refl
  same_steps (b ∷ bs) [] n = refl
  same_steps (b ∷ bs) (s ∷ ss) n = same_then (step d ms here b s) (step e ms here b s) (steps d ms here bs ss) (steps e ms here bs ss) n (same_step b s n) (same_steps bs ss)

  same_all : (m : Module) (n : Made) → all_steps d ms here m n ≡ all_steps e ms here m n
  same_all m n = same_steps (flags_of (clashes_in here.scope m.statements)) m.statements n

same_walk_in : (ms : List Module) (around : Standing) (c : Cell) (m : Module) (d e : Down) → Agree ms (around.ancestors ++ m.name ∷ []) d e → (n : Made) → walk_in d ms around c m n ≡ walk_in e ms around c m n
unfolding walk_in
same_walk_in ms around c m d e agree n =
    let here = inside around c m n in
    let first = arrival around.place around.scope c m in
    same_then first first (all_steps d ms here m) (all_steps e ms here m) n refl (same_all ms here d e agree m)

-- ---- the count

abbrev pub Known : List Module → List (List ℕ) → Type 0
Known ms names = (q : List ℕ) → list_any (bytes_eq q) names ≡ true → IsSome (module_named ms q)

known_push : (ms : List Module) (names : List (List ℕ)) (name : List ℕ) → Known ms names → IsSome (module_named ms name) → Known ms (names ++ name ∷ [])
known_push ms names name known there q e = by (list_any (bytes_eq q) names) (bytes_eq q name) refl refl (sym (list_any-append (bytes_eq q) names (name ∷ [])) ∙ e)
  where
    by : (a b : Bool) → list_any (bytes_eq q) names ≡ a → bytes_eq q name ≡ b → (list_any (bytes_eq q) names || (bytes_eq q name || false)) ≡ true → IsSome (module_named ms q)
    by true b f g h = known q f
    by false true f g h = subst (λ r. IsSome (module_named ms r)) (sym ((bytes_eq-Decides q name).0 g)) there
    by false false f g h = absurd (let e : ◌≡◌ {A = Bool} false true = cc in let z : ⊥ = cc in z)

-- names with no two equal, each that of a module, are at most as many as there are modules
few : (ms : List Module) (names : List (List ℕ)) → IsDistinct bytes_eq names → Known ms names → length names ≤ length ms
few ms names distinct known =
    let h : length names ≤ length (map (λ (m : Module). (m.name, m)) ms) = length-le_from_keys nat_list_eq_equiv names (map (λ m. (m.name, m)) ms) distinct known in
    omega (arith, h, length-map {B = List ℕ × Module} ms (λ m. (m.name, m)))

-- with as many levels as there are modules that are no ancestors, one more gives the same
pub enough : (ms : List Module) (d : ℕ) (ancestors : List (List ℕ)) → IsDistinct bytes_eq ancestors → Known ms ancestors → length ms ≤ length ancestors + d → Agree ms ancestors (walk d ms) (walk (suc d) ms)
unfolding walk
enough ms zero ancestors distinct known many m there free around same c n =
    let h = few ms (ancestors ++ m.name ∷ []) (IsDistinct-push nat_list_eq_equiv ancestors m.name distinct free) (known_push ms ancestors m.name known there) in
    absurd (omega (arith, h, many, length-append ancestors (m.name ∷ [])))
enough ms (suc d) ancestors distinct known many m there free around same c n =
    let deeper : length ms ≤ length (ancestors ++ m.name ∷ []) + d = omega (arith, many, length-append ancestors (m.name ∷ [])) in
    let below = enough ms d (ancestors ++ m.name ∷ []) (IsDistinct-push nat_list_eq_equiv ancestors m.name distinct free) (known_push ms ancestors m.name known there) deeper in
    same_walk_in ms around c m (walk d ms) (walk (suc d) ms) (subst (λ (a : List (List ℕ)). Agree ms (a ++ m.name ∷ []) (walk d ms) (walk (suc d) ms)) (sym same) below) n

-- ---- the top

one_known : (ms : List Module) (name : List ℕ) → IsSome (module_named ms name) → Known ms (name ∷ [])
one_known ms name there = known_push ms [] name (λ q h. absurd (let z : ⊥ = cc in z)) there

one_distinct : (name : List ℕ) → IsDistinct bytes_eq (name ∷ [])
unfolding IsDistinct
one_distinct name = IsDistinct-push nat_list_eq_equiv [] name tt refl

deep : (ms : List Module) (name : List ℕ) → IsSome (module_named ms name) → (more : ℕ) → Agree ms (name ∷ []) (walk (length ms) ms) (walk (length ms + more) ms)
deep ms name known zero m there free around same c n = let e : length ms ≡ length ms + 0 = omega arith in ap (λ d. walk d ms around c m n) e
deep ms name known (suc more) m there free around same c n =
    let e : suc (length ms + more) ≡ length ms + suc more = omega arith in
    deep ms name known more m there free around same c n
    ∙ enough ms (length ms + more) (name ∷ []) (one_distinct name) (one_known ms name known) (omega arith) m there free around same c n
    ∙ ap (λ d. walk d ms around c m n) e

pub top_deep : (inputs : Scope → Walk) (ms : List Module) (m : Module) (more : ℕ) (n : Made) → IsSome (module_named ms m.name) → top_walk_within (length ms + more) inputs ms m n ≡ top_walk inputs ms m n
unfolding top_walk_within
top_deep inputs ms m more n there =
    let here = top_inside m n in
    let d = walk (length ms) ms in
    let e = walk (length ms + more) ms in
    sym (same_then (top_wires m) (top_wires m) (inputs here.scope >> all_steps d ms here m) (inputs here.scope >> all_steps e ms here m) n refl
    (λ k. same_then (inputs here.scope) (inputs here.scope) (all_steps d ms here m) (all_steps e ms here m) k refl (same_all ms here d e (deep ms m.name there more) m)))
