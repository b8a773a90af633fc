-- What is shown of the module of a cell, which is found by a table of names and flagged by its number.
use Rattle.std.proofs.Common.{◌≡◌, ℕ, zero, suc, ◌+◌, ◌<◌, Bool, true, false, not, cond, List, [], ◌∷◌, length, map, Option, Some, None, Err, bytes_eq, get_or, refl, sym, ap, subst, ◌∙◌, arith}
use Rattle.std.specs.Map.{lookup}
use Rattle.std.specs.Option.{option_and_then, is_some}
use Rattle.std.specs.List.{list_any, slice_get}
use Rattle.std.proofs.lemmas.Option.{slice_get_read}
use Rattle.circuit.specs.declared.fault.DesignKind.TheVariants as kind
use Rattle.rtlil_tree.specs.declared.module.Cell.{Cell}
use Rattle.rtlil_tree.specs.declared.module.Module.{Module}
use Rattle.rtlil_signals.specs.Signals.{Scope}
use Rattle.design_parts.specs.Parts.{Check, Fails, Made, Passes, Says, at, check, first_fault, judged}
use Rattle.design_parts.specs.declared.refusal.Refusal.{Refusal}
use Rattle.design_parts.proofs.Runs.{checks_fail, checks_ok, says_fails}
use Rattle.design_instances.specs.Instances as instances
use Rattle.design_instances.specs.Ports.{PortWires, ports_of}
use Rattle.design_walk.specs.Instances.{instance_checks, statements_in, type_checks}
use Rattle.design_walk.specs.Kept.{AreOpen, is_set, number_named, set_flag}
use Rattle.design_walk.specs.Modules.{LeadsTo, module_named, numbered}
use Rattle.design_walk.proofs.Names.{found}

-- a number is that of a module
some_module : (b : Bool) (n k : ℕ) (m : Module) (number : Option ℕ) (rest : Option Module) → (number ≡ Some k → is_some rest ≡ true) → cond b (Some n) number ≡ Some k → is_some (cond b (Some m) rest) ≡ true
some_module true n k m number rest later e = refl
some_module false n k m number rest later e = later e

somewhere : (test : List ℕ → Bool) (ms : List Module) (n k : ℕ) → lookup test (numbered n ms) ≡ Some k → is_some (lookup test (map (λ m. (m.name, m)) ms)) ≡ true
somewhere test [] n k e = cc
somewhere test (m ∷ ms) n k e = some_module (test m.name) n k m (lookup test (numbered (n + 1) ms)) (lookup test (map (λ j. (j.name, j)) ms)) (somewhere test ms (n + 1) k) e

-- ---- its type

module _ (ms : List Module) (ancestors : List (List ℕ)) (owner : List ℕ) (c : Cell) where
  judged_types : (b d : Bool) → is_some (module_named ms c.kind) ≡ b → list_any (bytes_eq c.kind) ancestors ≡ d → first_fault (type_checks ms ancestors owner c) ≡ first_fault (check b (at kind.UnknownCell owner c.name) ∷ check (not d) (at kind.RecursiveModules owner c.name) ∷ [])
  unfolding type_checks
  judged_types b d e f =
      ap (λ x. first_fault (check x (at kind.UnknownCell owner c.name) ∷ check (not (list_any (bytes_eq c.kind) ancestors)) (at kind.RecursiveModules owner c.name) ∷ [])) e
      ∙ ap (λ y. first_fault (check b (at kind.UnknownCell owner c.name) ∷ check (not y) (at kind.RecursiveModules owner c.name) ∷ [])) f

  module _ (places : List (List ℕ × ℕ)) (flags : List Bool) (leads : LeadsTo places ms) where
    pub type_unknown : (e : Refusal) → lookup (bytes_eq c.kind) places ≡ None → Says e (at kind.UnknownCell owner c.name) → Passes {X = ℕ} (type_checks ms ancestors owner c) (Err e)
    type_unknown e none says =
        let unknown : is_some (module_named ms c.kind) ≡ false = ap is_some (sym (found ms places c.kind leads) ∙ ap (option_and_then (slice_get ms)) none) in
        says_fails e (at kind.UnknownCell owner c.name) (judged (first_fault (type_checks ms ancestors owner c)) (tt {0})) (ap (λ o. judged o (tt {0})) (judged_types false (list_any (bytes_eq c.kind) ancestors) unknown refl)) says

    module _ (n : ℕ) (is : lookup (bytes_eq c.kind) places ≡ Some n) (opens : AreOpen flags ms ancestors) where
      flagged : (b : Bool) → b ≡ is_set flags n → list_any (bytes_eq c.kind) ancestors ≡ b
      flagged b e = sym (e ∙ ap set_flag (opens c.kind n (sym (leads c.kind) ∙ is)))

      there : is_some (module_named ms c.kind) ≡ true
      there = somewhere (bytes_eq c.kind) ms 0 n (sym (leads c.kind) ∙ is)

      pub type_recursive : (e : Refusal) (b : Bool) → b ≡ is_set flags n → b ≡ true → Says e (at kind.RecursiveModules owner c.name) → Passes {X = ℕ} (type_checks ms ancestors owner c) (Err e)
      type_recursive e b is_flag set says =
          says_fails e (at kind.RecursiveModules owner c.name) (judged (first_fault (type_checks ms ancestors owner c)) (tt {0})) (ap (λ o. judged o (tt {0})) (judged_types true true there (flagged b is_flag ∙ set))) says

      pub type_passes : (b : Bool) → b ≡ is_set flags n → b ≡ false → first_fault (type_checks ms ancestors owner c) ≡ None
      type_passes b is_flag unset = judged_types true false there (flagged b is_flag ∙ unset)

-- ---- its number

pub numbered_named : (ms : List Module) (places : List (List ℕ × ℕ)) (name : List ℕ) (n : ℕ) → LeadsTo places ms → lookup (bytes_eq name) places ≡ Some n → number_named ms name ≡ Some n
numbered_named ms places name n leads is = sym (leads name) ∙ is

-- a table of the numbers themselves
plain : (ms : List Module) → LeadsTo (numbered 0 ms) ms
plain ms name = refl

pub module_at : (ms : List Module) (name : List ℕ) (n : ℕ) → number_named ms name ≡ Some n → slice_get ms n ≡ module_named ms name
module_at ms name n is = sym (ap (option_and_then (slice_get ms)) is) ∙ found ms (numbered 0 ms) name (plain ms)

inside_of : {X : Type 0} (xs : List X) (n : ℕ) → is_some (slice_get xs n) ≡ true → n < length xs
inside_of [] n e = absurd (let h : false ≡ true = e in cc)
inside_of (x ∷ xs) zero e = omega arith
inside_of (x ∷ xs) (suc n) e = let h = inside_of xs n e in omega (arith, h)

pub number_below : (ms : List Module) (name : List ℕ) (n : ℕ) → number_named ms name ≡ Some n → n < length ms
number_below ms name n is = inside_of ms n (ap is_some (module_at ms name n is) ∙ somewhere (bytes_eq name) ms 0 n is)

-- the wires of the module behind a number
pub ports_found : (ms : List Module) (name : List ℕ) (n : ℕ) (unit : Module) (ports : PortWires) → number_named ms name ≡ Some n → n < length ms → unit ≡ get_or ms n unit → ports ≡ ports_of unit.statements → ports ≡ ports_of (statements_in (module_named ms name))
ports_found ms name n unit ports is below at_n e =
    let named : Some unit ≡ module_named ms name = sym (slice_get_read ms (length ms) n unit refl below at_n) ∙ module_at ms name n is in
    e ∙ ap (λ o. ports_of (statements_in o)) named

-- ---- its checks as an instance

module _ (ms : List Module) (ancestors : List (List ℕ)) (owner : List ℕ) (around : Scope) (c : Cell) (m : Made) where
  abbrev rest : PortWires → List Check
  rest ports = instances.instance_checks owner around ports c m

  abbrev own_ports : PortWires
  own_ports = ports_of (statements_in (module_named ms c.kind))

  pub instance_first : (e : Refusal) → Fails e (judged (first_fault (type_checks ms ancestors owner c)) (tt {0})) → Fails e (judged (first_fault (instance_checks ms ancestors owner around c m)) (tt {0}))
  instance_first e h = checks_fail (type_checks ms ancestors owner c) (rest own_ports) e h

  module _ (passes : first_fault (type_checks ms ancestors owner c) ≡ None) (ports : PortWires) (same : ports ≡ own_ports) where
    instance_then : first_fault (instance_checks ms ancestors owner around c m) ≡ first_fault (rest ports)
    instance_then = checks_ok (type_checks ms ancestors owner c) (rest own_ports) passes ∙ ap (λ ps. first_fault (rest ps)) (sym same)

    pub instance_fails : (e : Refusal) → Fails e (judged (first_fault (rest ports)) (tt {0})) → Fails e (judged (first_fault (instance_checks ms ancestors owner around c m)) (tt {0}))
    instance_fails e h = subst (λ o. Fails e (judged o (tt {0}))) (sym instance_then) h

    pub instance_passes : first_fault (rest ports) ≡ None → first_fault (instance_checks ms ancestors owner around c m) ≡ None
    instance_passes h = instance_then ∙ h
