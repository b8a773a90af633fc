-- Names of modules and their numbers.
use Rattle.std.proofs.Common.{◌≡◌, ℕ, suc, ◌+◌, ◌<◌, ◌≤◌, Bool, true, false, not, cond, List, [], ◌∷◌, ◌++◌, length, map, Option, Some, None, bytes_eq, get_or, refl, sym, ap, ◌∙◌, arith}
use Rattle.std.specs.List.{list_any, slice_get}
use Rattle.std.specs.Map.{lookup}
use Rattle.std.specs.Option.{is_some, IsSome}
use Rattle.std.proofs.lemmas.Option.{same_Some, slice_get_read}
use Rattle.std.proofs.lemmas.Slice.Eq.{bytes_eq-Decides}
use Rattle.circuit.specs.declared.fault.DesignFault.{DesignFault}
use Rattle.rtlil_tree.specs.declared.module.Cell.{Cell}
use Rattle.rtlil_tree.specs.declared.module.Module.{Module}
use Rattle.rtlil_signals.specs.Signals.{Scope}
use Rattle.design_parts.specs.Parts.{Check, Made, first_fault}
use Rattle.design_parts.proofs.Runs.{or_else, first_of_both}
use Rattle.design_instances.specs.Instances as instances
use Rattle.design_instances.specs.Ports.{ports_of}
use Rattle.design_walk.specs.Instances.{instance_checks, statements_in, type_checks}
use Rattle.design_walk.specs.Kept.{number_named}
use Rattle.design_walk.specs.Modules.{module_named, numbered}

-- the number of a module is the place at which it is found
at_least : (test : List ℕ → Bool) (ms : List Module) (i n : ℕ) → lookup test (numbered i ms) ≡ Some n → i ≤ n
at_least test [] i n e = cc
at_least test (m ∷ ms) i n e = by (test m.name) e (at_least test ms (i + 1) n)
  where
    by : (b : Bool) → cond b (Some i) (lookup test (numbered (i + 1) ms)) ≡ Some n → (lookup test (numbered (i + 1) ms) ≡ Some n → i + 1 ≤ n) → i ≤ n
    by true h later = let same = same_Some i n h in omega arith
    by false h later = let more = later h in omega arith

below : (test : List ℕ → Bool) (ms : List Module) (i n : ℕ) → lookup test (numbered i ms) ≡ Some n → n < i + length ms
below test [] i n e = cc
below test (m ∷ ms) i n e = by (test m.name) e (below test ms (i + 1) n)
  where
    by : (b : Bool) → cond b (Some i) (lookup test (numbered (i + 1) ms)) ≡ Some n → (lookup test (numbered (i + 1) ms) ≡ Some n → n < (i + 1) + length ms) → n < i + suc (length ms)
    by true h later = let same = same_Some i n h in omega arith
    by false h later = let more = later h in omega arith

pub number_below : (ms : List Module) (name : List ℕ) (n : ℕ) → number_named ms name ≡ Some n → n < length ms
number_below ms name n e = let h = below (bytes_eq name) ms 0 n e in omega arith

-- names of one number are equal
same_name : (a b : List ℕ) (ms : List Module) (i n : ℕ) → lookup (bytes_eq a) (numbered i ms) ≡ Some n → lookup (bytes_eq b) (numbered i ms) ≡ Some n → a ≡ b
same_name a b [] i n e f = cc
same_name a b (m ∷ ms) i n e f = by (bytes_eq a m.name) (bytes_eq b m.name) refl refl e f (same_name a b ms (i + 1) n)
  where
    by : (x y : Bool) → bytes_eq a m.name ≡ x → bytes_eq b m.name ≡ y → cond x (Some i) (lookup (bytes_eq a) (numbered (i + 1) ms)) ≡ Some n → cond y (Some i) (lookup (bytes_eq b) (numbered (i + 1) ms)) ≡ Some n → (lookup (bytes_eq a) (numbered (i + 1) ms) ≡ Some n → lookup (bytes_eq b) (numbered (i + 1) ms) ≡ Some n → a ≡ b) → a ≡ b
    by true true p q g h later = (bytes_eq-Decides a m.name).0 p ∙ sym ((bytes_eq-Decides b m.name).0 q)
    by true false p q g h later = let same = same_Some i n g in let more = at_least (bytes_eq b) ms (i + 1) n h in absurd (omega arith)
    by false true p q g h later = let same = same_Some i n h in let more = at_least (bytes_eq a) ms (i + 1) n g in absurd (omega arith)
    by false false p q g h later = later g h

pub same_number : (ms : List Module) (a b : List ℕ) (n : ℕ) → number_named ms a ≡ Some n → number_named ms b ≡ Some n → a ≡ b
same_number ms a b n e f = same_name a b ms 0 n e f

-- a name that has a number is that of a module
some_module : (test : List ℕ → Bool) (ms : List Module) (i n : ℕ) → lookup test (numbered i ms) ≡ Some n → is_some (lookup test (map (λ m. (m.name, m)) ms)) ≡ true
some_module test [] i n e = cc
some_module test (m ∷ ms) i n e = by (test m.name) e (some_module test ms (i + 1) n)
  where
    by : (b : Bool) → cond b (Some i) (lookup test (numbered (i + 1) ms)) ≡ Some n → (lookup test (numbered (i + 1) ms) ≡ Some n → is_some (lookup test (map (λ k. (k.name, k)) ms)) ≡ true) → is_some (cond b (Some m) (lookup test (map (λ k. (k.name, k)) ms))) ≡ true
    by true h later = refl
    by false h later = later h

pub module_there : (ms : List Module) (name : List ℕ) (n : ℕ) → number_named ms name ≡ Some n → IsSome (module_named ms name)
module_there ms name n e = some_module (bytes_eq name) ms 0 n e

-- the module of a name has that name
pub named_so : (ms : List Module) (name : List ℕ) (m : Module) → module_named ms name ≡ Some m → name ≡ m.name
named_so [] name m e = cc
named_so (k ∷ ks) name m e = by (bytes_eq name k.name) refl e (named_so ks name m)
  where
    by : (b : Bool) → bytes_eq name k.name ≡ b → cond b (Some k) (module_named ks name) ≡ Some m → (module_named ks name ≡ Some m → name ≡ m.name) → name ≡ m.name
    by true same h later = (bytes_eq-Decides name k.name).0 same ∙ ap (λ (x : Module). x.name) (same_Some k m h)
    by false same h later = later h

-- the module of a name is found by its number
pub named_at : (ms : List Module) (name : List ℕ) (n : ℕ) (unit : Module) → slice_get ms n ≡ module_named ms name → n < length ms → unit ≡ get_or ms n unit → module_named ms name ≡ Some unit
named_at ms name n unit is below at_n = sym is ∙ slice_get_read ms (length ms) n unit refl below at_n

-- ---- where the checks of an instance hold, its module is none of those around it

no_ancestor : (b c : Bool) (f g : DesignFault) → cond b (cond (not c) None (Some g)) (Some f) ≡ None → c ≡ false
no_ancestor true true f g e = cc
no_ancestor true false f g e = refl
no_ancestor false c f g e = cc

first_none : (a b : List Check) → first_fault (a ++ b) ≡ None → first_fault a ≡ None
first_none a b e = by (first_fault a) (sym (first_of_both a b) ∙ e)
  where
    by : (o : Option DesignFault) → or_else o (first_fault b) ≡ None → o ≡ None
    by None h = refl
    by (Some f) h = cc

pub open_instance : (ms : List Module) (names : List (List ℕ)) (owner : List ℕ) (around : Scope) (c : Cell) (m : Made) → first_fault (instance_checks ms names owner around c m) ≡ None → list_any (bytes_eq c.kind) names ≡ false
unfolding type_checks
open_instance ms names owner around c m e =
    let rest = instances.instance_checks owner around (ports_of (statements_in (module_named ms c.kind))) c m in
    no_ancestor (is_some (module_named ms c.kind)) (list_any (bytes_eq c.kind) names) _ _ (first_none (type_checks ms names owner c) rest e)
