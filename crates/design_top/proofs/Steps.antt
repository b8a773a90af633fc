-- Modules and statements, one after the other.
use Rattle.std.proofs.Common.{◌≡◌, ℕ, zero, suc, ◌+◌, ◌<◌, ◌≤◌, ◌==◌, List, [], ◌∷◌, ◌++◌, length, get_or, drop, drop-cons, add-one, Bool, true, false, not, cond, Option, Some, None, Ok, bytes_eq, min, refl, sym, ap, subst, ◌∙◌, append-nil, append_assoc, arith}
use Rattle.std.specs.Prelude.{slice_get, ◌^◌, ◌-◌}
use Rattle.std.specs.List.{list_any}
use Rattle.std.specs.Map.{lookup, keys_of}
use Rattle.std.specs.Option.{is_some}
use Rattle.std.proofs.lemmas.Bool.Decides.{nat_tests}
use Rattle.std.proofs.lemmas.List.{at_drop_all}
use Rattle.std.proofs.lemmas.Map.Made.{is_some-lookup}
use Rattle.circuit.specs.declared.fault.DesignKind.TheVariants as kind
use Rattle.circuit.specs.declared.netlist.Drive.{Drive}
use Rattle.rtlil_tree.specs.declared.module.Module.{Module}
use Rattle.rtlil_tree.specs.declared.module.Statement.{Statement}
use Rattle.rtlil_signals.specs.Signals.{Scope}
use Rattle.design_parts.specs.Parts.{Fails, Made, both_made, first_fault, none_made, run}
use Rattle.design_parts.specs.declared.refusal.Refusal.{Refusal}
use Rattle.design_parts.proofs.Runs.{nothing_ok, then_fails, then_ok}
use Rattle.design_top.specs.Inputs.{input_in, inputs}
use Rattle.design_top.specs.Names.{name_checks, numbered, second}
use Rattle.design_top.specs.Tops.{candidates, has_name, is_marked, is_one, marked_or_only, nowhere, numbers_of, top_checks, top_number}

drop_item : {X : Type 0} (xs : List X) (i : ℕ) (x : X) → i < length xs → x ≡ get_or xs i x → drop i xs ≡ x ∷ drop (i + 1) xs
drop_item xs i x below e = rw (add-one, drop-cons xs i x) (ap (λ y. y ∷ drop (suc i) xs) (sym e))

-- ---- the top

pub capped_nonzero : (n : ℕ) → not (min n (2 ^ 64 - 1) == 0) ≡ not (n == 0)
capped_nonzero zero = refl
capped_nonzero (suc n) = grind (arith, nat_tests)

module _ (test : Module → Bool) (ms : List Module) (i : ℕ) (m : Module) (found whole : List ℕ) (below : i < length ms) (is : m ≡ get_or ms i m) where
  found_here : numbers_of test i (drop i ms) ≡ cond (test m) (i ∷ numbers_of test (i + 1) (drop (i + 1) ms)) (numbers_of test (i + 1) (drop (i + 1) ms))
  unfolding numbers_of
  found_here = ap (numbers_of test i) (drop_item ms i m below is)

  found_by : (b : Bool) (rest : List ℕ) → cond b (found ++ i ∷ []) found ++ rest ≡ found ++ cond b (i ∷ rest) rest
  found_by true rest = append_assoc found (i ∷ []) rest
  found_by false rest = refl

  pub found_step : (holds : Bool) (more : List ℕ) → holds ≡ test m → more ≡ cond holds (found ++ i ∷ []) found → found ++ numbers_of test i (drop i ms) ≡ whole → more ++ numbers_of test (i + 1) (drop (i + 1) ms) ≡ whole
  found_step holds more value pushed before =
      ap (λ xs. xs ++ numbers_of test (i + 1) (drop (i + 1) ms)) (pushed ∙ ap (λ b. cond b (found ++ i ∷ []) found) value)
      ∙ found_by (test m) (numbers_of test (i + 1) (drop (i + 1) ms))
      ∙ ap (λ xs. found ++ xs) (sym found_here)
      ∙ before

pub found_all : (test : Module → Bool) (ms : List Module) (i : ℕ) (found whole : List ℕ) → length ms ≤ i → found ++ numbers_of test i (drop i ms) ≡ whole → found ≡ whole
unfolding numbers_of
found_all test ms i found whole past before = sym (append-nil found) ∙ ap (λ xs. found ++ xs) (sym (at_drop_all (numbers_of test i) ms i past)) ∙ before

within_more : (b : Bool) (n k count : ℕ) (rest : List ℕ) → slice_get (cond b (n ∷ rest) rest) 0 ≡ Some k → (slice_get rest 0 ≡ Some k → k < (n + 1) + count) → k < n + suc count
within_more true n k count rest e h = let same : n ≡ k = let g : Some n ≡ Some k = e in cc g in omega (arith, same)
within_more false n k count rest e h = let g = h e in omega (arith, g)

first_within : (test : Module → Bool) (n k : ℕ) (ms : List Module) → slice_get (numbers_of test n ms) 0 ≡ Some k → k < n + length ms
unfolding numbers_of
first_within test n k [] e = cc e
first_within test n k (m ∷ ms) e = within_more (test m) n k (length ms) (numbers_of test (n + 1) ms) e (first_within test (n + 1) k ms)

only_within : (ns : List ℕ) (count k : ℕ) → slice_get (marked_or_only ns count) 0 ≡ Some k → (slice_get ns 0 ≡ Some k → k < count) → k < count
only_within (n ∷ ns) count k e h = h e
only_within [] count k e h = by (count == 1) refl e
  where
    by : (b : Bool) → (count == 1) ≡ b → slice_get (cond b (0 ∷ []) []) 0 ≡ Some k → k < count
    by true one e = let same : 0 ≡ k = let g : Some 0 ≡ Some k = e in cc g in grind (arith, nat_tests)
    by false one e = cc e

pub candidate_within : (ms : List Module) (name : Option (List ℕ)) (k : ℕ) → top_number ms name ≡ Some k → k < length ms
candidate_within ms (Some name) k e = let h = first_within (has_name name) 0 k ms e in omega (arith, h)
candidate_within ms None k e = only_within (numbers_of is_marked 0 ms) (length ms) k e (λ f. let h = first_within is_marked 0 k ms f in omega (arith, h))

none_first : (ns : List ℕ) → slice_get ns 0 ≡ None → not (length ns == 0) ≡ false
none_first [] e = refl
none_first (n ∷ ns) e = cc e

some_first : (ns : List ℕ) (k : ℕ) → slice_get ns 0 ≡ Some k → not (length ns == 0) ≡ true
some_first [] k e = cc e
some_first (n ∷ ns) k e = grind (arith, nat_tests)

module _ (ms : List Module) (name : Option (List ℕ)) where
  pub top_none : slice_get (candidates ms name) 0 ≡ None → first_fault (top_checks ms name) ≡ Some (nowhere kind.NoTop)
  unfolding top_checks
  top_none e = ap (λ b. cond b (cond (is_one name (candidates ms name)) None (Some (nowhere kind.ManyTops))) (Some (nowhere kind.NoTop))) (none_first (candidates ms name) e)

  top_some : (k : ℕ) (b : Bool) → slice_get (candidates ms name) 0 ≡ Some k → is_one name (candidates ms name) ≡ b → first_fault (top_checks ms name) ≡ cond b None (Some (nowhere kind.ManyTops))
  unfolding top_checks
  top_some k b e one =
      ap (λ t. cond t (cond (is_one name (candidates ms name)) None (Some (nowhere kind.ManyTops))) (Some (nowhere kind.NoTop))) (some_first (candidates ms name) k e)
      ∙ ap (λ t. cond t None (Some (nowhere kind.ManyTops))) one

  pub top_many : (k : ℕ) → slice_get (candidates ms name) 0 ≡ Some k → is_one name (candidates ms name) ≡ false → first_fault (top_checks ms name) ≡ Some (nowhere kind.ManyTops)
  top_many k = top_some k false

  pub top_one : (k : ℕ) → slice_get (candidates ms name) 0 ≡ Some k → is_one name (candidates ms name) ≡ true → first_fault (top_checks ms name) ≡ None
  top_one k = top_some k true

-- ---- names

keys_behind : {V : Type 0} (es : List (List ℕ × V)) (e : List ℕ × V) → keys_of (es ++ e ∷ []) ≡ keys_of es ++ e.0 ∷ []
keys_behind [] e = refl
keys_behind (x ∷ xs) e = ap (λ ks. x.0 ∷ ks) (keys_behind xs e)

name_check : (earlier : List (List ℕ)) (m : Module) (ms : List Module) (b : Bool) → list_any (bytes_eq m.name) earlier ≡ b → first_fault (name_checks earlier (m ∷ ms)) ≡ cond (not b) (first_fault (name_checks (earlier ++ m.name ∷ []) ms)) (Some (second m.name))
unfolding name_checks
name_check earlier m ms b e = ap (λ t. cond (not t) (first_fault (name_checks (earlier ++ m.name ∷ []) ms)) (Some (second m.name))) e

module _ (numbers : List (List ℕ × ℕ)) (ms : List Module) (i : ℕ) (m : Module) (below : i < length ms) (is : m ≡ get_or ms i m) where
  pub names_more : (more : List (List ℕ × ℕ)) → more ≡ numbers ++ (m.name, i) ∷ [] → is_some (lookup (bytes_eq m.name) numbers) ≡ false → first_fault (name_checks (keys_of numbers) (drop i ms)) ≡ first_fault (name_checks (keys_of more) (drop (i + 1) ms))
  names_more more added fresh =
      ap (λ xs. first_fault (name_checks (keys_of numbers) xs)) (drop_item ms i m below is)
      ∙ name_check (keys_of numbers) m (drop (i + 1) ms) false (sym (is_some-lookup (bytes_eq m.name) numbers) ∙ fresh)
      ∙ ap (λ ks. first_fault (name_checks ks (drop (i + 1) ms))) (sym (ap keys_of added ∙ keys_behind numbers (m.name, i)))

  pub names_stop : is_some (lookup (bytes_eq m.name) numbers) ≡ true → first_fault (name_checks (keys_of numbers) (drop i ms)) ≡ Some (second m.name)
  names_stop there =
      ap (λ xs. first_fault (name_checks (keys_of numbers) xs)) (drop_item ms i m below is)
      ∙ name_check (keys_of numbers) m (drop (i + 1) ms) true (sym (is_some-lookup (bytes_eq m.name) numbers) ∙ there)

  pub numbers_more : (more whole : List (List ℕ × ℕ)) → more ≡ numbers ++ (m.name, i) ∷ [] → numbers ++ numbered i (drop i ms) ≡ whole → more ++ numbered (i + 1) (drop (i + 1) ms) ≡ whole
  numbers_more more whole added before =
      ap (λ xs. xs ++ numbered (i + 1) (drop (i + 1) ms)) added
      ∙ append_assoc numbers ((m.name, i) ∷ []) (numbered (i + 1) (drop (i + 1) ms))
      ∙ ap (λ xs. numbers ++ numbered i xs) (sym (drop_item ms i m below is))
      ∙ before

pub names_none : (earlier : List (List ℕ)) → first_fault (name_checks earlier []) ≡ None
unfolding name_checks
names_none earlier = refl

-- ---- inputs

add_none : (a : ℕ) → a + 0 ≡ a
add_none a = omega arith

pub made_public : (m : Made) (ds : List Drive) (ns : List ℕ) → both_made m (record none_made { drives = ds; inputs = ns }) ≡ (record m { drives = m.drives ++ ds; inputs = m.inputs ++ ns })
made_public m ds ns = simp (append-nil, add_none)

pub made_private : (m : Made) (ds : List Drive) → both_made m (record none_made { drives = ds }) ≡ (record m { drives = m.drives ++ ds })
made_private m ds = simp (append-nil, add_none)

-- a loop over statements, at the one at i
module _ (scope : Scope) (all : List Statement) (i : ℕ) (s : Statement) (c : Made) (below : i < length all) (is : s ≡ get_or all i s) where
  pub inputs_more : (d : Made) → run (input_in scope s) c ≡ Ok d → run (inputs scope (drop i all)) c ≡ run (inputs scope (drop (i + 1) all)) d
  unfolding inputs
  inputs_more d h = ap (λ ss. run (inputs scope ss) c) (drop_item all i s below is) ∙ then_ok (input_in scope s) (inputs scope (drop (i + 1) all)) c d h

  pub inputs_stop : (e : Refusal) → Fails e (run (input_in scope s) c) → Fails e (run (inputs scope (drop i all)) c)
  unfolding inputs
  inputs_stop e h = subst (λ ss. Fails e (run (inputs scope ss) c)) (sym (drop_item all i s below is)) (then_fails (input_in scope s) (inputs scope (drop (i + 1) all)) c e h)

pub inputs_none : (scope : Scope) (c : Made) → run (inputs scope []) c ≡ Ok c
unfolding inputs
inputs_none scope c = nothing_ok c
