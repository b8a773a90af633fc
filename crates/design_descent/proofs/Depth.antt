-- The instances that are open are at most as many as there are modules.
use Rattle.std.proofs.Common.{◌≡◌, ℕ, suc, ◌-◌, ◌≤◌, ◌||◌, Bool, true, false, List, [], ◌∷◌, length, map, bytes_eq, refl, sym, subst, ◌∙◌, arith, length-append}
use Rattle.std.specs.List.{list_any, IsDistinct}
use Rattle.std.specs.Option.{IsSome}
use Rattle.std.proofs.lemmas.Cmp.{nat_list_eq_equiv}
use Rattle.std.proofs.lemmas.List.{length-map}
use Rattle.std.proofs.lemmas.List.Folds.{list_any-append}
use Rattle.std.proofs.lemmas.Map.Keys.{IsDistinct-push}
use Rattle.std.proofs.lemmas.Map.Steps.{length-le_from_keys}
use Rattle.std.proofs.lemmas.Slice.Eq.{bytes_eq-Decides}
use Rattle.rtlil_tree.specs.declared.module.Module.{Module}
use Rattle.design_walk.specs.Modules.{module_named}
use Rattle.design_descent.specs.Frames.{AreNested, names_of}
use Rattle.design_descent.specs.declared.frame.Frame.{Frame}
use Rattle.design_descent.proofs.Names.{module_there}

names_length : (fs : List Frame) → length (names_of fs) ≡ length fs
names_length [] = refl
names_length (f ∷ fs) = let h = names_length fs in omega (arith, h, length-append (names_of fs) (f.unit.now.name ∷ []))

known : (ms : List Module) (fs : List Frame) → AreNested ms fs → (q : List ℕ) → list_any (bytes_eq q) (names_of fs) ≡ true → IsSome (module_named ms q)
known ms [] nested q e = absurd (let z : ⊥ = cc in z)
known ms (f ∷ fs) nested q e = by (list_any (bytes_eq q) (names_of fs)) (bytes_eq q f.unit.now.name) refl refl (sym (list_any-append (bytes_eq q) (names_of fs) (f.unit.now.name ∷ [])) ∙ e) (known ms fs nested.1 q)
  where
    by : (a b : Bool) → list_any (bytes_eq q) (names_of fs) ≡ a → bytes_eq q f.unit.now.name ≡ b → (a || (b || false)) ≡ true → (list_any (bytes_eq q) (names_of fs) ≡ true → IsSome (module_named ms q)) → IsSome (module_named ms q)
    by true b p r h later = later p
    by false true p r h later = subst (λ (x : List ℕ). IsSome (module_named ms x)) (sym ((bytes_eq-Decides q f.unit.now.name).0 r)) (module_there ms f.unit.now.name f.number nested.0.number)
    by false false p r h later = absurd (let z : ⊥ = cc in z)

distinct : (ms : List Module) (fs : List Frame) → AreNested ms fs → IsDistinct bytes_eq (names_of fs)
unfolding IsDistinct
distinct ms [] nested = tt
distinct ms (f ∷ fs) nested = IsDistinct-push nat_list_eq_equiv (names_of fs) f.unit.now.name (distinct ms fs nested.1) nested.0.apart

few : (ms : List Module) (fs : List Frame) → AreNested ms fs → length fs ≤ length ms
few ms fs nested =
    let h : length (names_of fs) ≤ length (map (λ (m : Module). (m.name, m)) ms) = length-le_from_keys nat_list_eq_equiv (names_of fs) (map (λ m. (m.name, m)) ms) (distinct ms fs nested) (known ms fs nested) in
    omega (arith, h, names_length fs, length-map {B = List ℕ × Module} ms (λ m. (m.name, m)))

-- so one more may always be gone into
pub fuel : (ms : List Module) (f : Frame) (fs : List Frame) → AreNested ms (f ∷ fs) → length ms - length fs ≡ suc (length ms - suc (length fs))
fuel ms f fs nested = let h : suc (length fs) ≤ length ms = few ms (f ∷ fs) nested in omega (arith, h)
