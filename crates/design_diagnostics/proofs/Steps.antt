-- What a cell that drives nothing appends to the lists of a circuit, what its rule gives, and the bytes of a text.
use Rattle.std.proofs.Common.{◌≡◌, ℕ, ◌+◌, ◌<◌, List, [], ◌∷◌, ◌++◌, map, length, slice_index_or, drop, drop-cons, add-one, append-nil, nat_eq, Bool, Option, None, Ok, refl, ap, ◌∙◌, arith}
use Rattle.std.specs.List.{range_with_len}
use Rattle.std.proofs.lemmas.List.FromFn.{map-range_with_len_more}
use Rattle.circuit.specs.declared.diagnostic.Diag.{Diag}
use Rattle.rtlil_tree.specs.declared.module.Attribute.{Attribute}
use Rattle.rtlil_tree.specs.declared.module.Setting.{Setting}
use Rattle.design_parts.specs.Parts.{Fails, Made, both_made, first_fault, give, judged, none_made, run}
use Rattle.design_parts.specs.declared.refusal.Refusal.{Refusal}
use Rattle.design_parts.proofs.Runs.{give_ok, guard_fails, guard_ok, made_none}
pub use Rattle.design_parts.proofs.Runs.{says_fails}
use Rattle.design_wires.specs.Places.{InstancePlace}
use Rattle.design_cells.specs.Joined.{Joined}
use Rattle.design_diagnostics.specs.Diagnostics.{silent_made, taken}
use Rattle.design_diagnostics.specs.Readings.{cell_text, shown_byte, shown_path}
use Rattle.design_diagnostics.specs.Rules.{silent_checks}
use Rattle.design_diagnostics.specs.declared.reading.Reading.{Reading}

add_none : (a : ℕ) → a + 0 ≡ a
add_none a = omega arith

pub map_more : {X : Type 0} (f : ℕ → X) (k : ℕ) → map f (range_with_len 0 (k + 1)) ≡ map f (range_with_len 0 k) ++ f k ∷ []
map_more f k = let e : 0 + k ≡ k = omega arith in map-range_with_len_more f 0 k k e

pub made_diagnostic : (m : Made) (d : Diag) → both_made m (record none_made { diags = d ∷ [] }) ≡ (record m { diags = m.diags ++ d ∷ [] })
made_diagnostic m d = simp (append-nil, add_none)

pub made_nothing : (m : Made) → both_made m none_made ≡ m
made_nothing m = made_none m

-- the next byte of a path
pub path_more : (begins : Bool) (path : List ℕ) (i : ℕ) → i < length path → shown_path begins (drop i path) ≡ shown_byte begins (slice_index_or path i 0) ++ shown_path (nat_eq (slice_index_or path i 0) 32) (drop (i + 1) path)
unfolding shown_path
path_more begins path i below = rw add-one (ap (shown_path begins) (drop-cons path i 0 below))

pub path_none : (begins : Bool) → shown_path begins [] ≡ []
unfolding shown_path
path_none begins = refl

module _ (here : InstancePlace) (name : List ℕ) (attributes : List Attribute) (r : Option Reading) (ss : List Setting) (js : List Joined) (m : Made) where
  pub taken_ok : first_fault (silent_checks here name r ss js m) ≡ None → run (taken here name attributes r ss js) m ≡ Ok (both_made m (silent_made r (cell_text here name) attributes ss js))
  unfolding taken
  taken_ok h =
      guard_ok (silent_checks here name r ss js) (give (λ m. silent_made r (cell_text here name) attributes ss js)) m h
      ∙ give_ok (λ m. silent_made r (cell_text here name) attributes ss js) m

  pub taken_fails : (e : Refusal) → Fails e (judged (first_fault (silent_checks here name r ss js m)) (tt {0})) → Fails e (run (taken here name attributes r ss js) m)
  unfolding taken
  taken_fails e h = guard_fails (silent_checks here name r ss js) (give (λ m. silent_made r (cell_text here name) attributes ss js)) m e h
