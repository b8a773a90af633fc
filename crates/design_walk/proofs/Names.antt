-- Modules that are found by tables of their names.
use Rattle.std.proofs.Common.{◌≡◌, ℕ, suc, ◌+◌, cond, List, [], ◌∷◌, map, true, false, Bool, Some, bytes_eq, refl, sym, ap, ◌∙◌, arith}
use Rattle.std.specs.Map.{lookup}
use Rattle.std.specs.Option.{option_and_then}
use Rattle.std.specs.List.{slice_get}
use Rattle.rtlil_tree.specs.declared.module.Module.{Module}
use Rattle.design_walk.specs.Modules.{LeadsTo, module_named, numbered}

numbers_find : (test : List ℕ → Bool) (front ms : List Module) (n : ℕ) → ((i : ℕ) → slice_get ms i ≡ slice_get front (n + i)) → option_and_then (slice_get front) (lookup test (numbered n ms)) ≡ lookup test (map (λ m. (m.name, m)) ms)
numbers_find test front [] n h = refl
numbers_find test front (m ∷ ms) n h =
    elim (test m.name) as (λ b. option_and_then (slice_get front) (cond b (Some n) (lookup test (numbered (n + 1) ms))) ≡ cond b (Some m) (lookup test (map (λ k. (k.name, k)) ms))) [
      | true ↦ let e : n ≡ n + 0 = omega arith in ap (slice_get front) e ∙ sym (h 0)
      | false ↦ numbers_find test front ms (n + 1) (λ i. let e : n + suc i ≡ (n + 1) + i = omega arith in h (suc i) ∙ ap (slice_get front) e)
    ]

-- the place behind a name leads to the module
pub found : (ms : List Module) (places : List (List ℕ × ℕ)) (name : List ℕ) → LeadsTo places ms → option_and_then (slice_get ms) (lookup (bytes_eq name) places) ≡ module_named ms name
found ms places name leads =
    ap (option_and_then (slice_get ms)) (leads name)
    ∙ numbers_find (bytes_eq name) ms ms 0 (λ i. let e : i ≡ 0 + i = omega arith in ap (slice_get ms) e)
