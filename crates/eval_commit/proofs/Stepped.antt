-- What the nodes of a plan add up to, cell by cell.
use Rattle.std.proofs.Common.{◌≡◌, ℕ, zero, suc, ◌+◌, ◌<◌, ◌≤◌, List, [], ◌∷◌, length, take, get_or, refl, sym, ◌∙◌, ap, arith, inl, inr, true, false, cond, Some, nat_lt, nat_eq}
use Rattle.std.specs.Prelude.{slice_get, sum_by}
use Rattle.std.proofs.lemmas.Bool.{cases_eq, cond-false, cond-true}
use Rattle.std.proofs.lemmas.Bool.Decides.{nat_tests}
use Rattle.std.proofs.lemmas.List.Sums.{sum_by-cons, sum_by_more}
use Rattle.std.proofs.lemmas.Option.{get_or_from_slice_get}
use Rattle.std.proofs.Math.Seq.{take-length}
use Rattle.circuit.specs.declared.netlist.Circuit.{Circuit}
use Rattle.circuit.specs.declared.cell.Cell.{Cell}
use Rattle.driver_check.proofs.Places.{found}
use Rattle.driver_check.specs.declared.parts.Node.{Node}
use Rattle.driver_check.specs.declared.parts.Node.TheVariants as node
use Rattle.eval_plan.specs.Ordered.{IsOrdered}
use Rattle.eval_commit.specs.Computed.{of_cell}

-- a number for each cell: that of the n-th one, and those of the ones before it
module _ (f : ℕ → ℕ) where
  abbrev at_cell : ℕ → Node → ℕ
  at_cell n (node.Cell m) = cond (nat_eq m n) (f m) 0
  at_cell n (node.Read l m) = 0

  abbrev below_cell : ℕ → Node → ℕ
  below_cell n (node.Cell m) = cond (nat_lt m n) (f m) 0
  below_cell n (node.Read l m) = 0

  none_below : (nodes : List Node) → sum_by (below_cell 0) nodes ≡ 0
  none_below [] = refl
  none_below (node.Cell m ∷ ns) =
      let t : sum_by (below_cell 0) ns ≡ 0 = none_below ns in
      let no_ : nat_lt m 0 ≡ false = grind (arith, nat_tests) in
      let e : below_cell 0 (node.Cell m) ≡ 0 = cond-false (nat_lt m 0) (f m) 0 no_ in
      let s : below_cell 0 (node.Cell m) + sum_by (below_cell 0) ns ≡ 0 = omega (arith, t, e) in sum_by-cons (below_cell 0) (node.Cell m) ns ∙ s
  none_below (node.Read l m ∷ ns) =
      let t : sum_by (below_cell 0) ns ≡ 0 = none_below ns in
      let s : 0 + sum_by (below_cell 0) ns ≡ 0 = omega (arith, t) in sum_by-cons (below_cell 0) (node.Read l m) ns ∙ s

  one_more : (m n : ℕ) → below_cell (suc n) (node.Cell m) ≡ below_cell n (node.Cell m) + at_cell n (node.Cell m)
  one_more m n = elim (cases_eq m n) [
    | inl e ↦
        (let a : nat_lt m (suc n) ≡ true = grind (arith, nat_tests) in
        let b : nat_lt m n ≡ false = grind (arith, nat_tests) in
        let d : nat_eq m n ≡ true = grind (arith, nat_tests) in
        omega (arith, cond-true (nat_lt m (suc n)) (f m) 0 a, cond-false (nat_lt m n) (f m) 0 b, cond-true (nat_eq m n) (f m) 0 d))
    | inr ne ↦
        (let d : nat_eq m n ≡ false = grind (arith, nat_tests) in
        let s : nat_lt m (suc n) ≡ nat_lt m n = grind (arith, nat_tests) in
        let same : below_cell (suc n) (node.Cell m) ≡ below_cell n (node.Cell m) = ap (λ t. cond t (f m) 0) s in
        omega (arith, same, cond-false (nat_eq m n) (f m) 0 d))
  ]

  more_below : (n : ℕ) (nodes : List Node) → sum_by (below_cell (suc n)) nodes ≡ sum_by (below_cell n) nodes + sum_by (at_cell n) nodes
  more_below n [] = refl
  more_below n (node.Cell m ∷ ns) =
      let t : sum_by (below_cell (suc n)) ns ≡ sum_by (below_cell n) ns + sum_by (at_cell n) ns = more_below n ns in
      let e = one_more m n in
      let a : sum_by (below_cell (suc n)) (node.Cell m ∷ ns) ≡ below_cell (suc n) (node.Cell m) + sum_by (below_cell (suc n)) ns = sum_by-cons (below_cell (suc n)) (node.Cell m) ns in
      let b : sum_by (below_cell n) (node.Cell m ∷ ns) ≡ below_cell n (node.Cell m) + sum_by (below_cell n) ns = sum_by-cons (below_cell n) (node.Cell m) ns in
      let d : sum_by (at_cell n) (node.Cell m ∷ ns) ≡ at_cell n (node.Cell m) + sum_by (at_cell n) ns = sum_by-cons (at_cell n) (node.Cell m) ns in
      omega (arith, t, e, a, b, d)
  more_below n (node.Read l m ∷ ns) =
      let t : sum_by (below_cell (suc n)) ns ≡ sum_by (below_cell n) ns + sum_by (at_cell n) ns = more_below n ns in
      let a : sum_by (below_cell (suc n)) (node.Read l m ∷ ns) ≡ 0 + sum_by (below_cell (suc n)) ns = sum_by-cons (below_cell (suc n)) (node.Read l m) ns in
      let b : sum_by (below_cell n) (node.Read l m ∷ ns) ≡ 0 + sum_by (below_cell n) ns = sum_by-cons (below_cell n) (node.Read l m) ns in
      let d : sum_by (at_cell n) (node.Read l m ∷ ns) ≡ 0 + sum_by (at_cell n) ns = sum_by-cons (at_cell n) (node.Read l m) ns in
      omega (arith, t, a, b, d)

  other_cell : (n : ℕ) (m : Node) → (m ≡ node.Cell n → ⊥) → at_cell n m ≡ 0
  other_cell n (node.Cell m) other = elim (cases_eq m n) [
    | inl e ↦ absurd (other (ap node.Cell e))
    | inr ne ↦ cond-false (nat_eq m n) (f m) 0 (let g : nat_eq m n ≡ false = grind (arith, nat_tests) in g)
  ]
  other_cell n (node.Read l m) other = refl

  not_there : (n : ℕ) (nodes : List Node) → ((k : ℕ) → slice_get nodes k ≡ Some (node.Cell n) → ⊥) → sum_by (at_cell n) nodes ≡ 0
  not_there n [] none = refl
  not_there n (m ∷ ms) none =
      let t : sum_by (at_cell n) ms ≡ 0 = not_there n ms (λ k e. none (suc k) e) in
      let z : at_cell n m ≡ 0 = other_cell n m (λ e. none 0 (ap Some e)) in
      let s : at_cell n m + sum_by (at_cell n) ms ≡ 0 = omega (arith, t, z) in sum_by-cons (at_cell n) m ms ∙ s

  once : (n k : ℕ) (nodes : List Node) → slice_get nodes k ≡ Some (node.Cell n) → ((j : ℕ) → slice_get nodes j ≡ Some (node.Cell n) → j ≡ k) → sum_by (at_cell n) nodes ≡ f n
  once n k [] at only = cc at
  once n zero (m ∷ ms) at only =
      let e : m ≡ node.Cell n = cc at in
      let g : nat_eq n n ≡ true = grind (arith, nat_tests) in
      let one : at_cell n m ≡ f n = ap (at_cell n) e ∙ cond-true (nat_eq n n) (f n) 0 g in
      let t : sum_by (at_cell n) ms ≡ 0 = not_there n ms (λ j h. let bad : suc j ≡ 0 = only (suc j) h in omega (arith, bad)) in
      let s : at_cell n m + sum_by (at_cell n) ms ≡ f n = omega (arith, one, t) in sum_by-cons (at_cell n) m ms ∙ s
  once n (suc k) (m ∷ ms) at only =
      let zero_here : at_cell n m ≡ 0 = other_cell n m (λ e. let bad : 0 ≡ suc k = only 0 (ap Some e) in omega (arith, bad)) in
      let t : sum_by (at_cell n) ms ≡ f n = once n k ms at (λ j h. let s : suc j ≡ suc k = only (suc j) h in omega (arith, s)) in
      let s : at_cell n m + sum_by (at_cell n) ms ≡ f n = omega (arith, zero_here, t) in sum_by-cons (at_cell n) m ms ∙ s

  all_below : (cells : ℕ) (nodes : List Node) → ((k n : ℕ) → slice_get nodes k ≡ Some (node.Cell n) → n < cells) → sum_by (below_cell cells) nodes ≡ sum_by (of_cell f) nodes
  all_below cells [] low = refl
  all_below cells (node.Cell m ∷ ms) low =
      let t : sum_by (below_cell cells) ms ≡ sum_by (of_cell f) ms = all_below cells ms (λ k n e. low (suc k) n e) in
      let lt : m < cells = low 0 m refl in
      let g : nat_lt m cells ≡ true = grind (arith, nat_tests) in
      let one : below_cell cells (node.Cell m) ≡ f m = cond-true (nat_lt m cells) (f m) 0 g in
      let s : below_cell cells (node.Cell m) + sum_by (below_cell cells) ms ≡ f m + sum_by (of_cell f) ms = omega (arith, t, one) in
      sum_by-cons (below_cell cells) (node.Cell m) ms ∙ s ∙ sym (sum_by-cons (of_cell f) (node.Cell m) ms)
  all_below cells (node.Read l m ∷ ms) low =
      let t : sum_by (below_cell cells) ms ≡ sum_by (of_cell f) ms = all_below cells ms (λ k n e. low (suc k) n e) in
      let s : 0 + sum_by (below_cell cells) ms ≡ 0 + sum_by (of_cell f) ms = omega (arith, t) in
      sum_by-cons (below_cell cells) (node.Read l m) ms ∙ s ∙ sym (sum_by-cons (of_cell f) (node.Read l m) ms)

  -- the nodes add up to what the cells do
  pub nodes_add_up : (c : Circuit) (nodes : List Node) (g : Cell → ℕ) → IsOrdered c nodes → ((n : ℕ) (x : Cell) → slice_get c.cells n ≡ Some x → f n ≡ g x) → sum_by (of_cell f) nodes ≡ sum_by g c.cells
  nodes_add_up c nodes g order each =
      sym (all_below (length c.cells) nodes (λ k n e. order.there k (node.Cell n) e)) ∙ counted (length c.cells) (let le : length c.cells ≤ length c.cells = omega arith in le) ∙ ap (λ xs. sum_by g xs) (take-length c.cells)
    where
      counted : (n : ℕ) → n ≤ length c.cells → sum_by (below_cell n) nodes ≡ sum_by g (take n c.cells)
      counted zero le = none_below nodes
      counted (suc n) le =
          let lt : n < length c.cells = omega (arith, le) in
          let h = order.every (node.Cell n) lt in
          let x = found c.cells n lt in
          let t : sum_by (below_cell n) nodes ≡ sum_by g (take n c.cells) = counted n (omega (arith, le)) in
          let one : sum_by (at_cell n) nodes ≡ f n = once n h.0 nodes h.1 (λ j e. order.single j h.0 (node.Cell n) e h.1) in
          let more : sum_by (below_cell (suc n)) nodes ≡ sum_by (below_cell n) nodes + sum_by (at_cell n) nodes = more_below n nodes in
          let same : f n ≡ g (get_or c.cells n x.0) = each n x.0 x.1 ∙ ap g (sym (get_or_from_slice_get c.cells n x.0 x.0 x.1)) in
          let next : sum_by g (take (n + 1) c.cells) ≡ sum_by g (take n c.cells) + g (get_or c.cells n x.0) = sum_by_more g c.cells n x.0 lt in
          let step : n + 1 ≡ suc n = omega arith in
          let goes : sum_by (below_cell (suc n)) nodes ≡ sum_by g (take (n + 1) c.cells) = omega (arith, t, one, more, same, next) in
          goes ∙ ap (λ k. sum_by g (take k c.cells)) step
