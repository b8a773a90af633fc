-- The nodes of an order of vertices, vertex by vertex.
use Rattle.std.proofs.Common.{◌≡◌, ℕ, ◌+◌, ◌<◌, List, [], ◌∷◌, ◌++◌, length, subst, arith, inl, inr, Some}
use Rattle.std.specs.Prelude.{slice_get}
use Rattle.std.proofs.lemmas.Bool.{cases_eq, cases_lt}
use Rattle.circuit.specs.declared.netlist.Circuit.{Circuit}
use Rattle.eval_plan.specs.OrderInvariants.{AreNodesOf, StandsAt}
use Rattle.driver_check.specs.Numbers.{bit_count}
use Rattle.eval_plan.specs.Ordered.{IsAmong}
use Rattle.driver_check.specs.Nodes.{IsNode, IsPart, part_place}
use Rattle.driver_check.specs.declared.parts.Node.{Node}
use Rattle.driver_check.specs.declared.parts.Node.TheVariants as node
use Rattle.driver_check.proofs.Places.{kept, last, pushed, same, within}
use Rattle.driver_check.proofs.Placed.{place_once}

pub node_part : (c : Circuit) (n : Node) → IsNode c n → IsPart c n
node_part c (node.Cell n) h = h
node_part c (node.Read m n) h = (h.0, h.2, within h.0.reads n h.1 h.3)

pub no_nodes : (c : Circuit) (order : List ℕ) → AreNodesOf c order 0 []
no_nodes c order = record {
  from = λ k n e. cc e;
  to = λ i n lt e h. absurd (omega (arith, lt));
  rise = λ k l i j n m p q a b lt. cc p;
}

module _ (c : Circuit) (order : List ℕ) (single : (i j v : ℕ) → slice_get order i ≡ Some v → slice_get order j ≡ Some v → i ≡ j) (t : ℕ) (nodes : List Node) (was : AreNodesOf c order t nodes) where
  -- no node stands at the next place
  pub none_more : ((n : Node) → StandsAt c order t n → IsNode c n → ⊥) → AreNodesOf c order (t + 1) nodes
  none_more none = record {
    from = λ k n e. let r = was.from k n e in (r.0, (r.1.0, omega (arith, r.1.1), r.1.2));
    to = λ i n lt e h. elim (cases_eq i t) [
      | inl eq ↦ absurd (none n (subst (λ (k : ℕ). StandsAt c order k n) eq e) h)
      | inr ne ↦ was.to i n (omega (arith, lt, ne)) e h
    ];
    rise = was.rise;
  }

  pub one_more_node : (x : Node) → IsNode c x → StandsAt c order t x → AreNodesOf c order (t + 1) (nodes ++ x ∷ [])
  one_more_node x is at = record {
    from = λ k n e. elim (pushed nodes x k n e) [
      | inl h ↦ (let r = was.from k n h in (r.0, (r.1.0, omega (arith, r.1.1), r.1.2)))
      | inr h ↦ subst (λ (m : Node). IsNode c m × ((i : ℕ) × (i < t + 1) × StandsAt c order i m)) h.1 (is, (t, omega arith, at))
    ];
    to = λ i n lt e h. elim (cases_eq i t) [
      | inl eq ↦
          (let here : StandsAt c order t n = subst (λ (k : ℕ). StandsAt c order k n) eq e in
          let z : bit_count c.nets + part_place c x ≡ bit_count c.nets + part_place c n = same order t (bit_count c.nets + part_place c x) (bit_count c.nets + part_place c n) at here in
          let y : x ≡ n = place_once c x n (node_part c x is) (node_part c n h) (omega (arith, z)) in
          (length nodes, subst (λ (m : Node). slice_get (nodes ++ x ∷ []) (length nodes) ≡ Some m) y (last nodes x)))
      | inr ne ↦ (let r = was.to i n (omega (arith, lt, ne)) e h in (r.0, kept nodes (x ∷ []) r.0 n r.1))
    ];
    rise = λ k l i j n m p q a b lt. elim (pushed nodes x l m q) [
      | inl y ↦ elim (pushed nodes x k n p) [
        | inl z ↦ was.rise k l i j n m z y a b lt
        | inr z ↦ absurd (let h = within nodes l m y in omega (arith, h, z.0, lt))
      ]
      | inr y ↦ elim (pushed nodes x k n p) [
        | inl z ↦
            (let r = was.from k n z in
            let e : i ≡ r.1.0 = single i r.1.0 (bit_count c.nets + part_place c n) a r.1.2 in
            let f : j ≡ t = single j t (bit_count c.nets + part_place c m) b (subst (λ (u : Node). StandsAt c order t u) y.1 at) in
            omega (arith, e, f, r.1.1))
        | inr z ↦ absurd (omega (arith, y.0, z.0, lt))
      ]
    ];
  }

  -- ---- when all vertices are listed

  pub nodes_single : (k l : ℕ) (n : Node) → slice_get nodes k ≡ Some n → slice_get nodes l ≡ Some n → k ≡ l
  nodes_single k l n p q = elim (cases_lt k l) [
    | inl lt ↦ absurd (let r = was.from k n p in let h = was.rise k l r.1.0 r.1.0 n n p q r.1.2 r.1.2 lt in omega (arith, h))
    | inr le ↦ elim (cases_lt l k) [
      | inl lt ↦ absurd (let r = was.from k n p in let h = was.rise l k r.1.0 r.1.0 n n q p r.1.2 r.1.2 lt in omega (arith, h))
      | inr ge ↦ omega (arith, le, ge)
    ]
  ]

  -- a node that stands earlier in the order is one of those before
  pub behind_node : (k i j : ℕ) (n m : Node) → slice_get nodes k ≡ Some n → StandsAt c order i n → StandsAt c order j m → IsNode c m → j < i → i < t → IsAmong nodes k m
  behind_node k i j n m p a b is lt inside =
      let r = was.to j m (omega (arith, lt, inside)) b is in
      elim (cases_lt r.0 k) [
        | inl less ↦ (r.0, less, r.1)
        | inr le ↦ elim (cases_lt k r.0) [
          | inl more ↦ absurd (let h = was.rise k r.0 i j n m p r.1 a b more in omega (arith, h, lt))
          | inr ge ↦ absurd
              (let e : k ≡ r.0 = omega (arith, le, ge) in
              let z : n ≡ m = same nodes r.0 n m (subst (λ (u : ℕ). slice_get nodes u ≡ Some n) e p) r.1 in
              let h : i ≡ j = single i j (bit_count c.nets + part_place c m) (subst (λ (u : Node). StandsAt c order i u) z a) b in
              omega (arith, h, lt))
        ]
      ]
