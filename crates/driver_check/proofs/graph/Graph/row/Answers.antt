use Rattle.std.proofs.Common.{◌≡◌, ℕ, zero, suc, ◌+◌, ◌-◌, ◌<◌, ◌≤◌, List, [], ◌∷◌, length, take, drop, refl, sym, ◌∙◌, ap, arith, nat_lt}
use Rattle.std.specs.Prelude.{slice_get}
use Rattle.std.proofs.lemmas.Bool.{cond-true, cond-false, lt-ltb, le-ltb}
use Rattle.driver_check.specs.declared.graph.Span.{Span}
use Rattle.driver_check.specs.Search.{all_spans, one_span}
use Rattle.driver_check.proofs.Places.{read}
use Rattle.driver_check.proofs.graph.Graph.row.Goals as goal

one : (xs : List Span) (v : ℕ) → take (v + 1 - v) (drop v xs) ≡ one_span (slice_get xs v)
one xs v = ap (λ (n : ℕ). take n (drop v xs)) (let e : v + 1 - v ≡ 1 = omega arith in e) ∙ first xs v
  where
    first : (ys : List Span) (w : ℕ) → take 1 (drop w ys) ≡ one_span (slice_get ys w)
    first [] zero = refl
    first [] (suc w) = refl
    first (y ∷ ys) zero = refl
    first (y ∷ ys) (suc w) = first ys w

pub returns-then-vertex-bits : goal.returns-then-vertex-bits
returns-then-vertex-bits c =
    let bits = c.args.self.now.bits.items in
    let there : c.args.vertex < length bits = omega arith in
    ap (λ (xs : List Span). take (c.args.vertex + 1 - c.args.vertex) (drop c.args.vertex xs)) c.deref.ensures.value
    ∙ one bits c.args.vertex
    ∙ sym (cond-true (nat_lt c.args.vertex (length bits)) (one_span (slice_get bits c.args.vertex)) (all_spans (slice_get c.args.self.now.nodes.items (c.args.vertex - length bits))) (lt-ltb c.args.vertex (length bits) there))

pub returns-else-vertex-bits : goal.returns-else-vertex-bits
returns-else-vertex-bits c =
    let bits = c.args.self.now.bits.items in
    let nodes = c.args.self.now.nodes.items in
    let past : length bits ≤ c.args.vertex = omega arith in
    let same : c.args.vertex - c.len-bits.result ≡ c.args.vertex - length bits = omega arith in
    let at = read nodes (c.args.vertex - c.len-bits.result) c.index.result.now (omega arith) c.index.ensures in
    c.as_slice.ensures
    ∙ ap all_spans (sym at ∙ ap (slice_get nodes) same)
    ∙ sym (cond-false (nat_lt c.args.vertex (length bits)) (one_span (slice_get bits c.args.vertex)) (all_spans (slice_get nodes (c.args.vertex - length bits))) (le-ltb c.args.vertex (length bits) past))
