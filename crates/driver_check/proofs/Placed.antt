-- The places of cells and read ports.
use Rattle.std.proofs.Common.{◌≡◌, ℕ, ◌+◌, ◌<◌, List, [], ◌∷◌, ◌++◌, length, sym, ◌∙◌, ap, subst, arith, inl, inr, Some}
use Rattle.std.specs.Prelude.{slice_get}
use Rattle.std.proofs.lemmas.Bool.{cases_lt}
use Rattle.circuit.specs.declared.netlist.Circuit.{Circuit}
use Rattle.driver_check.specs.Numbers.{before, read_count}
use Rattle.driver_check.specs.Nodes.{ArePlaced, IsPart, part_place}
use Rattle.driver_check.specs.declared.parts.Node.{Node}
use Rattle.driver_check.specs.declared.parts.Node.TheVariants as node
use Rattle.driver_check.proofs.Places.{found, pushed, within}
use Rattle.driver_check.proofs.Numbered.{before_later}

-- a part of a part is that of one part alone
pub part_once : {X : Type 0} (size : X → ℕ) (xs : List X) (n m i j : ℕ) (x y : X) → slice_get xs n ≡ Some x → slice_get xs m ≡ Some y → i < size x → j < size y → before size xs n + i ≡ before size xs m + j → (n ≡ m) × (i ≡ j)
part_once size xs n m i j x y p q a b e = elim (cases_lt n m) [
  | inl lt ↦ absurd (let h = before_later size xs n m x p lt in omega (arith, h, a, e))
  | inr le ↦ elim (cases_lt m n) [
    | inl lt ↦ absurd (let h = before_later size xs m n y q lt in omega (arith, h, b, e))
    | inr ge ↦
        (let z : n ≡ m = omega (arith, le, ge) in
        let h : before size xs n ≡ before size xs m = ap (before size xs) z in
        (z, omega (arith, h, e)))
  ]
]

-- each part has a place of its own
pub place_once : (c : Circuit) (n k : Node) → IsPart c n → IsPart c k → part_place c n ≡ part_place c k → n ≡ k
place_once c (node.Cell n) (node.Cell k) a b e = ap (λ (x : ℕ). node.Cell x) e
place_once c (node.Cell n) (node.Read m k) a b e = absurd (omega (arith, a, e))
place_once c (node.Read m n) (node.Cell k) a b e = absurd (omega (arith, b, e))
place_once c (node.Read m n) (node.Read l k) a b e =
    let h : before read_count c.mems m + n ≡ before read_count c.mems l + k = omega (arith, e) in
    let s = part_once read_count c.mems m l n k a.0 b.0 a.1 b.1 a.2 b.2 h in
    ap (λ (x : ℕ). node.Read x n) s.0 ∙ ap (λ (x : ℕ). node.Read l x) s.1

pub place_below : (c : Circuit) (n : Node) → IsPart c n → part_place c n < length c.cells + before read_count c.mems (length c.mems)
place_below c (node.Cell n) a = omega (arith, a)
place_below c (node.Read m n) a =
    let h = before_later read_count c.mems m (length c.mems) a.0 a.1 (within c.mems m a.0 a.1) in
    omega (arith, h, a.2)

-- a part comes behind those that are placed
pub placed_more : (c : Circuit) (nodes : List Node) (n : Node) → ArePlaced c nodes → IsPart c n → part_place c n ≡ length nodes → ArePlaced c (nodes ++ n ∷ [])
placed_more c nodes n were part at k m e = elim (pushed nodes n k m e) [
  | inl a ↦ were k m a
  | inr a ↦ subst (λ (x : Node). IsPart c x × (part_place c x ≡ k)) a.1 (part, at ∙ sym a.0)
]

pub all_placed : (c : Circuit) (nodes : List Node) → ArePlaced c nodes → length nodes ≡ length c.cells + before read_count c.mems (length c.mems) → (n : Node) → IsPart c n → slice_get nodes (part_place c n) ≡ Some n
all_placed c nodes are long n part =
    let there = found nodes (part_place c n) (let h = place_below c n part in omega (arith, h, long)) in
    let at = are (part_place c n) there.0 there.1 in
    there.1 ∙ ap (λ (x : Node). Some x) (place_once c there.0 n at.0 part at.1)
