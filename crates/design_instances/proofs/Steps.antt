-- Lists that are gone through place by place.
use Rattle.std.proofs.Common.{◌≡◌, ℕ, zero, suc, ◌+◌, ◌<◌, List, [], ◌∷◌, ◌++◌, length, get_or, drop, take, drop-cons, add-one, flat_map, Some, refl, sym, ap, ◌∙◌, append-nil, append_assoc}
use Rattle.std.specs.Prelude.{slice_get}
use Rattle.rtlil_tree.specs.declared.module.Statement.{Statement}
use Rattle.design_instances.specs.Ports.{PortWires, ports_behind, with_statement}
pub use Rattle.design_parts.proofs.Runs.{says_fails}

-- the next place, as a successor
dropped : {X : Type 0} (xs : List X) (i : ℕ) (x : X) → slice_get xs i ≡ Some x → drop i xs ≡ x ∷ drop (suc i) xs
dropped [] i x e = cc e
dropped (y ∷ ys) zero x e = let same : Some y ≡ Some x = e in cc same
dropped (y ∷ ys) (suc i) x e = dropped ys i x e

pub drop_at : {X : Type 0} (xs : List X) (i : ℕ) (x : X) → slice_get xs i ≡ Some x → drop i xs ≡ x ∷ drop (i + 1) xs
drop_at xs i x e = rw add-one (dropped xs i x e)

taken : {X Y : Type 0} (f : X → List Y) (xs : List X) (i : ℕ) (x : X) → slice_get xs i ≡ Some x → flat_map f (take (suc i) xs) ≡ flat_map f (take i xs) ++ f x
taken f [] i x e = cc e
taken f (y ∷ ys) zero x e = let same : y ≡ x = (let some : Some y ≡ Some x = e in cc some) in append-nil (f y) ∙ ap f same
taken f (y ∷ ys) (suc i) x e = ap (λ zs. f y ++ zs) (taken f ys i x e) ∙ sym (append_assoc (f y) (flat_map f (take i ys)) (f x))

-- one more is taken
pub taken_more : {X Y : Type 0} (f : X → List Y) (xs : List X) (i : ℕ) (x : X) → slice_get xs i ≡ Some x → flat_map f (take (i + 1) xs) ≡ flat_map f (take i xs) ++ f x
taken_more f xs i x e = rw add-one (taken f xs i x e)

drop_item : {X : Type 0} (xs : List X) (i : ℕ) (x : X) → i < length xs → x ≡ get_or xs i x → drop i xs ≡ x ∷ drop (i + 1) xs
drop_item xs i x below e = rw (add-one, drop-cons xs i x) (ap (λ y. y ∷ drop (suc i) xs) (sym e))

pub ports_more : (earlier : PortWires) (all : List Statement) (i : ℕ) (s : Statement) → i < length all → s ≡ get_or all i s → ports_behind earlier (drop i all) ≡ ports_behind (with_statement earlier s) (drop (i + 1) all)
unfolding ports_behind
ports_more earlier all i s below is = ap (ports_behind earlier) (drop_item all i s below is)

pub ports_none : (earlier : PortWires) → ports_behind earlier [] ≡ earlier
unfolding ports_behind
ports_none earlier = refl
