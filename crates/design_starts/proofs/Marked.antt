-- Digits of nets, one after another.
use Rattle.std.proofs.Common.{◌≡◌, ℕ, zero, suc, ◌+◌, ◌≤◌, ◌<◌, min, replicate, length, map, arith, inl, inr, List, [], ◌∷◌, ◌++◌, drop, add-one, refl, ◌∙◌, ap, Option, Some}
use Rattle.std.proofs.lemmas.Bool.{cases_lt}
use Rattle.std.proofs.lemmas.List.{drop_all}
use Rattle.std.specs.Prelude.{slice_get}
use Rattle.circuit.specs.declared.netlist.Net.{Net}
use Rattle.rtlil_tree.specs.declared.sig.Const.{Const}
use Rattle.design_starts.specs.Marks.{marks_at, marks_below, marks_from, marks_on}

pub none_below : (net : ℕ) (k : Const) → marks_below net k 0 ≡ []
unfolding marks_below
none_below net k = refl

below_next : (net : ℕ) (k : Const) (bit : ℕ) → marks_below net k (suc bit) ≡ marks_below net k bit ++ marks_at net k bit
unfolding marks_below
below_next net k bit = refl

pub more_below : (net : ℕ) (k : Const) (bit : ℕ) → marks_below net k (bit + 1) ≡ marks_below net k bit ++ marks_at net k bit
more_below net k bit = rw add-one (below_next net k bit)

-- the next place, as a successor
dropped : {X : Type 0} (xs : List X) (i : ℕ) (x : X) → slice_get xs i ≡ Some x → drop i xs ≡ x ∷ drop (suc i) xs
dropped [] i x e = cc e
dropped (y ∷ ys) zero x e = let same : Some y ≡ Some x = e in cc same
dropped (y ∷ ys) (suc i) x e = dropped ys i x e

pub drop_at : {X : Type 0} (xs : List X) (i : ℕ) (x : X) → slice_get xs i ≡ Some x → drop i xs ≡ x ∷ drop (i + 1) xs
drop_at xs i x e = rw add-one (dropped xs i x e)

from_next : (net : ℕ) (x : Net) (xs : List Net) (init : Option Const) (inits : List (Option Const)) → marks_from net (x ∷ xs) (init ∷ inits) ≡ marks_on net x.width init ++ marks_from (suc net) xs inits
unfolding marks_from
from_next net x xs init inits = refl

next_net : (net : ℕ) (x : Net) (xs : List Net) (init : Option Const) (inits : List (Option Const)) → marks_from net (x ∷ xs) (init ∷ inits) ≡ marks_on net x.width init ++ marks_from (net + 1) xs inits
next_net net x xs init inits = rw add-one (from_next net x xs init inits)

pub marks_next : (nets : List Net) (inits : List (Option Const)) (net : ℕ) (x : Net) (init : Option Const) → slice_get nets net ≡ Some x → slice_get inits net ≡ Some init
    → marks_from net (drop net nets) (drop net inits) ≡ marks_on net x.width init ++ marks_from (net + 1) (drop (net + 1) nets) (drop (net + 1) inits)
marks_next nets inits net x init n i =
    ap (λ (xs : List Net). marks_from net xs (drop net inits)) (drop_at nets net x n)
    ∙ ap (λ (is : List (Option Const)). marks_from net (x ∷ drop (net + 1) nets) is) (drop_at inits net init i)
    ∙ next_net net x (drop (net + 1) nets) init (drop (net + 1) inits)

no_nets : (net : ℕ) (inits : List (Option Const)) → marks_from net [] inits ≡ []
unfolding marks_from
no_nets net inits = refl

no_inits : (net : ℕ) (nets : List Net) → marks_from net nets [] ≡ []
unfolding marks_from
no_inits net [] = refl
no_inits net (x ∷ xs) = refl

-- behind the last net or the last constant
pub marks_end : (nets : List Net) (inits : List (Option Const)) (net : ℕ) → min (length nets) (length inits) ≤ net → marks_from net (drop net nets) (drop net inits) ≡ []
marks_end nets inits net past = elim (cases_lt net (length nets)) [
  | inl lt ↦
      ap (λ (is : List (Option Const)). marks_from net (drop net nets) is) (drop_all net inits (omega (arith, past, lt)))
      ∙ no_inits net (drop net nets)
  | inr le ↦
      ap (λ (xs : List Net). marks_from net xs (drop net inits)) (drop_all net nets le)
      ∙ no_nets net (drop net inits)
]

pub mapped : {X Y : Type 0} (f : X → Y) (xs : List X) (i : ℕ) (x : X) → slice_get xs i ≡ Some x → slice_get (map f xs) i ≡ Some (f x)
mapped f [] i x e = cc e
mapped f (y ∷ ys) zero x e = let same : Some y ≡ Some x = e in let z : y ≡ x = cc same in ap (λ (v : _). Some (f v)) z
mapped f (y ∷ ys) (suc i) x e = mapped f ys i x e

pub replicated : {X : Type 0} (n i : ℕ) (x : X) → i < n → slice_get (replicate n x) i ≡ Some x
replicated zero i x lt = absurd (omega (arith, lt))
replicated (suc n) zero x lt = refl
replicated (suc n) (suc i) x lt = replicated n i x (omega (arith, lt))
