-- Lists of what has a name, while an instance adds to them whose names begin with a path.
use Rattle.std.proofs.Common.{◌≡◌, ℕ, List, [], ◌∷◌, ◌++◌, append_assoc, length, true, Some, sym, ap, ◌∙◌, subst, ◌⊎◌, inl, inr}
use Rattle.std.specs.Prelude.{slice_get}
use Rattle.rtlil_names.specs.Names.{has_no_space}
use Rattle.design_valid_names.proofs.Adding.{AreApart, apart_more, old_or_last}
use Rattle.design_valid_names.proofs.Spaces.{Begins, Mine, begins_within, mine_begins, mine_more, new_branch, new_leaf}

-- something stood in a list
abbrev pub Stood : {X : Type 0} → List X → X → Type 0
Stood {X} start x = (n : ℕ) × (slice_get start n ≡ Some x)

-- no name begins with a text
abbrev pub AreOthers : {X : Type 0} → (X → List ℕ) → List ℕ → List X → Type 0
AreOthers {X} name_of front xs = (n : ℕ) (x : X) → slice_get xs n ≡ Some x → Begins front (name_of x) → ⊥

-- names that differ, of what stood before, or of the instance's own
pub record Owns {X : Type 0} (name_of : X → List ℕ) (front : List ℕ) (start : List X) (Leaf Branch : List ℕ → Type 0) (xs : List X) : Type 0 where
  pub apart : AreApart name_of xs
  pub each : (n : ℕ) (x : X) → slice_get xs n ≡ Some x → Stood start x ⊎ Mine front Leaf Branch (name_of x)

-- what is left of this when the instance is left
pub record Left {X : Type 0} (name_of : X → List ℕ) (front : List ℕ) (start xs : List X) : Type 0 where
  pub apart : AreApart name_of xs
  pub each : (n : ℕ) (x : X) → slice_get xs n ≡ Some x → Stood start x ⊎ Begins front (name_of x)

module _ {X : Type 0} (name_of : X → List ℕ) (front : List ℕ) (start : List X) where
  pub owns_at_first : (Leaf Branch : List ℕ → Type 0) → AreApart name_of start → Owns name_of front start Leaf Branch start
  owns_at_first Leaf Branch apart = record { apart = apart; each = λ n x e. inl (n, e) }

  pub owns_to_left : (Leaf Branch : List ℕ → Type 0) (xs : List X) → Owns name_of front start Leaf Branch xs → Left name_of front start xs
  owns_to_left Leaf Branch xs h = record { apart = h.apart; each = λ n x e. by x (h.each n x e) }
    where
      by : (x : X) → Stood start x ⊎ Mine front Leaf Branch (name_of x) → Stood start x ⊎ Begins front (name_of x)
      by x (inl s) = inl s
      by x (inr o) = inr (mine_begins front Leaf Branch (name_of x) o)

  module _ (Leaf Branch More Wider : List ℕ → Type 0) (f : (u : List ℕ) → Leaf u → More u) (g : (c : List ℕ) → Branch c → Wider c) where
    old : (x : X) → Stood start x ⊎ Mine front Leaf Branch (name_of x) → Stood start x ⊎ Mine front More Wider (name_of x)
    old x (inl s) = inl s
    old x (inr o) = inr (mine_more front Leaf Branch More Wider f g (name_of x) o)

    pub owns_more : (xs ys : List X) → ys ≡ xs → Owns name_of front start Leaf Branch xs → Owns name_of front start More Wider ys
    owns_more xs ys same h = record {
      apart = subst (AreApart name_of) (sym same) h.apart;
      each = λ k x e. old x (h.each k x (ap (λ (zs : List X). slice_get zs k) (sym same) ∙ e));
    }

    -- one more, whose name is the path and what is not taken
    pub owns_leaf : AreOthers name_of front start → (u : List ℕ) → has_no_space u ≡ true → (Leaf u → ⊥) → More u → (xs ys : List X) (new : X) → ys ≡ xs ++ new ∷ [] → name_of new ≡ front ++ u → Owns name_of front start Leaf Branch xs → Owns name_of front start More Wider ys
    owns_leaf others u text free taken xs ys new is name h = record {
      apart = subst (AreApart name_of) (sym is) (apart_more name_of xs new h.apart (λ k x e same. other x (h.each k x e) (same ∙ name)));
      each = λ k x e. sorted x (old_or_last xs new k x (ap (λ (zs : List X). slice_get zs k) (sym is) ∙ e)) (λ o. h.each k x o);
    }
      where
        other : (x : X) → Stood start x ⊎ Mine front Leaf Branch (name_of x) → name_of x ≡ front ++ u → ⊥
        other x (inl s) same = others s.0 x s.1 (u, same)
        other x (inr o) same = new_leaf front Leaf Branch u (name_of x) text free o same

        sorted : (x : X) {k : ℕ} → (slice_get xs k ≡ Some x) ⊎ ((k ≡ length xs) × (x ≡ new)) → (slice_get xs k ≡ Some x → Stood start x ⊎ Mine front Leaf Branch (name_of x)) → Stood start x ⊎ Mine front More Wider (name_of x)
        sorted x (inl o) one = old x (one o)
        sorted x (inr l) one = inr (inl (u, text, taken, ap name_of l.1 ∙ name))

    -- an instance in it, of which no name is there yet
    pub owns_branch : AreOthers name_of front start → (c : List ℕ) → has_no_space c ≡ true → (Branch c → ⊥) → Wider c → (xs ys : List X)
        → (AreOthers name_of ((front ++ c) ++ 32 ∷ []) xs → AreApart name_of xs → Left name_of ((front ++ c) ++ 32 ∷ []) xs ys) → Owns name_of front start Leaf Branch xs → Owns name_of front start More Wider ys
    owns_branch others c text free taken xs ys within h = let left = within (λ k x e b. other x (h.each k x e) b) h.apart in record { apart = left.apart; each = λ k x e. sorted x (left.each k x e) }
      where
        other : (x : X) → Stood start x ⊎ Mine front Leaf Branch (name_of x) → Begins ((front ++ c) ++ 32 ∷ []) (name_of x) → ⊥
        other x (inl s) b = others s.0 x s.1 (begins_within front c (name_of x) b)
        other x (inr mine) b = new_branch front Leaf Branch c (name_of x) text free mine b

        sorted : (x : X) → Stood xs x ⊎ Begins ((front ++ c) ++ 32 ∷ []) (name_of x) → Stood start x ⊎ Mine front More Wider (name_of x)
        sorted x (inl s) = old x (h.each s.0 x s.1)
        sorted x (inr b) = inr (inr (c, text, taken, b.0, b.1 ∙ append_assoc (front ++ c) (32 ∷ []) b.0 ∙ append_assoc front c (32 ∷ b.0)))
