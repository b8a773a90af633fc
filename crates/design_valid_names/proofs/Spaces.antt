-- Identifiers without a space, behind what begins a path.
use Rattle.std.proofs.Common.{◌≡◌, ℕ, ◌==◌, not, List, [], ◌∷◌, ◌++◌, Bool, true, false, refl, sym, ap, ◌∙◌, subst, append_assoc, ◌⊎◌, inl, inr}
use Rattle.std.proofs.lemmas.Bool.{and_parts}
use Rattle.rtlil_names.specs.Names.{has_no_space}

abbrev head_or : ℕ → List ℕ → ℕ
head_or d [] = d
head_or d (x ∷ xs) = x

abbrev tail_of : List ℕ → List ℕ
tail_of [] = []
tail_of (x ∷ xs) = xs

pub cancel : (front xs ys : List ℕ) → front ++ xs ≡ front ++ ys → xs ≡ ys
cancel [] xs ys e = e
cancel (x ∷ front) xs ys e = cancel front xs ys (ap tail_of e)

no_more : (b : Bool) → not b ≡ true → b ≡ true → ⊥
no_more true h e = cc h
no_more false h e = cc e

-- a text without a space does not go on behind one
pub no_space_in : (u c r : List ℕ) → has_no_space u ≡ true → u ≡ c ++ 32 ∷ r → ⊥
no_space_in [] [] r h e = cc e
no_space_in [] (d ∷ c) r h e = cc e
no_space_in (x ∷ u) [] r h e =
    let space : x ≡ 32 = ap (head_or 0) e in
    no_more (x == 32) (and_parts (not (x == 32)) (has_no_space u) h).0 (ap (λ y. y == 32) space)
no_space_in (x ∷ u) (d ∷ c) r h e = no_space_in u c r (and_parts (not (x == 32)) (has_no_space u) h).1 (ap tail_of e)

-- what stands before the first space
pub same_before : (c d r s : List ℕ) → has_no_space c ≡ true → has_no_space d ≡ true → c ++ 32 ∷ r ≡ d ++ 32 ∷ s → c ≡ d
same_before [] [] r s f g e = refl
same_before [] (y ∷ d) r s f g e =
    let space : y ≡ 32 = sym (ap (head_or 0) e) in
    absurd (no_more (y == 32) (and_parts (not (y == 32)) (has_no_space d) g).0 (ap (λ z. z == 32) space))
same_before (x ∷ c) [] r s f g e =
    let space : x ≡ 32 = ap (head_or 0) e in
    absurd (no_more (x == 32) (and_parts (not (x == 32)) (has_no_space c) f).0 (ap (λ z. z == 32) space))
same_before (x ∷ c) (y ∷ d) r s f g e =
    let first : x ≡ y = ap (head_or 0) e in
    let rest = same_before c d r s (and_parts (not (x == 32)) (has_no_space c) f).1 (and_parts (not (y == 32)) (has_no_space d) g).1 (ap tail_of e) in
    ap (λ z. z ∷ c) first ∙ ap (λ zs. y ∷ zs) rest

-- ---- names in an instance

-- a name begins with a text
abbrev pub Begins : List ℕ → List ℕ → Type 0
Begins front name = (rest : List ℕ) × (name ≡ front ++ rest)

-- the name of an item of an instance whose names begin with a text: that of a wire or a memory, of which it is known that
-- they are taken, or one in an instance of which that is known
abbrev pub Mine : List ℕ → (List ℕ → Type 0) → (List ℕ → Type 0) → List ℕ → Type 0
Mine front Leaf Branch name =
    ((u : List ℕ) × (has_no_space u ≡ true) × Leaf u × (name ≡ front ++ u))
    ⊎ ((c : List ℕ) × (has_no_space c ≡ true) × Branch c × (r : List ℕ) × (name ≡ front ++ (c ++ 32 ∷ r)))

pub mine_begins : (front : List ℕ) (Leaf Branch : List ℕ → Type 0) (name : List ℕ) → Mine front Leaf Branch name → Begins front name
mine_begins front Leaf Branch name (inl l) = (l.0, l.3)
mine_begins front Leaf Branch name (inr b) = (b.0 ++ 32 ∷ b.3, b.4)

pub mine_more : (front : List ℕ) (Leaf Branch More Wider : List ℕ → Type 0) → ((u : List ℕ) → Leaf u → More u) → ((c : List ℕ) → Branch c → Wider c) → (name : List ℕ) → Mine front Leaf Branch name → Mine front More Wider name
mine_more front Leaf Branch More Wider f g name (inl l) = inl (l.0, l.1, f l.0 l.2, l.3)
mine_more front Leaf Branch More Wider f g name (inr b) = inr (b.0, b.1, g b.0 b.2, b.3, b.4)

-- a new wire or memory has a name of its own
pub new_leaf : (front : List ℕ) (Leaf Branch : List ℕ → Type 0) (u name : List ℕ) → has_no_space u ≡ true → (Leaf u → ⊥) → Mine front Leaf Branch name → name ≡ front ++ u → ⊥
new_leaf front Leaf Branch u name h new (inl l) e = new (subst Leaf (cancel front l.0 u (sym l.3 ∙ e)) l.2)
new_leaf front Leaf Branch u name h new (inr b) e = no_space_in u b.0 b.3 h (cancel front u (b.0 ++ 32 ∷ b.3) (sym e ∙ b.4))

-- no name begins with that of a new instance
pub new_branch : (front : List ℕ) (Leaf Branch : List ℕ → Type 0) (c name : List ℕ) → has_no_space c ≡ true → (Branch c → ⊥) → Mine front Leaf Branch name → Begins ((front ++ c) ++ 32 ∷ []) name → ⊥
new_branch front Leaf Branch c name h new mine begun = by mine
  where
    path : name ≡ front ++ (c ++ 32 ∷ begun.0)
    path = begun.1 ∙ append_assoc (front ++ c) (32 ∷ []) begun.0 ∙ append_assoc front c (32 ∷ begun.0)

    by : Mine front Leaf Branch name → ⊥
    by (inl l) = no_space_in l.0 c begun.0 l.1 (cancel front l.0 (c ++ 32 ∷ begun.0) (sym l.3 ∙ path))
    by (inr b) = new (subst Branch (same_before b.0 c b.3 begun.0 b.1 h (cancel front (b.0 ++ 32 ∷ b.3) (c ++ 32 ∷ begun.0) (sym b.4 ∙ path))) b.2)

-- what begins with a path in an instance begins with that of the instance
pub begins_within : (front c name : List ℕ) → Begins ((front ++ c) ++ 32 ∷ []) name → Begins front name
begins_within front c name begun = (c ++ 32 ∷ begun.0, begun.1 ∙ append_assoc (front ++ c) (32 ∷ []) begun.0 ∙ append_assoc front c (32 ∷ begun.0))
