-- Entries that are added one by one, none twice.
use Rattle.std.proofs.Common.{◌≡◌, ℕ, ◌+◌, ◌<◌, ◌≤◌, ◌⊎◌, List, [], ◌∷◌, ◌++◌, length, take, set, refl, sym, ◌∙◌, ap, subst, arith, inl, inr, Some, length-set, add-one}
use Rattle.std.specs.Prelude.{slice_get, slice_index}
use Rattle.std.proofs.lemmas.Bool.{cases_eq}
use Rattle.std.proofs.lemmas.List.{get_or-set_other, get_or-set_same}
use Rattle.eval_plan.specs.TableInvariants.{AreNoted, Grows, IsLast, Noted, Stands, nobody, entry}
use Rattle.driver_check.specs.Numbers.{IsIn}
use Rattle.driver_check.specs.Search.{Needs}
use Rattle.eval_plan.specs.declared.entries.Entry.{Entry}
use Rattle.driver_check.specs.declared.graph.Span.{Span}
use Rattle.driver_check.proofs.Places.{kept, last, pushed, within}
use Rattle.driver_check.proofs.Linked.{needs_either, needs_left, needs_one, needs_right, one_needs}
use Rattle.eval_plan.proofs.Tabled.{take_next}

-- ---- one more entry

stands_kept : (es : List Entry) (e : Entry) (r k : ℕ) → Stands es r k → Stands (es ++ e ∷ []) r k
stands_kept es e r k h = (h.0, kept es (e ∷ []) h.0 (entry r k) h.1)

stands_either : (es : List Entry) (row value r k : ℕ) → Stands (es ++ entry row value ∷ []) r k → Stands es r k ⊎ ((r ≡ row) × (k ≡ value))
stands_either es row value r k h = elim (pushed es (entry row value) h.0 (entry r k) h.1) [
  | inl x ↦ inl (h.0, x)
  | inr x ↦ inr (sym (ap (λ (e : Entry). e.row) x.1), sym (ap (λ (e : Entry). e.value) x.1))
]

stands_at : (es : List Entry) (row value r k : ℕ) → r ≡ row → k ≡ value → Stands es row value → Stands es r k
stands_at es row value r k e f h = subst (λ (n : ℕ). Stands es n k) (sym e) (subst (λ (n : ℕ). Stands es row n) (sym f) h)

pub no_notes : (es : List Entry) (lasts : List ℕ) → es ≡ [] → ((r : ℕ) → r < length lasts → slice_index lasts r ≡ nobody) → AreNoted es lasts 0
no_notes es lasts none at = record {
  inside = λ i e h. absurd (nothing i e h);
  rise = λ r i j v w h g lt. absurd (nothing i (entry r v) h);
  most = λ r k h. absurd (nothing h.0 (entry r k) h.1);
  last = λ r lt. inl (at r lt, λ k h. nothing h.0 (entry r k) h.1);
}
  where
    nothing : (i : ℕ) (e : Entry) → slice_get es i ≡ Some e → ⊥
    nothing i e h = let z = within es i e h in let l = ap length none in omega (arith, z, l)

pub notes_below : (es : List Entry) (lasts : List ℕ) (b d : ℕ) → b ≤ d → AreNoted es lasts b → AreNoted es lasts d
notes_below es lasts b d le are = record {
  inside = are.inside;
  rise = are.rise;
  most = λ r k h. (let m = are.most r k h in omega (arith, m, le));
  last = are.last;
}

module _ (es : List Entry) (lasts : List ℕ) (row value : ℕ) (are : AreNoted es lasts value) (low : row < length lasts) where
  pub grows_none : value < nobody → slice_index lasts row ≡ value → Grows es es (λ r k. (r ≡ row) × (k ≡ value))
  grows_none less is = record {
    kept = λ r k h. h;
    added = λ r k h. stands_at es row value r k h.0 h.1 there;
    only = λ r k h. inl h;
  }
    where
      there : Stands es row value
      there = elim (are.last row low) [
        | inl n ↦ absurd (omega (arith, n.0, is, less))
        | inr s ↦ subst (λ (n : ℕ). Stands es row n) is s.0
      ]

  abbrev more : List Entry
  more = es ++ entry row value ∷ []

  pub grows_one : Grows es more (λ r k. (r ≡ row) × (k ≡ value))
  grows_one = record {
    kept = λ r k h. stands_kept es (entry row value) r k h;
    added = λ r k h. stands_at more row value r k h.0 h.1 (length es, last es (entry row value));
    only = λ r k h. stands_either es row value r k h;
  }

  module _ (other : slice_index lasts row ≡ value → ⊥) where
    fresh : Stands es row value → ⊥
    fresh h = elim (are.last row low) [
      | inl n ↦ n.1 value h
      | inr s ↦ (let a = s.1 value h in let b = are.most row (slice_index lasts row) s.0 in other (omega (arith, a, b)))
    ]

    rise_more : (r i j v w : ℕ) → slice_get more i ≡ Some (entry r v) → slice_get more j ≡ Some (entry r w) → i < j → v < w
    rise_more r i j v w p q lt = elim (pushed es (entry row value) j (entry r w) q) [
      | inl y ↦ elim (pushed es (entry row value) i (entry r v) p) [
        | inl x ↦ are.rise r i j v w x y lt
        | inr x ↦ absurd (let h = within es j (entry r w) y in omega (arith, h, x.0, lt))
      ]
      | inr y ↦ elim (pushed es (entry row value) i (entry r v) p) [
        | inl x ↦
            (let same_row : row ≡ r = ap (λ (e : Entry). e.row) y.1 in
            let same_value : value ≡ w = ap (λ (e : Entry). e.value) y.1 in
            let most = are.most r v (i, x) in
            let differs : v ≡ value → ⊥ = λ z. fresh (stands_at es r v row value same_row (sym z) (i, x)) in
            omega (arith, most, differs, same_value))
        | inr x ↦ absurd (omega (arith, x.0, y.0, lt))
      ]
    ]

    most_more : (r k : ℕ) → Stands more r k → k ≤ value
    most_more r k h = elim (stands_either es row value r k h) [
      | inl x ↦ are.most r k x
      | inr x ↦ omega (arith, x.1)
    ]

    last_else : (r : ℕ) → (r ≡ row → ⊥) → (v : ℕ) → IsLast es r v → IsLast more r v
    last_else r ne v is = elim is [
      | inl n ↦ inl (
        n.0,
        λ k h. elim (stands_either es row value r k h) [
          | inl x ↦ n.1 k x
          | inr x ↦ ne x.0
        ],
      )
      | inr s ↦ inr (
        stands_kept es (entry row value) r v s.0,
        λ k h. elim (stands_either es row value r k h) [
          | inl x ↦ s.1 k x
          | inr x ↦ absurd (ne x.0)
        ],
      )
    ]

    last_more : (r : ℕ) → r < length lasts → IsLast more r (slice_index (set lasts row value) r)
    last_more r lt = elim (cases_eq r row) [
      | inl y ↦
          (let e : slice_index (set lasts row value) r ≡ value = ap (λ (n : ℕ). slice_index (set lasts row value) n) y ∙ get_or-set_same lasts row value 0 low in
          subst (λ (v : ℕ). IsLast more r v) (sym e) (inr (grows_one.added r value (y, refl), most_more r)))
      | inr n ↦
          subst (λ (v : ℕ). IsLast more r v) (sym (get_or-set_other lasts row r value 0 n)) (last_else r n (slice_index lasts r) (are.last r lt))
    ]

    pub noted_one : AreNoted more (set lasts row value) value
    noted_one = record {
      inside = λ i e h. elim (pushed es (entry row value) i e h) [
        | inl x ↦ (let l = are.inside i e x in omega (arith, l, length-set lasts row value))
        | inr x ↦ (let z : row ≡ e.row = ap (λ (f : Entry). f.row) x.1 in omega (arith, z, low, length-set lasts row value))
      ];
      rise = rise_more;
      most = most_more;
      last = λ r lt. last_more r (omega (arith, lt, length-set lasts row value));
    }

-- ---- growth by growth

pub grows_same : (p q : ℕ → ℕ → Type 0) (a b : List Entry) → Grows a b p → ((r k : ℕ) → p r k → q r k) → ((r k : ℕ) → q r k → p r k) → Grows a b q
grows_same p q a b g to from = record {
  kept = g.kept;
  added = λ r k h. g.added r k (from r k h);
  only = λ r k h. elim (g.only r k h) [
    | inl x ↦ inl x
    | inr x ↦ inr (to r k x)
  ];
}

pub grows_on : (p q s : ℕ → ℕ → Type 0) (a b d : List Entry) → Grows a b p → Grows b d q → ((r k : ℕ) → s r k → p r k ⊎ q r k) → ((r k : ℕ) → p r k → s r k) → ((r k : ℕ) → q r k → s r k) → Grows a d s
grows_on p q s a b d g h split left right = record {
  kept = λ r k x. h.kept r k (g.kept r k x);
  added = λ r k x. elim (split r k x) [
    | inl y ↦ h.kept r k (g.added r k y)
    | inr y ↦ h.added r k y
  ];
  only = λ r k x. elim (h.only r k x) [
    | inl y ↦ elim (g.only r k y) [
      | inl z ↦ inl z
      | inr z ↦ inr (left r k z)
    ]
    | inr y ↦ inr (right r k y)
  ];
}

noted_to : (p q : ℕ → Type 0) (holders : List ℕ) (value : ℕ) → ((w : ℕ) → p w → q w) → (r k : ℕ) → Noted p holders value r k → Noted q holders value r k
noted_to p q holders value to r k h = (h.0, (h.1.0, to h.1.0 h.1.1, h.1.2))

pub noted_on : (p q s : ℕ → Type 0) (holders : List ℕ) (value : ℕ) (a b d : List Entry) → Grows a b (Noted p holders value) → Grows b d (Noted q holders value)
    → ((w : ℕ) → s w → p w ⊎ q w) → ((w : ℕ) → p w → s w) → ((w : ℕ) → q w → s w) → Grows a d (Noted s holders value)
noted_on p q s holders value a b d g h split left right =
    grows_on (Noted p holders value) (Noted q holders value) (Noted s holders value) a b d g h
    (λ r k x. elim (split x.1.0 x.1.1) [
      | inl y ↦ inl (x.0, (x.1.0, y, x.1.2))
      | inr y ↦ inr (x.0, (x.1.0, y, x.1.2))
    ])
    (noted_to p s holders value left) (noted_to q s holders value right)

pub noted_none : (p : ℕ → Type 0) (holders : List ℕ) (value : ℕ) (a : List Entry) → ((w : ℕ) → p w → ⊥) → Grows a a (Noted p holders value)
noted_none p holders value a none = record {
  kept = λ r k h. h;
  added = λ r k h. absurd (none h.1.0 h.1.1);
  only = λ r k h. inl h;
}

pub noted_same : (p q : ℕ → Type 0) (holders : List ℕ) (value : ℕ) (a b : List Entry) → Grows a b (Noted p holders value) → ((w : ℕ) → p w → q w) → ((w : ℕ) → q w → p w) → Grows a b (Noted q holders value)
noted_same p q holders value a b g to from = grows_same (Noted p holders value) (Noted q holders value) a b g (noted_to p q holders value to) (noted_to q p holders value from)

-- ---- a bit, a span, a row

pub bit_unheld : (holders : List ℕ) (number value : ℕ) (a : List Entry) → slice_index holders number ≡ nobody → Grows a a (Noted (λ w. w ≡ number) holders value)
bit_unheld holders number value a none = record {
  kept = λ r k h. h;
  added = λ r k h. absurd (h.1.2.1 (sym h.1.2.0 ∙ ap (λ (w : ℕ). slice_index holders w) h.1.1 ∙ none));
  only = λ r k h. inl h;
}

pub bit_held : (holders : List ℕ) (number value : ℕ) (a b : List Entry) (root : ℕ) → slice_index holders number ≡ root → (root ≡ nobody → ⊥) → Grows a b (λ r k. (r ≡ root) × (k ≡ value)) → Grows a b (Noted (λ w. w ≡ number) holders value)
bit_held holders number value a b root is some g =
    grows_same (λ r k. (r ≡ root) × (k ≡ value)) (Noted (λ w. w ≡ number) holders value) a b g
    (λ r k h. (h.1, (number, refl, (is ∙ sym h.0, λ e. some (sym h.0 ∙ e)))))
    (λ r k h. (sym h.1.2.0 ∙ ap (λ (w : ℕ). slice_index holders w) h.1.1 ∙ is, h.0))

pub span_none : (first : ℕ) (w : ℕ) → IsIn first 0 w → ⊥
span_none first w h = omega (arith, h.0, h.1)

pub span_more : (first at : ℕ) (holders : List ℕ) (value : ℕ) (a b d : List Entry) → Grows a b (Noted (IsIn first at) holders value) → Grows b d (Noted (λ w. w ≡ first + at) holders value) → Grows a d (Noted (IsIn first (at + 1)) holders value)
span_more first at holders value a b d g h =
    noted_on (IsIn first at) (λ w. w ≡ first + at) (IsIn first (at + 1)) holders value a b d g h
    (λ w s. elim (cases_eq w (first + at)) [
      | inl e ↦ inr e
      | inr n ↦ inl (s.0, omega (arith, s.1, n))
    ])
    (λ w s. (s.0, omega (arith, s.1)))
    (λ w e. (omega (arith, e), omega (arith, e)))

pub row_more : (row : List Span) (i : ℕ) (s : Span) → slice_get row i ≡ Some s → (holders : List ℕ) (value : ℕ) (a b d : List Entry) → Grows a b (Noted (Needs (take i row)) holders value)
    → Grows b d (Noted (IsIn s.first s.width) holders value) → Grows a d (Noted (Needs (take (i + 1) row)) holders value)
row_more row i s at holders value a b d g h =
    let next : take (i + 1) row ≡ take i row ++ s ∷ [] = rw add-one (take_next row i s at) in
    subst (λ (l : List Span). Grows a d (Noted (Needs l) holders value)) (sym next)
    (noted_on (Needs (take i row)) (IsIn s.first s.width) (Needs (take i row ++ s ∷ [])) holders value a b d g h
    (λ w n. elim (needs_either (take i row) (s ∷ []) w n) [
      | inl x ↦ inl x
      | inr x ↦ inr (needs_one s w x)
    ])
    (λ w n. needs_left (take i row) (s ∷ []) w n)
    (λ w n. needs_right (take i row) (s ∷ []) w (one_needs s w n.0 n.1)))
