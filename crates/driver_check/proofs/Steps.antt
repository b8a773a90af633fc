-- The steps of a depth-first search keep what it knows.
use Rattle.std.proofs.Common.{◌≡◌, ◌≢◌, ℕ, zero, suc, ◌+◌, ◌<◌, ◌≤◌, ◌⊎◌, List, [], ◌∷◌, ◌++◌, length, set, replicate, refl, sym, ◌∙◌, ap, subst, arith, inl, inr, Some, length-append}
use Rattle.std.proofs.lemmas.Bool.{cases_eq}
use Rattle.std.specs.Prelude.{slice_get}
use Rattle.driver_check.specs.declared.graph.Span.{Span}
use Rattle.driver_check.specs.declared.search.Mark.{Mark}
use Rattle.driver_check.specs.declared.search.Mark.TheVariants as mark
use Rattle.driver_check.specs.declared.search.Frame.{Frame}
use Rattle.driver_check.specs.Invariants.{AreFramesInside, IsNoNewer, IsSearch, WasSeen}
use Rattle.driver_check.specs.Search.{Has, IsSorted, Needs, Rows}
use Rattle.driver_check.proofs.Places.{found, within, same, kept, last, pushed, set_same, set_other, was_set}

two_marks : (marks : List Mark) (v : ℕ) (m n : Mark) → Has marks m v → Has marks n v → m ≡ n
two_marks marks v m n p q = same marks v m n p q

abbrev pub new_frame : ℕ → Frame
new_frame w = record { vertex = w; span = 0; offset = 0 }

-- what is seen at the start of a row is nothing
pub none_seen : (spans : List Span) (w : ℕ) → WasSeen spans 0 0 w → ⊥
none_seen spans w s = elim s.5 [
  | inl lt ↦ absurd (omega (arith, lt))
  | inr h ↦ absurd (omega (arith, h.1, s.3))
]

-- what is seen one place further
pub one_more : (spans : List Span) (at offset w : ℕ) (s : Span) → slice_get spans at ≡ Some s → WasSeen spans at (offset + 1) w → WasSeen spans at offset w ⊎ (w ≡ s.first + offset)
one_more spans at offset w s is seen = elim seen.5 [
  | inl lt ↦ inl (seen.0, seen.1, seen.2, seen.3, seen.4, inl lt)
  | inr h ↦ elim (cases_eq w (s.first + offset)) [
    | inl e ↦ inr e
    | inr ne ↦
        (let z : seen.1 ≡ s = same spans at seen.1 s (subst (λ (n : ℕ). slice_get spans n ≡ Some seen.1) h.0 seen.2) is in
        let f : seen.1.first ≡ s.first = ap (λ (x : Span). x.first) z in
        inl (seen.0, seen.1, seen.2, seen.3, seen.4, inr (h.0, omega (arith, h.1, ne, f))))
  ]
]

-- what is seen before the next span
pub span_more : (spans : List Span) (at offset w : ℕ) (s : Span) → slice_get spans at ≡ Some s → s.width ≤ offset → WasSeen spans (at + 1) 0 w → WasSeen spans at offset w
span_more spans at offset w s is full seen = elim seen.5 [
  | inl lt ↦ elim (cases_eq seen.0 at) [
    | inl e ↦
        (let z : seen.1 ≡ s = same spans at seen.1 s (subst (λ (n : ℕ). slice_get spans n ≡ Some seen.1) e seen.2) is in
        let f : seen.1.width ≡ s.width = ap (λ (x : Span). x.width) z in
        (seen.0, seen.1, seen.2, seen.3, seen.4, inr (e, omega (arith, seen.4, full, f))))
    | inr ne ↦ (seen.0, seen.1, seen.2, seen.3, seen.4, inl (omega (arith, lt, ne)))
  ]
  | inr h ↦ absurd (omega (arith, h.1, seen.3))
]

-- behind the last span all is seen
pub all_seen : (spans : List Span) (at offset w : ℕ) → length spans ≤ at → Needs spans w → WasSeen spans at offset w
all_seen spans at offset w past need = (need.0, need.1, need.2, need.3, need.4, inl (omega (arith, within spans need.0 need.1 need.2, past)))

-- what stands above an element
above : (xs : List Frame) (x : Frame) (i : ℕ) (y : Frame) → slice_get xs i ≡ Some y → (h : Frame) × (slice_get (xs ++ x ∷ []) (suc i) ≡ Some h)
above [] x i y p = cc p
above (z ∷ []) x zero y p = (x, refl)
above (z ∷ []) x (suc i) y p = cc p
above (z ∷ u ∷ xs) x zero y p = (u, refl)
above (z ∷ u ∷ xs) x (suc i) y p = above (u ∷ xs) x i y p

module _ (row : Rows) (marks : List Mark) (order : List ℕ) (rest : List Frame) (f : Frame) (was : IsSearch row marks order (rest ++ f ∷ [])) where
  abbrev stack : List Frame
  stack = rest ++ f ∷ []

  top : Has marks mark.Open f.vertex
  top = was.frames (length rest) f (last rest f)

  below : (k : ℕ) (g : Frame) → slice_get rest k ≡ Some g → Has marks mark.Open g.vertex
  below k g e = was.frames k g (kept rest (f ∷ []) k g e)

  -- the top is no vertex below it
  alone : (k : ℕ) (g : Frame) → slice_get rest k ≡ Some g → g.vertex ≢ f.vertex
  alone k g e v =
      let i : k ≡ length rest = was.apart k (length rest) g f (kept rest (f ∷ []) k g e) (last rest f) v in
      absurd (omega (arith, i, within rest k g e))

  -- the next vertex that the top needs is looked at
  pub moved : (h : Frame) → h.vertex ≡ f.vertex → ((w : ℕ) → WasSeen (row h.vertex) h.span h.offset w → Has marks mark.Done w) → IsSearch row marks order (rest ++ h ∷ [])
  moved h v sees = record {
    order_done = was.order_done;
    done_order = was.done_order;
    single = was.single;
    ready = was.ready;
    stuck = was.stuck;
    entered = λ u o.
        let e = was.entered u o in
        elim (pushed rest f e.0 e.1 e.2) [
          | inl g ↦ (e.0, e.1, kept rest (h ∷ []) e.0 e.1 g, e.3)
          | inr g ↦ (length rest, h, last rest h, v ∙ ap (λ (x : Frame). x.vertex) g.1 ∙ e.3)
        ];
    frames = λ k g e. elim (pushed rest h k g e) [
      | inl a ↦ below k g a
      | inr a ↦ subst (λ (u : ℕ). Has marks mark.Open u) (sym v ∙ ap (λ (x : Frame). x.vertex) a.1) top
    ];
    apart = λ i j a b p q e. elim (pushed rest h i a p) [
      | inl x ↦ elim (pushed rest h j b q) [
        | inl y ↦ was.apart i j a b (kept rest (f ∷ []) i a x) (kept rest (f ∷ []) j b y) e
        | inr y ↦ absurd (alone i a x (e ∙ sym (ap (λ (z : Frame). z.vertex) y.1) ∙ v))
      ]
      | inr x ↦ elim (pushed rest h j b q) [
        | inl y ↦ absurd (alone j b y (sym e ∙ sym (ap (λ (z : Frame). z.vertex) x.1) ∙ v))
        | inr y ↦ x.0 ∙ sym y.0
      ]
    ];
    links = λ k a b p q. elim (pushed rest h (suc k) b q) [
      | inl y ↦ elim (pushed rest h k a p) [
        | inl x ↦ was.links k a b (kept rest (f ∷ []) k a x) (kept rest (f ∷ []) (suc k) b y)
        | inr x ↦ absurd (omega (arith, x.0, within rest (suc k) b y))
      ]
      | inr y ↦ elim (pushed rest h k a p) [
        | inl x ↦
            (let at : slice_get (rest ++ f ∷ []) (suc k) ≡ Some f = subst (λ (n : ℕ). slice_get (rest ++ f ∷ []) n ≡ Some f) (sym y.0) (last rest f) in
            subst (λ (u : ℕ). Needs (row a.vertex) u) (sym v ∙ ap (λ (z : Frame). z.vertex) y.1) (was.links k a f (kept rest (f ∷ []) k a x) at))
        | inr x ↦ absurd (omega (arith, x.0, y.0))
      ]
    ];
    seen = λ k w g e s. elim (pushed rest h k g e) [
      | inl a ↦ was.seen k w g (kept rest (f ∷ []) k g a) s
      | inr a ↦ sees w (subst (λ (x : Frame). WasSeen (row x.vertex) x.span x.offset w) (sym a.1) s)
    ];
  }

  -- all that the top needs is done
  pub finished : ((w : ℕ) → Needs (row f.vertex) w → Has marks mark.Done w) → IsSearch row (set marks f.vertex mark.Done) (order ++ f.vertex ∷ []) rest
  finished all = record {
    order_done = λ i v e. elim (pushed order f.vertex i v e) [
      | inl a ↦ keep_done v (was.order_done i v a)
      | inr a ↦ subst (λ (u : ℕ). Has (set marks f.vertex mark.Done) mark.Done u) a.1 (set_same marks f.vertex mark.Done inside)
    ];
    done_order = λ v d. elim (was_set marks f.vertex v mark.Done mark.Done d) [
      | inl a ↦ (length order, subst (λ (u : ℕ). slice_get (order ++ f.vertex ∷ []) (length order) ≡ Some u) (sym a.0) (last order f.vertex))
      | inr a ↦ (let o = was.done_order v a.1 in (o.0, kept order (f.vertex ∷ []) o.0 v o.1))
    ];
    single = λ i j v p q. elim (pushed order f.vertex i v p) [
      | inl a ↦ elim (pushed order f.vertex j v q) [
        | inl b ↦ was.single i j v a b
        | inr b ↦ absurd (not_done v (sym b.1) (was.order_done i v a))
      ]
      | inr a ↦ elim (pushed order f.vertex j v q) [
        | inl b ↦ absurd (not_done v (sym a.1) (was.order_done j v b))
        | inr b ↦ a.0 ∙ sym b.0
      ]
    ];
    ready = λ i v w p n. elim (pushed order f.vertex i v p) [
      | inl a ↦ (let r = was.ready i v w a n in (r.0, r.1, kept order (f.vertex ∷ []) r.0 w r.2))
      | inr a ↦
          (let d = was.done_order w (all w (subst (λ (u : ℕ). Needs (row u) w) (sym a.1) n)) in
          (d.0, (let lt : d.0 < length order = within order d.0 w d.1 in omega (arith, lt, a.0)), kept order (f.vertex ∷ []) d.0 w d.1))
    ];
    stuck = λ v s. elim (was_set marks f.vertex v mark.Done mark.Stuck s) [
      | inl a ↦ absurd (let e : mark.Stuck ≡ mark.Done = a.1 in cc e)
      | inr a ↦ (let r = was.stuck v a.1 in (r.0, r.1, keep_stuck r.0 r.2))
    ];
    entered = λ v o. elim (was_set marks f.vertex v mark.Done mark.Open o) [
      | inl a ↦ absurd (let e : mark.Open ≡ mark.Done = a.1 in cc e)
      | inr a ↦
          (let r = was.entered v a.1 in
          elim (pushed rest f r.0 r.1 r.2) [
            | inl g ↦ (r.0, r.1, g, r.3)
            | inr g ↦ absurd (a.0 (sym r.3 ∙ sym (ap (λ (z : Frame). z.vertex) g.1)))
          ])
    ];
    frames = λ k g e. set_other marks f.vertex g.vertex mark.Done (alone k g e) ∙ below k g e;
    apart = λ i j a b p q e. was.apart i j a b (kept rest (f ∷ []) i a p) (kept rest (f ∷ []) j b q) e;
    links = λ k a b p q. was.links k a b (kept rest (f ∷ []) k a p) (kept rest (f ∷ []) (suc k) b q);
    seen = λ k w g e s. keep_done w (was.seen k w g (kept rest (f ∷ []) k g e) s);
  }
    where
      inside : f.vertex < length marks
      inside = within marks f.vertex mark.Open top

      not_done : (v : ℕ) → v ≡ f.vertex → Has marks mark.Done v → ⊥
      not_done v e d = let z : mark.Done ≡ mark.Open = two_marks marks f.vertex mark.Done mark.Open (subst (λ (u : ℕ). Has marks mark.Done u) e d) top in cc z

      keep_done : (v : ℕ) → Has marks mark.Done v → Has (set marks f.vertex mark.Done) mark.Done v
      keep_done v d = set_other marks f.vertex v mark.Done (λ e. not_done v e d) ∙ d

      keep_stuck : (v : ℕ) → Has marks mark.Stuck v → Has (set marks f.vertex mark.Done) mark.Stuck v
      keep_stuck v d = set_other marks f.vertex v mark.Done (λ e. let z : mark.Stuck ≡ mark.Open = two_marks marks f.vertex mark.Stuck mark.Open (subst (λ (u : ℕ). Has marks mark.Stuck u) e d) top in cc z) ∙ d

  -- a new vertex that the top needs comes on the stack
  pub grown : (w : ℕ) → Needs (row f.vertex) w → Has marks mark.New w → IsSearch row (set marks w mark.Open) order (rest ++ f ∷ [] ++ new_frame w ∷ [])
  grown w need new = record {
    order_done = λ i v e. keep v mark.Done (λ z. cc z) (was.order_done i v e);
    done_order = λ v d. elim (was_set marks w v mark.Open mark.Done d) [
      | inl a ↦ absurd (let e : mark.Done ≡ mark.Open = a.1 in cc e)
      | inr a ↦ was.done_order v a.1
    ];
    single = was.single;
    ready = was.ready;
    stuck = λ v s. elim (was_set marks w v mark.Open mark.Stuck s) [
      | inl a ↦ absurd (let e : mark.Stuck ≡ mark.Open = a.1 in cc e)
      | inr a ↦ (let r = was.stuck v a.1 in (r.0, r.1, keep r.0 mark.Stuck (λ z. cc z) r.2))
    ];
    entered = λ v o. elim (was_set marks w v mark.Open mark.Open o) [
      | inl a ↦ (length stack, new_frame w, last stack (new_frame w), sym a.0)
      | inr a ↦ (let r = was.entered v a.1 in (r.0, r.1, kept stack (new_frame w ∷ []) r.0 r.1 r.2, r.3))
    ];
    frames = λ k g e. elim (pushed stack (new_frame w) k g e) [
      | inl a ↦ keep g.vertex mark.Open (λ z. cc z) (was.frames k g a)
      | inr a ↦ subst (λ (x : Frame). Has (set marks w mark.Open) mark.Open x.vertex) a.1 (set_same marks w mark.Open (within marks w mark.New new))
    ];
    apart = λ i j a b p q e. elim (pushed stack (new_frame w) i a p) [
      | inl x ↦ elim (pushed stack (new_frame w) j b q) [
        | inl y ↦ was.apart i j a b x y e
        | inr y ↦ absurd (fresh i a x (e ∙ sym (ap (λ (z : Frame). z.vertex) y.1)))
      ]
      | inr x ↦ elim (pushed stack (new_frame w) j b q) [
        | inl y ↦ absurd (fresh j b y (sym e ∙ sym (ap (λ (z : Frame). z.vertex) x.1)))
        | inr y ↦ x.0 ∙ sym y.0
      ]
    ];
    links = λ k a b p q. elim (pushed stack (new_frame w) (suc k) b q) [
      | inl y ↦ elim (pushed stack (new_frame w) k a p) [
        | inl x ↦ was.links k a b x y
        | inr x ↦ absurd (omega (arith, x.0, within stack (suc k) b y))
      ]
      | inr y ↦ elim (pushed stack (new_frame w) k a p) [
        | inl x ↦ link k a b x y.0 y.1
        | inr x ↦ absurd (omega (arith, x.0, y.0))
      ]
    ];
    seen = λ k u g e s. elim (pushed stack (new_frame w) k g e) [
      | inl a ↦ keep u mark.Done (λ z. cc z) (was.seen k u g a s)
      | inr a ↦ absurd (none_seen (row w) u (subst (λ (x : Frame). WasSeen (row x.vertex) x.span x.offset u) (sym a.1) s))
    ];
  }
    where
      keep : (v : ℕ) (m : Mark) → (m ≡ mark.New → ⊥) → Has marks m v → Has (set marks w mark.Open) m v
      keep v m other h = set_other marks w v mark.Open (λ e. other (two_marks marks w m mark.New (subst (λ (u : ℕ). Has marks m u) e h) new)) ∙ h

      fresh : (k : ℕ) (g : Frame) → slice_get stack k ≡ Some g → g.vertex ≡ w → ⊥
      fresh k g e v = let z : mark.Open ≡ mark.New = two_marks marks w mark.Open mark.New (subst (λ (u : ℕ). Has marks mark.Open u) v (was.frames k g e)) new in cc z

      link : (k : ℕ) (a b : Frame) → slice_get stack k ≡ Some a → suc k ≡ length stack → new_frame w ≡ b → Needs (row a.vertex) b.vertex
      link k a b p at is =
          let long : length stack ≡ length rest + 1 = length-append rest (f ∷ []) in
          let here : k ≡ length rest = omega (arith, long, at) in
          let top_is : a ≡ f = same stack (length rest) a f (subst (λ (n : ℕ). slice_get stack n ≡ Some a) here p) (last rest f) in
          subst (λ (x : Frame). Needs (row a.vertex) x.vertex) is (subst (λ (x : Frame). Needs (row x.vertex) w) (sym top_is) need)

  -- the top needs what is on the stack or stuck, so all on the stack is stuck
  pub unwound : (w : ℕ) → Needs (row f.vertex) w → Has marks mark.Open w ⊎ Has marks mark.Stuck w → (after : List Mark)
      → ((k : ℕ) (g : Frame) → slice_get (rest ++ f ∷ []) k ≡ Some g → Has after mark.Stuck g.vertex)
      → ((v : ℕ) → Has after mark.Stuck v ⊎ (slice_get after v ≡ slice_get marks v))
      → ((v : ℕ) → Has after mark.Stuck v → Has marks mark.Stuck v ⊎ ((k : ℕ) × (g : Frame) × (slice_get (rest ++ f ∷ []) k ≡ Some g) × (g.vertex ≡ v)))
      → IsSearch row after order []
  unwound w need why after all others only = record {
    order_done = λ i v e. keep_done v (was.order_done i v e);
    done_order = λ v d. was.done_order v (back v mark.Done (λ z. cc z) d);
    single = was.single;
    ready = was.ready;
    stuck = λ v s. elim (only v s) [
      | inl a ↦ (let r = was.stuck v a in (r.0, r.1, keep_stuck r.0 r.2))
      | inr a ↦ next a.0 a.1 a.2 v a.3
    ];
    entered = λ v o. absurd (gone v o);
    frames = λ k g e. cc e;
    apart = λ i j a b p q e. cc p;
    links = λ k a b p q. cc p;
    seen = λ k u g e s. cc e;
  }
    where
      back : (v : ℕ) (m : Mark) → (m ≡ mark.Stuck → ⊥) → Has after m v → Has marks m v
      back v m other h = elim (others v) [
        | inl s ↦ absurd (other (two_marks after v m mark.Stuck h s))
        | inr e ↦ sym e ∙ h
      ]

      keep_stuck : (v : ℕ) → Has marks mark.Stuck v → Has after mark.Stuck v
      keep_stuck v h = elim (others v) [ inl s ↦ s | inr e ↦ e ∙ h ]

      gone : (v : ℕ) → Has after mark.Open v → ⊥
      gone v o =
          let r = was.entered v (back v mark.Open (λ z. cc z) o) in
          let s : Has after mark.Stuck v = subst (λ (u : ℕ). Has after mark.Stuck u) r.3 (all r.0 r.1 r.2) in
          let z : mark.Open ≡ mark.Stuck = two_marks after v mark.Open mark.Stuck o s in cc z

      keep_done : (v : ℕ) → Has marks mark.Done v → Has after mark.Done v
      keep_done v d = elim (others v) [
        | inl s ↦ elim (only v s) [
          | inl a ↦ absurd (let z : mark.Done ≡ mark.Stuck = two_marks marks v mark.Done mark.Stuck d a in cc z)
          | inr a ↦ absurd (let z : mark.Done ≡ mark.Open = two_marks marks v mark.Done mark.Open d (subst (λ (u : ℕ). Has marks mark.Open u) a.3 (was.frames a.0 a.1 a.2)) in cc z)
        ]
        | inr e ↦ e ∙ d
      ]

      target : Has after mark.Stuck w
      target = elim why [
        | inl o ↦ (let r = was.entered w o in subst (λ (u : ℕ). Has after mark.Stuck u) r.3 (all r.0 r.1 r.2))
        | inr s ↦ keep_stuck w s
      ]

      next : (k : ℕ) (g : Frame) → slice_get stack k ≡ Some g → (v : ℕ) → g.vertex ≡ v → (u : ℕ) × Needs (row v) u × Has after mark.Stuck u
      next k g e v is = elim (pushed rest f k g e) [
        | inl a ↦
            (let h = above rest f k g a in
            (h.0.vertex, subst (λ (u : ℕ). Needs (row u) h.0.vertex) is (was.links k g h.0 e h.1), all (suc k) h.0 h.1))
        | inr a ↦
            (w, subst (λ (u : ℕ). Needs (row u) w) (ap (λ (z : Frame). z.vertex) a.1 ∙ is) need, target)
      ]

-- a vertex that gets a mark is not new
pub newer_set : (marks : List Mark) (u : ℕ) (m : Mark) → (mark.New ≡ m → ⊥) → IsNoNewer marks (set marks u m)
newer_set marks u m other v new = elim (was_set marks u v m mark.New new) [
  | inl a ↦ absurd (other a.1)
  | inr a ↦ a.1
]

pub all_marks : (n : ℕ) (m k : Mark) (v : ℕ) → Has (replicate n m) k v → k ≡ m
all_marks zero m k v h = cc h
all_marks (suc n) m k zero h = let e : Some m ≡ Some k = h in cc e
all_marks (suc n) m k (suc v) h = all_marks n m k v h

-- a search that has met nothing
pub nothing_met : (row : Rows) (n : ℕ) → IsSearch row (replicate n mark.New) [] []
nothing_met row n = record {
  order_done = λ i v e. cc e;
  done_order = λ v d. absurd (let e : mark.Done ≡ mark.New = all_marks n mark.New mark.Done v d in cc e);
  single = λ i j v p q. cc p;
  ready = λ i v w p need. cc p;
  stuck = λ v d. absurd (let e : mark.Stuck ≡ mark.New = all_marks n mark.New mark.Stuck v d in cc e);
  entered = λ v d. absurd (let e : mark.Open ≡ mark.New = all_marks n mark.New mark.Open v d in cc e);
  frames = λ k g e. cc e;
  apart = λ i j a b p q e. cc p;
  links = λ k a b p q. cc p;
  seen = λ k u g e s. cc e;
}

module _ (row : Rows) (marks : List Mark) (order : List ℕ) (was : IsSearch row marks order []) where
  -- a new vertex comes on the empty stack
  pub started : (w : ℕ) → Has marks mark.New w → IsSearch row (set marks w mark.Open) order (new_frame w ∷ [])
  started w new = record {
    order_done = λ i v e. keep v mark.Done (λ z. cc z) (was.order_done i v e);
    done_order = λ v d. elim (was_set marks w v mark.Open mark.Done d) [
      | inl a ↦ absurd (let e : mark.Done ≡ mark.Open = a.1 in cc e)
      | inr a ↦ was.done_order v a.1
    ];
    single = was.single;
    ready = was.ready;
    stuck = λ v s. elim (was_set marks w v mark.Open mark.Stuck s) [
      | inl a ↦ absurd (let e : mark.Stuck ≡ mark.Open = a.1 in cc e)
      | inr a ↦ (let r = was.stuck v a.1 in (r.0, r.1, keep r.0 mark.Stuck (λ z. cc z) r.2))
    ];
    entered = λ v o. elim (was_set marks w v mark.Open mark.Open o) [
      | inl a ↦ (0, new_frame w, refl, sym a.0)
      | inr a ↦ absurd (let r = was.entered v a.1 in nothing r.0 r.1 r.2)
    ];
    frames = λ k g e. subst (λ (x : Frame). Has (set marks w mark.Open) mark.Open x.vertex) (only k g e).1 (set_same marks w mark.Open (within marks w mark.New new));
    apart = λ i j a b p q e. (only i a p).0 ∙ sym (only j b q).0;
    links = λ k a b p q. absurd (let z : suc k ≡ 0 = (only (suc k) b q).0 in omega (arith, z));
    seen = λ k u g e s. absurd (none_seen (row w) u (subst (λ (x : Frame). WasSeen (row x.vertex) x.span x.offset u) (sym (only k g e).1) s));
  }
    where
      nothing : (k : ℕ) (g : Frame) → slice_get [] k ≡ Some g → ⊥
      nothing k g e = cc e

      only : (k : ℕ) (g : Frame) → slice_get (new_frame w ∷ []) k ≡ Some g → (k ≡ 0) × (new_frame w ≡ g)
      only k g e = elim (pushed [] (new_frame w) k g e) [
        | inl a ↦ absurd (nothing k g a)
        | inr a ↦ a
      ]

      keep : (v : ℕ) (m : Mark) → (m ≡ mark.New → ⊥) → Has marks m v → Has (set marks w mark.Open) m v
      keep v m other h = set_other marks w v mark.Open (λ e. other (two_marks marks w m mark.New (subst (λ (u : ℕ). Has marks m u) e h) new)) ∙ h

  -- with nothing new and nothing on the stack all is sorted
  pub sorted : (size : ℕ) → length marks ≡ size → ((v : ℕ) → v < size → Has marks mark.New v → ⊥) → IsSorted row size marks order
  sorted size long met = record {
    sized = long;
    order_done = was.order_done;
    done_order = was.done_order;
    single = was.single;
    ready = was.ready;
    stuck = was.stuck;
    either = λ v lt. let m = found marks v (omega (arith, long, lt)) in kind v lt m.0 m.1;
  }
    where
      kind : (v : ℕ) → v < size → (m : Mark) → Has marks m v → Has marks mark.Done v ⊎ Has marks mark.Stuck v
      kind v lt mark.New h = absurd (met v lt h)
      kind v lt mark.Open h = absurd (let r = was.entered v h in let e : slice_get [] r.0 ≡ Some r.1 = r.2 in cc e)
      kind v lt mark.Done h = inl h
      kind v lt mark.Stuck h = inr h

-- a vertex on the stack is new no more
pub not_new : (marks : List Mark) (v : ℕ) → Has marks mark.New v → Has (set marks v mark.Open) mark.New v → ⊥
not_new marks v was new = elim (was_set marks v v mark.Open mark.New new) [
  | inl a ↦ (let e : mark.New ≡ mark.Open = a.1 in cc e)
  | inr a ↦ a.0 refl
]

pub frames_inside : (row : Rows) (marks : List Mark) (order : List ℕ) (stack : List Frame) → IsSearch row marks order stack → AreFramesInside marks stack
frames_inside row marks order frames was k f e = within marks f.vertex mark.Open (was.frames k f e)
