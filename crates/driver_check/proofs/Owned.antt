-- The drive of each bit, drive by drive.
use Rattle.std.proofs.Common.{◌≡◌, ◌≢◌, ℕ, zero, suc, ◌+◌, ◌-◌, ◌<◌, ◌≤◌, ◌⊎◌, List, [], ◌∷◌, length, refl, sym, ◌∙◌, ap, subst, arith, inl, inr, Bool, true, false, cond, ◌&&◌, Some, None, nat_eq, nat_le, nat_lt}
use Rattle.std.specs.Prelude.{slice_get, slice_index, ◌==◌, find}
use Rattle.std.proofs.lemmas.Bool.{cases_Bool, cases_eq, cases_lt, and_parts, and_from, eqb-true, eq-eqb, leb-true, le-leb, ltb-true, lt-ltb, cond-true, cond-false}
use Rattle.circuit.specs.Acyclic.{AreDrivesInside}
use Rattle.circuit.specs.Valuation.{covers, drive_of}
use Rattle.circuit.specs.declared.netlist.Circuit.{Circuit}
use Rattle.circuit.specs.declared.netlist.Drive.{Drive}
use Rattle.circuit.specs.declared.netlist.Net.{Net}
use Rattle.driver_check.specs.Depends.{Bit}
use Rattle.driver_check.specs.Faults.{Covers, IsFirstShared, IsShared}
use Rattle.driver_check.specs.Numbers.{before, bit_count, IsBit, IsIn, bit_number, start_of, width_of}
use Rattle.driver_check.specs.Owners.{AreOwners, IsOwner}
use Rattle.driver_check.specs.Invariants.{IsLeastShared, IsNextCover}
use Rattle.driver_check.proofs.Places.{same, within}
use Rattle.driver_check.proofs.Numbered.{bit_below, number_once, number_order}

-- ---- the bits of a drive

pub covers_parts : (d : Drive) (net bit : ℕ) → covers net bit d ≡ true → (d.net ≡ net) × (d.at ≤ bit) × (bit < d.at + d.width)
covers_parts d net bit h =
    let p = and_parts (nat_eq d.net net) (nat_le d.at bit && nat_lt bit (d.at + d.width)) h in
    let q = and_parts (nat_le d.at bit) (nat_lt bit (d.at + d.width)) p.1 in
    (eqb-true d.net net p.0, leb-true d.at bit q.0, ltb-true bit (d.at + d.width) q.1)

pub covers_from : (d : Drive) (net bit : ℕ) → d.net ≡ net → d.at ≤ bit → bit < d.at + d.width → covers net bit d ≡ true
covers_from d net bit e le lt =
    and_from (nat_eq d.net net) (nat_le d.at bit && nat_lt bit (d.at + d.width)) (eq-eqb d.net net e)
    (and_from (nat_le d.at bit) (nat_lt bit (d.at + d.width)) (le-leb d.at bit le) (lt-ltb bit (d.at + d.width) lt))

pub covers_in : (c : Circuit) (d : Drive) (x : Bit) → covers x.0 x.1 d ≡ true → IsIn (start_of c.nets d) d.width (bit_number c.nets x)
covers_in c d x h =
    let p = covers_parts d x.0 x.1 h in
    let e : before width_of c.nets d.net ≡ before width_of c.nets x.0 = ap (before width_of c.nets) p.0 in
    (omega (arith, e, p.1), omega (arith, e, p.2))

-- the bit of a drive that has a number
pub bit_in : (c : Circuit) → AreDrivesInside c → (i : ℕ) (d : Drive) → slice_get c.drives i ≡ Some d → (v : ℕ) → IsIn (start_of c.nets d) d.width v
    → (x : Bit) × IsBit c.nets x × (covers x.0 x.1 d ≡ true) × (bit_number c.nets x ≡ v)
bit_in c inside i d at v h =
    let n = inside i d at in
    let bit = v - before width_of c.nets d.net in
    ((d.net, bit), (n.0, n.1, omega (arith, n.2, h.0, h.1)), covers_from d d.net bit refl (omega (arith, h.0)) (omega (arith, h.0, h.1)), omega (arith, h.0))

pub in_covers : (c : Circuit) → AreDrivesInside c → (i : ℕ) (d : Drive) → slice_get c.drives i ≡ Some d → (x : Bit) → IsBit c.nets x → IsIn (start_of c.nets d) d.width (bit_number c.nets x) → covers x.0 x.1 d ≡ true
in_covers c inside i d at x b h =
    let y = bit_in c inside i d at (bit_number c.nets x) h in
    let s = number_once c.nets y.0 x y.1 b y.3 in
    subst (λ (n : ℕ). covers n x.1 d ≡ true) s.0 (subst (λ (n : ℕ). covers y.0.0 n d ≡ true) s.1 y.2)

pub covered_is_bit : (c : Circuit) → AreDrivesInside c → (i : ℕ) (x : Bit) → Covers c i x → IsBit c.nets x
covered_is_bit c inside i x h =
    let n = inside i h.0 h.1 in
    let p = covers_parts h.0 x.0 x.1 h.2 in
    (n.0, subst (λ (k : ℕ). slice_get c.nets k ≡ Some n.0) p.0 n.1, omega (arith, p.2, n.2))

-- ---- owners

-- the test by which a drive gets a bit
abbrev taken : ℕ → ℕ → ℕ → ℕ → ℕ → Bool
taken first width nobody owner v = (nat_le first v && nat_lt v (first + width)) && owner == nobody

pub no_owners : (c : Circuit) (owners : List ℕ) → ((v : ℕ) → v < bit_count c.nets → slice_index owners v ≡ length c.drives) → AreOwners c 0 owners
no_owners c owners h x b = inr (h (bit_number c.nets x) (bit_below c.nets x b), λ k lt cov. absurd (omega (arith, lt)))

module _ (c : Circuit) (inside : AreDrivesInside c) (i : ℕ) (d : Drive) (at : slice_get c.drives i ≡ Some d) (x : Bit) (b : IsBit c.nets x) (owner : ℕ) (was : IsOwner c i x owner) where
  abbrev v : ℕ
  v = bit_number c.nets x

  abbrev test : Bool
  test = taken (start_of c.nets d) d.width (length c.drives) owner v

  owner_taken : test ≡ true → IsOwner c (i + 1) x i
  owner_taken on =
      let p = and_parts (nat_le (start_of c.nets d) v && nat_lt v (start_of c.nets d + d.width)) (owner == length c.drives) on in
      let q = and_parts (nat_le (start_of c.nets d) v) (nat_lt v (start_of c.nets d + d.width)) p.0 in
      let free = eqb-true owner (length c.drives) p.1 in
      let cov = in_covers c inside i d at x b (leb-true (start_of c.nets d) v q.0, ltb-true v (start_of c.nets d + d.width) q.1) in
      inl (
        omega arith,
        (d, at, cov),
        elim was [
          | inl o ↦ absurd (let t = within c.drives owner o.1.0 o.1.1 in omega (arith, t, free))
          | inr o ↦ o.1
        ],
      )

  owner_stays : test ≡ false → IsOwner c (i + 1) x owner
  owner_stays off = elim was [
    | inl o ↦ inl (omega (arith, o.0), o.1, o.2)
    | inr o ↦ inr (
      o.0,
      λ k lt cov. elim (cases_eq k i) [
        | inl e ↦
            (let same_drive : cov.0 ≡ d = same c.drives i cov.0 d (subst (λ (n : ℕ). slice_get c.drives n ≡ Some cov.0) e cov.1) at in
            let here : covers x.0 x.1 d ≡ true = sym (ap (covers x.0 x.1) same_drive) ∙ cov.2 in
            let h = covers_in c d x here in
            let on : test ≡ true =
            and_from (nat_le (start_of c.nets d) v && nat_lt v (start_of c.nets d + d.width)) (owner == length c.drives)
            (and_from (nat_le (start_of c.nets d) v) (nat_lt v (start_of c.nets d + d.width)) (le-leb (start_of c.nets d) v h.0) (lt-ltb v (start_of c.nets d + d.width) h.1))
            (eq-eqb owner (length c.drives) o.0) in
            let z : true ≡ false = sym on ∙ off in cc z)
        | inr ne ↦ o.1 k (omega (arith, lt, ne)) cov
      ],
    )
  ]

  owner_more : IsOwner c (i + 1) x (cond test i owner)
  owner_more = elim (cases_Bool test) [
    | inl on ↦ subst (λ (o : ℕ). IsOwner c (i + 1) x o) (sym (cond-true test i owner on)) (owner_taken on)
    | inr off ↦ subst (λ (o : ℕ). IsOwner c (i + 1) x o) (sym (cond-false test i owner off)) (owner_stays off)
  ]

pub owners_more : (c : Circuit) → AreDrivesInside c → (i : ℕ) (d : Drive) → slice_get c.drives i ≡ Some d → (owners after : List ℕ) → AreOwners c i owners
    → ((v : ℕ) → slice_index after v ≡ cond (taken (start_of c.nets d) d.width (length c.drives) (slice_index owners v) v) i (slice_index owners v))
    → AreOwners c (i + 1) after
owners_more c inside i d at owners after were is x b =
    subst (λ (o : ℕ). IsOwner c (i + 1) x o) (sym (is (bit_number c.nets x)))
    (owner_more c inside i d at x b (slice_index owners (bit_number c.nets x)) (were x b))

-- ---- the least bit with two drives

module _ (c : Circuit) (inside : AreDrivesInside c) (owners : List ℕ) (are : AreOwners c (length c.drives) owners) where
  -- the owner of a bit that a drive covers is no later one
  pub owner_first : (i : ℕ) (x : Bit) → Covers c i x → (slice_index owners (bit_number c.nets x) ≤ i) × Covers c (slice_index owners (bit_number c.nets x)) x × ((k : ℕ) → k < slice_index owners (bit_number c.nets x) → Covers c k x → ⊥)
  owner_first i x cov = elim (are x (covered_is_bit c inside i x cov)) [
    | inl o ↦ elim (cases_lt i (slice_index owners (bit_number c.nets x))) [
      | inl lt ↦ absurd (o.2 i lt cov)
      | inr le ↦ (le, o.1, o.2)
    ]
    | inr o ↦ absurd (o.1 i (within c.drives i cov.0 cov.1) cov)
  ]

  pub none_shared : (bits : ℕ) → IsLeastShared c 0 bits bits
  none_shared bits = record {
    most = omega arith;
    below = λ x j b lt cov k less also. absurd (omega (arith, lt));
    is = inl refl;
  }

  pub shared_more : (i : ℕ) (d : Drive) → slice_get c.drives i ≡ Some d → (bits least after : ℕ) → IsLeastShared c i least bits
      → after ≤ least
      → ((v : ℕ) → IsIn (start_of c.nets d) d.width v → slice_index owners v ≢ i → after ≤ v)
      → (after ≡ least) ⊎ (IsIn (start_of c.nets d) d.width after × (slice_index owners after ≢ i))
      → IsLeastShared c (i + 1) after bits
  shared_more i d at bits least after was most below is = record {
    most = omega (arith, most, was.most);
    below = λ x j b lt cov k less also. elim (cases_eq j i) [
      | inl e ↦
          (let same_drive : cov.0 ≡ d = same c.drives i cov.0 d (subst (λ (n : ℕ). slice_get c.drives n ≡ Some cov.0) e cov.1) at in
          let here : covers x.0 x.1 d ≡ true = sym (ap (covers x.0 x.1) same_drive) ∙ cov.2 in
          below (bit_number c.nets x) (covers_in c d x here) (λ owned. let o = owner_first k x also in omega (arith, o.0, owned, less, e)))
      | inr ne ↦ (let h = was.below x j b (omega (arith, lt, ne)) cov k less also in omega (arith, h, most))
    ];
    is = elim is [
      | inl e ↦ elim was.is [ inl w ↦ inl (e ∙ w) | inr w ↦ inr (w.0, w.1, w.2, w.3 ∙ sym e) ]
      | inr h ↦
          (let x = bit_in c inside i d at after h.0 in
          let o = owner_first i x.0 (d, at, x.2) in
          let owner_ne : slice_index owners (bit_number c.nets x.0) ≢ i = subst (λ (v : ℕ). slice_index owners v ≢ i) (sym x.3) h.1 in
          inr (x.0, x.1, (slice_index owners (bit_number c.nets x.0), i, omega (arith, o.0, owner_ne), o.1, (d, at, x.2)), x.3))
    ];
  }

  -- a bit that no drives share has one drive
  pub once : (bits : ℕ) → bits ≡ bit_count c.nets → IsLeastShared c (length c.drives) bits bits → (i j net bit : ℕ) (d e : Drive) → slice_get c.drives i ≡ Some d → slice_get c.drives j ≡ Some e → covers net bit d ≡ true → covers net bit e ≡ true → i ≡ j
  once bits all is i j net bit d e p q cd ce = elim (cases_lt i j) [
    | inl lt ↦ absurd (clash i j (d, p, cd) (e, q, ce) lt)
    | inr le ↦ elim (cases_lt j i) [
      | inl lt ↦ absurd (clash j i (e, q, ce) (d, p, cd) lt)
      | inr ge ↦ omega (arith, le, ge)
    ]
  ]
    where
      clash : (k l : ℕ) → Covers c k (net, bit) → Covers c l (net, bit) → k < l → ⊥
      clash k l a b lt =
          let there = covered_is_bit c inside l (net, bit) b in
          let h = is.below (net, bit) l there (within c.drives l b.0 b.1) b k lt a in
          let g = bit_below c.nets (net, bit) there in
          omega (arith, h, g, all)

same_bit : (x y : Bit) → x.0 ≡ y.0 → x.1 ≡ y.1 → x ≡ y
same_bit x y p q = subst (λ (n : ℕ). ◌≡◌ {A = Bit} x (n, y.1)) p (subst (λ (m : ℕ). ◌≡◌ {A = Bit} x (x.0, m)) q refl)

pub one_bit : (nets : List Net) (x y : Bit) → IsBit nets x → IsBit nets y → bit_number nets x ≡ bit_number nets y → x ≡ y
one_bit nets x y a b e = let s = number_once nets x y a b e in same_bit x y s.0 s.1

module _ (c : Circuit) (inside : AreDrivesInside c) (owners : List ℕ) (are : AreOwners c (length c.drives) owners) (least bits : ℕ) (shared : IsLeastShared c (length c.drives) least bits) (some : least < bits) where
  pub shared_bit : (x : Bit) × IsBit c.nets x × IsShared c x × (bit_number c.nets x ≡ least)
  shared_bit = elim shared.is [
    | inl e ↦ absurd (omega (arith, e, some))
    | inr x ↦ x
  ]

  pub shared_owner : Covers c (slice_index owners least) shared_bit.0
  shared_owner =
      let x = shared_bit in
      let s = x.2 in
      subst (λ (v : ℕ). Covers c (slice_index owners v) x.0) x.3 (owner_first c inside owners are s.0 x.0 s.3).1

  pub owner_there : slice_index owners least < length c.drives
  owner_there = let o = shared_owner in within c.drives (slice_index owners least) o.0 o.1

  pub owner_covers : (d : Drive) → slice_get c.drives (slice_index owners least) ≡ Some d → IsIn (start_of c.nets d) d.width least
  owner_covers d at =
      let o = shared_owner in
      let z : o.0 ≡ d = same c.drives (slice_index owners least) o.0 d o.1 at in
      subst (λ (v : ℕ). IsIn (start_of c.nets d) d.width v) shared_bit.3
      (covers_in c d shared_bit.0 (subst (λ (e : Drive). covers shared_bit.0.0 shared_bit.0.1 e ≡ true) z o.2))

  pub first_shared : (y : Bit) → bit_number c.nets y ≡ least → Covers c (slice_index owners least) y → (second : ℕ) → IsNextCover c.drives (slice_index owners least) y.0 y.1 second → IsFirstShared c y (slice_index owners least) second
  first_shared y is cov second next = record {
    ordered = next.behind;
    first_covers = cov;
    second_covers = elim next.is [
      | inl e ↦ absurd (none e)
      | inr h ↦ h
    ];
    no_other = λ i lt h. elim (cases_lt i (slice_index owners least)) [
      | inl less ↦ absurd (no_earlier i less h)
      | inr le ↦ elim (cases_eq i (slice_index owners least)) [
        | inl e ↦ e
        | inr ne ↦ absurd (let z : true ≡ false = sym h.2 ∙ next.no_other i h.0 (omega (arith, le, ne)) lt h.1 in cc z)
      ]
    ];
    least = λ z also lt.
        let there = covered_is_bit c inside also.1 z also.4 in
        let le = shared.below z also.1 there (within c.drives also.1 also.4.0 also.4.1) also.4 also.0 also.2 also.3 in
        number_order c.nets y z mine there (omega (arith, le, is)) lt;
  }
    where
      mine : IsBit c.nets y
      mine = covered_is_bit c inside (slice_index owners least) y cov

      no_earlier : (k : ℕ) → k < slice_index owners least → Covers c k y → ⊥
      no_earlier = subst (λ (v : ℕ). (k : ℕ) → k < slice_index owners v → Covers c k y → ⊥) is (owner_first c inside owners are (slice_index owners least) y cov).2

      here : IsShared c y
      here = subst (λ (x : Bit). IsShared c x) (one_bit c.nets shared_bit.0 y shared_bit.1 mine (shared_bit.3 ∙ sym is)) shared_bit.2

      none : second ≡ length c.drives → ⊥
      none e =
          let j = here.1 in
          let o = no_earlier here.0 in
          let there = within c.drives j here.4.0 here.4.1 in
          elim (cases_lt here.0 (slice_index owners least)) [
            | inl less ↦ o less here.3
            | inr le ↦ (let z : true ≡ false = sym here.4.2 ∙ next.no_other j here.4.0 (omega (arith, le, here.2)) (omega (arith, e, there)) here.4.1 in cc z)
          ]

-- ---- the owner of a bit is its drive

find_first : (p : Drive → Bool) (xs : List Drive) (o : ℕ) (d : Drive) → slice_get xs o ≡ Some d → p d ≡ true → ((k : ℕ) (e : Drive) → k < o → slice_get xs k ≡ Some e → p e ≡ true → ⊥) → find p xs ≡ Some d
find_first p [] o d at on before = cc at
find_first p (x ∷ xs) zero d at on before =
    let z : x ≡ d = let h : Some x ≡ Some d = at in cc h in
    cond-true (p x) (Some x) (find p xs) (ap p z ∙ on) ∙ at
find_first p (x ∷ xs) (suc o) d at on before = elim (cases_Bool (p x)) [
  | inl h ↦ absurd (before 0 x (omega arith) refl h)
  | inr h ↦ cond-false (p x) (Some x) (find p xs) h ∙ find_first p xs o d at on (λ k e lt is. before (suc k) e (omega (arith, lt)) is)
]

find_nothing : (p : Drive → Bool) (xs : List Drive) → ((k : ℕ) (e : Drive) → slice_get xs k ≡ Some e → p e ≡ true → ⊥) → find p xs ≡ None
find_nothing p [] none = refl
find_nothing p (x ∷ xs) none = elim (cases_Bool (p x)) [
  | inl h ↦ absurd (none 0 x refl h)
  | inr h ↦ cond-false (p x) (Some x) (find p xs) h ∙ find_nothing p xs (λ k e is. none (suc k) e is)
]

pub owner_drive : (c : Circuit) (x : Bit) (o : ℕ) (d : Drive) → IsOwner c (length c.drives) x o → slice_get c.drives o ≡ Some d → drive_of c x.0 x.1 ≡ Some d
owner_drive c x o d (inl h) at =
    let z : h.1.0 ≡ d = same c.drives o h.1.0 d h.1.1 at in
    find_first (covers x.0 x.1) c.drives o d at (sym (ap (covers x.0 x.1) z) ∙ h.1.2) (λ k e lt is on. h.2 k lt (e, is, on))
owner_drive c x o d (inr h) at = absurd (omega (arith, h.0, within c.drives o d at))

pub nobody_drive : (c : Circuit) (x : Bit) (o : ℕ) → IsOwner c (length c.drives) x o → length c.drives ≤ o → drive_of c x.0 x.1 ≡ None
nobody_drive c x o (inl h) past = absurd (omega (arith, h.0, past))
nobody_drive c x o (inr h) past = find_nothing (covers x.0 x.1) c.drives (λ k e is on. h.1 k (within c.drives k e is) (e, is, on))

-- the owner of a bit covers it
pub owner_has : (c : Circuit) (x : Bit) (o : ℕ) (d : Drive) → IsOwner c (length c.drives) x o → slice_get c.drives o ≡ Some d → covers x.0 x.1 d ≡ true
owner_has c x o d (inl h) at =
    let z : h.1.0 ≡ d = same c.drives o h.1.0 d h.1.1 at in
    sym (ap (covers x.0 x.1) z) ∙ h.1.2
owner_has c x o d (inr h) at = absurd (omega (arith, h.0, within c.drives o d at))

-- the place of a bit in its drive
pub offset_is : (c : Circuit) (x : Bit) (d : Drive) → covers x.0 x.1 d ≡ true → bit_number c.nets x - start_of c.nets d ≡ x.1 - d.at
offset_is c x d cov =
    let p = covers_parts d x.0 x.1 cov in
    let e : before width_of c.nets d.net ≡ before width_of c.nets x.0 = ap (before width_of c.nets) p.0 in
    omega (arith, e, p.1)
