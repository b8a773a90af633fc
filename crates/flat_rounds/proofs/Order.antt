-- A flat circuit is in order.
use Rattle.std.proofs.Common.{◌≡◌, ℕ, zero, suc, ◌+◌, ◌-◌, ◌<◌, ◌⊎◌, List, [], ◌∷◌, Bool, true, eqb, leb, ltb, ◌&&◌, Option, Some, None, refl, sym, ◌∙◌, ap, subst, arith, inl, inr}
use Rattle.std.specs.Prelude.{find, slice_get}
use Rattle.std.proofs.lemmas.Bool.{and_parts, and_from, eqb-true, cases_Bool, cond-true, cond-false}
use Rattle.circuit.specs.Valuation.{covers, drive_of}
use Rattle.circuit.specs.Acyclic.{Test, all_below, sig_acyclic, cell_acyclic, by_acyclic, drive_acyclic, acyclic_within, IsAcyclic, IsInOrder}
use Rattle.circuit.specs.declared.netlist.Circuit.{Circuit}
use Rattle.circuit.specs.declared.cell.Cell.{Cell}
use Rattle.circuit.specs.declared.netlist.Drive.{Drive}
use Rattle.circuit.specs.declared.netlist.By.{By}
use Rattle.circuit.specs.declared.netlist.By.TheVariants as by
use Rattle.circuit.specs.declared.netlist.Piece.{Piece}
use Rattle.circuit.specs.declared.netlist.Piece.TheVariants as piece
use Rattle.flat_design.specs.Flat.{IsFlat, IsFlatBy, ReadsNet}

-- the first drive that passes a test stands in the list
pub find_at : (test : Drive → Bool) (xs : List Drive) (d : Drive) → find test xs ≡ Some d → (i : ℕ) × (slice_get xs i ≡ Some d) × (test d ≡ true)
find_at test [] d e = cc e
find_at test (x ∷ xs) d e = elim (cases_Bool (test x)) [
  | inl on ↦
      (let f : Some x ≡ Some d = sym (cond-true (test x) (Some x) (find test xs) on) ∙ e in
      let g : x ≡ d = cc f in (0, f, ap test (sym g) ∙ on))
  | inr off ↦
      (let r = find_at test xs d (sym (cond-false (test x) (Some x) (find test xs) off) ∙ e) in (suc r.0, r.1, r.2))
]

-- the net of a drive that covers a bit
pub covers_net : (net bit : ℕ) (d : Drive) → covers net bit d ≡ true → d.net ≡ net
covers_net net bit d h = eqb-true d.net net (and_parts (eqb d.net net) (leb d.at bit && ltb bit (d.at + d.width)) h).0

all_from : (p : ℕ → Bool) (n : ℕ) → ((k : ℕ) → p k ≡ true) → all_below p n ≡ true
unfolding all_below
all_from p zero h = refl
all_from p (suc n) h = and_from (p n) (all_below p n) (h n) (all_from p n h)

sig_from : (free : Test) (ps : List Piece) → ((net bit : ℕ) → ReadsNet ps net → free net bit ≡ true) → sig_acyclic free ps ≡ true
unfolding sig_acyclic
sig_from free [] h = refl
sig_from free (piece.Const v ∷ ps) h = sig_from free ps h
sig_from free (piece.Part n at w ∷ ps) h =
    and_from (all_below (λ j. free n (at + j)) w) (sig_acyclic free ps)
    (all_from (λ j. free n (at + j)) w (λ k. h n (at + k) (inl refl)))
    (sig_from free ps (λ net bit r. h net bit (inr r)))

cell_from : (free : Test) (o : Option Cell) → ((x : Cell) → o ≡ Some x → x.s ≡ []) → ((x : Cell) (net bit : ℕ) → o ≡ Some x → ReadsNet x.a net ⊎ ReadsNet x.b net → free net bit ≡ true) → cell_acyclic free o ≡ true
cell_from free None none h = refl
cell_from free (Some x) none h =
    and_from (sig_acyclic free x.a) (sig_acyclic free x.b && sig_acyclic free x.s)
    (sig_from free x.a (λ net bit r. h x net bit refl (inl r)))
    (and_from (sig_acyclic free x.b) (sig_acyclic free x.s)
    (sig_from free x.b (λ net bit r. h x net bit refl (inr r)))
    (sig_from free x.s (λ net bit r. absurd (subst (λ (ps : List Piece). ReadsNet ps net) (none x refl) r))))

-- no cell from the k-th on drives the bit
IsEarlier : ℕ → Option Drive → Type 0
IsEarlier k m = (d : Drive) (n at : ℕ) → m ≡ Some d → d.by ≡ by.Cell n at → n < k

module _ (c : Circuit) (flat : IsFlat c) where
  -- a driver that reads nothing but what is free
  by_from : (free : Test) (k bit net : ℕ) (d : Drive) → ((n : ℕ) (x : Cell) → n < k → slice_get c.cells n ≡ Some x → (net bit : ℕ) → ReadsNet x.a net ⊎ ReadsNet x.b net → free net bit ≡ true)
      → ((n at : ℕ) → d.by ≡ by.Cell n at → n < k) → (w : ℕ) (b : By) → d.by ≡ b → IsFlatBy c net w b → by_acyclic c free b bit ≡ true
  by_from free k bit net d h early w (by.Const v) e flat_by = refl
  by_from free k bit net d h early w (by.Input n at) e flat_by = refl
  by_from free k bit net d h early w (by.Wire n at) e flat_by = absurd flat_by
  by_from free k bit net d h early w (by.Cell n at) e flat_by = cell_from free (slice_get c.cells n) (λ x is. (flat.cells n x is).s) (λ x net bit is r. h n x (early n at e) is net bit r)
  by_from free k bit net d h early w (by.Reg n at) e flat_by = refl
  by_from free k bit net d h early w (by.Read m n at) e flat_by = absurd flat_by

  drive_from : (free : Test) (k net bit : ℕ) → ((n : ℕ) (x : Cell) → n < k → slice_get c.cells n ≡ Some x → (net bit : ℕ) → ReadsNet x.a net ⊎ ReadsNet x.b net → free net bit ≡ true)
      → (m : Option Drive) → drive_of c net bit ≡ m → IsEarlier k m → drive_acyclic c free bit m ≡ true
  unfolding IsEarlier
  drive_from free k net bit h None e early = refl
  drive_from free k net bit h (Some d) e early =
      let f = find_at (covers net bit) c.drives d e in
      by_from free k (bit - d.at) d.net d h (λ n at is. early d n at refl is) d.width d.by refl (flat.drives f.0 d f.1).2

  -- what a cell reads is driven by no cell or by an earlier one
  reads_earlier : (n k : ℕ) (x : Cell) (net bit : ℕ) → n < suc k → slice_get c.cells n ≡ Some x → ReadsNet x.a net ⊎ ReadsNet x.b net → IsEarlier k (drive_of c net bit)
  unfolding IsEarlier
  reads_earlier n k x net bit lt is r d m at found b =
      let f = find_at (covers net bit) c.drives d found in
      let before : m < n = flat.order n m at f.0 net x d is r f.1 (covers_net net bit d f.2) b in
      omega (arith, before, lt)

  free_from : (k net bit : ℕ) → IsEarlier k (drive_of c net bit) → acyclic_within c (suc k) net bit ≡ true
  unfolding acyclic_within
  free_from zero net bit early =
      drive_from (acyclic_within c zero) zero net bit (λ n x lt. absurd (omega (arith, lt))) (drive_of c net bit) refl early
  free_from (suc k) net bit early =
      drive_from (acyclic_within c (suc k)) (suc k) net bit
      (λ n x lt is net bit r. free_from k net bit (reads_earlier n k x net bit lt is r)) (drive_of c net bit) refl early

  -- the place behind a cell
  behind : By → ℕ
  behind (by.Const v) = 0
  behind (by.Input n at) = 0
  behind (by.Wire n at) = 0
  behind (by.Cell n at) = suc n
  behind (by.Reg n at) = 0
  behind (by.Read m n at) = 0

  behind_is : (b : By) (n at : ℕ) → b ≡ by.Cell n at → n < behind b
  unfolding behind
  behind_is b n at e = rw e (omega arith)

  place : Option Drive → ℕ
  place None = 0
  place (Some d) = behind d.by

  place_is : (m : Option Drive) → IsEarlier (place m) m
  unfolding IsEarlier place
  place_is None d n at e b = cc e
  place_is (Some f) d n at e b =
      let g : f ≡ d = cc e in
      behind_is f.by n at (ap (λ (x : Drive). x.by) g ∙ b)

  all_free : (net bit : ℕ) → IsAcyclic c net bit
  all_free net bit = (suc (place (drive_of c net bit)), free_from (place (drive_of c net bit)) net bit (place_is (drive_of c net bit)))

  pub flat_in_order : IsInOrder c
  flat_in_order = record {
    once = λ i j net bit d e at_i at_j on_d on_e. flat.once i j d e at_i at_j (covers_net net bit d on_d ∙ sym (covers_net net bit e on_e));
    inside = λ i d at.
        let h = flat.drives i d at in
        (h.1.0, h.1.1, (let e : h.1.0.width ≡ d.width = h.1.2 in let z : d.at ≡ 0 = h.0 in omega (arith, e, z)));
    acyclic = all_free;
  }
