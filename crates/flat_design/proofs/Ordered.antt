-- A flat circuit is in order: a net whose driving cell is among the first k is free within k + 1 steps.
use Rattle.std.proofs.Common.{◌≡◌, ℕ, zero, suc, ◌+◌, ◌-◌, ◌<◌, ◌⊎◌, List, [], ◌∷◌, length, refl, sym, ◌∙◌, ap, arith, inl, inr, Bool, true, eqb, leb, ltb, ◌&&◌, Option, Some, None}
use Rattle.std.specs.Prelude.{find, slice_get}
use Rattle.std.proofs.lemmas.Bool.{cases_Bool, and_parts, and_from, eqb-true, cond-true, cond-false}
use Rattle.circuit.specs.Valuation.{covers, drive_of}
use Rattle.circuit.specs.Acyclic.{Test, all_below, sig_acyclic, cell_acyclic, by_acyclic, drive_acyclic, acyclic_within, IsInOrder}
use Rattle.circuit.specs.declared.netlist.Circuit.{Circuit}
use Rattle.circuit.specs.declared.netlist.Drive.{Drive}
use Rattle.circuit.specs.declared.cell.Cell.{Cell}
use Rattle.circuit.specs.declared.netlist.By.{By}
use Rattle.circuit.specs.declared.netlist.By.TheVariants as by
use Rattle.circuit.specs.declared.netlist.Piece.{Piece}
use Rattle.circuit.specs.declared.netlist.Piece.TheVariants as piece
use Rattle.flat_design.specs.Flat.{IsFlat, IsFlatBy, ReadsNet}
use Rattle.flat_design.proofs.Grown.{cell_within}

all_true : (p : ℕ → Bool) (n : ℕ) → ((k : ℕ) → p k ≡ true) → all_below p n ≡ true
unfolding all_below
all_true p zero h = refl
all_true p (suc n) h = and_from (p n) (all_below p n) (h n) (all_true p n h)

sig_true : (free : Test) (ps : List Piece) → ((net bit : ℕ) → ReadsNet ps net → free net bit ≡ true) → sig_acyclic free ps ≡ true
unfolding sig_acyclic
sig_true free [] h = refl
sig_true free (piece.Const v ∷ ps) h = sig_true free ps h
sig_true free (piece.Part n at w ∷ ps) h =
    and_from (all_below (λ j. free n (at + j)) w) (sig_acyclic free ps)
    (all_true (λ j. free n (at + j)) w (λ k. h n (at + k) (inl refl)))
    (sig_true free ps (λ net bit r. h net bit (inr r)))

nothing_free : (free : Test) → sig_acyclic free [] ≡ true
unfolding sig_acyclic
nothing_free free = refl

covering_net : (net bit : ℕ) (d : Drive) → covers net bit d ≡ true → d.net ≡ net
covering_net net bit d e = eqb-true d.net net (and_parts (eqb d.net net) (leb d.at bit && ltb bit (d.at + d.width)) e).0

found_at : (test : Drive → Bool) (xs : List Drive) (d : Drive) → find test xs ≡ Some d → (i : ℕ) × (slice_get xs i ≡ Some d) × (test d ≡ true)
found_at test [] d e = cc e
found_at test (x ∷ xs) d e = elim (cases_Bool (test x)) [
  | inl on ↦
      (let f : Some x ≡ Some d = sym (cond-true (test x) (Some x) (find test xs) on) ∙ e in
      let g : x ≡ d = cc f in (0, f, ap test (sym g) ∙ on))
  | inr off ↦
      (let r = found_at test xs d (sym (cond-false (test x) (Some x) (find test xs) off) ∙ e) in (suc r.0, r.1, r.2))
]

module _ (c : Circuit) (flat : IsFlat c) where
  -- each cell that drives the net is among the first k
  IsEarly : ℕ → ℕ → Type 0
  IsEarly k net = (i l p : ℕ) (d : Drive) → slice_get c.drives i ≡ Some d → d.net ≡ net → d.by ≡ by.Cell l p → l < k

  reads_early : (k l : ℕ) (x : Cell) → l < suc k → slice_get c.cells l ≡ Some x → (net : ℕ) → ReadsNet x.a net ⊎ ReadsNet x.b net → IsEarly k net
  unfolding IsEarly
  reads_early k l x lt at net r = λ i m p d g n b. (let o : m < l = flat.order l m p i net x d at r g n b in omega (arith, o, lt))

  cell_true : (free : Test) (k l : ℕ) → l < suc k → ((net : ℕ) → IsEarly k net → (bit : ℕ) → free net bit ≡ true) → (o : Option Cell) → slice_get c.cells l ≡ o → cell_acyclic free o ≡ true
  cell_true free k l lt h None at = refl
  cell_true free k l lt h (Some x) at =
      and_from (sig_acyclic free x.a) (sig_acyclic free x.b && sig_acyclic free x.s)
      (sig_true free x.a (λ net bit r. h net (reads_early k l x lt at net (inl r)) bit))
      (and_from (sig_acyclic free x.b) (sig_acyclic free x.s)
      (sig_true free x.b (λ net bit r. h net (reads_early k l x lt at net (inr r)) bit))
      (ap (sig_acyclic free) (flat.cells l x at).s ∙ nothing_free free))

  by_first : (net width : ℕ) (b : By) (i : ℕ) (free : Test) → IsFlatBy c net width b → ((l p : ℕ) → b ≡ by.Cell l p → ⊥) → by_acyclic c free b i ≡ true
  by_first net width (by.Const v) i free h never = absurd h
  by_first net width (by.Input n at) i free h never = refl
  by_first net width (by.Wire n at) i free h never = absurd h
  by_first net width (by.Cell n at) i free h never = absurd (never n at refl)
  by_first net width (by.Reg n at) i free h never = refl
  by_first net width (by.Read m n at) i free h never = absurd h

  by_next : (net width k : ℕ) (b : By) (i : ℕ) (free : Test) → IsFlatBy c net width b → ((l p : ℕ) → b ≡ by.Cell l p → l < suc k) → ((n : ℕ) → IsEarly k n → (bit : ℕ) → free n bit ≡ true) → by_acyclic c free b i ≡ true
  by_next net width k (by.Const v) i free h low down = absurd h
  by_next net width k (by.Input n at) i free h low down = refl
  by_next net width k (by.Wire n at) i free h low down = absurd h
  by_next net width k (by.Cell n at) i free h low down = cell_true free k n (low n at refl) down (slice_get c.cells n) refl
  by_next net width k (by.Reg n at) i free h low down = refl
  by_next net width k (by.Read m n at) i free h low down = absurd h

  drive_first : (net bit : ℕ) (free : Test) → IsEarly 0 net → (o : Option Drive) → drive_of c net bit ≡ o → drive_acyclic c free bit o ≡ true
  unfolding IsEarly
  drive_first net bit free early None e = refl
  drive_first net bit free early (Some d) e =
      let f = found_at (covers net bit) c.drives d e in
      let n = covering_net net bit d f.2 in
      by_first d.net d.width d.by (bit - d.at) free (flat.drives f.0 d f.1).2 (λ l p b. let z : l < 0 = early f.0 l p d f.1 n b in omega (arith, z))

  drive_next : (net bit k : ℕ) (free : Test) → IsEarly (suc k) net → ((n : ℕ) → IsEarly k n → (b : ℕ) → free n b ≡ true) → (o : Option Drive) → drive_of c net bit ≡ o → drive_acyclic c free bit o ≡ true
  unfolding IsEarly
  drive_next net bit k free early down None e = refl
  drive_next net bit k free early down (Some d) e =
      let f = found_at (covers net bit) c.drives d e in
      let n = covering_net net bit d f.2 in
      by_next d.net d.width k d.by (bit - d.at) free (flat.drives f.0 d f.1).2 (λ l p b. early f.0 l p d f.1 n b) down

  early_free : (k net : ℕ) → IsEarly k net → (bit : ℕ) → acyclic_within c (suc k) net bit ≡ true
  unfolding acyclic_within
  early_free zero net early bit = drive_first net bit (acyclic_within c zero) early (drive_of c net bit) refl
  early_free (suc k) net early bit = drive_next net bit k (acyclic_within c (suc k)) early (λ n e b. early_free k n e b) (drive_of c net bit) refl

  all_early : (net : ℕ) → IsEarly (length c.cells) net
  unfolding IsEarly
  all_early net = λ i l p d g n b. cell_within c d l p (flat.drives i d g) b

  pub in_order : IsInOrder c
  in_order = record {
    once = λ i j net bit d e g h s t. flat.once i j d e g h (covering_net net bit d s ∙ sym (covering_net net bit e t));
    inside = λ i d g. (let h = flat.drives i d g in (h.1.0, h.1.1, omega (arith, h.0, h.1.2)));
    acyclic = λ net bit. (suc (length c.cells), early_free (length c.cells) net (all_early net) bit);
  }
