-- What is free, and that its digit stays.
use Rattle.std.proofs.Common.{◌≡◌, ℕ, zero, suc, ◌+◌, ◌-◌, ◌<◌, List, [], ◌∷◌, refl, sym, ◌∙◌, ap, subst, arith, inl, inr, Bool, true, Option, Some, None}
use Rattle.std.specs.Prelude.{slice_get, slice_index, cond, false, ◌&&◌, ◌||◌}
use Rattle.std.specs.Int.{bit_at}
use Rattle.std.proofs.lemmas.Bool.{cases_eq, false≢true, and_parts, and_from}
use Rattle.circuit.specs.Signal.{Digits, Reads, sig_number}
use Rattle.circuit.specs.State.{State, Stored, addressed_row}
use Rattle.circuit.specs.Valuation.{drive_of, port_digit, read_digit, cell_digit, given, driven, digit_within, IsValuation}
use Rattle.circuit.specs.Acyclic.{Test, all_below, sig_acyclic, cell_acyclic, port_acyclic, read_acyclic, by_acyclic, drive_acyclic, acyclic_within}
use Rattle.circuit.specs.declared.netlist.Circuit.{Circuit}
use Rattle.circuit.specs.declared.netlist.Drive.{Drive}
use Rattle.circuit.specs.declared.cell.Cell.{Cell}
use Rattle.circuit.specs.declared.netlist.By.{By}
use Rattle.circuit.specs.declared.netlist.By.TheVariants as by
use Rattle.circuit.specs.declared.netlist.Piece.{Piece}
use Rattle.circuit.specs.declared.netlist.Piece.TheVariants as piece
use Rattle.circuit.specs.declared.memory.Mem.{Mem}
use Rattle.circuit.specs.declared.memory.ReadPort.{ReadPort}
use Rattle.circuit.proofs.Same.{sig_same, cell_same}

all_at : (p : ℕ → Bool) (n : ℕ) → all_below p n ≡ true → (k : ℕ) → k < n → p k ≡ true
unfolding all_below
all_at p zero h k lt = absurd (omega (arith, lt))
all_at p (suc n) h k lt = elim (cases_eq k n) [
  | inl e ↦ ap p e ∙ (and_parts (p n) (all_below p n) h).0
  | inr ne ↦ all_at p n (and_parts (p n) (all_below p n) h).1 k (omega (arith, lt, ne))
]

all_from : (p : ℕ → Bool) (n : ℕ) → ((k : ℕ) → k < n → p k ≡ true) → all_below p n ≡ true
unfolding all_below
all_from p zero h = refl
all_from p (suc n) h = and_from (p n) (all_below p n) (h n (omega arith)) (all_from p n (λ k lt. h k (omega (arith, lt))))

-- a sig is free where each bit that it reads is
pub sig_reads : (free : Test) (ps : List Piece) → sig_acyclic free ps ≡ true → (net bit : ℕ) → Reads ps net bit → free net bit ≡ true
unfolding sig_acyclic Reads
sig_reads free [] h net bit r = absurd r
sig_reads free (piece.Const v ∷ ps) h net bit r = sig_reads free ps h net bit r
sig_reads free (piece.Part n at w ∷ ps) h net bit (inl r) =
    let a : free n (at + (bit - at)) ≡ true = all_at (λ j. free n (at + j)) w (and_parts (all_below (λ j. free n (at + j)) w) (sig_acyclic free ps) h).0 (bit - at) (omega (arith, r.1, r.2)) in
    let e : at + (bit - at) ≡ bit = omega (arith, r.1) in
    sym (ap (λ n. free n bit) r.0) ∙ sym (ap (free n) e) ∙ a
sig_reads free (piece.Part n at w ∷ ps) h net bit (inr r) =
    sig_reads free ps (and_parts (all_below (λ j. free n (at + j)) w) (sig_acyclic free ps) h).1 net bit r

pub sig_from : (free : Test) (ps : List Piece) → ((net bit : ℕ) → Reads ps net bit → free net bit ≡ true) → sig_acyclic free ps ≡ true
unfolding sig_acyclic Reads
sig_from free [] h = refl
sig_from free (piece.Const v ∷ ps) h = sig_from free ps h
sig_from free (piece.Part n at w ∷ ps) h =
    and_from (all_below (λ j. free n (at + j)) w) (sig_acyclic free ps)
    (all_from (λ j. free n (at + j)) w (λ k lt. h n (at + k) (inl (refl, omega arith, omega (arith, lt)))))
    (sig_from free ps (λ net bit r. h net bit (inr r)))

sig_up : (f g : Test) → ((net bit : ℕ) → f net bit ≡ true → g net bit ≡ true) → (ps : List Piece) → sig_acyclic f ps ≡ true → sig_acyclic g ps ≡ true
sig_up f g up ps h = sig_from g ps (λ net bit r. up net bit (sig_reads f ps h net bit r))

pub cell_up : (f g : Test) → ((net bit : ℕ) → f net bit ≡ true → g net bit ≡ true) → (o : Option Cell) → cell_acyclic f o ≡ true → cell_acyclic g o ≡ true
cell_up f g up None h = refl
cell_up f g up (Some c) h =
    let p = and_parts (sig_acyclic f c.a) (sig_acyclic f c.b && sig_acyclic f c.s) h in
    let q = and_parts (sig_acyclic f c.b) (sig_acyclic f c.s) p.1 in
    and_from (sig_acyclic g c.a) (sig_acyclic g c.b && sig_acyclic g c.s) (sig_up f g up c.a p.0)
    (and_from (sig_acyclic g c.b) (sig_acyclic g c.s) (sig_up f g up c.b q.0) (sig_up f g up c.s q.1))

port_up : (f g : Test) → ((net bit : ℕ) → f net bit ≡ true → g net bit ≡ true) → (o : Option ReadPort) → port_acyclic f o ≡ true → port_acyclic g o ≡ true
port_up f g up None h = refl
port_up f g up (Some p) h = by p.clocked h
  where
    by : (clocked : Bool) → (clocked || sig_acyclic f p.addr) ≡ true → (clocked || sig_acyclic g p.addr) ≡ true
    by true e = refl
    by false e = sig_up f g up p.addr e

read_up : (f g : Test) → ((net bit : ℕ) → f net bit ≡ true → g net bit ≡ true) → (o : Option Mem) (n : ℕ) → read_acyclic f o n ≡ true → read_acyclic g o n ≡ true
read_up f g up None n h = refl
read_up f g up (Some m) n h = port_up f g up (slice_get m.reads n) h

by_up : (c : Circuit) (f g : Test) → ((net bit : ℕ) → f net bit ≡ true → g net bit ≡ true) → (b : By) (i : ℕ) → by_acyclic c f b i ≡ true → by_acyclic c g b i ≡ true
by_up c f g up (by.Const v) i h = h
by_up c f g up (by.Input n at) i h = h
by_up c f g up (by.Wire n at) i h = up n (at + i) h
by_up c f g up (by.Cell n at) i h = cell_up f g up (slice_get c.cells n) h
by_up c f g up (by.Reg n at) i h = h
by_up c f g up (by.Read m n at) i h = read_up f g up (slice_get c.mems m) n h

pub drive_up : (c : Circuit) (f g : Test) → ((net bit : ℕ) → f net bit ≡ true → g net bit ≡ true) → (bit : ℕ) (m : Option Drive) → drive_acyclic c f bit m ≡ true → drive_acyclic c g bit m ≡ true
drive_up c f g up bit None h = h
drive_up c f g up bit (Some d) h = by_up c f g up d.by (bit - d.at) h

pub free_more : (c : Circuit) (s net bit : ℕ) → acyclic_within c s net bit ≡ true → acyclic_within c (suc s) net bit ≡ true
unfolding acyclic_within
free_more c zero net bit h = absurd (false≢true h)
free_more c (suc s) net bit h = drive_up c (acyclic_within c s) (acyclic_within c (suc s)) (free_more c s) bit (drive_of c net bit) h

pub free_keeps : (c : Circuit) (s : ℕ) → ((net bit : ℕ) → acyclic_within c (suc s) net bit ≡ true → acyclic_within c s net bit ≡ true) → (net bit : ℕ) → acyclic_within c (suc (suc s)) net bit ≡ true → acyclic_within c (suc s) net bit ≡ true
unfolding acyclic_within
free_keeps c s down net bit h = drive_up c (acyclic_within c (suc s)) (acyclic_within c s) down bit (drive_of c net bit) h

pub free_later : (c : Circuit) (s k net bit : ℕ) → acyclic_within c s net bit ≡ true → acyclic_within c (k + s) net bit ≡ true
free_later c s zero net bit h = subst (λ (n : ℕ). acyclic_within c n net bit ≡ true) (let z : s ≡ 0 + s = omega arith in z) h
free_later c s (suc k) net bit h = subst (λ (n : ℕ). acyclic_within c n net bit ≡ true) (let z : suc (k + s) ≡ suc k + s = omega arith in z) (free_more c (k + s) net bit (free_later c s k net bit h))

-- ---- the digit of a free bit stays
module _ (c : Circuit) (state : State) (inputs : List ℕ) (free : Test) (d e : Digits) (same : (net bit : ℕ) → free net bit ≡ true → d net bit ≡ e net bit) where
  cell_stays : (o : Option Cell) → cell_acyclic free o ≡ true → (i : ℕ) → cell_digit d o i ≡ cell_digit e o i
  cell_stays None h i = refl
  cell_stays (Some x) h i =
      let p = and_parts (sig_acyclic free x.a) (sig_acyclic free x.b && sig_acyclic free x.s) h in
      let q = and_parts (sig_acyclic free x.b) (sig_acyclic free x.s) p.1 in
      ap (λ n. bit_at n i) (cell_same x d e (λ net bit r. same net bit (elim r [
        | inl a ↦ sig_reads free x.a p.0 net bit a
        | inr t ↦ elim t [ inl b ↦ sig_reads free x.b q.0 net bit b | inr s ↦ sig_reads free x.s q.1 net bit s ]
      ])))

  port_stays : (m : Mem) (kept : Stored) (n : ℕ) (o : Option ReadPort) → port_acyclic free o ≡ true → (i : ℕ) → port_digit d m kept n o i ≡ port_digit e m kept n o i
  port_stays m kept n None h i = refl
  port_stays m kept n (Some p) h i = by p.clocked h
    where
      by : (clocked : Bool) → (clocked || sig_acyclic free p.addr) ≡ true
          → bit_at (cond clocked (slice_index kept.reads n) (addressed_row m kept.rows (sig_number d p.addr))) i ≡ bit_at (cond clocked (slice_index kept.reads n) (addressed_row m kept.rows (sig_number e p.addr))) i
      by true t = refl
      by false t = ap (λ a. bit_at (addressed_row m kept.rows a) i) (sig_same p.addr d e (λ net bit r. same net bit (sig_reads free p.addr t net bit r)))

  read_stays : (o : Option Mem) (kept : Option Stored) (n : ℕ) → read_acyclic free o n ≡ true → (i : ℕ) → read_digit d o kept n i ≡ read_digit e o kept n i
  read_stays None kept n h i = refl
  read_stays (Some m) None n h i = refl
  read_stays (Some m) (Some kept) n h i = port_stays m kept n (slice_get m.reads n) h i

  given_stays : (b : By) (i : ℕ) → by_acyclic c free b i ≡ true → given c state inputs d b i ≡ given c state inputs e b i
  given_stays (by.Const v) i h = refl
  given_stays (by.Input n at) i h = refl
  given_stays (by.Wire n at) i h = same n (at + i) h
  given_stays (by.Cell n at) i h = cell_stays (slice_get c.cells n) h (at + i)
  given_stays (by.Reg n at) i h = refl
  given_stays (by.Read m n at) i h = read_stays (slice_get c.mems m) (slice_get state.mems m) n h (at + i)

  pub driven_stays : (bit : ℕ) (m : Option Drive) → drive_acyclic c free bit m ≡ true → driven c state inputs d bit m ≡ driven c state inputs e bit m
  driven_stays bit None h = refl
  driven_stays bit (Some x) h = given_stays x.by (bit - x.at) h

pub digit_stays : (c : Circuit) (state : State) (inputs : List ℕ) (s net bit : ℕ) → acyclic_within c s net bit ≡ true → digit_within c state inputs (suc s) net bit ≡ digit_within c state inputs s net bit
unfolding acyclic_within digit_within
digit_stays c state inputs zero net bit h = absurd (false≢true h)
digit_stays c state inputs (suc s) net bit h =
    driven_stays c state inputs (acyclic_within c s) (digit_within c state inputs (suc s)) (digit_within c state inputs s) (digit_stays c state inputs s) bit (drive_of c net bit) h

-- where all bits are free within some steps, the digits after them are a valuation
pub valuation_from_free : (c : Circuit) (state : State) (inputs : List ℕ) (s : ℕ) → ((net bit : ℕ) → acyclic_within c s net bit ≡ true) → IsValuation c state inputs (digit_within c state inputs s)
unfolding digit_within
valuation_from_free c state inputs s all net bit = sym (digit_stays c state inputs s net bit (all net bit))

-- a free bit has the same digit in all valuations
pub free_unique : (c : Circuit) (state : State) (inputs : List ℕ) (d e : Digits) → IsValuation c state inputs d → IsValuation c state inputs e → (s net bit : ℕ) → acyclic_within c s net bit ≡ true → d net bit ≡ e net bit
unfolding acyclic_within
free_unique c state inputs d e vd ve zero net bit h = absurd (false≢true h)
free_unique c state inputs d e vd ve (suc s) net bit h =
    vd net bit ∙ driven_stays c state inputs (acyclic_within c s) d e (free_unique c state inputs d e vd ve s) bit (drive_of c net bit) h ∙ sym (ve net bit)
