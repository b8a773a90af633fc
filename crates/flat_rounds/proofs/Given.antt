-- The valuation of a flat circuit gives each net the number of its driver.
use Rattle.std.proofs.Common.{◌≡◌, ℕ, zero, suc, ◌+◌, ◌-◌, ◌^◌, ◌<◌, ◌≤◌, ◌⊎◌, List, [], ◌∷◌, length, true, eqb, leb, ltb, ◌&&◌, Option, Some, None, refl, sym, ◌∙◌, ap, subst, arith, inl, inr, pos, negsuc, ℤ}
use Rattle.std.specs.Prelude.{slice_get, slice_index}
use Rattle.std.specs.Int.{bit_at}
use Rattle.std.proofs.lemmas.Bool.{and_from, eq-eqb, le-leb, lt-ltb, cases_lt}
use Rattle.std.proofs.lemmas.Nat.{mod_below, pow_pos}
use Rattle.std.proofs.lemmas.Nat.Bits.{bit_at-lt}
use Rattle.std.proofs.lemmas.List.{get_or_past}
use Rattle.circuit.specs.Signal.{Digits, digits_of_nets, gathered, sig_number}
use Rattle.circuit.specs.Output.{output, modulo}
use Rattle.circuit.specs.State.{State, Stored}
use Rattle.circuit.specs.Valuation.{covers, drive_of, cell_digit, port_number, port_digit, read_digit, given, driven, digit_within, digit_at, bits_of, numbers_from, valuation, IsValuation}
use Rattle.circuit.specs.declared.netlist.Circuit.{Circuit}
use Rattle.circuit.specs.declared.netlist.Net.{Net}
use Rattle.circuit.specs.declared.cell.Cell.{Cell}
use Rattle.circuit.specs.declared.memory.Mem.{Mem}
use Rattle.circuit.specs.declared.memory.ReadPort.{ReadPort}
use Rattle.circuit.specs.declared.netlist.Drive.{Drive}
use Rattle.circuit.specs.declared.netlist.By.{By}
use Rattle.circuit.specs.declared.netlist.By.TheVariants as by
use Rattle.circuit.specs.declared.netlist.Piece.{Piece}
use Rattle.circuit.specs.declared.netlist.Piece.TheVariants as piece
use Rattle.flat_design.specs.Flat.{IsFlat, IsFlatBy, IsFlatSig, IsFlatPiece, IsFlatCell}
use Rattle.flat_rounds.specs.Fits.{AreInputs}
use Rattle.flat_rounds.specs.Pass.{AreNetNumbers, AreRegNumbers, AreGiven, cell_number, number_given}
use Rattle.flat_rounds.proofs.Words.{gathered_same, gathered_zero, gathered_below, number_gathered}
use Rattle.flat_rounds.proofs.Reading.{one_piece, output_same}
use Rattle.flat_rounds.proofs.Order.{covers_net, find_at}

-- ---- the valuation as a list

slice_at : (xs : List Net) (n : ℕ) → n < length xs → (x : Net) × (slice_get xs n ≡ Some x)
slice_at [] n lt = absurd (omega (arith, lt))
slice_at (x ∷ xs) zero lt = (x, refl)
slice_at (x ∷ xs) (suc n) lt = slice_at xs n (omega (arith, lt))

numbers_length : (digits : Digits) (n : ℕ) (xs : List Net) → length (numbers_from digits n xs) ≡ length xs
unfolding numbers_from
numbers_length digits n [] = refl
numbers_length digits n (x ∷ xs) = ap suc (numbers_length digits (suc n) xs)

numbers_at : (digits : Digits) (n : ℕ) (xs : List Net) (k : ℕ) (x : Net) → slice_get xs k ≡ Some x → slice_index (numbers_from digits n xs) k ≡ gathered (digits (k + n)) x.width
unfolding numbers_from
numbers_at digits n [] k x e = cc e
numbers_at digits n (y ∷ xs) zero x e =
    let same : y ≡ x = cc e in
    let z : n ≡ 0 + n = omega arith in
    ap (λ (v : Net). gathered (digits n) v.width) same ∙ ap (λ m. gathered (digits m) x.width) z
numbers_at digits n (y ∷ xs) (suc k) x e =
    let z : k + suc n ≡ suc k + n = omega arith in
    numbers_at digits (suc n) xs k x e ∙ ap (λ m. gathered (digits m) x.width) z

pub valuation_at : (c : Circuit) (state : State) (inputs : List ℕ) (k : ℕ) (x : Net) → slice_get c.nets k ≡ Some x → slice_index (valuation c state inputs) k ≡ gathered (digit_at c state inputs k) x.width
valuation_at c state inputs k x e =
    let z : k + 0 ≡ k = omega arith in
    numbers_at (digit_at c state inputs) 0 c.nets k x e ∙ ap (λ m. gathered (digit_at c state inputs m) x.width) z

pub valuation_length : (c : Circuit) (state : State) (inputs : List ℕ) → length (valuation c state inputs) ≡ length c.nets
valuation_length c state inputs = numbers_length (digit_at c state inputs) 0 c.nets

-- ---- digits are below 2

module _ (c : Circuit) (state : State) (inputs : List ℕ) (digits : Digits) (small : (net bit : ℕ) → digits net bit < 2) where
  cell_small : (o : Option Cell) (i : ℕ) → cell_digit digits o i < 2
  cell_small None i = omega arith
  cell_small (Some x) i = bit_at-lt (output digits x) i

  port_small : (m : Mem) (kept : Stored) (n : ℕ) (o : Option ReadPort) (i : ℕ) → port_digit digits m kept n o i < 2
  port_small m kept n None i = omega arith
  port_small m kept n (Some p) i = bit_at-lt (port_number digits m kept n p) i

  read_small : (o : Option Mem) (k : Option Stored) (n i : ℕ) → read_digit digits o k n i < 2
  read_small None k n i = omega arith
  read_small (Some m) None n i = omega arith
  read_small (Some m) (Some kept) n i = port_small m kept n (slice_get m.reads n) i

  given_small : (b : By) (i : ℕ) → given c state inputs digits b i < 2
  given_small (by.Const v) i = bit_at-lt v.number i
  given_small (by.Input n at) i = bit_at-lt (slice_index inputs n) (at + i)
  given_small (by.Wire n at) i = small n (at + i)
  given_small (by.Cell n at) i = cell_small (slice_get c.cells n) (at + i)
  given_small (by.Reg n at) i = bit_at-lt (slice_index state.regs n) (at + i)
  given_small (by.Read m n at) i = read_small (slice_get c.mems m) (slice_get state.mems m) n (at + i)

  driven_small : (bit : ℕ) (m : Option Drive) → driven c state inputs digits bit m < 2
  driven_small bit None = omega arith
  driven_small bit (Some d) = given_small d.by (bit - d.at)

digit_small : (c : Circuit) (state : State) (inputs : List ℕ) (s net bit : ℕ) → digit_within c state inputs s net bit < 2
unfolding digit_within
digit_small c state inputs zero net bit = omega arith
digit_small c state inputs (suc s) net bit = driven_small c state inputs (digit_within c state inputs s) (digit_small c state inputs s) bit (drive_of c net bit)

-- each number is below 2 to the width of its net
pub valuation_fits : (c : Circuit) (state : State) (inputs : List ℕ) → AreNetNumbers c (valuation c state inputs)
valuation_fits c state inputs = record {
  long = valuation_length c state inputs;
  below = λ n x e.
      let P : ℕ → Type 0 = λ v. v < 2 ^ x.width in
      subst P (sym (valuation_at c state inputs n x e)) (gathered_below x.width (digit_at c state inputs n) (digit_small c state inputs (suc (bits_of c)) n));
}

-- ---- signals and cells under the valuation

piece_valued : (c : Circuit) (state : State) (inputs : List ℕ) (w : ℕ) (p : Piece) → IsFlatPiece c w p → sig_number (digit_at c state inputs) (p ∷ []) ≡ sig_number (digits_of_nets (valuation c state inputs)) (p ∷ [])
piece_valued c state inputs w (piece.Const v) flat =
    sym (one_piece (digit_at c state inputs) (piece.Const v)) ∙ one_piece (digits_of_nets (valuation c state inputs)) (piece.Const v)
piece_valued c state inputs w (piece.Part net at v) flat =
    let h = flat.2 in
    let e : h.0.width ≡ v = h.2 ∙ sym flat.1 in
    let value : slice_index (valuation c state inputs) net ≡ gathered (digit_at c state inputs net) v =
    valuation_at c state inputs net h.0 h.1 ∙ ap (gathered (digit_at c state inputs net)) e in
    let lt : slice_index (valuation c state inputs) net < 2 ^ v =
    (let P : ℕ → Type 0 = λ k. slice_index (valuation c state inputs) net < 2 ^ k in subst P e ((valuation_fits c state inputs).below net h.0 h.1)) in
    sym (one_piece (digit_at c state inputs) (piece.Part net at v))
    ∙ ap (λ k. gathered (λ j. digit_at c state inputs net (k + j)) v) flat.0
    ∙ gathered_same v (λ j. digit_at c state inputs net (0 + j)) (digit_at c state inputs net) (λ j lt. (let z : 0 + j ≡ j = omega arith in ap (digit_at c state inputs net) z))
    ∙ sym value
    ∙ sym (number_gathered (slice_index (valuation c state inputs) net) v lt)
    ∙ ap (λ k. gathered (λ j. bit_at (slice_index (valuation c state inputs) net) (k + j)) v) (sym flat.0)
    ∙ one_piece (digits_of_nets (valuation c state inputs)) (piece.Part net at v)

sig_valued : (c : Circuit) (state : State) (inputs : List ℕ) (w : ℕ) (ps : List Piece) → IsFlatSig c w ps → sig_number (digit_at c state inputs) ps ≡ sig_number (digits_of_nets (valuation c state inputs)) ps
sig_valued c state inputs w [] flat = absurd flat
sig_valued c state inputs w (p ∷ []) flat = piece_valued c state inputs w p flat.1
sig_valued c state inputs w (p ∷ q ∷ ps) flat = absurd flat

cell_valued : (c : Circuit) (state : State) (inputs : List ℕ) (x : Cell) → IsFlatCell c x → output (digit_at c state inputs) x ≡ output (digits_of_nets (valuation c state inputs)) x
cell_valued c state inputs x flat =
    output_same x (digit_at c state inputs) (digits_of_nets (valuation c state inputs)) flat.s
    (sig_valued c state inputs flat.a.0 x.a flat.a.1) (sig_valued c state inputs flat.b.0 x.b flat.b.1)

-- ---- what a driver gives

modulo_below : (w : ℕ) (z : ℤ) → modulo w z < 2 ^ w
modulo_below w (pos n) = mod_below n (2 ^ w) (pow_pos w)
modulo_below w (negsuc n) = let p : 0 < 2 ^ w = pow_pos w in omega arith

pub output_below : (d : Digits) (x : Cell) → output d x < 2 ^ x.width
output_below d x = modulo_below x.width _

-- a cell's number is below 2 to its width
cell_below : (d : Digits) (w : ℕ) (o : Option Cell) (x : Cell) → o ≡ Some x → x.width ≡ w → cell_number d o < 2 ^ w
cell_below d w o x e wide =
    let P : Option Cell → Type 0 = λ m. cell_number d m < 2 ^ w in
    let Q : ℕ → Type 0 = λ k. output d x < 2 ^ k in
    subst P (sym e) (subst Q wide (output_below d x))

module _ (c : Circuit) (state : State) (inputs : List ℕ) (flat : IsFlat c) (ins : AreInputs c inputs) (regs : AreRegNumbers c state.regs) where
  -- the number that a driver gives to its net is below 2 to the net's width
  pub given_below : (d : Digits) (net width : ℕ) (x : Net) → slice_get c.nets net ≡ Some x → x.width ≡ width → (b : By) → IsFlatBy c net width b → number_given c state.regs inputs d b < 2 ^ width
  given_below d net width x at wide (by.Const v) h = absurd h
  given_below d net width x at wide (by.Input n k) h =
      let P : ℕ → Type 0 = λ m. slice_index inputs n < 2 ^ m in
      subst P wide (ins.below n x (ap (slice_get c.nets) h.2 ∙ at))
  given_below d net width x at wide (by.Wire n k) h = absurd h
  given_below d net width x at wide (by.Cell n k) h = cell_below d width (slice_get c.cells n) h.1 h.2 h.3
  given_below d net width x at wide (by.Reg n k) h =
      let P : ℕ → Type 0 = λ m. slice_index state.regs n < 2 ^ m in
      subst P h.3 (regs.below n h.1 h.2)
  given_below d net width x at wide (by.Read m n k) h = absurd h

  digit_given : (net width : ℕ) (b : By) (i : ℕ) → IsFlatBy c net width b → given c state inputs (digit_at c state inputs) b i ≡ bit_at (number_given c state.regs inputs (digits_of_nets (valuation c state inputs)) b) (0 + i)
  digit_given net width (by.Const v) i h = absurd h
  digit_given net width (by.Input n k) i h = ap (λ m. bit_at (slice_index inputs n) (m + i)) h.0
  digit_given net width (by.Wire n k) i h = absurd h
  digit_given net width (by.Read m n k) i h = absurd h
  digit_given net width (by.Reg n k) i h = ap (λ m. bit_at (slice_index state.regs n) (m + i)) h.0
  digit_given net width (by.Cell n k) i h =
      ap (λ o. cell_digit (digit_at c state inputs) o (k + i)) h.2
      ∙ ap (λ m. bit_at m (k + i)) (cell_valued c state inputs h.1 (flat.cells n h.1 h.2))
      ∙ ap (λ m. bit_at (output (digits_of_nets (valuation c state inputs)) h.1) (m + i)) h.0
      ∙ ap (λ o. bit_at (cell_number (digits_of_nets (valuation c state inputs)) o) (0 + i)) (sym h.2)

  drive_covers : (d : Drive) (j : ℕ) → d.at ≡ 0 → j < d.width → covers d.net j d ≡ true
  drive_covers d j e lt =
      and_from (eqb d.net d.net) (leb d.at j && ltb j (d.at + d.width)) (eq-eqb d.net d.net refl)
      (and_from (leb d.at j) (ltb j (d.at + d.width)) (le-leb d.at j (omega (arith, e))) (lt-ltb j (d.at + d.width) (omega (arith, e, lt))))

  pub valuation_given : IsValuation c state inputs (digit_at c state inputs)
      → ((i net bit : ℕ) (d : Drive) → slice_get c.drives i ≡ Some d → covers net bit d ≡ true → digit_at c state inputs net bit ≡ given c state inputs (digit_at c state inputs) d.by (bit - d.at))
      → AreGiven c state.regs inputs (valuation c state inputs)
  valuation_given valued driver = record { driven = is_driven; undriven = λ n none. is_zero n none (cases_lt n (length c.nets)) }
    where
      is_driven : (i : ℕ) (d : Drive) → slice_get c.drives i ≡ Some d → slice_index (valuation c state inputs) d.net ≡ number_given c state.regs inputs (digits_of_nets (valuation c state inputs)) d.by
      is_driven i d at =
          let h = flat.drives i d at in
          valuation_at c state inputs d.net h.1.0 h.1.1 ∙ ap (gathered (digit_at c state inputs d.net)) h.1.2
          ∙ gathered_same d.width (digit_at c state inputs d.net) (λ j. bit_at (number_given c state.regs inputs (digits_of_nets (valuation c state inputs)) d.by) (0 + j))
          (λ j lt.
          (let z : j - d.at ≡ j = omega (arith, h.0) in
          driver i d.net j d at (drive_covers d j h.0 lt) ∙ ap (given c state inputs (digit_at c state inputs) d.by) z ∙ digit_given d.net d.width d.by j h.2))
          ∙ number_gathered (number_given c state.regs inputs (digits_of_nets (valuation c state inputs)) d.by) d.width
          (given_below (digits_of_nets (valuation c state inputs)) d.net d.width h.1.0 h.1.1 h.1.2 d.by h.2)

      bare : (n j : ℕ) → ((i : ℕ) (d : Drive) → slice_get c.drives i ≡ Some d → d.net ≡ n → ⊥) → (m : Option Drive) → drive_of c n j ≡ m → driven c state inputs (digit_at c state inputs) j m ≡ 0
      bare n j none None e = refl
      bare n j none (Some d) e = let f = find_at (covers n j) c.drives d e in absurd (none f.0 d f.1 (covers_net n j d f.2))

      is_zero : (n : ℕ) → ((i : ℕ) (d : Drive) → slice_get c.drives i ≡ Some d → d.net ≡ n → ⊥) → (n < length c.nets) ⊎ (length c.nets ≤ n) → slice_index (valuation c state inputs) n ≡ 0
      is_zero n none (inl lt) =
          (let x = slice_at c.nets n lt in
          valuation_at c state inputs n x.0 x.1 ∙ gathered_zero x.0.width (digit_at c state inputs n) (λ j. valued n j ∙ bare n j none (drive_of c n j) refl))
      is_zero n none (inr ge) =
          get_or_past (valuation c state inputs) n 0 (omega (arith, valuation_length c state inputs, ge))
