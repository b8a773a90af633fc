-- Digits are 0 or 1, and each net has a value of its width.
use Rattle.std.proofs.Common.{◌≡◌, ℕ, zero, suc, ◌+◌, ◌-◌, ◌^◌, ◌<◌, List, [], ◌∷◌, sym, ◌∙◌, ap, subst, arith, Option, Some, None}
use Rattle.std.specs.Prelude.{slice_get, slice_index}
use Rattle.std.proofs.lemmas.Nat.Bits.{bit_at-lt}
use Rattle.circuit.specs.Signal.{Digits, gathered}
use Rattle.circuit.specs.Output.{output}
use Rattle.circuit.specs.State.{State, Stored}
use Rattle.circuit.specs.Valuation.{drive_of, cell_digit, port_number, port_digit, read_digit, given, driven, digit_within, digit_at, numbers_from, valuation, bits_of}
use Rattle.circuit.specs.declared.netlist.Circuit.{Circuit}
use Rattle.circuit.specs.declared.netlist.Net.{Net}
use Rattle.circuit.specs.declared.netlist.Drive.{Drive}
use Rattle.circuit.specs.declared.netlist.By.{By}
use Rattle.circuit.specs.declared.netlist.By.TheVariants as by
use Rattle.circuit.specs.declared.cell.Cell.{Cell}
use Rattle.circuit.specs.declared.memory.Mem.{Mem}
use Rattle.circuit.specs.declared.memory.ReadPort.{ReadPort}
use Rattle.circuit.proofs.Gathered.{gathered_below}

module _ (c : Circuit) (state : State) (inputs : List ℕ) (digits : Digits) (small : (net bit : ℕ) → digits net bit < 2) where
  cell_small : (o : Option Cell) (i : ℕ) → cell_digit digits o i < 2
  cell_small None i = omega arith
  cell_small (Some x) i = bit_at-lt (output digits x) i

  port_small : (m : Mem) (kept : Stored) (n : ℕ) (o : Option ReadPort) (i : ℕ) → port_digit digits m kept n o i < 2
  port_small m kept n None i = omega arith
  port_small m kept n (Some p) i = bit_at-lt (port_number digits m kept n p) i

  read_small : (o : Option Mem) (kept : Option Stored) (n i : ℕ) → read_digit digits o kept n i < 2
  read_small None kept n i = omega arith
  read_small (Some m) None n i = omega arith
  read_small (Some m) (Some kept) n i = port_small m kept n (slice_get m.reads n) i

  given_small : (b : By) (i : ℕ) → given c state inputs digits b i < 2
  given_small (by.Const v) i = bit_at-lt v.number i
  given_small (by.Input n at) i = bit_at-lt (slice_index inputs n) (at + i)
  given_small (by.Wire n at) i = small n (at + i)
  given_small (by.Cell n at) i = cell_small (slice_get c.cells n) (at + i)
  given_small (by.Reg n at) i = bit_at-lt (slice_index state.regs n) (at + i)
  given_small (by.Read m n at) i = read_small (slice_get c.mems m) (slice_get state.mems m) n (at + i)

  driven_small : (bit : ℕ) (o : Option Drive) → driven c state inputs digits bit o < 2
  driven_small bit None = omega arith
  driven_small bit (Some d) = given_small d.by (bit - d.at)

pub digit_small : (c : Circuit) (state : State) (inputs : List ℕ) (steps net bit : ℕ) → digit_within c state inputs steps net bit < 2
unfolding digit_within
digit_small c state inputs zero net bit = omega arith
digit_small c state inputs (suc steps) net bit = driven_small c state inputs (digit_within c state inputs steps) (digit_small c state inputs steps) bit (drive_of c net bit)

number_at : (digits : Digits) (n : ℕ) (xs : List Net) (k : ℕ) (x : Net) → slice_get xs k ≡ Some x → slice_index (numbers_from digits n xs) k ≡ gathered (digits (k + n)) x.width
unfolding numbers_from
number_at digits n [] k x e = cc e
number_at digits n (y ∷ xs) zero x e =
    let same : y ≡ x = cc e in
    let z : n ≡ 0 + n = omega arith in
    ap (λ (v : Net). gathered (digits n) v.width) same ∙ ap (λ m. gathered (digits m) x.width) z
number_at digits n (y ∷ xs) (suc k) x e =
    let z : k + suc n ≡ suc k + n = omega arith in
    number_at digits (suc n) xs k x e ∙ ap (λ m. gathered (digits m) x.width) z

pub net_below : (c : Circuit) (state : State) (inputs : List ℕ) (n : ℕ) (x : Net) → slice_get c.nets n ≡ Some x → slice_index (valuation c state inputs) n < 2 ^ x.width
net_below c state inputs n x e =
    subst (λ v. v < 2 ^ x.width) (sym (number_at (digit_at c state inputs) 0 c.nets n x e))
    (gathered_below x.width (digit_at c state inputs (n + 0)) (λ j. digit_small c state inputs (suc (bits_of c)) (n + 0) j))
