-- What roots take that no node computes.
use Rattle.std.specs.Prelude.{◌≡◌, ℕ, ◌+◌, ◌<◌, ◌≤◌, List, Bool, true, false, Option, Some, None, option_and_then, slice_get}
use Rattle.sim_base.specs.BitValue.{BitValue}
use Rattle.circuit.specs.declared.netlist.Drive.{Drive}
use Rattle.circuit.specs.declared.netlist.By.{By}
use Rattle.circuit.specs.declared.netlist.By.TheVariants as by
use Rattle.driver_check.specs.Depends.{Bit}
use Rattle.eval_plan.specs.Roots.{CoversIn}
use Rattle.signal_words.specs.Values.{digits_in}
use Rattle.eval_commit.specs.Spread.{taken_digit}
use Rattle.circuit.specs.Valuation.{offset_of}

-- the values of the inputs, of the registers, and of the read ports of each memory
pub record Kept : Type 0 where
  pub inputs : List BitValue
  pub regs : List BitValue
  pub reads : List (List BitValue)

-- constants, inputs, registers and read ports
abbrev pub is_kept : By → Bool
is_kept (by.Const v) = true
is_kept (by.Input n at) = true
is_kept (by.Wire n at) = false
is_kept (by.Cell n at) = false
is_kept (by.Reg n at) = true
is_kept (by.Read m n at) = true

abbrev pub kept_value : Kept → By → Option BitValue
kept_value kept (by.Const v) = Some v
kept_value kept (by.Input n at) = slice_get kept.inputs n
kept_value kept (by.Wire n at) = None
kept_value kept (by.Cell n at) = None
kept_value kept (by.Reg n at) = slice_get kept.regs n
kept_value kept (by.Read m n at) = option_and_then (λ outs. slice_get outs n) (slice_get kept.reads m)

-- what a root takes has so many bits, where it is kept
abbrev pub HasKept : Kept → Drive → Type 0
HasKept kept r = is_kept r.by ≡ true → (v : BitValue) × (kept_value kept r.by ≡ Some v) × (offset_of r.by + r.width ≤ v.width)

-- the bits of those of the first t roots that take kept values have these, and bits of no such root what they had
pub record IsSeeded (roots : List Drive) (kept : Kept) (t : ℕ) (before after : List BitValue) : Type 0 where
  pub taken : (i : ℕ) (r : Drive) (x : Bit) (v : BitValue) → i < t → CoversIn roots i r x → is_kept r.by ≡ true → kept_value kept r.by ≡ Some v → digits_in after x.0 x.1 ≡ taken_digit v.number r x
  pub bare : (x : Bit) → ((i : ℕ) (r : Drive) → CoversIn roots i r x → is_kept r.by ≡ false) → digits_in after x.0 x.1 ≡ digits_in before x.0 x.1
