-- Which module of a file is the top.
use Rattle.std.specs.Prelude.{ℕ, ◌+◌, ◌==◌, List, [], ◌∷◌, length, slice_get, Bool, true, false, not, nat_le, Option, Some, None, bytes_eq, codes, if◌then◌else◌}
use Rattle.circuit.specs.declared.fault.DesignFault.{DesignFault}
use Rattle.circuit.specs.declared.fault.DesignKind.{DesignKind}
use Rattle.circuit.specs.declared.fault.DesignKind.TheVariants as kind
use Rattle.rtlil_tree.specs.Attributes.{attribute_value}
use Rattle.rtlil_tree.specs.declared.module.Module.{Module}
use Rattle.rtlil_tree.specs.declared.sig.Const.{Const}
use Rattle.rtlil_signals.specs.Values.{const_value}
use Rattle.design_parts.specs.Parts.{Check, check}

-- a fault of the whole file
abbrev pub nowhere : DesignKind → DesignFault
nowhere kind = record { kind = kind; place = []; bits = []; drives = [] }

-- ---- what a module says

abbrev pub is_nonzero : Const → Bool
is_nonzero c = not ((const_value c).number == 0)

abbrev pub some_nonzero : Option Const → Bool
some_nonzero None = false
some_nonzero (Some c) = is_nonzero c

-- its attribute `\top` is not zero
abbrev pub is_marked : Module → Bool
is_marked m = some_nonzero (attribute_value (codes "\\top") m.attributes)

abbrev pub has_name : List ℕ → Module → Bool
has_name name m = bytes_eq m.name name

-- ---- the top

-- the numbers of the modules for which a test holds, where the first module has this number
unfoldable pub numbers_of : (Module → Bool) → ℕ → List Module → List ℕ
numbers_of test n [] = []
numbers_of test n (m ∷ ms) = if test m then n ∷ numbers_of test (n + 1) ms else numbers_of test (n + 1) ms

-- those that say that they are tops, or the only one of the file
abbrev pub marked_or_only : List ℕ → ℕ → List ℕ
marked_or_only [] count = if count == 1 then 0 ∷ [] else []
marked_or_only (n ∷ ns) count = n ∷ ns

-- which modules may be the top: those of the name that is given, or else those that say so, or the only one
abbrev pub candidates : List Module → Option (List ℕ) → List ℕ
candidates ms (Some name) = numbers_of (has_name name) 0 ms
candidates ms None = marked_or_only (numbers_of is_marked 0 ms) (length ms)

abbrev pub top_number : List Module → Option (List ℕ) → Option ℕ
top_number ms name = slice_get (candidates ms name) 0

-- a name chooses the first module that has it; a second one is no matter of the top
abbrev pub is_one : Option (List ℕ) → List ℕ → Bool
is_one (Some name) numbers = true
is_one None numbers = nat_le (length numbers) 1

unfoldable pub top_checks : List Module → Option (List ℕ) → List Check
top_checks ms name =
    check (not (length (candidates ms name) == 0)) (nowhere kind.NoTop)
    ∷ check (is_one name (candidates ms name)) (nowhere kind.ManyTops)
    ∷ []
