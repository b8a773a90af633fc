-- The cells of an instance by their types.
use Rattle.std.specs.Prelude.{◌≡◌, ℕ, List, [], ◌∷◌, Bool, true, false, not, Option, Some, None, Result, Ok, Err, bytes_eq, codes, if◌then◌else◌, option_map}
use Rattle.cell_library.specs.Lines.{TypeLine}
use Rattle.cell_library.specs.Table.{line_of}
use Rattle.circuit.specs.declared.fault.DesignKind.TheVariants as kind
use Rattle.rtlil_tree.specs.declared.module.Cell.{Cell}
use Rattle.rtlil_signals.specs.Signals.{Scope}
use Rattle.design_parts.specs.Parts.{Check, Made, Runs, Walk, at, check}
use Rattle.design_parts.specs.declared.refusal.Refusal.{Refusal}
use Rattle.design_wires.specs.Places.{InstancePlace}
use Rattle.design_cells.specs.Cells.{library_cell}
use Rattle.design_memory.specs.Memories.{memory}
use Rattle.design_diagnostics.specs.Diagnostics.{silent_cell}
use Rattle.design_diagnostics.specs.Names.{type_named}
use Rattle.design_diagnostics.specs.declared.names.SilentType.{SilentType}

-- a name of the cell stands for something else already
abbrev pub clash_checks : List ℕ → Bool → Cell → List Check
clash_checks owner clash c = check (not clash) (at kind.DuplicateName owner c.name) ∷ []

-- ---- types that are no modules

abbrev pub of_line : InstancePlace → Scope → Cell → Option TypeLine → Option Walk
of_line here scope c line = option_map (λ l. library_cell here.owner scope l c) line

abbrev pub of_memory : InstancePlace → Scope → Cell → Bool → Option Walk
of_memory here scope c memory_type = if memory_type then Some (memory here scope c) else None

abbrev pub of_silent : InstancePlace → Scope → Cell → Option SilentType → Option Walk
of_silent here scope c silent = option_map (λ t. silent_cell here scope t c) silent

-- the first of two that is there
abbrev pub or_else : Option Walk → Option Walk → Option Walk
or_else None w = w
or_else (Some v) w = Some v

-- what a cell gives that is of the library, a memory, or of a type that drives nothing; none where its type is another
-- one
unfoldable pub typed_cell : InstancePlace → Scope → Cell → Option Walk
typed_cell here scope c =
    or_else (of_line here scope c (line_of c.kind))
    (or_else (of_memory here scope c (bytes_eq c.kind (codes "$mem_v2")))
    (of_silent here scope c (type_named c.kind)))

-- what a function ensures that adds such a part, and answers whether there is one
abbrev pub Answers : Bool → Result Bool Refusal → Type 0
Answers b (Ok found) = found ≡ b
Answers b (Err e) = Unit {0}

abbrev pub IsUntaken : Made → Result Bool Refusal → Made → Type 0
IsUntaken old (Ok found) new = (found ≡ false) × (new ≡ old)
IsUntaken old (Err e) new = ⊥

abbrev pub RunsIf : Option Walk → Made → Result Bool Refusal → Made → Type 0
RunsIf (Some w) old r new = Answers true r × Runs w old r new
RunsIf None old r new = IsUntaken old r new
