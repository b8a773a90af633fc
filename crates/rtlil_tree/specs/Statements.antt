-- The lines of a module.
use Rattle.std.specs.Prelude.{ℕ, ℤ, pos, List, [], ◌∷◌, ◌++◌, Bool, true, false, Option, Some, None, codes, if◌then◌else◌}
use Rattle.rtlil_tree.specs.declared.cursor.Sign.TheVariants as sign
use Rattle.rtlil_tree.specs.declared.sig.Const.{Const}
use Rattle.rtlil_tree.specs.declared.module.Attribute.{Attribute}
use Rattle.rtlil_tree.specs.declared.module.Assignment.{Assignment}
use Rattle.rtlil_tree.specs.declared.module.ParameterKind.{ParameterKind}
use Rattle.rtlil_tree.specs.declared.module.ParameterKind.TheVariants as kind
use Rattle.rtlil_tree.specs.declared.module.Parameter.{Parameter}
use Rattle.rtlil_tree.specs.declared.module.WireOptions.{WireOptions}
use Rattle.rtlil_tree.specs.declared.module.Wire.{Wire}
use Rattle.rtlil_tree.specs.declared.module.MemoryOptions.{MemoryOptions}
use Rattle.rtlil_tree.specs.declared.module.Memory.{Memory}
use Rattle.rtlil_tree.specs.declared.module.Setting.{Setting}
use Rattle.rtlil_tree.specs.declared.module.Connection.{Connection}
use Rattle.rtlil_tree.specs.declared.module.Cell.{Cell}
use Rattle.rtlil_tree.specs.Input.{Rule, ◌>>=◌, ◌>>◌, ◌<$>◌, pure, refuse, on, on_word, expect, sees, identifier, integer, natural, more, stop, many, up_to_end}
use Rattle.rtlil_tree.specs.Sigs.{constant, sig}

-- id const eol, from behind `attribute` on
unfoldable pub attribute : Rule Attribute
attribute = do
  name ← identifier
  value ← constant
  expect sign.EndOfLine
  pure (record { name = name; value = value })

-- sig sig eol
unfoldable pub assignment : Rule Assignment
assignment = do
  left ← sig
  right ← sig
  expect sign.EndOfLine
  pure (record { left = left; right = right })

-- ---- parameters

-- [ "signed" | "real" ]
unfoldable pub parameter_kind : Rule ParameterKind
parameter_kind = on_word (codes "signed") (pure kind.Signed) (on_word (codes "real") (pure kind.Real) (pure kind.Plain))

-- [ const ], before an end of line
unfoldable pub default : Rule (Option Const)
default = λ i. if sees sign.EndOfLine i then pure None i else (Some <$> constant) i

-- [ "signed" | "real" ] id [ const ] eol, from behind `parameter` on
unfoldable pub parameter : Rule Parameter
parameter = do
  kind ← parameter_kind
  name ← identifier
  given ← default
  expect sign.EndOfLine
  pure (record { kind = kind; name = name; default = given })

-- ---- wires

abbrev pub plain_wire : WireOptions
plain_wire = record { width = 1; offset = pos 0; input = None; output = None; inout = None; upto = false; signed = false }

-- one option of a wire, if it is one
unfoldable pub wire_option : WireOptions → Rule (WireOptions × Bool)
wire_option o =
    on_word (codes "width") (natural >>= λ n. more (record o { width = n })) (
    on_word (codes "offset") (integer >>= λ n. more (record o { offset = n })) (
    on_word (codes "input") (integer >>= λ n. more (record o { input = Some n })) (
    on_word (codes "output") (integer >>= λ n. more (record o { output = Some n })) (
    on_word (codes "inout") (integer >>= λ n. more (record o { inout = Some n })) (
    on_word (codes "upto") (more (record o { upto = true })) (
    on_word (codes "signed") (more (record o { signed = true })) (
    stop o)))))))

unfoldable pub wire_options : Rule WireOptions
wire_options = many wire_option plain_wire

-- { wopt } id eol, from behind `wire` on, with the attributes before it
unfoldable pub wire : List Attribute → Rule Wire
wire attributes = do
  options ← wire_options
  name ← identifier
  expect sign.EndOfLine
  pure (record { name = name; options = options; attributes = attributes })

-- ---- memories

abbrev pub plain_memory : MemoryOptions
plain_memory = record { width = 1; size = pos 0; offset = pos 0 }

-- one option of a memory, if it is one
unfoldable pub memory_option : MemoryOptions → Rule (MemoryOptions × Bool)
memory_option o =
    on_word (codes "width") (natural >>= λ n. more (record o { width = n })) (
    on_word (codes "size") (integer >>= λ n. more (record o { size = n })) (
    on_word (codes "offset") (integer >>= λ n. more (record o { offset = n })) (
    stop o)))

unfoldable pub memory_options : Rule MemoryOptions
memory_options = many memory_option plain_memory

-- { mopt } id eol, from behind `memory` on, with the attributes before it
unfoldable pub memory : List Attribute → Rule Memory
memory attributes = do
  options ← memory_options
  name ← identifier
  expect sign.EndOfLine
  pure (record { name = name; options = options; attributes = attributes })

-- ---- cells

-- [ "signed" | "real" ] id const eol, from behind `parameter` on
unfoldable pub setting : Rule Setting
setting = do
  kind ← parameter_kind
  name ← identifier
  value ← constant
  expect sign.EndOfLine
  pure (record { kind = kind; name = name; value = value })

-- id sig eol, from behind `connect` on
unfoldable pub connection : Rule Connection
connection = do
  port ← identifier
  joined ← sig
  expect sign.EndOfLine
  pure (record { port = port; sig = joined })

-- one line of a cell; an attribute is dropped
unfoldable pub cell_line : Cell → Rule (Cell × Bool)
cell_line cell =
    on sign.EndOfLine (more cell) (
    on_word (codes "attribute") (attribute >>= λ _. more cell) (
    on_word (codes "parameter") (setting >>= λ s. more (record cell { settings = cell.settings ++ s ∷ [] })) (
    on_word (codes "connect") (connection >>= λ c. more (record cell { connections = cell.connections ++ c ∷ [] })) (
    on_word (codes "end") (expect sign.EndOfLine >> stop cell)
    refuse))))

-- a cell that has nothing yet
abbrev pub opened : List ℕ → List ℕ → List Attribute → Cell
opened kind name attributes = record { kind = kind; name = name; attributes = attributes; settings = []; connections = [] }

unfoldable pub cell_lines : Cell → Rule Cell
cell_lines cell = up_to_end cell_line cell

-- id id eol { cline } "end" eol, from behind `cell` on, with the attributes before it
unfoldable pub cell : List Attribute → Rule Cell
cell attributes = do
  kind ← identifier
  name ← identifier
  expect sign.EndOfLine
  cell_lines (opened kind name attributes)
