-- Modules and files.
use Rattle.std.specs.Prelude.{List, [], ◌∷◌, ◌++◌, length, Bool, Result, Ok, Err, codes, ◌==◌, if◌then◌else◌}
use Rattle.rtlil_lexer.specs.declared.token.Token.{Token}
use Rattle.rtlil_lexer.specs.declared.fault.TextFault.{TextFault}
use Rattle.rtlil_tree.specs.declared.cursor.Sign.TheVariants as sign
use Rattle.rtlil_tree.specs.declared.module.Attribute.{Attribute}
use Rattle.rtlil_tree.specs.declared.module.Statement.{Statement}
use Rattle.rtlil_tree.specs.declared.module.Statement.TheVariants as statement
use Rattle.rtlil_tree.specs.declared.module.Module.{Module}
use Rattle.rtlil_tree.specs.declared.module.File.{File}
use Rattle.rtlil_tree.specs.declared.draft.Statements.{Statements}
use Rattle.rtlil_tree.specs.declared.draft.Modules.{Modules}
use Rattle.rtlil_tree.specs.Input.{start, Outcome, Rule, ◌>>=◌, ◌>>◌, ◌<$>◌, pure, refuse, on, on_word, expect, sees_word, next, place, identifier, integer, more, stop, many, up_to_end}
use Rattle.rtlil_tree.specs.Statements.{attribute, assignment, parameter, wire, memory, cell}
use Rattle.rtlil_tree.specs.Processes.{process}

-- a statement behind those that were read; no attribute waits any more
abbrev pub with_statement : Statements → Statement → Statements
with_statement draft s = record { waiting = []; found = draft.found ++ s ∷ [] }

-- one statement, with the attributes that wait; those before a parameter, a connection and a process are dropped
unfoldable pub statement_with : List Attribute → Rule Statement
statement_with waiting =
    on_word (codes "parameter") (statement.Parameter <$> parameter) (
    on_word (codes "wire") (statement.Wire <$> wire waiting) (
    on_word (codes "memory") (statement.Memory <$> memory waiting) (
    on_word (codes "cell") (statement.Cell <$> cell waiting) (
    on_word (codes "connect") (statement.Connect <$> assignment) (
    λ i. (on_word (codes "process") (statement.Process <$> process (place i)) refuse) i)))))

unfoldable pub statement_line : Statements → Rule (Statements × Bool)
statement_line draft = statement_with draft.waiting >>= λ s. more (with_statement draft s)

-- one line of a module, or several that belong together
unfoldable pub module_line : Statements → Rule (Statements × Bool)
module_line draft =
    on sign.EndOfLine (more draft) (
    on_word (codes "attribute") (attribute >>= λ a. more (record draft { waiting = draft.waiting ++ a ∷ [] })) (
    on_word (codes "end") (expect sign.EndOfLine >> stop draft) (
    statement_line draft)))

unfoldable pub module_lines : Rule Statements
module_lines = up_to_end module_line (record { waiting = []; found = [] })

-- id eol { stmt } "end" eol, from behind `module` on, with the attributes before it
unfoldable pub module_with : List Attribute → Rule Module
module_with attributes = do
  name ← identifier
  expect sign.EndOfLine
  lines ← module_lines
  pure (record { name = name; attributes = attributes; statements = lines.found })

unfoldable pub module_part : Modules → Rule (Modules × Bool)
module_part draft = module_with draft.waiting >>= λ m. more (record { waiting = []; found = draft.found ++ m ∷ [] })

-- one line of a file, or several that belong together; an attribute before `autoidx` is dropped
unfoldable pub file_line : Modules → Rule (Modules × Bool)
file_line draft = λ i.
    if length i.rest == 0 then stop draft i else
    (on sign.EndOfLine (more draft) (
    on_word (codes "autoidx") (integer >>= λ _. expect sign.EndOfLine >> more (record draft { waiting = [] })) (
    on_word (codes "attribute") (attribute >>= λ a. more (record draft { waiting = draft.waiting ++ a ∷ [] })) (
    on_word (codes "module") (module_part draft)
    refuse)))) i

unfoldable pub file_lines : Rule Modules
file_lines = many file_line (record { waiting = []; found = [] })

unfoldable pub file : Rule File
file = do
  lines ← file_lines
  pure (record { modules = lines.found })

abbrev pub tree_in : Outcome File → Result File TextFault
tree_in (Ok p) = Ok p.0
tree_in (Err e) = Err e

-- the tree of a file's tokens, or the first token that fits no rule
abbrev pub parsed : List Token → Result File TextFault
parsed tokens = tree_in (file (start tokens))
