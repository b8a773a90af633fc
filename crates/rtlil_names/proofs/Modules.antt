-- The rules of modules and files.
use Rattle.std.proofs.Common.{◌≡◌, ◌==◌, ◌&&◌, List, [], ◌∷◌, ◌++◌, length, Bool, true, Ok, Err, refl, ◌∙◌, subst, codes, arith}
use Rattle.std.specs.List.{list_all}
use Rattle.std.specs.Str.{is_utf8}
use Rattle.std.proofs.lemmas.Bool.{and_from}
use Rattle.std.proofs.lemmas.List.Folds.{list_all-append}
use Rattle.rtlil_lexer.specs.declared.token.Token.{Token}
use Rattle.rtlil_lexer.specs.declared.fault.TextFault.{TextFault}
use Rattle.rtlil_tree.specs.declared.module.Attribute.{Attribute}
use Rattle.rtlil_tree.specs.declared.module.Statement.{Statement}
use Rattle.rtlil_tree.specs.declared.module.Statement.TheVariants as statement
use Rattle.rtlil_tree.specs.declared.module.Module.{Module}
use Rattle.rtlil_tree.specs.declared.module.File.{File}
use Rattle.rtlil_tree.specs.Input.{Outcome, ◌<$>◌, refuse, start}
use Rattle.rtlil_tree.specs.Processes.{process}
use Rattle.rtlil_tree.specs.Modules.{with_statement, statement_with, statement_line, module_line, module_lines, module_with, module_part, file_line, file_lines, file, tree_in, parsed}
use Rattle.rtlil_names.specs.Names.{is_named, is_spaceless, is_text_statement, is_well_named}
use Rattle.rtlil_names.proofs.Named.{IsNamed, AreNamed, Gives, Reads, Stepped, Anything, then_reads, then_after, if_reads, on_reads, word_reads, place_reads, pure_reads, refuse_reads, mapped_reads, more_reads, stop_reads, many_reads, up_to_end_reads}
use Rattle.rtlil_names.proofs.Tokens.{identifier_reads, integer_keeps, expect_keeps}
use Rattle.rtlil_names.proofs.Statements.{IsNamedWire, IsNamedCell, attribute_keeps, assignment_keeps, parameter_keeps, wire_reads, memory_keeps, cell_reads}
use Rattle.rtlil_names.proofs.Processes.{process_keeps}

all_behind : {X : Type 0} (test : X → Bool) (xs : List X) (x : X) → list_all test xs ≡ true → test x ≡ true → list_all test (xs ++ x ∷ []) ≡ true
all_behind test xs x all one = list_all-append test xs (x ∷ []) ∙ and_from (list_all test xs) (test x && true) all (and_from (test x) true one refl)

-- ---- statements

record IsNamedStatement (s : Statement) : Type 0 where
  text : is_text_statement s ≡ true
  spaceless : is_spaceless s ≡ true
  long : is_named s ≡ true

wire_named : (w : _) → IsNamedWire w → IsNamedStatement (statement.Wire w)
wire_named w is = record { text = is.text; spaceless = is.spaceless; long = refl }

cell_named : (c : _) → IsNamedCell c → IsNamedStatement (statement.Cell c)
cell_named c is = record { text = is.text; spaceless = is.spaceless; long = is.long }

abbrev Named : Statement → Type 0
Named = IsNamedStatement

statement_reads : (waiting : List Attribute) → Reads Named (statement_with waiting)
unfolding statement_with
statement_reads waiting =
    word_reads Named _ _ _ (mapped_reads Anything Named statement.Parameter _ (λ p any. record { text = refl; spaceless = refl; long = refl }) parameter_keeps) (
    word_reads Named _ _ _ (mapped_reads IsNamedWire Named statement.Wire _ wire_named (wire_reads waiting)) (
    word_reads Named _ _ _ (mapped_reads Anything Named statement.Memory _ (λ m any. record { text = refl; spaceless = refl; long = refl }) (memory_keeps waiting)) (
    word_reads Named _ _ _ (mapped_reads IsNamedCell Named statement.Cell _ cell_named (cell_reads waiting)) (
    word_reads Named _ _ _ (mapped_reads Anything Named statement.Connect _ (λ a any. record { text = refl; spaceless = refl; long = refl }) assignment_keeps) (
    place_reads Named _ (λ at. word_reads Named (codes "process") (statement.Process <$> process at) refuse (mapped_reads Anything Named statement.Process _ (λ p any. record { text = refl; spaceless = refl; long = refl }) (process_keeps at)) (refuse_reads Named)))))))

-- ---- modules

-- what a function is given
abbrev Domain : {S T : Type 0} → (S → T) → Type 0
Domain {S} f = S

abbrev Statements : Type 0
Statements = Domain with_statement

record AreNamedStatements (draft : Statements) : Type 0 where
  text : list_all is_text_statement draft.found ≡ true
  spaceless : list_all is_spaceless draft.found ≡ true
  long : list_all is_named draft.found ≡ true

statement_line_reads : (draft : Statements) → AreNamedStatements draft → Reads (Stepped AreNamedStatements) (statement_line draft)
unfolding statement_line
statement_line_reads draft are = then_reads Named (Stepped AreNamedStatements) _ _ (statement_reads draft.waiting) (λ s is. more_reads AreNamedStatements _ (record {
  text = all_behind is_text_statement draft.found s are.text is.text;
  spaceless = all_behind is_spaceless draft.found s are.spaceless is.spaceless;
  long = all_behind is_named draft.found s are.long is.long;
}))

module_line_reads : (draft : Statements) → AreNamedStatements draft → Reads (Stepped AreNamedStatements) (module_line draft)
unfolding module_line
module_line_reads draft are =
    on_reads (Stepped AreNamedStatements) _ _ _ (more_reads AreNamedStatements draft are) (
    word_reads (Stepped AreNamedStatements) _ _ _ (then_after (Stepped AreNamedStatements) _ _ attribute_keeps (λ a. more_reads AreNamedStatements _ (record { text = are.text; spaceless = are.spaceless; long = are.long }))) (
    word_reads (Stepped AreNamedStatements) _ _ _ (then_after (Stepped AreNamedStatements) _ _ (expect_keeps _) (λ _. stop_reads AreNamedStatements draft are)) (
    statement_line_reads draft are)))

module_lines_read : Reads AreNamedStatements module_lines
unfolding module_lines
module_lines_read = up_to_end_reads AreNamedStatements module_line module_line_reads _ (record { text = refl; spaceless = refl; long = refl })

abbrev IsNamedModule : Module → Type 0
IsNamedModule m = is_well_named m ≡ true

module_reads : (attributes : List Attribute) → Reads IsNamedModule (module_with attributes)
unfolding module_with
module_reads attributes =
    then_reads IsNamed IsNamedModule _ _ identifier_reads (λ name is.
    then_after IsNamedModule _ _ (expect_keeps _) (λ _.
    then_reads AreNamedStatements IsNamedModule _ _ module_lines_read (λ lines are.
    pure_reads IsNamedModule _
    (and_from (is_utf8 name && list_all is_text_statement lines.found) (list_all is_spaceless lines.found && list_all is_named lines.found) (and_from (is_utf8 name) (list_all is_text_statement lines.found) is.text are.text)
    (and_from (list_all is_spaceless lines.found) (list_all is_named lines.found) are.spaceless are.long)))))

-- ---- files

abbrev Modules : Type 0
Modules = Domain module_part

abbrev AreNamedModules : Modules → Type 0
AreNamedModules draft = list_all is_well_named draft.found ≡ true

module_part_reads : (draft : Modules) → AreNamedModules draft → Reads (Stepped AreNamedModules) (module_part draft)
unfolding module_part
module_part_reads draft are = then_reads IsNamedModule (Stepped AreNamedModules) _ _ (module_reads draft.waiting) (λ m is. more_reads AreNamedModules _ (all_behind is_well_named draft.found m are is))

file_line_reads : (draft : Modules) → AreNamedModules draft → Reads (Stepped AreNamedModules) (file_line draft)
unfolding file_line
file_line_reads draft are = if_reads (Stepped AreNamedModules) (λ i. length i.rest == 0) _ _ (stop_reads AreNamedModules draft are) (
    on_reads (Stepped AreNamedModules) _ _ _ (more_reads AreNamedModules draft are) (
    word_reads (Stepped AreNamedModules) _ _ _ (then_after (Stepped AreNamedModules) _ _ integer_keeps (λ n. then_after (Stepped AreNamedModules) _ _ (expect_keeps _) (λ _. more_reads AreNamedModules _ are))) (
    word_reads (Stepped AreNamedModules) _ _ _ (then_after (Stepped AreNamedModules) _ _ attribute_keeps (λ a. more_reads AreNamedModules _ are)) (
    word_reads (Stepped AreNamedModules) _ _ _ (module_part_reads draft are) (
    refuse_reads (Stepped AreNamedModules))))))

file_lines_read : Reads AreNamedModules file_lines
unfolding file_lines
file_lines_read = many_reads AreNamedModules file_line file_line_reads _ refl

abbrev pub IsNamedFile : File → Type 0
IsNamedFile f = list_all is_well_named f.modules ≡ true

file_reads : Reads IsNamedFile file
unfolding file
file_reads = then_reads AreNamedModules IsNamedFile _ _ file_lines_read (λ lines are. pure_reads IsNamedFile _ are)

tree_named : (o : Outcome File) (f : File) → Gives IsNamedFile o → tree_in o ≡ Ok f → IsNamedFile f
tree_named (Ok p) f given e = subst IsNamedFile (same_tree p.0 f e) given.0
  where
    same_tree : (x y : File) → tree_in (Ok (x, p.1)) ≡ Ok y → x ≡ y
    same_tree x y e = grind arith
tree_named (Err x) f given e = absurd (differs x f e)
  where
    differs : (x : TextFault) (f : File) → tree_in (Err x) ≡ Ok f → ⊥
    differs x f e = grind arith

-- the tree of tokens whose identifiers are named well
pub parsed_named : (tokens : List Token) (f : File) → AreNamed tokens → parsed tokens ≡ Ok f → IsNamedFile f
unfolding Reads
parsed_named tokens f named e = tree_named (file (start tokens)) f (file_reads (start tokens) named) e
