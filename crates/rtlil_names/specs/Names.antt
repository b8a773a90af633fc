-- Names in a tree: which are written in UTF-8, which have no space, and which are more than their first byte.
use Rattle.std.specs.Prelude.{ℕ, ◌==◌, List, Bool, true, drop, length, not, ◌&&◌, nat_lt}
use Rattle.std.specs.List.{list_all}
use Rattle.std.specs.Str.{is_utf8}
use Rattle.rtlil_tree.specs.declared.module.Module.{Module}
use Rattle.rtlil_tree.specs.declared.module.Statement.{Statement}
use Rattle.rtlil_tree.specs.declared.module.Statement.TheVariants as statement

-- the name of a wire or of a cell is UTF-8
abbrev pub is_text_statement : Statement → Bool
is_text_statement (statement.Wire w) = is_utf8 w.name
is_text_statement (statement.Cell c) = is_utf8 c.name
is_text_statement _ = true

abbrev pub is_text_module : Module → Bool
is_text_module m = is_utf8 m.name && list_all is_text_statement m.statements

-- no byte of a text is a space
abbrev pub has_no_space : List ℕ → Bool
has_no_space text = list_all (λ c. not (c == 32)) text

-- the name of a wire or of a cell has none behind its first byte
abbrev pub is_spaceless : Statement → Bool
is_spaceless (statement.Wire w) = has_no_space (drop 1 w.name)
is_spaceless (statement.Cell c) = has_no_space (drop 1 c.name)
is_spaceless _ = true

abbrev pub is_spaceless_module : Module → Bool
is_spaceless_module m = list_all is_spaceless m.statements

-- the name of a cell goes on behind its first byte
abbrev pub is_named : Statement → Bool
is_named (statement.Cell c) = nat_lt 1 (length c.name)
is_named _ = true

abbrev pub is_named_module : Module → Bool
is_named_module m = list_all is_named m.statements

-- all of these
abbrev pub is_well_named : Module → Bool
is_well_named m = is_text_module m && (is_spaceless_module m && is_named_module m)
