-- The processes of a file.
use Rattle.std.specs.Prelude.{List, [], ◌∷◌, Result, Ok, Err, flat_map}
use Rattle.rtlil_lexer.specs.declared.fault.TextFault.{TextFault}
use Rattle.rtlil_lexer.specs.declared.fault.TextFault.TheVariants as fault
use Rattle.rtlil_lexer.specs.declared.fault.TextFaultKind.TheVariants as kind
use Rattle.rtlil_tree.specs.declared.module.File.{File}
use Rattle.rtlil_tree.specs.declared.module.Module.{Module}
use Rattle.rtlil_tree.specs.declared.module.Statement.{Statement}
use Rattle.rtlil_tree.specs.declared.module.Statement.TheVariants as statement
use Rattle.rtlil_tree.specs.declared.place.Place.{Place}

-- where the word `process` stands, of a statement that is one
abbrev pub process_place : Statement → List Place
process_place (statement.Process p) = p.place ∷ []
process_place _ = []

abbrev pub places_in : Module → List Place
places_in m = flat_map process_place m.statements

-- where each process of a file begins, in its order
abbrev pub process_places : File → List Place
process_places file = flat_map places_in file.modules

abbrev pub first_refused : List Place → Result (Unit {0}) TextFault
first_refused [] = Ok (tt {0})
first_refused (p ∷ ps) = Err (fault.At kind.Process p.line p.column)

-- a file with a process is refused at its first one
abbrev pub processes_refused : File → Result (Unit {0}) TextFault
processes_refused file = first_refused (process_places file)
