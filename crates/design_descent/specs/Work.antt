-- How many turns a walk can take: one for each statement that is left, and one for the end of each instance.
use Rattle.std.specs.Prelude.{ℕ, zero, suc, ◌+◌, ◌-◌, List, [], ◌∷◌, length, drop, Option, Some, None}
use Rattle.rtlil_tree.specs.declared.module.Module.{Module}
use Rattle.rtlil_tree.specs.declared.module.Statement.{Statement}
use Rattle.rtlil_tree.specs.declared.module.Statement.TheVariants as statement
use Rattle.design_walk.specs.Modules.{module_named}
use Rattle.design_descent.specs.declared.frame.Frame.{Frame}

abbrev pub module_work : (Module → ℕ) → Option Module → ℕ
module_work within None = 0
module_work within (Some m) = within m

-- what the module of a cell can take
abbrev pub statement_work : (Module → ℕ) → List Module → Statement → ℕ
statement_work within ms (statement.Cell c) = module_work within (module_named ms c.kind)
statement_work within ms _ = 0

unfoldable pub statements_work : (Module → ℕ) → List Module → List Statement → ℕ
statements_work within ms [] = 1
statements_work within ms (s ∷ ss) = suc (statement_work within ms s + statements_work within ms ss)

-- an instance of a module, where so many may stand within each other
unfoldable pub instance_work : ℕ → List Module → Module → ℕ
instance_work zero ms m = 0
instance_work (suc depth) ms m = statements_work (instance_work depth ms) ms m.statements

unfoldable pub work : List Module → List Frame → ℕ
work ms [] = 0
work ms (f ∷ fs) = statements_work (instance_work (length ms - length fs) ms) ms (drop f.next f.unit.now.statements) + work ms fs
