-- What the parts of a design give, one behind the other: checks, and lists of a circuit.
use Rattle.std.specs.Prelude.{◌≡◌, ℕ, ◌+◌, List, [], ◌∷◌, ◌++◌, length, Bool, Option, Some, None, Result, Ok, Err, if◌then◌else◌}
use Rattle.circuit.specs.declared.cell.Cell.{Cell}
use Rattle.circuit.specs.declared.diagnostic.Diag.{Diag}
use Rattle.circuit.specs.declared.fault.DesignFault.{DesignFault}
use Rattle.circuit.specs.declared.fault.DesignKind.{DesignKind}
use Rattle.circuit.specs.declared.item.Item.{Item}
use Rattle.circuit.specs.declared.item.Scope.{Scope}
use Rattle.circuit.specs.declared.memory.Mem.{Mem}
use Rattle.circuit.specs.declared.netlist.Circuit.{Circuit}
use Rattle.circuit.specs.declared.netlist.Drive.{Drive}
use Rattle.circuit.specs.declared.netlist.Net.{Net}
use Rattle.circuit.specs.declared.register.Reg.{Reg}
use Rattle.rtlil_tree.specs.declared.sig.Const.{Const}
use Rattle.design_parts.specs.declared.refusal.Refusal.{Refusal}
use Rattle.design_parts.specs.declared.refusal.Refusal.TheVariants.{At, NoMemory as OutOfMemory}

-- ---- faults

-- a fault of an item in a module: their identifiers with a space between them
abbrev pub at : DesignKind → List ℕ → List ℕ → DesignFault
at kind owner item = record { kind = kind; place = owner ++ 32 ∷ item; bits = []; drives = [] }

-- whether a rule is kept, and what is wrong where it is not
pub record Check : Type 0 where
  pub holds : Bool
  pub fault : DesignFault

abbrev pub check : Bool → DesignFault → Check
check holds fault = record { holds = holds; fault = fault }

-- the first check that fails
abbrev pub first_fault : List Check → Option DesignFault
first_fault [] = None
first_fault (c ∷ cs) = if c.holds then first_fault cs else Some c.fault

-- ---- parts

-- lists of a circuit, with the start values that are written at its nets and the number of instances; items have no slots and
-- no order yet, and registers start with 0
pub record Made : Type 0 where
  pub nets : List Net
  pub inits : List (Option Const)
  pub drives : List Drive
  pub cells : List Cell
  pub regs : List Reg
  pub mems : List Mem
  pub inputs : List ℕ
  pub items : List Item
  pub scopes : List Scope
  pub diags : List Diag
  pub instances : ℕ

abbrev pub none_made : Made
none_made = record { nets = []; inits = []; drives = []; cells = []; regs = []; mems = []; inputs = []; items = []; scopes = []; diags = []; instances = 0 }

-- each list with another one behind it
abbrev pub both_made : Made → Made → Made
both_made m n = record {
  nets = m.nets ++ n.nets;
  inits = m.inits ++ n.inits;
  drives = m.drives ++ n.drives;
  cells = m.cells ++ n.cells;
  regs = m.regs ++ n.regs;
  mems = m.mems ++ n.mems;
  inputs = m.inputs ++ n.inputs;
  items = m.items ++ n.items;
  scopes = m.scopes ++ n.scopes;
  diags = m.diags ++ n.diags;
  instances = m.instances + n.instances;
}

-- how many cells, registers, memories, diagnostics and instances there are
abbrev pub part_count : Made → ℕ
part_count m = length m.cells + length m.regs + length m.mems + length m.diags + m.instances

-- the lists as those of a circuit
abbrev pub circuit_of : Made → Circuit
circuit_of m = record { nets = m.nets; drives = m.drives; cells = m.cells; regs = m.regs; mems = m.mems; inputs = m.inputs; items = m.items; scopes = m.scopes; diags = m.diags }

-- what a part of a design gives
pub record Part : Type 0 where
  pub checks : List Check
  pub made : Made

-- it depends on what was given before
abbrev pub Walk : Type 0
Walk = Made → Part

unfoldable pub nothing : Walk
nothing m = record { checks = []; made = none_made }

-- one part behind another
infixr 10 ◌>>◌
unfoldable pub ◌>>◌ : Walk → Walk → Walk
(p >> q) m = let first = p m in let second = q (both_made m first.made) in record {
  checks = first.checks ++ second.checks;
  made = both_made first.made second.made;
}

-- checks, and what comes where all of them hold
abbrev pub allowed : Option DesignFault → List Check → Part → Part
allowed None checks p = record p { checks = checks ++ p.checks }
allowed (Some _) checks p = record { checks = checks; made = none_made }

-- checks over what was given before, and a part that is looked at where they hold
unfoldable pub guard : (Made → List Check) → Walk → Walk
guard checks p m = allowed (first_fault (checks m)) (checks m) (p m)

-- a part without checks
unfoldable pub give : (Made → Made) → Walk
give made m = record { checks = []; made = made m }

-- ---- what the code does

abbrev pub judged : {X : Type 0} → Option DesignFault → X → Result X DesignFault
judged None x = Ok x
judged (Some f) x = Err f

-- what was made so far with a part behind it, or the part's first fault
unfoldable pub run : Walk → Made → Result Made DesignFault
run p so_far = judged (first_fault (p so_far).checks) (both_made so_far (p so_far).made)

-- the same step by step: the next step goes on from what the one before left
abbrev pub bind : {X Y : Type 0} → Result X DesignFault → (X → Result Y DesignFault) → Result Y DesignFault
bind (Ok x) f = f x
bind (Err e) f = Err e

-- a function found this fault, unless memory ran out
abbrev pub Fails : {X : Type 0} → Refusal → Result X DesignFault → Type 0
Fails OutOfMemory r = Unit {0}
Fails (At f) r = r ≡ Err f

-- what a function ensures that adds a part
abbrev pub Runs : {X : Type 0} → Walk → Made → Result X Refusal → Made → Type 0
Runs p old (Ok _) new = run p old ≡ Ok new
Runs p old (Err e) new = Fails e (run p old)

-- what a function ensures that looks at checks alone
abbrev pub Passes : {X : Type 0} → List Check → Result X Refusal → Type 0
Passes checks (Ok _) = first_fault checks ≡ None
Passes checks (Err e) = Fails e (judged (first_fault checks) (tt {0}))

-- a refusal says this fault, unless memory ran out
abbrev pub Says : Refusal → DesignFault → Type 0
Says OutOfMemory f = Unit {0}
Says (At g) f = g ≡ f

-- one part behind another is run as the first, and then the second from what the first left
abbrev pub RunInOrder : Walk → Walk → Made → Type 0
RunInOrder p q so_far = run (p >> q) so_far ≡ bind (run p so_far) (run q)
