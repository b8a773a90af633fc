-- Faults of a design, as they are printed.
use Rattle.std.specs.Prelude.{ℕ, List, Option, Some, None, codes}
use Rattle.circuit.specs.declared.fault.DesignKind.{DesignKind}
use Rattle.circuit.specs.declared.fault.DesignKind.TheVariants as kind

-- the number of a refusal; want of memory is none
abbrev pub fault_number : DesignKind → Option ℕ
fault_number kind.NoTop = Some 10
fault_number kind.ManyTops = Some 11
fault_number kind.UnknownName = Some 12
fault_number kind.DuplicateName = Some 13
fault_number kind.UnknownCell = Some 14
fault_number kind.BadParameter = Some 15
fault_number kind.Width = Some 16
fault_number kind.Inout = Some 17
fault_number kind.TooWide = Some 18
fault_number kind.ArithTooWide = Some 19
fault_number kind.RecursiveModules = Some 20
fault_number kind.TooLarge = Some 21
fault_number kind.ConstTarget = Some 22
fault_number kind.TwoDrivers = Some 23
fault_number kind.CombLoop = Some 24
fault_number kind.NoMemory = None

abbrev pub fault_name : DesignKind → List ℕ
fault_name kind.NoTop = codes "NoTop"
fault_name kind.ManyTops = codes "ManyTops"
fault_name kind.UnknownName = codes "UnknownName"
fault_name kind.DuplicateName = codes "DuplicateName"
fault_name kind.UnknownCell = codes "UnknownCell"
fault_name kind.BadParameter = codes "BadParameter"
fault_name kind.Width = codes "Width"
fault_name kind.Inout = codes "Inout"
fault_name kind.TooWide = codes "TooWide"
fault_name kind.ArithTooWide = codes "ArithTooWide"
fault_name kind.RecursiveModules = codes "RecursiveModules"
fault_name kind.TooLarge = codes "TooLarge"
fault_name kind.ConstTarget = codes "ConstTarget"
fault_name kind.TwoDrivers = codes "TwoDrivers"
fault_name kind.CombLoop = codes "CombLoop"
fault_name kind.NoMemory = codes "NoMemory"
