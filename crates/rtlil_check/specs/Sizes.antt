-- How much a design has, as it is printed.
use Rattle.std.specs.Prelude.{ℕ, ◌+◌, min, List, ◌∷◌, ◌++◌, length, codes, decimal}
use Rattle.circuit.specs.Built.{slots_of_items}
use Rattle.circuit.specs.declared.netlist.Circuit.{Circuit}

-- a line of what is counted and of how many there are
abbrev pub size_line : List ℕ → ℕ → List ℕ
size_line name count = name ++ 32 ∷ decimal count ++ codes "\n"

-- the slots of a sample: those of the items, and one for each diagnostic; no more are counted than a number of 64 bits names
abbrev pub slots_of_circuit : Circuit → ℕ
slots_of_circuit c = min (slots_of_items c.mems c.items + length c.diags) 18446744073709551615

abbrev pub sizes_text : Circuit → List ℕ
sizes_text c =
    size_line (codes "nets") (length c.nets)
    ++ size_line (codes "drives") (length c.drives)
    ++ size_line (codes "cells") (length c.cells)
    ++ size_line (codes "registers") (length c.regs)
    ++ size_line (codes "memories") (length c.mems)
    ++ size_line (codes "items") (length c.items)
    ++ size_line (codes "slots") (slots_of_circuit c)
