-- Lists of checks, one behind another.
use Rattle.std.proofs.Common.{◌≡◌, List, [], ◌∷◌, ◌++◌, true, false, cond, Option, Some, None, refl}
use Rattle.circuit.specs.declared.fault.DesignKind.{DesignKind}
use Rattle.cell_library.specs.Checks.{Check, first_fault}

abbrev pub or_else : Option DesignKind → Option DesignKind → Option DesignKind
or_else None o = o
or_else (Some f) o = Some f

pub after : (a b : List Check) → first_fault (a ++ b) ≡ or_else (first_fault a) (first_fault b)
after [] b = refl
after (c ∷ cs) b = elim c.holds as (λ h. cond h (first_fault (cs ++ b)) (Some c.kind) ≡ or_else (cond h (first_fault cs) (Some c.kind)) (first_fault b)) [ true ↦ after cs b | false ↦ refl ]
