-- The ports of a cell that passes its checks are joined to as many bits as they have.
use Rattle.std.proofs.Common.{◌≡◌, ℕ, zero, suc, List, [], ◌∷◌, ◌++◌, Bool, true, Option, Some, None, refl, slice_get, map, subst, sym}
use Rattle.std.proofs.lemmas.Bool.Decides.{Decides-eqb}
use Rattle.std.proofs.lemmas.Option.{same_Some}
use Rattle.std.specs.Option.{is_some}
use Rattle.circuit.specs.declared.fault.DesignKind.{DesignKind}
use Rattle.circuit.specs.declared.fault.DesignKind.TheVariants as kind
use Rattle.circuit.specs.Valid.{widest}
use Rattle.cell_library.specs.declared.line.Port.{Port}
use Rattle.cell_library.specs.declared.written.Connection.{Connection}
use Rattle.cell_library.specs.declared.written.Setting.{Setting}
use Rattle.cell_library.specs.Checks.{Check, check, first_fault, line_checks, parameter_checks, slice_checks, port_checks, width_checks, limit_checks, port_named, fits}
use Rattle.cell_library.specs.Fit.{AreJoined}
use Rattle.cell_library.specs.Lines.{TypeLine}
use Rattle.cell_library.specs.Values.{span_width}
use Rattle.cell_library.proofs.Limits.{first, second, passed, limits_of}

-- what is checked of each of a list holds of each
each_holds : {X : Type 0} (holds : X → Bool) (k : DesignKind) (xs : List X) (i : ℕ) (x : X) → first_fault (map (λ y. check (holds y) k) xs) ≡ None → slice_get xs i ≡ Some x → holds x ≡ true
each_holds holds k [] i x e at = cc
each_holds holds k (y ∷ ys) zero x e at = subst (λ z. holds z ≡ true) (same_Some y x at) (passed (holds y) (first_fault (map (λ z. check (holds z) k) ys)) k e).0
each_holds holds k (y ∷ ys) (suc j) x e at = each_holds holds k ys j x (passed (holds y) (first_fault (map (λ z. check (holds z) k) ys)) k e).1 at

-- the last three parts of the checks of a line
abbrev behind_ports : TypeLine → List Setting → List Connection → List Check
behind_ports l settings cs = width_checks settings l.ports cs ++ (limit_checks settings widest kind.TooWide l.ports ++ limits_of l settings)

joined : (settings : List Setting) (o : Option Port) (width : ℕ) → is_some o ≡ true → fits settings o width ≡ true → (x : Port) × (o ≡ Some x) × (width ≡ span_width settings x.span)
joined settings None width there same = cc
joined settings (Some x) width there same = (x, refl, sym ((Decides-eqb (span_width settings x.span) width).0 same))

pub are_joined : AreJoined
unfolding line_checks
are_joined l settings cs i c e at =
    let ports : first_fault (port_checks l.ports cs ++ behind_ports l settings cs) ≡ None =
    second (slice_checks l.gives settings) (port_checks l.ports cs ++ behind_ports l settings cs)
    (second (parameter_checks settings l.parameters) (slice_checks l.gives settings ++ (port_checks l.ports cs ++ behind_ports l settings cs)) e) in
    let widths : first_fault (width_checks settings l.ports cs) ≡ None =
    first (width_checks settings l.ports cs) (limit_checks settings widest kind.TooWide l.ports ++ limits_of l settings)
    (second (port_checks l.ports cs) (behind_ports l settings cs) ports) in
    joined settings (port_named l.ports c.port) c.width
    (each_holds (λ y. is_some (port_named l.ports y.port)) kind.UnknownName cs i c (first (port_checks l.ports cs) (behind_ports l settings cs) ports) at)
    (each_holds (λ y. fits settings (port_named l.ports y.port) y.width) kind.Width cs i c widths at)
