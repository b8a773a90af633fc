-- A cell that passes the checks of a design passes those of the library.
use Rattle.std.proofs.Common.{◌≡◌, List, [], ◌∷◌, ◌++◌, ◌&&◌, Bool, ℕ, true, false, cond, Some, None, refl, ap, ◌∙◌}
use Rattle.std.specs.Option.{is_some}
use Rattle.std.proofs.lemmas.Bool.{and_parts}
use Rattle.circuit.specs.Valid.{widest}
use Rattle.circuit.specs.declared.fault.DesignKind.{DesignKind}
use Rattle.circuit.specs.declared.fault.DesignKind.TheVariants as kind
use Rattle.cell_library.specs.Checks as library
use Rattle.cell_library.specs.Checks.{Check, first_fault, limit_checks, line_checks, parameter_checks, port_checks, port_named, slice_checks, width_checks}
use Rattle.cell_library.specs.Lines.{TypeLine}
use Rattle.cell_library.specs.declared.line.Port.{Port}
use Rattle.cell_library.specs.declared.written.Setting.{Setting}
use Rattle.cell_library.proofs.Limits.{first, second}
use Rattle.cell_library.proofs.Parts.{after, or_else}
use Rattle.design_parts.specs.Parts as parts
use Rattle.design_parts.specs.Parts.{at}
use Rattle.design_cells.specs.Joined.{Joined, connections_of}
use Rattle.design_cells.specs.Rules.{are_inside, are_known, kind_checks, located, narrow_checks}

-- where the checks stand does not matter
pub unlocated : (owner item : List ℕ) (cs : List Check) → parts.first_fault (located owner item cs) ≡ None → first_fault cs ≡ None
unlocated owner item [] e = refl
unlocated owner item (c ∷ cs) e = by c.holds e (unlocated owner item cs)
  where
    by : (b : Bool) → cond b (parts.first_fault (located owner item cs)) (Some (at c.kind owner item)) ≡ None → (parts.first_fault (located owner item cs) ≡ None → first_fault cs ≡ None) → cond b (first_fault cs) (Some c.kind) ≡ None
    by true h rest = rest h
    by false h rest = cc h

both_pass : (a b : List Check) → first_fault a ≡ None → first_fault b ≡ None → first_fault (a ++ b) ≡ None
both_pass a b f g = after a b ∙ ap (λ o. or_else o (first_fault b)) f ∙ g

-- ports that are known are ports of the type
ports_pass : (ports : List Port) (js : List Joined) → are_known ports js ≡ true → first_fault (port_checks ports (connections_of js)) ≡ None
ports_pass ports [] h = refl
ports_pass ports (j ∷ js) h =
    let all = and_parts (is_some (port_named ports j.port) && j.is_named) (are_known ports js) h in
    let one = and_parts (is_some (port_named ports j.port)) j.is_named all.0 in
    ap (λ b. cond b (first_fault (port_checks ports (connections_of js))) (Some kind.UnknownName)) one.0 ∙ ports_pass ports js all.1

known : (b : Bool) (k : DesignKind) (cs : List Check) → first_fault (library.check b k ∷ [] ++ cs) ≡ None → b ≡ true
known true k cs e = refl
known false k cs e = cc e

module _ (l : TypeLine) (settings : List Setting) (js : List Joined) (room : Bool) where
  abbrev from_narrow : List Check
  from_narrow = narrow_checks l settings ++ library.check room kind.TooLarge ∷ []

  abbrev from_limits : List Check
  from_limits = limit_checks settings widest kind.TooWide l.ports ++ from_narrow

  abbrev from_widths : List Check
  from_widths = width_checks settings l.ports (connections_of js) ++ from_limits

  abbrev from_inside : List Check
  from_inside = library.check (are_inside js) kind.Width ∷ [] ++ from_widths

  abbrev from_names : List Check
  from_names = library.check (are_known l.ports js) kind.UnknownName ∷ [] ++ from_inside

  abbrev from_slice : List Check
  from_slice = slice_checks l.gives settings ++ from_names

  module _ (passed : first_fault (kind_checks l settings js room) ≡ None) where
    slice_on : first_fault from_slice ≡ None
    unfolding kind_checks
    slice_on = second (parameter_checks settings l.parameters) from_slice passed

    parameters_hold : first_fault (parameter_checks settings l.parameters) ≡ None
    unfolding kind_checks
    parameters_hold = first (parameter_checks settings l.parameters) from_slice passed

    names_on : first_fault from_names ≡ None
    names_on = second (slice_checks l.gives settings) from_names slice_on

    widths_on : first_fault from_widths ≡ None
    widths_on = second (library.check (are_inside js) kind.Width ∷ []) from_widths (second (library.check (are_known l.ports js) kind.UnknownName ∷ []) from_inside names_on)

    limits_on : first_fault from_limits ≡ None
    limits_on = second (width_checks settings l.ports (connections_of js)) from_limits widths_on

    pub limits_hold : first_fault (limit_checks settings widest kind.TooWide l.ports) ≡ None
    limits_hold = first (limit_checks settings widest kind.TooWide l.ports) from_narrow limits_on

    narrow_holds : first_fault (narrow_checks l settings) ≡ None
    narrow_holds = first (narrow_checks l settings) (library.check room kind.TooLarge ∷ []) (second (limit_checks settings widest kind.TooWide l.ports) from_narrow limits_on)

    -- what the library checks of a cell
    pub line_passes : first_fault (line_checks l settings (connections_of js)) ≡ None
    unfolding line_checks
    line_passes =
        let cs = connections_of js in
        both_pass (parameter_checks settings l.parameters) _ parameters_hold
        (both_pass (slice_checks l.gives settings) _ (first (slice_checks l.gives settings) from_names slice_on)
        (both_pass (port_checks l.ports cs) _ (ports_pass l.ports js (known (are_known l.ports js) kind.UnknownName from_inside names_on))
        (both_pass (width_checks settings l.ports cs) _ (first (width_checks settings l.ports cs) from_limits widths_on)
        (both_pass (limit_checks settings widest kind.TooWide l.ports) (narrow_checks l settings) limits_hold narrow_holds))))
