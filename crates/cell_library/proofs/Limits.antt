-- What a list of checks that passes says of its parts, and the limits of a port.
use Rattle.std.proofs.Common.{◌≡◌, ℕ, ◌≤◌, List, [], ◌∷◌, ◌++◌, Bool, true, false, cond, sym, ◌∙◌, Option, Some, None, refl, subst, arith, bytes_eq, if◌then◌else◌}
use Rattle.circuit.specs.declared.fault.DesignKind.{DesignKind}
use Rattle.circuit.specs.declared.fault.DesignKind.TheVariants as kind
use Rattle.circuit.specs.Valid.{widest, widest_arithmetic}
use Rattle.cell_library.specs.declared.line.Port.{Port}
use Rattle.cell_library.specs.declared.written.Connection.{Connection}
use Rattle.cell_library.specs.declared.written.Setting.{Setting}
use Rattle.cell_library.specs.Checks.{Check, first_fault, line_checks, parameter_checks, slice_checks, port_checks, width_checks, limit_checks, within, port_named, port_width}
use Rattle.cell_library.specs.Lines.{TypeLine}
use Rattle.cell_library.specs.Values.{span_width, exact}
use Rattle.cell_library.specs.Names.{port_name}
use Rattle.cell_library.proofs.Parts.{after, or_else}

pub first : (a b : List Check) → first_fault (a ++ b) ≡ None → first_fault a ≡ None
first a b e = by (first_fault a) (sym (after a b) ∙ e)
  where
    by : (o : Option DesignKind) → or_else o (first_fault b) ≡ None → o ≡ None
    by None h = refl
    by (Some k) h = h

pub second : (a b : List Check) → first_fault (a ++ b) ≡ None → first_fault b ≡ None
second a b e = by (first_fault a) (sym (after a b) ∙ e)
  where
    by : (o : Option DesignKind) → or_else o (first_fault b) ≡ None → first_fault b ≡ None
    by None h = h
    by (Some k) h = cc

-- the second and the last of six parts
pub part_two : (a b c d e f : List Check) → first_fault (a ++ (b ++ (c ++ (d ++ (e ++ f))))) ≡ None → first_fault b ≡ None
part_two a b c d e f h = first b (c ++ (d ++ (e ++ f))) (second a (b ++ (c ++ (d ++ (e ++ f)))) h)

pub part_six : (a b c d e f : List Check) → first_fault (a ++ (b ++ (c ++ (d ++ (e ++ f))))) ≡ None → first_fault f ≡ None
part_six a b c d e f h = second e f (second d (e ++ f) (second c (d ++ (e ++ f)) (second b (c ++ (d ++ (e ++ f))) (second a (b ++ (c ++ (d ++ (e ++ f)))) h))))

abbrev pub limits_of : TypeLine → List Setting → List Check
limits_of l settings = if l.arithmetic then limit_checks settings widest_arithmetic kind.ArithTooWide l.ports else []

pub wide : (l : TypeLine) (settings : List Setting) (cs : List Connection) → first_fault (line_checks l settings cs) ≡ None → first_fault (limit_checks settings widest kind.TooWide l.ports) ≡ None
unfolding line_checks
wide l settings cs e = first (limit_checks settings widest kind.TooWide l.ports) (limits_of l settings) (second (width_checks settings l.ports cs) (limit_checks settings widest kind.TooWide l.ports ++ limits_of l settings)
    (second (port_checks l.ports cs) (width_checks settings l.ports cs ++ (limit_checks settings widest kind.TooWide l.ports ++ limits_of l settings))
    (second (slice_checks l.gives settings) (port_checks l.ports cs ++ (width_checks settings l.ports cs ++ (limit_checks settings widest kind.TooWide l.ports ++ limits_of l settings)))
    (second (parameter_checks settings l.parameters) (slice_checks l.gives settings ++ (port_checks l.ports cs ++ (width_checks settings l.ports cs ++ (limit_checks settings widest kind.TooWide l.ports ++ limits_of l settings)))) e))))

pub passed : (b : Bool) (o : Option DesignKind) (k : DesignKind) → cond b o (Some k) ≡ None → (b ≡ true) × (o ≡ None)
passed true o k e = (refl, e)
passed false o k e = cc

-- a port of a name has at most so many bits
pub named_within : (settings : List Setting) (most : ℕ) (k : DesignKind) (ports : List Port) (name : List ℕ) → first_fault (limit_checks settings most k ports) ≡ None → port_width settings (port_named ports name) ≤ most
named_within settings most k [] name e = grind arith
named_within settings most k (p ∷ ps) name e = by (bytes_eq (port_name p.name) name) (passed (within settings most p) (first_fault (limit_checks settings most k ps)) k e) (named_within settings most k ps name)
  where
    by : (b : Bool) → (within settings most p ≡ true) × (first_fault (limit_checks settings most k ps) ≡ None) → (first_fault (limit_checks settings most k ps) ≡ None → port_width settings (port_named ps name) ≤ most) → port_width settings (cond b (Some p) (port_named ps name)) ≤ most
    by true h rest = grind arith
    by false h rest = rest h.1

pub span_within : (settings : List Setting) (ports : List Port) (name : List ℕ) (p : Port) → port_named ports name ≡ Some p → first_fault (limit_checks settings widest kind.TooWide ports) ≡ None → span_width settings p.span ≤ 65536
span_within settings ports name p found e = subst (λ o. port_width settings o ≤ 65536) found (named_within settings widest kind.TooWide ports name e)

pub exact_none : (n : ℕ) → n ≤ 65536 → None ≡ exact n → ⊥
exact_none n h e = grind arith

pub exact_some : (n w : ℕ) → Some w ≡ exact n → w ≡ n
exact_some n w e = grind arith
