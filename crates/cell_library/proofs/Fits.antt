-- A cell that passes has widths that fit.
use Rattle.std.proofs.Common.{◌≡◌, drop, ℕ, ◌+◌, ◌*◌, ◌^◌, ◌==◌, List, [], ◌∷◌, Bool, true, false, ◌&&◌, cond, Some, None, refl, bytes_eq, nat_le, subst, codes}
use Rattle.std.proofs.lemmas.Bool.Decides.{Decides-eqb}
use Rattle.std.proofs.lemmas.Option.{same_Some}
use Rattle.circuit.specs.declared.fault.DesignKind.{DesignKind}
use Rattle.circuit.specs.declared.fault.DesignKind.TheVariants as kind
use Rattle.circuit.specs.declared.cell.Op.{Op}
use Rattle.circuit.specs.declared.cell.Op.TheVariants as op
use Rattle.cell_library.specs.declared.line.Parameter.TheVariants.{AWidth, BWidth, YWidth, Width, SWidth, Offset}
use Rattle.cell_library.specs.declared.line.PortName.TheVariants as port
use Rattle.cell_library.specs.declared.line.Span.TheVariants.{Of}
use Rattle.cell_library.specs.declared.written.Connection.{Connection}
use Rattle.cell_library.specs.declared.written.Setting.{Setting}
use Rattle.cell_library.specs.Checks.{first_fault, line_checks, parameter_checks, slice_checks, port_checks, width_checks, limit_checks}
use Rattle.cell_library.specs.Fit.{Fits, AreFitting}
use Rattle.circuit.specs.Valid.{widest}
use Rattle.cell_library.specs.Lines.{TypeLine}
use Rattle.cell_library.specs.Table.{table, line_in, unary, binary, arithmetic, cell, input, output}
use Rattle.cell_library.specs.Values.{number}
use Rattle.cell_library.proofs.Limits.{part_two, part_six, limits_of}

narrow : (l : TypeLine) (settings : List Setting) (cs : List Connection) → first_fault (line_checks l settings cs) ≡ None → first_fault (limits_of l settings) ≡ None
unfolding line_checks
narrow l settings cs e = part_six (parameter_checks settings l.parameters) (slice_checks l.gives settings) (port_checks l.ports cs) (width_checks settings l.ports cs) (limit_checks settings widest kind.TooWide l.ports) (limits_of l settings) e

sliced : (l : TypeLine) (settings : List Setting) (cs : List Connection) → first_fault (line_checks l settings cs) ≡ None → first_fault (slice_checks l.gives settings) ≡ None
unfolding line_checks
sliced l settings cs e = part_two (parameter_checks settings l.parameters) (slice_checks l.gives settings) (port_checks l.ports cs) (width_checks settings l.ports cs) (limit_checks settings widest kind.TooWide l.ports) (limits_of l settings) e

eq_same : (n : ℕ) → (n == n) ≡ true
eq_same n = (Decides-eqb n n).1 refl

one : (a : Bool) (k : DesignKind) → cond a None (Some k) ≡ None → (a && true) ≡ true
one true k e = refl
one false k e = cc

two : (a c : Bool) (k : DesignKind) → cond a (cond c None (Some k)) (Some k) ≡ None → (c && (a && true)) ≡ true
two true true k e = refl
two true false k e = cc
two false c k e = cc

three : (a b c : Bool) (k : DesignKind) → cond a (cond b (cond c None (Some k)) (Some k)) (Some k) ≡ None → (c && (a && b)) ≡ true
three true true true k e = refl
three true true false k e = cc
three true false c k e = cc
three false b c k e = cc

both : (a b : Bool) → a ≡ true → b ≡ true → (a && b) ≡ true
both a b e f = cc

-- ---- each form of a line

narrow_binary : (name : List ℕ) (o : Op) (settings : List Setting) (cs : List Connection) → first_fault (line_checks (arithmetic (binary name o)) settings cs) ≡ None →
    (nat_le (number settings YWidth) 128 && (nat_le (number settings AWidth) 128 && nat_le (number settings BWidth) 128)) ≡ true
narrow_binary name o settings cs e =
    three (nat_le (number settings AWidth) 128) (nat_le (number settings BWidth) 128) (nat_le (number settings YWidth) 128) kind.ArithTooWide (narrow (arithmetic (binary name o)) settings cs e)

narrow_unary : (name : List ℕ) (o : Op) (settings : List Setting) (cs : List Connection) → first_fault (line_checks (arithmetic (unary name o)) settings cs) ≡ None →
    (nat_le (number settings YWidth) 128 && (nat_le (number settings AWidth) 128 && true)) ≡ true
narrow_unary name o settings cs e =
    two (nat_le (number settings AWidth) 128) (nat_le (number settings YWidth) 128) kind.ArithTooWide (narrow (arithmetic (unary name o)) settings cs e)

-- ---- each line

abbrev EachFits : List TypeLine → Type 0
EachFits [] = Unit {0}
EachFits (l ∷ ls) = Fits l × EachFits ls

found : (ls : List TypeLine) (name : List ℕ) (l : TypeLine) → EachFits ls → line_in ls name ≡ Some l → Fits l
found [] name l h e = cc
found (x ∷ xs) name l h e = by (bytes_eq x.name name) e (found xs name l h.1)
  where
    by : (b : Bool) → cond b (Some x) (line_in xs name) ≡ Some l → (line_in xs name ≡ Some l → Fits l) → Fits l
    by true e rest = subst Fits (same_Some x l e) h.0
    by false e rest = rest e

-- the registers and latches
registers : EachFits (drop 44 table)
unfolding table
registers = ((λ settings cs e. refl), ((λ settings cs e. refl), ((λ settings cs e. refl), ((λ settings cs e. refl), ((λ settings cs e. refl), ((λ settings cs e. refl), ((λ settings cs e. refl), ((λ settings cs e. refl), ((λ settings cs e. refl), ((λ settings cs e. refl), ((λ settings cs e. refl), ((λ settings cs e. refl), ((λ settings cs e. refl), ((λ settings cs e. refl), ((λ settings cs e. refl), tt)))))))))))))))

-- what selects, takes and joins parts, and what follows it
selecting : EachFits (drop 36 table)
unfolding table
selecting = ((λ settings cs e. both _ _ (eq_same (number settings Width)) (both _ _ (eq_same (number settings Width)) refl)), ((λ settings cs e. both _ _ (eq_same (number settings Width)) (eq_same (number settings Width * number settings SWidth))), ((λ settings cs e. both _ _ (eq_same (number settings Width * 2 ^ number settings SWidth)) refl), ((λ settings cs e. both _ _ (eq_same (number settings Width * 2 ^ number settings SWidth)) refl), ((λ settings cs e. both _ _ (eq_same (number settings Width)) (both _ _ (eq_same (number settings Width)) (eq_same (number settings Width)))), ((λ settings cs e. both _ _ (eq_same (number settings Width)) (both _ _ (eq_same (number settings Width)) refl)), ((λ settings cs e. one _ kind.BadParameter (sliced (cell (codes "$slice") op.Slice (Offset ∷ AWidth ∷ YWidth ∷ []) (input port.A (Of AWidth) ∷ output port.Y (Of YWidth) ∷ [])) settings cs e)), ((λ settings cs e. both _ _ (eq_same (number settings AWidth + number settings BWidth)) refl), registers))))))))

-- the types with two operands, and what follows them
two_operands : EachFits (drop 9 table)
unfolding table
two_operands = ((λ settings cs e. refl), ((λ settings cs e. refl), ((λ settings cs e. refl), ((λ settings cs e. refl), ((λ settings cs e. refl), ((λ settings cs e. refl), ((λ settings cs e. refl), ((λ settings cs e. refl), ((λ settings cs e. refl), ((λ settings cs e. refl), ((λ settings cs e. refl), ((λ settings cs e. refl), ((λ settings cs e. refl), ((λ settings cs e. refl), ((λ settings cs e. refl), ((λ settings cs e. refl), (narrow_binary (codes "$add") op.Add, (narrow_binary (codes "$sub") op.Sub, (narrow_binary (codes "$mul") op.Mul, (narrow_binary (codes "$div") op.Div, (narrow_binary (codes "$mod") op.Mod, (narrow_binary (codes "$divfloor") op.DivFloor, (narrow_binary (codes "$modfloor") op.ModFloor, (narrow_binary (codes "$lt") op.Lt, (narrow_binary (codes "$le") op.Le, (narrow_binary (codes "$ge") op.Ge, (narrow_binary (codes "$gt") op.Gt, selecting)))))))))))))))))))))))))))

each : EachFits table
unfolding table
each = ((λ settings cs e. refl), ((λ settings cs e. refl), ((λ settings cs e. refl), ((λ settings cs e. refl), ((λ settings cs e. refl), ((λ settings cs e. refl), ((λ settings cs e. refl), ((λ settings cs e. refl), (narrow_unary (codes "$neg") op.Neg, two_operands)))))))))

pub are_fitting : AreFitting
are_fitting name l e = found table name l each e
