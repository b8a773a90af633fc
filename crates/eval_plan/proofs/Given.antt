-- What the roots of a circuit take from.
use Rattle.std.proofs.Common.{◌≡◌, ℕ, ◌+◌, ◌<◌, ◌≤◌, List, [], ◌∷◌, ◌++◌, length, refl, sym, ◌∙◌, ap, subst, arith, inl, inr, true, Option, Some, None, nat_lt, nat_le}
use Rattle.std.specs.Prelude.{slice_get, slice_index}
use Rattle.std.proofs.lemmas.Bool.{and_parts, cases_eq, cases_lt, ltb-true}
use Rattle.std.proofs.lemmas.List.{get_or_past}
use Rattle.circuit.specs.Valid.{cell_holds, driver_fits, drivers_of, input_holds, net_holds, port_holds, register_holds}
use Rattle.circuit.specs.declared.netlist.Circuit.{Circuit}
use Rattle.circuit.specs.declared.netlist.Drive.{Drive}
use Rattle.circuit.specs.declared.netlist.By.{By}
use Rattle.circuit.specs.declared.netlist.By.TheVariants as by
use Rattle.circuit.specs.declared.cell.Cell.{Cell}
use Rattle.circuit.specs.declared.register.Reg.{Reg}
use Rattle.circuit.specs.declared.memory.Mem.{Mem}
use Rattle.eval_plan.specs.Roots.{AreRoots}
use Rattle.eval_plan.specs.Sources.{AreSources, RootBy, TakesConstant, TakesInput, TakesPart, TakesRegister, port_row, read_row}
use Rattle.eval_plan.specs.TableInvariants.{TakesFromRowBefore, TakesFromRow, driver_row, AreEntries, entry}
use Rattle.eval_plan.specs.Tables.{Lists, table_row}
use Rattle.driver_check.specs.Nodes.{AreParts, IsPart, part_place}
use Rattle.eval_plan.specs.declared.entries.Entry.{Entry}
use Rattle.driver_check.specs.declared.parts.Node.{Node}
use Rattle.driver_check.specs.declared.parts.Node.TheVariants as node
use Rattle.eval_plan.specs.declared.sources.Kind.{Kind}
use Rattle.eval_plan.specs.declared.sources.Kind.TheVariants as kind
use Rattle.eval_plan.specs.declared.sources.Sources.{Sources}
use Rattle.driver_check.specs.Numbers.{before, read_count}
use Rattle.driver_check.proofs.Places.{found, same, within}
use Rattle.driver_check.proofs.Numbered.{before_later}
use Rattle.driver_check.proofs.Placed.{place_once}
use Rattle.eval_plan.proofs.Tabled.{entry_is, got}
use Rattle.eval_plan.proofs.Listed.{one_more_entry, same_entries, same_lists}

-- ---- what drives is there

held_input : (c : Circuit) (n end : ℕ) (o : Option ℕ) → slice_get c.inputs n ≡ o → input_holds c.nets end o ≡ true → n < length c.inputs
held_input c n end None e h = cc h
held_input c n end (Some x) e h = within c.inputs n x e

held_cell : (c : Circuit) (n end : ℕ) (o : Option Cell) → slice_get c.cells n ≡ o → cell_holds end o ≡ true → n < length c.cells
held_cell c n end None e h = cc h
held_cell c n end (Some x) e h = within c.cells n x e

held_register : (c : Circuit) (n end : ℕ) (o : Option Reg) → slice_get c.regs n ≡ o → register_holds end o ≡ true → n < length c.regs
held_register c n end None e h = cc h
held_register c n end (Some x) e h = within c.regs n x e

held_port : (c : Circuit) (m n end : ℕ) (o : Option Mem) → slice_get c.mems m ≡ o → port_holds n end o ≡ true → IsPart c (node.Read m n)
held_port c m n end None e h = cc h
held_port c m n end (Some x) e h = (x, e, ltb-true n (length x.reads) (and_parts (nat_lt n (length x.reads)) (nat_le end x.width) h).0)

pub by_cell : (c : Circuit) (width n at : ℕ) → driver_fits (drivers_of c) width (by.Cell n at) ≡ true → IsPart c (node.Cell n)
by_cell c width n at h = held_cell c n (at + width) (slice_get c.cells n) refl h

pub by_read : (c : Circuit) (width m n at : ℕ) → driver_fits (drivers_of c) width (by.Read m n at) ≡ true → IsPart c (node.Read m n)
by_read c width m n at h = held_port c m n (at + width) (slice_get c.mems m) refl h

pub root_fits : (c : Circuit) (roots : List Drive) → AreRoots c roots → (k : ℕ) (r : Drive) → slice_get roots k ≡ Some r → driver_fits (drivers_of c) r.width r.by ≡ true
root_fits c roots are k r at = (and_parts (net_holds c.nets r.net (r.at + r.width)) (driver_fits (drivers_of c) r.width r.by) (are.right k r at).inside).1

-- ---- how many rows there are

module _ (c : Circuit) (nodes : List Node) (ports : List ℕ) (parts : AreParts c nodes ports) where
  part_there : (n : Node) → IsPart c n → part_place c n < length nodes
  part_there n is = within nodes (part_place c n) n (parts.every n is)

  pub part_low : (width row : ℕ) (b : By) → driver_fits (drivers_of c) width b ≡ true → driver_row c kind.Part b ≡ Some row → row < length nodes
  part_low width row (by.Const v) fits e = cc e
  part_low width row (by.Input n at) fits e = cc e
  part_low width row (by.Wire n at) fits e = cc e
  part_low width row (by.Cell n at) fits e =
      let h = part_there (node.Cell n) (by_cell c width n at fits) in
      let f : Some n ≡ Some row = e in
      let g : n ≡ row = cc f in
      omega (arith, h, g)
  part_low width row (by.Reg n at) fits e = cc e
  part_low width row (by.Read m n at) fits e =
      let h = part_there (node.Read m n) (by_read c width m n at fits) in
      let f : Some (part_place c (node.Read m n)) ≡ Some row = e in
      let g : part_place c (node.Read m n) ≡ row = cc f in
      omega (arith, h, g)

  -- the first port of a memory
  pub port_low : (m : ℕ) → slice_index ports m ≤ length nodes
  port_low m = elim (cases_lt m (length c.mems)) [
    | inl lt ↦
        (let x = found c.mems m lt in
        let h = before_later read_count c.mems m (length c.mems) x.0 x.1 lt in
        let f = parts.first_port m lt in
        omega (arith, h, f, parts.long))
    | inr past ↦ (let h = get_or_past ports m 0 (omega (arith, past, parts.ports_long)) in omega (arith, h))
  ]

pub register_low : (c : Circuit) (width row : ℕ) (b : By) → driver_fits (drivers_of c) width b ≡ true → driver_row c kind.Register b ≡ Some row → row < length c.regs
register_low c width row (by.Const v) fits e = cc e
register_low c width row (by.Input n at) fits e = cc e
register_low c width row (by.Wire n at) fits e = cc e
register_low c width row (by.Cell n at) fits e = cc e
register_low c width row (by.Reg n at) fits e =
    let h = held_register c n (at + width) (slice_get c.regs n) refl fits in
    let f : Some n ≡ Some row = e in
    let g : n ≡ row = cc f in
    omega (arith, h, g)
register_low c width row (by.Read m n at) fits e = cc e

-- ---- one more root

module _ (c : Circuit) (k : Kind) (roots : List Drive) (t : ℕ) (r : Drive) (at : slice_get roots t ≡ Some r) (es : List Entry) (are : AreEntries (TakesFromRowBefore c k roots t) es) where
  here : (row place : ℕ) → TakesFromRowBefore c k roots (t + 1) row place → place ≡ t → driver_row c k r.by ≡ Some row
  here row place h e =
      let q = h.1.0 in
      let z : q ≡ r = same roots t q r (subst (λ (n : ℕ). slice_get roots n ≡ Some q) e h.1.1) at in
      subst (λ (d : Drive). driver_row c k d.by ≡ Some row) z h.1.2

  pub root_noted : (row : ℕ) → driver_row c k r.by ≡ Some row → AreEntries (TakesFromRowBefore c k roots (t + 1)) (es ++ entry row t ∷ [])
  root_noted row is =
      one_more_entry (TakesFromRowBefore c k roots t) (TakesFromRowBefore c k roots (t + 1)) es (entry row t) are (λ s p h. (omega (arith, h.0), h.1)) (omega arith, (r, at, is))
      (λ s p h. elim (cases_eq p t) [
        | inl y ↦
            (let f : Some s ≡ Some row = sym (here s p h y) ∙ is in
            let g : s ≡ row = cc f in
            inr (entry_is (entry s p) row t g y))
        | inr n ↦ inl (omega (arith, h.0, n), h.1)
      ])
      (λ p h. h.0)

  pub root_passed : driver_row c k r.by ≡ None → AreEntries (TakesFromRowBefore c k roots (t + 1)) es
  root_passed none =
      same_entries (TakesFromRowBefore c k roots t) (TakesFromRowBefore c k roots (t + 1)) (λ s p h. (omega (arith, h.0), h.1))
      (λ s p h. elim (cases_eq p t) [
        | inl y ↦ absurd (let f : None ≡ Some s = sym none ∙ here s p h y in cc f)
        | inr n ↦ (omega (arith, h.0, n), h.1)
      ]) es are

-- ---- the sources of the rows

pub input_taken : (c : Circuit) (n : ℕ) (b : By) → driver_row c kind.Input b ≡ Some n → TakesInput n b
input_taken c n (by.Const v) e = cc e
input_taken c n (by.Input m at) e = let f : Some m ≡ Some n = e in let g : m ≡ n = cc f in (at, ap (λ (x : ℕ). by.Input x at) g)
input_taken c n (by.Wire m at) e = cc e
input_taken c n (by.Cell m at) e = cc e
input_taken c n (by.Reg m at) e = cc e
input_taken c n (by.Read l m at) e = cc e

pub register_taken : (c : Circuit) (n : ℕ) (b : By) → driver_row c kind.Register b ≡ Some n → TakesRegister n b
register_taken c n (by.Const v) e = cc e
register_taken c n (by.Input m at) e = cc e
register_taken c n (by.Wire m at) e = cc e
register_taken c n (by.Cell m at) e = cc e
register_taken c n (by.Reg m at) e = let f : Some m ≡ Some n = e in let g : m ≡ n = cc f in (at, ap (λ (x : ℕ). by.Reg x at) g)
register_taken c n (by.Read l m at) e = cc e

pub constant_taken : (c : Circuit) (n : ℕ) (b : By) → driver_row c kind.Constant b ≡ Some n → TakesConstant b
constant_taken c n (by.Const v) e = (v, refl)
constant_taken c n (by.Input m at) e = cc e
constant_taken c n (by.Wire m at) e = cc e
constant_taken c n (by.Cell m at) e = cc e
constant_taken c n (by.Reg m at) e = cc e
constant_taken c n (by.Read l m at) e = cc e

-- the part of a row
pub part_taken : (c : Circuit) (width row : ℕ) (b : By) → driver_fits (drivers_of c) width b ≡ true → driver_row c kind.Part b ≡ Some row → (n : Node) → IsPart c n → part_place c n ≡ row → TakesPart n b
part_taken c width row (by.Const v) fits e n is at = cc e
part_taken c width row (by.Input m i) fits e n is at = cc e
part_taken c width row (by.Wire m i) fits e n is at = cc e
part_taken c width row (by.Cell m i) fits e n is at =
    let f : Some m ≡ Some row = e in
    let g : m ≡ row = cc f in
    subst (λ (x : Node). TakesPart x (by.Cell m i)) (place_once c (node.Cell m) n (by_cell c width m i fits) is (g ∙ sym at)) (i, refl)
part_taken c width row (by.Reg m i) fits e n is at = cc e
part_taken c width row (by.Read l m i) fits e n is at =
    let f : Some (part_place c (node.Read l m)) ≡ Some row = e in
    let g : part_place c (node.Read l m) ≡ row = cc f in
    subst (λ (x : Node). TakesPart x (by.Read l m i)) (place_once c (node.Read l m) n (by_read c width l m i fits) is (g ∙ sym at)) (i, refl)

module _ (c : Circuit) (nodes : List Node) (ports : List ℕ) (parts : AreParts c nodes ports) (roots : List Drive) (are : AreRoots c roots) where
  -- the roots of a part stand in the row of its place
  part_listed : (n : Node) → IsPart c n → (row : List ℕ) → Lists (TakesFromRow c kind.Part roots (part_place c n)) row → Lists (RootBy roots (TakesPart n)) row
  part_listed n is row lists =
      same_lists (TakesFromRow c kind.Part roots (part_place c n)) (RootBy roots (TakesPart n))
      (λ k h. (h.0, h.1, part_taken c h.0.width (part_place c n) h.0.by (root_fits c roots are k h.0 h.1) h.2 n is refl))
      (λ k h. (h.0, h.1, taken_row n h.0.by h.2)) row lists
    where
      taken_row : (x : Node) (b : By) → TakesPart x b → driver_row c kind.Part b ≡ Some (part_place c x)
      taken_row (node.Cell m) b h = ap (driver_row c kind.Part) h.1
      taken_row (node.Read l m) b h = ap (driver_row c kind.Part) h.1

  pub sources_are : (s : Sources) → s.ports.items ≡ ports → ((row : ℕ) → Lists (TakesFromRow c kind.Input roots row) (table_row s.inputs row)) → ((row : ℕ) → Lists (TakesFromRow c kind.Part roots row) (table_row s.parts row))
      → ((row : ℕ) → Lists (TakesFromRow c kind.Register roots row) (table_row s.registers row)) → ((row : ℕ) → Lists (TakesFromRow c kind.Constant roots row) (table_row s.constants row)) → AreSources c roots s
  sources_are s same_ports inputs in_parts registers constants = record {
    inputs = λ n. same_lists (TakesFromRow c kind.Input roots n) (RootBy roots (TakesInput n)) (λ k h. (h.0, h.1, input_taken c n h.0.by h.2)) (λ k h. (h.0, h.1, ap (driver_row c kind.Input) h.2.1)) (table_row s.inputs n) (inputs n);
    cells = λ n lt. part_listed (node.Cell n) lt (table_row s.parts n) (in_parts n);
    registers = λ n. same_lists (TakesFromRow c kind.Register roots n) (RootBy roots (TakesRegister n)) (λ k h. (h.0, h.1, register_taken c n h.0.by h.2)) (λ k h. (h.0, h.1, ap (driver_row c kind.Register) h.2.1)) (table_row s.registers n) (registers n);
    reads = λ m n x at lt.
        let below : m < length c.mems = within c.mems m x at in
        let first : ℕ = length c.cells + before read_count c.mems m in
        let there : slice_get s.ports.items m ≡ Some first =
        ap (λ (l : List ℕ). slice_get l m) same_ports ∙ got ports m 0 (omega (arith, below, parts.ports_long)) ∙ ap (λ (v : ℕ). Some v) (parts.first_port m below) in
        let place : first + n ≡ part_place c (node.Read m n) = omega arith in
        let row : read_row s m n ≡ table_row s.parts (part_place c (node.Read m n)) = ap (λ (o : Option ℕ). port_row s o n) there ∙ ap (λ (v : ℕ). table_row s.parts v) place in
        part_listed (node.Read m n) (x, at, lt) (read_row s m n) (subst (λ (l : List ℕ). Lists (TakesFromRow c kind.Part roots (part_place c (node.Read m n))) l) (sym row) (in_parts (part_place c (node.Read m n))));
    constants = same_lists (TakesFromRow c kind.Constant roots 0) (RootBy roots TakesConstant) (λ k h. (h.0, h.1, constant_taken c 0 h.0.by h.2)) (λ k h. (h.0, h.1, ap (driver_row c kind.Constant) h.2.1)) (table_row s.constants 0) (constants 0);
  }
