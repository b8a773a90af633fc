-- A bit is free where all that it depends on is.
use Rattle.std.proofs.Common.{◌≡◌, ℕ, suc, ◌+◌, ◌-◌, refl, subst, inl, inr, Bool, true, false, ◌&&◌, ◌||◌, Option, Some, None}
use Rattle.std.specs.Prelude.{slice_get}
use Rattle.std.proofs.lemmas.Bool.{and_parts, and_from}
use Rattle.circuit.specs.Valuation.{drive_of}
use Rattle.circuit.specs.Acyclic.{Test, by_acyclic, cell_acyclic, drive_acyclic, acyclic_within, port_acyclic, read_acyclic, sig_acyclic}
use Rattle.circuit.specs.declared.netlist.Circuit.{Circuit}
use Rattle.circuit.specs.declared.netlist.Drive.{Drive}
use Rattle.circuit.specs.declared.netlist.By.{By}
use Rattle.circuit.specs.declared.netlist.By.TheVariants as by
use Rattle.circuit.specs.declared.cell.Cell.{Cell}
use Rattle.circuit.specs.declared.memory.Mem.{Mem}
use Rattle.circuit.specs.declared.memory.ReadPort.{ReadPort}
use Rattle.circuit.proofs.Freed.{sig_from, sig_reads}
use Rattle.driver_check.specs.Depends.{Bit, CellReads, DependsOn, DriveTakes, MemReads, PortReads, TakesBit}

module _ (c : Circuit) (free : Test) where
  cell_from : (o : Option Cell) → ((net bit : ℕ) → CellReads o net bit → free net bit ≡ true) → cell_acyclic free o ≡ true
  cell_from None h = refl
  cell_from (Some x) h =
      and_from (sig_acyclic free x.a) (sig_acyclic free x.b && sig_acyclic free x.s) (sig_from free x.a (λ net bit r. h net bit (inl r)))
      (and_from (sig_acyclic free x.b) (sig_acyclic free x.s) (sig_from free x.b (λ net bit r. h net bit (inr (inl r)))) (sig_from free x.s (λ net bit r. h net bit (inr (inr r)))))

  cell_to : (o : Option Cell) → cell_acyclic free o ≡ true → (net bit : ℕ) → CellReads o net bit → free net bit ≡ true
  cell_to None h net bit r = absurd r
  cell_to (Some x) h net bit r =
      let p = and_parts (sig_acyclic free x.a) (sig_acyclic free x.b && sig_acyclic free x.s) h in
      let q = and_parts (sig_acyclic free x.b) (sig_acyclic free x.s) p.1 in
      elim r [
        | inl a ↦ sig_reads free x.a p.0 net bit a
        | inr t ↦ elim t [ inl b ↦ sig_reads free x.b q.0 net bit b | inr s ↦ sig_reads free x.s q.1 net bit s ]
      ]

  port_from : (o : Option ReadPort) → ((net bit : ℕ) → PortReads o net bit → free net bit ≡ true) → port_acyclic free o ≡ true
  port_from None h = refl
  port_from (Some p) h = by p.clocked (λ off. sig_from free p.addr (λ net bit r. h net bit (off, r)))
    where
      by : (clocked : Bool) → (clocked ≡ false → sig_acyclic free p.addr ≡ true) → (clocked || sig_acyclic free p.addr) ≡ true
      by true t = refl
      by false t = t refl

  port_to : (o : Option ReadPort) → port_acyclic free o ≡ true → (net bit : ℕ) → PortReads o net bit → free net bit ≡ true
  port_to None h net bit r = absurd r
  port_to (Some p) h net bit r = sig_reads free p.addr (by p.clocked r.0 h) net bit r.1
    where
      by : (clocked : Bool) → clocked ≡ false → (clocked || sig_acyclic free p.addr) ≡ true → sig_acyclic free p.addr ≡ true
      by true off t = cc off
      by false off t = t

  read_from : (o : Option Mem) (n : ℕ) → ((net bit : ℕ) → MemReads o n net bit → free net bit ≡ true) → read_acyclic free o n ≡ true
  read_from None n h = refl
  read_from (Some m) n h = port_from (slice_get m.reads n) h

  read_to : (o : Option Mem) (n : ℕ) → read_acyclic free o n ≡ true → (net bit : ℕ) → MemReads o n net bit → free net bit ≡ true
  read_to None n h net bit r = absurd r
  read_to (Some m) n h net bit r = port_to (slice_get m.reads n) h net bit r

  by_from : (b : By) (i : ℕ) → ((net bit : ℕ) → TakesBit c b i net bit → free net bit ≡ true) → by_acyclic c free b i ≡ true
  by_from (by.Const v) i h = refl
  by_from (by.Input n at) i h = refl
  by_from (by.Wire n at) i h = h n (at + i) (refl, refl)
  by_from (by.Cell n at) i h = cell_from (slice_get c.cells n) h
  by_from (by.Reg n at) i h = refl
  by_from (by.Read m n at) i h = read_from (slice_get c.mems m) n h

  by_to : (b : By) (i : ℕ) → by_acyclic c free b i ≡ true → (net bit : ℕ) → TakesBit c b i net bit → free net bit ≡ true
  by_to (by.Const v) i h net bit r = absurd r
  by_to (by.Input n at) i h net bit r = absurd r
  by_to (by.Wire n at) i h net bit r = subst (λ (k : ℕ). free k bit ≡ true) r.0 (subst (λ (k : ℕ). free n k ≡ true) r.1 h)
  by_to (by.Cell n at) i h net bit r = cell_to (slice_get c.cells n) h net bit r
  by_to (by.Reg n at) i h net bit r = absurd r
  by_to (by.Read m n at) i h net bit r = read_to (slice_get c.mems m) n h net bit r

  drive_from : (bit : ℕ) (o : Option Drive) → ((net b : ℕ) → DriveTakes c o bit net b → free net b ≡ true) → drive_acyclic c free bit o ≡ true
  drive_from bit None h = refl
  drive_from bit (Some d) h = by_from d.by (bit - d.at) h

  drive_to : (bit : ℕ) (o : Option Drive) → drive_acyclic c free bit o ≡ true → (net b : ℕ) → DriveTakes c o bit net b → free net b ≡ true
  drive_to bit None h net b r = absurd r
  drive_to bit (Some d) h net b r = by_to d.by (bit - d.at) h net b r

-- where all that a bit depends on is free, it is
pub free_from : (c : Circuit) (s : ℕ) (x : Bit) → ((y : Bit) → DependsOn c x y → acyclic_within c s y.0 y.1 ≡ true) → acyclic_within c (suc s) x.0 x.1 ≡ true
unfolding acyclic_within
free_from c s x h = drive_from c (acyclic_within c s) x.1 (drive_of c x.0 x.1) (λ net bit r. h (net, bit) r)

pub free_to : (c : Circuit) (s : ℕ) (x y : Bit) → acyclic_within c (suc s) x.0 x.1 ≡ true → DependsOn c x y → acyclic_within c s y.0 y.1 ≡ true
unfolding acyclic_within
free_to c s x y h r = drive_to c (acyclic_within c s) x.1 (drive_of c x.0 x.1) h y.0 y.1 r
