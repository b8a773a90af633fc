-- What roots take is there.
use Rattle.std.proofs.Common.{◌≡◌, ℕ, zero, suc, ◌+◌, ◌≤◌, List, [], ◌∷◌, map, length, refl, ◌∙◌, ap, subst, arith, true, Option, Some, None, nat_le, nat_lt}
use Rattle.std.specs.Prelude.{option_and_then, slice_get, slice_index}
use Rattle.std.proofs.lemmas.Bool.{and_parts, leb-true, ltb-true}
use Rattle.std.proofs.lemmas.Bool.Decides.{nat_tests}
use Rattle.sim_base.specs.BitValue.{BitValue}
use Rattle.circuit.specs.Valid.{driver_fits, drivers_of, input_holds, port_holds, reaches, register_holds}
use Rattle.circuit.specs.declared.netlist.Circuit.{Circuit}
use Rattle.circuit.specs.declared.netlist.Net.{Net}
use Rattle.circuit.specs.declared.netlist.Drive.{Drive}
use Rattle.circuit.specs.declared.netlist.By.{By}
use Rattle.circuit.specs.declared.netlist.By.TheVariants as by
use Rattle.circuit.specs.declared.register.Reg.{Reg}
use Rattle.circuit.specs.declared.memory.Mem.{Mem}
use Rattle.circuit.specs.declared.store.Store.{Store}
use Rattle.eval_plan.specs.Roots.{AreRoots}
use Rattle.eval_plan.proofs.Given.{root_fits}
use Rattle.driver_check.proofs.Places.{found}
use Rattle.signal_words.specs.Stores.{IsStoreOf}
use Rattle.sim_base.specs.Values.{widths}
use Rattle.signal_words.proofs.Fitting.{mapped_at}
use Rattle.eval_commit.specs.Seeding.{HasKept, Kept, is_kept, kept_value}
use Rattle.eval_commit.specs.Evaluation.{AreInputsOf}
use Rattle.circuit.specs.Valuation.{offset_of}
use Rattle.eval_commit.proofs.Belonging.{value_at}

abbrev pub kept_of : List BitValue → Store → Kept
kept_of inputs store = record { inputs = inputs; regs = store.regs; reads = store.reads }

abbrev Takes : Kept → By → ℕ → Type 0
Takes kept b width = (v : BitValue) × (kept_value kept b ≡ Some v) × (offset_of b + width ≤ v.width)

-- the values of a memory's ports
pub outs_at : (c : Circuit) (store : Store) (m : ℕ) (x : Mem) → IsStoreOf c store → slice_get c.mems m ≡ Some x → (outs : List BitValue) × (slice_get store.reads m ≡ Some outs) × (widths outs ≡ map (λ _. x.width) x.reads)
outs_at c store m x s at = go store.reads c.mems m s.reads at
  where
    go : (os : List (List BitValue)) (ms : List Mem) (k : ℕ) → map widths os ≡ map (λ y. map (λ _. y.width) y.reads) ms → slice_get ms k ≡ Some x → (outs : List BitValue) × (slice_get os k ≡ Some outs) × (widths outs ≡ map (λ _. x.width) x.reads)
    go os [] k e a = cc a
    go [] (y ∷ ms) k e a = cc e
    go (o ∷ os) (y ∷ ms) zero e a =
        let f : y ≡ x = cc a in
        let g : widths o ≡ map (λ _. y.width) y.reads = cc e in
        (o, refl, subst (λ (z : Mem). widths o ≡ map (λ _. z.width) z.reads) f g)
    go (o ∷ os) (y ∷ ms) (suc k) e a =
        let g : map widths os ≡ map (λ z. map (λ _. z.width) z.reads) ms = cc e in
        go os ms k g a

module _ (c : Circuit) (inputs : List BitValue) (store : Store) (are : AreInputsOf c inputs) (s : IsStoreOf c store) where
  takes_input : (n at width : ℕ) (o : Option ℕ) → slice_get c.inputs n ≡ o → input_holds c.nets (at + width) o ≡ true → Takes (kept_of inputs store) (by.Input n at) width
  takes_input n at width None e h = cc h
  takes_input n at width (Some net) e h =
      let v = value_at (slice_index (map (λ (x : Net). x.width) c.nets)) inputs c.inputs n net are e in
      let t = net_there net (at + width) (slice_get c.nets net) refl h in
      let w : slice_index (map (λ (x : Net). x.width) c.nets) net ≡ t.0.width = (mapped_at (λ (x : Net). x.width) c.nets net t.0 t.1).1 in
      (v.0, v.1, omega (arith, t.2, v.2, w))
    where
      net_there : (k end : ℕ) (p : Option Net) → slice_get c.nets k ≡ p → reaches end p ≡ true → (x : Net) × (slice_get c.nets k ≡ Some x) × (end ≤ x.width)
      net_there k end None a r = cc r
      net_there k end (Some x) a r = (x, a, leb-true end x.width r)

  takes_reg : (n at width : ℕ) (o : Option Reg) → slice_get c.regs n ≡ o → register_holds (at + width) o ≡ true → Takes (kept_of inputs store) (by.Reg n at) width
  takes_reg n at width None e h = cc h
  takes_reg n at width (Some r) e h =
      let v = value_at (λ (x : Reg). x.width) store.regs c.regs n r s.regs e in
      let le : at + width ≤ r.width = leb-true (at + width) r.width h in
      (v.0, v.1, omega (arith, le, v.2))

  takes_read : (m n at width : ℕ) (o : Option Mem) → slice_get c.mems m ≡ o → port_holds n (at + width) o ≡ true → Takes (kept_of inputs store) (by.Read m n at) width
  takes_read m n at width None e h = cc h
  takes_read m n at width (Some x) e h =
      let t = and_parts (nat_lt n (length x.reads)) (nat_le (at + width) x.width) h in
      let p = found x.reads n (ltb-true n (length x.reads) t.0) in
      let outs = outs_at c store m x s e in
      let v = value_at (λ _. x.width) outs.0 x.reads n p.0 outs.2 p.1 in
      let le : at + width ≤ x.width = leb-true (at + width) x.width t.1 in
      (v.0, ap (option_and_then (λ os. slice_get os n)) outs.1 ∙ v.1, omega (arith, le, v.2))

  takes : (width : ℕ) (b : By) → driver_fits (drivers_of c) width b ≡ true → is_kept b ≡ true → Takes (kept_of inputs store) b width
  takes width (by.Const v) fits is = (v, refl, (let e : v.width ≡ width = grind (arith, nat_tests) in omega (arith, e)))
  takes width (by.Input n at) fits is = takes_input n at width (slice_get c.inputs n) refl fits
  takes width (by.Wire n at) fits is = cc is
  takes width (by.Cell n at) fits is = cc is
  takes width (by.Reg n at) fits is = takes_reg n at width (slice_get c.regs n) refl fits
  takes width (by.Read m n at) fits is = takes_read m n at width (slice_get c.mems m) refl fits

  pub has_kept : (roots : List Drive) → AreRoots c roots → (i : ℕ) (r : Drive) → slice_get roots i ≡ Some r → HasKept (kept_of inputs store) r
  has_kept roots rooted i r at is = takes r.width r.by (root_fits c roots rooted i r at) is
