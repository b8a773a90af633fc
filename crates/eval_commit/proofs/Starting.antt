-- The state before the first sample.
use Rattle.std.proofs.Common.{◌≡◌, ℕ, zero, suc, List, [], ◌∷◌, map, refl, sym, ◌∙◌, ap, subst, true, Some, None}
use Rattle.std.specs.Prelude.{slice_get, slice_index}
use Rattle.std.specs.Int.{bit_at}
use Rattle.std.proofs.lemmas.Bool.{cond-true}
use Rattle.std.proofs.lemmas.List.{length-map}
use Rattle.std.proofs.lemmas.Nat.Bits.{bit_at-zero}
use Rattle.sim_base.specs.BitValue.{BitValue, zeros}
use Rattle.circuit.specs.Rounds.{start_state, start_stored}
use Rattle.circuit.specs.State.{Stored}
use Rattle.circuit.specs.Store.{start_read, start_store}
use Rattle.circuit.specs.declared.netlist.Circuit.{Circuit}
use Rattle.circuit.specs.declared.netlist.Net.{Net}
use Rattle.circuit.specs.declared.netlist.Drive.{Drive}
use Rattle.circuit.specs.declared.register.Reg.{Reg}
use Rattle.circuit.specs.declared.memory.Mem.{Mem}
use Rattle.circuit.specs.declared.memory.ReadPort.{ReadPort}
use Rattle.memory_cells.specs.Rows.{AreRowsOf, RowValues, start_rows}
use Rattle.sim_base.specs.Values.{numbers, widths}
use Rattle.eval_commit.specs.Computed.{AreAllRows}
use Rattle.eval_commit.specs.Evaluation.{AreInputsOf, Holds, IsBlank, input_width}

zeros_widths : {X : Type 0} (f : X → ℕ) (xs : List X) → widths (map (λ x. zeros (f x)) xs) ≡ map f xs
zeros_widths f [] = refl
zeros_widths f (x ∷ xs) = ap (λ ws. f x ∷ ws) (zeros_widths f xs)

zeros_numbers : {X : Type 0} (f : X → ℕ) (xs : List X) (n : ℕ) → slice_index (numbers (map (λ x. zeros (f x)) xs)) n ≡ 0
zeros_numbers f [] n = refl
zeros_numbers f (x ∷ xs) zero = refl
zeros_numbers f (x ∷ xs) (suc n) = zeros_numbers f xs n

init_numbers : (rs : List Reg) → map (λ (r : Reg). r.init.number) rs ≡ numbers (map (λ (r : Reg). r.init) rs)
init_numbers [] = refl
init_numbers (r ∷ rs) = ap (λ ns. r.init.number ∷ ns) (init_numbers rs)

pub no_width : (xs : List Net) (n : ℕ) → None ≡ slice_get xs n → 0 ≡ slice_index (map (λ (x : Net). x.width) xs) n
no_width [] n e = refl
no_width (x ∷ xs) zero e = cc e
no_width (x ∷ xs) (suc n) e = no_width xs n e

-- an element of a list that was made from another one
made_at : {X Y : Type 0} (f : X → Y) (xs : List X) (n : ℕ) (x : X) (y : Y) → slice_get xs n ≡ Some x → slice_get (map f xs) n ≡ Some y → f x ≡ y
made_at f [] n x y a b = cc a
made_at f (z ∷ xs) zero x y a b = let e : z ≡ x = cc a in let g : f z ≡ y = cc b in ap f (sym e) ∙ g
made_at f (z ∷ xs) (suc n) x y a b = made_at f xs n x y a b

made_from : {X Y : Type 0} (f : X → Y) (xs : List X) (n : ℕ) (y : Y) → slice_get (map f xs) n ≡ Some y → (x : X) × (slice_get xs n ≡ Some x) × (f x ≡ y)
made_from f [] n y b = cc b
made_from f (z ∷ xs) zero y b = (z, refl, (let g : f z ≡ y = cc b in g))
made_from f (z ∷ xs) (suc n) y b = made_from f xs n y b

first_number : (x : Mem) (ps : List ReadPort) (n : ℕ) (p : ReadPort) → slice_get ps n ≡ Some p → p.clocked ≡ true
    → slice_index (map (λ (q : ReadPort). q.init.number) ps) n ≡ slice_index (numbers (map (start_read x) ps)) n
first_number x [] n p a on = refl
first_number x (q ∷ ps) zero p a on =
    let e : q ≡ p = cc a in
    ap (λ (v : BitValue). v.number) (sym (cond-true q.clocked q.init (zeros x.width) (ap (λ (r : ReadPort). r.clocked) e ∙ on)))
first_number x (q ∷ ps) (suc n) p a on = first_number x ps n p a on

pub first_holds : (c : Circuit) → Holds c (map start_rows c.mems) (start_store c) (start_state c)
first_holds c = record {
  regs = init_numbers c.regs;
  mems = length-map c.mems start_stored;
  rows_are = λ m kept r a b.
      let x = made_from start_stored c.mems m kept a in
      let e : start_rows x.0 ≡ r = made_at start_rows c.mems m x.0 r x.1 b in
      sym (ap (λ (s : Stored). s.rows) x.2) ∙ ap (λ (s : RowValues). s.rows) e;
  reads_are = λ m n x p kept outs a b on k o.
      let e : start_stored x ≡ kept = made_at start_stored c.mems m x kept a k in
      let f : map (start_read x) x.reads ≡ outs = made_at (λ (y : Mem). map (start_read y) y.reads) c.mems m x outs a o in
      sym (ap (λ (s : Stored). slice_index s.reads n) e) ∙ first_number x x.reads n p b on ∙ ap (λ (os : List BitValue). slice_index (numbers os) n) f;
}

pub first_rows : ((m : Mem) → AreRowsOf m (start_rows m)) → (c : Circuit) → AreAllRows c (map start_rows c.mems)
first_rows start c = record {
  long = length-map c.mems start_rows;
  each = λ n m r a b.
      let e : start_rows m ≡ r = made_at start_rows c.mems n m r a b in
      subst (λ (s : RowValues). AreRowsOf m s) e (start m);
}

pub first_blank : (c : Circuit) (roots : List Drive) → IsBlank roots (start_store c).nets
first_blank c roots x none = ap (λ (n : ℕ). bit_at n x.1) (zeros_numbers (λ (y : Net). y.width) c.nets x.0) ∙ bit_at-zero x.1

pub first_inputs : (c : Circuit) → AreInputsOf c (map (λ net. zeros (input_width c net)) c.inputs)
first_inputs c = zeros_widths (input_width c) c.inputs
