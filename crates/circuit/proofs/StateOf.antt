-- The start and each round give a state that belongs to the circuit.
use Rattle.std.proofs.Common.{◌≡◌, ℕ, zero, suc, ◌/◌, ◌^◌, List, [], ◌∷◌, length, refl, sym, ◌∙◌, ap, subst, arith, Some}
use Rattle.std.proofs.lemmas.List.{length-map}
use Rattle.std.proofs.lemmas.Option.{same_Some, option_and_then_some}
use Rattle.circuit.specs.Signal.{Digits, digits_of_nets}
use Rattle.circuit.specs.State.{State, Stored}
use Rattle.circuit.specs.StateOf.{IsStateOf}
use Rattle.circuit.specs.Valuation.{digit_at, numbers_from, valuation}
use Rattle.circuit.specs.Next.{next, next_mems, next_numbers, next_reads, next_rows}
use Rattle.sim_base.specs.Parts.{parts}
use Rattle.circuit.specs.Rounds.{Run, Standing, settled, standing_after, start, start_state, start_stored}
use Rattle.circuit.specs.declared.netlist.Circuit.{Circuit}
use Rattle.circuit.specs.declared.netlist.Net.{Net}
use Rattle.circuit.specs.declared.register.Reg.{Reg}
use Rattle.circuit.specs.declared.memory.Mem.{Mem}
use Rattle.circuit.specs.declared.memory.ReadPort.{ReadPort}
use Rattle.circuit.proofs.Still.{settles}
use Rattle.circuit.proofs.Below.{first_mems, mems_at, samples_keep}

-- ---- lengths

as_many_parts : (width count n : ℕ) → length (parts width count n) ≡ count
unfolding parts
as_many_parts width zero n = refl
as_many_parts width (suc count) n = let t : length (parts width count (n / 2 ^ width)) ≡ count = as_many_parts width count (n / 2 ^ width) in omega arith

as_many_numbers : (before now : Digits) (rs : List Reg) (ps : List ℕ) → length ps ≡ length rs → length (next_numbers before now rs ps) ≡ length rs
unfolding next_numbers
as_many_numbers before now [] ps e = refl
as_many_numbers before now (r ∷ rs) [] e = absurd (omega (arith, e))
as_many_numbers before now (r ∷ rs) (p ∷ ps) e =
    let t : length (next_numbers before now rs ps) ≡ length rs = as_many_numbers before now rs ps (omega (arith, e)) in omega arith

as_many_rows : (before now : Digits) (m : Mem) (place : ℕ) (rows : List ℕ) → length (next_rows before now m place rows) ≡ length rows
unfolding next_rows
as_many_rows before now m place [] = refl
as_many_rows before now m place (own ∷ rows) =
    let t : length (next_rows before now m (suc place) rows) ≡ length rows = as_many_rows before now m (suc place) rows in omega arith

as_many_reads : (before now : Digits) (m : Mem) (rows : List ℕ) (ports : List ReadPort) (owns : List ℕ) → length owns ≡ length ports → length (next_reads before now m rows ports owns) ≡ length ports
unfolding next_reads
as_many_reads before now m rows [] owns e = refl
as_many_reads before now m rows (p ∷ ports) [] e = absurd (omega (arith, e))
as_many_reads before now m rows (p ∷ ports) (own ∷ owns) e =
    let t : length (next_reads before now m rows ports owns) ≡ length ports = as_many_reads before now m rows ports owns (omega (arith, e)) in omega arith

as_many_mems : (before now : Digits) (ms : List Mem) (ks : List Stored) → length ks ≡ length ms → length (next_mems before now ms ks) ≡ length ms
unfolding next_mems
as_many_mems before now [] ks e = refl
as_many_mems before now (m ∷ ms) [] e = absurd (omega (arith, e))
as_many_mems before now (m ∷ ms) (k ∷ ks) e =
    let t : length (next_mems before now ms ks) ≡ length ms = as_many_mems before now ms ks (omega (arith, e)) in omega arith

as_many_nets : (digits : Digits) (n : ℕ) (xs : List Net) → length (numbers_from digits n xs) ≡ length xs
unfolding numbers_from
as_many_nets digits n [] = refl
as_many_nets digits n (x ∷ xs) = let t : length (numbers_from digits (suc n) xs) ≡ length xs = as_many_nets digits (suc n) xs in omega arith

-- ---- states

pub start_belongs : (c : Circuit) → IsStateOf c (start_state c)
start_belongs c = record {
  regs = length-map c.regs (λ r. r.init.number);
  mems = length-map c.mems start_stored;
  rows = λ n m kept is first. subst (λ (k : Stored). length k.rows ≡ m.size) (first_mems c.mems n m kept is first) (as_many_parts m.width m.size m.init.number);
  reads = λ n m kept is first. subst (λ (k : Stored). length k.reads ≡ length m.reads) (first_mems c.mems n m kept is first) (length-map m.reads (λ p. p.init.number));
}

pub next_belongs : (c : Circuit) (s : State) (before now : List ℕ) → IsStateOf c s → IsStateOf c (next c s before now)
next_belongs c s before now fits = record {
  regs = as_many_numbers b d c.regs s.regs fits.regs;
  mems = as_many_mems b d c.mems s.mems fits.mems;
  rows = λ n m kept is after. (let h = mems_at b d c.mems s.mems n m kept is after in
      subst (λ (k : Stored). length k.rows ≡ m.size) h.2 (as_many_rows b d m 0 h.0.rows ∙ fits.rows n m h.0 is h.1));
  reads = λ n m kept is after. (let h = mems_at b d c.mems s.mems n m kept is after in
      subst (λ (k : Stored). length k.reads ≡ length m.reads) h.2 (as_many_reads b d m h.0.rows m.reads h.0.reads (fits.reads n m h.0 is h.1)));
}
  where
    b : Digits
    b = digits_of_nets before

    d : Digits
    d = digits_of_nets now

pub sample_belongs : (run : Run) (k : ℕ) (s : Standing) → standing_after run k ≡ Some s → IsStateOf run.circuit s.state
sample_belongs run k s is = samples_keep run (IsStateOf run.circuit) (start_belongs run.circuit) (next_belongs run.circuit) k s is

valuation_long : (c : Circuit) (state : State) (inputs : List ℕ) → length (valuation c state inputs) ≡ length c.nets
valuation_long c state inputs = as_many_nets (digit_at c state inputs) 0 c.nets

pub sample_nets : (run : Run) (k : ℕ) (s : Standing) → standing_after run k ≡ Some s → length s.nets ≡ length run.circuit.nets
unfolding standing_after
sample_nets run zero s is = ap (λ (t : Standing). length t.nets) (sym (same_Some (start run.circuit) s is)) ∙ valuation_long run.circuit (start_state run.circuit) _
sample_nets run (suc k) s is =
    option_and_then_some (λ t. settled run.circuit t (run.row k).inputs) (standing_after run k) s is
    (λ t before here. ap length (settles 256 run.circuit t.state t.nets (run.row k).inputs s here).nets ∙ valuation_long run.circuit s.state (run.row k).inputs)
