-- What a machine keeps, and what stands before the first sample.
use Rattle.std.proofs.Common.{◌≡◌, ℕ, zero, suc, ◌≤◌, List, [], ◌∷◌, map, length, refl, sym, ◌∙◌, ap, subst, arith, Bool, Some, true}
use Rattle.std.specs.Prelude.{slice_get, slice_index}
use Rattle.sim_base.specs.BitValue.{BitValue, zeros}
use Rattle.circuit.specs.Rounds.{Standing, start, start_state}
use Rattle.circuit.specs.Shown.{stored_row}
use Rattle.circuit.specs.State.{State, Stored}
use Rattle.circuit.specs.Store.{start_store}
use Rattle.circuit.specs.Valuation.{valuation}
use Rattle.circuit.specs.Valid.{is_valid}
use Rattle.circuit.specs.declared.netlist.Circuit.{Circuit}
use Rattle.circuit.specs.declared.memory.Mem.{Mem}
use Rattle.circuit.specs.declared.memory.ReadPort.{ReadPort}
use Rattle.circuit.specs.declared.register.Reg.{Reg}
use Rattle.circuit.specs.declared.store.Store.{Store}
use Rattle.eval_plan.specs.declared.plan.Plan.{Plan}
use Rattle.memory_cells.specs.Rows.{RowValues, start_rows}
use Rattle.signal_words.specs.Stores.{IsStoreOf}
use Rattle.sim_base.specs.Values.{numbers, widths}
use Rattle.eval_commit.specs.Computed.{AreAllRows}
use Rattle.eval_commit.specs.Fired.{none_fired}
use Rattle.eval_commit.specs.Evaluation.{Holds, IsBlank, input_width}
use Rattle.eval_commit.specs.Invariant.{ArePortsOf, AreRoundsOf, standing_of, state_of}
use Rattle.eval_commit.specs.Marked.{AreReadPlaces}
use Rattle.eval_commit.specs.KeptState.{kept_state, stored_all}
use Rattle.eval_commit.specs.declared.step.Rounds.{Rounds}
use Rattle.eval_commit.proofs.Firing.{none_fired_length}
use Rattle.eval_commit.proofs.PortsOver.{long_as}
use Rattle.eval_commit.proofs.PortsKept.{kept_holds, start_ports_wide, start_stored_is}
use Rattle.eval_commit.proofs.Starting.{first_holds}

pub ports_long : (c : Circuit) (ports : List (List BitValue)) → ArePortsOf c ports → length ports ≡ length c.mems
ports_long c ports e = long_as widths (λ (m : Mem). map (λ _. m.width) m.reads) ports c.mems e

-- a row of a memory
pub row_kept : (rows : List RowValues) (ports : List (List BitValue)) (n : ℕ) (r : RowValues) (i : ℕ) → length rows ≤ length ports → slice_get rows n ≡ Some r → stored_row (slice_get (stored_all rows ports) n) i ≡ slice_index r.rows i
unfolding stored_all
row_kept [] ports n r i le at = cc at
row_kept (x ∷ xs) [] n r i le at = absurd (omega arith)
row_kept (x ∷ xs) (o ∷ os) zero r i le at = let e : x ≡ r = cc at in ap (λ (y : RowValues). slice_index y.rows i) e
row_kept (x ∷ xs) (o ∷ os) (suc n) r i le at = row_kept xs os n r i (omega (arith, le)) at

-- a store with copies of what is kept holds the state
pub rounds_hold : (c : Circuit) (plan : Plan) (r : Rounds) (store : Store) (rows : List RowValues) → AreRoundsOf c plan r → rows ≡ r.rows → store.regs ≡ r.regs → store.reads ≡ r.ports → Holds c rows store (state_of r)
rounds_hold c plan r store rows are same regs reads =
    subst (λ (rs : List RowValues). Holds c rs store (state_of r)) (sym same)
    (kept_holds c r.regs r.rows r.ports store are.rows.long (ports_long c r.ports are.ports) (ap numbers regs) reads)

-- ---- before the first sample

pub zero_numbers : (f : ℕ → ℕ) (nets : List ℕ) → numbers (map (λ net. zeros (f net)) nets) ≡ map (λ _. 0) nets
zero_numbers f [] = refl
zero_numbers f (n ∷ ns) = ap (λ xs. 0 ∷ xs) (zero_numbers f ns)

-- the registers, rows and read ports have their start values, both stores are those of the start, and no diagnostic has fired
pub record AreFirst (c : Circuit) (plan : Plan) (r : Rounds) : Type 0 where
  pub regs : r.regs ≡ map (λ x. x.init) c.regs
  pub rows : r.rows ≡ map start_rows c.mems
  pub ports : r.ports ≡ map (λ m. map (λ p. p.init) m.reads) c.mems
  pub before : r.before ≡ start_store c
  pub now : r.now ≡ start_store c
  pub rooms : widths r.rooms.items ≡ map (λ m. m.width) c.mems
  pub fired : r.fired ≡ none_fired c.diags
  pub marks : r.marks.width ≡ length plan.nodes
  pub reads : AreReadPlaces plan.nodes r.reads.items

pub first_rounds : (c : Circuit) (plan : Plan) (r : Rounds) → AreFirst c plan r → IsStoreOf c (start_store c) → AreAllRows c (map start_rows c.mems) → IsBlank plan.roots (start_store c).nets
    → is_valid c ≡ true → AreRoundsOf c plan r
first_rounds c plan r is of sized blank valid = record {
  regs = ap widths is.regs ∙ of.regs;
  rows = subst (AreAllRows c) (sym is.rows) sized;
  ports = ap (map widths) is.ports ∙ start_ports_wide c valid;
  before = subst (IsStoreOf c) (sym is.before) of;
  before_blank = subst (λ (s : Store). IsBlank plan.roots s.nets) (sym is.before) blank;
  now = subst (IsStoreOf c) (sym is.now) of;
  now_blank = subst (λ (s : Store). IsBlank plan.roots s.nets) (sym is.now) blank;
  rooms = is.rooms;
  fired = ap length is.fired ∙ none_fired_length c.diags;
  marks = is.marks;
  reads = is.reads;
}

-- other flags, as many
pub flags_put : (c : Circuit) (plan : Plan) (r : Rounds) (fired : List Bool) → AreRoundsOf c plan r → length fired ≡ length r.fired
    → AreRoundsOf c plan (record { regs = r.regs; rows = r.rows; ports = r.ports; before = r.before; now = r.now; rooms = r.rooms; fired = fired; marks = r.marks; reads = r.reads })
flags_put c plan r fired is e = record {
  regs = is.regs;
  rows = is.rows;
  ports = is.ports;
  before = is.before;
  before_blank = is.before_blank;
  now = is.now;
  now_blank = is.now_blank;
  rooms = is.rooms;
  fired = e ∙ is.fired;
  marks = is.marks;
  reads = is.reads;
}

-- the stores of the round before and of the round change places
pub stores_swapped : (c : Circuit) (plan : Plan) (r : Rounds) (before now : Store) → AreRoundsOf c plan r → before ≡ r.now → now ≡ r.before
    → AreRoundsOf c plan (record { regs = r.regs; rows = r.rows; ports = r.ports; before = before; now = now; rooms = r.rooms; fired = r.fired; marks = r.marks; reads = r.reads })
stores_swapped c plan r before now is e f = record {
  regs = is.regs;
  rows = is.rows;
  ports = is.ports;
  before = subst (IsStoreOf c) (sym e) is.now;
  before_blank = subst (λ (s : Store). IsBlank plan.roots s.nets) (sym e) is.now_blank;
  now = subst (IsStoreOf c) (sym f) is.before;
  now_blank = subst (λ (s : Store). IsBlank plan.roots s.nets) (sym f) is.before_blank;
  rooms = is.rooms;
  fired = is.fired;
  marks = is.marks;
  reads = is.reads;
}

pub first_state : (c : Circuit) (plan : Plan) (r : Rounds) → AreFirst c plan r → state_of r ≡ start_state c
first_state c plan r is =
    ap (λ (vs : List BitValue). kept_state vs r.rows r.ports) is.regs
    ∙ ap (λ (rs : List RowValues). kept_state (map (λ (x : Reg). x.init) c.regs) rs r.ports) is.rows
    ∙ ap (λ (os : List (List BitValue)). kept_state (map (λ (x : Reg). x.init) c.regs) (map start_rows c.mems) os) is.ports
    ∙ ap (λ (ns : List ℕ). let s : State = record { regs = ns; mems = stored_all (map start_rows c.mems) (map (λ (m : Mem). map (λ (p : ReadPort). p.init) m.reads) c.mems) } in s) (sym (first_holds c).regs)
    ∙ ap (λ (ks : List Stored). let s : State = record { regs = (start_state c).regs; mems = ks } in s) (start_stored_is c.mems)

pub start_is : (c : Circuit) (r : Rounds) (first : State) (inputs : List BitValue) → state_of r ≡ first → first ≡ start_state c → numbers r.before.nets ≡ valuation c first (numbers inputs)
    → inputs ≡ map (λ net. zeros (input_width c net)) c.inputs → standing_of r ≡ start c
start_is c r first inputs kept is nets zero_inputs =
    let zero_list : numbers inputs ≡ map (λ _. 0) c.inputs = ap numbers zero_inputs ∙ zero_numbers (input_width c) c.inputs in
    ap (λ (s : State). let t : Standing = record { state = s; nets = numbers r.before.nets } in t) (kept ∙ is)
    ∙ ap (λ (ns : List ℕ). let t : Standing = record { state = start_state c; nets = ns } in t)
    (nets ∙ ap (λ (s : State). valuation c s (numbers inputs)) is ∙ ap (valuation c (start_state c)) zero_list)
