-- What a machine shows.
use Rattle.std.proofs.Common.{◌≡◌, ℕ, ◌<◌, List, length, map, get_or, cond, refl, sym, ◌∙◌, ap, subst, arith, Bool, true, false, ◌&&◌, Option, Some, None}
use Rattle.std.specs.Prelude.{is_some, slice_get, slice_index}
use Rattle.std.proofs.lemmas.Option.{none-some, slice_get-get_or}
use Rattle.sim_base.specs.BitValue.{BitValue}
use Rattle.circuit.specs.Rounds.{Standing, rounds_from, settled}
use Rattle.circuit.specs.Shown.{fires_by, stored_row}
use Rattle.circuit.specs.declared.netlist.Circuit.{Circuit}
use Rattle.circuit.specs.declared.netlist.Net.{Net}
use Rattle.circuit.specs.declared.memory.Mem.{Mem}
use Rattle.eval_plan.specs.declared.plan.Plan.{Plan}
use Rattle.driver_check.proofs.Places.{found, within}
use Rattle.memory_cells.specs.Rows.{AreRowsOf, RowValues}
use Rattle.eval_commit.specs.Fired.{none_fired}
use Rattle.eval_commit.specs.Machine.{MachineState, after_sample}
use Rattle.eval_commit.specs.Invariant.{AreRoundsOf, standing_of}
use Rattle.eval_commit.specs.declared.step.Rounds.{Rounds}
use Rattle.eval_commit.proofs.Belonging.{fetched, value_read}
use Rattle.eval_commit.proofs.Firing.{cleared_at}
use Rattle.eval_commit.proofs.PortsOver.{long_as}
use Rattle.eval_commit.proofs.Standing.{ports_long, row_kept}
use Rattle.eval_commit.proofs.Written.{number_in}

abbrev pub shown : Circuit → Bool → Rounds → MachineState
shown c stuck r = record { circuit = c; standing = cond stuck None (Some (standing_of r)); fired = cond stuck (none_fired c.diags) r.fired }

some_same : {X : Type 0} (x y : X) → Some x ≡ Some y → x ≡ y
some_same x y e = cc e

stands : (c : Circuit) (stuck : Bool) (r : Rounds) (m : MachineState) (s : Standing) → shown c stuck r ≡ m → m.standing ≡ Some s → standing_of r ≡ s
stands c true r m s view at = absurd (none-some s (ap (λ (x : MachineState). x.standing) view ∙ at))
stands c false r m s view at = some_same (standing_of r) s (ap (λ (x : MachineState). x.standing) view ∙ at)

module _ (c : Circuit) (plan : Plan) (stuck : Bool) (r : Rounds) (m : MachineState) (view : shown c stuck r ≡ m) (are : AreRoundsOf c plan r) where
  circuit_is : m.circuit ≡ c
  circuit_is = sym (ap (λ (x : MachineState). x.circuit) view)

  nets_long : length r.before.nets ≡ length c.nets
  nets_long = long_as (λ (v : BitValue). v.width) (λ (x : Net). x.width) r.before.nets c.nets are.before.nets

  pub net_there : (n : ℕ) → n < length m.circuit.nets → n < length r.before.nets
  net_there n lt = let l : length m.circuit.nets ≡ length c.nets = ap (λ (x : Circuit). length x.nets) circuit_is in omega (arith, lt, l, nets_long)

  pub net_number : (n : ℕ) (ys : List BitValue) (v : BitValue) (s : Standing) → n < length m.circuit.nets → ys ≡ r.before.nets → v ≡ get_or ys n v → m.standing ≡ Some s → v.number ≡ slice_index s.nets n
  net_number n ys v s lt is item at =
      let l : length m.circuit.nets ≡ length c.nets = ap (λ (x : Circuit). length x.nets) circuit_is in
      let there : slice_get r.before.nets n ≡ Some v = fetched r.before.nets ys n v is (omega (arith, lt, l, nets_long)) item in
      sym (number_in r.before.nets n v there) ∙ ap (λ (t : Standing). slice_index t.nets n) (stands c stuck r m s view at)

  pub net_width : (n : ℕ) (ys : List BitValue) (v : BitValue) (x : Net) → ys ≡ r.before.nets → v ≡ get_or ys n v → slice_get m.circuit.nets n ≡ Some x → v.width ≡ x.width
  net_width n ys v x is item at =
      (value_read (λ (y : Net). y.width) r.before.nets ys c.nets n x v are.before.nets (subst (λ (k : Circuit). slice_get k.nets n ≡ Some x) circuit_is at) is item).1

  row_there : (n : ℕ) (x : Mem) (ys : List RowValues) (q : RowValues) → slice_get m.circuit.mems n ≡ Some x → ys ≡ r.rows → q ≡ get_or ys n q → slice_get r.rows n ≡ Some q
  row_there n x ys q at is item =
      let lt : n < length c.mems = within c.mems n x (subst (λ (k : Circuit). slice_get k.mems n ≡ Some x) circuit_is at) in
      fetched r.rows ys n q is (omega (arith, lt, are.rows.long)) item

  pub row_sized : (n : ℕ) (x : Mem) (ys : List RowValues) (q : RowValues) → slice_get m.circuit.mems n ≡ Some x → ys ≡ r.rows → q ≡ get_or ys n q → AreRowsOf x q
  row_sized n x ys q at is item = are.rows.each n x q (subst (λ (k : Circuit). slice_get k.mems n ≡ Some x) circuit_is at) (row_there n x ys q at is item)

  pub row_number : (n i : ℕ) (x : Mem) (ys : List RowValues) (q : RowValues) (s : Standing) → slice_get m.circuit.mems n ≡ Some x → ys ≡ r.rows → q ≡ get_or ys n q → m.standing ≡ Some s
      → slice_index q.rows i ≡ stored_row (slice_get s.state.mems n) i
  row_number n i x ys q s at is item standing =
      sym (row_kept r.rows r.ports n q i (omega (arith, are.rows.long, ports_long c r.ports are.ports)) (row_there n x ys q at is item))
      ∙ ap (λ (t : Standing). stored_row (slice_get t.state.mems n) i) (stands c stuck r m s view standing)

  -- ---- which diagnostics fired

  view_as : (b : Bool) → stuck ≡ b → shown c b r ≡ m
  view_as b e = ap (λ (t : Bool). shown c t r) (sym e) ∙ view

  diags_long : length m.circuit.diags ≡ length c.diags
  diags_long = ap (λ (x : Circuit). length x.diags) circuit_is

  pub none_fired_at : (d : ℕ) → stuck ≡ true → d < length m.circuit.diags → slice_get m.fired d ≡ Some false
  none_fired_at d e lt =
      let x = found c.diags d (omega (arith, lt, diags_long)) in
      sym (ap (λ (y : MachineState). slice_get y.fired d) (view_as true e)) ∙ cleared_at c.diags d x.0 x.1

  pub fired_shown : (d : ℕ) (ys : List Bool) → stuck ≡ false → ys ≡ r.fired → d < length m.circuit.diags → slice_get m.fired d ≡ Some (get_or ys d false)
  fired_shown d ys e is lt =
      let long : length ys ≡ length r.fired = ap length is in
      sym (ap (λ (y : MachineState). slice_get y.fired d) (view_as false e))
      ∙ sym (ap (λ (fs : List Bool). slice_get fs d) is)
      ∙ slice_get-get_or ys d false (omega (arith, lt, diags_long, long, are.fired))

  -- ---- a sample more

  pub stays_stuck : (inputs : List ℕ) → stuck ≡ true → m ≡ after_sample m inputs
  stays_stuck inputs e =
      let v = view_as true e in
      let same : shown c true r ≡ after_sample (shown c true r) inputs = refl in
      sym v ∙ same ∙ ap (λ (x : MachineState). after_sample x inputs) v

  -- what the sample leaves, where that stands
  left : List ℕ → Option Standing → MachineState
  left inputs standing = record { circuit = c; standing = standing; fired = map (λ d. is_some standing && fires_by d.trigger d (rounds_from c (Some (standing_of r)) inputs)) c.diags }

  left_is : (inputs : List ℕ) → stuck ≡ false → left inputs (settled c (standing_of r) inputs) ≡ after_sample m inputs
  unfolding left
  left_is inputs e = ap (λ (x : MachineState). after_sample x inputs) (view_as false e)

  module _ (k : Circuit) (circuit : k ≡ c) (inputs : List ℕ) (going : stuck ≡ false) (now : Rounds) where
    pub gets_stuck : settled k (standing_of r) inputs ≡ None → shown c true now ≡ after_sample m inputs
    unfolding left
    gets_stuck e = ap (left inputs) (sym (ap (λ (x : Circuit). settled x (standing_of r) inputs) (sym circuit) ∙ e)) ∙ left_is inputs going

    pub goes_on : settled k (standing_of r) inputs ≡ Some (standing_of now) → now.fired ≡ map (λ d. fires_by d.trigger d (rounds_from k (Some (standing_of r)) inputs)) k.diags → shown c false now ≡ after_sample m inputs
    unfolding left
    goes_on e fired =
        ap (λ (fs : List Bool). let x : MachineState = record { circuit = c; standing = Some (standing_of now); fired = fs } in x)
        (fired ∙ ap (λ (x : Circuit). map (λ d. fires_by d.trigger d (rounds_from x (Some (standing_of r)) inputs)) x.diags) circuit)
        ∙ ap (left inputs) (sym (ap (λ (x : Circuit). settled x (standing_of r) inputs) (sym circuit) ∙ e))
        ∙ left_is inputs going
