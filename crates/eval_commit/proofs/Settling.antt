-- One round more of a sample.
use Rattle.std.proofs.Common.{◌≡◌, ℕ, suc, ◌+◌, ◌-◌, ◌<◌, ◌≤◌, List, [], ◌∷◌, length, Bool, true, false, not, Some, None, map, cond, refl, sym, ◌∙◌, ap, arith}
use Rattle.std.specs.Prelude.{nat_eq}
use Rattle.std.proofs.lemmas.List.Sums.{sum_by-cons}
use Rattle.std.specs.Cmp.Lexicographic.{bytes_decides, pointwise}
use Rattle.std.proofs.lemmas.Bool.{cond-true, cond-false, and_parts}
use Rattle.circuit.specs.State.{State, Stored, same_stored, same_state}
use Rattle.circuit.specs.Valuation.{valuation}
use Rattle.circuit.specs.Next.{next}
use Rattle.circuit.specs.Rounds.{Round, rounds_within, settled_within, settling}
use Rattle.circuit.specs.Shown.{fires_by}
use Rattle.circuit.specs.declared.netlist.Circuit.{Circuit}
use Rattle.cell_changes.specs.Changes.{changed_cells, changes_in}
use Rattle.eval_commit.specs.Fired.{all_fired_after, none_fired}
use Rattle.eval_commit.proofs.Firing.{all_fire_over, all_fired_over}

-- ---- a state that is the same

stored_same : (s t : Stored) → same_stored s t ≡ true → s ≡ t
stored_same s t e =
    let h = and_parts (pointwise nat_eq s.rows t.rows) (pointwise nat_eq s.reads t.reads) e in
    ap (λ (rows : List ℕ). let k : Stored = record { rows = rows; reads = s.reads } in k) ((bytes_decides s.rows t.rows).0 h.0)
    ∙ ap (λ (reads : List ℕ). let k : Stored = record { rows = t.rows; reads = reads } in k) ((bytes_decides s.reads t.reads).0 h.1)

all_stored_same : (ss ts : List Stored) → pointwise same_stored ss ts ≡ true → ss ≡ ts
all_stored_same [] [] e = refl
all_stored_same [] (t ∷ ts) e = cc e
all_stored_same (s ∷ ss) [] e = cc e
all_stored_same (s ∷ ss) (t ∷ ts) e =
    let h = and_parts (same_stored s t) (pointwise same_stored ss ts) e in
    ap (λ x. x ∷ ss) (stored_same s t h.0) ∙ ap (λ xs. t ∷ xs) (all_stored_same ss ts h.1)

state_same : (s t : State) → same_state s t ≡ true → s ≡ t
state_same s t e =
    let h = and_parts (pointwise nat_eq s.regs t.regs) (pointwise same_stored s.mems t.mems) e in
    ap (λ (regs : List ℕ). let k : State = record { regs = regs; mems = s.mems } in k) ((bytes_decides s.regs t.regs).0 h.0)
    ∙ ap (λ (mems : List Stored). let k : State = record { regs = t.regs; mems = mems } in k) (all_stored_same s.mems t.mems h.1)

-- ---- the definitions, one round unfolded

settled_step : (r : ℕ) (c : Circuit) (state : State) (before inputs : List ℕ) → settled_within (suc r) c state before inputs
    ≡ cond (same_state (next c state before (valuation c state inputs)) state) (Some (record { state = state; nets = valuation c state inputs })) (settled_within r c (next c state before (valuation c state inputs)) (valuation c state inputs) inputs)
unfolding settling
settled_step r c state before inputs = refl

pub settled_never : (c : Circuit) (state : State) (before inputs : List ℕ) → settled_within 0 c state before inputs ≡ None
unfolding settling
settled_never c state before inputs = refl

rounds_step : (r : ℕ) (c : Circuit) (state : State) (before inputs : List ℕ) → rounds_within (suc r) c state before inputs
    ≡ record { before = before; now = valuation c state inputs }
    ∷ cond (same_state (next c state before (valuation c state inputs)) state) [] (rounds_within r c (next c state before (valuation c state inputs)) (valuation c state inputs) inputs)
unfolding settling
rounds_step r c state before inputs = refl

pub no_rounds : (c : Circuit) (state : State) (before inputs : List ℕ) → length (rounds_within 0 c state before inputs) ≡ 0
unfolding settling
no_rounds c state before inputs = refl

-- ---- a round from one state to the next

module _ (c : Circuit) (from to : State) (before now inputs : List ℕ) (nets : now ≡ valuation c from inputs) (state : to ≡ next c from before now) where
  after_is : next c from before (valuation c from inputs) ≡ to
  after_is = ap (next c from before) (sym nets) ∙ sym state

  pub settles : (r : ℕ) → same_state to from ≡ true → settled_within (suc r) c from before inputs ≡ Some (record { state = to; nets = now })
  settles r still =
      settled_step r c from before inputs
      ∙ cond-true (same_state (next c from before (valuation c from inputs)) from) (Some (record { state = from; nets = valuation c from inputs })) (settled_within r c (next c from before (valuation c from inputs)) (valuation c from inputs) inputs)
      (ap (λ s. same_state s from) after_is ∙ still)
      ∙ ap (λ ns. Some (record { state = from; nets = ns })) (sym nets)
      ∙ ap (λ s. Some (record { state = s; nets = now })) (sym (state_same to from still))

  pub goes_on : (r : ℕ) → same_state to from ≡ false → settled_within (suc r) c from before inputs ≡ settled_within r c to now inputs
  goes_on r other =
      settled_step r c from before inputs
      ∙ cond-false (same_state (next c from before (valuation c from inputs)) from) (Some (record { state = from; nets = valuation c from inputs })) (settled_within r c (next c from before (valuation c from inputs)) (valuation c from inputs) inputs)
      (ap (λ s. same_state s from) after_is ∙ other)
      ∙ ap (λ s. settled_within r c s (valuation c from inputs) inputs) after_is
      ∙ ap (λ ns. settled_within r c to ns inputs) (sym nets)

  pub last_round : (r : ℕ) → same_state to from ≡ true → rounds_within (suc r) c from before inputs ≡ record { before = before; now = now } ∷ []
  last_round r still =
      rounds_step r c from before inputs
      ∙ ap (λ (rs : List Round). record { before = before; now = valuation c from inputs } ∷ rs) (cond-true (same_state (next c from before (valuation c from inputs)) from) [] (rounds_within r c (next c from before (valuation c from inputs)) (valuation c from inputs) inputs)
      (ap (λ s. same_state s from) after_is ∙ still))
      ∙ ap (λ (ns : List ℕ). let rs : List Round = record { before = before; now = ns } ∷ [] in rs) (sym nets)

  pub one_round_more : (r : ℕ) → same_state to from ≡ false → rounds_within (suc r) c from before inputs ≡ record { before = before; now = now } ∷ rounds_within r c to now inputs
  one_round_more r other =
      rounds_step r c from before inputs
      ∙ ap (λ (rs : List Round). record { before = before; now = valuation c from inputs } ∷ rs) (cond-false (same_state (next c from before (valuation c from inputs)) from) [] (rounds_within r c (next c from before (valuation c from inputs)) (valuation c from inputs) inputs)
      (ap (λ s. same_state s from) after_is ∙ other))
      ∙ ap (λ (s : State). record { before = before; now = valuation c from inputs } ∷ rounds_within r c s (valuation c from inputs) inputs) after_is
      ∙ ap (λ (ns : List ℕ). record { before = before; now = ns } ∷ rounds_within r c to ns inputs) (sym nets)

-- ---- so many rounds of a sample are done, and this is left of it

pub record IsLeft (c : Circuit) (inputs : List ℕ) (first : State) (nets : List ℕ) (done : ℕ) (state : State) (before : List ℕ) (fired : List Bool) : Type 0 where
  pub rest : settled_within (256 - done) c state before inputs ≡ settled_within 256 c first nets inputs
  pub counted : done + length (rounds_within (256 - done) c state before inputs) ≡ length (rounds_within 256 c first nets inputs)
  pub flags : all_fired_over c.diags fired (rounds_within (256 - done) c state before inputs) ≡ all_fired_over c.diags (none_fired c.diags) (rounds_within 256 c first nets inputs)

pub all_left : (c : Circuit) (inputs : List ℕ) (first : State) (nets : List ℕ) (fired : List Bool) → fired ≡ none_fired c.diags → IsLeft c inputs first nets 0 first nets fired
all_left c inputs first nets fired e = record { rest = refl; counted = omega arith; flags = ap (λ (fs : List Bool). all_fired_over c.diags fs (rounds_within 256 c first nets inputs)) e }

-- what the flags say once all rounds are done
all_fire : (c : Circuit) (state : State) (before inputs : List ℕ) (r : ℕ)
    → all_fired_over c.diags (none_fired c.diags) (rounds_within (suc r) c state before inputs) ≡ map (λ d. fires_by d.trigger d (rounds_within (suc r) c state before inputs)) c.diags
unfolding settling
all_fire c state before inputs r =
    let now = valuation c state inputs in
    let after = next c state before now in
    all_fire_over c.diags (record { before = before; now = now }) (cond (same_state after state) [] (rounds_within r c after now inputs))

module _ (c : Circuit) (inputs : List ℕ) (first : State) (nets : List ℕ) (done : ℕ) (from : State) (before : List ℕ) (fired : List Bool) (is : IsLeft c inputs first nets done from before fired) where
  opened : done < 256 → 256 - done ≡ suc (256 - (done + 1))
  opened lt = omega arith

  rest_as : (lt : done < 256) → settled_within (suc (256 - (done + 1))) c from before inputs ≡ settled_within 256 c first nets inputs
  rest_as lt = ap (λ n. settled_within n c from before inputs) (sym (opened lt)) ∙ is.rest

  counted_as : (lt : done < 256) → done + length (rounds_within (suc (256 - (done + 1))) c from before inputs) ≡ length (rounds_within 256 c first nets inputs)
  counted_as lt = ap (λ n. done + length (rounds_within n c from before inputs)) (sym (opened lt)) ∙ is.counted

  flags_as : (lt : done < 256) → all_fired_over c.diags fired (rounds_within (suc (256 - (done + 1))) c from before inputs) ≡ all_fired_over c.diags (none_fired c.diags) (rounds_within 256 c first nets inputs)
  flags_as lt = ap (λ n. all_fired_over c.diags fired (rounds_within n c from before inputs)) (sym (opened lt)) ∙ is.flags

  module _ (to : State) (now : List ℕ) (lt : done < 256) (value : now ≡ valuation c from inputs) (state : to ≡ next c from before now) where
    pub one_less : same_state to from ≡ false → (marked : List Bool) → marked ≡ all_fired_after c.diags fired (record { before = before; now = now }) → IsLeft c inputs first nets (done + 1) to now marked
    one_less other marked e =
        let more = one_round_more c from to before now inputs value state (256 - (done + 1)) other in
        let many = ap (length {A = Round}) more in
        let all = counted_as lt in
        record {
          rest = sym (goes_on c from to before now inputs value state (256 - (done + 1)) other) ∙ rest_as lt;
          counted = omega (arith, many, all);
          flags =
              ap (λ (fs : List Bool). all_fired_over c.diags fs (rounds_within (256 - (done + 1)) c to now inputs)) e
              ∙ ap (λ (rs : List Round). all_fired_over c.diags fired rs) (sym more)
              ∙ flags_as lt;
        }

    pub has_settled : same_state to from ≡ true → settled_within 256 c first nets inputs ≡ Some (record { state = to; nets = now })
    has_settled still = sym (rest_as lt) ∙ settles c from to before now inputs value state (256 - (done + 1)) still

    pub settled_in : same_state to from ≡ true → done + 1 ≡ length (rounds_within 256 c first nets inputs)
    settled_in still =
        let one = ap (length {A = Round}) (last_round c from to before now inputs value state (256 - (done + 1)) still) in
        let all = counted_as lt in
        omega (arith, one, all)

    pub has_fired : same_state to from ≡ true → (marked : List Bool) → marked ≡ all_fired_after c.diags fired (record { before = before; now = now })
        → marked ≡ map (λ d. fires_by d.trigger d (rounds_within 256 c first nets inputs)) c.diags
    has_fired still marked e =
        e
        ∙ ap (λ (rs : List Round). all_fired_over c.diags fired rs) (sym (last_round c from to before now inputs value state (256 - (done + 1)) still))
        ∙ flags_as lt
        ∙ all_fire c first nets inputs 255

  none_opened : 256 ≤ done → 256 - done ≡ 0
  none_opened le = omega arith

  pub has_not_settled : 256 ≤ done → settled_within 256 c first nets inputs ≡ None
  has_not_settled le = sym is.rest ∙ ap (λ n. settled_within n c from before inputs) (none_opened le) ∙ settled_never c from before inputs

  pub all_done : 256 ≤ done → done ≡ length (rounds_within 256 c first nets inputs)
  all_done le =
      let none = ap (λ n. length (rounds_within n c from before inputs)) (none_opened le) ∙ no_rounds c from before inputs in
      omega (arith, none, is.counted)

-- ---- so many steps are taken, and these are left

abbrev pub AreStepsLeft : Circuit → List ℕ → State → List ℕ → ℕ → State → List ℕ → ℕ → ℕ → Type 0
AreStepsLeft c inputs first nets done state before start steps =
    steps + changes_in c.cells (rounds_within (256 - done) c state before inputs) ≡ start + changes_in c.cells (rounds_within 256 c first nets inputs)

module _ (c : Circuit) (inputs : List ℕ) (first : State) (nets : List ℕ) (done : ℕ) (from : State) (before : List ℕ) (start was : ℕ) (left : AreStepsLeft c inputs first nets done from before start was) where
  module _ (to : State) (now : List ℕ) (steps : ℕ) (lt : done < 256) (value : now ≡ valuation c from inputs) (state : to ≡ next c from before now) (taken : steps ≡ was + changed_cells c.cells (record { before = before; now = now })) where
    round : Round
    round = record { before = before; now = now }

    open_left : was + changes_in c.cells (rounds_within (suc (256 - (done + 1))) c from before inputs) ≡ start + changes_in c.cells (rounds_within 256 c first nets inputs)
    open_left = ap (λ n. was + changes_in c.cells (rounds_within n c from before inputs)) (let e : suc (256 - (done + 1)) ≡ 256 - done = omega (arith, lt) in e) ∙ left

    pub steps_less : same_state to from ≡ false → AreStepsLeft c inputs first nets (done + 1) to now start steps
    unfolding round
    steps_less other =
        let more = ap (changes_in c.cells) (one_round_more c from to before now inputs value state (256 - (done + 1)) other) in
        let cons = sum_by-cons (changed_cells c.cells) round (rounds_within (256 - (done + 1)) c to now inputs) in
        omega (arith, more, cons, taken, open_left)

    pub steps_done : same_state to from ≡ true → steps ≡ start + changes_in c.cells (rounds_within 256 c first nets inputs)
    unfolding round
    steps_done still =
        let more = ap (changes_in c.cells) (last_round c from to before now inputs value state (256 - (done + 1)) still) in
        let cons = sum_by-cons (changed_cells c.cells) round [] in
        omega (arith, more, cons, taken, open_left)

  pub steps_all : 256 ≤ done → was ≡ start + changes_in c.cells (rounds_within 256 c first nets inputs)
  unfolding settling
  steps_all le =
      let none = ap (λ n. was + changes_in c.cells (rounds_within n c from before inputs)) (let e : 256 - done ≡ 0 = omega (arith, le) in e) in
      omega (arith, none, left)

-- what a round tells
pub told_unchanged : (b : Bool) → false ≡ not b → b ≡ true
told_unchanged true e = refl
told_unchanged false e = cc e

pub told_changed : (b : Bool) → true ≡ not b → b ≡ false
told_changed true e = cc e
told_changed false e = refl
