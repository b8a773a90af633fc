-- The rounds of a sample, and its last one.
use Rattle.std.proofs.Common.{◌≡◌, ℕ, zero, suc, ◌≤◌, cond, List, [], ◌∷◌, length, refl, sym, ◌∙◌, ap, arith, Bool, true, false, ◌&&◌, Option, Some, None}
use Rattle.std.specs.Prelude.{◌-◌, is_some, option_and_then, slice_get}
use Rattle.std.proofs.lemmas.Option.{none-some, same_Some}
use Rattle.circuit.specs.State.{State, same_state}
use Rattle.circuit.specs.Valuation.{valuation}
use Rattle.circuit.specs.Next.{next}
use Rattle.circuit.specs.Rounds.{FollowOn, Round, Run, Standing, nets_after, rounds_at, rounds_from, rounds_within, settled, settled_within, standing_after, standing_at, settling}
use Rattle.circuit.specs.Shown.{fails, fires_at, fires_by}
use Rattle.circuit.specs.declared.netlist.Circuit.{Circuit}
use Rattle.circuit.specs.declared.diagnostic.Diag.{Diag}
use Rattle.circuit.specs.declared.diagnostic.Trigger.{Trigger}

-- ---- rounds behind one that leaves the state as it is, which are none, or that does not

follow_behind : (still : Bool) (now : List ℕ) (rs : List Round) → FollowOn now rs → FollowOn now (cond still [] rs)
unfolding FollowOn
follow_behind true now rs f = tt
follow_behind false now rs f = f

end_behind : (still : Bool) (s t : Standing) (later : Option Standing) (rs : List Round) → cond still (Some s) later ≡ Some t
    → (later ≡ Some t → nets_after s.nets rs ≡ t.nets) → nets_after s.nets (cond still [] rs) ≡ t.nets
unfolding nets_after
end_behind true s t later rs e f = ap (λ (x : Standing). x.nets) (same_Some s t e)
end_behind false s t later rs e f = f e

few_behind : (still : Bool) (rs : List Round) (n : ℕ) → length rs ≤ n → length (cond still [] rs) ≤ n
few_behind true rs n le = omega arith
few_behind false rs n le = le

all_behind : (still : Bool) (s : Standing) (later : Option Standing) (rs : List Round) (n : ℕ) → cond still (Some s) later ≡ None
    → (later ≡ None → length rs ≡ n) → length (cond still [] rs) ≡ n
all_behind true s later rs n e f = absurd (none-some s (sym e))
all_behind false s later rs n e f = f e

-- ---- the rounds of a sample

pub follows : (rounds : ℕ) (c : Circuit) (state : State) (before inputs : List ℕ) → FollowOn before (rounds_within rounds c state before inputs)
unfolding settling FollowOn
follows zero c state before inputs = tt
follows (suc rounds) c state before inputs =
    let now = valuation c state inputs in
    let after = next c state before now in
    (refl, follow_behind (same_state after state) now (rounds_within rounds c after now inputs) (follows rounds c after now inputs))

pub ends : (rounds : ℕ) (c : Circuit) (state : State) (before inputs : List ℕ) (t : Standing) → settled_within rounds c state before inputs ≡ Some t
    → nets_after before (rounds_within rounds c state before inputs) ≡ t.nets
unfolding settling nets_after
ends zero c state before inputs t e = absurd (none-some t e)
ends (suc rounds) c state before inputs t e =
    let now = valuation c state inputs in
    let after = next c state before now in
    end_behind (same_state after state) (record { state = state; nets = now }) t (settled_within rounds c after now inputs) (rounds_within rounds c after now inputs) e
    (ends rounds c after now inputs t)

pub at_most : (rounds : ℕ) (c : Circuit) (state : State) (before inputs : List ℕ) → length (rounds_within rounds c state before inputs) ≤ rounds
unfolding settling
at_most zero c state before inputs = omega arith
at_most (suc rounds) c state before inputs =
    let now = valuation c state inputs in
    let after = next c state before now in
    let le : length (cond (same_state after state) [] (rounds_within rounds c after now inputs)) ≤ rounds
    = few_behind (same_state after state) (rounds_within rounds c after now inputs) rounds (at_most rounds c after now inputs) in
    omega (arith, le)

pub all_of_them : (rounds : ℕ) (c : Circuit) (state : State) (before inputs : List ℕ) → settled_within rounds c state before inputs ≡ None
    → length (rounds_within rounds c state before inputs) ≡ rounds
unfolding settling
all_of_them zero c state before inputs e = refl
all_of_them (suc rounds) c state before inputs e =
    let now = valuation c state inputs in
    let after = next c state before now in
    ap suc (all_behind (same_state after state) (record { state = state; nets = now }) (settled_within rounds c after now inputs) (rounds_within rounds c after now inputs) rounds e
    (all_of_them rounds c after now inputs))

-- ---- diagnostics

-- where a sample settles there is a round, so what stands ahead of the rounds does not matter
ends_alone : (rounds : ℕ) (c : Circuit) (state : State) (before inputs : List ℕ) (t : Standing) → settled_within rounds c state before inputs ≡ Some t
    → nets_after [] (rounds_within rounds c state before inputs) ≡ t.nets
unfolding settling nets_after
ends_alone zero c state before inputs t e = absurd (none-some t e)
ends_alone (suc rounds) c state before inputs t e = ends (suc rounds) c state before inputs t e

ends_from : (c : Circuit) (from : Option Standing) (inputs : List ℕ) (s : Standing) → option_and_then (λ t. settled c t inputs) from ≡ Some s
    → nets_after [] (rounds_from c from inputs) ≡ s.nets
ends_from c None inputs s e = absurd (none-some s e)
ends_from c (Some t) inputs s e = ends_alone 256 c t.state t.nets inputs s e

pub fires_untriggered : (run : Run) (k : ℕ) (s : Standing) (d : Diag) → d.trigger ≡ None → standing_at run k ≡ Some s → fires_at run k d ≡ fails d s.nets
unfolding standing_after
fires_untriggered run k s d none is =
    ap (λ (t : Option Standing). is_some t && fires_by d.trigger d (rounds_at run k)) is
    ∙ ap (λ (t : Option Trigger). fires_by t d (rounds_at run k)) none
    ∙ ap (fails d) (ends_from run.circuit (standing_after run k) (run.row k).inputs s is)

-- the nets in which rounds end are those of the last one
pub last_nets : (before : List ℕ) (rs : List Round) (r : Round) → slice_get rs (length rs - 1) ≡ Some r → nets_after before rs ≡ r.now
unfolding nets_after
last_nets before [] r e = absurd (none-some r e)
last_nets before (q ∷ []) r e = ap (λ (x : Round). x.now) (same_Some q r e)
last_nets before (q ∷ p ∷ rs) r e =
    let k : suc (suc (length rs) - 1) ≡ suc (suc (length rs)) - 1 = omega arith in
    last_nets q.now (p ∷ rs) r (ap (slice_get (q ∷ p ∷ rs)) k ∙ e)
