-- One round more of a sample.
use Rattle.std.proofs.Common.{◌≡◌, ℕ, suc, List, [], ◌∷◌, Bool, true, false, ◌&&◌, map, Some, None, cond, refl, sym, ◌∙◌, ap}
use Rattle.std.specs.Cmp.Lexicographic.{bytes_decides}
use Rattle.std.specs.Prelude.{nat_eq}
use Rattle.std.specs.Cmp.Lexicographic.{pointwise}
use Rattle.std.proofs.lemmas.Bool.{cond-true, cond-false, and_parts}
use Rattle.circuit.specs.Signal.{Digits, digits_of_nets}
use Rattle.circuit.specs.State.{State, Stored, same_stored, same_state}
use Rattle.circuit.specs.Valuation.{valuation}
use Rattle.circuit.specs.Next.{next, next_numbers, next_mems}
use Rattle.circuit.specs.Rounds.{Standing, start_state, start_stored, settled_within, settling}
use Rattle.circuit.specs.declared.memory.Mem.{Mem}
use Rattle.circuit.specs.declared.netlist.Circuit.{Circuit}

settled_step : (r : ℕ) (c : Circuit) (state : State) (before inputs : List ℕ) → settled_within (suc r) c state before inputs
    ≡ cond (same_state (next c state before (valuation c state inputs)) state) (Some (record { state = state; nets = valuation c state inputs })) (settled_within r c (next c state before (valuation c state inputs)) (valuation c state inputs) inputs)
unfolding settling
settled_step r c state before inputs = refl

pub settled_never : (c : Circuit) (state : State) (before inputs : List ℕ) → settled_within 0 c state before inputs ≡ None
unfolding settling
settled_never c state before inputs = refl

-- ---- no memories

abbrev pub without : List ℕ → State
without regs = record { regs = regs; mems = [] }

pub none_at_start : (c : Circuit) → c.mems ≡ [] → [] ≡ (start_state c).mems
none_at_start c none = ap (map start_stored) (sym none)

none_next : (before now : Digits) (ms : List Mem) → [] ≡ next_mems before now ms []
unfolding next_mems
none_next before now [] = refl
none_next before now (m ∷ ms) = refl

pub next_without : (c : Circuit) (regs before now : List ℕ) → without (next_numbers (digits_of_nets before) (digits_of_nets now) c.regs regs) ≡ next c (without regs) before now
next_without c regs before now =
    ap (λ ms. record { regs = next_numbers (digits_of_nets before) (digits_of_nets now) c.regs regs; mems = ms }) (none_next (digits_of_nets before) (digits_of_nets now) c.mems)

and_nothing : (b : Bool) → b ≡ (b && true)
and_nothing true = refl
and_nothing false = refl

pub same_without : (rs qs : List ℕ) → pointwise nat_eq rs qs ≡ same_state (without rs) (without qs)
same_without rs qs = and_nothing (pointwise nat_eq rs qs)

-- ---- a round from one standing to another

module _ (c : Circuit) (from to : Standing) (inputs : List ℕ) (from_none : from.state.mems ≡ []) (to_none : to.state.mems ≡ []) (nets : to.nets ≡ valuation c from.state inputs) (state : to.state ≡ next c from.state from.nets to.nets) where
  after_is : next c from.state from.nets (valuation c from.state inputs) ≡ to.state
  after_is = ap (next c from.state from.nets) (sym nets) ∙ sym state

  pub settles : (r : ℕ) → same_state to.state from.state ≡ true → settled_within (suc r) c from.state from.nets inputs ≡ Some to
  settles r still =
      settled_step r c from.state from.nets inputs
      ∙ cond-true (same_state (next c from.state from.nets (valuation c from.state inputs)) from.state) (Some (record { state = from.state; nets = valuation c from.state inputs })) (settled_within r c (next c from.state from.nets (valuation c from.state inputs)) (valuation c from.state inputs) inputs)
      (ap (λ s. same_state s from.state) after_is ∙ still)
      ∙ ap (λ ns. Some (record { state = from.state; nets = ns })) (sym nets)
      ∙ ap (λ rs. Some (record { state = record { regs = rs; mems = from.state.mems }; nets = to.nets }))
      (sym ((bytes_decides to.state.regs from.state.regs).0 (and_parts (pointwise nat_eq to.state.regs from.state.regs) (pointwise same_stored to.state.mems from.state.mems) still).0))
      ∙ ap (λ ms. Some (record { state = record { regs = to.state.regs; mems = ms }; nets = to.nets })) (from_none ∙ sym to_none)

  pub goes_on : (r : ℕ) → same_state to.state from.state ≡ false → settled_within (suc r) c from.state from.nets inputs ≡ settled_within r c to.state to.nets inputs
  goes_on r still =
      settled_step r c from.state from.nets inputs
      ∙ cond-false (same_state (next c from.state from.nets (valuation c from.state inputs)) from.state) (Some (record { state = from.state; nets = valuation c from.state inputs })) (settled_within r c (next c from.state from.nets (valuation c from.state inputs)) (valuation c from.state inputs) inputs)
      (ap (λ s. same_state s from.state) after_is ∙ still)
      ∙ ap (λ s. settled_within r c s (valuation c from.state inputs) inputs) after_is
      ∙ ap (λ ns. settled_within r c to.state ns inputs) (sym nets)

abbrev standing : List ℕ → List ℕ → Standing
standing regs nets = record { state = without regs; nets = nets }

pub standing_is : (regs nets : List ℕ) (s : Standing) → regs ≡ s.state.regs → [] ≡ s.state.mems → nets ≡ s.nets → standing regs nets ≡ s
standing_is regs nets s e m f =
    ap (λ rs. standing rs nets) e
    ∙ ap (λ ms. record { state = record { regs = s.state.regs; mems = ms }; nets = nets }) m
    ∙ ap (λ ns. record { state = s.state; nets = ns }) f
