-- The table of a new turn meets the rule.
use Rattle.std.proofs.Common.{◌≡◌, ℕ, zero, suc, List, [], ◌∷◌, length, Option, Some, true≢false, refl, sym, ap, subst, arith}
use mathlib.Core.Option.{some, some-ne-none, some-injective}
use lib.ListN.{get_elem?}
use Rattle.atomic_table.specs.Table.{opening}
use Rattle.stage_turn.specs.declared.known.Known.{Known}
use Rattle.stage_turn.specs.Kept.{Reading, count_of, openings}
use Rattle.stage_turn.specs.Rule.{Fits, TurnRule}
use Rattle.stage_turn.specs.Steps.{opener}
use Rattle.stage_turn.proofs.Histories.{none_guards, none_follows, up_to_date}

module _ {T R E : Type 0} (k : Reading T R E) where
  opens_turn : (x : T) → k.in_order x → openings k (k.entries x) ≡ [] → TurnRule k (opening (0 ∷ length (k.entries x) ∷ []) (Some x ∷ []) (opener k x))
  opens_turn x ok none_open = record {
    run = k.run x;
    history = k.entries x;
    words = refl;
    one_pen = refl;
    all_shares = refl;
    turn = refl;
    one_turn = omega arith;
    count = refl;
    home = (λ _. (x, refl, ok, refl, refl));
    clients = (λ c. ap (count_of c) (sym none_open));
    once = (λ c. let a = ap (count_of c) none_open in omega arith);
    each = one;
  }
    where
      one : (by : ℕ) (u : Known R E) → get_elem? (opener k x ∷ []) by ≡ some u → Fits k (k.run x) (k.entries x) u
      one zero u e = subst (Fits k (k.run x) (k.entries x)) (some-injective _ _ e)
          (record { names = λ _. refl; own = up_to_date k (opener k x).own (k.entries x) refl; heard = omega arith; holds = λ b. absurd (true≢false (sym b)); plain = λ z. absurd (omega arith); note = none_follows k (k.entries x); within = λ o i. absurd (none_guards E o i) })
      one (suc by) u e = absurd (some-ne-none u (sym e))

  pub opens_as : (x : T) (count : ℕ) (xs : List (Option T)) (y : T) → k.in_order x → openings k (k.entries x) ≡ [] → count ≡ length (k.entries x) → xs ≡ Some x ∷ [] → y ≡ x → TurnRule k (opening (0 ∷ count ∷ []) xs (opener k y))
  opens_as x count xs y ok none_open size only same = subst (λ (p : ℕ × List (Option T) × T). TurnRule k (opening (0 ∷ p.0 ∷ []) p.1 (opener k p.2))) (λ i. (sym size i, sym only i, sym same i)) (opens_turn x ok none_open)
