-- `take` keeps the rule: word 0 goes from 0 to 1 and the value leaves the slot, or nothing changes.
use Rattle.std.proofs.Common.{◌≡◌, ℕ, ◌≤◌, List, [], length, get_or, Option, Some, refl, sym, ap, ◌∙◌, subst, arith, length-set, get_or-set_same, eqb}
use Rattle.std.proofs.lemmas.List.{get_or-set_other}
use mathlib.Core.Option.{none}
use prog.Atomic.{either}
use Rattle.atomic_table.specs.Table.{Me, Act, keeps, takes, Allows, Valid, carried_after, stepped, step}
use Rattle.atomic_table.proofs.Lists.{exchanged}
use Rattle.stage_turn.specs.declared.known.Known.{Known}
use Rattle.stage_turn.specs.Kept.{Owner, writer, client, nobody, Reading, count_of, openings}
use Rattle.stage_turn.specs.Known.{Guards, IsResting, Follows, holding}
use Rattle.stage_turn.specs.Rule.{IsAlive, pens, shares, turns, clients_at, Fits, TurnRule}
use Rattle.stage_turn.specs.Steps.{Took}
use Rattle.stage_turn.proofs.Sums.{sum_by-set_view}
use Rattle.stage_turn.proofs.Lists.{each_set}
use Rattle.stage_turn.proofs.Histories.{up_to_date}
use Rattle.stage_turn.proofs.Views.{none_of, unchanged, opened_all}

module _ {T R E : Type 0} (k : Reading T R E) where
  from_rest : (n id : ℕ) (v : Known R E) → IsResting v → IsAlive v.own
      → Allows (TurnRule k) n id (v, []) 0 (λ x. either (eqb x 0) 1 x) (Took k (step n 0 0 1 none) (v, []))
  from_rest n id v quiet lives s h wide at small =
      let x = get_or s.words 0 0 in
      let F = λ (y : ℕ). (w : Known R E) × (a : Act (Option T)) × Valid s.homes [] a × TurnRule k (stepped s 0 y id [] w a) × Took k (step n 0 0 1 none) (v, []) x (w, carried_after [] a) in
      exchanged x 0 1 F
      (λ free.
      let t = h.home free in
      let f = h.each id v at in
      let w = holding (k.entries t.0) v in
      let b = sum_by-set_view turns s.views id v w at in
      let q = none_of v.in_turn quiet in (
        w,
        takes 0 (Some t.0),
        t.1,
        record {
          run = h.run;
          history = h.history;
          words = length-set s.words 0 1 ∙ h.words;
          one_pen = (let a = sum_by-set_view pens s.views id v w at in let p = h.one_pen in omega arith);
          all_shares = (let a = sum_by-set_view shares s.views id v w at in let p = h.all_shares in omega arith);
          turn = get_or-set_same s.words 0 1 0 (omega (arith, h.words)) ∙ (let p = h.turn in omega arith);
          one_turn = (let p = get_or-set_same s.words 0 1 0 (omega (arith, h.words)) in omega arith);
          count = get_or-set_other s.words 0 1 1 0 (λ e. omega arith) ∙ h.count;
          home = (λ e. absurd (let p = get_or-set_same s.words 0 1 0 (omega (arith, h.words)) in omega arith));
          once = h.once;
          clients = (λ c. let a = sum_by-set_view (clients_at c) s.views id v w at in let p = h.clients c in omega arith);
          each = each_set (Fits k h.run h.history) s.views id w
              (record { names = f.names; own = up_to_date k w.own h.history t.4; heard = f.heard; holds = λ _. (lives, t.4); plain = f.plain; note = f.note; within = λ o i. wider (k.entries t.0) o (f.within o i) })
              (λ by u _ e. h.each by u e);
        },
        (
          (λ n. absurd (n free)),
          (λ _. (
            t.0,
            refl,
            refl,
            record { order = t.2; run = f.names lives ∙ ap Some (sym t.3); heard = subst (λ l. v.heard ≤ length l) (sym t.4) f.heard; follows = subst (Follows k v.own) (sym t.4) f.own; whole = λ all c. opened_all k s h id v at all c ∙ ap (λ l. count_of c (openings k l)) (sym t.4) },
          )),
        ),
      ))
      (λ ne. (v, keeps, tt, unchanged k s 0 id v h at, ((λ _. refl), (λ e. absurd (ne e)))))
    where
      wider : (l : List E) (o : Owner) → Guards v.own o → Guards (record { pen = v.own.pen; share = v.own.share; seen = l; clients = v.own.clients }) o
      wider l writer i = i
      wider l (client c) i = i
      wider l nobody i = i

  pub takes_turn : (n id : ℕ) (m : Me (Option T) (Known R E)) → m.1 ≡ [] → IsResting m.0 → IsAlive m.0.own
      → Allows (TurnRule k) n id m 0 (λ x. either (eqb x 0) 1 x) (Took k (step n 0 0 1 none) m)
  takes_turn n id m bare quiet lives = subst (λ (c : List (ℕ × Option T)). Allows (TurnRule k) n id (m.0, c) 0 (λ x. either (eqb x 0) 1 x) (Took k (step n 0 0 1 none) (m.0, c))) (sym bare) (from_rest n id m.0 quiet lives)
