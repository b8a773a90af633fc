-- Two seats made one keep the rule, two clerks' or the writer's and a clerk's.
use Rattle.std.proofs.Common.{◌≡◌, ℕ, ◌+◌, ◌≤◌, ◌||◌, ◌++◌, set, Bool, true, false, true≢false, refl, sym, ap, ◌∙◌, arith}
use mathlib.Core.Option.{some}
use lib.ListN.{get_elem?}
use Rattle.atomic_table.specs.Table.{Joins}
use Rattle.atomic_table.proofs.Lists.{set_else}
use Rattle.stage_turn.specs.declared.known.Known.{Known}
use Rattle.stage_turn.specs.Kept.{Reading}
use Rattle.stage_turn.specs.Known.{IsResting}
use Rattle.stage_turn.specs.Rule.{one_if, IsAlive, pens, shares, turns, clients_at, Fits, TurnRule}
use Rattle.stage_turn.specs.Steps.{joining, spent}
use Rattle.stage_turn.proofs.Sums.{sum_by-set_view, two_terms_le, count_of-append}
use Rattle.stage_turn.proofs.Lists.{each_set}
use Rattle.stage_turn.proofs.Histories.{none_is_dead, none_follows, both_follow, behind_guards}
use Rattle.stage_turn.proofs.Views.{none_of}

either_pen : (a b : Bool) → one_if a + one_if b ≤ 1 → one_if (a || b) ≡ one_if a + one_if b
either_pen true true h = absurd (omega arith)
either_pen true false h = refl
either_pen false true h = refl
either_pen false false h = refl

module _ {T R E : Type 0} (k : Reading T R E) where
  pub joins : (id : ℕ) (v : Known R E) (other : ℕ) (w : Known R E) → IsAlive v.own → IsResting v → IsResting w → Joins (TurnRule k) id v other w (joining v w) spent
  joins id v other w lives calm quiet s h at apart there =
      let both = joining v w in
      let first = set s.views id both in
      let from : get_elem? s.views other ≡ some w = sym (set_else s.views id other both apart) ∙ there in
      let f = h.each id v at in
      let g = h.each other w from in
      let a = both_follow k v.own w.own h.history f.own g.own in
      let cv = none_of v.in_turn calm in let cw = none_of w.in_turn quiet in
      record {
        run = h.run;
        history = h.history;
        words = h.words;
        one_pen = (let a = sum_by-set_view pens s.views id v both at in let b = sum_by-set_view pens first other w spent there in let c = two_terms_le pens s.views id other v w apart at from in let p = h.one_pen in let d = either_pen v.own.pen w.own.pen (omega arith) in omega arith);
        all_shares = (let a = sum_by-set_view shares s.views id v both at in let b = sum_by-set_view shares first other w spent there in let p = h.all_shares in omega arith);
        turn = (let a = sum_by-set_view turns s.views id v both at in let b = sum_by-set_view turns first other w spent there in let p = h.turn in omega arith);
        one_turn = h.one_turn;
        count = h.count;
        home = h.home;
        once = h.once;
        clients = (λ c. let a = sum_by-set_view (clients_at c) s.views id v both at in let b = sum_by-set_view (clients_at c) first other w spent there in let p = h.clients c in let d = count_of-append c v.own.clients w.own.clients in omega arith);
        each = each_set (Fits k h.run h.history) first other spent
            (record { names = λ l. absurd (none_is_dead E l); own = none_follows k h.history; heard = omega arith; holds = λ b. absurd (true≢false (sym b)); plain = λ _. refl; note = none_follows k h.history; within = λ o i. i })
            (λ by u _ e. each_set (Fits k h.run h.history) s.views id both
            (record {
              names = λ _. f.names lives;
              own = a.0;
              note = a.1;
              heard = (let x = f.heard in let y = g.heard in omega arith);
              holds = λ b. absurd (true≢false (sym b));
              plain = λ z. (let p = f.plain (omega arith) in let q = g.plain (omega arith) in ap (λ l. l ++ w.own.clients) p ∙ q);
              within = behind_guards v.own w.own;
            })
            (λ by u _ e. h.each by u e) by u e);
      }
