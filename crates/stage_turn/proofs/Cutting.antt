-- A seat cut in two keeps the rule: a clerk's, and the first one.
use Rattle.std.proofs.Common.{◌≡◌, ℕ, ◌+◌, ◌≤◌, [], ◌∷◌, ◌++◌, set, Option, true≢false, refl, sym, ◌∙◌, inl, inr, arith}
use mathlib.Core.Option.{some}
use lib.ListN.{get_elem?}
use Rattle.atomic_table.specs.Table.{State, Splits}
use Rattle.stage_turn.specs.declared.known.Known.{Known}
use Rattle.stage_turn.specs.Kept.{Owner, writer, client, nobody, Reading, count_of}
use Rattle.stage_turn.specs.Known.{Guards, IsWriter, IsClerk, IsResting, giver, newcomer}
use Rattle.stage_turn.specs.Rule.{IsAlive, pens, shares, turns, clients_at, Fits, TurnRule}
use Rattle.stage_turn.specs.Steps.{writer_of, clerk_of}
use Rattle.stage_turn.proofs.Sums.{sum_by-set_view, sum_by_push_view}
use Rattle.stage_turn.proofs.Lists.{each_set, each_push}
use Rattle.stage_turn.proofs.Histories.{none_guards, none_follows, follows_less}
use Rattle.stage_turn.proofs.Views.{at_state}

module _ {T R E : Type 0} (k : Reading T R E) where
  cut : (s : State (Option T) (Known R E)) (id : ℕ) (v left right : Known R E) (h : TurnRule k s) → get_elem? s.views id ≡ some v
      → pens left + pens right ≡ pens v → left.own.share + right.own.share ≡ v.own.share → turns left + turns right ≡ turns v → ((c : ℕ) → count_of c left.own.clients + count_of c right.own.clients ≡ count_of c v.own.clients)
      → Fits k h.run h.history left → Fits k h.run h.history right
      → TurnRule k (at_state k s s.words (set s.views id left ++ right ∷ []))
  cut s id v left right h at p q r t one two =
      record {
        run = h.run;
        history = h.history;
        words = h.words;
        one_pen = (let a = sum_by-set_view pens s.views id v left at in let d = sum_by_push_view pens (set s.views id left) right in let b = h.one_pen in omega arith);
        all_shares = (let a = sum_by-set_view shares s.views id v left at in let d = sum_by_push_view shares (set s.views id left) right in let b = h.all_shares in omega arith);
        turn = (let a = sum_by-set_view turns s.views id v left at in let d = sum_by_push_view turns (set s.views id left) right in let b = h.turn in omega arith);
        one_turn = h.one_turn;
        count = h.count;
        home = h.home;
        once = h.once;
        clients = (λ c. let a = sum_by-set_view (clients_at c) s.views id v left at in let d = sum_by_push_view (clients_at c) (set s.views id left) right in let b = h.clients c in let e = t c in omega arith);
        each = each_push (Fits k h.run h.history) (set s.views id left) right two (each_set (Fits k h.run h.history) s.views id left one (λ by u _ e. h.each by u e));
      }

  pub splits : (id : ℕ) (v : Known R E) → 2 ≤ v.own.share → Splits (TurnRule k) id v (giver v) (newcomer v)
  splits id v two s h at =
      let f = h.each id v at in
      let lives : IsAlive v.own = inr (omega arith) in
      cut s id v (giver v) (newcomer v) h at (omega arith) (omega arith) (omega arith) (λ c. omega arith)
      (record { names = λ _. f.names lives; own = follows_less k (giver v).own v.own h.history refl less f.own; heard = f.heard; holds = λ b. (inr (omega arith), (f.holds b).1); plain = λ z. absurd (omega arith); note = none_follows k h.history; within = λ o i. absurd (none_guards E o i) })
      (record { names = λ _. f.names lives; own = follows_less k (newcomer v).own v.own h.history refl new f.own; heard = f.heard; holds = λ b. absurd (true≢false (sym b)); plain = λ z. absurd (omega arith); note = none_follows k h.history; within = λ o i. absurd (none_guards E o i) })
    where
      less : (o : Owner) → Guards (giver v).own o → Guards v.own o
      less writer i = i
      less (client c) i = i
      less nobody i = omega arith

      new : (o : Owner) → Guards (newcomer v).own o → Guards v.own o
      new writer i = absurd (true≢false (sym i))
      new (client c) i = absurd (omega arith)
      new nobody i = omega arith

  pub begins : (id : ℕ) (v : Known R E) → IsWriter v → IsResting v → IsClerk v → Splits (TurnRule k) id v (writer_of v) (clerk_of v)
  begins id v pen quiet some_share s h at =
      let f = h.each id v at in
      let lives : IsAlive v.own = inl pen in
      cut s id v (writer_of v) (clerk_of v) h at (omega arith) (omega arith) (omega arith) (λ c. omega arith)
      (record { names = λ _. f.names lives; own = follows_less k (writer_of v).own v.own h.history refl one f.own; heard = f.heard; holds = λ b. absurd (true≢false (sym b ∙ quiet)); plain = λ _. refl; note = none_follows k h.history; within = λ o i. absurd (none_guards E o i) })
      (record { names = λ _. f.names lives; own = follows_less k (clerk_of v).own v.own h.history refl two f.own; heard = f.heard; holds = λ b. absurd (true≢false (sym b)); plain = f.plain; note = none_follows k h.history; within = λ o i. absurd (none_guards E o i) })
    where
      one : (o : Owner) → Guards (writer_of v).own o → Guards v.own o
      one writer i = i
      one (client c) i = absurd (omega arith)
      one nobody i = absurd (omega arith)

      two : (o : Owner) → Guards (clerk_of v).own o → Guards v.own o
      two writer i = absurd (true≢false (sym i))
      two (client c) i = i
      two nobody i = i
