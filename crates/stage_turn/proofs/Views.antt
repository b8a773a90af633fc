-- The rule where a step changes one view.
use Rattle.std.proofs.Common.{◌≡◌, ◌≢◌, ℕ, ◌≤◌, List, get_or, set, Option, Bool, true, false, sym, ap, ◌∙◌, subst, arith, sum_by}
use Rattle.std.proofs.lemmas.List.{set-get_or}
use mathlib.Core.Option.{some}
use lib.ListN.{get_elem?}
use Rattle.atomic_table.specs.Table.{State}
use Rattle.atomic_table.proofs.Lists.{set_again}
use Rattle.stage_turn.specs.declared.known.Known.{Known}
use Rattle.stage_turn.specs.Kept.{Owner, writer, client, nobody, Reading, count_of, openings}
use Rattle.stage_turn.specs.Known.{Guards, MayAdd, HasWholeShare, whole_share}
use Rattle.stage_turn.specs.Rule.{one_if, pens, shares, turns, clients_at, Fits, TurnRule}
use Rattle.stage_turn.proofs.Sums.{sum_by-set_view, two_terms_le, sum_by_only}
use Rattle.stage_turn.proofs.Lists.{each_set}

pub one_of : (b : Bool) → b ≡ true → one_if b ≡ 1
one_of b e = ap one_if e

pub none_of : (b : Bool) → b ≡ false → one_if b ≡ 0
none_of b e = ap one_if e

module _ {T R E : Type 0} (k : Reading T R E) where
  abbrev pub at_state : State (Option T) (Known R E) → List ℕ → List (Known R E) → State (Option T) (Known R E)
  at_state s ws vs = record { words = ws; homes = s.homes; views = vs }

  -- a step that changes no word and no view
  pub unchanged : (s : State (Option T) (Known R E)) (i id : ℕ) (v : Known R E) → TurnRule k s → get_elem? s.views id ≡ some v → TurnRule k (at_state s (set s.words i (get_or s.words i 0)) (set s.views id v))
  unchanged s i id v h at = subst (λ (p : List ℕ × List (Known R E)). TurnRule k (at_state s p.0 p.1)) (λ j. (sym (set-get_or s.words i 0) j, sym (set_again s.views id v at) j)) h

  -- a step that changes no word, and of a view neither pen, share, turn nor clients
  pub renewed : (s : State (Option T) (Known R E)) (i id : ℕ) (v w : Known R E) (h : TurnRule k s) → get_elem? s.views id ≡ some v
      → pens w ≡ pens v → w.own.share ≡ v.own.share → turns w ≡ turns v → w.own.clients ≡ v.own.clients → Fits k h.run h.history w
      → TurnRule k (at_state s (set s.words i (get_or s.words i 0)) (set s.views id w))
  renewed s i id v w h at p q r t fits = subst (λ (ws : List ℕ). TurnRule k (at_state s ws (set s.views id w))) (sym (set-get_or s.words i 0))
      (record {
        run = h.run;
        history = h.history;
        words = h.words;
        one_pen = (let a = sum_by-set_view pens s.views id v w at in let b = h.one_pen in omega arith);
        all_shares = (let a = sum_by-set_view shares s.views id v w at in let b = h.all_shares in omega arith);
        turn = (let a = sum_by-set_view turns s.views id v w at in let b = h.turn in omega arith);
        one_turn = h.one_turn;
        count = h.count;
        home = h.home;
        once = h.once;
        clients = (λ c. let a = sum_by-set_view (clients_at c) s.views id v w at in let b = h.clients c in let d = ap (count_of c) t in omega arith);
        each = each_set (Fits k h.run h.history) s.views id w fits (λ by u _ e. h.each by u e);
      })

  -- the view with the whole share has opened all clients
  pub opened_all : (s : State (Option T) (Known R E)) (h : TurnRule k s) (id : ℕ) (v : Known R E) → get_elem? s.views id ≡ some v → HasWholeShare v → (c : ℕ) → count_of c v.own.clients ≡ count_of c (openings k h.history)
  opened_all s h id v at all c = sym (sum_by_only (clients_at c) s.views id v at
      (λ by x apart e. ap (count_of c) ((h.each by x e).plain (let b = two_terms_le shares s.views id by v x apart at e in let q = h.all_shares in omega arith)))) ∙ h.clients c

  -- no entry that one view may add is one that another guards
  pub clash : (views : List (Known R E)) (h : List E) (id by : ℕ) (w u : Known R E) → sum_by pens views ≡ 1 → sum_by shares views ≡ whole_share
      → ((c : ℕ) → sum_by (clients_at c) views ≡ count_of c (openings k h)) → ((c : ℕ) → count_of c (openings k h) ≤ 1)
      → by ≢ id → get_elem? views id ≡ some w → get_elem? views by ≡ some u → (o : Owner) → MayAdd w.own o → Guards u.own o → ⊥
  clash views h id by w u one all opens once apart at there writer may is =
      let t = two_terms_le pens views id by w u apart at there in let a = ap one_if may in let b = ap one_if is in omega arith
  clash views h id by w u one all opens once apart at there (client c) may is =
      let t = two_terms_le (clients_at c) views id by w u apart at there in let a = opens c in let b = once c in omega arith
  clash views h id by w u one all opens once apart at there nobody may is =
      let t = two_terms_le shares views id by w u apart at there in omega arith
