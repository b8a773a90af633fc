-- `leave` keeps the rule: the count is stored while the value lies in the slot that is still out, and then word 0 becomes 0.
use Rattle.std.proofs.Common.{◌≡◌, ℕ, ◌<◌, ◌≤◌, List, [], ◌∷◌, ◌++◌, length, set, Option, Some, true≢false, refl, sym, ap, ◌∙◌, subst, arith, length-set, get_or-set_same, length-append, sum_by}
use Rattle.std.proofs.lemmas.List.{get_or-set_other}
use Rattle.std.proofs.lemmas.Grind.{flat_map-append}
use mathlib.Core.Option.{some, none}
use Rattle.atomic_table.specs.Table.{Me, keeps, gives, Allows, rest, step}
use Rattle.atomic_table.proofs.Lists.{set_here, set_else}
use Rattle.stage_turn.specs.declared.known.Known.{Known}
use Rattle.stage_turn.specs.Kept.{Reading, count_of, openings, opened_by}
use Rattle.stage_turn.specs.Known.{no_part, Guards, MayAdd, IsInTurn, IsForeign, Follows, appended, resting, whole_share}
use Rattle.stage_turn.specs.Turn.{Leaves}
use Rattle.stage_turn.specs.Rule.{IsAlive, pens, shares, turns, clients_at, Fits, TurnRule}
use Rattle.stage_turn.specs.Steps.{Stored, Left}
use Rattle.stage_turn.specs.Seat.{Holds, Sits}
use Rattle.stage_turn.proofs.Sums.{sum_by-set_view, term_le, two_terms_le, count_of-append}
use Rattle.stage_turn.proofs.Lists.{is_within, each_set, All_map}
use Rattle.stage_turn.proofs.Histories.{none_guards, none_follows, up_to_date, follows_more, narrower}
use Rattle.stage_turn.proofs.Views.{one_of, clash}

module _ {T R E : Type 0} (k : Reading T R E) where
  openings-append : (xs ys : List E) → openings k (xs ++ ys) ≡ openings k xs ++ openings k ys
  openings-append xs ys = flat_map-append (λ e. opened_by (k.owner e) (k.opens e)) xs ys

  from_taken : (n id : ℕ) (v : Known R E) (value : T) (more : List E) → IsInTurn v → v.note ≡ no_part → Leaves k v value more
      → ((c : ℕ) → count_of c (openings k (k.entries value)) ≤ 1)
      → Allows (TurnRule k) n id (v, (0, Some value) ∷ []) 1 (λ _. length (k.entries value)) (λ _. Stored k (step n 1 (length (k.entries value)) 0 none) (v, (0, Some value) ∷ []) (length (k.entries value)))
  from_taken n id v value more busy alone leaves once s h wide at small =
      let w = appended k more v in
      let f = h.each id v at in
      let was : v.own.seen ≡ h.history = (f.holds busy).1 in
      let now : List E = h.history ++ more in
      let is : k.entries value ≡ now = leaves.entries ∙ ap (λ l. l ++ more) was in
      let size = length (k.entries value) in
      let long : 1 < length s.words = omega (arith, h.words) in
      let views = set s.views id w in
      let here = set_here s.views id w (is_within s.views id v at) in
      let one : sum_by pens views ≡ 1 = (let a = sum_by-set_view pens s.views id v w at in let p = h.one_pen in omega arith) in
      let all : sum_by shares views ≡ whole_share = (let a = sum_by-set_view shares s.views id v w at in let p = h.all_shares in omega arith) in
      let opens : (c : ℕ) → sum_by (clients_at c) views ≡ count_of c (openings k now) =
      (λ c. let a = sum_by-set_view (clients_at c) s.views id v w at in
      let p = h.clients c in
      let q = count_of-append c v.own.clients (openings k more) in
      let r = ap (count_of c) (openings-append h.history more) ∙ count_of-append c (openings k h.history) (openings k more) in
      omega arith) in
      let lone : (c : ℕ) → count_of c (openings k now) ≤ 1 = subst (λ (l : List E). (c : ℕ) → count_of c (openings k l) ≤ 1) is once in (
        w,
        keeps,
        tt,
        record {
          run = h.run;
          history = now;
          words = length-set s.words 1 size ∙ h.words;
          one_pen = one;
          all_shares = all;
          turn = get_or-set_other s.words 1 0 size 0 (λ e. omega arith) ∙ (let a = sum_by-set_view turns s.views id v w at in let p = h.turn in omega arith);
          one_turn = (let p = get_or-set_other s.words 1 0 size 0 (λ e. omega arith) in let q = h.one_turn in omega arith);
          count = get_or-set_same s.words 1 size 0 long ∙ ap length is;
          home = (λ e. absurd (let p = get_or-set_other s.words 1 0 size 0 (λ e. omega arith) in let q = h.turn in let a = term_le turns s.views id v at in let b = one_of v.in_turn busy in omega arith));
          clients = opens;
          once = lone;
          each = each_set (Fits k h.run now) s.views id w
              (record {
                names = f.names;
                own = up_to_date k w.own now (ap (λ l. l ++ more) was);
                heard = (let a = f.heard in let b = length-append h.history more in omega arith);
                holds = λ _. ((f.holds busy).0, ap (λ l. l ++ more) was);
                plain = λ z. ap (λ l. l ++ openings k more) (f.plain z) ∙ leaves.clerk z;
                note = subst (λ p. Follows k p now) (sym alone) (none_follows k now);
                within = λ o i. absurd (none_guards E o (subst (λ p. Guards p o) alone i));
              })
              (λ by u apart e.
              let g = h.each by u e in
              let there = set_else s.views id by w apart ∙ e in
              let far : IsForeign k u.own more = All_map (λ e. MayAdd w.own (k.owner e)) (λ e. ¬ Guards u.own (k.owner e)) more (λ e m i. clash k views now id by w u one all opens lone apart here there (k.owner e) m i) leaves.own in
              record {
                names = g.names;
                own = follows_more k u.own h.history more g.own far;
                heard = (let a = g.heard in let b = length-append h.history more in omega arith);
                holds = λ b. absurd (let t = two_terms_le turns s.views id by v u apart at e in let a = one_of v.in_turn busy in let c = one_of u.in_turn b in let p = h.turn in let q = h.one_turn in omega arith);
                plain = g.plain;
                note = follows_more k u.note h.history more g.note (narrower k u.note u.own more g.within far);
                within = g.within;
              });
        },
        (refl, (more, value, refl, leaves, refl)),
      )

  pub stores : (n id : ℕ) (m : Me (Option T) (Known R E)) (v : Known R E) (value : T) (more : List E) (count : ℕ) → m ≡ (v, (0, Some value) ∷ []) → count ≡ length (k.entries value) → IsInTurn v → v.note ≡ no_part → Leaves k v value more
      → ((c : ℕ) → count_of c (openings k (k.entries value)) ≤ 1)
      → Allows (TurnRule k) n id m 1 (λ _. count) (λ _. Stored k (step n 1 count 0 none) m count)
  stores n id m v value more count e size busy alone leaves once = subst (λ (p : ℕ × Me (Option T) (Known R E)). Allows (TurnRule k) n id p.1 1 (λ _. p.0) (λ _. Stored k (step n 1 p.0 0 none) p.1 p.0)) (λ i. (sym size i, sym e i)) (from_taken n id v value more busy alone leaves once)

  held_in : Option T → List (ℕ × Option T) → Option T
  held_in d [] = d
  held_in d (x ∷ xs) = x.1

  same_value : (a b : T) → ◌≡◌ {A = List (ℕ × Option T)} ((0, Some a) ∷ []) ((0, Some b) ∷ []) → a ≡ b
  unfolding held_in
  same_value a b e = let d : Some a ≡ Some b = ap (held_in (Some a)) e in cc

  pub stored_as : (m : Me (Option T) (Known R E)) (n : Me (Option T) (Known R E)) (v : Known R E) (value : T) → m ≡ (v, (0, Some value) ∷ []) → Stored k (step 0 0 0 0 none) m 0 n
      → (more : List E) × Leaves k v value more × (n.0 ≡ appended k more v) × (n.1 ≡ (0, Some value) ∷ [])
  stored_as m n v value e told =
      let t = subst (λ (m : Me (Option T) (Known R E)). Stored k (step 0 0 0 0 none) m 0 n) e told in
      let same : t.1.1 ≡ value = sym (same_value value t.1.1 t.1.2) in
      (t.1.0, subst (λ x. Leaves k v x t.1.0) same t.1.3, t.1.4, t.0)

  -- a slot that is out, after the exchange
  pub put_in : (m n : Me (Option T) (Known R E)) (value : T) → IsInTurn m.0 → Holds m.0.in_turn m → n ≡ (m.0, (0, Some value) ∷ rest m.1) → n ≡ (m.0, (0, Some value) ∷ [])
  put_in m n value busy h e = let t = subst (λ b. Holds b m) busy h in e ∙ ap (λ l. (m.0, (0, Some value) ∷ rest l)) t.1

  from_stored : (id : ℕ) (v : Known R E) (value : T) → IsInTurn v → v.run ≡ Some (k.run value) → v.own.seen ≡ k.entries value → k.in_order value
      → Allows (TurnRule k) 1 id (v, (0, Some value) ∷ []) 0 (λ _. 0) (λ _. Left (step 1 0 0 0 none) (v, (0, Some value) ∷ []) 0)
  from_stored id v value busy named seen ok s h wide at small =
      let w = resting v in
      let f = h.each id v at in
      let u = f.holds busy in
      let zero_now = get_or-set_same s.words 0 0 0 (omega (arith, h.words)) in
      let runs : Some (k.run value) ≡ Some h.run = sym named ∙ f.names u.0 in
      let a = sum_by-set_view turns s.views id v w at in
      let b = one_of v.in_turn busy in
      let c = term_le turns s.views id v at in (
        w,
        gives,
        tt,
        record {
          run = h.run;
          history = h.history;
          words = length-set s.words 0 0 ∙ h.words;
          one_pen = (let a = sum_by-set_view pens s.views id v w at in let p = h.one_pen in omega arith);
          all_shares = (let a = sum_by-set_view shares s.views id v w at in let p = h.all_shares in omega arith);
          turn = zero_now ∙ (let p = h.turn in let q = h.one_turn in omega arith);
          one_turn = omega arith;
          count = get_or-set_other s.words 0 1 0 0 (λ e. omega arith) ∙ h.count;
          home = (λ _. (value, set_here s.homes 0 (some (Some value)) (omega (arith, wide)), ok, (cc), sym seen ∙ u.1));
          once = h.once;
          clients = (λ c. let a = sum_by-set_view (clients_at c) s.views id v w at in let p = h.clients c in omega arith);
          each = each_set (Fits k h.run h.history) s.views id w
              (record { names = f.names; own = f.own; heard = f.heard; holds = λ e. absurd (true≢false (sym e)); plain = f.plain; note = f.note; within = f.within })
              (λ by u _ e. h.each by u e);
        },
        (refl, refl),
      )

  pub leaves_turn : (n id : ℕ) (m : Me (Option T) (Known R E)) (value : T) → n ≡ 1 → m.1 ≡ (0, Some value) ∷ [] → IsInTurn m.0 → m.0.run ≡ Some (k.run value) → m.0.own.seen ≡ k.entries value → k.in_order value
      → Allows (TurnRule k) n id m 0 (λ _. 0) (λ _. Left (step n 0 0 0 none) m 0)
  leaves_turn n id m value one e busy named seen ok = subst (λ (p : ℕ × List (ℕ × Option T)). Allows (TurnRule k) p.0 id (m.0, p.1) 0 (λ _. 0) (λ _. Left (step p.0 0 0 0 none) (m.0, p.1) 0)) (λ i. (sym one i, sym e i)) (from_stored id m.0 value busy named seen ok)

  pub sits_left : (n : Me (Option T) (Known R E)) (m v : Known R E) (value : T) (more : List E) → v.note ≡ no_part → IsAlive v.own → (v.own.share ≡ 0 → v.own.clients ≡ []) → Leaves k v value more → m ≡ appended k more v → n.1 ≡ [] → n.0 ≡ resting m → Sits n
  sits_left n m v value more alone lives plain leaves e bare is = subst (λ (x : Me (Option T) (Known R E)). Sits x) (λ i. (sym (is ∙ ap resting e) i, sym bare i))
      (record { carries = refl; alone = alone; lives = lives; plain = λ z. ap (λ l. l ++ openings k more) (plain z) ∙ leaves.clerk z })
