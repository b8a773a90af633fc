-- The last value: of the rule at the end, where the writer was joined into the clerk with the whole share.
use Rattle.std.proofs.Common.{◌≡◌, ◌≢◌, ◌⊎◌, ℕ, List, [], length, get_or, Option, Some, Bool, true, false, refl, sym, ap, ◌∙◌, subst, inl, inr, arith}
use mathlib.Core.Option.{some, some-injective}
use lib.ListN.{get_elem?}
use Rattle.atomic_table.specs.Table.{State, Final, Seen}
use Rattle.stage_turn.specs.declared.known.Part.{Part}
use Rattle.stage_turn.specs.declared.known.Known.{Known}
use Rattle.stage_turn.specs.Kept.{Owner, writer, client, nobody, Reading, count_of, openings}
use Rattle.stage_turn.specs.Known.{Guards, IsWriter, HasWholeShare, Follows}
use Rattle.stage_turn.specs.Turn.{Closes, IsNamed}
use Rattle.stage_turn.specs.Rule.{one_if, IsAlive, pens, shares, turns, TurnRule}
use Rattle.stage_turn.specs.Steps.{joining}
use Rattle.stage_turn.proofs.Sums.{term_le, two_terms_le, sum_by_only, count_of-append}
use Rattle.stage_turn.proofs.Histories.{right_on, parted}
use Rattle.stage_turn.proofs.Views.{one_of, opened_all}

calm_one : (b : Bool) → (b ≡ true → ⊥) → one_if b ≡ 0
calm_one true n = absurd (n refl)
calm_one false n = refl

spent_is_dead : {E : Type 0} (p : Part E) → IsAlive p → one_if p.pen ≡ 0 → p.share ≡ 0 → ⊥
spent_is_dead p (inl e) a b = let c = one_of p.pen e in omega arith
spent_is_dead p (inr e) a b = omega arith

module _ {T R E : Type 0} (k : Reading T R E) where
  -- nobody else's entries: each client that the history opens is one of the clerk's
  all_own : (writes clerk : Known R E) (h : List E) → IsWriter writes → HasWholeShare clerk → ((c : ℕ) → count_of c clerk.own.clients ≡ count_of c (openings k h)) → (o : Owner) → IsNamed k h o → Guards writes.own o ⊎ Guards clerk.own o
  all_own writes clerk h pen all same writer named = inl pen
  all_own writes clerk h pen all same (client c) named = inr (omega (arith, same c))
  all_own writes clerk h pen all same nobody named = inr (omega arith)

  closes : (id : ℕ) (clerk writes : Known R E) (s : State (Option T) (Known R E)) → IsWriter writes → (writes.own.share ≡ 0 → writes.own.clients ≡ []) → HasWholeShare clerk
      → TurnRule k s → get_elem? s.views id ≡ some (joining clerk writes)
      → (value : T) × (get_elem? s.homes 0 ≡ some (some (Some value))) × Closes k writes clerk value
  closes id clerk writes s pen plain whole h at =
      let v = joining clerk writes in
      let f = h.each id v at in
      let on : v.own.pen ≡ true = right_on clerk.own.pen writes.own.pen pen in
      let none_share : writes.own.share ≡ 0 = (let a = term_le shares s.views id v at in let b = h.all_shares in omega arith) in
      let all : HasWholeShare v = omega arith in
      let lone : (by : ℕ) (x : Known R E) → by ≢ id → get_elem? s.views by ≡ some x → (one_if x.own.pen ≡ 0) × (x.own.share ≡ 0) =
      (λ by x apart e. let a = two_terms_le pens s.views id by v x apart at e in let b = two_terms_le shares s.views id by v x apart at e in let c = one_of v.own.pen on in let p = h.one_pen in let q = h.all_shares in (omega arith, omega arith)) in
      let free : get_or s.words 0 0 ≡ 0 = h.turn ∙ sum_by_only turns s.views id v at
      (λ by x apart e. let l = lone by x apart e in calm_one x.in_turn (λ b. spent_is_dead x.own ((h.each by x e).holds b).0 l.0 l.1)) in
      let t = h.home free in
      let parts = parted k clerk.own writes.own h.history f.own f.note in
      let same : (c : ℕ) → count_of c clerk.own.clients ≡ count_of c (openings k (k.entries t.0)) =
      (λ c. let a = count_of-append c clerk.own.clients writes.own.clients in let b = ap (count_of c) (plain none_share) in
      let d = opened_all k s h id v at all c in let g = ap (λ l. count_of c (openings k l)) t.4 in omega arith) in (
        t.0,
        t.1,
        record {
          order = t.2;
          run = f.names (inl on) ∙ ap Some (sym t.3);
          writer_follows = subst (Follows k writes.own) (sym t.4) parts.1;
          clerk_follows = subst (Follows k clerk.own) (sym t.4) parts.0;
          writer_heard = (let a = f.heard in let b = ap length t.4 in omega arith);
          clerk_heard = (let a = f.heard in let b = ap length t.4 in omega arith);
          clients = same;
          own = all_own writes clerk (k.entries t.0) pen whole same;
        },
      )

  pub closed_value : (id : ℕ) (clerk writes u : Known R E) (ws : List ℕ) (xs : List (Option T)) (r : Option T) → Final (Seen (TurnRule k) id u) ws xs → get_elem? xs 0 ≡ some r
      → u ≡ joining clerk writes → IsWriter writes → (writes.own.share ≡ 0 → writes.own.clients ≡ []) → HasWholeShare clerk → (value : T) × (r ≡ Some value) × Closes k writes clerk value
  closed_value id clerk writes u ws xs r last there is pen plain whole =
      let t = closes id clerk writes last.0 pen plain whole last.1.0 (last.1.1 ∙ ap some is) in
      (t.0, some-injective r (Some t.0) (sym there ∙ last.4 0 (Some t.0) t.1), t.2)
