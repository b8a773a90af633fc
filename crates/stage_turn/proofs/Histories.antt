-- Histories, and the parts that have seen a beginning of them.
use Rattle.std.proofs.Common.{◌≡◌, ◌⊎◌, ℕ, zero, suc, ◌+◌, ltb, ltb-true, ltb-false, ◌<◌, ◌≤◌, ◌||◌, List, [], ◌++◌, length, Bool, true, false, true≢false, refl, sym, ap, ◌∙◌, subst, inl, inr, ⊎_elim, arith, append_assoc}
use Rattle.std.specs.Prelude.{cond}
use Rattle.std.proofs.lemmas.List.{append-nil}
use Rattle.std.proofs.lemmas.List.Elements.{All-nil, All-append}
use Rattle.stage_turn.specs.declared.known.Part.{Part}
use Rattle.stage_turn.specs.Kept.{Owner, writer, client, nobody, Reading, count_of}
use Rattle.stage_turn.specs.Known.{no_part, Guards, longer, both_parts, IsForeign, Follows}
use Rattle.stage_turn.specs.Rule.{IsAlive}
use Rattle.stage_turn.specs.Steps.{behind_part}
use Rattle.stage_turn.proofs.Sums.{count_of-append}
use Rattle.stage_turn.proofs.Lists.{All-front, All-behind, All_map, All_both, begins_longer}

some_of : (a b : ℕ) → 0 < a + b → (0 < a) ⊎ (0 < b)
some_of zero b h = inr (omega arith)
some_of (suc a) b h = inl (omega arith)

which : (a b : Bool) → (a || b) ≡ true → (a ≡ true) ⊎ (b ≡ true)
which true b e = inl refl
which false b e = inr e

left_on : (a b : Bool) → a ≡ true → (a || b) ≡ true
left_on a b e = ap (λ x. x || b) e

pub right_on : (a b : Bool) → b ≡ true → (a || b) ≡ true
right_on true b e = refl
right_on false b e = e

pub none_guards : (E : Type 0) (o : Owner) → ¬ Guards (no_part {E = E}) o
none_guards E writer i = true≢false (sym i)
none_guards E (client c) i = omega arith
none_guards E nobody i = omega arith

pub none_is_dead : (E : Type 0) → IsAlive (no_part {E = E}) → ⊥
none_is_dead E (inl e) = true≢false (sym e)
none_is_dead E (inr e) = omega arith

module _ {E : Type 0} where
  -- the two parts as one, at some history
  abbrev both_at : Part E → Part E → List E → Part E
  both_at p q l = record { pen = p.pen || q.pen; share = p.share + q.share; seen = l; clients = p.clients ++ q.clients }

  one_guards : (p q : Part E) (l : List E) (o : Owner) → Guards (both_at p q l) o → Guards p o ⊎ Guards q o
  one_guards p q l writer i = which p.pen q.pen i
  one_guards p q l (client c) i = some_of (count_of c p.clients) (count_of c q.clients) (let t = count_of-append c p.clients q.clients in omega arith)
  one_guards p q l nobody i = some_of p.share q.share i

  left_guards : (p q : Part E) (l : List E) (o : Owner) → Guards p o → Guards (both_at p q l) o
  left_guards p q l writer i = left_on p.pen q.pen i
  left_guards p q l (client c) i = let t = count_of-append c p.clients q.clients in omega arith
  left_guards p q l nobody i = omega arith

  right_guards : (p q : Part E) (l : List E) (o : Owner) → Guards q o → Guards (both_at p q l) o
  right_guards p q l writer i = right_on p.pen q.pen i
  right_guards p q l (client c) i = let t = count_of-append c p.clients q.clients in omega arith
  right_guards p q l nobody i = omega arith

  cond_guards : (p q : Part E) (l : List E) (b : Bool) (o : Owner) → Guards (cond b p q) o → Guards (both_at p q l) o
  cond_guards p q l true o i = left_guards p q l o i
  cond_guards p q l false o i = right_guards p q l o i

  pub behind_guards : (p q : Part E) (o : Owner) → Guards (behind_part p q) o → Guards (both_parts p q) o
  behind_guards p q o i = cond_guards p q (longer p.seen q.seen) (ltb (length p.seen) (length q.seen)) o i

module _ {T R E : Type 0} (k : Reading T R E) where
  -- a spent part follows each history
  pub none_follows : (h : List E) → Follows k no_part h
  none_follows h = record { behind = h; begins = refl; foreign = λ i d lt. none_guards E _ }

  pub up_to_date : (p : Part E) (h : List E) → p.seen ≡ h → Follows k p h
  up_to_date p h e = record { behind = []; begins = sym e ∙ sym (append-nil p.seen); foreign = All-nil _ }

  -- the history grows by entries of others
  pub follows_more : (p : Part E) (h more : List E) → Follows k p h → IsForeign k p more → Follows k p (h ++ more)
  follows_more p h more f far = record { behind = f.behind ++ more; begins = ap (λ l. l ++ more) f.begins ∙ append_assoc p.seen f.behind more; foreign = All-append (λ e. ¬ Guards p (k.owner e)) f.behind more f.foreign far }

  pub narrower : (p q : Part E) (es : List E) → ((o : Owner) → Guards p o → Guards q o) → IsForeign k q es → IsForeign k p es
  narrower p q es less far = All_map (λ e. ¬ Guards q (k.owner e)) (λ e. ¬ Guards p (k.owner e)) es (λ e n i. n (less (k.owner e) i)) far

  -- a part that has seen as much and guards no more
  pub follows_less : (p q : Part E) (h : List E) → p.seen ≡ q.seen → ((o : Owner) → Guards p o → Guards q o) → Follows k q h → Follows k p h
  follows_less p q h same less f = record { behind = f.behind; begins = f.begins ∙ ap (λ l. l ++ f.behind) (sym same); foreign = narrower p q f.behind less f.foreign }

  -- of two parts of one history the one that has seen less follows what the other has seen
  pub meets : (p q : Part E) (h : List E) → Follows k p h → Follows k q h → length p.seen ≤ length q.seen → Follows k p q.seen
  meets p q h f g less = let t = begins_longer p.seen q.seen f.behind g.behind (sym f.begins ∙ g.begins) less in
      record { behind = t.0; begins = t.1; foreign = All-front (λ e. ¬ Guards p (k.owner e)) t.0 g.behind (subst (λ l. IsForeign k p l) t.2 f.foreign) }

  both_foreign : (p q : Part E) (l es : List E) → IsForeign k p es → IsForeign k q es → IsForeign k (both_at p q l) es
  both_foreign p q l es a b = All_both (λ e. ¬ Guards p (k.owner e)) (λ e. ¬ Guards q (k.owner e)) (λ e. ¬ Guards (both_at p q l) (k.owner e)) es (λ e x y i. ⊎_elim x y (one_guards p q l (k.owner e) i)) a b

  -- two parts as one, and the one of them that had seen less
  pub both_follow : (p q : Part E) (h : List E) → Follows k p h → Follows k q h → Follows k (both_parts p q) h × Follows k (behind_part p q) h
  both_follow p q h f g = pick (ltb (length p.seen) (length q.seen)) refl
    where
      pick : (b : Bool) → ltb (length p.seen) (length q.seen) ≡ b → Follows k (both_at p q (cond b q.seen p.seen)) h × Follows k (cond b p q) h
      pick true e = let t = begins_longer p.seen q.seen f.behind g.behind (sym f.begins ∙ g.begins) (let d = ltb-true _ _ e in omega arith) in
          (record { behind = g.behind; begins = g.begins; foreign = both_foreign p q q.seen g.behind (All-behind (λ e. ¬ Guards p (k.owner e)) t.0 g.behind (subst (λ l. IsForeign k p l) t.2 f.foreign)) g.foreign }, f)
      pick false e = let t = begins_longer q.seen p.seen g.behind f.behind (sym g.begins ∙ f.begins) (ltb-false _ _ e) in
          (record { behind = f.behind; begins = f.begins; foreign = both_foreign p q p.seen f.behind f.foreign (All-behind (λ e. ¬ Guards q (k.owner e)) t.0 f.behind (subst (λ l. IsForeign k q l) t.2 g.foreign)) }, g)

  -- the other way
  pub parted : (p q : Part E) (h : List E) → Follows k (both_parts p q) h → Follows k (behind_part p q) h → Follows k p h × Follows k q h
  parted p q h f g = pick (ltb (length p.seen) (length q.seen)) f g
    where
      pick : (b : Bool) → Follows k (both_at p q (cond b q.seen p.seen)) h → Follows k (cond b p q) h → Follows k p h × Follows k q h
      pick true f g = (g, follows_less q (both_at p q q.seen) h refl (right_guards p q q.seen) f)
      pick false f g = (follows_less p (both_at p q p.seen) h refl (left_guards p q p.seen) f, g)
