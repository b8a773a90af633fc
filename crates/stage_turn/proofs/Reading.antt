-- The steps that only read: the count, and the note of a join.
use Rattle.std.proofs.Common.{ℕ, ◌≤◌, length, get_or, Option, refl, ap, arith, length-append}
use mathlib.Core.Option.{none}
use Rattle.atomic_table.specs.Table.{Me, keeps, Allows, step}
use Rattle.stage_turn.specs.declared.known.Known.{Known}
use Rattle.stage_turn.specs.Kept.{Reading}
use Rattle.stage_turn.specs.Known.{told}
use Rattle.stage_turn.specs.Rule.{TurnRule}
use Rattle.stage_turn.specs.Steps.{Counted, Learned, unmarked}
use Rattle.stage_turn.proofs.Histories.{none_guards, none_follows, meets}
use Rattle.stage_turn.proofs.Views.{renewed}

module _ {T R E : Type 0} (k : Reading T R E) where
  pub counts : (n id : ℕ) (m : Me (Option T) (Known R E)) → Allows (TurnRule k) n id m 1 (λ x. x) (Counted (step n 1 0 0 none) m)
  counts n id m s h wide at small =
      let f = h.each id m.0 at in
      let x = get_or s.words 1 0 in
      let far : length m.0.own.seen ≤ x = (let a = ap length f.own.begins in let b = length-append m.0.own.seen f.own.behind in let c = h.count in omega arith) in (
        told x m.0,
        keeps,
        tt,
        renewed k s 1 id m.0 (told x m.0) h at refl refl refl refl
            (record { names = f.names; own = f.own; heard = (let c = h.count in omega arith); holds = f.holds; plain = f.plain; note = f.note; within = f.within }),
        (refl, refl, (let a = f.heard in let c = h.count in omega arith), far),
      )

  pub learns : (n id : ℕ) (m : Me (Option T) (Known R E)) → Allows (TurnRule k) n id m 0 (λ x. x) (Learned k (step n 0 0 0 none) m)
  learns n id m s h wide at small =
      let f = h.each id m.0 at in (
        unmarked m.0,
        keeps,
        tt,
        renewed k s 0 id m.0 (unmarked m.0) h at refl refl refl refl
            (record { names = f.names; own = f.own; heard = f.heard; holds = f.holds; plain = f.plain; note = none_follows k h.history; within = λ o i. absurd (none_guards E o i) }),
        (refl, refl, meets k m.0.note m.0.own h.history f.note f.own),
      )
