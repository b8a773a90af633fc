-- How a legal history begins, and what a reached goal leaves.
use Rattle.std.proofs.Common.{◌≡◌, ℕ, ◌+◌, ◌<◌, ◌≤◌, Bool, true, false, List, [], ◌∷◌, ◌++◌, refl, sym, ap, arith, ◌∙◌, ◌⊎◌, inl, inr, length, Some, cond}
use Rattle.std.specs.Prelude.{◌==◌, ◌&&◌, not, slice_get}
use Rattle.std.proofs.lemmas.Bool.Decides.{nat_tests}
use Rattle.std.proofs.Math.Seq.{take-append_seam}
use Rattle.hall_core.specs.declared.entry.Entry.{Entry}
use Rattle.hall_core.specs.declared.entry.Entry.TheVariants as entry
use Rattle.hall_core.specs.declared.entry.Act.TheVariants as act
use Rattle.hall_core.specs.declared.entry.Goal.{Goal}
use Rattle.hall_core.specs.declared.entry.Goal.TheVariants as goal
use Rattle.hall_core.specs.Replay.{Replayed, after, replay, runs_on, reaches, reaches_there, reached}
use Rattle.hall_core.specs.Legal.{RunFacts, Next, Follows, Legal}
use Rattle.hall_core.specs.Laws.{BeginsWithSample, IsUnsettledAtOnce}
use Rattle.hall_core.proofs.Progress.{replay-push, false-true, and-first}

same_one : (m : ℕ) → (m == 1) ≡ true → m ≡ 1
same_one m h = grind (arith, nat_tests)

no_hit : (a hit : Bool) → ((a && not hit) && true) ≡ true → hit ≡ false
no_hit true false h = refl
no_hit true true h = absurd (false-true h)
no_hit false hit h = absurd (false-true h)

first_record : (m : ℕ) (hit : Bool) (more : List Entry) → m ≡ 1 → hit ≡ false → entry.Record m hit ∷ more ≡ entry.Record 1 false ∷ more
first_record m hit more p q = cc

positive : (m n : ℕ) → m ≡ 1 → 0 + m ≤ n → 0 < n
positive m n p q = omega arith

no_record : (a b : Bool) → ((a && b) && false) ≡ true → ⊥
no_record true true h = false-true h
no_record true false h = false-true h
no_record false b h = false-true h

behind_unsettled : (run : RunFacts) (f : Entry) (more : List Entry) → run.length ≡ 0 → Follows run (entry.Unsettled ∷ f ∷ more) → Next run (entry.Unsettled ∷ []) f → IsUnsettledAtOnce run (entry.Unsettled ∷ f ∷ more)
behind_unsettled run (entry.Open c) more zero follows next = absurd (false-true next.allows)
behind_unsettled run (entry.Packet c what) more zero follows next = absurd (false-true next.allows)
behind_unsettled run (entry.Record m hit) more zero follows next = absurd (no_record (m == 1) (not hit) next.allows)
behind_unsettled run entry.Unsettled more zero follows next = absurd (false-true next.allows)
behind_unsettled run (entry.Close c why) more zero follows next = absurd (false-true next.allows)
behind_unsettled run entry.End [] zero follows next = (zero, inr refl)
behind_unsettled run entry.End (g ∷ more) zero follows next = absurd (false-true (follows (entry.Unsettled ∷ entry.End ∷ []) more g refl).allows)

first_entry : (run : RunFacts) (e : Entry) (more : List Entry) → Follows run (e ∷ more) → Next run [] e → BeginsWithSample run (e ∷ more) ⊎ IsUnsettledAtOnce run (e ∷ more)
first_entry run (entry.Open c) more follows next = absurd (false-true next.allows)
first_entry run (entry.Packet c what) more follows next = absurd (false-true next.allows)
first_entry run (entry.Record m hit) more follows next =
    let one = same_one m (and-first (m == 1) (not hit) (and-first ((m == 1) && not hit) true next.allows)) in
    inl (positive m run.length one next.meets.0, (more, first_record m hit more one (no_hit (m == 1) hit next.allows)))
first_entry run entry.Unsettled [] follows next = inr (sym next.meets.0, inl refl)
first_entry run entry.Unsettled (f ∷ more) follows next = inr (behind_unsettled run f more (sym next.meets.0) follows (follows (entry.Unsettled ∷ []) more f refl))
first_entry run (entry.Close c why) more follows next = absurd (false-true next.allows)
first_entry run entry.End more follows next = absurd (false-true next.allows)

pub begins : (run : RunFacts) (history : List Entry) → Legal run history → BeginsWithSample run history ⊎ IsUnsettledAtOnce run history
begins run [] legal = absurd (legal.0 refl)
begins run (e ∷ more) legal = first_entry run e more legal.1 (legal.1 [] more e refl)

run_held : (b : Bool) (g : Goal) → not b ≡ true → cond b g goal.Hold ≡ goal.Hold
run_held true g h = absurd (false-true h)
run_held false g h = refl

record_held : (b : Bool) (g : Goal) → b ≡ true → cond b goal.Hold g ≡ goal.Hold
record_held true g h = refl
record_held false g h = absurd (false-true h)

held_after : (s : Replayed) (e : Entry) → reaches s e ≡ true → (after s e).goal ≡ goal.Hold
held_after s (entry.Open c) h = absurd (false-true h)
held_after s (entry.Packet c act.Look) h = absurd (false-true h)
held_after s (entry.Packet c (act.Run m kinds)) h = run_held (runs_on s m) _ h
held_after s (entry.Packet c act.Pause) h = absurd (false-true h)
held_after s (entry.Record m hit) h = record_held (reaches s (entry.Record m hit)) _ h
held_after s entry.Unsettled h = refl
held_after s (entry.Close c why) h = absurd (false-true h)
held_after s entry.End h = absurd (false-true h)

get_last : (history : List Entry) (e : Entry) (more : List Entry) → slice_get (history ++ e ∷ more) (length history) ≡ Some e
get_last [] e more = refl
get_last (f ∷ history) e more = get_last history e more

reached_last : (history : List Entry) (e : Entry) → reached (history ++ e ∷ []) (length history) ≡ reaches (replay history) e
reached_last history e = ap (λ z. reaches_there (replay z) (slice_get (history ++ e ∷ []) (length history))) (take-append_seam history (e ∷ [])) ∙ ap (λ z. reaches_there (replay history) z) (get_last history e [])

pub reached_held : (history : List Entry) (e : Entry) → reached (history ++ e ∷ []) (length history) ≡ true → (replay (history ++ e ∷ [])).goal ≡ goal.Hold
reached_held history e h = ap (λ z. z.goal) (replay-push history e) ∙ held_after (replay history) e (sym (reached_last history e) ∙ h)
