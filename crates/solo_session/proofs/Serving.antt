-- What may come while the client is served, and what stands behind it.
use Rattle.std.proofs.Common.{◌≡◌, ◌≢◌, ℕ, ◌+◌, ◌-◌, ◌<◌, ◌≤◌, [], ◌∷◌, Bool, true, false, not, refl, sym, ◌∙◌, ap, arith, inl, inr, if◌then◌else◌}
use Rattle.std.specs.Prelude.{nat_le, slice_get, ◌==◌, ◌&&◌}
use Rattle.std.proofs.lemmas.Bool.{cases_Bool, cases_lt, cond-true, cond-false, false≢true}
use Rattle.std.proofs.lemmas.Bool.Decides.{nat_tests}
use Rattle.circuit.specs.Rounds.{Run, run_length}
use Rattle.circuit.proofs.Length.{length_within}
use Rattle.sim_base.specs.declared.kinds.Kinds.{Kinds}
use Rattle.hall_core.specs.Legal.{allowed, is_open, is_true, may_act, is_over, lets}
use Rattle.hall_core.specs.Replay.{Replayed, after, is_goal, runs_on}
use Rattle.hall_core.specs.declared.entry.Act.{Act}
use Rattle.hall_core.specs.declared.entry.Act.TheVariants as act
use Rattle.hall_core.specs.declared.entry.Entry.TheVariants as entry
use Rattle.hall_core.specs.declared.entry.Goal.{Goal}
use Rattle.hall_core.specs.declared.entry.Goal.TheVariants as goal
use Rattle.proto_replies.specs.declared.answer.RunState.TheVariants as state
use Rattle.session_core.specs.Replies.{is_finished, is_running, state_of}
use Rattle.hall_core.specs.Moments.{moment_of}
use Rattle.solo_session.specs.Session.{IsAhead, IsServing}

pub serving_within : (run : Run) (s : Replayed) → IsServing run s → s.n ≤ run.count
serving_within run s serving = (let top : run_length run ≤ run.count = length_within run run.count in omega (arith, serving.settled, top))

pub latest_there : (run : Run) (s : Replayed) → IsServing run s → s.n - 1 < run.count
latest_there run s serving = (let top = serving_within run s serving in omega (arith, serving.some, top))

ahead_below : (run : Run) (s : Replayed) (g : Goal) → IsAhead run s g → is_running g ≡ true → s.n < run.count
ahead_below run s goal.Hold ahead on = absurd (false≢true on)
ahead_below run s (goal.To g kinds) ahead on = (let lt : s.n < g = ahead.0 in let le : g ≤ run.count = ahead.1 in omega (arith, lt, le))
ahead_below run s goal.Over ahead on = absurd ahead

not_all : (run : Run) (s : Replayed) → is_finished run (moment_of s) ≡ false → s.n ≡ run.count → ⊥
not_all run s off same = grind (arith, nat_tests)

-- the run has a next sample unless it is finished
pub next_there : (run : Run) (s : Replayed) → IsServing run s → state_of run (moment_of s) ≢ state.Finished → s.n < run.count
next_there run s serving not_done = elim (cases_Bool (is_running s.goal)) [
  | inl on ↦ ahead_below run s s.goal serving.ahead on
  | inr off ↦ elim (cases_Bool (is_finished run (moment_of s))) [
    | inl done ↦ absurd (not_done (cond-false (is_running s.goal) state.Running _ off ∙ cond-true (is_finished run (moment_of s)) state.Finished state.Paused done))
    | inr left ↦
        (let top = serving_within run s serving in
        elim (cases_lt s.n run.count) [
          | inl lt ↦ lt
          | inr ge ↦ absurd (not_all run s left (omega (arith, top, ge)))
        ])
  ]
]

-- ---- what stands after an entry

-- a packet may come next, and leaves the client served
one_open : (s : Replayed) → s.clients ≡ true ∷ [] → is_open s 0 ≡ true
one_open s is = ap (λ cs. is_true (slice_get cs 0)) is

positive : (n : ℕ) → 1 ≤ n → (n == 0) ≡ false
positive n some = grind (arith, nat_tests)

open_goal : (g : Goal) (b : Bool) → (g ≡ goal.Over → ⊥) → b ≡ true → (not (is_over g) && b) ≡ true
open_goal goal.Hold b over is = is
open_goal (goal.To g kinds) b over is = is
open_goal goal.Over b over is = absurd (over refl)

goes : (g : Goal) (n : ℕ) (b c : Bool) → 1 ≤ n → (g ≡ goal.Over → ⊥) → b ≡ true → (not (is_over g) && (if n == 0 then c else b)) ≡ true
goes g n b c some over is = ap (λ t. not (is_over g) && (if t then c else b)) (positive n some) ∙ open_goal g b over is

not_over : (run : Run) (s : Replayed) (x : Goal) → IsAhead run s x → x ≡ goal.Over → ⊥
not_over run s goal.Hold a e = cc
not_over run s (goal.To g kinds) a e = cc
not_over run s goal.Over a e = a

and_true : (a b : Bool) → a ≡ true → b ≡ true → (a && b) ≡ true
and_true a b p q = ap (λ x. x && b) p ∙ q

pub packet_allowed : (run : Run) (s : Replayed) (what : Act) → IsServing run s → may_act run.count what ≡ true → allowed run.count s (entry.Packet 0 what) ≡ true
packet_allowed run s what serving may = goes s.goal s.n _ _ serving.some (not_over run s s.goal serving.ahead) (and_true _ _ (one_open s serving.clients) may)

run_ahead : (run : Run) (s : Replayed) (m : ℕ) (kinds : Kinds) (on : Bool) → runs_on s m ≡ on → m ≤ run.count → IsAhead run s (if on then goal.To m kinds else goal.Hold)
run_ahead run s m kinds true e le = (grind (arith, nat_tests), le, grind (arith, nat_tests))
run_ahead run s m kinds false e le = tt {0}

pub packet_served : (run : Run) (s : Replayed) (what : Act) → IsServing run s → may_act run.count what ≡ true → IsServing run (after s (entry.Packet 0 what))
packet_served run s act.Look serving may = serving
packet_served run s (act.Run m kinds) serving may = record {
  clients = serving.clients;
  some = serving.some;
  settled = serving.settled;
  ahead = run_ahead run s m kinds (runs_on s m) refl (grind (arith, nat_tests));
}
packet_served run s act.Pause serving may = record { clients = serving.clients; some = serving.some; settled = serving.settled; ahead = tt {0} }

and-first : (a b : Bool) → (a && b) ≡ true → a ≡ true
and-first true b p = refl
and-first false b p = p

and-second : (a b : Bool) → (a && b) ≡ true → b ≡ true
and-second true b p = p
and-second false b p = absurd (false≢true p)

-- where sample 0 is recorded, what may come is what may follow
follow_of : (n : ℕ) (o b c : Bool) → 1 ≤ n → (o && (if n == 0 then c else b)) ≡ true → b ≡ true
follow_of n o b c some e = and-second o b (sym (ap (λ t. o && (if t then c else b)) (positive n some)) ∙ e)

le_of : (a b : ℕ) → nat_le a b ≡ true → a ≤ b
le_of a b e = grind (arith, nat_tests)

lets_of : (x : Goal) (n g : ℕ) (kinds : Kinds) → x ≡ goal.To g kinds → lets x n ≡ true → n ≤ g
lets_of x n g kinds is e = le_of n g (ap (λ y. lets y n) (sym is) ∙ e)

record_fits : (run : Run) (s : Replayed) (m g : ℕ) (kinds : Kinds) → 1 ≤ s.n → s.goal ≡ goal.To g kinds → allowed run.count s (entry.Record m false) ≡ true → s.n + m ≤ g
record_fits run s m g kinds some is may = lets_of s.goal (s.n + m) g kinds is (and-second _ _ (and-first _ _ (follow_of s.n _ _ _ some may)))

-- a record that may come next leaves the client served
reached_ahead : (run : Run) (s : Replayed) (m g : ℕ) (kinds : Kinds) (on : Bool) → (s.n + m == g) ≡ on → s.n + m ≤ g → g ≤ run.count → s.unsettled ≡ false
    → IsAhead run (record { n = s.n + m; goal = (if on then goal.Hold else goal.To g kinds); unsettled = s.unsettled; clients = s.clients }) (if on then goal.Hold else goal.To g kinds)
reached_ahead run s m g kinds true e fits le free = tt {0}
reached_ahead run s m g kinds false e fits le free = (grind (arith, nat_tests), le, free)

record_ahead : (run : Run) (s : Replayed) (m : ℕ) (x : Goal) → s.goal ≡ x → 1 ≤ s.n → IsAhead run s x → allowed run.count s (entry.Record m false) ≡ true
    → IsAhead run (record { n = s.n + m; goal = (if is_goal x (s.n + m) then goal.Hold else x); unsettled = s.unsettled; clients = s.clients }) (if is_goal x (s.n + m) then goal.Hold else x)
record_ahead run s m goal.Hold is some a may = tt {0}
record_ahead run s m (goal.To g kinds) is some a may = reached_ahead run s m g kinds (s.n + m == g) refl (record_fits run s m g kinds some is may) a.1 a.2
record_ahead run s m goal.Over is some a may = absurd a

pub record_served : (run : Run) (s : Replayed) (m : ℕ) (hit : Bool) → IsServing run s → s.n + m ≤ run_length run → allowed run.count s (entry.Record m hit) ≡ true → IsServing run (after s (entry.Record m hit))
record_served run s m true serving settles may = record { clients = serving.clients; some = omega (arith, serving.some); settled = settles; ahead = tt {0} }
record_served run s m false serving settles may = record {
  clients = serving.clients;
  some = omega (arith, serving.some);
  settled = settles;
  ahead = record_ahead run s m s.goal refl serving.some serving.ahead may;
}
