-- What a call leaves is what its status says.
use Rattle.std.proofs.Common.{◌≡◌, ℕ, List, Bool, true, false, Option, Some, None, refl, sym, ◌∙◌, ap, subst, arith, inl, inr, ◌≤◌, length}
use Rattle.std.specs.Prelude.{IsSome, Result, Ok, Err}
use Rattle.circuit.specs.declared.netlist.Circuit.{Circuit}
use Rattle.flat_stimulus.specs.Block.{Block}
use Rattle.flat_stimulus.specs.Text.{block_of}
use Rattle.outside.specs.Shelf.{File, Holds, IsLonger, IsOf, IsKnown, Missing, Unknown}
use Rattle.solo_session.specs.declared.solo.Ending.{Ending}
use Rattle.solo_session.specs.declared.solo.Ending.TheVariants as ending
use Rattle.cxxsim.specs.Answers.{IsAnswered, IsClosed, IsDoneBy, IsFaultOf, IsIdle, IsLimitedBy, IsMisused, IsRefused, IsKnownOf, IsUnreadBy, IsUnwrittenBy, IsWantingBy, Task, task}
use Rattle.cxxsim.specs.Outcome.{ServedAs, TracedAs, WentBy, ended_status, if_logged, served_status, status_of, traced_status}
use Rattle.cxxsim.specs.Outside.{Outside}
use Rattle.cxxsim.specs.Trace.{IsRun, design_circuit}
use Rattle.cxxsim.specs.declared.command.Command.{Command}
use Rattle.cxxsim.specs.declared.command.Mode.{Mode}
use Rattle.cxxsim.specs.declared.command.Mode.TheVariants as mode
use Rattle.cxxsim.specs.declared.outcome.Outcome.{Outcome}
use Rattle.cxxsim.specs.declared.outcome.Outcome.TheVariants as outcome
use Rattle.cxxsim.specs.declared.refusal.Refusal.{Refusal}
use Rattle.cxxsim.specs.declared.refusal.Refusal.TheVariants as refusal
use Rattle.cxxsim.specs.declared.session.Closed.{Closed}
use Rattle.cxxsim.specs.declared.tracing.TraceFault.{TraceFault}
use Rattle.cxxsim.specs.declared.tracing.TraceFault.TheVariants as fault
use Rattle.sim_base.specs.declared.memory.NoMemory.{NoMemory}
use Rattle.cxxsim.proofs.Following.{wanting_by}

-- ---- files that have a run have no fault

-- a file that is known has one text
one_text : (f : File) (a b : List ℕ) → IsKnown f → IsOf f a → IsOf f b → a ≡ b
one_text Unknown a b known p q = absurd known
one_text Missing a b known p q = absurd p
one_text (Holds held) a b known p q = p ∙ sym q

within_limit : (f : File) (a : List ℕ) (limit : ℕ) → IsKnown f → IsOf f a → length a ≤ limit → IsLonger f limit → ⊥
within_limit Unknown a limit known p le longer = absurd known
within_limit Missing a limit known p le longer = absurd p
within_limit (Holds held) a limit known p le longer = omega (arith, ap length p, le, longer)

some_none : {X : Type 0} (x : X) (o : Option X) → o ≡ Some x → o ≡ None → ⊥
some_none x o p q = absurd (apart (sym p ∙ q))
  where
    apart : Some x ≡ None → ⊥
    apart e = cc

one_some : {X : Type 0} (x y : X) (o : Option X) → o ≡ Some x → o ≡ Some y → x ≡ y
one_some x y o p q = cc

one_circuit : (limit : ℕ) (f : File) (c d : Circuit) (a b : List ℕ) → IsKnown f → IsOf f a → IsOf f b → design_circuit a ≡ Some c → design_circuit b ≡ Some d → c ≡ d
one_circuit limit f c d a b known p q here there = one_some c d (design_circuit a) here (ap design_circuit (one_text f a b known p q) ∙ there)

no_fault : (t : Task) (c : Circuit) (b : Block) (r : Refusal) → IsKnownOf t r → IsRun t.limit t.design t.stimulus c b → IsFaultOf t r → ⊥
no_fault t c b refusal.DesignTooLong known run fault = within_limit t.design run.circuit.text t.limit known run.circuit.held.0 run.circuit.held.1 fault
no_fault t c b refusal.DesignNotBuilt known run fault =
    some_none c (design_circuit run.circuit.text) run.circuit.read (ap design_circuit (one_text t.design run.circuit.text fault.text known run.circuit.held.0 fault.held.0) ∙ fault.unread)
no_fault t c b refusal.StimulusTooLong known run fault = within_limit t.stimulus run.block.text t.limit known.1 run.block.held.0 run.block.held.1 fault.longer
no_fault t c b refusal.StimulusNotBuilt known run fault =
    let same : c ≡ fault.circuit = one_circuit t.limit t.design c fault.circuit run.circuit.text fault.is_design.text known.0 run.circuit.held.0 fault.is_design.held.0 run.circuit.read fault.is_design.read in
    let texts : run.block.text ≡ fault.unread.text = one_text t.stimulus run.block.text fault.unread.text known.1 run.block.held.0 fault.unread.held.0 in
    some_none b (block_of run.block.text c) run.block.read (ap (λ t. block_of t c) texts ∙ ap (block_of fault.unread.text) same ∙ fault.unread.unread)

-- ---- by the status

-- a file that has a fault is not followed
abbrev Unfaulty : ℕ → Outside → Outside → Command → Type 0
Unfaulty limit before now c = (r : Refusal) → IsKnownOf (task limit before now c) r → IsFaultOf (task limit before now c) r → ⊥

some_is : {X : Type 0} (x y : X) → Some x ≡ Some y → x ≡ y
some_is x y e = cc

none_some : {X : Type 0} (x : X) → Some x ≡ None → ⊥
none_some x e = cc

-- the fault of another command is that of this one
unfaulty_of : (limit : ℕ) (before now : Outside) (c d : Command) → Unfaulty limit before now c → Some c ≡ Some d → Unfaulty limit before now d
unfaulty_of limit before now c d un e = subst (λ (z : Command). Unfaulty limit before now z) (some_is c d e) un

done_whole : (limit : ℕ) (before now : Outside) (c : Command) → IsDoneBy (task limit before now c) false c.mode → Unfaulty limit before now c → IsAnswered limit (Some c) before now 0
done_whole limit before now c is un = record {
  known = refl;
  done = λ e. is;
  unsettled = λ e. absurd (omega (arith, e));
  usage = λ e. absurd (omega (arith, e));
  usage_comes = λ e. absurd (none_some c e);
  unread = λ e. absurd (omega (arith, e));
  refused = λ e. absurd (omega (arith, e));
  refusal_comes = λ d e r known f. absurd (unfaulty_of limit before now c d un e r known f);
  unwritten = λ e. absurd (omega (arith, e));
  wanting = λ e. absurd (omega (arith, e));
  limited = λ e. absurd (omega (arith, e));
}

done_short : (limit : ℕ) (before now : Outside) (c : Command) → IsDoneBy (task limit before now c) true c.mode → Unfaulty limit before now c → IsAnswered limit (Some c) before now 6
done_short limit before now c is un = record {
  known = refl;
  done = λ e. absurd (omega (arith, e));
  unsettled = λ e. is;
  usage = λ e. absurd (omega (arith, e));
  usage_comes = λ e. absurd (none_some c e);
  unread = λ e. absurd (omega (arith, e));
  refused = λ e. absurd (omega (arith, e));
  refusal_comes = λ d e r known f. absurd (unfaulty_of limit before now c d un e r known f);
  unwritten = λ e. absurd (omega (arith, e));
  wanting = λ e. absurd (omega (arith, e));
  limited = λ e. absurd (omega (arith, e));
}

misused : (limit : ℕ) (before now : Outside) → IsMisused None before now true → IsAnswered limit None before now 2
misused limit before now is = record {
  known = refl;
  done = λ e. absurd (omega (arith, e));
  unsettled = λ e. absurd (omega (arith, e));
  usage = λ e. is;
  usage_comes = λ e. inl refl;
  unread = λ e. absurd (omega (arith, e));
  refused = λ e. absurd (omega (arith, e));
  refusal_comes = λ d e r known f. absurd (none_some d (sym e));
  unwritten = λ e. absurd (omega (arith, e));
  wanting = λ e. absurd (omega (arith, e));
  limited = λ e. absurd (omega (arith, e));
}

misused_unlogged : (limit : ℕ) (before now : Outside) → IsMisused None before now false → IsAnswered limit None before now 5
misused_unlogged limit before now is = record {
  known = refl;
  done = λ e. absurd (omega (arith, e));
  unsettled = λ e. absurd (omega (arith, e));
  usage = λ e. absurd (omega (arith, e));
  usage_comes = λ e. inr (refl, is);
  unread = λ e. absurd (omega (arith, e));
  refused = λ e. absurd (omega (arith, e));
  refusal_comes = λ d e r known f. absurd (none_some d (sym e));
  unwritten = λ e. inl is;
  wanting = λ e. absurd (omega (arith, e));
  limited = λ e. absurd (omega (arith, e));
}

unread : (limit : ℕ) (before now : Outside) (c : Command) → IsUnreadBy (task limit before now c) c.mode → IsAnswered limit (Some c) before now 3
unread limit before now c is = record {
  known = refl;
  done = λ e. absurd (omega (arith, e));
  unsettled = λ e. absurd (omega (arith, e));
  usage = λ e. absurd (omega (arith, e));
  usage_comes = λ e. absurd (none_some c e);
  unread = λ e. is;
  refused = λ e. absurd (omega (arith, e));
  refusal_comes = λ d e r known f. inr (inl refl);
  unwritten = λ e. absurd (omega (arith, e));
  wanting = λ e. absurd (omega (arith, e));
  limited = λ e. absurd (omega (arith, e));
}

refused : (limit : ℕ) (before now : Outside) (c : Command) → IsRefused (task limit before now c) true → IsAnswered limit (Some c) before now 4
refused limit before now c is = record {
  known = refl;
  done = λ e. absurd (omega (arith, e));
  unsettled = λ e. absurd (omega (arith, e));
  usage = λ e. absurd (omega (arith, e));
  usage_comes = λ e. absurd (none_some c e);
  unread = λ e. absurd (omega (arith, e));
  refused = λ e. is;
  refusal_comes = λ d e r known f. inl refl;
  unwritten = λ e. absurd (omega (arith, e));
  wanting = λ e. absurd (omega (arith, e));
  limited = λ e. absurd (omega (arith, e));
}

refused_unlogged : (limit : ℕ) (before now : Outside) (c : Command) → IsRefused (task limit before now c) false → IsAnswered limit (Some c) before now 5
refused_unlogged limit before now c is = record {
  known = refl;
  done = λ e. absurd (omega (arith, e));
  unsettled = λ e. absurd (omega (arith, e));
  usage = λ e. absurd (omega (arith, e));
  usage_comes = λ e. absurd (none_some c e);
  unread = λ e. absurd (omega (arith, e));
  refused = λ e. absurd (omega (arith, e));
  refusal_comes = λ d e r known f. inr (inr (inl (refl, subst (λ (z : Command). IsRefused (task limit before now z) false) (some_is c d e) is)));
  unwritten = λ e. inr (inl is);
  wanting = λ e. absurd (omega (arith, e));
  limited = λ e. absurd (omega (arith, e));
}

unwritten : (limit : ℕ) (before now : Outside) (c : Command) → IsUnwrittenBy (task limit before now c) c.mode → Unfaulty limit before now c → IsAnswered limit (Some c) before now 5
unwritten limit before now c is un = record {
  known = refl;
  done = λ e. absurd (omega (arith, e));
  unsettled = λ e. absurd (omega (arith, e));
  usage = λ e. absurd (omega (arith, e));
  usage_comes = λ e. absurd (none_some c e);
  unread = λ e. absurd (omega (arith, e));
  refused = λ e. absurd (omega (arith, e));
  refusal_comes = λ d e r known f. absurd (unfaulty_of limit before now c d un e r known f);
  unwritten = λ e. inr (inr is);
  wanting = λ e. absurd (omega (arith, e));
  limited = λ e. absurd (omega (arith, e));
}

wanting : (limit : ℕ) (before now : Outside) (c : Command) → IsWantingBy (task limit before now c) c.mode → IsAnswered limit (Some c) before now 8
wanting limit before now c is = record {
  known = refl;
  done = λ e. absurd (omega (arith, e));
  unsettled = λ e. absurd (omega (arith, e));
  usage = λ e. absurd (omega (arith, e));
  usage_comes = λ e. absurd (none_some c e);
  unread = λ e. absurd (omega (arith, e));
  refused = λ e. absurd (omega (arith, e));
  refusal_comes = λ d e r known f. inr (inr (inr refl));
  unwritten = λ e. absurd (omega (arith, e));
  wanting = λ e. is;
  limited = λ e. absurd (omega (arith, e));
}

limited : (limit : ℕ) (before now : Outside) (c : Command) → IsLimitedBy (task limit before now c) c.mode → Unfaulty limit before now c → IsAnswered limit (Some c) before now 9
limited limit before now c is un = record {
  known = refl;
  done = λ e. absurd (omega (arith, e));
  unsettled = λ e. absurd (omega (arith, e));
  usage = λ e. absurd (omega (arith, e));
  usage_comes = λ e. absurd (none_some c e);
  unread = λ e. absurd (omega (arith, e));
  refused = λ e. absurd (omega (arith, e));
  refusal_comes = λ d e r known f. absurd (unfaulty_of limit before now c d un e r known f);
  unwritten = λ e. absurd (omega (arith, e));
  wanting = λ e. absurd (omega (arith, e));
  limited = λ e. is;
}

-- ---- all ways in which a call ends

unfaulty_run : (limit : ℕ) (before now : Outside) (cmd : Command) (c : Circuit) (b : Block) → IsRun limit (task limit before now cmd).design (task limit before now cmd).stimulus c b → Unfaulty limit before now cmd
unfaulty_run limit before now cmd c b run r known f = no_fault (task limit before now cmd) c b r known run f

-- what holds in a mode holds in that of the command
in_mode : (P : Mode → Type 0) (m n : Mode) → m ≡ n → P n → P m
in_mode P m n e p = subst (λ (z : Mode). P z) (sym e) p

closed_answers : (limit : ℕ) (before now : Outside) (c : Command) → c.mode ≡ mode.Solo → (ends : Ending) (unsettled logged : Bool)
    → IsClosed (task limit before now c) (record { ending = ends; unsettled = unsettled; logged = logged }) → IsAnswered limit (Some c) before now (ended_status ends unsettled logged)
closed_answers limit before now c m ending.Served false true is =
    done_whole limit before now c (in_mode (IsDoneBy (task limit before now c) false) c.mode mode.Solo m is) (unfaulty_run limit before now c is.circuit is.block is.is_run)
closed_answers limit before now c m ending.Served true true is =
    done_short limit before now c (in_mode (IsDoneBy (task limit before now c) true) c.mode mode.Solo m is) (unfaulty_run limit before now c is.circuit is.block is.is_run)
closed_answers limit before now c m ending.Served unsettled false is =
    unwritten limit before now c (in_mode (IsUnwrittenBy (task limit before now c)) c.mode mode.Solo m (inr (unsettled, is))) (unfaulty_run limit before now c is.circuit is.block is.is_run)
closed_answers limit before now c m ending.Limit unsettled logged is =
    limited limit before now c (in_mode (IsLimitedBy (task limit before now c)) c.mode mode.Solo m (unsettled, logged, is)) (unfaulty_run limit before now c is.circuit is.block is.is_run)
closed_answers limit before now c m ending.InputFailed unsettled logged is =
    unread limit before now c (in_mode (IsUnreadBy (task limit before now c)) c.mode mode.Solo m (inr (unsettled, logged, is)))
closed_answers limit before now c m ending.OutputFailed unsettled logged is =
    unwritten limit before now c (in_mode (IsUnwrittenBy (task limit before now c)) c.mode mode.Solo m (inl (unsettled, logged, is))) (unfaulty_run limit before now c is.circuit is.block is.is_run)

unread_by : (t : Task) (m : Mode) → WentBy t m outcome.Unread → IsUnreadBy t m
unread_by t mode.Trace is = is
unread_by t mode.Solo is = inl is

traced_answers : (limit : ℕ) (before now : Outside) (c : Command) (traced : Result Bool TraceFault) → c.mode ≡ mode.Trace → TracedAs (task limit before now c) traced → IsAnswered limit (Some c) before now (traced_status traced)
traced_answers limit before now c (Ok false) m is =
    done_whole limit before now c (in_mode (IsDoneBy (task limit before now c) false) c.mode mode.Trace m is) (unfaulty_run limit before now c is.0.circuit is.0.block is.0.is_run)
traced_answers limit before now c (Ok true) m is =
    done_short limit before now c (in_mode (IsDoneBy (task limit before now c) true) c.mode mode.Trace m is) (unfaulty_run limit before now c is.0.circuit is.0.block is.0.is_run)
traced_answers limit before now c (Err fault.Write) m is =
    unwritten limit before now c (in_mode (IsUnwrittenBy (task limit before now c)) c.mode mode.Trace m is) (unfaulty_run limit before now c is.run.0 is.run.1 is.run.2)
traced_answers limit before now c (Err fault.NoMemory) m is = wanting limit before now c (in_mode (IsWantingBy (task limit before now c)) c.mode mode.Trace m is)

served_answers : (limit : ℕ) (before now : Outside) (c : Command) (served : Result Closed NoMemory) → c.mode ≡ mode.Solo → ServedAs (task limit before now c) served → IsAnswered limit (Some c) before now (served_status served)
served_answers limit before now c (Ok k) m is = closed_answers limit before now c m k.ending k.unsettled k.logged is
served_answers limit before now c (Err e) m is = wanting limit before now c (in_mode (IsWantingBy (task limit before now c)) c.mode mode.Solo m is)

-- a call with a command answers what it left
pub answers_by : (limit : ℕ) (before now : Outside) (c : Command) (o : Outcome) → WentBy (task limit before now c) c.mode o → IsAnswered limit (Some c) before now (status_of o)
answers_by limit before now c outcome.Unread is = unread limit before now c (unread_by (task limit before now c) c.mode is)
answers_by limit before now c (outcome.Refused r true) is = refused limit before now c (r, is.0, is.1, is.2, is.3)
answers_by limit before now c (outcome.Refused r false) is = refused_unlogged limit before now c (r, is.0, is.1, is.2, is.3)
answers_by limit before now c (outcome.Traced traced) (m, is) = traced_answers limit before now c traced m is
answers_by limit before now c (outcome.Served served) (m, is) = served_answers limit before now c served m is
answers_by limit before now c outcome.NoMemory is = wanting limit before now c is

-- words that do not fit
pub answers_misuse : (limit : ℕ) (asked : Option Command) (before now : Outside) (logged : Bool) → asked ≡ None → IsMisused None before now logged → IsAnswered limit asked before now (if_logged logged 2)
answers_misuse limit asked before now true none is = subst (λ (z : Option Command). IsAnswered limit z before now 2) (sym none) (misused limit before now is)
answers_misuse limit asked before now false none is = subst (λ (z : Option Command). IsAnswered limit z before now 5) (sym none) (misused_unlogged limit before now is)

nothing : IsSome {T = Command} None → ⊥
nothing e = cc

-- no memory for words that fit
pub answers_wanting : (limit : ℕ) (asked : Option Command) (before now : Outside) → IsSome asked → IsIdle before now → IsAnswered limit asked before now 8
answers_wanting limit None before now some idle = absurd (nothing some)
answers_wanting limit (Some c) before now some idle = wanting limit before now c (wanting_by (task limit before now c) c.mode idle)
