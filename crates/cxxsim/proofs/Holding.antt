-- What a session leaves whose client was served, or nobody.
use Rattle.std.proofs.Common.{◌≡◌, ℕ, ◌≤◌, ◌<◌, List, [], ◌∷◌, Option, refl, sym, ap, subst, arith, inl, inr}
use Rattle.circuit.specs.Rounds.{run_length}
use Rattle.flat_run.specs.Run.{Sampled, run_of}
use Rattle.hall_core.specs.Facts.{facts_of}
use Rattle.hall_core.specs.Laws.{none, one_more}
use Rattle.hall_core.specs.Legal.{Legal, RunFacts}
use Rattle.hall_core.specs.declared.entry.Entry.{Entry}
use Rattle.hall_core.specs.declared.entry.Entry.TheVariants as entry
use Rattle.hall_core.proofs.Histories.{legal_taken}
use Rattle.solo_session.specs.Solo.{IsCause, IsEnded, IsWanting, Outset, outset_of}
use Rattle.solo_session.specs.declared.solo.Ending.{Ending}
use Rattle.solo_session.specs.declared.solo.Ending.TheVariants as ending
use Rattle.solo_session.proofs.Leaving.{broken_wanting, whole_wanting}
use Rattle.outside.specs.Sink.{SinkSeen}
use Rattle.outside.specs.Source.{SourceSeen}
use Rattle.cxxsim.specs.Solo.{IsHeld, IsSentAtMost}

ended_legal : (outset : Outset) (left held : Option (List ℕ)) (history : List Entry) (ends : Ending) → IsEnded outset left held history ends → Legal (facts_of outset.run) history
ended_legal outset left held history ending.Served is = is.by.session.legal
ended_legal outset left held history ending.Limit is = is.by.session.legal
ended_legal outset left held history ending.InputFailed is = is.by.0.session.legal
ended_legal outset left held history ending.OutputFailed is = is.by.0.session.legal

pub served_is_held : (run : Sampled) (input input_now : SourceSeen) (out out_now : SinkSeen) (history : List Entry) (ends : Ending) → 1 ≤ run_length (run_of run)
    → IsEnded (outset_of (run_of run) input out) input_now.left out_now.held history ends → IsCause ends input input_now out out_now
    → IsHeld run input input_now out out_now history ends
served_is_held run input input_now out out_now history ends settled is cause = record {
  either = inr (record { settled = settled; ended = is });
  legal = ended_legal (outset_of (run_of run) input out) input_now.left out_now.held history ends is;
  cause = cause;
}

-- the history in which sample 0 does not settle
unserved_legal : (facts : RunFacts) → facts.length ≡ 0 → 1 ≤ facts.count → Legal facts (entry.Unsettled ∷ entry.End ∷ [])
unserved_legal facts short some =
    legal_taken facts (entry.Unsettled ∷ entry.End ∷ [])
    (one_more (one_more none entry.Unsettled (record { allows = refl; meets = (sym short, (let lt : facts.length < facts.count = omega (arith, short, some) in lt)) })) entry.End
    (record { allows = refl; meets = tt {0} }))
    (apart entry.Unsettled (entry.End ∷ []))
  where
    apart : (e : Entry) (es : List Entry) → e ∷ es ≡ [] → ⊥
    apart e es h = cc

pub unserved_is_held : (run : Sampled) (input input_now : SourceSeen) (out out_now : SinkSeen) (history : List Entry) → run_length (run_of run) ≡ 0 → 1 ≤ (run_of run).count → history ≡ entry.Unsettled ∷ entry.End ∷ []
    → input_now ≡ input → out_now ≡ out → IsHeld run input input_now out out_now history ending.Served
unserved_is_held run input input_now out out_now history short some is quiet_input quiet_out = record {
  either = inl (record { unsettled = short; is = is; ended = refl; quiet_input = quiet_input; quiet_out = quiet_out });
  legal = subst (λ (h : List Entry). Legal (facts_of (run_of run)) h) (sym is) (unserved_legal (facts_of (run_of run)) short some);
  cause = (ap (λ (i : SourceSeen). i.faults) quiet_input, ap (λ (o : SinkSeen). o.faults) quiet_out);
}

ended_sends : (outset : Outset) (left held : Option (List ℕ)) (history : List Entry) (ends : Ending) → IsEnded outset left held history ends → IsWanting outset held
ended_sends outset left held history ending.Served is = whole_wanting outset left held history is.given ending.Served is.by
ended_sends outset left held history ending.Limit is = whole_wanting outset left held history is.given ending.Limit is.by
ended_sends outset left held history ending.InputFailed is = broken_wanting outset held history is.by.0
ended_sends outset left held history ending.OutputFailed is = broken_wanting outset held history is.by.0

-- what a session sent is a beginning of what it is to send
pub held_sends : (run : Sampled) (input input_now : SourceSeen) (out out_now : SinkSeen) (history : List Entry) (ends : Ending) → IsHeld run input input_now out out_now history ends → IsSentAtMost run input input_now out out_now
held_sends run input input_now out out_now history ends held =
    elim held.either [
      | inl unserved ↦ inl unserved.quiet_out
      | inr served ↦ inr (ended_sends (outset_of (run_of run) input out) input_now.left out_now.held history ends served.ended)
    ]
