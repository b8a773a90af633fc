-- A history at a fixed pace begins the histories of more packets and of the end.
use Rattle.std.proofs.Common.{◌≡◌, ℕ, zero, suc, ◌≤◌, Bool, true, false, List, [], ◌∷◌, ◌++◌, length, refl, sym, ap, arith, ◌∙◌, append-nil}
use Rattle.std.specs.Prelude.{nat_lt, ◌==◌, if◌then◌else◌}
use Rattle.std.proofs.lemmas.Bool.{cond-true, cond-false}
use Rattle.std.proofs.lemmas.Bool.Decides.{nat_tests}
use Rattle.std.proofs.lemmas.List.{append_assoc}
use Rattle.circuit.specs.Rounds.{Run, run_length}
use Rattle.hall_core.specs.Facts.{facts_of}
use Rattle.hall_core.specs.Legal.{RunFacts}
use Rattle.hall_core.specs.Replay.{replay}
use Rattle.hall_core.specs.declared.entry.Entry.{Entry}
use Rattle.hall_core.specs.declared.entry.Entry.TheVariants as entry
use Rattle.hall_core.specs.declared.entry.Why.TheVariants as why
use Rattle.solo_session.specs.Pace.{batch, batches, closing, input_limit, most_next, opening, packets_of, record_entries, recorded, solo_history, stop_entries, with_packet, with_packets}
use Rattle.session_core.specs.Replies.{act_of}
use Rattle.solo_session.specs.Solo.{ending_of, is_too_long}
use Rattle.solo_session.specs.declared.solo.Ending.TheVariants as ending

abbrev pub Extends : List Entry → List Entry → Type 0
Extends h all = (more : List Entry) × (all ≡ h ++ more)

extends-same : (h : List Entry) → Extends h h
extends-same h = ([], sym (append-nil h))

extends-more : (h more : List Entry) → Extends h (h ++ more)
extends-more h more = (more, refl)

pub extends-trans : (a b c : List Entry) → Extends a b → Extends b c → Extends a c
extends-trans a b c (m, e) (n, f) = (m ++ n, f ∙ ap (λ z. z ++ n) e ∙ append_assoc a m n)

extends-batch : (facts : RunFacts) (h : List Entry) → Extends h (batch facts h)
extends-batch facts h =
    extends-trans h (recorded facts h) (batch facts h) (extends-more h (record_entries facts (replay h) (most_next facts (replay h))))
    (extends-more (recorded facts h) (stop_entries facts (replay (recorded facts h))))

extends-packet : (run : Run) (earlier : List (List ℕ)) (h : List Entry) (p : List ℕ) → Extends h (with_packet run earlier h p)
extends-packet run earlier h p =
    extends-trans h (h ++ entry.Packet 0 (act_of run earlier p) ∷ []) (with_packet run earlier h p) (extends-more h (entry.Packet 0 (act_of run earlier p) ∷ []))
    (extends-batch (facts_of run) (h ++ entry.Packet 0 (act_of run earlier p) ∷ []))

extends-packets : (run : Run) (earlier : List (List ℕ)) (h : List Entry) (ps : List (List ℕ)) → Extends h (with_packets run earlier h ps)
unfolding with_packets
extends-packets run earlier h [] = extends-same h
extends-packets run earlier h (p ∷ ps) =
    extends-trans h (with_packet run earlier h p) (with_packets run (earlier ++ p ∷ []) (with_packet run earlier h p) ps) (extends-packet run earlier h p)
    (extends-packets run (earlier ++ p ∷ []) (with_packet run earlier h p) ps)

extends-batches : (facts : RunFacts) (k : ℕ) (h : List Entry) → Extends h (batches facts k h)
unfolding batches
extends-batches facts zero h = extends-same h
extends-batches facts (suc k) h = extends-trans h (batch facts h) (batches facts k (batch facts h)) (extends-batch facts h) (extends-batches facts k (batch facts h))

with_packets-append : (run : Run) (earlier : List (List ℕ)) (h : List Entry) (ps qs : List (List ℕ)) → with_packets run earlier h (ps ++ qs) ≡ with_packets run (earlier ++ ps) (with_packets run earlier h ps) qs
unfolding with_packets
with_packets-append run earlier h [] qs = ap (λ z. with_packets run z h qs) (sym (append-nil earlier))
with_packets-append run earlier h (p ∷ ps) qs =
    with_packets-append run (earlier ++ p ∷ []) (with_packet run earlier h p) ps qs
    ∙ ap (λ z. with_packets run z (with_packets run (earlier ++ p ∷ []) (with_packet run earlier h p) ps) qs) (append_assoc earlier (p ∷ []) ps)

-- the history of packets begins the history of these and more
pub extends-more_packets : (run : Run) (ps qs : List (List ℕ)) → Extends (with_packets run [] opening ps) (with_packets run [] opening (ps ++ qs))
extends-more_packets run ps qs =
    let rest = extends-packets run ps (with_packets run [] opening ps) qs in
    (rest.0, with_packets-append run [] opening ps qs ∙ rest.1)

-- ---- the end

extends_one_of : (long over : Bool) (h a b c : List Entry) → Extends h a → Extends h b → Extends h c → Extends h (if long then a else (if over then b else c))
extends_one_of true over h a b c x y z = x
extends_one_of false true h a b c x y z = y
extends_one_of false false h a b c x y z = z

pub extends-closing : (run : Run) (bytes : List ℕ) (h : List Entry) → Extends h (closing run bytes h)
extends-closing run bytes h =
    extends_one_of (is_too_long bytes) (nat_lt input_limit (length bytes)) h _ _ _
    (extends-more h (entry.Close 0 why.TooLong ∷ entry.End ∷ []))
    (extends-more h (entry.Close 0 why.Limit ∷ entry.End ∷ []))
    (extends-trans h (batches (facts_of run) run.count h) _ (extends-batches (facts_of run) run.count h) (extends-more (batches (facts_of run) run.count h) (entry.Close 0 why.Ended ∷ entry.End ∷ [])))

some_settle : (n : ℕ) → 1 ≤ n → (n == 0) ≡ false
some_settle n some = grind (arith, nat_tests)

pub solo_is : (run : Run) (bytes : List ℕ) → 1 ≤ run_length run → solo_history run bytes ≡ closing run bytes (with_packets run [] opening (packets_of bytes))
solo_is run bytes some = cond-false (run_length run == 0) _ _ (some_settle (run_length run) some)

pub closing_long : (run : Run) (bytes : List ℕ) (h : List Entry) → is_too_long bytes ≡ true → closing run bytes h ≡ h ++ entry.Close 0 why.TooLong ∷ entry.End ∷ []
closing_long run bytes h long = cond-true (is_too_long bytes) _ _ long

pub closing_limit : (run : Run) (bytes : List ℕ) (h : List Entry) → is_too_long bytes ≡ false → nat_lt input_limit (length bytes) ≡ true → closing run bytes h ≡ h ++ entry.Close 0 why.Limit ∷ entry.End ∷ []
closing_limit run bytes h short over = cond-false (is_too_long bytes) _ _ short ∙ cond-true (nat_lt input_limit (length bytes)) _ _ over

pub closing_ended : (run : Run) (bytes : List ℕ) (h : List Entry) → is_too_long bytes ≡ false → nat_lt input_limit (length bytes) ≡ false → closing run bytes h ≡ batches (facts_of run) run.count h ++ entry.Close 0 why.Ended ∷ entry.End ∷ []
closing_ended run bytes h short within = cond-false (is_too_long bytes) _ _ short ∙ cond-false (nat_lt input_limit (length bytes)) _ _ within

pub ending_long : (bytes : List ℕ) → is_too_long bytes ≡ true → ending.Served ≡ ending_of bytes
ending_long bytes long = rw long refl

pub ending_limit : (bytes : List ℕ) → is_too_long bytes ≡ false → nat_lt input_limit (length bytes) ≡ true → ending.Limit ≡ ending_of bytes
ending_limit bytes short over = rw (short, over) refl

pub ending_ended : (bytes : List ℕ) → is_too_long bytes ≡ false → nat_lt input_limit (length bytes) ≡ false → ending.Served ≡ ending_of bytes
ending_ended bytes short within = rw (short, within) refl
