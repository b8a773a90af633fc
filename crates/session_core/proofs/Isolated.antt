-- The replies to a client depend on the moments just after its own packets alone.
use Rattle.std.proofs.Common.{◌≡◌, ℕ, ◌+◌, true, false, List, [], ◌∷◌, ◌++◌, refl, sym, ap, ◌∙◌, inl, inr}
use Rattle.std.specs.Prelude.{◌==◌}
use Rattle.std.proofs.lemmas.Bool.{cases_Bool, cond-true, cond-false, false≢true}
use Rattle.circuit.specs.Rounds.{Run}
use Rattle.hall_core.specs.Replay.{after, replay}
use Rattle.hall_core.specs.declared.entry.Entry.{Entry}
use Rattle.hall_core.specs.declared.entry.Entry.TheVariants as entry
use Rattle.hall_core.specs.Moments.{Moment, moment_of}
use Rattle.session_core.specs.Said.{answered, is_packet_of, moments, moments_behind, packets_in, replies, replies_behind, reply_at}
use Rattle.session_core.proofs.Sayings.{packets_in-push_no, packets_in-push_yes}

-- the replies at these moments to a client's packets from the j-th on
replies_at : Run → List (List ℕ) → ℕ → List Moment → List (List ℕ)
replies_at run packets j [] = []
replies_at run packets j (m ∷ ms) = reply_at run m packets j ∷ replies_at run packets (j + 1) ms

answered-packet : (run : Run) (packets : List (List ℕ)) (c : ℕ) (before : List Entry) (e : Entry) → is_packet_of c e ≡ true → answered run packets c before e ≡ reply_at run (moment_of (after (replay before) e)) packets (packets_in c before)
answered-packet run packets c before (entry.Open d) is = absurd (false≢true is)
answered-packet run packets c before (entry.Packet d what) is = cond-true (c == d) _ _ is
answered-packet run packets c before (entry.Record m hit) is = absurd (false≢true is)
answered-packet run packets c before entry.Unsettled is = absurd (false≢true is)
answered-packet run packets c before (entry.Close d cause) is = absurd (false≢true is)
answered-packet run packets c before entry.End is = absurd (false≢true is)

moments-packet : (c : ℕ) (before : List Entry) (e : Entry) (es : List Entry) → is_packet_of c e ≡ true → moments_behind c before (e ∷ es) ≡ moment_of (after (replay before) e) ∷ moments_behind c (before ++ e ∷ []) es
unfolding moments_behind
moments-packet c before e es is = cond-true (is_packet_of c e) _ _ is

moments-other : (c : ℕ) (before : List Entry) (e : Entry) (es : List Entry) → is_packet_of c e ≡ false → moments_behind c before (e ∷ es) ≡ moments_behind c (before ++ e ∷ []) es
unfolding moments_behind
moments-other c before e es is = cond-false (is_packet_of c e) _ _ is

replies-packet : (run : Run) (packets : List (List ℕ)) (c : ℕ) (before : List Entry) (e : Entry) (es : List Entry) → is_packet_of c e ≡ true → replies_behind run packets c before (e ∷ es) ≡ answered run packets c before e ∷ replies_behind run packets c (before ++ e ∷ []) es
unfolding replies_behind
replies-packet run packets c before e es is = cond-true (is_packet_of c e) _ _ is

replies-other : (run : Run) (packets : List (List ℕ)) (c : ℕ) (before : List Entry) (e : Entry) (es : List Entry) → is_packet_of c e ≡ false → replies_behind run packets c before (e ∷ es) ≡ replies_behind run packets c (before ++ e ∷ []) es
unfolding replies_behind
replies-other run packets c before e es is = cond-false (is_packet_of c e) _ _ is

replies_by_moments : (run : Run) (packets : List (List ℕ)) (c : ℕ) (before es : List Entry) → replies_behind run packets c before es ≡ replies_at run packets (packets_in c before) (moments_behind c before es)
unfolding replies_at
replies_by_moments run packets c before [] = unfold replies_behind moments_behind in refl
replies_by_moments run packets c before (e ∷ es) = elim (cases_Bool (is_packet_of c e)) [
  | inl is ↦
      replies-packet run packets c before e es is
      ∙ ap (λ z. answered run packets c before e ∷ z) (replies_by_moments run packets c (before ++ e ∷ []) es ∙ ap (λ z. replies_at run packets z (moments_behind c (before ++ e ∷ []) es)) (packets_in-push_yes c before e is))
      ∙ ap (λ z. z ∷ replies_at run packets (packets_in c before + 1) (moments_behind c (before ++ e ∷ []) es)) (answered-packet run packets c before e is)
      ∙ sym (ap (λ z. replies_at run packets (packets_in c before) z) (moments-packet c before e es is))
  | inr other ↦
      replies-other run packets c before e es other
      ∙ replies_by_moments run packets c (before ++ e ∷ []) es
      ∙ ap (λ z. replies_at run packets z (moments_behind c (before ++ e ∷ []) es)) (packets_in-push_no c before e other)
      ∙ sym (ap (λ z. replies_at run packets (packets_in c before) z) (moments-other c before e es other))
]

pub isolated : (run : Run) (packets : List (List ℕ)) (c : ℕ) (one other : List Entry) → moments c one ≡ moments c other → replies run packets c one ≡ replies run packets c other
isolated run packets c one other same =
    replies_by_moments run packets c [] one
    ∙ ap (λ z. replies_at run packets 0 z) same
    ∙ sym (replies_by_moments run packets c [] other)
