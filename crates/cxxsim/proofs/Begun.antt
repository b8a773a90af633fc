-- Texts of which a beginning was handed on.
use Rattle.std.proofs.Common.{◌≡◌, ℕ, List, [], ◌++◌, take, drop, Option, Some, None, refl, sym, ◌∙◌, ap, append_assoc}
use Rattle.std.proofs.lemmas.List.{append-nil, take-append-drop}
use Rattle.std.specs.Io.KnownBytes.{append_known}
use Rattle.outside.specs.Sink.{TookPart, IsSentInPart}
use Rattle.cxxsim.specs.Trace.{HasLeft}

append_known-nothing : (o : Option (List ℕ)) → append_known o [] ≡ o
append_known-nothing None = refl
append_known-nothing (Some xs) = ap (λ l. Some l) (append-nil xs)

append_known-append : (o : Option (List ℕ)) (xs ys : List ℕ) → append_known (append_known o xs) ys ≡ append_known o (xs ++ ys)
append_known-append None xs ys = refl
append_known-append (Some zs) xs ys = ap (λ l. Some l) (append_assoc zs xs ys)

pub left_whole : (before : Option (List ℕ)) (text left : List ℕ) → text ≡ left → HasLeft before before text left
left_whole before text left same = record { gone = []; parts = same; held = sym (append_known-nothing before) }

pub left_then : (before here now : Option (List ℕ)) (text left rest : List ℕ) → HasLeft before here text left → HasLeft here now left rest → HasLeft before now text rest
left_then before here now text left rest first second = record {
  gone = first.gone ++ second.gone;
  parts = first.parts ∙ ap (λ l. first.gone ++ l) second.parts ∙ sym (append_assoc first.gone second.gone rest);
  held = second.held ∙ ap (λ o. append_known o second.gone) first.held ∙ append_known-append before first.gone second.gone;
}

-- with more behind the text, that much more is left
pub left_more : (before now : Option (List ℕ)) (text left more text' left' : List ℕ) → HasLeft before now text left → text' ≡ text ++ more → left' ≡ left ++ more → HasLeft before now text' left'
left_more before now text left more text' left' h e f = record {
  gone = h.gone;
  parts = e ∙ ap (λ l. l ++ more) h.parts ∙ append_assoc h.gone left more ∙ ap (λ l. h.gone ++ l) (sym f);
  held = h.held;
}

-- what was left is handed on whole
pub all_gone : (before here now : Option (List ℕ)) (text left : List ℕ) → HasLeft before here text left → now ≡ append_known here left → now ≡ append_known before text
all_gone before here now text left h e =
    e ∙ ap (λ o. append_known o left) h.held ∙ append_known-append before h.gone left ∙ ap (append_known before) (sym h.parts)

pub begun : (before now : Option (List ℕ)) (text left : List ℕ) → HasLeft before now text left → IsSentInPart before now text
begun before now text left h = record { sent = h.gone; more = left; parts = h.parts; holds = h.held }

left_begun : (before now : Option (List ℕ)) (text : List ℕ) (b : IsSentInPart before now text) → HasLeft before now text b.more
left_begun before now text b = record { gone = b.sent; parts = b.parts; held = b.holds }

pub begun_whole : (before now : Option (List ℕ)) (text : List ℕ) → now ≡ append_known before text → IsSentInPart before now text
begun_whole before now text e = record { sent = text; more = []; parts = sym (append-nil text); holds = e }

-- a part of a text that a sink took is a beginning
pub begun_part : (before now : Option (List ℕ)) (text : List ℕ) → TookPart before now text → IsSentInPart before now text
begun_part before now text took = record { sent = take took.count text; more = drop took.count text; parts = sym (take-append-drop took.count text); holds = took.holds }

pub begun_then : (before here now : Option (List ℕ)) (text left : List ℕ) → HasLeft before here text left → IsSentInPart here now left → IsSentInPart before now text
begun_then before here now text left first second = begun before now text second.more (left_then before here now text left second.more first (left_begun here now left second))

-- a beginning of a text is one of a longer text
pub begun_longer : (before now : Option (List ℕ)) (text more text' : List ℕ) → IsSentInPart before now text → text' ≡ text ++ more → IsSentInPart before now text'
begun_longer before now text more text' b e = begun before now text' (b.more ++ more) (left_more before now text b.more more text' (b.more ++ more) (left_begun before now text b) e refl)
