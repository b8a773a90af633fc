-- What sinks hold after several writes.
use Rattle.std.proofs.Common.{◌≡◌, ℕ, ◌+◌, ◌<◌, ◌≤◌, List, ◌++◌, length, take, drop, Option, Some, None, refl, sym, ◌∙◌, ap, arith, append_assoc, length-append, [], take-append-drop, append-nil}
use Rattle.std.proofs.Math.Seq.{take-add, take-append-add}
use Rattle.std.proofs.lemmas.List.{take-append-le}
use Rattle.std.specs.Io.KnownBytes.{append_known}
use Rattle.outside.specs.Sink.{TookPart, IsSentInPart}

-- two writes are one of both texts
pub append_known-append : (known : Option (List ℕ)) (xs ys : List ℕ) → append_known (append_known known xs) ys ≡ append_known known (xs ++ ys)
append_known-append None xs ys = refl
append_known-append (Some held) xs ys = ap Some (append_assoc held xs ys)

-- a write of n bytes more, of the bytes behind the first `done`
pub append_known-take : (known : Option (List ℕ)) (done n : ℕ) (bytes : List ℕ) → append_known (append_known known (take done bytes)) (take n (drop done bytes)) ≡ append_known known (take (done + n) bytes)
append_known-take known done n bytes =
    append_known-append known (take done bytes) (take n (drop done bytes)) ∙ ap (append_known known) (sym (take-add done n bytes))

-- a part of a text is a part of the text with more behind it
pub TookPart-append : (before now : Option (List ℕ)) (xs ys : List ℕ) → TookPart before now xs → TookPart before now (xs ++ ys)
TookPart-append before now xs ys part = record {
  count = part.count;
  not_all = let inside : part.count < length xs = part.not_all in omega (arith, length-append xs ys);
  holds = let inside : part.count ≤ length xs = omega (arith, part.not_all) in rw take-append-le part.holds;
}

-- a text, and a part of a second one behind it, are a part of both together
pub append_known-TookPart : (before between now : Option (List ℕ)) (xs ys : List ℕ) → between ≡ append_known before xs → TookPart between now ys → TookPart before now (xs ++ ys)
append_known-TookPart before between now xs ys first part = record {
  count = length xs + part.count;
  not_all = omega (arith, length-append xs ys, part.not_all);
  holds = rw take-append-add (part.holds ∙ ap (λ known. append_known known (take part.count ys)) first ∙ append_known-append before xs (take part.count ys));
}

append_known-nothing : (known : Option (List ℕ)) → append_known known [] ≡ known
append_known-nothing None = refl
append_known-nothing (Some held) = ap Some (append-nil held)

-- all of a text was sent, behind one that was sent
pub sent_more : (before here now : Option (List ℕ)) (told text : List ℕ) → here ≡ append_known before told → now ≡ append_known here text → now ≡ append_known before (told ++ text)
sent_more before here now told text first second = second ∙ ap (λ z. append_known z text) first ∙ append_known-append before told text

-- nothing more was sent
pub sent_all : (before now : Option (List ℕ)) (told : List ℕ) → now ≡ append_known before told → IsSentInPart before now told
sent_all before now told is = record { sent = told; more = []; parts = sym (append-nil told); holds = is }

-- a part of a text was sent, behind one that was sent
pub sent_part : (before here now : Option (List ℕ)) (told text : List ℕ) → here ≡ append_known before told → TookPart here now text → IsSentInPart before now (told ++ text)
sent_part before here now told text first part = record {
  sent = told ++ take part.count text;
  more = drop part.count text;
  parts = ap (λ z. told ++ z) (sym (take-append-drop part.count text)) ∙ sym (append_assoc told (take part.count text) (drop part.count text));
  holds = sent_more before here now told (take part.count text) first part.holds;
}

-- nothing was sent yet
pub nothing_told : (held : Option (List ℕ)) → held ≡ append_known held []
nothing_told None = refl
nothing_told (Some bytes) = ap Some (sym (append-nil bytes))
