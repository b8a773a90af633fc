-- What sources give.
use Rattle.std.proofs.Common.{◌≡◌, ℕ, ◌+◌, ◌≤◌, List, ◌++◌, length, take, drop, Option, Some, None, Result, Ok, Err, refl, sym, ◌∙◌, ap, [], append_assoc, subst}
use Rattle.std.proofs.Math.Seq.{drop-drop, take_at}
use Rattle.std.proofs.lemmas.List.{length-take-le, take-append-drop}
use Rattle.outside.specs.Source.{IsInput}
use Rattle.std.specs.Io.KnownBytes.{Consumes, Keeps, ReadConsumes, IsAtEnd, prepend_known}
use Rattle.std.proofs.KnownBytes.{Keeps-trans}

-- the first n bytes that are left, put at the front of a buffer, and those behind them, are all that was left
pub given-at_front : (given n : ℕ) (bytes piece more : List ℕ) → n ≤ length (drop given bytes) → piece ≡ take n (drop given bytes)
    → drop given bytes ≡ take n (piece ++ more) ++ drop (given + n) bytes
given-at_front given n bytes piece more inside same =
    let left = drop given bytes in
    let long : length piece ≡ n = ap length same ∙ length-take-le n left inside in
    sym (take-append-drop n left)
    ∙ ap (λ front. front ++ drop n left) (sym same ∙ sym (take_at piece more n long))
    ∙ ap (λ back. take n (piece ++ more) ++ back) (drop-drop n given bytes)

pub Keeps-Consumes : (a b c : Option (List ℕ)) (bytes : List ℕ) → Keeps a b → Consumes b c bytes → Consumes a c bytes
Keeps-Consumes None b c bytes kept consumed = tt
Keeps-Consumes (Some xs) None c bytes kept consumed = absurd kept
Keeps-Consumes (Some xs) (Some ys) None bytes kept consumed = absurd consumed
Keeps-Consumes (Some xs) (Some ys) (Some zs) bytes kept consumed = sym kept ∙ consumed

-- a read behind reads that consumed nothing
pub Keeps-ReadConsumes : {E : Type 0} (a b c : Option (List ℕ)) (answer : Result ℕ E) (buffer : List ℕ) → Keeps a b → ReadConsumes b c answer buffer → ReadConsumes a c answer buffer
Keeps-ReadConsumes a b c (Ok n) buffer kept read = (Keeps-Consumes a b c (take n buffer) kept read.0, read.1)
Keeps-ReadConsumes a b c (Err error) buffer kept read = Keeps-trans a b c kept read

-- nothing was read yet
pub no_bytes : (left : Option (List ℕ)) → left ≡ prepend_known [] left
no_bytes None = refl
no_bytes (Some bytes) = refl

pub prepend_two : (one other : List ℕ) (left : Option (List ℕ)) → prepend_known one (prepend_known other left) ≡ prepend_known (one ++ other) left
prepend_two one other None = refl
prepend_two one other (Some bytes) = ap Some (sym (append_assoc one other bytes))

unfoldable pub bytes_left : Option (List ℕ) → List ℕ
bytes_left None = []
bytes_left (Some bytes) = bytes

pub is_input : (all left : Option (List ℕ)) (given : List ℕ) → all ≡ prepend_known given left → IsInput all (given ++ bytes_left left)
unfolding bytes_left
is_input all None given is = subst (λ z. IsInput z (given ++ [])) (sym is) tt
is_input all (Some bytes) given is = subst (λ z. IsInput z (given ++ bytes)) (sym is) refl

pub none_left : (left : Option (List ℕ)) → IsAtEnd left → bytes_left left ≡ []
unfolding bytes_left
none_left None ends = refl
none_left (Some bytes) ends = ends
