-- Tests over the views of a list, and what they say of the words of a line.
use Rattle.std.proofs.Common.{◌≡◌, ℕ, List, [], ◌∷◌, map, length, Bool, true, false, refl, sym, ◌∙◌, ap, ◌||◌, Some, None}
use Rattle.std.specs.Prelude.{◌==◌}
use Rattle.std.specs.List.{list_any, slice_split}
use Rattle.std.proofs.lemmas.Bool.{cond-true, cond-false}
use Rattle.flat_stimulus.specs.Words.{words_of}

pub list_any-map : {X Y : Type 0} (p : Y → Bool) (f : X → Y) (xs : List X) → list_any p (map f xs) ≡ list_any (λ x. p (f x)) xs
list_any-map p f [] = refl
list_any-map p f (x ∷ xs) = ap (λ b. p (f x) || b) (list_any-map p f xs)

pub words_none : (line : List ℕ) (words : List (List ℕ)) → words ≡ slice_split (λ c. c == 32) line → list_any (λ word. length word == 0) words ≡ true → words_of line ≡ None
words_none line words e t =
    cond-true (list_any (λ word. length word == 0) (slice_split (λ c. c == 32) line)) None (Some (slice_split (λ c. c == 32) line)) (ap (list_any (λ word. length word == 0)) (sym e) ∙ t)

pub words_some : (line : List ℕ) (words : List (List ℕ)) → words ≡ slice_split (λ c. c == 32) line → list_any (λ word. length word == 0) words ≡ false → words_of line ≡ Some words
words_some line words e t =
    cond-false (list_any (λ word. length word == 0) (slice_split (λ c. c == 32) line)) None (Some (slice_split (λ c. c == 32) line)) (ap (list_any (λ word. length word == 0)) (sym e) ∙ t)
    ∙ ap (λ (ws : List (List ℕ)). Some ws) (sym e)
