-- The first line of a text, and what is left behind it.
use Rattle.std.proofs.Common.{◌≡◌, ◌≢◌, ℕ, zero, suc, ◌+◌, ◌-◌, ◌<◌, List, [], ◌∷◌, length, get_or, take, drop, true, false, cond, refl, sym, ◌∙◌, ap, arith, inl, inr, eqb, ◌&&◌}
use Rattle.std.proofs.lemmas.Bool.{cases_Bool, cond-true, cond-false, eqb-true, eq-eqb, ne_eqb, and_parts, and_left, and_right, and_from}
use Rattle.std.proofs.lemmas.List.{take_all, drop_all, length-drop}
use Rattle.stimulus_text.specs.Lines.{begins_with, lines_of, onto_first, without_return}

return_cons : (c d : ℕ) (ds : List ℕ) → without_return (c ∷ d ∷ ds) ≡ c ∷ without_return (d ∷ ds)
unfolding without_return
return_cons c d ds = cond-false (eqb c 13 && eqb (length (d ∷ ds)) 0) [] (c ∷ without_return (d ∷ ds)) (and_right (eqb c 13) (eqb (length (d ∷ ds)) 0) (ne_eqb (length (d ∷ ds)) 0 (λ e. absurd (omega arith))))

return_one : (c : ℕ) → without_return (c ∷ []) ≡ cond (eqb c 13) [] (c ∷ [])
unfolding without_return
return_one c = elim (cases_Bool (eqb c 13)) [
  | inl e ↦ cond-true (eqb c 13 && true) [] (c ∷ []) (and_from (eqb c 13) true e refl) ∙ sym (cond-true (eqb c 13) [] (c ∷ []) e)
  | inr e ↦ cond-false (eqb c 13 && true) [] (c ∷ []) (and_left (eqb c 13) true e) ∙ sym (cond-false (eqb c 13) [] (c ∷ []) e)
]

return_none : without_return [] ≡ []
unfolding without_return
return_none = refl

pub return_short : (l : List ℕ) → length l ≡ 0 → l ≡ without_return l
return_short [] e = sym return_none
return_short (c ∷ cs) e = absurd (omega arith)

pub return_dropped : (l : List ℕ) (n : ℕ) → length l ≡ n + 1 → get_or l n 0 ≡ 13 → take n l ≡ without_return l
return_dropped [] n e at = absurd (omega arith)
return_dropped (c ∷ []) zero e at = sym (return_one c ∙ cond-true (eqb c 13) [] (c ∷ []) (eq-eqb c 13 at))
return_dropped (c ∷ []) (suc n) e at = absurd (omega arith)
return_dropped (c ∷ d ∷ ds) zero e at = absurd (omega arith)
return_dropped (c ∷ d ∷ ds) (suc n) e at = ap (λ l. c ∷ l) (return_dropped (d ∷ ds) n (omega arith) at) ∙ sym (return_cons c d ds)

pub return_kept : (l : List ℕ) (n : ℕ) → length l ≡ n + 1 → get_or l n 0 ≢ 13 → l ≡ without_return l
return_kept [] n e at = absurd (omega arith)
return_kept (c ∷ []) zero e at = sym (return_one c ∙ cond-false (eqb c 13) [] (c ∷ []) (ne_eqb c 13 at))
return_kept (c ∷ []) (suc n) e at = absurd (omega arith)
return_kept (c ∷ d ∷ ds) zero e at = absurd (omega arith)
return_kept (c ∷ d ∷ ds) (suc n) e at = ap (λ l. c ∷ l) (return_kept (d ∷ ds) n (omega arith) at) ∙ sym (return_cons c d ds)

-- ---- lines

lines_cons : (c : ℕ) (cs : List ℕ) → lines_of (c ∷ cs) ≡ cond (eqb c 10) ([] ∷ lines_of cs) (cond (eqb c 13 && begins_with 10 cs) (lines_of cs) (onto_first c (lines_of cs)))
unfolding lines_of
lines_cons c cs = refl

lines_none : lines_of [] ≡ []
unfolding lines_of
lines_none = refl

pub lines_short : (l : List ℕ) → length l ≡ 0 → lines_of l ≡ []
lines_short [] e = lines_none
lines_short (c ∷ cs) e = absurd (omega arith)

lines_end : (c : ℕ) (cs : List ℕ) → c ≡ 10 → lines_of (c ∷ cs) ≡ [] ∷ lines_of cs
lines_end c cs e = lines_cons c cs ∙ cond-true (eqb c 10) ([] ∷ lines_of cs) (cond (eqb c 13 && begins_with 10 cs) (lines_of cs) (onto_first c (lines_of cs))) (eq-eqb c 10 e)

lines_skip : (c : ℕ) (cs : List ℕ) → c ≢ 10 → (eqb c 13 && begins_with 10 cs) ≡ true → lines_of (c ∷ cs) ≡ lines_of cs
lines_skip c cs ne e =
    lines_cons c cs ∙ cond-false (eqb c 10) ([] ∷ lines_of cs) (cond (eqb c 13 && begins_with 10 cs) (lines_of cs) (onto_first c (lines_of cs))) (ne_eqb c 10 ne)
    ∙ cond-true (eqb c 13 && begins_with 10 cs) (lines_of cs) (onto_first c (lines_of cs)) e

lines_onto : (c : ℕ) (cs : List ℕ) → c ≢ 10 → (eqb c 13 && begins_with 10 cs) ≡ false → lines_of (c ∷ cs) ≡ onto_first c (lines_of cs)
lines_onto c cs ne e =
    lines_cons c cs ∙ cond-false (eqb c 10) ([] ∷ lines_of cs) (cond (eqb c 13 && begins_with 10 cs) (lines_of cs) (onto_first c (lines_of cs))) (ne_eqb c 10 ne)
    ∙ cond-false (eqb c 13 && begins_with 10 cs) (lines_of cs) (onto_first c (lines_of cs)) e

-- a carriage return that stands directly before a line feed
returned : (c : ℕ) (cs : List ℕ) (i : ℕ) → (eqb c 13 && begins_with 10 cs) ≡ true → ((k : ℕ) → k < i → get_or cs k 0 ≢ 10) → without_return (c ∷ take i cs) ≡ without_return (take i cs)
returned c [] i e before = absurd (let x : eqb c 13 ≡ true × (false ≡ true) = and_parts (eqb c 13) false e in cc x.1)
returned c (d ∷ ds) zero e before = return_one c ∙ cond-true (eqb c 13) [] (c ∷ []) (and_parts (eqb c 13) (eqb d 10) e).0 ∙ sym return_none
returned c (d ∷ ds) (suc i) e before = absurd (before 0 (omega arith) (eqb-true d 10 (and_parts (eqb c 13) (eqb d 10) e).1))

-- another byte
other : (c : ℕ) (cs : List ℕ) (i : ℕ) → i < length cs → get_or cs i 0 ≡ 10 → (eqb c 13 && begins_with 10 cs) ≡ false → without_return (c ∷ take i cs) ≡ c ∷ without_return (take i cs)
other c [] i inside at e = absurd (omega arith)
other c (d ∷ ds) zero inside at e =
    return_one c
    ∙ cond-false (eqb c 13) [] (c ∷ []) (elim (cases_Bool (eqb c 13)) [
      | inl t ↦ absurd (let x : true ≡ false = sym (and_from (eqb c 13) (eqb d 10) t (eq-eqb d 10 at)) ∙ e in cc x)
      | inr f ↦ f
    ])
    ∙ ap (λ l. c ∷ l) (sym return_none)
other c (d ∷ ds) (suc i) inside at e = return_cons c d (take i ds)

-- the first line feed ends the first line
pub first_line : (cs : List ℕ) (i : ℕ) → i < length cs → get_or cs i 0 ≡ 10 → ((k : ℕ) → k < i → get_or cs k 0 ≢ 10) → lines_of cs ≡ without_return (take i cs) ∷ lines_of (drop (i + 1) cs)
first_line [] i inside at before = absurd (omega arith)
first_line (c ∷ cs) zero inside at before = lines_end c cs at ∙ ap (λ l. l ∷ lines_of cs) (sym return_none)
first_line (c ∷ cs) (suc i) inside at before =
    let rest = first_line cs i (omega arith) at (λ k lt. before (suc k) (omega arith)) in
    let ne : c ≢ 10 = before 0 (omega arith) in
    let behind : drop (i + 1) cs ≡ drop (suc i + 1) (c ∷ cs) = ap (λ n. drop n (c ∷ cs)) (let n : suc (i + 1) ≡ suc i + 1 = omega arith in n) in
    elim (cases_Bool (eqb c 13 && begins_with 10 cs)) [
      | inl e ↦
          lines_skip c cs ne e ∙ rest
          ∙ ap (λ l. l ∷ lines_of (drop (i + 1) cs)) (sym (returned c cs i e (λ k lt. before (suc k) (omega arith))))
          ∙ ap (λ d. without_return (c ∷ take i cs) ∷ lines_of d) behind
      | inr e ↦
          lines_onto c cs ne e ∙ ap (onto_first c) rest
          ∙ ap (λ l. l ∷ lines_of (drop (i + 1) cs)) (sym (other c cs i (omega arith) at e))
          ∙ ap (λ d. without_return (c ∷ take i cs) ∷ lines_of d) behind
    ]

-- the text's end ends a line without a line feed
pub last_line : (cs : List ℕ) → 0 < length cs → ((k : ℕ) → k < length cs → get_or cs k 0 ≢ 10) → lines_of cs ≡ cs ∷ []
last_line [] some none = absurd (omega arith)
last_line (c ∷ []) some none =
    lines_onto c [] (none 0 (omega arith)) (and_right (eqb c 13) false refl) ∙ ap (onto_first c) lines_none
last_line (c ∷ d ∷ ds) some none =
    lines_onto c (d ∷ ds) (none 0 (omega arith)) (and_right (eqb c 13) (eqb d 10) (ne_eqb d 10 (none 1 (omega arith))))
    ∙ ap (onto_first c) (last_line (d ∷ ds) (omega arith) (λ k lt. none (suc k) (omega arith)))

-- what a slice from a place on to the end is
pub behind : (l : List ℕ) (n : ℕ) → take (length l - n) (drop n l) ≡ drop n l
behind l n = take_all (length l - n) (drop n l) (omega (arith, length-drop n l))

pub behind_all : (l : List ℕ) → lines_of (drop (length l) l) ≡ []
behind_all l = ap lines_of (drop_all (length l) l (omega arith)) ∙ lines_none
