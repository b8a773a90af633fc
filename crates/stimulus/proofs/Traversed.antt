-- Lists that are read one after another, where each can be.
use Rattle.std.specs.Borrow.{Bor}
use Rattle.std.proofs.Common.{◌≡◌, ◌≢◌, ℕ, suc, ◌+◌, ◌<◌, ◌≤◌, List, [], ◌∷◌, ◌++◌, length, get_or, map, drop, refl, ◌∙◌, ap, append_assoc, Option, Some, None}
use Rattle.std.specs.Prelude.{nat_eq, option_and_then, position}
use Rattle.std.specs.Option.{option_map}
use Rattle.std.proofs.lemmas.List.{drop_more, drop_all, append-nil}
use Rattle.circuit.specs.declared.netlist.Circuit.{Circuit}
use Rattle.stimulus_text.specs.Numbers.{number_within}
use Rattle.stimulus.specs.Inputs.{columns_of, net_named, nets_named}
use Rattle.stimulus.specs.Steps.{values_of}

-- one more in front of what is left
front_onto : {X : Type 0} (xs : List X) (x : X) (rest : Option (List X)) → option_map (λ more. xs ++ more) (option_map (λ more. x ∷ more) rest) ≡ option_map (λ more. (xs ++ x ∷ []) ++ more) rest
front_onto xs x None = refl
front_onto xs x (Some more) = ap (λ ys. Some ys) (simp append_assoc)

pub front_none : {X : Type 0} (rest : Option (List X)) → option_map (λ more. [] ++ more) rest ≡ rest
front_none None = refl
front_none (Some more) = refl

-- ---- columns

columns_cons : (nets : List ℕ) (input : ℕ) (inputs : List ℕ) (n : ℕ) → position (nat_eq input) nets ≡ Some n → columns_of nets (input ∷ inputs) ≡ option_map (λ ns. n ∷ ns) (columns_of nets inputs)
unfolding columns_of
columns_cons nets input inputs n e = ap (option_and_then (λ n. option_map (λ ns. n ∷ ns) (columns_of nets inputs))) e

columns_fail : (nets : List ℕ) (input : ℕ) (inputs : List ℕ) → position (nat_eq input) nets ≡ None → columns_of nets (input ∷ inputs) ≡ None
unfolding columns_of
columns_fail nets input inputs e = ap (option_and_then (λ n. option_map (λ ns. n ∷ ns) (columns_of nets inputs))) e

columns_none : (nets : List ℕ) → columns_of nets [] ≡ Some []
unfolding columns_of
columns_none nets = refl

module _ (nets inputs done : List ℕ) (i : ℕ) (invariant : columns_of nets inputs ≡ option_map (λ more. done ++ more) (columns_of nets (drop i inputs))) where
  pub columns_step : i < length inputs → (n : ℕ) → position (nat_eq (get_or inputs i 0)) nets ≡ Some n → columns_of nets inputs ≡ option_map (λ more. (done ++ n ∷ []) ++ more) (columns_of nets (drop (i + 1) inputs))
  columns_step inside n e =
      invariant ∙ ap (λ rest. option_map (λ more. done ++ more) (columns_of nets rest)) (drop_more inputs i 0 inside)
      ∙ ap (option_map (λ more. done ++ more)) (columns_cons nets (get_or inputs i 0) (drop (i + 1) inputs) n e)
      ∙ front_onto done n (columns_of nets (drop (i + 1) inputs))

  pub columns_stop : i < length inputs → position (nat_eq (get_or inputs i 0)) nets ≡ None → columns_of nets inputs ≡ None
  columns_stop inside e =
      invariant ∙ ap (λ rest. option_map (λ more. done ++ more) (columns_of nets rest)) (drop_more inputs i 0 inside)
      ∙ ap (option_map (λ more. done ++ more)) (columns_fail nets (get_or inputs i 0) (drop (i + 1) inputs) e)

  pub columns_end : length inputs ≤ i → columns_of nets inputs ≡ Some done
  columns_end over =
      invariant ∙ ap (λ rest. option_map (λ more. done ++ more) (columns_of nets rest)) (drop_all i inputs over)
      ∙ ap (option_map (λ more. done ++ more)) (columns_none nets) ∙ ap (λ xs. Some xs) (append-nil done)

-- ---- nets

nets_cons : (c : Circuit) (word : List ℕ) (words : List (List ℕ)) (n : ℕ) → net_named c word ≡ Some n → nets_named c (word ∷ words) ≡ option_map (λ ns. n ∷ ns) (nets_named c words)
unfolding nets_named
nets_cons c word words n e = ap (option_and_then (λ n. option_map (λ ns. n ∷ ns) (nets_named c words))) e

nets_fail : (c : Circuit) (word : List ℕ) (words : List (List ℕ)) → net_named c word ≡ None → nets_named c (word ∷ words) ≡ None
unfolding nets_named
nets_fail c word words e = ap (option_and_then (λ n. option_map (λ ns. n ∷ ns) (nets_named c words))) e

nets_none : (c : Circuit) → nets_named c [] ≡ Some []
unfolding nets_named
nets_none c = refl

module _ (c : Circuit) (ws : List (Bor (List ℕ))) (done : List ℕ) (i : ℕ) (w : Bor (List ℕ)) (invariant : nets_named c (map (λ x. x.now) ws) ≡ option_map (λ more. done ++ more) (nets_named c (map (λ x. x.now) (drop i ws)))) where
  pub nets_step : i < length ws → (n : ℕ) → net_named c (get_or ws i w).now ≡ Some n → nets_named c (map (λ x. x.now) ws) ≡ option_map (λ more. (done ++ n ∷ []) ++ more) (nets_named c (map (λ x. x.now) (drop (i + 1) ws)))
  nets_step inside n e =
      invariant ∙ ap (λ rest. option_map (λ more. done ++ more) (nets_named c (map (λ x. x.now) rest))) (drop_more ws i w inside)
      ∙ ap (option_map (λ more. done ++ more)) (nets_cons c (get_or ws i w).now (map (λ x. x.now) (drop (i + 1) ws)) n e)
      ∙ front_onto done n (nets_named c (map (λ x. x.now) (drop (i + 1) ws)))

  pub nets_stop : i < length ws → net_named c (get_or ws i w).now ≡ None → nets_named c (map (λ x. x.now) ws) ≡ None
  nets_stop inside e =
      invariant ∙ ap (λ rest. option_map (λ more. done ++ more) (nets_named c (map (λ x. x.now) rest))) (drop_more ws i w inside)
      ∙ ap (option_map (λ more. done ++ more)) (nets_fail c (get_or ws i w).now (map (λ x. x.now) (drop (i + 1) ws)) e)

  pub nets_end : length ws ≤ i → nets_named c (map (λ x. x.now) ws) ≡ Some done
  nets_end over =
      invariant ∙ ap (λ rest. option_map (λ more. done ++ more) (nets_named c (map (λ x. x.now) rest))) (drop_all i ws over)
      ∙ ap (option_map (λ more. done ++ more)) (nets_none c) ∙ ap (λ xs. Some xs) (append-nil done)

-- ---- values

values_cons : (w : ℕ) (widths : List ℕ) (word : List ℕ) (words : List (List ℕ)) (n : ℕ) → number_within w word ≡ Some n → values_of (w ∷ widths) (word ∷ words) ≡ option_map (λ ns. n ∷ ns) (values_of widths words)
unfolding values_of
values_cons w widths word words n e = ap (option_and_then (λ n. option_map (λ ns. n ∷ ns) (values_of widths words))) e

values_fail : (w : ℕ) (widths : List ℕ) (word : List ℕ) (words : List (List ℕ)) → number_within w word ≡ None → values_of (w ∷ widths) (word ∷ words) ≡ None
unfolding values_of
values_fail w widths word words e = ap (option_and_then (λ n. option_map (λ ns. n ∷ ns) (values_of widths words))) e

values_none : values_of [] [] ≡ Some []
unfolding values_of
values_none = refl

lost : {X : Type 0} (f : X → ℕ) (more : Option (List ℕ)) (o : Option X) → more ≡ None → option_and_then (λ x. option_map (λ xs. f x ∷ xs) more) o ≡ None
lost f more None e = refl
lost f more (Some x) e = ap (option_map (λ xs. f x ∷ xs)) e

pub values_unequal : (ws : List ℕ) (vs : List (List ℕ)) → length ws ≢ length vs → values_of ws vs ≡ None
unfolding values_of
values_unequal [] [] ne = absurd (ne refl)
values_unequal [] (v ∷ vs) ne = refl
values_unequal (w ∷ ws) [] ne = refl
values_unequal (w ∷ ws) (v ∷ vs) ne = lost {X = ℕ} (λ n. n) (values_of ws vs) (number_within w v) (values_unequal ws vs (λ e. ne (ap suc e)))

module _ (widths : List ℕ) (ws : List (Bor (List ℕ))) (done : List ℕ) (i : ℕ) (w : Bor (List ℕ)) (invariant : values_of widths (map (λ x. x.now) ws) ≡ option_map (λ more. done ++ more) (values_of (drop i widths) (map (λ x. x.now) (drop i ws)))) where
  unrolled : i < length widths → i < length ws → values_of widths (map (λ x. x.now) ws) ≡ option_map (λ more. done ++ more) (values_of (get_or widths i 0 ∷ drop (i + 1) widths) ((get_or ws i w).now ∷ map (λ x. x.now) (drop (i + 1) ws)))
  unrolled a b =
      invariant
      ∙ ap (λ xs. option_map (λ more. done ++ more) (values_of xs (map (λ x. x.now) (drop i ws)))) (drop_more widths i 0 a)
      ∙ ap (λ xs. option_map (λ more. done ++ more) (values_of (get_or widths i 0 ∷ drop (i + 1) widths) (map (λ x. x.now) xs))) (drop_more ws i w b)

  pub values_step : i < length widths → i < length ws → (n : ℕ) → number_within (get_or widths i 0) (get_or ws i w).now ≡ Some n → values_of widths (map (λ x. x.now) ws) ≡ option_map (λ more. (done ++ n ∷ []) ++ more) (values_of (drop (i + 1) widths) (map (λ x. x.now) (drop (i + 1) ws)))
  values_step a b n e =
      unrolled a b ∙ ap (option_map (λ more. done ++ more)) (values_cons (get_or widths i 0) (drop (i + 1) widths) (get_or ws i w).now (map (λ x. x.now) (drop (i + 1) ws)) n e)
      ∙ front_onto done n (values_of (drop (i + 1) widths) (map (λ x. x.now) (drop (i + 1) ws)))

  pub values_stop : i < length widths → i < length ws → number_within (get_or widths i 0) (get_or ws i w).now ≡ None → values_of widths (map (λ x. x.now) ws) ≡ None
  values_stop a b e = unrolled a b ∙ ap (option_map (λ more. done ++ more)) (values_fail (get_or widths i 0) (drop (i + 1) widths) (get_or ws i w).now (map (λ x. x.now) (drop (i + 1) ws)) e)

  pub values_end : length widths ≤ i → length ws ≤ i → values_of widths (map (λ x. x.now) ws) ≡ Some done
  values_end a b =
      invariant
      ∙ ap (λ xs. option_map (λ more. done ++ more) (values_of xs (map (λ x. x.now) (drop i ws)))) (drop_all i widths a)
      ∙ ap (λ xs. option_map (λ more. done ++ more) (values_of [] (map (λ x. x.now) xs))) (drop_all i ws b)
      ∙ ap (option_map (λ more. done ++ more)) values_none ∙ ap (λ xs. Some xs) (append-nil done)
