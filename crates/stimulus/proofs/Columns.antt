-- Each column that an input has is there, and has the input's width.
use Rattle.std.proofs.Common.{◌≡◌, ℕ, zero, suc, ◌<◌, List, [], ◌∷◌, length, get_or, map, refl, sym, ◌∙◌, ap, subst, arith, Option, Some, None}
use Rattle.std.specs.Prelude.{option_and_then, nat_eq, position}
use Rattle.std.specs.Option.{option_map}
use Rattle.std.proofs.lemmas.Bool.{eqb-true}
use Rattle.std.proofs.lemmas.List.Quantifiers.{position-Some}
use Rattle.stimulus.specs.Inputs.{columns_of}

and_then_some : {X Y : Type 0} (f : X → Option Y) (o : Option X) (y : Y) → option_and_then f o ≡ Some y → (x : X) × (o ≡ Some x) × (f x ≡ Some y)
and_then_some f None y e = cc e
and_then_some f (Some x) y e = (x, refl, e)

map_some : {X Y : Type 0} (f : X → Y) (o : Option X) (y : Y) → option_map f o ≡ Some y → (x : X) × (o ≡ Some x) × (f x ≡ y)
map_some f None y e = cc e
map_some f (Some x) y e = (x, refl, (let s : f x ≡ y = cc e in s))

pub record AreColumns (nets inputs columns : List ℕ) : Type 0 where
  pub there : (n : ℕ) → n < length columns → get_or columns n 0 < length nets
  pub named : map (λ column. get_or nets column 0) columns ≡ inputs

there_front : (nets columns : List ℕ) (j : ℕ) → j < length nets → ((n : ℕ) → n < length columns → get_or columns n 0 < length nets) → (n : ℕ) → n < length (j ∷ columns) → get_or (j ∷ columns) n 0 < length nets
there_front nets columns j lt rest zero l = lt
there_front nets columns j lt rest (suc n) l = rest n (omega arith)

pub columns_good : (nets inputs columns : List ℕ) → columns_of nets inputs ≡ Some columns → AreColumns nets inputs columns
unfolding columns_of
columns_good nets [] columns e =
    let z : [] ≡ columns = cc e in
    subst (λ (l : List ℕ). AreColumns nets [] l) z (record { there = λ n lt. absurd (omega arith); named = refl })
columns_good nets (input ∷ inputs) columns e =
    let a = and_then_some (λ n. option_map (λ ns. n ∷ ns) (columns_of nets inputs)) (position (nat_eq input) nets) columns e in
    let b = map_some (λ ns. a.0 ∷ ns) (columns_of nets inputs) columns a.2 in
    let ih = columns_good nets inputs b.0 b.1 in
    let p = position-Some (nat_eq input) nets a.0 0 a.1 in
    let here : get_or nets a.0 0 ≡ input = sym (eqb-true input (get_or nets a.0 0) p.1) in
    subst (λ (l : List ℕ). AreColumns nets (input ∷ inputs) l) b.2
    (record {
      there = there_front nets b.0 a.0 p.0 ih.there;
      named = ap (λ n. n ∷ map (λ column. get_or nets column 0) b.0) here ∙ ap (λ ns. input ∷ ns) ih.named;
    })
