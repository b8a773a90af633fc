-- Lists of chunks in blocks of 256.
use Rattle.std.proofs.Common.{◌≡◌, ℕ, suc, ◌+◌, ◌-◌, ◌*◌, ◌/◌, ◌%◌, ◌<◌, ◌≤◌, List, [], ◌∷◌, ◌++◌, length, take, get_or, refl, sym, ap, ◌∙◌, arith}
use Rattle.std.specs.List.{flat_map, All}
use Rattle.std.proofs.lemmas.List.{length-append, length-take, get_or_append_left, get_or-append_right}
use Rattle.std.proofs.lemmas.List.Concat.{get_or-flat_map}
use Rattle.std.proofs.lemmas.List.Elements.{All-take}

abbrev Words : Type 0
Words = List ℕ

pub flat_length : (bs : List (List Words)) → All (λ b. length b ≡ 256) bs → length (flat_map (λ b. b) bs) ≡ 256 * length bs
flat_length [] h = refl
flat_length (b ∷ bs) h =
    let one : length b ≡ 256 = h 0 b (omega arith) in
    let rest = flat_length bs (λ k d l. h (suc k) d (omega arith)) in
    omega (arith, length-append b (flat_map (λ b. b) bs))

pub in_block : (bs : List (List Words)) (rest : List Words) (n : ℕ) → All (λ b. length b ≡ 256) bs → n / 256 < length bs
    → (get_or (flat_map (λ b. b) bs ++ rest) n [] ≡ get_or (get_or bs (n / 256) []) (n % 256) []) × (n < length (flat_map (λ b. b) bs))
in_block bs rest n h within =
    let i = n / 256 in
    let front : length (flat_map (λ b. b) (take i bs)) ≡ 256 * i =
    flat_length (take i bs) (All-take (λ b. length b ≡ 256) i bs h) ∙ ap (λ k. 256 * k) (let long = length-take i bs in omega (arith, long)) in
    let long : length (get_or bs i []) ≡ 256 = h i [] within in
    let at : length (flat_map (λ b. b) (take i bs)) + n % 256 ≡ n = omega (arith, front) in
    let all = flat_length bs h in
    let inside : n < length (flat_map (λ b. b) bs) = omega (arith, all) in
    let short : n % 256 < length (get_or bs i []) = omega (arith, long) in (
      get_or_append_left (flat_map (λ b. b) bs) rest [] n inside ∙ ap (λ k. get_or (flat_map (λ b. b) bs) k []) (sym at)
          ∙ get_or-flat_map (λ b. b) bs i (n % 256) [] [] within short,
      inside,
    )

pub behind_blocks : (bs : List (List Words)) (rest : List Words) (n : ℕ) → All (λ b. length b ≡ 256) bs → length bs ≤ n / 256
    → (get_or (flat_map (λ b. b) bs ++ rest) n [] ≡ get_or rest (n - length bs * 256) []) × (length (flat_map (λ b. b) bs ++ rest) ≡ length bs * 256 + length rest)
behind_blocks bs rest n h behind =
    let all = flat_length bs h in
    let long : length (flat_map (λ b. b) bs) ≡ length bs * 256 = omega (arith, all) in (
      get_or-append_right (flat_map (λ b. b) bs) rest (length bs * 256) n [] long (omega arith),
      length-append (flat_map (λ b. b) bs) rest ∙ ap (λ k. k + length rest) long,
    )
