-- The bytes of a number.
use Rattle.std.proofs.Common.{◌≡◌, ℕ, ◌+◌, ◌-◌, ◌*◌, ◌/◌, ◌%◌, ◌^◌, ◌<◌, List, [], ◌∷◌, ◌++◌, add-one, sym, ap, ◌∙◌, arith}
use Rattle.std.proofs.lemmas.Nat.{shr-shr}
use Rattle.design_wires.specs.Texts.{bytes_of}

bytes_suc : (k n : ℕ) → bytes_of (k + 1) n ≡ bytes_of k (n / 2 ^ 8) ++ n % 2 ^ 8 ∷ []
unfolding bytes_of
bytes_suc k n = ap (λ j. bytes_of j n) (add-one k)

-- one more byte, which is the next one below
pub byte_more : (n count done : ℕ) (bytes : List ℕ) (byte : ℕ) (more : List ℕ) → done < count → bytes ≡ bytes_of done (n / 2 ^ (8 * (count - done))) → byte ≡ n / 2 ^ (8 * (count - 1 - done)) % 2 ^ 8
    → more ≡ bytes ++ byte ∷ [] → more ≡ bytes_of (done + 1) (n / 2 ^ (8 * (count - (done + 1))))
byte_more n count done bytes byte more lt is here e =
    let place : 8 * (count - 1 - done) ≡ 8 * (count - (done + 1)) = omega arith in
    let above : 8 * (count - (done + 1)) + 8 ≡ 8 * (count - done) = omega arith in
    let rest = n / 2 ^ (8 * (count - (done + 1))) in
    e ∙ ap (λ b. bytes ++ b ∷ []) (here ∙ ap (λ k. n / 2 ^ k % 2 ^ 8) place)
    ∙ ap (λ bs. bs ++ rest % 2 ^ 8 ∷ []) (is ∙ ap (bytes_of done) (ap (λ k. n / 2 ^ k) (sym above) ∙ sym (shr-shr n (8 * (count - (done + 1))) 8)))
    ∙ sym (bytes_suc done rest)
