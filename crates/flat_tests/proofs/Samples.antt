-- Rows of bits are inputs of a flat circuit.
use Rattle.std.proofs.Common.{◌≡◌, ℕ, suc, zero, ◌<◌, ◌≤◌, ◌^◌, List, [], ◌∷◌, length, get_or, sym, ◌∙◌, arith}
use Rattle.std.specs.Prelude.{slice_index}
use Rattle.std.proofs.Math.Nat.{pow-le-pow_right}
use Rattle.circuit.specs.declared.netlist.Circuit.{Circuit}
use Rattle.flat_design.specs.Flat.{IsFlat}
use Rattle.flat_rounds.specs.Fits.{AreInputs}

two_bits : (xs : List ℕ) → length xs ≡ 2 → get_or xs 0 0 < 2 → get_or xs 1 0 < 2 → (n : ℕ) → slice_index xs n < 2
two_bits [] l a b n = absurd (omega (arith, l))
two_bits (x ∷ []) l a b n = absurd (omega (arith, l))
two_bits (x ∷ y ∷ []) l a b zero = a
two_bits (x ∷ y ∷ []) l a b (suc zero) = b
two_bits (x ∷ y ∷ []) l a b (suc (suc n)) = omega arith
two_bits (x ∷ y ∷ z ∷ xs) l a b n = absurd (omega (arith, l))

-- two bits are inputs of a flat circuit of two inputs
pub bits_are_inputs : (c : Circuit) (xs : List ℕ) → IsFlat c → length c.inputs ≡ 2 → length xs ≡ 2 → get_or xs 0 0 < 2 → get_or xs 1 0 < 2 → AreInputs c xs
bits_are_inputs c xs flat two long a b = record {
  long = long ∙ sym two;
  below = λ n x e.
      (let lt : slice_index xs n < 2 = two_bits xs long a b n in
      let wide : 1 ≤ x.width = (flat.nets (slice_index c.inputs n) x e).0 in
      let le : 2 ^ 1 ≤ 2 ^ x.width = pow-le-pow_right {n = 2} (omega arith) {i = 1} {j = x.width} wide in
      omega (arith, lt, le));
}
