-- A tree with no marks.
use Rattle.std.proofs.Common.{◌≡◌, ℕ, ◌+◌, ◌-◌, ◌*◌, ◌^◌, ◌<◌, ◌≤◌, length, get_or, drop, replicate, sym, ◌∙◌, ap, subst, arith, inl, inr}
use Rattle.std.proofs.lemmas.Bool.{cases_lt}
use Rattle.std.proofs.lemmas.List.{length-replicate, get_or-replicate, get_or_past, drop-replicate}
use Rattle.std.proofs.lemmas.Nat.{pow_pos}
use Rattle.std.proofs.lemmas.Nat.Bits.{bit_at-zero}
use Rattle.std.specs.Int.{bit_at}
use Rattle.sim_base.specs.BitValue.{number_of_words}
use Rattle.sim_base.specs.Values.{words_of}
use Rattle.sim_base.proofs.Words.{number_of_zeros, fit_zeros}
use Rattle.dirty_set.specs.Tree.{IsTree, first_place}
use Rattle.dirty_set.proofs.Summed.{none_is}

zero_at : (n k : ℕ) → get_or (replicate {A = ℕ} n 0) k 0 ≡ 0
zero_at n k = elim (cases_lt k n) [
  | inl a ↦ get_or-replicate {A = ℕ} n k 0 0 a
  | inr b ↦ (let l : length (replicate {A = ℕ} n 0) ≡ n = length-replicate {A = ℕ} n 0 in get_or_past (replicate {A = ℕ} n 0) k 0 (omega (arith, l, b)))
]

pub zeros_number : (first n : ℕ) → number_of_words (drop first (replicate n 0)) ≡ 0
zeros_number first n = ap number_of_words (drop-replicate first n 0) ∙ number_of_zeros (n - first)

pub zeros_tree : (size first depth leaves : ℕ) → leaves ≡ words_of size → first ≡ first_place depth → first < 2 ^ 32 → leaves ≤ 63 * first + 1 → IsTree size first depth (replicate (first + leaves) 0)
zeros_tree size first depth leaves e f few le =
    let l : length (replicate {A = ℕ} (first + leaves) 0) ≡ first + leaves = length-replicate {A = ℕ} (first + leaves) 0 in
    record {
      leaves = f;
      few = few;
      room = l ∙ ap (λ n. first + n) e;
      joined = omega (arith, l, le);
      fit = fit_zeros (first + leaves);
      summed = λ p j lt low ne. ap (λ x. bit_at x j) (zero_at (first + leaves) p) ∙ bit_at-zero j ∙ sym (none_is (get_or (replicate {A = ℕ} (first + leaves) 0) (64 * p + 1 + j) 0) (zero_at (first + leaves) (64 * p + 1 + j)));
      below = subst (λ n. n < 2 ^ size) (sym (zeros_number first (first + leaves))) (pow_pos size);
    }
