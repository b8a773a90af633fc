-- Texts of one stage after another.
use Rattle.std.proofs.Common.{◌≡◌, ◌+◌, ◌++◌, ◌∙◌, ℕ, List, sym, ap, add-one}
use Rattle.std.proofs.lemmas.List.{append-nil, append_assoc}
use Rattle.demo_design.specs.DemoText.{each_stage}

pub no_stage : (text : ℕ → List ℕ) (front : List ℕ) → front ≡ front ++ each_stage text 0
unfolding each_stage
no_stage text front = sym (append-nil front)

next_stage : (text : ℕ → List ℕ) (stage : ℕ) → each_stage text stage ++ text stage ≡ each_stage text (stage + 1)
unfolding each_stage
next_stage text stage = sym (ap (each_stage text) (add-one stage))

-- a stage's text in two parts, put behind those before it
pub one_more : (text : ℕ → List ℕ) (stage : ℕ) (front now mid after a b : List ℕ) → text stage ≡ a ++ b → now ≡ front ++ each_stage text stage → mid ≡ now ++ a → after ≡ mid ++ b → after ≡ front ++ each_stage text (stage + 1)
one_more text stage front now mid after a b whole before first second =
    second
    ∙ ap (λ z. z ++ b) first
    ∙ append_assoc now a b
    ∙ ap (λ z. now ++ z) (sym whole)
    ∙ ap (λ z. z ++ text stage) before
    ∙ append_assoc front (each_stage text stage) (text stage)
    ∙ ap (λ z. front ++ z) (next_stage text stage)
