-- Texts that are written piece by piece.
use Rattle.std.proofs.Common.{◌≡◌, ℕ, List, ◌++◌, Result, Ok, Err, OnOk, ◌∙◌, ap, append_assoc}

-- where an answer is Ok, what follows from what holds then holds
pub on_ok : {A E P Q : Type 0} → (answer : Result A E) → (P → Q) → OnOk answer P → OnOk answer Q
on_ok (Ok value) follows holds = follows holds
on_ok (Err error) follows holds = tt

pub pieces_2 : (before a b : List ℕ) {one two : List ℕ} → one ≡ before ++ a → two ≡ one ++ b → two ≡ before ++ (a ++ b)
pieces_2 before a b first second = second ∙ ap (λ text. text ++ b) first ∙ append_assoc before a b

pub pieces_3 : (before a b c : List ℕ) {one two three : List ℕ} → one ≡ before ++ a → two ≡ one ++ b → three ≡ two ++ c → three ≡ before ++ (a ++ b ++ c)
pieces_3 before a b c first second third = pieces_2 before (a ++ b) c (pieces_2 before a b first second) third

pub pieces_5 : (before a b c d e : List ℕ) {one two three four five : List ℕ} → one ≡ before ++ a → two ≡ one ++ b → three ≡ two ++ c → four ≡ three ++ d → five ≡ four ++ e
    → five ≡ before ++ (a ++ b ++ c ++ d ++ e)
pieces_5 before a b c d e first second third fourth fifth =
    pieces_3 before (a ++ b ++ c) d e (pieces_3 before a b c first second third) fourth fifth

pub pieces_7 : (before a b c d e f g : List ℕ) {one two three four five six seven : List ℕ} → one ≡ before ++ a → two ≡ one ++ b → three ≡ two ++ c → four ≡ three ++ d → five ≡ four ++ e
    → six ≡ five ++ f → seven ≡ six ++ g → seven ≡ before ++ (a ++ b ++ c ++ d ++ e ++ f ++ g)
pieces_7 before a b c d e f g first second third fourth fifth sixth seventh =
    pieces_3 before (a ++ b ++ c ++ d ++ e) f g (pieces_5 before a b c d e first second third fourth fifth) sixth seventh
