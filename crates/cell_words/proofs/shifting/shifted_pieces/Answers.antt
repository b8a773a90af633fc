use Rattle.std.proofs.Common.{◌%◌, ◌^◌, ◌∙◌, ap}
use Rattle.std.proofs.Math.Nat.{mod-eq_of_lt}
use Rattle.signal_words.proofs.Told.{same_put}
use Rattle.cell_words.proofs.shifting.shifted_pieces.Goals as goal

pub returns-in-Some : goal.returns-in-Some
returns-in-Some c =
    same_put _ _ _ _ _ _
    (ap (λ w. c.shifted_number-number.result % 2 ^ w) c.requires.ready.into_width ∙ mod-eq_of_lt c.shifted_number-number.ensures.below ∙ c.shifted_number-number.ensures.value) c.put_low.ensures
