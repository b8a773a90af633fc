use Rattle.std.proofs.Common.{◌≡◌, List, Option, Some, None, refl, sym, ap, ◌∙◌, arith}
use Rattle.rtlil_lexer.specs.declared.token.Token.{Token}
use Rattle.rtlil_lexer.specs.declared.fault.TextFault.{TextFault}
use Rattle.rtlil_lexer.specs.Tokens.{start, sound_length}
use Rattle.rtlil_lexer.proofs.Readings.{outcome, reads_lexed}
use Rattle.rtlil_lexer.proofs.Before.{same_before}
use Rattle.rtlil_lexer.proofs.laws.law_of_one_reading.Goals as goal

same_end : (tokens others : List Token) (end other : Option TextFault) → outcome tokens end ≡ outcome others other → end ≡ other
same_end tokens others None None e = refl
same_end tokens others None (Some g) e = absurd (grind arith)
same_end tokens others (Some f) None e = absurd (grind arith)
same_end tokens others (Some f) (Some g) e = let same : f ≡ g = grind arith in ap Some same

pub returns : goal.returns
returns c = λ text tokens others end other reads again. (
  same_before start (sound_length text) text tokens others end other reads again,
  same_end tokens others end other (sym (reads_lexed start (sound_length text) text tokens end reads) ∙ reads_lexed start (sound_length text) text others other again),
)
