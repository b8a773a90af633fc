use Rattle.std.proofs.Common.{◌==◌, ap, take, ◌∙◌}
use Rattle.std.specs.List.{position_or_len}
use Rattle.rtlil_lexer.proofs.Zeros.{first_zero, no_zero}
use Rattle.rtlil_lexer.proofs.sound.sound_length.Goals as goal

pub returns-in-Some-clause-value : goal.returns-in-Some-clause-value
returns-in-Some-clause-value c =
    first_zero (take c.utf8_length.result c.args.bytes.now) c.in-Some.at c.in-Some.ensures
    ∙ ap (λ n. position_or_len (λ b. b == 0) (take n c.args.bytes.now)) c.utf8_length.ensures.value

pub returns-in-None-clause-value : goal.returns-in-None-clause-value
returns-in-None-clause-value c =
    no_zero (take c.utf8_length.result c.args.bytes.now) c.in-None.ensures
    ∙ ap (λ n. position_or_len (λ b. b == 0) (take n c.args.bytes.now)) c.utf8_length.ensures.value
