use Rattle.std.proofs.Common.{◌/◌, ◌%◌, ◌^◌, ◌∙◌, ap}
use Rattle.signal_words.specs.Values.{digits_in}
use Rattle.signal_words.proofs.Single.{one_number}
use Rattle.signal_words.proofs.signal.sig_field.Goals as goal

pub returns-then-n-width : goal.returns-then-n-width
returns-then-n-width c =
    c.piece_field.ensures
    ∙ ap (λ n. n / 2 ^ c.args.at % 2 ^ c.args.n) (one_number (digits_in c.args.nets.now) c.args.sig.now c.piece-item.result c.in-len1.len_at_least c.in-len1.len_below c.piece-item.is)
