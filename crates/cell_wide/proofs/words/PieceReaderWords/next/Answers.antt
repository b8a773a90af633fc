use Rattle.std.proofs.Common.{◌+◌, ◌*◌, ◌/◌, ◌^◌, sym, ◌∙◌, ap}
use Rattle.sim_base.specs.BitValue.{BitValue}
use Rattle.cell_wide.specs.Words.{low_of_number}
use Rattle.cell_wide.proofs.Digits.{number_passes}
use Rattle.cell_wide.proofs.words.PieceReaderWords.next.Goals as goal

pub returns-clause-rest : goal.returns-clause-rest
returns-clause-rest c w =
    number_passes c.args.self.now.number c.args.n w
    ∙ sym (ap (λ (v : BitValue). low_of_number v.number w * 2 ^ c.args.n + c.take.result) c.take.ensures.rest ∙ ap (λ x. low_of_number (c.args.self.now.number / 2 ^ c.args.n) w * 2 ^ c.args.n + x) c.take.ensures.word)
