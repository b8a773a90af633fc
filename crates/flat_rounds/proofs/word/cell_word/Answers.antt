use Rattle.std.proofs.Common.{◌≡◌, ◌+◌, ◌%◌, ◌^◌, sym, ◌∙◌, ap, bit_and}
use Rattle.std.proofs.lemmas.Nat.{and_mask}
use Rattle.circuit.specs.Signal.{digits_of_nets, sig_number}
use Rattle.flat_rounds.proofs.Words.{low_of_low}
use Rattle.flat_rounds.proofs.Reading.{output_add}
use Rattle.flat_rounds.proofs.word.cell_word.Goals as goal

pub returns-clause-value : goal.returns-clause-value
returns-clause-value c =
    let a : c.sig_word-a.result ≡ sig_number (digits_of_nets c.args.nets.now) c.args.cell.now.a = c.sig_word-a.ensures.value ∙ ap (sig_number (digits_of_nets c.args.nets.now)) c.as_slice.ensures in
    let b : c.sig_word-b.result ≡ sig_number (digits_of_nets c.args.nets.now) c.args.cell.now.b = c.sig_word-b.ensures.value ∙ ap (sig_number (digits_of_nets c.args.nets.now)) c.as_slice-2.ensures in
    ap (bit_and ((c.sig_word-a.result + c.sig_word-b.result) % 2 ^ 64)) c.mask.ensures ∙ and_mask ((c.sig_word-a.result + c.sig_word-b.result) % 2 ^ 64) c.args.cell.now.width
    ∙ low_of_low (c.sig_word-a.result + c.sig_word-b.result) c.args.cell.now.width c.requires.width
    ∙ ap (λ n. (n + c.sig_word-b.result) % 2 ^ c.args.cell.now.width) a ∙ ap (λ n. (sig_number (digits_of_nets c.args.nets.now) c.args.cell.now.a + n) % 2 ^ c.args.cell.now.width) b
    ∙ sym (output_add c.args.cell.now (digits_of_nets c.args.nets.now) c.requires.op c.requires.a_unsigned c.requires.b_unsigned)
