use Rattle.std.proofs.Common.{◌≡◌, ◌%◌, ◌^◌, ◌<◌, sym, ◌∙◌, ap, subst}
use Rattle.std.proofs.Math.Nat.{mod-eq_of_lt}
use Rattle.sim_base.specs.BitValue.{BitValue}
use Rattle.circuit.specs.Signal.{sig_number}
use Rattle.sim_base.specs.Values.{width_at}
use Rattle.signal_words.specs.Values.{digits_in}
use Rattle.signal_words.proofs.Told.{same_put}
use Rattle.cell_wide.proofs.select.copy_whole.Goals as goal

pub returns-in-Some : goal.returns-in-Some
returns-in-Some c =
    let w = width_at c.args.into.now c.args.out in
    let word = c.in-Some.word in
    let number : word ≡ sig_number (digits_in c.args.nets.now) c.args.sig.now = ap (λ (v : BitValue). v.number) c.in-Some.ensures.value in
    let lt : word < 2 ^ w = subst (λ k. word < 2 ^ k) c.width-width.ensures.value c.in-Some.ensures.below in
    same_put c.args.out word (sig_number (digits_in c.args.nets.now) c.args.sig.now % 2 ^ w) c.args.into.now c.put_word.new.self c.put_word.result (sym (mod-eq_of_lt lt) ∙ ap (λ n. n % 2 ^ w) number) c.put_word.ensures
