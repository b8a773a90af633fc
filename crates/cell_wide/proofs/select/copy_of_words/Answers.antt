use Rattle.std.proofs.Common.{◌≡◌, ◌%◌, ◌^◌, ◌<◌, sym, ◌∙◌, ap, subst}
use Rattle.std.proofs.Math.Nat.{mod-eq_of_lt}
use Rattle.sim_base.specs.BitValue.{BitValue}
use Rattle.circuit.specs.Signal.{sig_number}
use Rattle.sim_base.specs.Values.{width_at}
use Rattle.signal_words.specs.Values.{digits_in}
use Rattle.signal_words.proofs.Told.{same_put}
use Rattle.cell_wide.proofs.select.copy_of_words.Goals as goal

pub returns-in-Some : goal.returns-in-Some
returns-in-Some c =
    let w = (width_at c.args.into.now c.args.out) in
    let value = c.in-Some.value in
    let number : value.number ≡ sig_number (digits_in c.args.nets.now) c.args.sig.now = ap (λ (v : BitValue). v.number) c.in-Some.ensures.value in
    let width : value.width ≡ w = ap (λ (v : BitValue). v.width) c.in-Some.ensures.value ∙ c.requires.width in
    let lt : value.number < 2 ^ w = subst (λ k. value.number < 2 ^ k) width c.width.ensures.below in
    same_put c.args.out value.number (sig_number (digits_in c.args.nets.now) c.args.sig.now % 2 ^ w) c.args.into.now c.write_unary.new.into c.write_unary.result (sym (mod-eq_of_lt lt) ∙ ap (λ n. n % 2 ^ w) number) c.write_unary.ensures
