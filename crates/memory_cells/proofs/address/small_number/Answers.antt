use Rattle.std.proofs.Common.{◌≡◌, ℕ, ◌+◌, ◌/◌, ◌%◌, ◌^◌, sym, ◌∙◌, ap, subst, arith}
use Rattle.sim_base.specs.BitValue.{BitValue}
use Rattle.circuit.specs.Signal.{sig_number, sig_width}
use Rattle.signal_words.specs.Values.{digits_in}
use Rattle.signal_words.proofs.Signals.{are_bits}
use Rattle.memory_cells.proofs.HighDigits.{HighPart, first_part, next_part, not_below, no_more, small_none, small_some}
use Rattle.memory_cells.proofs.address.small_number.Goals as goal

pub loop-at-init : goal.loop-at-init
loop-at-init c =
    let number = sig_number (digits_in c.args.nets.now) c.args.sig.now in
    let whole : c.new-reader.result.number ≡ number = ap (λ (v : BitValue). v.number) c.new-reader.ensures in
    let left : c.take-word.new.self.number ≡ number / 2 ^ 64 = ap (λ (v : BitValue). v.number) c.take-word.ensures.rest ∙ ap (λ n. n / 2 ^ 64) whole in
    let word : c.take-word.result ≡ number % 2 ^ 64 = c.take-word.ensures.word ∙ ap (λ n. n % 2 ^ 64) whole in
    record { near = omega (arith, c.if-width-le64.false); high = (let P : ℕ → Type 0 = λ n. HighPart number n 64 c.take-word.result in let Q : ℕ → Type 0 = λ n. HighPart number (number / 2 ^ 64) 64 n in subst P (sym left) (subst Q (sym word) (first_part number))) }

pub loop-at-preserved : goal.loop-at-preserved
loop-at-preserved c =
    let number = sig_number (digits_in c.args.nets.now) c.args.sig.now in
    let left : c.take.new.self.number ≡ c.loop-at.reader.number / 2 ^ 64 = ap (λ (v : BitValue). v.number) c.take.ensures.rest in
    let none : c.loop-at.reader.number % 2 ^ 64 ≡ 0 = sym c.take.ensures.word ∙ c.if-take-ne0.false in
    let P : ℕ → Type 0 = λ n. HighPart number n (c.loop-at.at + 64) c.take-word.result in
    record { near = omega (arith, c.loop-at-test.true); high = subst P (sym left) (next_part number c.loop-at.reader.number c.loop-at.at c.take-word.result c.loop-at.invariant.high none) }

pub returns-then-take-ne0 : goal.returns-then-take-ne0
returns-then-take-ne0 c =
    sym (small_none (sig_number (digits_in c.args.nets.now) c.args.sig.now) (not_below _ c.loop-at.reader.number c.loop-at.at c.take-word.result c.loop-at.invariant.high (λ e. c.if-take-ne0.true (c.take.ensures.word ∙ e))))

pub returns : goal.returns
returns c =
    let number = sig_number (digits_in c.args.nets.now) c.args.sig.now in
    let e : number ≡ c.take-word.result = no_more number c.loop-at.reader.number c.loop-at.at c.take-word.result (sig_width c.args.sig.now) c.loop-at.invariant.high (c.sig_width-width.ensures.below (digits_in c.args.nets.now) (are_bits c.args.nets.now)) (omega (arith, c.loop-at-test.false, c.sig_width-width.ensures.value)) in
    sym (small_some number c.take-word.result e c.loop-at.invariant.high.below)
