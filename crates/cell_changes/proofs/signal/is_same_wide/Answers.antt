use Rattle.std.proofs.Common.{◌≡◌, ℕ, ◌-◌, ◌/◌, ◌%◌, ◌^◌, sym, ◌∙◌, ap, subst}
use Rattle.sim_base.specs.BitValue.{BitValue}
use Rattle.circuit.specs.Signal.{sig_number}
use Rattle.signal_words.specs.Values.{digits_in}
use Rattle.cell_changes.proofs.Same.{AreCompared, word_more}
use Rattle.cell_changes.proofs.signal.is_same_wide.Goals as goal

pub loop-left-preserved : goal.loop-left-preserved
loop-left-preserved c =
    let m = sig_number (digits_in c.args.before.now) c.args.sig.now in
    let n = sig_number (digits_in c.args.now.now) c.args.sig.now in
    let x = c.loop-left.old.number in
    let y = c.loop-left.new.number in
    let words : x % 2 ^ 64 ≡ y % 2 ^ 64 = sym c.take.ensures.word ∙ c.if-take.false ∙ c.take-in-loop-left.ensures.word in
    subst (λ (k : ℕ). AreCompared m n k c.take.new.self.number c.take-in-loop-left.new.self.number) (sym c.saturating_sub-left.ensures)
    (subst (λ (k : ℕ). AreCompared m n (c.loop-left.left - 64) k c.take-in-loop-left.new.self.number) (sym (ap (λ (v : BitValue). v.number) c.take.ensures.rest))
    (subst (λ (k : ℕ). AreCompared m n (c.loop-left.left - 64) (x / 2 ^ 64) k) (sym (ap (λ (v : BitValue). v.number) c.take-in-loop-left.ensures.rest))
    (word_more m n c.loop-left.left x y c.loop-left.invariant words)))
