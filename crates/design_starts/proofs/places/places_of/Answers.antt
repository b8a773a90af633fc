use Rattle.std.proofs.Common.{◌≡◌, ℕ, ◌+◌, ◌<◌, List, ◌++◌, ◌∷◌, [], length, sym, ◌∙◌, ap, arith, inl, inr}
use Rattle.std.specs.Prelude.{slice_index}
use Rattle.std.proofs.lemmas.Bool.{cases_eq}
use Rattle.driver_check.specs.Numbers.{before, width_of}
use Rattle.driver_check.proofs.Places.{index_kept, index_last, length_pushed, read}
use Rattle.driver_check.proofs.Numbered.{before_next, before_zero}
use Rattle.design_starts.proofs.places.places_of.Goals as goal

pub loop-net-init : goal.loop-net-init
loop-net-init c = record {
  long = ap length c.new-firsts.ensures.items;
  first = λ n lt. absurd (omega (arith, lt));
  total = sym (before_zero width_of c.args.nets.now);
}

pub loop-net-preserved : goal.loop-net-preserved
loop-net-preserved c =
    let nets = c.args.nets.now in
    let firsts = c.loop-net.firsts.items in
    let i = c.loop-net.net-index in
    let next = before_next width_of nets i c.net-item.result (read nets i c.net-item.result (omega arith) c.net-item.is) in
    let items : c.push.new.self.items ≡ firsts ++ c.loop-net.bits ∷ [] = c.in_ok-push.ensures.items in
    record {
      long = length_pushed firsts c.push.new.self.items c.loop-net.bits items ∙ ap (λ (n : ℕ). n + 1) c.loop-net.invariant.long;
      first = λ n lt. ap (λ (xs : List ℕ). slice_index xs n) items ∙ elim (cases_eq n i) [
        | inl e ↦
            index_last firsts c.loop-net.bits n (e ∙ sym c.loop-net.invariant.long) ∙ c.loop-net.invariant.total ∙ ap (before width_of nets) (sym e)
        | inr ne ↦
            (let low : n < i = omega (arith, lt, ne) in
            index_kept firsts c.loop-net.bits n (omega (arith, low, c.loop-net.invariant.long)) ∙ c.loop-net.invariant.first n low)
      ];
      total = ap (λ (n : ℕ). n + c.net-item.result.width) c.loop-net.invariant.total ∙ sym next;
    }
