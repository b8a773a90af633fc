use Rattle.std.proofs.Common.{arith, inl, inr}
use Rattle.driver_check.specs.Numbers.{bit_number}
use Rattle.driver_check.proofs.Numbered.{bit_below}
use Rattle.driver_check.proofs.Fitting.{drives_inside}
use Rattle.driver_check.proofs.Freedom.{all_free, bit_in_graph}
use Rattle.driver_check.proofs.checking.without_loop.Goals as goal

pub returns : goal.returns
returns c =
    let circuit = c.args.circuit.now in
    let s = c.args.sorting in
    let is = c.requires.sorting in (
      is,
      record {
        once = is.once;
        inside = drives_inside circuit c.requires.valid;
        acyclic = all_free circuit c.requires.valid s.parts.nodes.items s.parts.ports.items is.parts s.graph is.graph s.search.marks.items s.search.order.items is.sorted (λ x b.
            elim (is.sorted.either (bit_number circuit.nets x) (bit_in_graph circuit c.requires.valid s.parts.nodes.items s.parts.ports.items is.parts s.graph is.graph x b)) [
              | inl done ↦ done
              | inr stuck ↦ absurd (let low = bit_below circuit.nets x b in c.first_stuck-first.ensures.first.below (bit_number circuit.nets x) (omega (arith, low, is.numbers.total, c.if-first-sorting.false)) stuck)
            ]);
      },
    )
