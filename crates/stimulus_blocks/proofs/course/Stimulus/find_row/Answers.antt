use Rattle.std.proofs.Common.{◌≡◌, ◌+◌, ◌-◌, ◌*◌, ◌/◌, ◌%◌, refl, ap, ◌∙◌, arith}
use Rattle.stimulus_blocks.proofs.Here.{holds, stands_at}
use Rattle.stimulus_blocks.proofs.course.Stimulus.find_row.Goals as goal

pub nonzero_div-repeat : goal.nonzero_div-repeat
nonzero_div-repeat c = let h = holds _ _ _ _ _ _ _ _ _ c.self.view_is c.self.invariant c.find-block.ensures c.index-placed.ensures in omega (arith, h.block.some, c.len-rows.ensures)

pub nonzero_rem-result : goal.nonzero_rem-result
nonzero_rem-result c = let h = holds _ _ _ _ _ _ _ _ _ c.self.view_is c.self.invariant c.find-block.ensures c.index-placed.ensures in omega (arith, h.block.some, c.len-rows.ensures)

pub returns-clause-stands : goal.returns-clause-stands
returns-clause-stands c =
    let h = holds _ _ _ _ _ _ _ _ _ c.self.view_is c.self.invariant c.find-block.ensures c.index-placed.ensures in
    let before : c.from.result * c.femtoseconds.result ≡ (c.args.k - c.index-placed.result.now.first) / c.len-rows.result * c.index-placed.result.now.block.period = ap (λ n. n * c.femtoseconds.result) c.from.ensures ∙ ap (λ n. (c.args.k - c.index-placed.result.now.first) / c.len-rows.result * n) c.femtoseconds.ensures.value in
    let e = c.femtoseconds-2.ensures.value in
    stands_at c.args.self.now c.find-block.result c.args.k c.index-placed.result.now c.find-block.ensures h c.len-rows.result ((c.args.k - c.index-placed.result.now.first) / c.len-rows.result) ((c.args.k - c.index-placed.result.now.first) % c.len-rows.result) (c.femtoseconds-2.result + c.from.result * c.femtoseconds.result) c.len-rows.ensures refl refl (omega arith)
