use Rattle.std.proofs.Common.{◌≡◌, length, refl, ◌∙◌, ap, arith}
use Rattle.std.specs.Prelude.{slice_get}
use Rattle.std.specs.Int.{div_ceil}
use Rattle.sim_base.specs.BitValue.{BitValue}
use Rattle.sim_base.specs.Shape.{words_of_width}
use Rattle.circuit.specs.Shown.{stored_row}
use Rattle.run_core.proofs.Writing.{rows_fit, rows_length, rows_more, rows_none}
use Rattle.run_core.proofs.words.put_rows.Goals as goal

pub loop-row-init : goal.loop-row-init
loop-row-init c = record {
  width = refl;
  long = refl;
  at = omega arith;
  words = λ s standing. rows_none c.args.words.now c.args.place c.args.room.now.width (λ row. stored_row (slice_get s.state.mems c.args.mem) row);
}

pub row-requires : goal.row-requires
row-requires c = record { there = (c.requires.there.0, c.requires.there.1, omega (arith, c.loop-row-test.true, c.requires.there.2), c.loop-row.invariant.width ∙ c.requires.there.3) }

pub put_value-requires : goal.put_value-requires
put_value-requires c =
    rows_fit c.args.words.now c.loop-row.words c.args.place c.args.size c.loop-row.row c.loop-row.at c.args.room.now.width c.view.result.width c.requires.room c.loop-row-test.true c.loop-row.invariant.long c.loop-row.invariant.at
    (ap (λ (v : BitValue). v.width) c.view.ensures ∙ c.row.ensures.width ∙ c.loop-row.invariant.width)

pub loop-row-preserved : goal.loop-row-preserved
loop-row-preserved c =
    let wide : c.view.result.width ≡ c.args.room.now.width = ap (λ (v : BitValue). v.width) c.view.ensures ∙ c.row.ensures.width ∙ c.loop-row.invariant.width in
    let step : c.div_ceil.result ≡ words_of_width c.args.room.now.width = c.div_ceil.ensures ∙ ap (λ w. div_ceil w 32) (c.width.ensures.value ∙ c.row.ensures.width ∙ c.loop-row.invariant.width) in
    record {
      width = c.row.ensures.width ∙ c.loop-row.invariant.width;
      long = ap length c.put_value.ensures
          ∙ rows_length c.args.words.now c.loop-row.words c.args.place c.args.size c.loop-row.row c.loop-row.at c.args.room.now.width c.view.result c.requires.room c.loop-row-test.true c.loop-row.invariant.long c.loop-row.invariant.at wide;
      at = omega (arith, c.loop-row.invariant.at, step);
      words = λ s standing.
          rows_more c.args.words.now c.loop-row.words c.put_value.new.words c.args.place c.args.size c.loop-row.row c.loop-row.at c.args.room.now.width c.view.result (λ row. stored_row (slice_get s.state.mems c.args.mem) row)
          c.requires.room c.loop-row-test.true c.loop-row.invariant.at (c.view.ensures ∙ c.row.ensures.row s standing ∙ ap (λ w. let v : BitValue = record { width = w; number = stored_row (slice_get s.state.mems c.args.mem) c.loop-row.row } in v) c.loop-row.invariant.width)
          (c.loop-row.invariant.words s standing) c.put_value.ensures;
    }
