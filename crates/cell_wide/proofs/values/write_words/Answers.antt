use Rattle.std.proofs.Common.{◌∙◌, ap, sym}
use Rattle.sim_base.specs.BitValue.{BitValue}
use Rattle.sim_base.proofs.Written.{put_same}
use Rattle.signal_words.proofs.Told.{eq_from}
use Rattle.cell_wide.specs.Words.{digitwise}
use Rattle.cell_wide.proofs.values.write_words.Goals as goal

pub returns-then-is_written : goal.returns-then-is_written
returns-then-is_written c =
    put_same c.args.into.now c.args.out _
    (sym (ap (λ (v : BitValue). v.number) c.view.ensures)
    ∙ eq_from _ _ (sym c.is_written.ensures ∙ c.if-is_written.true)
    ∙ ap (λ (v : BitValue). digitwise c.args.op v.width c.args.one.now.number c.args.other.now.number) c.view.ensures)
