use Rattle.std.proofs.Common.{◌*◌, ◌/◌, ◌%◌, ◌^◌, sym, ◌∙◌, ap}
use Rattle.sim_base.specs.BitValue.{bit_value}
use Rattle.sim_base.proofs.Parts.{part_at}
use Rattle.memory_cells.proofs.rows.read_place.Goals as goal

pub returns : goal.returns
returns c =
    c.read_row.ensures ∙ ap (λ w. bit_value w (c.args.rows.now.number / 2 ^ (c.args.place * c.args.mem.now.width) % 2 ^ w)) c.requires.row
    ∙ ap (bit_value c.args.mem.now.width) (sym (part_at c.args.mem.now.width c.args.mem.now.size c.args.rows.now.number c.args.place c.requires.there))
