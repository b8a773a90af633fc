use Rattle.std.proofs.Common.{◌≡◌, ◌≤◌, ◌+◌, ◌*◌, ◌/◌, ◌%◌, ◌^◌, get_or, sym, ◌∙◌, ap, arith}
use Rattle.sim_base.specs.BitValue.{bit_value}
use Rattle.memory_cells.proofs.Parts.{SeenAt, seen_at, row_inside}
use Rattle.memory_cells.proofs.rows.Rows.row.Goals as goal

pub overflow_mul-i : goal.overflow_mul-i
overflow_mul-i c =
    let seen : SeenAt c.args.i c.self.inside.size c.self.inside.width c.self.inside.rows.number c.args.self.now = seen_at _ _ _ _ _ c.self.view_is c.requires.there in
    let fits : c.args.i * c.self.inside.width + c.self.inside.width ≤ c.self.inside.rows.width = row_inside c.args.i c.self.inside.size c.self.inside.width c.self.inside.rows.width seen.there c.self.invariant.0 in
    omega (arith, fits, c.width.ensures.fits)

pub read_row-requires : goal.read_row-requires
read_row-requires c =
    let seen : SeenAt c.args.i c.self.inside.size c.self.inside.width c.self.inside.rows.number c.args.self.now = seen_at _ _ _ _ _ c.self.view_is c.requires.there in
    let fits : c.args.i * c.self.inside.width + c.self.inside.width ≤ c.self.inside.rows.width = row_inside c.args.i c.self.inside.size c.self.inside.width c.self.inside.rows.width seen.there c.self.invariant.0 in
    record { inside = omega (arith, fits, seen.wide, c.requires.width) }

pub returns : goal.returns
returns c =
    let seen : SeenAt c.args.i c.self.inside.size c.self.inside.width c.self.inside.rows.number c.args.self.now = seen_at _ _ _ _ _ c.self.view_is c.requires.there in
    let wide : c.args.into.now.width ≡ c.self.inside.width = c.requires.width ∙ seen.wide in
    c.read_row.ensures ∙ ap (λ w. bit_value w (c.self.inside.rows.number / 2 ^ (c.args.i * c.self.inside.width) % 2 ^ w)) wide ∙ ap (bit_value c.self.inside.width) (sym seen.row) ∙ ap (λ w. bit_value w (get_or c.args.self.now.rows c.args.i 0)) (sym seen.wide)
