use Rattle.std.proofs.Common.{◌≡◌, ◌*◌, ◌^◌, ◌<◌, ℕ, List, not, sym, ◌∙◌, ap, subst}
use Rattle.std.specs.Int.{bit_at}
use Rattle.sim_base.specs.BitValue.{digit_after_copy}
use Rattle.memory_cells.proofs.SetPart.{parts_set}
use Rattle.memory_cells.proofs.Told.{told_parts}
use Rattle.memory_cells.proofs.renew.put_place.Goals as goal

pub returns-clause-rows : goal.returns-clause-rows
returns-clause-rows c =
    let w = c.args.mem.now.width in
    let at = c.args.place * w in
    let wide : c.width-width.result ≡ w = c.width-width.ensures.value ∙ c.requires.row in
    let P : ℕ → Type 0 = λ n. c.args.row.now.number < 2 ^ n in
    let Q : ℕ → Type 0 = λ n. (j : ℕ) → bit_at c.copy.new.self.number j ≡ digit_after_copy at c.args.row.now.number 0 n c.args.rows.now.number j in
    parts_set c.args.mem.now.size w c.args.rows.now.number c.copy.new.self.number c.args.place c.args.row.now.number c.requires.there (subst P c.requires.row c.width-width.ensures.below) (subst Q wide c.copy.ensures.bits)

pub returns-clause-changed : goal.returns-clause-changed
returns-clause-changed c =
    let m = c.args.mem.now in
    let old : c.args.rows.now.number < 2 ^ (m.size * m.width) = subst (λ k. c.args.rows.now.number < 2 ^ k) c.requires.rows c.width.ensures.below in
    let new : c.copy.new.self.number < 2 ^ (m.size * m.width) = subst (λ k. c.copy.new.self.number < 2 ^ k) (c.copy.ensures.width ∙ c.requires.rows) c.copy.ensures.below in
    c.copy.ensures.changed ∙ ap not (told_parts m.width m.size c.args.rows.now.number c.copy.new.self.number old new)
