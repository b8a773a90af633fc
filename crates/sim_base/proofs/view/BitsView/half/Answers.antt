use Rattle.std.proofs.Common.{◌≡◌, ◌+◌, ◌*◌, ◌/◌, ◌%◌, ◌^◌, ◌<◌, ap, ◌∙◌, arith}
use Rattle.std.proofs.lemmas.Grind.{div_ceil_times}
use Rattle.sim_base.specs.BitValue.{BitValue, number_of_words}
use Rattle.sim_base.specs.Shape.{words_of_width}
use Rattle.sim_base.proofs.Parts.{part_listed}
use Rattle.sim_base.proofs.view.BitsView.half.Goals as goal

pub overflow_mul-place : goal.overflow_mul-place
overflow_mul-place c =
    let room : words_of_width c.args.self.now.width * 32 < c.args.self.now.width + 32 = (div_ceil_times c.args.self.now.width 32 (omega arith)).1 in
    let fits : c.args.self.now.width < 2 ^ 32 = c.width.ensures.fits in
    omega (arith, room, fits, c.requires)

pub returns-clause-listed : goal.returns-clause-listed
returns-clause-listed c =
    let at : 32 * c.args.place ≡ c.args.place * 32 = omega arith in
    part_listed 32 (words_of_width c.args.self.now.width) c.args.self.now.number c.args.place c.field_of.result c.requires
    (c.field_of.ensures ∙ ap (λ n. number_of_words c.self.inside.words.now / 2 ^ n % 2 ^ 32) at ∙ ap (λ (v : BitValue). v.number / 2 ^ (c.args.place * 32) % 2 ^ 32) c.self.view_is)
