-- The shape of a recording: the widths of its slots.
use Rattle.std.specs.Prelude.{ℕ, List, sum_by}
use Rattle.std.specs.Int.{div_ceil}

-- how many words of 32 bits a slot of this width takes
abbrev pub words_of_width : ℕ → ℕ
words_of_width width = div_ceil width 32

-- how many words slots of these widths take
abbrev pub words_of_widths : List ℕ → ℕ
words_of_widths widths = sum_by words_of_width widths
