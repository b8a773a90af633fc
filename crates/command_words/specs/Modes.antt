-- The modes, and what each asks for.
use Rattle.std.specs.Prelude.{ℕ, List, [], ◌∷◌, Bool, true, not, Option, option_map, find, codes, bytes_eq}
use Rattle.command_words.specs.declared.command.Mode.{Mode}
use Rattle.command_words.specs.declared.command.Mode.TheVariants as mode
use Rattle.command_words.specs.declared.modes.ModeLine.{ModeLine}
use Rattle.command_words.specs.declared.modes.Need.{Need}
use Rattle.command_words.specs.declared.modes.Need.TheVariants.{Needed, Allowed, Excluded}

-- whether a word that is given, or is not, is as the mode says
abbrev pub meets : Need → Bool → Bool
meets Needed given = given
meets Allowed given = true
meets Excluded given = not given

-- what a mode says of NUMBER, `--design`, `--stimulus` and `--top`
abbrev pub asks : Mode → Need → Need → Need → Need → ModeLine
asks m number design stimulus top = record { mode = m; number = number; design = design; stimulus = stimulus; top = top }

-- each mode by its name:         NUMBER   --design --stimulus --top
abbrev pub table : List (List ℕ × ModeLine)
table =
    (codes "trace", asks mode.Trace Excluded Needed Needed Allowed)
    ∷ (codes "solo", asks mode.Solo Excluded Needed Needed Allowed)
    ∷ (codes "demo", asks mode.Demo Needed Excluded Excluded Excluded)
    ∷ []

abbrev pub line_named : List ℕ → Option ModeLine
line_named word = option_map (λ e. e.1) (find (λ e. bytes_eq word e.0) table)
