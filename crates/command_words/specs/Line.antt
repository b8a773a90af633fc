-- The line that `clap` reads.
use Rattle.std.specs.Prelude.{List, ℕ, codes, Some, Bool, true, false}
use Rattle.clap.specs.Words.{App, Rule, new_app, new_rule, with_rule}
use Rattle.clap.specs.Simple.{on_top}

abbrev pub option : List ℕ → Rule
option name = record (new_rule name) { long = Some name }

abbrev pub positional : List ℕ → Bool → Rule
positional name required = record (new_rule name) { required = required }

-- a line that knows no word yet, not even `--help`
abbrev pub bare : App
bare = on_top (λ s. record s { no_binary_name = true; disable_help_flag = true }) (new_app (codes "cxxsim"))

-- `MODE [NUMBER] [--design F] [--stimulus F] [--top NAME]`
abbrev pub line : App
line = with_rule (with_rule (with_rule (with_rule (with_rule bare
    (positional (codes "MODE") true)) (positional (codes "NUMBER") false))
    (option (codes "design"))) (option (codes "stimulus"))) (option (codes "top"))
