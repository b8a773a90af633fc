-- What the words of the command line ask for.
use Rattle.std.specs.Prelude.{ℕ, List, [], ◌∷◌, Bool, false, ◌&&◌, nat_le, Option, Some, None, option_map, option_and_then, is_some, codes, bytes_eq, if◌then◌else◌}
use Rattle.sim_base.specs.Digits.{digits_number}
use Rattle.clap.specs.Words.{Kinds, Row, fault_of, first_of, matches_of}
use Rattle.command_words.specs.declared.command.Asked.{Asked}
use Rattle.command_words.specs.declared.command.Asked.TheVariants as asked
use Rattle.command_words.specs.declared.command.Command.{Command}
use Rattle.command_words.specs.declared.command.Mode.{Mode}
use Rattle.command_words.specs.declared.modes.ModeLine.{ModeLine}
use Rattle.command_words.specs.Line.{line}
use Rattle.command_words.specs.Modes.{line_named, meets}

-- ---- NUMBER

abbrev pub in_range : ℕ → Option ℕ
in_range n = if nat_le 1 n && nat_le n 1000 then Some n else None

-- 1 to 7 digits, which stand for a number from 1 to 1000
abbrev pub number_of : List ℕ → Option ℕ
number_of text = option_and_then in_range (digits_number 7 text)

-- where none is given, 0 stands for it
abbrev pub number_given : Option (List ℕ) → Option ℕ
number_given None = Some 0
number_given (Some text) = number_of text

-- ---- a mode with what is given to it

abbrev pub is_given : List ℕ → List Row → Bool
is_given id rows = is_some (first_of id rows)

-- all is given that the mode needs, and nothing that it may not have
abbrev pub is_met : ModeLine → List Row → Bool
is_met l rows =
    meets l.number (is_given (codes "NUMBER") rows)
    && (meets l.design (is_given (codes "design") rows)
    && (meets l.stimulus (is_given (codes "stimulus") rows)
    && meets l.top (is_given (codes "top") rows)))

abbrev pub command_of : Mode → List Row → ℕ → Command
command_of m rows number = record {
  mode = m;
  number = number;
  design = first_of (codes "design") rows;
  stimulus = first_of (codes "stimulus") rows;
  top = first_of (codes "top") rows;
  spool = None;
  listen = codes "127.0.0.1:9000";
  clients = 1;
}

abbrev pub command_on : Option ModeLine → List Row → Option Command
command_on None rows = None
command_on (Some l) rows = if is_met l rows then option_map (command_of l.mode rows) (number_given (first_of (codes "NUMBER") rows)) else None

abbrev pub mode_line : List Row → Option ModeLine
mode_line rows = option_and_then line_named (first_of (codes "MODE") rows)

abbrev pub command_in : List Row → Option Command
command_in rows = command_on (mode_line rows) rows

-- ---- all words

-- what is given counts where the line has no fault
abbrev pub command_by : Kinds → List Row → Option Command
command_by [] rows = command_in rows
command_by (k ∷ ks) rows = None

unfoldable pub command_asked : List (List ℕ) → Option Command
command_asked words = command_by (fault_of line words) (matches_of line words)

-- the words are this one
abbrev pub is_alone : List ℕ → List (List ℕ) → Bool
is_alone word (w ∷ []) = bytes_eq w word
is_alone word _ = false

abbrev pub asked_by : List (List ℕ) → Option Asked
asked_by words =
    if is_alone (codes "--help") words then Some asked.Help
    else if is_alone (codes "--version") words then Some asked.Version
    else option_map asked.Command (command_asked words)
