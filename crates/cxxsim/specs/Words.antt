-- The words of the command line.
use Rattle.std.specs.Prelude.{ℕ, List, [], ◌∷◌, ◌&&◌, Option, Some, None, if◌then◌else◌, bytes_eq, codes}
use Rattle.cxxsim.specs.declared.command.Command.{Command}
use Rattle.cxxsim.specs.declared.command.Mode.{Mode}
use Rattle.cxxsim.specs.declared.command.Mode.TheVariants as mode

abbrev pub mode_named : List ℕ → Option Mode
mode_named word =
    if bytes_eq word (codes "trace") then Some mode.Trace
    else if bytes_eq word (codes "solo") then Some mode.Solo
    else None

-- a mode on the files of a design and of a stimulus; what no word gives has its default
abbrev pub on_files : Mode → List ℕ → List ℕ → Command
on_files m d s = record { mode = m; number = 0; design = Some d; stimulus = Some s; top = None; spool = None; listen = codes "127.0.0.1:9000"; clients = 1 }

abbrev pub command_with : Option Mode → List ℕ → List ℕ → Option Command
command_with None d s = None
command_with (Some m) d s = Some (on_files m d s)

-- the words are a mode, `--design`, a file, `--stimulus` and a file
abbrev pub command_of : List (List ℕ) → Option Command
command_of (m ∷ design ∷ design_name ∷ stimulus ∷ stimulus_name ∷ []) =
    if bytes_eq design (codes "--design") && bytes_eq stimulus (codes "--stimulus")
    then command_with (mode_named m) design_name stimulus_name
    else None
command_of _ = None
