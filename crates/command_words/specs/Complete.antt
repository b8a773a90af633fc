-- Commands that have all that their mode needs.
use Rattle.std.specs.Prelude.{ℕ, ◌≤◌, IsSome}
use Rattle.command_words.specs.declared.command.Command.{Command}
use Rattle.command_words.specs.declared.command.Mode.{Mode}
use Rattle.command_words.specs.declared.command.Mode.TheVariants as mode

abbrev pub HasFiles : Command → Type 0
HasFiles c = IsSome c.design × IsSome c.stimulus

abbrev pub HasNeeded : Mode → Command → Type 0
HasNeeded mode.Trace c = HasFiles c
HasNeeded mode.Solo c = HasFiles c
HasNeeded mode.Demo c = (1 ≤ c.number) × (c.number ≤ 1000)

abbrev pub IsComplete : Command → Type 0
IsComplete c = HasNeeded c.mode c
