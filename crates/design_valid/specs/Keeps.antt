-- What a part of a design keeps.
use Rattle.std.specs.Prelude.{◌≡◌, Ok}
use Rattle.design_parts.specs.Parts.{Made, Walk, run}

-- what holds before a part that is run without a fault holds behind it
abbrev pub Keeps : (Made → Type 0) → Walk → Type 0
Keeps P w = (before behind : Made) → run w before ≡ Ok behind → P before → P behind
