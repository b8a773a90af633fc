-- What a register with ports that set and clear each bit takes.
use Rattle.std.proofs.Common.{◌≡◌, ℕ, true, false, cond, refl}
use Rattle.circuit.specs.Next.{RegisterInputs}
use Rattle.circuit.specs.Valid.{ports_of_kind}
use Rattle.circuit.specs.declared.register.RegKind.{RegKind}
use Rattle.circuit.specs.declared.register.RegKind.TheVariants as kind
use Rattle.state_cells.specs.Sources.{has_source, is_input, sourced_number}
use Rattle.state_cells.specs.declared.source.Source.{Source}
use Rattle.state_cells.specs.declared.source.Source.TheVariants as source

-- it has neither a load nor a reset of all bits
no_whole : (k : RegKind) → (ports_of_kind k).bits ≡ true → ((ports_of_kind k).load ≡ false) × ((ports_of_kind k).reset ≡ false)
no_whole kind.Dff h = cc
no_whole kind.Dffe h = cc
no_whole kind.Adff h = cc
no_whole kind.Adffe h = cc
no_whole kind.Sdff h = cc
no_whole kind.Sdffe h = cc
no_whole kind.Sdffce h = cc
no_whole kind.Aldff h = cc
no_whole kind.Aldffe h = cc
no_whole kind.Dffsr h = (refl, refl)
no_whole kind.Dffsre h = (refl, refl)
no_whole kind.Sr h = (refl, refl)
no_whole kind.Dlatch h = cc
no_whole kind.Adlatch h = cc
no_whole kind.Dlatchsr h = (refl, refl)

pub input_or_own_number : (k : RegKind) (s : Source) (a : RegisterInputs) (own : ℕ) → (ports_of_kind k).bits ≡ true → has_source (ports_of_kind k) s ≡ true → cond (is_input s) a.input own ≡ sourced_number s a own
input_or_own_number k source.Own a own bits there = refl
input_or_own_number k source.Input a own bits there = refl
input_or_own_number k source.Load a own bits there = let no : (ports_of_kind k).load ≡ false = (no_whole k bits).0 in cc
input_or_own_number k source.Value a own bits there = let no : (ports_of_kind k).reset ≡ false = (no_whole k bits).1 in cc
