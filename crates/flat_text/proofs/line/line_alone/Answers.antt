use Rattle.std.proofs.Common.{◌≡◌, [], None, refl, sym}
use Rattle.flat_text.specs.declared.line.Keyword.{Keyword}
use Rattle.flat_text.specs.declared.line.Keyword.TheVariants as keyword
use Rattle.flat_text.specs.Lines.{keyed_line, autoidx_of, attribute_of, module_line_of, wire_of, cell_of, parameter_of, connection_of}
use Rattle.flat_text.proofs.line.line_alone.Goals as goal

none_alone : (k : Keyword) → (k ≡ keyword.End → ⊥) → keyed_line k [] ≡ None
unfolding autoidx_of attribute_of module_line_of wire_of cell_of parameter_of connection_of
none_alone keyword.Autoidx ne = refl
none_alone keyword.Attribute ne = refl
none_alone keyword.Module ne = refl
none_alone keyword.Wire ne = refl
none_alone keyword.Cell ne = refl
none_alone keyword.Parameter ne = refl
none_alone keyword.Connect ne = refl
none_alone keyword.End ne = absurd (ne refl)

pub returns-in_default : goal.returns-in_default
returns-in_default c = sym (none_alone c.args.keyword c.in_default.not-End)
