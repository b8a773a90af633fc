use Rattle.std.proofs.Common.{◌≡◌, option_copied, take}
use Rattle.rtlil_tree.specs.Attributes.{attribute_value}
use Rattle.rtlil_tree.proofs.attribute.attribute_value.Given as goal

abbrev pub invariant-loop-attribute : goal.invariant-loop-attribute
invariant-loop-attribute l = option_copied l.found ≡ attribute_value l.name (take l.attribute-index l.attributes)
