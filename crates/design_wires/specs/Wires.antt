-- The wires of an instance: their checks, their nets and what is shown of them.
use Rattle.std.specs.Prelude.{ℕ, ◌+◌, ◌-◌, ◌^◌, ◌==◌, List, [], ◌∷◌, ◌++◌, length, drop, Bool, true, false, not, ◌&&◌, ◌||◌, nat_le, nat_lt, Option, Some, None, codes, sum_by, if◌then◌else◌}
use Rattle.std.specs.Option.{is_some}
use Rattle.circuit.specs.Valid.{widest}
use Rattle.circuit.specs.declared.fault.DesignKind.TheVariants as kind
use Rattle.circuit.specs.declared.item.Item.{Item}
use Rattle.circuit.specs.declared.item.ItemKind.TheVariants as item
use Rattle.circuit.specs.declared.netlist.Net.{Net}
use Rattle.rtlil_tree.specs.Attributes.{attribute_value}
use Rattle.rtlil_tree.specs.declared.module.Statement.{Statement}
use Rattle.rtlil_tree.specs.declared.module.Statement.TheVariants as statement
use Rattle.rtlil_tree.specs.declared.module.Wire.{Wire}
use Rattle.rtlil_tree.specs.declared.module.WireOptions.{WireOptions}
use Rattle.rtlil_tree.specs.declared.sig.Const.{Const}
use Rattle.rtlil_signals.specs.Signals.{Scope, net_named}
use Rattle.rtlil_signals.specs.declared.scope.NamedNet.{NamedNet}
use Rattle.design_parts.specs.Parts.{Check, Made, Walk, at, check, give, guard, none_made, nothing, ◌>>◌}
use Rattle.design_wires.specs.Texts.{source_text}
use Rattle.design_wires.specs.Places.{InstancePlace, ShownPlace}

-- ---- limits

abbrev pub most_nets : ℕ
most_nets = 1000000

abbrev pub most_net_bits : ℕ
most_net_bits = 16777216

abbrev pub longest_name : ℕ
longest_name = 2 ^ 32 - 1

-- ---- names

-- a wire as it is found by its name
abbrev pub named_net : ℕ → Wire → NamedNet
named_net n w = record { net = n; width = w.options.width }

-- what a statement names: a wire, whose net has this number
abbrev pub named : ℕ → Statement → Scope
named n (statement.Wire w) = (w.name, named_net n w) ∷ []
named n _ = []

-- what statements name, where the nets are numbered from a first one
abbrev pub scope_of : ℕ → List Statement → Scope
scope_of first [] = []
scope_of first (s ∷ ss) = named first s ++ scope_of (first + length (named first s)) ss

-- an identifier that is shown begins with `\`
abbrev pub is_public : List ℕ → Bool
is_public [] = false
is_public (c ∷ name) = c == 92

-- ---- items

-- what a name is shown as, where it is shown
abbrev pub shown_name : ShownPlace → List ℕ → List ℕ
shown_name s name = s.prefix ++ drop 1 name

abbrev pub node_item : ShownPlace → ℕ → Wire → Item
node_item s n w = record {
  name = shown_name s w.name;
  scope = s.scope;
  kind = item.Node n w.options.offset (is_some w.options.input) (is_some w.options.output);
  src = source_text w.attributes;
  first_slot = 0;
}

abbrev pub wire_items : Option ShownPlace → ℕ → Wire → List Item
wire_items None n w = []
wire_items (Some s) n w = if is_public w.name then node_item s n w ∷ [] else []

abbrev pub name_fits : Option ShownPlace → List ℕ → Bool
name_fits None name = true
name_fits (Some s) name = not (is_public name) || nat_le (length s.prefix + (length name - 1)) longest_name

-- ---- a wire

-- it is no port that goes both ways
abbrev pub has_one_direction : WireOptions → Bool
has_one_direction o = not (is_some o.inout || (is_some o.input && is_some o.output))

abbrev pub has_room : Option ShownPlace → Wire → Made → Bool
has_room shown w m = nat_lt (length m.nets) most_nets && (nat_le (sum_by (λ n. n.width) m.nets + w.options.width) most_net_bits && name_fits shown w.name)

unfoldable pub wire_checks : InstancePlace → Scope → Wire → Made → List Check
wire_checks here earlier w m =
    check (not (is_some (net_named earlier w.name))) (at kind.DuplicateName here.owner w.name)
    ∷ check (has_one_direction w.options) (at kind.Inout here.owner w.name)
    ∷ check (nat_le w.options.width widest) (at kind.TooWide here.owner w.name)
    ∷ check (has_room here.shown w m) (at kind.TooLarge here.owner w.name)
    ∷ []

abbrev pub wire_net : InstancePlace → Wire → Net
wire_net here w = record { path = here.prefix ++ w.name; width = w.options.width }

-- what is written as a wire's start value, if anything is
abbrev pub init_of : Wire → Option Const
init_of w = attribute_value (codes "\\init") w.attributes

abbrev pub wire_made : InstancePlace → Wire → Made → Made
wire_made here w m = record none_made { nets = wire_net here w ∷ []; inits = init_of w ∷ []; items = wire_items here.shown (length m.nets) w }

-- a wire behind earlier ones is one net, which is shown where all identifiers on its path begin with `\`
unfoldable pub wire : InstancePlace → Scope → Wire → Walk
wire here earlier w = guard (wire_checks here earlier w) (give (wire_made here w))

-- ---- the wires among statements

unfoldable pub wire_in : InstancePlace → Scope → Statement → Walk
wire_in here earlier (statement.Wire w) = wire here earlier w
wire_in here earlier _ = nothing

-- the wires among statements, behind earlier ones
unfoldable pub wires : InstancePlace → Scope → List Statement → Walk
wires here earlier [] = nothing
wires here earlier (s ∷ ss) = λ m. (wire_in here earlier s >> wires here (earlier ++ named (length m.nets) s) ss) m
