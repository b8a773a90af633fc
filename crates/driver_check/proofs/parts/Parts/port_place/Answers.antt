use Rattle.std.proofs.Common.{◌≡◌, ◌+◌, ◌<◌, length, ◌∙◌, arith}
use Rattle.std.proofs.lemmas.List.{get_or_read}
use Rattle.driver_check.specs.Numbers.{before, read_count}
use Rattle.driver_check.specs.Nodes.{part_place}
use Rattle.driver_check.specs.declared.parts.Node.TheVariants as node
use Rattle.driver_check.proofs.Places.{within}
use Rattle.driver_check.proofs.parts.Parts.port_place.Goals as goal

pub index-requires : goal.index-requires
index-requires c = let lt = within c.args.circuit.now.mems c.args.mem c.requires.there.0 c.requires.there.1 in omega (arith, lt, c.requires.parts.ports_long)

pub overflow_add-result : goal.overflow_add-result
overflow_add-result c =
    let lt = within c.args.circuit.now.mems c.args.mem c.requires.there.0 c.requires.there.1 in
    let at = get_or_read c.args.self.now.ports.items c.args.mem c.index.result.now (omega (arith, lt, c.requires.parts.ports_long)) c.index.ensures 0 ∙ c.requires.parts.first_port c.args.mem lt in
    let n = node.Read c.args.mem c.args.port in
    let h : length c.args.circuit.now.cells + (before read_count c.args.circuit.now.mems c.args.mem + c.args.port) < length c.args.self.now.nodes.items = within c.args.self.now.nodes.items (part_place c.args.circuit.now n) n (c.requires.parts.every n c.requires.there) in
    let long = c.args.self.now.nodes.ok in
    let small = c.args.self.now.nodes.small in
    omega (arith, at, h, long.0, long.1, small)

pub returns-clause-value : goal.returns-clause-value
returns-clause-value c =
    let lt = within c.args.circuit.now.mems c.args.mem c.requires.there.0 c.requires.there.1 in
    let at = get_or_read c.args.self.now.ports.items c.args.mem c.index.result.now (omega (arith, lt, c.requires.parts.ports_long)) c.index.ensures 0 ∙ c.requires.parts.first_port c.args.mem lt in
    let e : c.index.result.now + c.args.port ≡ length c.args.circuit.now.cells + (before read_count c.args.circuit.now.mems c.args.mem + c.args.port) = omega (arith, at) in
    e

pub returns-clause-below : goal.returns-clause-below
returns-clause-below c =
    let lt = within c.args.circuit.now.mems c.args.mem c.requires.there.0 c.requires.there.1 in
    let at = get_or_read c.args.self.now.ports.items c.args.mem c.index.result.now (omega (arith, lt, c.requires.parts.ports_long)) c.index.ensures 0 ∙ c.requires.parts.first_port c.args.mem lt in
    let n = node.Read c.args.mem c.args.port in
    let h : length c.args.circuit.now.cells + (before read_count c.args.circuit.now.mems c.args.mem + c.args.port) < length c.args.self.now.nodes.items = within c.args.self.now.nodes.items (part_place c.args.circuit.now n) n (c.requires.parts.every n c.requires.there) in
    let long = c.args.self.now.nodes.ok in
    let small = c.args.self.now.nodes.small in
    omega (arith, at, h, long.0, long.1, small)
