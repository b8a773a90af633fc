use Rattle.std.proofs.Common.{◌≡◌, ℕ, ◌<◌, List, length, sym, ◌∙◌, ap, subst, arith, Some, Option}
use Rattle.std.specs.Prelude.{slice_get}
use Rattle.std.proofs.lemmas.Result.{IfOk-weaker}
use Rattle.circuit.specs.declared.netlist.Circuit.{Circuit}
use Rattle.circuit.specs.declared.cell.Cell.{Cell}
use Rattle.circuit.specs.declared.memory.Mem.{Mem}
use Rattle.circuit.specs.declared.memory.ReadPort.{ReadPort}
use Rattle.driver_check.specs.Nodes.{IsPart}
use Rattle.driver_check.specs.Vertices.{cell_spans, mem_spans, node_spans, port_spans}
use Rattle.driver_check.specs.declared.parts.Node.{Node}
use Rattle.driver_check.specs.declared.parts.Node.TheVariants as node
use Rattle.driver_check.proofs.Places.{read, same, within}
use Rattle.driver_check.proofs.Fitting.{cell_fits_at, port_fits_at}
use Rattle.driver_check.proofs.rows.node_row.Goals as goal

pub cell_row-requires-clause-fits : goal.cell_row-requires-clause-fits
cell_row-requires-clause-fits c =
    let x : Cell = c.index-as_slice-cell.result in
    let lt : c.in-Cell.cell < length c.args.circuit.now.cells = subst (λ (n : Node). IsPart c.args.circuit.now n) c.in-Cell.is c.requires.there in
    let at : slice_get c.args.circuit.now.cells c.in-Cell.cell ≡ Some x = subst (λ (xs : List Cell). slice_get xs c.in-Cell.cell ≡ Some x) c.as_slice.ensures
    (read c.as_slice.result.now c.in-Cell.cell x (omega (arith, lt, ap (λ (xs : List Cell). length xs) c.as_slice.ensures)) c.index-as_slice-cell.is) in
    cell_fits_at c.args.circuit.now c.requires.valid c.in-Cell.cell x at

pub returns-in-Cell : goal.returns-in-Cell
returns-in-Cell c =
    let x : Cell = c.index-as_slice-cell.result in
    let lt : c.in-Cell.cell < length c.args.circuit.now.cells = subst (λ (n : Node). IsPart c.args.circuit.now n) c.in-Cell.is c.requires.there in
    let at : slice_get c.args.circuit.now.cells c.in-Cell.cell ≡ Some x = subst (λ (xs : List Cell). slice_get xs c.in-Cell.cell ≡ Some x) c.as_slice.ensures
    (read c.as_slice.result.now c.in-Cell.cell x (omega (arith, lt, ap (λ (xs : List Cell). length xs) c.as_slice.ensures)) c.index-as_slice-cell.is) in
    let nets = c.args.circuit.now.nets in
    IfOk-weaker c.cell_row.result (λ row. row ≡ cell_spans nets (Some x)) (λ row. row ≡ node_spans c.args.circuit.now c.args.node)
    (λ row e. e ∙ ap (λ (o : Option Cell). cell_spans nets o) (sym at) ∙ ap (λ (n : Node). node_spans c.args.circuit.now n) (sym c.in-Cell.is)) c.cell_row.ensures

pub bounds-as_slice-mem : goal.bounds-as_slice-mem
bounds-as_slice-mem c =
    let there : IsPart c.args.circuit.now (node.Read c.in-Read.mem c.in-Read.port) = subst (λ (n : Node). IsPart c.args.circuit.now n) c.in-Read.is c.requires.there in
    let lt = within c.args.circuit.now.mems c.in-Read.mem there.0 there.1 in
    omega (arith, lt, ap (λ (xs : List Mem). length xs) c.as_slice-in-Read.ensures)

-- the memory and the port that were read
mem_read : (c : Circuit) (mem port : ℕ) (n : Node) → n ≡ node.Read mem port → IsPart c n → (mems : List Mem) → mems ≡ c.mems → (m : Mem) → slice_get mems mem ≡ Some m → port < length m.reads
mem_read c mem port n is part mems e m at =
    let there : IsPart c (node.Read mem port) = subst (λ (x : Node). IsPart c x) is part in
    let z : there.0 ≡ m = same c.mems mem there.0 m there.1 (subst (λ (xs : List Mem). slice_get xs mem ≡ Some m) e at) in
    subst (λ (x : Mem). port < length x.reads) z there.2

pub bounds-as_slice-port : goal.bounds-as_slice-port
bounds-as_slice-port c =
    let there : IsPart c.args.circuit.now (node.Read c.in-Read.mem c.in-Read.port) = subst (λ (n : Node). IsPart c.args.circuit.now n) c.in-Read.is c.requires.there in
    let lt = within c.args.circuit.now.mems c.in-Read.mem there.0 there.1 in
    let at = read c.as_slice-in-Read.result.now c.in-Read.mem c.index-as_slice-mem.result (omega (arith, lt, ap (λ (xs : List Mem). length xs) c.as_slice-in-Read.ensures)) c.index-as_slice-mem.is in
    let port = mem_read c.args.circuit.now c.in-Read.mem c.in-Read.port c.args.node c.in-Read.is c.requires.there c.as_slice-in-Read.result.now c.as_slice-in-Read.ensures c.index-as_slice-mem.result at in
    omega (arith, port, ap (λ (xs : List ReadPort). length xs) c.as_slice-in-Read-2.ensures)

pub port_row-requires-clause-fits : goal.port_row-requires-clause-fits
port_row-requires-clause-fits c =
    let there : IsPart c.args.circuit.now (node.Read c.in-Read.mem c.in-Read.port) = subst (λ (n : Node). IsPart c.args.circuit.now n) c.in-Read.is c.requires.there in
    let lt = within c.args.circuit.now.mems c.in-Read.mem there.0 there.1 in
    let at = read c.as_slice-in-Read.result.now c.in-Read.mem c.index-as_slice-mem.result (omega (arith, lt, ap (λ (xs : List Mem). length xs) c.as_slice-in-Read.ensures)) c.index-as_slice-mem.is in
    let port = mem_read c.args.circuit.now c.in-Read.mem c.in-Read.port c.args.node c.in-Read.is c.requires.there c.as_slice-in-Read.result.now c.as_slice-in-Read.ensures c.index-as_slice-mem.result at in
    let p = read c.as_slice-in-Read-2.result.now c.in-Read.port c.index-as_slice-port.result (omega (arith, port, ap (λ (xs : List ReadPort). length xs) c.as_slice-in-Read-2.ensures)) c.index-as_slice-port.is in
    port_fits_at c.args.circuit.now c.requires.valid c.in-Read.mem c.in-Read.port c.index-as_slice-mem.result c.index-as_slice-port.result
    (subst (λ (xs : List Mem). slice_get xs c.in-Read.mem ≡ Some c.index-as_slice-mem.result) c.as_slice-in-Read.ensures at)
    (subst (λ (xs : List ReadPort). slice_get xs c.in-Read.port ≡ Some c.index-as_slice-port.result) c.as_slice-in-Read-2.ensures p)

pub returns-in-Read : goal.returns-in-Read
returns-in-Read c =
    let nets = c.args.circuit.now.nets in
    let there : IsPart c.args.circuit.now (node.Read c.in-Read.mem c.in-Read.port) = subst (λ (n : Node). IsPart c.args.circuit.now n) c.in-Read.is c.requires.there in
    let lt = within c.args.circuit.now.mems c.in-Read.mem there.0 there.1 in
    let at = read c.as_slice-in-Read.result.now c.in-Read.mem c.index-as_slice-mem.result (omega (arith, lt, ap (λ (xs : List Mem). length xs) c.as_slice-in-Read.ensures)) c.index-as_slice-mem.is in
    let port = mem_read c.args.circuit.now c.in-Read.mem c.in-Read.port c.args.node c.in-Read.is c.requires.there c.as_slice-in-Read.result.now c.as_slice-in-Read.ensures c.index-as_slice-mem.result at in
    let p = read c.as_slice-in-Read-2.result.now c.in-Read.port c.index-as_slice-port.result (omega (arith, port, ap (λ (xs : List ReadPort). length xs) c.as_slice-in-Read-2.ensures)) c.index-as_slice-port.is in
    let at_mem = subst (λ (xs : List Mem). slice_get xs c.in-Read.mem ≡ Some c.index-as_slice-mem.result) c.as_slice-in-Read.ensures at in
    let at_port = subst (λ (xs : List ReadPort). slice_get xs c.in-Read.port ≡ Some c.index-as_slice-port.result) c.as_slice-in-Read-2.ensures p in
    IfOk-weaker c.port_row.result (λ row. row ≡ port_spans nets (Some c.index-as_slice-port.result)) (λ row. row ≡ node_spans c.args.circuit.now c.args.node)
    (λ row e. e ∙ ap (λ (o : Option ReadPort). port_spans nets o) (sym at_port) ∙ ap (λ (o : Option Mem). mem_spans nets o c.in-Read.port) (sym at_mem) ∙ ap (λ (n : Node). node_spans c.args.circuit.now n) (sym c.in-Read.is)) c.port_row.ensures
