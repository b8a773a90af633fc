use Rattle.std.proofs.Common.{◌+◌, ◌*◌, ◌≤◌, List, length, refl, sym, ◌∙◌, ap, arith, get_or, subst}
use Rattle.std.specs.Prelude.{slice_get}
use Rattle.std.proofs.lemmas.Option.{slice_get-get_or}
use Rattle.sim_base.specs.BitValue.{BitValue}
use Rattle.sim_base.specs.Shape.{words_of_width}
use Rattle.circuit.specs.declared.netlist.Circuit.{Circuit}
use Rattle.circuit.specs.declared.memory.Mem.{Mem}
use Rattle.spool_format.specs.Reading.{written_at}
use Rattle.eval_commit.proofs.Written.{put_widths}
use Rattle.run_core.proofs.Writing.{within}
use Rattle.run_core.proofs.Items.{mapped_at, mapped_there, memory_read, memory_room, memory_there, memory_words, node_fits, node_long, node_there, node_words}
use Rattle.run_core.proofs.words.put_item.Goals as goal

pub net-requires : goal.net-requires
net-requires c =
    let x = node_there c.args.circuit.now c.args.kind c.in-Node.net c.in-Node.lsb_at c.in-Node.input c.in-Node.output c.in-Node.is c.requires.there in
    within c.args.machine.now.circuit.nets c.in-Node.net x.0 (ap (λ (k : Circuit). slice_get k.nets c.in-Node.net) c.requires.circuit ∙ x.1)

pub put_value-requires : goal.put_value-requires
put_value-requires c =
    let x = node_there c.args.circuit.now c.args.kind c.in-Node.net c.in-Node.lsb_at c.in-Node.input c.in-Node.output c.in-Node.is c.requires.there in
    node_fits c.args.circuit.now c.args.kind c.in-Node.net c.in-Node.lsb_at c.in-Node.input c.in-Node.output c.in-Node.is x.0 x.1 c.args.words.now c.args.place c.net.result
    (c.net.ensures.width x.0 (ap (λ (k : Circuit). slice_get k.nets c.in-Node.net) c.requires.circuit ∙ x.1)) c.requires.room

pub returns-in-Node-clause-rooms : goal.returns-in-Node-clause-rooms
returns-in-Node-clause-rooms c = refl

pub returns-in-Node-clause-long : goal.returns-in-Node-clause-long
returns-in-Node-clause-long c =
    let x = node_there c.args.circuit.now c.args.kind c.in-Node.net c.in-Node.lsb_at c.in-Node.input c.in-Node.output c.in-Node.is c.requires.there in
    ap length c.put_value.ensures
    ∙ node_long c.args.circuit.now c.args.kind c.in-Node.net c.in-Node.lsb_at c.in-Node.input c.in-Node.output c.in-Node.is x.0 x.1 c.args.words.now c.args.place c.net.result
    (c.net.ensures.width x.0 (ap (λ (k : Circuit). slice_get k.nets c.in-Node.net) c.requires.circuit ∙ x.1)) c.requires.room

pub returns-in-Node-clause-words : goal.returns-in-Node-clause-words
returns-in-Node-clause-words c s standing =
    let x = node_there c.args.circuit.now c.args.kind c.in-Node.net c.in-Node.lsb_at c.in-Node.input c.in-Node.output c.in-Node.is c.requires.there in
    c.put_value.ensures
    ∙ ap (written_at c.args.words.now c.args.place)
    (node_words c.args.circuit.now c.args.kind c.in-Node.net c.in-Node.lsb_at c.in-Node.input c.in-Node.output c.in-Node.is x.0 x.1 s c.net.result
    (c.net.ensures.width x.0 (ap (λ (k : Circuit). slice_get k.nets c.in-Node.net) c.requires.circuit ∙ x.1)) (c.net.ensures.number s standing))

pub bounds-as_slice-mem : goal.bounds-as_slice-mem
bounds-as_slice-mem c =
    let x = memory_there c.args.circuit.now c.args.kind c.in-Memory.mem c.requires.there c.in-Memory.is in
    within c.as_slice.result.now c.in-Memory.mem x.0 (ap (λ (ms : List Mem). slice_get ms c.in-Memory.mem) c.as_slice.ensures ∙ x.1)

pub bounds-rooms-mem : goal.bounds-rooms-mem
bounds-rooms-mem c =
    let x = memory_there c.args.circuit.now c.args.kind c.in-Memory.mem c.requires.there c.in-Memory.is in
    mapped_there (λ (v : BitValue). v.width) (λ (m : Mem). m.width) c.args.rooms.now c.args.circuit.now.mems c.in-Memory.mem x.0 c.requires.rooms x.1

pub put_rows-requires-clause-there : goal.put_rows-requires-clause-there
put_rows-requires-clause-there c =
    let x = memory_there c.args.circuit.now c.args.kind c.in-Memory.mem c.requires.there c.in-Memory.is in
    let sized = ap (λ (m : Mem). m.size) (memory_read c.args.circuit.now.mems c.as_slice.result.now c.in-Memory.mem c.index-as_slice-mem.result x.0 c.as_slice.ensures x.1) in (
      x.0,
      ap (λ (k : Circuit). slice_get k.mems c.in-Memory.mem) c.requires.circuit ∙ x.1,
      omega (arith, sized),
      mapped_at (λ (v : BitValue). v.width) (λ (m : Mem). m.width) c.args.rooms.now c.args.circuit.now.mems c.in-Memory.mem c.index-rooms-mem.result x.0 c.requires.rooms x.1,
    )

pub put_rows-requires-clause-room : goal.put_rows-requires-clause-room
put_rows-requires-clause-room c =
    let x = memory_there c.args.circuit.now c.args.kind c.in-Memory.mem c.requires.there c.in-Memory.is in
    let sized = ap (λ (m : Mem). m.size) (memory_read c.args.circuit.now.mems c.as_slice.result.now c.in-Memory.mem c.index-as_slice-mem.result x.0 c.as_slice.ensures x.1) in
    let wide = mapped_at (λ (v : BitValue). v.width) (λ (m : Mem). m.width) c.args.rooms.now c.args.circuit.now.mems c.in-Memory.mem c.index-rooms-mem.result x.0 c.requires.rooms x.1 in
    subst (λ k. c.args.place + k ≤ length c.args.words.now)
    (memory_room c.args.circuit.now c.args.kind c.in-Memory.mem x.0 c.in-Memory.is x.1 ∙ ap (λ k. k * words_of_width x.0.width) (sym sized) ∙ ap (λ w. (get_or c.as_slice.result.now c.in-Memory.mem c.index-as_slice-mem.result).size * words_of_width w) (sym wide))
    c.requires.room

pub returns-in-Memory-clause-rooms : goal.returns-in-Memory-clause-rooms
returns-in-Memory-clause-rooms c =
    let x = memory_there c.args.circuit.now c.args.kind c.in-Memory.mem c.requires.there c.in-Memory.is in
    put_widths c.args.rooms.now c.in-Memory.mem (get_or c.args.rooms.now c.in-Memory.mem c.index-rooms-mem.result) c.put_rows.new.room
    (slice_get-get_or c.args.rooms.now c.in-Memory.mem c.index-rooms-mem.result (mapped_there (λ (v : BitValue). v.width) (λ (m : Mem). m.width) c.args.rooms.now c.args.circuit.now.mems c.in-Memory.mem x.0 c.requires.rooms x.1))
    c.put_rows.ensures.width

pub returns-in-Memory-clause-long : goal.returns-in-Memory-clause-long
returns-in-Memory-clause-long c = c.put_rows.ensures.long

pub returns-in-Memory-clause-words : goal.returns-in-Memory-clause-words
returns-in-Memory-clause-words c s standing =
    let x = memory_there c.args.circuit.now c.args.kind c.in-Memory.mem c.requires.there c.in-Memory.is in
    let sized = ap (λ (m : Mem). m.size) (memory_read c.args.circuit.now.mems c.as_slice.result.now c.in-Memory.mem c.index-as_slice-mem.result x.0 c.as_slice.ensures x.1) in
    let wide = mapped_at (λ (v : BitValue). v.width) (λ (m : Mem). m.width) c.args.rooms.now c.args.circuit.now.mems c.in-Memory.mem c.index-rooms-mem.result x.0 c.requires.rooms x.1 in
    c.put_rows.ensures.words s standing
    ∙ ap (written_at c.args.words.now c.args.place) (memory_words c.args.circuit.now c.args.kind c.in-Memory.mem x.0 s _ _ c.in-Memory.is x.1 sized wide)
