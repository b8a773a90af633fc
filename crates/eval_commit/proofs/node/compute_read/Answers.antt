use Rattle.std.proofs.Common.{◌≡◌, ◌<◌, sym, ◌∙◌, ap, subst, arith, length, refl, Some}
use Rattle.std.specs.Prelude.{slice_get}
use Rattle.std.proofs.lemmas.Option.{get_or_from_slice_get}
use Rattle.sim_base.specs.BitValue.{BitValue}
use Rattle.circuit.specs.declared.memory.Mem.{Mem}
use Rattle.driver_check.proofs.Places.{found, read, same, within}
use Rattle.signal_words.specs.Values.{digits_in}
use Rattle.eval_commit.proofs.Written.{put_widths}
use Rattle.eval_commit.proofs.Belonging.{below_in, fetched, read_at, read_listed, roots_inside, spread_as, value_at}
use Rattle.eval_plan.specs.Sources.{read_row}
use Rattle.eval_commit.proofs.Telling.{listed_as, told_as}
use Rattle.eval_commit.proofs.node.compute_read.Goals as goal

pub bounds-rooms-m : goal.bounds-rooms-m
bounds-rooms-m c =
    below_in (λ (x : Mem). x.width) c.args.rooms.now c.args.rooms.now c.args.circuit.now.mems c.args.m c.requires.rooms refl (within c.args.circuit.now.mems c.args.m c.requires.there.0 c.requires.there.1)

pub bounds-rows-m : goal.bounds-rows-m
bounds-rows-m c = let lt = within c.args.circuit.now.mems c.args.m c.requires.there.0 c.requires.there.1 in omega (arith, lt, c.requires.rows.long)

pub read_port-requires-clause-fits : goal.read_port-requires-clause-fits
read_port-requires-clause-fits c =
    let at = fetched c.args.circuit.now.mems c.as_slice.result.now c.args.m c.index-as_slice-m.result c.as_slice.ensures (within c.args.circuit.now.mems c.args.m c.requires.there.0 c.requires.there.1) c.index-as_slice-m.is in
    c.law_of_memories.ensures.memory c.args.circuit.now c.args.store.now c.args.store.now c.args.m c.index-as_slice-m.result c.requires.valid c.requires.store c.requires.store at

pub read_port-requires-clause-there : goal.read_port-requires-clause-there
read_port-requires-clause-there c =
    let at = fetched c.args.circuit.now.mems c.as_slice.result.now c.args.m c.index-as_slice-m.result c.as_slice.ensures (within c.args.circuit.now.mems c.args.m c.requires.there.0 c.requires.there.1) c.index-as_slice-m.is in
    subst (λ (x : Mem). c.args.n < length x.reads) (same c.args.circuit.now.mems c.args.m c.requires.there.0 c.index-as_slice-m.result c.requires.there.1 at) c.requires.there.2

pub read_port-requires-clause-rows : goal.read_port-requires-clause-rows
read_port-requires-clause-rows c =
    let lt = within c.args.circuit.now.mems c.args.m c.requires.there.0 c.requires.there.1 in
    let at = fetched c.args.circuit.now.mems c.as_slice.result.now c.args.m c.index-as_slice-m.result c.as_slice.ensures lt c.index-as_slice-m.is in
    c.requires.rows.each c.args.m c.index-as_slice-m.result c.index-rows-m.result at (read c.args.rows.now c.args.m c.index-rows-m.result (omega (arith, lt, c.requires.rows.long)) c.index-rows-m.is)

pub read_port-requires-clause-width : goal.read_port-requires-clause-width
read_port-requires-clause-width c =
    let at = fetched c.args.circuit.now.mems c.as_slice.result.now c.args.m c.index-as_slice-m.result c.as_slice.ensures (within c.args.circuit.now.mems c.args.m c.requires.there.0 c.requires.there.1) c.index-as_slice-m.is in
    let v = value_at (λ (x : Mem). x.width) c.args.rooms.now c.args.circuit.now.mems c.args.m c.index-as_slice-m.result c.requires.rooms at in
    ap (λ (u : BitValue). u.width) (get_or_from_slice_get c.args.rooms.now c.args.m v.0 c.index-rooms-m.result v.1) ∙ v.2

pub spread-requires-clause-inside : goal.spread-requires-clause-inside
spread-requires-clause-inside c =
    roots_inside c.args.circuit.now c.args.store.now.nets c.args.plan.now.roots c.as_slice-2.result.now c.as_slice-2.ensures c.requires.store.nets c.requires.roots

pub spread-requires-clause-listed : goal.spread-requires-clause-listed
spread-requires-clause-listed c =
    let at = fetched c.args.circuit.now.mems c.as_slice.result.now c.args.m c.index-as_slice-m.result c.as_slice.ensures (within c.args.circuit.now.mems c.args.m c.requires.there.0 c.requires.there.1) c.index-as_slice-m.is in
    let lt = subst (λ (x : Mem). c.args.n < length x.reads) (same c.args.circuit.now.mems c.args.m c.requires.there.0 c.index-as_slice-m.result c.requires.there.1 at) c.requires.there.2 in
    let p = found c.index-as_slice-m.result.reads c.args.n lt in
    read_listed c.args.circuit.now c.args.plan.now.roots c.as_slice-2.result.now c.args.plan.now.sources c.args.m c.args.n c.view.result.width c.index-as_slice-m.result c.roots_of_read-places.result.now
    c.as_slice-2.ensures c.roots_of_read-places.ensures c.requires.roots c.requires.sources at lt (ap (λ (u : BitValue). u.width) (c.view.ensures ∙ c.read_port.ensures p.0 p.1))

pub returns-clause-rooms : goal.returns-clause-rooms
returns-clause-rooms c =
    let at = fetched c.args.circuit.now.mems c.as_slice.result.now c.args.m c.index-as_slice-m.result c.as_slice.ensures (within c.args.circuit.now.mems c.args.m c.requires.there.0 c.requires.there.1) c.index-as_slice-m.is in
    let lt = subst (λ (x : Mem). c.args.n < length x.reads) (same c.args.circuit.now.mems c.args.m c.requires.there.0 c.index-as_slice-m.result c.requires.there.1 at) c.requires.there.2 in
    let p = found c.index-as_slice-m.result.reads c.args.n lt in
    let v = value_at (λ (x : Mem). x.width) c.args.rooms.now c.args.circuit.now.mems c.args.m c.index-as_slice-m.result c.requires.rooms at in
    put_widths c.args.rooms.now c.args.m v.0 c.read_port.new.into v.1 (ap (λ (u : BitValue). u.width) (c.read_port.ensures p.0 p.1) ∙ sym v.2)

pub returns-clause-spread : goal.returns-clause-spread
returns-clause-spread c =
    let mlt = within c.args.circuit.now.mems c.args.m c.requires.there.0 c.requires.there.1 in
    let at = fetched c.args.circuit.now.mems c.as_slice.result.now c.args.m c.index-as_slice-m.result c.as_slice.ensures mlt c.index-as_slice-m.is in
    let lt = subst (λ (x : Mem). c.args.n < length x.reads) (same c.args.circuit.now.mems c.args.m c.requires.there.0 c.index-as_slice-m.result c.requires.there.1 at) c.requires.there.2 in
    let p = found c.index-as_slice-m.result.reads c.args.n lt in
    let rows : slice_get c.args.rows.now c.args.m ≡ Some c.index-rows-m.result = read c.args.rows.now c.args.m c.index-rows-m.result (omega (arith, mlt, c.requires.rows.long)) c.index-rows-m.is in
    spread_as c.args.plan.now.roots c.as_slice-2.result.now _ c.roots_of_read-places.result.now _ c.view.result.number c.args.store.now.nets c.args.store.now.nets c.spread.new.nets
    c.as_slice-2.ensures c.roots_of_read-places.ensures
    (ap (λ (u : BitValue). u.number) (c.view.ensures ∙ c.read_port.ensures p.0 p.1)
    ∙ sym (read_at (digits_in c.args.store.now.nets) c.args.circuit.now.mems c.args.rows.now c.args.m c.args.n c.index-as_slice-m.result c.index-rows-m.result p.0 at rows p.1))
    refl c.spread.ensures.spread

pub returns-clause-told : goal.returns-clause-told
returns-clause-told c =
    told_as c.args.plan.now.roots c.as_slice-2.result.now c.args.plan.now.readers c.args.store.now.nets c.args.store.now.nets c.spread.new.nets c.args.marks.now c.spread.new.marks c.as_slice-2.ensures refl c.spread.ensures.told

pub returns-clause-listed : goal.returns-clause-listed
returns-clause-listed c =
    listed_as c.args.plan.now.readers (read_row c.args.plan.now.sources c.args.m c.args.n) c.roots_of_read-places.result.now c.args.marks.now c.spread.new.marks c.roots_of_read-places.ensures c.spread.ensures.listed
