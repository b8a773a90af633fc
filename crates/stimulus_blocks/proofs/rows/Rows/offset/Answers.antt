use Rattle.std.proofs.Common.{◌≡◌, ◌<◌, List, map, sym, ap, ◌∙◌, length, get_or, arith}
use Rattle.std.proofs.lemmas.List.{get_or_default}
use Rattle.stimulus_text.specs.Numbers.{number_of}
use Rattle.stimulus_blocks.specs.Rows.{BlockRow, no_row}
use Rattle.stimulus_blocks.proofs.RowTables.{rows_at, rows_length}
use Rattle.stimulus_blocks.proofs.rows.Rows.offset.Goals as goal

pub index-requires : goal.index-requires
index-requires c =
    let e : length c.self.inside.offsets.items ≡ length c.args.self.now =
    sym (rows_length c.self.inside.columns c.self.inside.offsets.items (map number_of c.self.inside.values.items)) ∙ ap (λ (rs : List BlockRow). length rs) c.self.view_is in
    let l = c.self.inside.offsets.ok.0 in omega arith

pub returns : goal.returns
returns c =
    let e : length c.self.inside.offsets.items ≡ length c.args.self.now =
    sym (rows_length c.self.inside.columns c.self.inside.offsets.items (map number_of c.self.inside.values.items)) ∙ ap (λ (rs : List BlockRow). length rs) c.self.view_is in
    let inside : c.args.i < length c.self.inside.offsets.items = omega arith in
    let at = rows_at c.self.inside.columns c.self.inside.offsets.items (map number_of c.self.inside.values.items) c.args.i no_row inside in
    let same : get_or c.self.inside.offsets.items c.args.i c.index.result.now ≡ get_or c.self.inside.offsets.items c.args.i 0 = get_or_default c.self.inside.offsets.items c.args.i c.index.result.now 0 inside in
    c.index.ensures ∙ same ∙ sym (ap (λ (rs : List BlockRow). (get_or rs c.args.i no_row).offset) (sym c.self.view_is) ∙ ap (λ r. r.offset) at)
