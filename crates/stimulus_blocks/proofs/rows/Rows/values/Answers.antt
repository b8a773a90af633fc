use Rattle.std.proofs.Common.{◌≡◌, ◌<◌, ◌+◌, ◌-◌, ◌*◌, List, ℕ, map, sym, ap, ◌∙◌, length, get_or, take, drop, arith}
use Rattle.std.proofs.lemmas.List.{take-map, drop-map}
use Rattle.stimulus_text.specs.Numbers.{number_of}
use Rattle.stimulus_text.specs.declared.value.Value.{Value}
use Rattle.stimulus_blocks.specs.Rows.{BlockRow, no_row, rows_from}
use Rattle.stimulus_blocks.proofs.RowTables.{rows_at, rows_length, row_inside}
use Rattle.stimulus_blocks.proofs.rows.Rows.values.Goals as goal

there : (n : ℕ) (os : List ℕ) (vs : List Value) (rows : List BlockRow) (i : ℕ) → rows_from n os (map number_of vs) ≡ rows → i < length rows → i < length os
there n os vs rows i e lt = let f : length os ≡ length rows = sym (rows_length n os (map number_of vs)) ∙ ap (λ (rs : List BlockRow). length rs) e in omega arith

pub overflow_mul-start : goal.overflow_mul-start
overflow_mul-start c =
    let r = row_inside c.args.i (length c.self.inside.offsets.items) c.self.inside.columns (there _ _ c.self.inside.values.items _ c.args.i c.self.view_is c.requires) in
    let v : length c.self.inside.values.items ≡ length c.self.inside.offsets.items * c.self.inside.columns = c.self.invariant in
    let l = c.self.inside.values.ok.0 in omega (arith, c.self.inside.values.small)

pub overflow_add-result : goal.overflow_add-result
overflow_add-result c =
    let r = row_inside c.args.i (length c.self.inside.offsets.items) c.self.inside.columns (there _ _ c.self.inside.values.items _ c.args.i c.self.view_is c.requires) in
    let v : length c.self.inside.values.items ≡ length c.self.inside.offsets.items * c.self.inside.columns = c.self.invariant in
    let l = c.self.inside.values.ok.0 in omega (arith, c.self.inside.values.small)

pub offset_bounds-deref-start : goal.offset_bounds-deref-start
offset_bounds-deref-start c =
    let r = row_inside c.args.i (length c.self.inside.offsets.items) c.self.inside.columns (there _ _ c.self.inside.values.items _ c.args.i c.self.view_is c.requires) in
    let v : length c.self.inside.values.items ≡ length c.self.inside.offsets.items * c.self.inside.columns = c.self.invariant in
    let d : length c.deref.result.now ≡ length c.self.inside.values.items = ap (λ (l : List Value). length l) c.deref.ensures.value in
    omega (arith, c.deref.type_inv)

pub slice_bounds-result-end : goal.slice_bounds-result-end
slice_bounds-result-end c =
    let r = row_inside c.args.i (length c.self.inside.offsets.items) c.self.inside.columns (there _ _ c.self.inside.values.items _ c.args.i c.self.view_is c.requires) in
    let v : length c.self.inside.values.items ≡ length c.self.inside.offsets.items * c.self.inside.columns = c.self.invariant in
    let d : length c.deref.result.now ≡ length c.self.inside.values.items = ap (λ (l : List Value). length l) c.deref.ensures.value in
    omega arith

pub returns : goal.returns
returns c =
    let inside = there _ _ c.self.inside.values.items _ c.args.i c.self.view_is c.requires in
    let start : ℕ = c.args.i * c.self.inside.columns in
    let at = rows_at c.self.inside.columns c.self.inside.offsets.items (map number_of c.self.inside.values.items) c.args.i no_row inside in
    let z : c.args.i * c.self.inside.columns + c.self.inside.columns - c.args.i * c.self.inside.columns ≡ c.self.inside.columns = omega arith in
    ap (λ m. map number_of (take m (drop (c.args.i * c.self.inside.columns) c.deref.result.now))) z
    ∙ ap (λ (l : List Value). map number_of (take c.self.inside.columns (drop (c.args.i * c.self.inside.columns) l))) c.deref.ensures.value
    ∙ sym (take-map number_of c.self.inside.columns (drop (c.args.i * c.self.inside.columns) c.self.inside.values.items))
    ∙ ap (take c.self.inside.columns) (sym (drop-map number_of (c.args.i * c.self.inside.columns) c.self.inside.values.items))
    ∙ sym (ap (λ (rs : List BlockRow). (get_or rs c.args.i no_row).values) (sym c.self.view_is) ∙ ap (λ r. r.values) at)
