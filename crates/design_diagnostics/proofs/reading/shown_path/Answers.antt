use Rattle.std.proofs.Common.{◌+◌, ◌++◌, nat_eq, slice_index_or, List, ℕ, drop, ap, sym, ◌∙◌, append-nil, append_assoc}
use Rattle.std.proofs.lemmas.List.{at_drop_all}
use Rattle.design_diagnostics.specs.Readings.{shown_byte, shown_path}
use Rattle.design_diagnostics.proofs.Steps.{path_more, path_none}
use Rattle.design_diagnostics.proofs.reading.shown_path.Goals as goal

pub loop-byte-preserved : goal.loop-byte-preserved
loop-byte-preserved c =
    let path = c.args.path.now in
    let i = c.loop-byte.byte-index in
    let byte = slice_index_or path i 0 in
    let before : List ℕ = c.loop-byte.bytes.items in
    let rest : List ℕ = shown_path (nat_eq byte 32) (drop (i + 1) path) in
    ap (λ (bytes : List ℕ). bytes ++ rest) c.in_ok-put_shown.ensures
    ∙ append_assoc before (shown_byte c.loop-byte.begins byte) rest
    ∙ ap (λ (more : List ℕ). before ++ more) (sym (path_more c.loop-byte.begins path i c.loop-byte-test.true))
    ∙ c.loop-byte.invariant

pub returns : goal.returns
returns c =
    let before : List ℕ = c.loop-byte.bytes.items in
    c.new.ensures
    ∙ sym (append-nil before)
    ∙ ap (λ (more : List ℕ). before ++ more) (sym (path_none c.loop-byte.begins) ∙ sym (at_drop_all (shown_path c.loop-byte.begins) c.args.path.now c.loop-byte.byte-index c.loop-byte-test.false))
    ∙ c.loop-byte.invariant
