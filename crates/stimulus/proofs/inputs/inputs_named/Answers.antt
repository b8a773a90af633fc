use Rattle.std.proofs.Common.{◌∙◌, ℕ, map, sym, ap, arith, Some, Vec, Global}
use Rattle.std.specs.Option.{option_map}
use Rattle.stimulus.proofs.Named.{columns_inside, named_lost, named_none, named_some, named_uneven, over}
use Rattle.stimulus.proofs.inputs.inputs_named.Goals as goal

pub new-requires : goal.new-requires
new-requires c =
    columns_inside c.args.circuit.now c.deref.result.now c.as_slice.result.now c.in-Some-2.columns.items c.from_vec.result c.from_vec-2.result c.in_ok-widths.widths.items c.deref-2.result.now c.in-Some.nets.items
    (sym c.in_ok-columns.ensures ∙ ap (option_map (λ (v : Vec ℕ Global). v.items)) c.in-Some-2.is) c.from_vec-2.ensures c.from_vec.ensures c.in_ok-widths.ensures c.deref-2.ensures.value c.deref.ensures.value

pub returns-in_default : goal.returns-in_default
returns-in_default c = sym (named_none c.args.circuit.now (map (λ x. x.now) c.args.words.now) (sym c.in_ok-nets.ensures ∙ ap (option_map (λ (v : Vec ℕ Global). v.items)) c.in_default.is))

pub returns-then-len : goal.returns-then-len
returns-then-len c =
    let l = c.in-Some.nets.ok.0 in
    sym (named_uneven c.args.circuit.now (map (λ x. x.now) c.args.words.now) c.in-Some.nets.items (sym c.in_ok-nets.ensures ∙ ap (option_map (λ (v : Vec ℕ Global). v.items)) c.in-Some.is)
    (λ e. c.if-len.true (omega (arith, c.len.ensures, c.len-2.ensures))))

pub returns-in_default-2 : goal.returns-in_default-2
returns-in_default-2 c =
    let l = c.in-Some.nets.ok.0 in
    sym (named_lost c.args.circuit.now (map (λ x. x.now) c.args.words.now) c.in-Some.nets.items (sym c.in_ok-nets.ensures ∙ ap (option_map (λ (v : Vec ℕ Global). v.items)) c.in-Some.is)
    (omega (arith, c.if-len.false, c.len.ensures, c.len-2.ensures)) c.deref.result.now c.as_slice.result.now c.deref.ensures.value c.as_slice.ensures
    (sym c.in_ok-columns.ensures ∙ ap (option_map (λ (v : Vec ℕ Global). v.items)) c.in_default-2.is))

pub returns : goal.returns
returns c =
    let l = c.in-Some.nets.ok.0 in
    sym (named_some c.args.circuit.now (map (λ x. x.now) c.args.words.now) c.in-Some.nets.items (sym c.in_ok-nets.ensures ∙ ap (option_map (λ (v : Vec ℕ Global). v.items)) c.in-Some.is)
    (omega (arith, c.if-len.false, c.len.ensures, c.len-2.ensures)) c.deref.result.now c.as_slice.result.now c.in-Some-2.columns.items c.deref.ensures.value c.as_slice.ensures
    (sym c.in_ok-columns.ensures ∙ ap (option_map (λ (v : Vec ℕ Global). v.items)) c.in-Some-2.is)
    ∙ ap (λ s. Some s) (sym (over c.args.circuit.now c.in-Some.nets.items c.deref-2.result.now c.in_ok-widths.widths.items c.in-Some-2.columns.items c.from_vec.result c.from_vec-2.result c.new.result c.new.ensures c.from_vec.ensures c.from_vec-2.ensures c.in_ok-widths.ensures c.deref-2.ensures.value)))
