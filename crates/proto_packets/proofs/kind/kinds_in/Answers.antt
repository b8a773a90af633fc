use Rattle.std.proofs.Common.{◌≡◌, option_map, None, arith, rules, ◌∙◌, sym}
use Rattle.std.proofs.lemmas.List.{at_drop_all}
use Rattle.serde_json.specs.Find.{as_str}
use Rattle.serde_json.specs.View.{view, items_view}
use Rattle.proto_packets.specs.Kind.{each_text}
use Rattle.proto_packets.proofs.Loops.{with_kinds, texts_at, no_text_at, texts_none}
use Rattle.proto_packets.proofs.kind.kinds_in.Goals as goal

pub returns-in_default : goal.returns-in_default
returns-in_default c =
    let none : as_str (view c.value-item.result) ≡ None = search rules in
    c.loop-value.invariant ∙ no_text_at c.args.texts.now c.loop-value.value-index c.value-item.result (omega arith) c.value-item.is c.loop-value.kinds none

pub loop-value-preserved : goal.loop-value-preserved
loop-value-preserved c =
    rw (c.eq.ensures, c.eq-in-loop-value.ensures) (c.loop-value.invariant ∙ texts_at c.args.texts.now c.loop-value.value-index c.value-item.result (omega arith) c.value-item.is c.loop-value.kinds c.in-Some.text.now (sym c.in-Some.ensures))

pub returns : goal.returns
returns c =
    c.loop-value.invariant
    ∙ (at_drop_all (λ vs. option_map (with_kinds c.loop-value.kinds) (each_text (items_view vs))) c.args.texts.now c.loop-value.value-index (omega arith)
    ∙ texts_none c.loop-value.kinds)
