use Rattle.std.proofs.Common.{◌≡◌, ◌++◌, ◌∷◌, [], length, true, sym, ◌∙◌, ap, subst}
use Rattle.std.specs.Arc.{arc_value}
use Rattle.std.specs.List.{flat_map}
use Rattle.sim_base.specs.TimeText.{time_text}
use Rattle.circuit.specs.Valid.{is_valid}
use Rattle.trace_text.specs.Columns.{AreWithin, column_text, columns}
use Rattle.trace_text.proofs.Columns.{columns_show, columns_within, line_is}
use Rattle.trace_text.proofs.printer.Printer.push_sample.Goals as goal

pub push_values-requires : goal.push_values-requires
push_values-requires c =
    let there : c.deref.result.now ≡ columns c.args.self.now = c.deref.ensures.value ∙ c.self.invariant.1 ∙ ap columns (let v = c.self.view_is in let view : arc_value c.self.inside.circuit ≡ c.args.self.now = cc v in view) in
    let words : c.as_slice.result.now ≡ c.args.sample.now.words = c.as_slice.ensures in
    subst (λ xs. AreWithin xs c.as_slice.result.now) (sym there) (columns_within c.args.self.now c.as_slice.result.now (ap length words ∙ c.requires.room))

pub returns : goal.returns
returns c =
    let text = c.args.text.now.items in
    let words = c.args.sample.now.words in
    let there : c.deref.result.now ≡ columns c.args.self.now = c.deref.ensures.value ∙ c.self.invariant.1 ∙ ap columns (let v = c.self.view_is in let view : arc_value c.self.inside.circuit ≡ c.args.self.now = cc v in view) in
    let shown = columns_show c.args.self.now words (c.law_of_validity.ensures.parts c.args.self.now (subst (λ d. is_valid d ≡ true) (let v = c.self.view_is in let view : arc_value c.self.inside.circuit ≡ c.args.self.now = cc v in view) c.self.invariant.0)).slots c.requires.room in
    let a = c.in_ok-push_time.ensures in
    let b = c.in_ok-push_values.ensures in
    let d = c.in_ok-push.ensures.items in
    let same = c.as_slice.ensures in
    (let all : c.push.new.self.items ≡ ((text ++ time_text c.args.sample.now.time) ++ flat_map (column_text words) (columns c.args.self.now)) ++ 10 ∷ [] = cc (a, b, d, there, same) in all)
    ∙ line_is text (time_text c.args.sample.now.time) (flat_map (column_text words) (columns c.args.self.now))
    ∙ ap (λ values. text ++ (time_text c.args.sample.now.time ++ values ++ 10 ∷ [])) shown
