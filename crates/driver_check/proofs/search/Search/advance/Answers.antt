use Rattle.std.proofs.Common.{◌≡◌, ℕ, ◌+◌, ◌<◌, ◌≤◌, List, length, sym, subst, refl, arith, Some, get_or, ◌++◌, ◌∷◌, [], suc}
use Rattle.std.specs.Prelude.{slice_get}
use Rattle.std.proofs.lemmas.Option.{slice_get-get_or}
use Rattle.std.proofs.lemmas.Result.{on_ok_weaker}
use Rattle.driver_check.specs.Invariants.{IsSearch, turns, turns_left}
use Rattle.driver_check.specs.Search.{Needs}
use Rattle.driver_check.specs.declared.graph.Span.{Span}
use Rattle.driver_check.specs.declared.search.Frame.{Frame}
use Rattle.driver_check.proofs.Places.{last}
use Rattle.driver_check.proofs.Steps.{all_seen, moved, span_more}
use Rattle.driver_check.proofs.Turns.{less_span, turns_on}
use Rattle.driver_check.proofs.search.Search.advance.Goals as goal

abbrev none : Span
none = record { first = 0; width = 0 }

pub finish-requires : goal.finish-requires
finish-requires c = c.requires.frames (length c.args.self.now.stack.items) c.args.frame (last c.args.self.now.stack.items c.args.frame)

pub returns-then-frame-row-clause-search : goal.returns-then-frame-row-clause-search
returns-then-frame-row-clause-search c =
    let f : Frame = c.args.frame in
    on_ok_weaker c.finish.result (λ h rows was is. h rows was (λ w need.
    was.seen (length c.args.self.now.stack.items) w f (last c.args.self.now.stack.items f)
    (all_seen (rows f.vertex) f.span f.offset w (subst (λ (spans : List Span). length spans ≤ f.span) (sym is) (omega arith)) need))) c.finish.ensures.search

-- the vertex at the place of the frame
at : (spans : List Span) (span offset : ℕ) → span < length spans → offset < (get_or spans span none).width → Needs spans ((get_or spans span none).first + offset)
at spans span offset lt in_span = (span, get_or spans span none, slice_get-get_or spans span none lt, omega arith, omega (arith, in_span))

pub overflow_add-span : goal.overflow_add-span
overflow_add-span c =
    let lt = c.requires.inside ((get_or c.args.row.now c.args.frame.span none).first + c.args.frame.offset) (at c.args.row.now c.args.frame.span c.args.frame.offset (omega arith) c.if-frame-span.true) in
    let small = c.args.self.now.marks.small in
    let long = c.args.self.now.marks.ok in
    omega (arith, lt, small, long.0, long.1)

pub meet-requires-clause-vertex : goal.meet-requires-clause-vertex
meet-requires-clause-vertex c = c.requires.inside ((get_or c.args.row.now c.args.frame.span none).first + c.args.frame.offset) (at c.args.row.now c.args.frame.span c.args.frame.offset (omega arith) c.if-frame-span.true)

pub returns-then-frame-span-clause-search : goal.returns-then-frame-span-clause-search
returns-then-frame-span-clause-search c =
    let f : Frame = c.args.frame in
    on_ok_weaker c.meet.result (λ h rows was is. h rows (get_or c.args.row.now f.span none) was
    (subst (λ (spans : List Span). slice_get spans f.span ≡ Some (get_or c.args.row.now f.span none)) (sym is) (slice_get-get_or c.args.row.now f.span none (omega arith)))
    c.if-frame-span.true refl) c.meet.ensures.search

pub returns-clause-search : goal.returns-clause-search
returns-clause-search c = λ rows was is.
    let f : Frame = c.args.frame in
    let rest = c.args.self.now.stack.items in
    let next : Frame = record { vertex = f.vertex; span = f.span + 1; offset = 0 } in
    subst (λ (xs : List Frame). IsSearch rows c.args.self.now.marks.items c.args.self.now.order.items xs) (sym c.in_ok-push.ensures.items)
    (moved rows c.args.self.now.marks.items c.args.self.now.order.items rest f was next refl
    (λ w seen. was.seen (length rest) w f (last rest f)
    (span_more (rows f.vertex) f.span f.offset w (get_or c.args.row.now f.span none)
    (subst (λ (spans : List Span). slice_get spans f.span ≡ Some (get_or c.args.row.now f.span none)) (sym is) (slice_get-get_or c.args.row.now f.span none (omega arith)))
    c.if-frame-span.false seen)))

pub returns-clause-turns : goal.returns-clause-turns
returns-clause-turns c = λ rows is.
    let f : Frame = c.args.frame in
    let rest = c.args.self.now.stack.items in
    let marks = c.args.self.now.marks.items in
    let next : Frame = record { vertex = f.vertex; span = f.span + 1; offset = 0 } in
    let spans = rows f.vertex in
    let here : slice_get spans f.span ≡ Some (get_or c.args.row.now f.span none) = subst (λ (xs : List Span). slice_get xs f.span ≡ Some (get_or c.args.row.now f.span none)) (sym is) (slice_get-get_or c.args.row.now f.span none (omega arith)) in
    let less : turns_left spans (f.span + 1) 0 < turns_left spans f.span f.offset = subst (λ (k : ℕ). turns_left spans k 0 < turns_left spans f.span f.offset) (let e : suc f.span ≡ f.span + 1 = omega arith in e) (less_span spans f.span f.offset (get_or c.args.row.now f.span none) here) in
    subst (λ (xs : List Frame). turns rows marks xs < turns rows marks (rest ++ f ∷ [])) (sym c.in_ok-push.ensures.items)
    (turns_on rows marks rest f next less)
