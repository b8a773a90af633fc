-- The turns that are left to a search.
use Rattle.std.proofs.Common.{◌≡◌, ℕ, zero, suc, ◌+◌, ◌<◌, ◌≤◌, List, [], ◌∷◌, ◌++◌, length, set, refl, sym, ◌∙◌, ap, subst, arith, Some}
use Rattle.std.specs.Prelude.{slice_get}
use Rattle.std.proofs.lemmas.List.Sums.{sum_by-append}
use Rattle.driver_check.specs.Invariants.{IsNoNewer, frame_turns, mark_turns, turns, turns_if_new, turns_left}
use Rattle.driver_check.specs.Search.{Has, Rows}
use Rattle.driver_check.specs.declared.graph.Span.{Span}
use Rattle.driver_check.specs.declared.search.Frame.{Frame}
use Rattle.driver_check.specs.declared.search.Mark.{Mark}
use Rattle.driver_check.specs.declared.search.Mark.TheVariants as mark

-- ---- one row

pub some_left : (spans : List Span) (at offset : ℕ) → 0 < turns_left spans at offset
unfolding turns_left
some_left [] at offset = omega arith
some_left (s ∷ spans) zero offset = omega arith
some_left (s ∷ spans) (suc at) offset = some_left spans at offset

pub less_offset : (spans : List Span) (at offset : ℕ) (s : Span) → slice_get spans at ≡ Some s → offset < s.width → turns_left spans at (offset + 1) < turns_left spans at offset
unfolding turns_left
less_offset [] at offset s e lt = cc e
less_offset (x ∷ spans) zero offset s e lt = let h : x ≡ s = (let g : Some x ≡ Some s = e in cc g) in let w = ap (λ (y : Span). y.width) h in omega (arith, w, lt)
less_offset (x ∷ spans) (suc at) offset s e lt = less_offset spans at offset s e lt

pub less_span : (spans : List Span) (at offset : ℕ) (s : Span) → slice_get spans at ≡ Some s → turns_left spans (suc at) 0 < turns_left spans at offset
unfolding turns_left
less_span [] at offset s e = cc e
less_span (x ∷ spans) zero offset s e = omega arith
less_span (x ∷ spans) (suc at) offset s e = less_span spans at offset s e

-- ---- the frames

frames_append : (row : Rows) (stack : List Frame) (f : Frame) → frame_turns row (stack ++ f ∷ []) ≡ frame_turns row stack + turns_left (row f.vertex) f.span f.offset
frames_append row stack f = let h = sum_by-append (λ (g : Frame). turns_left (row g.vertex) g.span g.offset) stack (f ∷ []) in omega (arith, h)

-- ---- the vertices that are new

less_new : (m n : Mark) (k : ℕ) → (m ≡ mark.New → n ≡ mark.New) → turns_if_new m k ≤ turns_if_new n k
less_new mark.New n k h = let e : n ≡ mark.New = h refl in subst (λ (o : Mark). suc k ≤ turns_if_new o k) (sym e) (omega arith)
less_new mark.Open n k h = omega arith
less_new mark.Done n k h = omega arith
less_new mark.Stuck n k h = omega arith

pub marks_less : (row : Rows) (was now : List Mark) → length now ≡ length was → IsNoNewer was now → mark_turns row now ≤ mark_turns row was
unfolding mark_turns
marks_less row was [] e newer = omega arith
marks_less row [] (m ∷ now) e newer = absurd (let h : suc (length now) ≡ 0 = e in omega (arith, h))
marks_less row (n ∷ was) (m ∷ now) e newer =
    let head = less_new m n (turns_left (row 0) 0 0) (λ h. (let g : Some n ≡ Some mark.New = newer 0 (ap (λ (o : Mark). Some o) h) in cc g)) in
    let rest = marks_less (λ v. row (suc v)) was now (let h : suc (length now) ≡ suc (length was) = e in omega (arith, h)) (λ v h. newer (suc v) h) in
    omega (arith, head, rest)

-- a new vertex is met
new_met : (row : Rows) (marks : List Mark) (v : ℕ) → Has marks mark.New v → mark_turns row (set marks v mark.Open) + suc (turns_left (row v) 0 0) ≡ mark_turns row marks
unfolding mark_turns
new_met row [] v e = cc e
new_met row (m ∷ marks) zero e =
    let h : m ≡ mark.New = (let g : Some m ≡ Some mark.New = e in cc g) in
    let n : turns_if_new m (turns_left (row 0) 0 0) ≡ suc (turns_left (row 0) 0 0) = ap (λ (o : Mark). turns_if_new o (turns_left (row 0) 0 0)) h in
    omega (arith, n)
new_met row (m ∷ marks) (suc v) e = let h = new_met (λ u. row (suc u)) marks v e in omega (arith, h)

-- ---- the steps of the search

-- the top frame is taken off
pub turns_off : (row : Rows) (was now : List Mark) (stack : List Frame) (f : Frame) → length now ≡ length was → IsNoNewer was now → turns row now stack < turns row was (stack ++ f ∷ [])
turns_off row was now stack f long newer =
    let m = marks_less row was now long newer in
    let a = frames_append row stack f in
    let s = some_left (row f.vertex) f.span f.offset in
    omega (arith, m, a, s)

-- all frames are
pub turns_end : (row : Rows) (was now : List Mark) (stack : List Frame) (f : Frame) → length now ≡ length was → IsNoNewer was now → turns row now [] < turns row was (stack ++ f ∷ [])
turns_end row was now stack f long newer =
    let m = marks_less row was now long newer in
    let a = frames_append row stack f in
    let s = some_left (row f.vertex) f.span f.offset in
    let z : frame_turns row [] ≡ 0 = refl in
    omega (arith, m, a, s, z)

-- the top frame goes on in its row
pub turns_on : (row : Rows) (marks : List Mark) (stack : List Frame) (f h : Frame) → turns_left (row h.vertex) h.span h.offset < turns_left (row f.vertex) f.span f.offset → turns row marks (stack ++ h ∷ []) < turns row marks (stack ++ f ∷ [])
turns_on row marks stack f h less =
    let a = frames_append row stack f in
    let b = frames_append row stack h in
    omega (arith, a, b, less)

-- a new vertex is entered
pub turns_in : (row : Rows) (marks : List Mark) (stack : List Frame) (v : ℕ) (g : Frame) → g.vertex ≡ v → g.span ≡ 0 → g.offset ≡ 0 → Has marks mark.New v → turns row (set marks v mark.Open) (stack ++ g ∷ []) < turns row marks stack
turns_in row marks stack v g vertex span offset new =
    let a = frames_append row stack g in
    let m = new_met row marks v new in
    let l : turns_left (row g.vertex) g.span g.offset ≡ turns_left (row v) 0 0 = ap (λ (u : ℕ). turns_left (row u) g.span g.offset) vertex ∙ ap (λ (u : ℕ). turns_left (row v) u g.offset) span ∙ ap (λ (u : ℕ). turns_left (row v) 0 u) offset in
    omega (arith, a, m, l)
