use Rattle.std.proofs.Common.{◌≡◌, ◌≢◌, ℕ, ◌-◌, ◌<◌, ◌≤◌, ◌+◌, ◌*◌, w64, drop, List, get_or, sym, ◌∙◌, ap, subst, arith}
use Rattle.std.specs.Int.{trailing_zeros}
use Rattle.std.proofs.lemmas.List.{get_or_read}
use Rattle.sim_base.specs.BitValue.{bit_value, number_of_words}
use Rattle.dirty_set.specs.Marks.{IsLeastTaken}
use Rattle.dirty_set.proofs.Descent.{some_inside}
use Rattle.dirty_set.proofs.Leaves.{none_marked, root_inside}
use Rattle.dirty_set.proofs.Taken.{least_within, taken_tree, taken}
use Rattle.dirty_set.proofs.set.DirtySet.take.Goals as goal
use Rattle.dirty_set.proofs.set.DirtySet.take.Goals.{After-index-word}

same : (c : After-index-word) (k : ℕ) → get_or c.as_slice.result.now k 0 ≡ get_or c.self.inside.words.items k 0
same c k = ap (λ (l : List ℕ). get_or l k 0) c.as_slice.ensures.value

from : (c : After-index-word) → c.self.inside.first ≤ c.least_leaf-place.result
from c = let l = c.self.invariant.leaves in let e = c.least_leaf-place.ensures.leaf in omega (arith, l, e)

some : (c : After-index-word) → get_or c.self.inside.words.items c.least_leaf-place.result 0 ≢ 0
some c z = c.least_leaf-place.ensures.some (same c c.least_leaf-place.result ∙ z)

least : (c : After-index-word) (q : ℕ) → c.self.inside.first ≤ q → q < c.least_leaf-place.result → get_or c.self.inside.words.items q 0 ≡ 0
least c q a b = sym (same c q) ∙ c.least_leaf-place.ensures.least q (let l = c.self.invariant.leaves in omega (arith, l, a)) b

word_is : (c : After-index-word) → c.index-word.result.now ≡ get_or c.self.inside.words.items c.least_leaf-place.result 0
word_is c = get_or_read c.self.inside.words.items c.least_leaf-place.result c.index-word.result.now (some_inside c.self.inside.words.items c.least_leaf-place.result (some c)) c.index-word.ensures 0

pub returns-then-index-eq0-clause-none : goal.returns-then-index-eq0-clause-none
returns-then-index-eq0-clause-none c _ =
    sym (ap (λ v. v.number) c.self.view_is)
    ∙ none_marked _ _ _ _ c.self.invariant (sym (get_or_read c.self.inside.words.items 0 c.index.result.now (root_inside _ _ _ _ c.self.invariant) c.index.ensures 0) ∙ c.if-index-eq0.true)

pub overflow_cast-result-2 : goal.overflow_cast-result-2
overflow_cast-result-2 c =
    let d = (goal.at.overflow_cast-result-2 c).After-index-word in
    let w = least_within c.self.inside.size c.self.inside.first c.self.inside.depth c.self.inside.words.items c.self.invariant c.least_leaf-place.result c.index-word.result.now (from d) (some d) (least d) (word_is d) in
    omega (arith, w)

pub invariant_of-self : goal.invariant_of-self
invariant_of-self c =
    let d = (goal.at.invariant_of-self c).After-index-word in
    taken_tree c.self.inside.size c.self.inside.first c.self.inside.depth c.self.inside.words.items c.self.invariant
    c.least_leaf-place.result c.index-word.result.now (from d) (some d) (least d) (word_is d)
    c.put_leaf.new.words.items c.with_digit.result c.put_leaf.ensures.room
    (c.put_leaf.ensures.summed c.self.inside.first (from d) c.self.invariant.joined c.self.invariant.summed)
    c.put_leaf.ensures.fit
    (c.put_leaf.ensures.leaves c.self.inside.first (from d) c.self.invariant.joined)
    c.with_digit.type_inv c.with_digit.ensures

pub returns-clause-some : goal.returns-clause-some
returns-clause-some c =
    let d = (goal.at.returns-clause-some c).After-index-word in
    subst (λ v. IsLeastTaken ((c.least_leaf-place.result - c.self.inside.first) * 64 + trailing_zeros w64 c.index-word.result.now) v (bit_value c.self.inside.size (number_of_words (drop c.self.inside.first c.put_leaf.new.words.items)))) c.self.view_is
    (taken c.self.inside.size c.self.inside.first c.self.inside.depth c.self.inside.words.items c.self.invariant
    c.least_leaf-place.result c.index-word.result.now (from d) (some d) (least d) (word_is d)
    c.put_leaf.new.words.items c.with_digit.result c.put_leaf.ensures.room
    (c.put_leaf.ensures.summed c.self.inside.first (from d) c.self.invariant.joined c.self.invariant.summed)
    c.put_leaf.ensures.fit
    (c.put_leaf.ensures.leaves c.self.inside.first (from d) c.self.invariant.joined)
    c.with_digit.type_inv c.with_digit.ensures)
