use Rattle.std.proofs.Common.{◌≡◌, ℕ, ◌+◌, ◌-◌, ◌/◌, ◌%◌, ◌<◌, set, drop, get_or, ◌∙◌, ap, arith}
use Rattle.std.specs.Int.{bit_at}
use Rattle.std.proofs.lemmas.List.{get_or_read}
use Rattle.sim_base.specs.BitValue.{digit_after_set}
use Rattle.dirty_set.proofs.Leaves.{leaf_inside, leaf_digits, leaf_written}
use Rattle.dirty_set.proofs.set.DirtySet.mark.Goals as goal
use Rattle.dirty_set.proofs.set.DirtySet.mark.Goals.{After-put_leaf}

within : (c : After-put_leaf) → c.args.i < c.self.inside.size
within c = let w : c.self.inside.size ≡ c.args.self.now.width = ap (λ v. v.width) c.self.view_is in let r = c.requires in omega (arith, w, r)

one : (c : After-put_leaf) (j : ℕ) → j < 64 → bit_at c.with_digit-word.result j ≡ digit_after_set (c.args.i % 64) 1 (get_or c.self.inside.words.items (c.self.inside.first + c.args.i / 64) 0) j
one c j h =
    c.with_digit-word.ensures j h
    ∙ ap (λ x. digit_after_set (c.args.i % 64) 1 x j) (get_or_read c.self.inside.words.items (c.self.inside.first + c.args.i / 64) c.index.result.now (leaf_inside _ _ _ _ c.self.invariant c.args.i (within c)) c.index.ensures 0)

leaves : (c : After-put_leaf) → drop c.self.inside.first c.put_leaf.new.words.items ≡ set (drop c.self.inside.first c.self.inside.words.items) (c.args.i / 64) c.with_digit-word.result
leaves c =
    let e : c.self.inside.first + c.args.i / 64 - c.self.inside.first ≡ c.args.i / 64 = omega arith in
    c.put_leaf.ensures.leaves c.self.inside.first (omega arith) c.self.invariant.joined
    ∙ ap (λ k. set (drop c.self.inside.first c.self.inside.words.items) k c.with_digit-word.result) e

pub invariant_of-self : goal.invariant_of-self
invariant_of-self c =
    leaf_written c.self.inside.size c.self.inside.first c.self.inside.depth c.self.inside.words.items c.self.invariant
    c.put_leaf.new.words.items c.args.i 1 c.with_digit-word.result c.put_leaf.ensures.room
    (c.put_leaf.ensures.summed c.self.inside.first (omega arith) c.self.invariant.joined c.self.invariant.summed)
    c.put_leaf.ensures.fit (leaves c) (within c) c.with_digit-word.type_inv (one c)

pub returns : goal.returns
returns c = record {
  width = ap (λ v. v.width) c.self.view_is;
  marks = λ j.
      leaf_digits c.self.inside.size c.self.inside.first c.self.inside.depth c.self.inside.words.items c.self.invariant
      c.put_leaf.new.words.items c.args.i 1 c.with_digit-word.result c.put_leaf.ensures.room
      (c.put_leaf.ensures.summed c.self.inside.first (omega arith) c.self.invariant.joined c.self.invariant.summed)
      c.put_leaf.ensures.fit (leaves c) (within c) c.with_digit-word.type_inv (one c) j
      ∙ ap (λ v. digit_after_set c.args.i 1 v.number j) c.self.view_is;
}
