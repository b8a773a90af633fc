-- One more block behind the others.
use Rattle.std.proofs.Common.{◌≡◌, ℕ, zero, suc, ◌+◌, ◌<◌, ◌≤◌, List, [], ◌∷◌, ◌++◌, length, take, refl, sym, ◌∙◌, ap, subst, arith, inl, inr, ◌⊎◌, Some}
use Rattle.std.specs.Prelude.{slice_get}
use Rattle.std.proofs.lemmas.List.{length-map, map-append, take_all, take-append-le}
use Rattle.sim_base.specs.TimeText.{largest_time}
use Rattle.stimulus_blocks.specs.Blocks.{IsBlock, length_in, length_of, samples_in, samples_of}
use Rattle.stimulus_blocks.specs.Courses.{Course, IsCourse}
use Rattle.stimulus_blocks.specs.Placed.{blocks_of, IsPlaced}
use Rattle.stimulus_blocks.specs.declared.block.Block.{Block}
use Rattle.stimulus_blocks.specs.declared.course.Placed.{Placed}

pub samples_push : (bs : List Block) (b : Block) → samples_in (bs ++ b ∷ []) ≡ samples_in bs + samples_of b
samples_push [] b = omega arith
samples_push (c ∷ bs) b = omega (arith, samples_push bs b)

pub length_push : (bs : List Block) (b : Block) → length_in (bs ++ b ∷ []) ≡ length_in bs + length_of b
length_push [] b = omega arith
length_push (c ∷ bs) b = omega (arith, length_push bs b)

pub some_blocks : (bs : List Block) (k : ℕ) → k < samples_in bs → 0 < length bs
some_blocks [] k lt = absurd (omega arith)
some_blocks (b ∷ bs) k lt = omega arith

appended : {X : Type 0} (xs : List X) (x : X) (n : ℕ) (y : X) → slice_get (xs ++ x ∷ []) n ≡ Some y → ((n < length xs) × (slice_get xs n ≡ Some y)) ⊎ ((n ≡ length xs) × (x ≡ y))
appended [] x zero y e = inr (refl, (let s : x ≡ y = cc e in s))
appended [] x (suc n) y e = cc e
appended (z ∷ xs) x zero y e = inl (omega arith, e)
appended (z ∷ xs) x (suc n) y e = elim (appended xs x n y e) [
  | inl there ↦ inl (let l = there.0 in omega arith, there.1)
  | inr last ↦ inr (ap suc last.0, last.1)
]

front : (ps : List Placed) (p : Placed) (n : ℕ) → n ≤ length ps → take n (blocks_of (ps ++ p ∷ [])) ≡ take n (blocks_of ps)
front ps p n le =
    let inside : n ≤ length (blocks_of ps) = omega (arith, length-map ps (λ q. q.block)) in
    ap (λ (bs : List Block). take n bs) (map-append (λ q. q.block) ps (p ∷ [])) ∙ take-append-le n (blocks_of ps) (p.block ∷ []) inside

whole : (ps : List Placed) → take (length ps) (blocks_of ps) ≡ blocks_of ps
whole ps = take_all (length ps) (blocks_of ps) (omega (arith, length-map ps (λ q. q.block)))

pub blocks_push : (ps : List Placed) (p : Placed) → blocks_of (ps ++ p ∷ []) ≡ blocks_of ps ++ p.block ∷ []
blocks_push ps p = map-append (λ q. q.block) ps (p ∷ [])

pub placed_push : (ps : List Placed) (p : Placed) (samples finish more later : ℕ) → IsPlaced ps samples finish → p.first ≡ samples → p.start ≡ finish → more ≡ samples + samples_of p.block → later ≡ finish + length_of p.block → IsPlaced (ps ++ p ∷ []) more later
placed_push ps p samples finish more later good first start more_is later_is = record {
  first = λ n q at. elim (appended ps p n q at) [
    | inl there ↦ good.first n q there.1 ∙ ap samples_in (sym (front ps p n (let l = there.0 in omega arith)))
    | inr last ↦
        ap (λ x. x.first) (sym last.1) ∙ first ∙ good.count
        ∙ sym (ap samples_in (front ps p n (let l = last.0 in omega arith) ∙ ap (λ m. take m (blocks_of ps)) last.0 ∙ whole ps))
  ];
  start = λ n q at. elim (appended ps p n q at) [
    | inl there ↦ good.start n q there.1 ∙ ap length_in (sym (front ps p n (let l = there.0 in omega arith)))
    | inr last ↦
        ap (λ x. x.start) (sym last.1) ∙ start ∙ good.end
        ∙ sym (ap length_in (front ps p n (let l = last.0 in omega arith) ∙ ap (λ m. take m (blocks_of ps)) last.0 ∙ whole ps))
  ];
  count = more_is ∙ ap (λ n. n + samples_of p.block) good.count ∙ sym (ap samples_in (blocks_push ps p) ∙ samples_push (blocks_of ps) p.block);
  end = later_is ∙ ap (λ n. n + length_of p.block) good.end ∙ sym (ap length_in (blocks_push ps p) ∙ length_push (blocks_of ps) p.block);
}

pub course_push : (s : Course) (b : Block) → IsCourse s → IsBlock s.widths b → samples_in s.blocks + samples_of b ≤ 16777216 → length_in s.blocks + length_of b ≤ largest_time → IsCourse (record s { blocks = s.blocks ++ b ∷ [] })
course_push s b good block few ends = record {
  blocks = λ n c at. elim (appended s.blocks b n c at) [
    | inl there ↦ good.blocks n c there.1
    | inr last ↦ subst (λ (x : Block). IsBlock s.widths x) last.1 block
  ];
  few = omega (arith, samples_push s.blocks b);
  ends = omega (arith, length_push s.blocks b);
  columns = good.columns;
}
