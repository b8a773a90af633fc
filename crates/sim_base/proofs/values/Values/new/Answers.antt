use Rattle.std.proofs.Common.{◌≡◌, ◌<◌, ◌^◌, ◌+◌, suc, ℕ, ◌∙◌, List, [], ◌∷◌, ◌++◌, length, get_or, map, take, replicate, take_all, sym, ap, subst, arith, length-append}
use Rattle.std.proofs.lemmas.List.{map-append, length-map}
use Rattle.std.proofs.Math.Seq.{take-suc}
use Rattle.sim_base.specs.Values.{first_word, room_of, values_of, IsLaidOut}
use Rattle.sim_base.specs.declared.values.Span.{Span}
use Rattle.sim_base.proofs.Blocks.{place_start, place_step, place_end, room_for, values_of_zeros}
use Rattle.sim_base.proofs.Held.{laid_zeros, placed_more}
use Rattle.sim_base.proofs.values.Values.new.Goals as goal
use Rattle.sim_base.proofs.values.Values.new.Goals.{In_ok-words}

abbrev widths_in : List Span → List ℕ
widths_in spans = map (λ s. s.width) spans

abbrev places_in : List Span → List ℕ
places_in spans = map (λ s. s.place) spans

pub loop-width-init : goal.loop-width-init
loop-width-init c = record {
  shape = ap (λ (l : List Span). length l) c.in_ok-spans.ensures.items;
  written = ap widths_in c.in_ok-spans.ensures.items;
  placed = λ n h. absurd (omega arith);
  room = sym (place_start c.args.widths.now);
}

pub overflow_add-place : goal.overflow_add-place
overflow_add-place c =
    omega (arith, c.words_of-place.ensures, c.loop-width.invariant.room, c.requires, room_for c.args.widths.now c.loop-width.width-index c.loop-width-test.true)

pub loop-width-preserved : goal.loop-width-preserved
loop-width-preserved c =
    let e = c.in_ok-push.ensures.items in
    let i = c.loop-width.width-index in
    let new : Span = record { place = c.loop-width.place; width = get_or c.args.widths.now i 0 } in
    let l : length (places_in c.loop-width.spans.items) ≡ i = length-map c.loop-width.spans.items (λ (s : Span). s.place) ∙ c.loop-width.invariant.shape in
    let z : suc i ≡ i + 1 = omega arith in
    record {
      shape = ap (λ (l : List Span). length l) e ∙ length-append c.loop-width.spans.items (new ∷ []) ∙ ap (λ n. n + 1) c.loop-width.invariant.shape;
      written = ap widths_in e ∙ map-append (λ (s : Span). s.width) c.loop-width.spans.items (new ∷ [])
          ∙ ap (λ (l : List ℕ). l ++ get_or c.args.widths.now i 0 ∷ []) c.loop-width.invariant.written
          ∙ sym (take-suc c.args.widths.now i 0 c.loop-width-test.true)
          ∙ ap (λ n. take n c.args.widths.now) z;
      placed = λ n h. ap (λ (l : List ℕ). get_or l n 0) (ap places_in e ∙ map-append (λ (s : Span). s.place) c.loop-width.spans.items (new ∷ []))
          ∙ placed_more c.args.widths.now (places_in c.loop-width.spans.items) i c.loop-width.place l c.loop-width.invariant.room c.loop-width.invariant.placed n h;
      room = omega (arith, c.words_of-place.ensures, c.loop-width.invariant.room, place_step c.args.widths.now i c.loop-width-test.true);
    }

all : (c : In_ok-words) → c.loop-width.width-index ≡ length c.args.widths.now
all c = omega arith

room : (c : In_ok-words) → c.loop-width.place ≡ room_of c.args.widths.now
room c = c.loop-width.invariant.room ∙ ap (first_word c.args.widths.now) (all c) ∙ place_end c.args.widths.now

few : (c : In_ok-words) → c.loop-width.place < 2 ^ 32
few c = omega (arith, room c, c.requires)

words : (c : In_ok-words) → c.in_ok-words.words.items ≡ replicate {A = ℕ} c.loop-width.place 0
words c = c.in_ok-words.ensures.items_if_clones_equal (λ y e. e)

spans : (c : In_ok-words) → widths_in c.loop-width.spans.items ≡ c.args.widths.now
spans c = c.loop-width.invariant.written ∙ take_all c.loop-width.width-index c.args.widths.now (omega (arith, all c))

pub invariant_of-result : goal.invariant_of-result
invariant_of-result c =
    subst (λ (l : List ℕ). IsLaidOut c.in_ok-words.words.items l (places_in c.loop-width.spans.items)) (sym (spans c))
    (subst (λ (l : List ℕ). IsLaidOut l c.args.widths.now (places_in c.loop-width.spans.items)) (sym (words c))
    (laid_zeros c.args.widths.now (places_in c.loop-width.spans.items) c.loop-width.place (few c) (room c) (length-map c.loop-width.spans.items (λ (s : Span). s.place) ∙ c.loop-width.invariant.shape ∙ all c) (λ n lt. c.loop-width.invariant.placed n (omega (arith, lt, all c)))))

pub returns : goal.returns
returns c =
    ap (λ (l : List ℕ). values_of l c.in_ok-words.words.items) (spans c)
    ∙ ap (λ (l : List ℕ). values_of c.args.widths.now l) (words c)
    ∙ values_of_zeros c.args.widths.now c.loop-width.place (omega (arith, room c))
