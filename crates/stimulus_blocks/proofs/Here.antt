-- The block of a sample, found at its place.
use Rattle.std.proofs.Common.{◌≡◌, ℕ, ◌+◌, ◌-◌, ◌*◌, ◌/◌, ◌%◌, ◌^◌, ◌<◌, ◌≤◌, List, length, get_or, map, take, sym, ◌∙◌, ap, subst, arith, leb, inl, inr, Some, None}
use Rattle.std.specs.Prelude.{slice_get}
use Rattle.std.proofs.Math.Nat.{div-lt_iff_lt-mul, mod-lt, mul-le-mul_right}
use Rattle.std.proofs.Math.ListN.{get_or-map}
use Rattle.std.proofs.lemmas.List.{get_or_default, get_or_past, get_or-map as get_or-map-at}
use Rattle.std.proofs.lemmas.Nat.{div-add-mod', div-mul-add, mod-mul-add, pow_pos}
use Rattle.stimulus_text.specs.Numbers.{number_of}
use Rattle.stimulus_text.specs.declared.value.Value.{Value}
use Rattle.std.proofs.lemmas.Bool.{cases_lt, cases_Bool, cond-true, cond-false, le-leb}
use Rattle.std.proofs.lemmas.List.{length-map}
use Rattle.sim_base.specs.TimeText.{largest_time, time_of}
use Rattle.stimulus_blocks.specs.Rows.{no_row}
use Rattle.stimulus_blocks.specs.Blocks.{IsBlock, IsRow, later, length_in, sample_at, sample_of, samples_in, samples_of}
use Rattle.stimulus_blocks.specs.Courses.{Course, HasSample, IsCourse, row_of}
use Rattle.stimulus_blocks.specs.Placed.{blocks_of, IsPlaced}
use Rattle.stimulus_blocks.specs.Standings.{block_at, no_block, Stands}
use Rattle.stimulus_blocks.specs.declared.block.Block.{Block}
use Rattle.stimulus_blocks.specs.declared.course.Placed.{Placed}
use Rattle.stimulus_blocks.specs.declared.course.Standing.{Standing}
use Rattle.stimulus_blocks.proofs.Samples.{course_end, found, get_read, last_there, samples_more, samples_taken}

-- what a block that has sample k says of it
pub record Here (s : Course) (place k : ℕ) (p : Placed) : Type 0 where
  pub is : block_at s place ≡ p.block
  pub first : p.first ≡ samples_in (take place s.blocks)
  pub start : p.start ≡ length_in (take place s.blocks)
  pub before : p.first ≤ k
  pub within : k - p.first < samples_of p.block
  pub block : IsBlock s.widths p.block
  pub sample : sample_at s.blocks k ≡ later p.start (sample_of p.block (k - p.first))
  pub time : p.start + (sample_of p.block (k - p.first)).offset ≤ largest_time

pub here : (ps : List Placed) (samples finish : ℕ) (widths columns : List ℕ) → IsPlaced ps samples finish → IsCourse (record { widths = widths; columns = columns; blocks = blocks_of ps }) → (place k : ℕ) (p : Placed) → HasSample (blocks_of ps) place k → p ≡ get_or ps place p → Here (record { widths = widths; columns = columns; blocks = blocks_of ps }) place k p
here ps samples finish widths columns placed good place k p has at =
    let inside : place < length ps = omega (arith, has.there, length-map ps (λ q. q.block)) in
    let read : slice_get ps place ≡ Some p = get_read ps place p inside ∙ ap (λ (q : Placed). Some q) (sym at) in
    let first = placed.first place p read in
    let start = placed.start place p read in
    let block : get_or (blocks_of ps) place p.block ≡ p.block = get_or-map (λ q. q.block) ps place p ∙ ap (λ q. q.block) (sym at) in
    let read_block : slice_get (blocks_of ps) place ≡ Some p.block = get_read (blocks_of ps) place p.block has.there ∙ ap (λ (b : Block). Some b) block in
    let last : k - samples_in (take place (blocks_of ps)) < samples_of (get_or (blocks_of ps) place p.block) = last_there (blocks_of ps) place k p.block has.there has.first has.last in
    let is : sample_at (blocks_of ps) k ≡ later (length_in (take place (blocks_of ps))) (sample_of (get_or (blocks_of ps) place p.block) (k - samples_in (take place (blocks_of ps)))) = found (blocks_of ps) place k p.block has.there has.first has.last in
    let sample : sample_at (blocks_of ps) k ≡ later p.start (sample_of p.block (k - p.first)) =
    is ∙ ap (λ b. later (length_in (take place (blocks_of ps))) (sample_of b (k - samples_in (take place (blocks_of ps))))) block
    ∙ ap (λ t. later t (sample_of p.block (k - samples_in (take place (blocks_of ps))))) (sym start) ∙ ap (λ n. later p.start (sample_of p.block (k - n))) (sym first) in
    let early : (sample_at (blocks_of ps) k).offset < length_in (blocks_of ps) = course_end widths (blocks_of ps) k good.blocks (omega (arith, has.last, samples_taken (blocks_of ps) (place + 1))) in
    record {
      is = get_or_default (blocks_of ps) place no_block p.block has.there ∙ block;
      first = first;
      start = start;
      before = omega (arith, has.first, first);
      within = omega (arith, last, first, ap samples_of block);
      block = good.blocks place p.block read_block;
      sample = sample;
      time = omega (arith, early, ap (λ x. x.offset) sample, good.ends);
    }

pub time_value : (n m : ℕ) → time_of n ≡ Some m → m ≡ n
time_value n m e = elim (cases_Bool (leb n largest_time)) [
  | inl t ↦ (let f : Some n ≡ Some m = sym (cond-true (leb n largest_time) (Some n) None t) ∙ e in let g : n ≡ m = cc f in sym g)
  | inr f ↦ (let f : None ≡ Some m = sym (cond-false (leb n largest_time) (Some n) None f) ∙ e in cc f)
]

pub time_some : (n : ℕ) → n ≤ largest_time → time_of n ≡ Some n
time_some n le = cond-true (leb n largest_time) (Some n) None (le-leb n largest_time le)

pub holds : (widths columns : List ℕ) (ps : List Placed) (samples finish : ℕ) (self : Course) (place k : ℕ) (p : Placed) → ◌≡◌ {A = Course} (record { widths = widths; columns = columns; blocks = blocks_of ps }) self
    → IsPlaced ps samples finish × IsCourse (record { widths = widths; columns = columns; blocks = blocks_of ps }) → HasSample self.blocks place k → p ≡ get_or ps place p → Here self place k p
holds widths columns ps samples finish self place k p view good has at =
    subst (λ (s : Course). Here s place k p) view
    (here ps samples finish widths columns good.0 good.1 place k p (subst (λ (s : Course). HasSample s.blocks place k) (sym view) has) at)

-- ---- where a sample stands

-- a sample stands where its number is divided by the number of rows
pub stands_at : (s : Course) (place k : ℕ) (p : Placed) → HasSample s.blocks place k → Here s place k p → (rows repeat row start : ℕ) → rows ≡ length p.block.rows → repeat ≡ (k - p.first) / rows → row ≡ (k - p.first) % rows → start ≡ p.start + repeat * p.block.period → Stands s (record { sample = k; block = place; repeat = repeat; row = row; start = start })
stands_at s place k p has h rows repeat row start rows_is repeat_is row_is start_is =
    let n : length (block_at s place).rows ≡ rows = ap (λ b. length b.rows) h.is ∙ sym rows_is in
    let some : 0 < rows = omega (arith, h.block.some) in
    let inside : (k - p.first) % rows < rows = mod-lt (k - p.first) some in
    let whole : (k - p.first) / rows * rows + (k - p.first) % rows ≡ k - p.first = div-add-mod' (k - p.first) rows in
    record {
      has = has;
      row = omega arith;
      sample = let e : repeat * length (block_at s place).rows ≡ (k - p.first) / rows * rows = ap (λ q. q * length (block_at s place).rows) repeat_is ∙ ap (λ m. (k - p.first) / rows * m) n in omega (arith, h.before, h.first);
      start = start_is ∙ ap (λ t. t + repeat * p.block.period) h.start ∙ ap (λ b. length_in (take place s.blocks) + repeat * b.period) (sym h.is);
    }

module _ (s : Course) (at : Standing) (p : Placed) (h : Here s at.block at.sample p) (st : Stands s at) where
  rows_are : length (block_at s at.block).rows ≡ length p.block.rows
  rows_are = ap (λ b. length b.rows) h.is

  pub row_there : at.row < length p.block.rows
  row_there = let r = st.row in omega (arith, rows_are)

  apart : at.sample - p.first ≡ at.repeat * length p.block.rows + at.row
  apart = let e : at.repeat * length (block_at s at.block).rows ≡ at.repeat * length p.block.rows = ap (λ n. at.repeat * n) rows_are in omega (arith, st.sample, h.first)

  repeat_is : (at.sample - p.first) / length p.block.rows ≡ at.repeat
  repeat_is = ap (λ n. n / length p.block.rows) apart ∙ div-mul-add at.repeat (length p.block.rows) at.row row_there

  row_is : (at.sample - p.first) % length p.block.rows ≡ at.row
  row_is = ap (λ n. n % length p.block.rows) apart ∙ mod-mul-add at.repeat (length p.block.rows) at.row row_there

  start_is : at.start ≡ p.start + at.repeat * p.block.period
  start_is = st.start ∙ ap (λ t. t + at.repeat * (block_at s at.block).period) (sym h.start) ∙ ap (λ b. p.start + at.repeat * b.period) h.is

  offset_is : p.start + (sample_of p.block (at.sample - p.first)).offset ≡ at.start + (get_or p.block.rows at.row no_row).offset
  offset_is =
      let q = ap (λ r. r * p.block.period) repeat_is in
      let r = ap (λ r. (get_or p.block.rows r no_row).offset) row_is in omega (arith, start_is)

  pub time_small : at.start + (get_or p.block.rows at.row no_row).offset ≤ largest_time
  time_small = let t = h.time in omega (arith, offset_is)

  pub time_is : at.start + (get_or p.block.rows at.row no_row).offset ≡ (row_of s at.sample).time
  unfolding row_of
  time_is = sym offset_is ∙ sym (ap (λ x. x.offset) h.sample)

  values_are : (sample_of p.block (at.sample - p.first)).values ≡ (get_or p.block.rows at.row no_row).values
  values_are = ap (λ r. (get_or p.block.rows r no_row).values) row_is

  pub repeat_before : at.repeat < p.block.repeats
  repeat_before =
      let q : (at.sample - p.first) / length p.block.rows < p.block.repeats = (div-lt_iff_lt-mul {k = length p.block.rows} {x = at.sample - p.first} {y = p.block.repeats} h.block.some).1 h.within in
      omega (arith, repeat_is)

  repeat_small : at.repeat ≤ at.repeat * length p.block.rows
  repeat_small = let m : 1 * at.repeat ≤ length p.block.rows * at.repeat = mul-le-mul_right at.repeat h.block.some in grind arith

  pub small : IsCourse s → (at.sample < 16777216) × (at.repeat < 16777216) × (at.row < 16777216)
  small good =
      let l : at.sample < 16777216 = omega (arith, st.has.last, samples_taken s.blocks (at.block + 1), good.few) in
      let a = apart in let r = repeat_small in (l, omega arith, omega arith)

  -- the block ends behind its samples
  block_last : samples_in (take (at.block + 1) s.blocks) ≡ p.first + p.block.repeats * length p.block.rows
  block_last =
      samples_more s.blocks at.block no_block st.has.there
      ∙ ap (λ n. n + samples_of (block_at s at.block)) (sym h.first) ∙ ap (λ b. p.first + samples_of b) h.is

  all_rows : (at.repeat + 1) * length p.block.rows ≤ p.block.repeats * length p.block.rows
  all_rows = mul-le-mul_right (length p.block.rows) (let r = repeat_before in omega arith)

  pub next_row : at.row + 1 < length p.block.rows → Stands s (record { sample = at.sample + 1; block = at.block; repeat = at.repeat; row = at.row + 1; start = at.start })
  next_row lt = record {
    has = record {
      there = st.has.there;
      first = omega (arith, st.has.first);
      last = let m = all_rows in let a = apart in let b = h.before in omega (arith, block_last);
    };
    row = omega (arith, rows_are);
    sample = omega (arith, st.sample);
    start = st.start;
  }

  pub next_repeat : length p.block.rows ≤ at.row + 1 → at.repeat + 1 < p.block.repeats → (start : ℕ) → start ≡ at.start + p.block.period → Stands s (record { sample = at.sample + 1; block = at.block; repeat = at.repeat + 1; row = 0; start = start })
  next_repeat le lt start e =
      let m : (at.repeat + 1 + 1) * length p.block.rows ≤ p.block.repeats * length p.block.rows = mul-le-mul_right (length p.block.rows) (omega arith) in
      record {
        has = record {
          there = st.has.there;
          first = omega (arith, st.has.first);
          last = let a = apart in let b = h.before in let r = row_there in omega (arith, block_last);
        };
        row = omega (arith, rows_are, h.block.some);
        sample =
            let n : (at.repeat + 1) * length (block_at s at.block).rows ≡ at.repeat * length (block_at s at.block).rows + length (block_at s at.block).rows = grind arith in
            let r = row_there in omega (arith, st.sample, rows_are);
        start =
            let n : (at.repeat + 1) * (block_at s at.block).period ≡ at.repeat * (block_at s at.block).period + (block_at s at.block).period = grind arith in
            omega (arith, e, st.start, ap (λ b. b.period) h.is);
      }

  -- ---- the inputs

  module _ (good : IsCourse s) (values : List Value) (columns : List ℕ) (columns_is : columns ≡ s.columns) (values_is : map number_of values ≡ (get_or p.block.rows at.row no_row).values) where
    row_good : IsRow s.widths (get_or p.block.rows at.row no_row)
    row_good = h.block.rows.each at.row (get_or p.block.rows at.row no_row) (get_read p.block.rows at.row no_row row_there)

    pub columns_there : (n : ℕ) → n < length columns → get_or columns n 0 < length values
    columns_there n lt =
        let c : get_or s.columns n 0 < length s.widths = good.columns n (omega (arith, lt, ap (λ (l : List ℕ). length l) columns_is)) in
        let e : get_or columns n 0 ≡ get_or s.columns n 0 = ap (λ (l : List ℕ). get_or l n 0) columns_is in
        let l : length (map number_of values) ≡ length s.widths = ap (λ (l : List ℕ). length l) values_is ∙ row_good.long in
        omega (arith, length-map values number_of)

    pub values_fit : (given : List ℕ) → given ≡ map (λ column. get_or s.widths column 0) s.columns → (n : ℕ) → get_or (map (λ column. get_or (map number_of values) column 0) columns) n 0 < 2 ^ get_or given n 0
    values_fit given e n = elim (cases_lt n (length columns)) [
      | inl inside ↦
          (let in_s : n < length s.columns = omega (arith, ap (λ (l : List ℕ). length l) columns_is) in
          let v : get_or (map (λ column. get_or (map number_of values) column 0) columns) n 0 ≡ get_or (get_or p.block.rows at.row no_row).values (get_or s.columns n 0) 0 =
          get_or-map-at (λ column. get_or (map number_of values) column 0) columns n 0 0 inside
          ∙ ap (λ (l : List ℕ). get_or l (get_or columns n 0) 0) values_is ∙ ap (λ (l : List ℕ). get_or (get_or p.block.rows at.row no_row).values (get_or l n 0) 0) columns_is in
          let w : get_or given n 0 ≡ get_or s.widths (get_or s.columns n 0) 0 =
          ap (λ (l : List ℕ). get_or l n 0) e ∙ get_or-map-at (λ column. get_or s.widths column 0) s.columns n 0 0 in_s in
          subst (λ x. x < 2 ^ get_or given n 0) (sym v) (subst (λ x. get_or (get_or p.block.rows at.row no_row).values (get_or s.columns n 0) 0 < 2 ^ x) (sym w) (row_good.below (get_or s.columns n 0))))
      | inr outside ↦
          subst (λ x. x < 2 ^ get_or given n 0) (sym (get_or_past (map (λ column. get_or (map number_of values) column 0) columns) n 0 (omega (arith, length-map columns (λ column. get_or (map number_of values) column 0))))) (pow_pos (get_or given n 0))
    ]

    pub inputs_put : map (λ column. get_or (map number_of values) column 0) columns ≡ (row_of s at.sample).inputs
    unfolding row_of
    inputs_put =
        ap (λ (l : List ℕ). map (λ column. get_or (map number_of values) column 0) l) columns_is
        ∙ ap (λ (l : List ℕ). map (λ column. get_or l column 0) s.columns) (values_is ∙ sym values_are)
        ∙ sym (ap (λ x. map (λ column. get_or x.values column 0) s.columns) h.sample)
