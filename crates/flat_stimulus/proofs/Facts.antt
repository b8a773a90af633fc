-- What holds of a block that was read.
use Rattle.std.proofs.Common.{◌≡◌, ℕ, zero, suc, ◌+◌, ◌*◌, ◌/◌, ◌%◌, ◌^◌, ◌<◌, ◌≤◌, List, [], ◌∷◌, length, get_or, map, Bool, true, false, refl, sym, ◌∙◌, ap, subst, arith, inl, inr, Option, Some, None, Result, Ok, Err, cond, leb, ltb, ◌&&◌}
use Rattle.std.specs.Prelude.{◌==◌, IfOk, option_and_then, position, slice_get}
use Rattle.std.specs.Option.{option_map}
use Rattle.std.proofs.Math.Nat.{div-lt_iff_lt-mul, mul-le-mul_right, mod-lt}
use Rattle.std.proofs.lemmas.Bool.{and_parts, cases_lt, cond-true, eqb-true, ltb-true, le-leb}
use Rattle.std.proofs.lemmas.List.{get_or-map, get_or_past, length-map}
use Rattle.std.proofs.lemmas.List.Quantifiers.{position-Some}
use Rattle.std.proofs.lemmas.Nat.{pow_pos}
use Rattle.sim_base.specs.BitValue.{hexadecimal_value}
use Rattle.sim_base.specs.TimeText.{largest_time, read_time, time_of}
use Rattle.circuit.specs.declared.netlist.Circuit.{Circuit}
use Rattle.circuit.specs.declared.netlist.Net.{Net}
use Rattle.circuit.specs.declared.item.Item.{Item}
use Rattle.circuit.specs.declared.item.ItemKind.{ItemKind}
use Rattle.circuit.specs.declared.item.ItemKind.TheVariants as item
use Rattle.flat_design.specs.Flat.{width_of, IsFlat}
use Rattle.flat_stimulus.specs.Block.{Block, no_row, row_of, sample_count}
use Rattle.flat_stimulus.specs.Text.{AreWordColumns, block_of, block_of_lines, checked_row, limited, column_onto, columns_among, columns_of, numbers_of_columns, row_from, row_in, rows_in, values_of}
use Rattle.flat_stimulus.specs.Words.{lines_of, words_of}
use Rattle.flat_stimulus.specs.declared.column.Column.{Column}
use Rattle.flat_stimulus.specs.declared.row.BlockRow.{BlockRow}
use Rattle.flat_stimulus.proofs.Values.{value_is}

-- ---- options

and_then_some : {X Y : Type 0} (f : X → Option Y) (o : Option X) (y : Y) → option_and_then f o ≡ Some y → (x : X) × (o ≡ Some x) × (f x ≡ Some y)
and_then_some f None y e = cc e
and_then_some f (Some x) y e = (x, refl, e)

map_some : {X Y : Type 0} (f : X → Y) (o : Option X) (y : Y) → option_map f o ≡ Some y → (x : X) × (o ≡ Some x) × (f x ≡ y)
map_some f None y e = cc e
map_some f (Some x) y e = (x, refl, (let s : f x ≡ y = cc e in s))

if_some : {X : Type 0} (b : Bool) (x y : X) → cond b (Some x) None ≡ Some y → (b ≡ true) × (x ≡ y)
if_some true x y e = (refl, (let s : x ≡ y = cc e in s))
if_some false x y e = cc e

get_read : {X : Type 0} (xs : List X) (i : ℕ) (d : X) → i < length xs → slice_get xs i ≡ Some (get_or xs i d)
get_read [] i d lt = absurd (omega arith)
get_read (x ∷ xs) zero d lt = refl
get_read (x ∷ xs) (suc i) d lt = get_read xs i d (omega arith)

-- ---- the values of a row

pub record GoodValues (cs : List Column) (ns : List ℕ) : Type 0 where
  pub long : length ns ≡ length cs
  pub below : (j : ℕ) (c : Column) → slice_get cs j ≡ Some c → get_or ns j 0 < 2 ^ c.width

below_front : (c : Column) (cs : List Column) (n : ℕ) (ns : List ℕ) → n < 2 ^ c.width → ((j : ℕ) (d : Column) → slice_get cs j ≡ Some d → get_or ns j 0 < 2 ^ d.width) → (j : ℕ) (d : Column) → slice_get (c ∷ cs) j ≡ Some d → get_or (n ∷ ns) j 0 < 2 ^ d.width
below_front c cs n ns lt rest zero d at = let s : c ≡ d = cc at in subst (λ (x : Column). n < 2 ^ x.width) s lt
below_front c cs n ns lt rest (suc j) d at = rest j d at

values_good : (cs : List Column) (vs : List (List ℕ)) (ns : List ℕ) → values_of cs vs ≡ Some ns → GoodValues cs ns
unfolding values_of
values_good [] [] ns e = let z : [] ≡ ns = cc e in record { long = ap length (sym z); below = λ j c at. cc at }
values_good [] (v ∷ vs) ns e = cc e
values_good (c ∷ cs) [] ns e = cc e
values_good (c ∷ cs) (v ∷ vs) ns e =
    let a = and_then_some (λ x. option_map (λ xs. x.number ∷ xs) (values_of cs vs)) (hexadecimal_value c.width v) ns e in
    let b = map_some (λ xs. a.0.number ∷ xs) (values_of cs vs) ns a.2 in
    let ih = values_good cs vs b.0 b.1 in
    subst (λ (l : List ℕ). GoodValues (c ∷ cs) l) b.2
    (record { long = ap suc ih.long; below = below_front c cs a.0.number b.0 (value_is c.width v a.0 a.1).1 ih.below })

-- ---- the rows

pub record GoodRow (cs : List Column) (period : ℕ) (row : BlockRow) : Type 0 where
  pub before : row.offset < period
  pub values : GoodValues cs row.values

from_good : (cs : List Column) (words : List (List ℕ)) (row : BlockRow) → row_from cs words ≡ Some row → GoodValues cs row.values
from_good cs [] row e = cc e
from_good cs (offset ∷ values) row e =
    let a = and_then_some (λ time. option_map (λ numbers. record { offset = time; values = numbers }) (values_of cs values)) (read_time offset) row e in
    let f : List ℕ → BlockRow = λ numbers. record { offset = a.0; values = numbers } in
    let b = map_some f (values_of cs values) row a.2 in
    subst (λ (r : BlockRow). GoodValues cs r.values) b.2 (values_good cs values b.0 b.1)

checked_good : (cs : List Column) (least period : ℕ) (o : Option BlockRow) (row : BlockRow) → ((r : BlockRow) → o ≡ Some r → GoodValues cs r.values) → checked_row least period o ≡ Some row → GoodRow cs period row
checked_good cs least period None row good e = cc e
checked_good cs least period (Some r) row good e =
    let i = if_some (leb least r.offset && ltb r.offset period) r row e in
    let lt : r.offset < period = ltb-true r.offset period (and_parts (leb least r.offset) (ltb r.offset period) i.0).1 in
    subst (λ (x : BlockRow). GoodRow cs period x) i.1 (record { before = lt; values = good r refl })

row_good : (cs : List Column) (period least : ℕ) (line : List ℕ) (row : BlockRow) → row_in cs period least line ≡ Some row → GoodRow cs period row
row_good cs period least line row e =
    checked_good cs least period (option_and_then (row_from cs) (words_of line)) row
    (λ r o. let a = and_then_some (row_from cs) (words_of line) r o in from_good cs a.0 r a.2) e

rows_front : (cs : List Column) (period : ℕ) (r : BlockRow) (rs : List BlockRow) → GoodRow cs period r → ((i : ℕ) (x : BlockRow) → slice_get rs i ≡ Some x → GoodRow cs period x) → (i : ℕ) (x : BlockRow) → slice_get (r ∷ rs) i ≡ Some x → GoodRow cs period x
rows_front cs period r rs good rest zero x at = let s : r ≡ x = cc at in subst (λ (y : BlockRow). GoodRow cs period y) s good
rows_front cs period r rs good rest (suc i) x at = rest i x at

pub rows_good : (cs : List Column) (period least : ℕ) (lines : List (List ℕ)) (rows : List BlockRow) → rows_in cs period least lines ≡ Some rows → (i : ℕ) (x : BlockRow) → slice_get rows i ≡ Some x → GoodRow cs period x
unfolding rows_in
rows_good cs period least [] rows e = let z : [] ≡ rows = cc e in subst (λ (l : List BlockRow). (i : ℕ) (x : BlockRow) → slice_get l i ≡ Some x → GoodRow cs period x) z (λ i x at. cc at)
rows_good cs period least (line ∷ lines) rows e =
    let a = and_then_some (λ row. option_map (λ rows. row ∷ rows) (rows_in cs period (row.offset + 1) lines)) (row_in cs period least line) rows e in
    let b = map_some (λ rows. a.0 ∷ rows) (rows_in cs period (a.0.offset + 1) lines) rows a.2 in
    subst (λ (l : List BlockRow). (i : ℕ) (x : BlockRow) → slice_get l i ≡ Some x → GoodRow cs period x) b.2
    (rows_front cs period a.0 b.0 (row_good cs period least line a.0 a.1) (rows_good cs period (a.0.offset + 1) lines b.0 b.1))

-- ---- the numbers of the columns

pub record GoodNumbers (cs : List Column) (nets ns : List ℕ) : Type 0 where
  pub long : length ns ≡ length nets
  pub there : (n : ℕ) → n < length nets → get_or ns n 0 < length cs
  pub found : (n : ℕ) → n < length nets → (d : Column) → (get_or cs (get_or ns n 0) d).net ≡ get_or nets n 0

there_front : (cs : List Column) (net : ℕ) (nets : List ℕ) (j : ℕ) (ns : List ℕ) → j < length cs → ((n : ℕ) → n < length nets → get_or ns n 0 < length cs) → (n : ℕ) → n < length (net ∷ nets) → get_or (j ∷ ns) n 0 < length cs
there_front cs net nets j ns lt rest zero l = lt
there_front cs net nets j ns lt rest (suc n) l = rest n (omega arith)

found_front : (cs : List Column) (net : ℕ) (nets : List ℕ) (j : ℕ) (ns : List ℕ) → ((d : Column) → (get_or cs j d).net ≡ net) → ((n : ℕ) → n < length nets → (d : Column) → (get_or cs (get_or ns n 0) d).net ≡ get_or nets n 0) → (n : ℕ) → n < length (net ∷ nets) → (d : Column) → (get_or cs (get_or (j ∷ ns) n 0) d).net ≡ get_or (net ∷ nets) n 0
found_front cs net nets j ns here rest zero l d = here d
found_front cs net nets j ns here rest (suc n) l d = rest n (omega arith) d

no_column : Column
no_column = record { name = []; net = 0; width = 0 }

pub numbers_good : (cs : List Column) (nets ns : List ℕ) → numbers_of_columns cs nets ≡ Some ns → GoodNumbers cs nets ns
unfolding numbers_of_columns
numbers_good cs [] ns e =
    let z : [] ≡ ns = cc e in
    record { long = ap length (sym z); there = λ n lt. absurd (omega arith); found = λ n lt d. absurd (omega arith) }
numbers_good cs (net ∷ nets) ns e =
    let a = and_then_some (λ n. option_map (λ ns. n ∷ ns) (numbers_of_columns cs nets)) (position (λ column. column.net == net) cs) ns e in
    let b = map_some (λ ns. a.0 ∷ ns) (numbers_of_columns cs nets) ns a.2 in
    let ih = numbers_good cs nets b.0 b.1 in
    let p = λ (d : Column). position-Some (λ column. column.net == net) cs a.0 d a.1 in
    subst (λ (l : List ℕ). GoodNumbers cs (net ∷ nets) l) b.2
    (record {
      long = ap suc ih.long;
      there = there_front cs net nets a.0 b.0 (p no_column).0 ih.there;
      found = found_front cs net nets a.0 b.0 (λ d. eqb-true (get_or cs a.0 d).net net (p d).1) ih.found;
    })

-- ---- the columns

onto_width : (c : Circuit) (name : List ℕ) (k : ItemKind) (more : List Column) → ((j : ℕ) (x : Column) → slice_get more j ≡ Some x → x.width ≡ width_of (slice_get c.nets x.net)) → (j : ℕ) (x : Column) → slice_get (column_onto c name k more) j ≡ Some x → x.width ≡ width_of (slice_get c.nets x.net)
onto_width c name (item.Node net lsb_at true output) more rest zero x at =
    let s : ◌≡◌ {A = Column} (record { name = name; net = net; width = width_of (slice_get c.nets net) }) x = cc at in
    subst (λ (y : Column). y.width ≡ width_of (slice_get c.nets y.net)) s refl
onto_width c name (item.Node net lsb_at true output) more rest (suc j) x at = rest j x at
onto_width c name (item.Node net lsb_at false output) more rest j x at = rest j x at
onto_width c name (item.Memory m) more rest j x at = rest j x at

columns_width : (c : Circuit) (is : List Item) (j : ℕ) (x : Column) → slice_get (columns_among c is) j ≡ Some x → x.width ≡ width_of (slice_get c.nets x.net)
unfolding columns_among
columns_width c [] j x at = cc at
columns_width c (i ∷ is) j x at = onto_width c i.name i.kind (columns_among c is) (columns_width c is) j x at

word_width : (c : Circuit) → IsFlat c → (net : ℕ) (o : Option Net) → slice_get c.nets net ≡ o → width_of o ≤ 64
word_width c flat net None e = omega arith
word_width c flat net (Some x) e = (flat.nets net x e).1

pub columns_words : (c : Circuit) → IsFlat c → AreWordColumns (columns_of c)
columns_words c flat j x at =
    let w : x.width ≡ width_of (slice_get c.nets x.net) = columns_width c c.items j x at in
    let b : width_of (slice_get c.nets x.net) ≤ 64 = word_width c flat x.net (slice_get c.nets x.net) refl in omega arith

-- ---- a sample

pub place_below : (k rows repeats : ℕ) → 0 < rows → k < repeats * rows → k / rows < repeats
place_below k rows repeats pos lt = (div-lt_iff_lt-mul {k = rows} {x = k} {y = repeats} pos).1 lt

pub within_block : (k rows repeats period offset largest : ℕ) → 0 < rows → k < repeats * rows → repeats * period ≤ largest → offset < period → k / rows * period + offset ≤ largest
within_block k rows repeats period offset largest pos lt ends before =
    let q : k / rows < repeats = place_below k rows repeats pos lt in
    let m : (k / rows + 1) * period ≤ repeats * period = mul-le-mul_right period (omega arith) in
    omega arith

pub time_some : (n : ℕ) → n ≤ largest_time → time_of n ≡ Some n
time_some n le = cond-true (leb n largest_time) (Some n) None (le-leb n largest_time le)

value_below : (c : Circuit) (cs : List Column) (row : BlockRow) (ns nets : List ℕ) (n : ℕ) (x : Net) → cs ≡ columns_of c → GoodValues cs row.values → GoodNumbers cs nets ns → n < length nets → slice_get c.nets (get_or nets n 0) ≡ Some x → get_or row.values (get_or ns n 0) 0 < 2 ^ x.width
value_below c cs row ns nets n x is values numbers lt at =
    let j : ℕ = get_or ns n 0 in
    let col : Column = get_or cs (get_or ns n 0) no_column in
    let here : slice_get cs (get_or ns n 0) ≡ Some (get_or cs (get_or ns n 0) no_column) = get_read cs (get_or ns n 0) no_column (numbers.there n lt) in
    let w : (get_or cs (get_or ns n 0) no_column).width ≡ width_of (slice_get c.nets (get_or cs (get_or ns n 0) no_column).net) =
    columns_width c c.items (get_or ns n 0) (get_or cs (get_or ns n 0) no_column) (ap (λ (l : List Column). slice_get l (get_or ns n 0)) (sym is) ∙ here) in
    let net : (get_or cs (get_or ns n 0) no_column).net ≡ get_or nets n 0 = numbers.found n lt no_column in
    let v : (get_or cs (get_or ns n 0) no_column).width ≡ x.width = w ∙ ap (λ m. width_of (slice_get c.nets m)) net ∙ ap width_of at in
    subst (λ (width : ℕ). get_or row.values (get_or ns n 0) 0 < 2 ^ width) v (values.below (get_or ns n 0) (get_or cs (get_or ns n 0) no_column) here)

pub sample_below : (c : Circuit) (cs : List Column) (b : Block) (nets : List ℕ) → cs ≡ columns_of c → ((i : ℕ) (r : BlockRow) → slice_get b.rows i ≡ Some r → GoodRow cs b.period r) → GoodNumbers cs nets b.columns → (k n : ℕ) (x : Net) → k < sample_count b → slice_get c.nets (get_or nets n 0) ≡ Some x → get_or (row_of b k).inputs n 0 < 2 ^ x.width
sample_below c cs b nets is rows numbers k n x lt at = elim (cases_lt n (length nets)) [
  | inl inside ↦
      (let pos : 0 < length b.rows = some_rows b.repeats (length b.rows) k lt in
      let place : k % length b.rows < length b.rows = mod-lt k pos in
      let row : BlockRow = get_or b.rows (k % length b.rows) no_row in
      let good = rows (k % length b.rows) (get_or b.rows (k % length b.rows) no_row) (get_read b.rows (k % length b.rows) no_row place) in
      let long : n < length b.columns = omega (arith, numbers.long) in
      let e : get_or (map (λ column. get_or (get_or b.rows (k % length b.rows) no_row).values column 0) b.columns) n 0 ≡ get_or (get_or b.rows (k % length b.rows) no_row).values (get_or b.columns n 0) 0 =
      get_or-map (λ column. get_or (get_or b.rows (k % length b.rows) no_row).values column 0) b.columns n 0 0 long in
      subst (λ (m : ℕ). m < 2 ^ x.width) (sym e) (value_below c cs (get_or b.rows (k % length b.rows) no_row) b.columns nets n x is good.values numbers inside at))
  | inr outside ↦
      (let e : get_or (map (λ column. get_or (get_or b.rows (k % length b.rows) no_row).values column 0) b.columns) n 0 ≡ 0 =
      get_or_past (map (λ column. get_or (get_or b.rows (k % length b.rows) no_row).values column 0) b.columns) n 0 (omega (arith, numbers.long, length-map b.columns (λ column. get_or (get_or b.rows (k % length b.rows) no_row).values column 0))) in
      subst (λ (m : ℕ). m < 2 ^ x.width) (sym e) (pow_pos x.width))
]
  where
    some_rows : (repeats rows k : ℕ) → k < repeats * rows → 0 < rows
    some_rows repeats zero k lt = absurd (let z : repeats * 0 ≡ 0 = omega arith in omega arith)
    some_rows repeats (suc rows) k lt = omega arith

-- the time of a sample is a time
pub time_there : (rows : List BlockRow) (repeats period k count start time offset : ℕ) (row : BlockRow) (given : List BlockRow) → count ≡ length rows → given ≡ rows → 1 ≤ length rows → k < repeats * length rows → repeats * period ≤ largest_time → ((i : ℕ) (r : BlockRow) → slice_get rows i ≡ Some r → r.offset < period) → row ≡ get_or given (k % count) row → start ≡ k / count → time ≡ period → offset ≡ row.offset → time_of (start * time + offset) ≡ Some (start * time + offset)
time_there rows repeats period k count start time offset row given count_is given_is some lt ends before row_is start_is time_is offset_is =
    let place : k % length rows < length rows = mod-lt k some in
    let r : row ≡ get_or rows (k % length rows) row = row_is ∙ ap (λ (l : List BlockRow). get_or l (k % count) row) given_is ∙ ap (λ n. get_or rows (k % n) row) count_is in
    let early : (get_or rows (k % length rows) row).offset < period = before (k % length rows) (get_or rows (k % length rows) row) (get_read rows (k % length rows) row place) in
    let same : offset ≡ (get_or rows (k % length rows) row).offset = offset_is ∙ ap (λ (x : BlockRow). x.offset) r in
    let within : k / length rows * period + (get_or rows (k % length rows) row).offset ≤ largest_time = within_block k (length rows) repeats period (get_or rows (k % length rows) row).offset largest_time some lt ends early in
    let sum : start * time + offset ≡ k / length rows * period + (get_or rows (k % length rows) row).offset =
    ap (λ s. s * time + offset) (start_is ∙ ap (λ n. k / n) count_is) ∙ ap (λ t. k / length rows * t + offset) time_is ∙ ap (λ o. k / length rows * period + o) same in
    time_some (start * time + offset) (subst (λ (n : ℕ). n ≤ largest_time) (sym sum) within)

-- ---- what a block that was read says of a circuit

pub map_ok : {T E : Type 0} (r : Result T E) (P Q : T → Type 0) → ((x : T) → P x → Q x) → IfOk r P → IfOk r Q
map_ok (Ok x) P Q f h = f x h
map_ok (Err e) P Q f h = tt

pub values_there : (cs : List Column) (period : ℕ) (rows : List BlockRow) (nets ns given : List ℕ) → ((i : ℕ) (x : BlockRow) → slice_get rows i ≡ Some x → GoodRow cs period x) → GoodNumbers cs nets ns → given ≡ ns → (i : ℕ) (row : BlockRow) → slice_get rows i ≡ Some row → (n : ℕ) → n < length given → get_or given n 0 < length row.values
values_there cs period rows nets ns given good numbers e i row at n =
    subst (λ (g : List ℕ). n < length g → get_or g n 0 < length row.values) (sym e)
    (λ lt.
    let a : get_or ns n 0 < length cs = numbers.there n (omega (arith, lt, numbers.long)) in
    let b : length row.values ≡ length cs = (good i row at).values.long in omega arith)

limited_is : (b s : Block) → limited b ≡ Some s → b ≡ s
limited_is b s e = (if_some (leb 1 (length b.rows) && leb (sample_count b) 16777216 && leb (b.repeats * b.period) largest_time) b s e).1

pub columns_long : (cs : List Column) (nets ns given : List ℕ) (b s : Block) → GoodNumbers cs nets ns → given ≡ ns → b.columns ≡ given → limited b ≡ Some s → length s.columns ≡ length nets
columns_long cs nets ns given b s numbers e is l =
    ap (λ (x : Block). length x.columns) (sym (limited_is b s l)) ∙ ap length (is ∙ e) ∙ numbers.long

pub samples_below : (c : Circuit) (cs : List Column) (ns given : List ℕ) (b s : Block) → cs ≡ columns_of c → ((i : ℕ) (r : BlockRow) → slice_get b.rows i ≡ Some r → GoodRow cs b.period r) → GoodNumbers cs c.inputs ns → given ≡ ns → b.columns ≡ given → limited b ≡ Some s → (k n : ℕ) (x : Net) → k < sample_count s → slice_get c.nets (get_or c.inputs n 0) ≡ Some x → get_or (row_of s k).inputs n 0 < 2 ^ x.width
samples_below c cs ns given b s is rows numbers e column_is l =
    subst (λ (y : Block). (k n : ℕ) (x : Net) → k < sample_count y → slice_get c.nets (get_or c.inputs n 0) ≡ Some x → get_or (row_of y k).inputs n 0 < 2 ^ x.width) (limited_is b s l)
    (sample_below c cs b c.inputs is rows (subst (λ (g : List ℕ). GoodNumbers cs c.inputs g) (sym (column_is ∙ e)) numbers))

pub block_read : (text : List ℕ) (c : Circuit) (cs : List Column) (ls : List (List ℕ)) → cs ≡ columns_of c → lines_of text ≡ Some ls → block_of text c ≡ block_of_lines cs c.inputs ls
unfolding block_of
block_read text c cs ls is e = ap (option_and_then (block_of_lines (columns_of c) c.inputs)) e ∙ ap (λ xs. block_of_lines xs c.inputs ls) (sym is)

pub block_lost : (text : List ℕ) (c : Circuit) → lines_of text ≡ None → block_of text c ≡ None
unfolding block_of
block_lost text c e = ap (option_and_then (block_of_lines (columns_of c) c.inputs)) e
