-- The rows after the first write ports.
use Rattle.std.proofs.Common.{◌≡◌, ℕ, zero, suc, ◌+◌, ◌-◌, ◌^◌, ◌<◌, ◌≤◌, List, [], ◌∷◌, ◌++◌, length, take, get_or, set, eqb, refl, sym, ◌∙◌, ap, subst, arith, inl, inr, Bool, true, false, not, ◌&&◌, ◌||◌}
use Rattle.std.specs.Prelude.{Option, Some, None, unwrap_or, if◌then◌else◌}
use Rattle.std.specs.List.{list_any}
use Rattle.std.proofs.lemmas.Bool.{cases_eq, cases_lt, eq-eqb, ne_eqb, cond-true, cond-false}
use Rattle.std.proofs.lemmas.Bool.Decides.{nat_tests}
use Rattle.std.proofs.lemmas.Grind.{same_number_lists}
use Rattle.std.proofs.lemmas.List.{length-set, get_or-set_same, get_or-set_other, take_more, take_all}
use Rattle.std.proofs.lemmas.Nat.Bits.{same_from_bits_below}
use Rattle.std.specs.Int.{bit_at}
use Rattle.circuit.specs.Signal.{Digits, sig_number}
use Rattle.circuit.specs.Next.{all_marked, has_edge, next_row, next_rows, highest_write}
use Rattle.circuit.specs.State.{is_inside}
use Rattle.circuit.specs.declared.memory.Mem.{Mem}
use Rattle.circuit.specs.declared.memory.WritePort.{WritePort}
use Rattle.memory_cells.specs.Ports.{place_of_address, place_written, renewed_rows}
use Rattle.memory_cells.proofs.RowAfter.{one, written_cons, written_nil, unwrap_or_else, row_after_bit, row_after_below}
use Rattle.memory_cells.proofs.Told.{same_lists, told_set, told_none, told_one}

-- a port writes to an address
abbrev pub writes_to : Digits → Digits → ℕ → WritePort → Bool
writes_to before now address p = has_edge p.rising before now p.clk && eqb (sig_number now p.addr) address

-- some port does
abbrev pub some_writes : Digits → Digits → ℕ → List WritePort → Bool
some_writes before now address ports = list_any (writes_to before now address) ports

-- the row of an address after all ports
abbrev pub after_all : Digits → Digits → Mem → ℕ → ℕ → ℕ
after_all before now m address own = next_row before now m (all_marked m.writes) address own

-- ---- all ports twice

twice : (o : Option ℕ) (x : ℕ) → unwrap_or o (unwrap_or o x) ≡ unwrap_or o x
twice (Some n) x = refl
twice None x = refl

pub after_all_twice : (before now : Digits) (m : Mem) (address own : ℕ) → after_all before now m address (after_all before now m address own) ≡ after_all before now m address own
after_all_twice before now m address own =
    let marks = all_marked m.writes in
    same_from_bits_below m.width _ _ (row_after_below before now m.width address marks m.writes (after_all before now m address own)) (row_after_below before now m.width address marks m.writes own)
    (λ i lt.
    row_after_bit before now m.width address marks m.writes (after_all before now m address own) i lt
    ∙ ap (unwrap_or (highest_write before now address i marks m.writes)) (row_after_bit before now m.width address marks m.writes own i lt)
    ∙ twice (highest_write before now address i marks m.writes) (bit_at own i)
    ∙ sym (row_after_bit before now m.width address marks m.writes own i lt))

-- ---- no port

neither : (a b : Bool) → (a || b) ≡ false → (a ≡ false) × (b ≡ false)
neither true b e = cc
neither false b e = (refl, e)

no_one : (edge there bit : Bool) (n x : ℕ) → (edge && there) ≡ false → unwrap_or (if true && (edge && (there && bit)) then Some n else None) x ≡ x
no_one false there bit n x e = refl
no_one true false bit n x e = refl
no_one true true bit n x e = cc

no_digit : (before now : Digits) (address i : ℕ) (ports : List WritePort) → some_writes before now address ports ≡ false → (x : ℕ) → unwrap_or (highest_write before now address i (all_marked ports) ports) x ≡ x
no_digit before now address i [] none x = ap (λ o. unwrap_or o x) (written_nil before now address i [])
no_digit before now address i (p ∷ ports) none x =
    let t = neither (writes_to before now address p) (some_writes before now address ports) none in
    ap (λ o. unwrap_or o x) (written_cons before now address i true (all_marked ports) p ports)
    ∙ unwrap_or_else (highest_write before now address i (all_marked ports) ports) (one before now address i true p) x
    ∙ no_digit before now address i ports t.1 (unwrap_or (one before now address i true p) x)
    ∙ no_one (has_edge p.rising before now p.clk) (eqb (sig_number now p.addr) address) (eqb (bit_at (sig_number now p.en) i) 1) (bit_at (sig_number now p.word) i) x t.0

pub after_no_port : (before now : Digits) (m : Mem) (address own : ℕ) → own < 2 ^ m.width → some_writes before now address m.writes ≡ false → after_all before now m address own ≡ own
after_no_port before now m address own below none =
    let marks = all_marked m.writes in
    same_from_bits_below m.width _ _ (row_after_below before now m.width address marks m.writes own) below
    (λ i lt. row_after_bit before now m.width address marks m.writes own i lt ∙ no_digit before now address i m.writes none (bit_at own i))

-- ---- the rows after the first ports

abbrev pub row_of_first : Digits → Digits → Mem → ℕ → ℕ → ℕ → ℕ
row_of_first before now m first address own = if some_writes before now address (take first m.writes) then after_all before now m address own else own

pub record RowsAfter (before now : Digits) (m : Mem) (first : ℕ) (olds rows : List ℕ) (changed : Bool) : Type 0 where
  pub long : length rows ≡ length olds
  pub each : (i : ℕ) → i < length olds → get_or rows i 0 ≡ row_of_first before now m first (i + m.offset) (get_or olds i 0)
  pub told : changed ≡ not (same_lists rows olds)

pub rows_after_none : (before now : Digits) (m : Mem) (olds : List ℕ) → RowsAfter before now m 0 olds olds false
rows_after_none before now m olds = record { long = refl; each = λ i lt. refl; told = told_none olds }

-- ---- one port more

any_more : {X : Type 0} (test : X → Bool) (xs : List X) (x : X) → list_any test (xs ++ x ∷ []) ≡ (list_any test xs || test x)
any_more test [] x = of (test x)
  where
    of : (b : Bool) → (b || false) ≡ b
    of true = refl
    of false = refl
any_more test (y ∷ ys) x = ap (λ b. test y || b) (any_more test ys x) ∙ assoc (test y) (list_any test ys) (test x)
  where
    assoc : (a b c : Bool) → (a || (b || c)) ≡ ((a || b) || c)
    assoc true b c = refl
    assoc false b c = refl

-- a port writes to a row, or to none
pub data Where (m : Mem) (edge : Bool) (address : ℕ) : Type 0 where
  at : (place : ℕ) → (if edge then place_of_address m address else None) ≡ Some place → place < m.size → edge ≡ true → address ≡ place + m.offset → Where m edge address
  nowhere : (if edge then place_of_address m address else None) ≡ None → ((i : ℕ) → i < m.size → (edge && eqb address (i + m.offset)) ≡ false) → Where m edge address

outside : (m : Mem) (address : ℕ) → is_inside m address ≡ false → place_of_address m address ≡ None
outside m address e = cond-false (is_inside m address) (Some (address - m.offset)) None e

where_is : (m : Mem) (edge : Bool) (address : ℕ) → Where m edge address
where_is m false address = nowhere refl (λ i lt. refl)
where_is m true address = elim (cases_lt address m.offset) [
  | inl low ↦
      (let out : is_inside m address ≡ false = grind (arith, nat_tests) in
      nowhere (outside m address out) (λ i lt. ne_eqb address (i + m.offset) (λ e. omega arith)))
  | inr le ↦ (elim (cases_lt address (m.offset + m.size)) [
    | inl lt ↦
        (let inside : is_inside m address ≡ true = grind (arith, nat_tests) in
        at (address - m.offset) (cond-true (is_inside m address) (Some (address - m.offset)) None inside) (omega arith) refl (omega arith))
    | inr high ↦
        (let out : is_inside m address ≡ false = grind (arith, nat_tests) in
        nowhere (outside m address out) (λ i lt. ne_eqb address (i + m.offset) (λ e. omega arith)))
  ])
]

some_more : (before now : Digits) (m : Mem) (first : ℕ) (p : WritePort) (address : ℕ) → first < length m.writes → p ≡ get_or m.writes first p
    → some_writes before now address (take (first + 1) m.writes) ≡ (some_writes before now address (take first m.writes) || writes_to before now address p)
some_more before now m first p address lt is =
    ap (some_writes before now address) (take_more m.writes first p lt ∙ ap (λ q. take first m.writes ++ q ∷ []) (sym is)) ∙ any_more (writes_to before now address) (take first m.writes) p

same_row : (before now : Digits) (m : Mem) (address own : ℕ) (some more : Bool) → more ≡ false → (if some || more then after_all before now m address own else own) ≡ (if some then after_all before now m address own else own)
same_row before now m address own true more e = refl
same_row before now m address own false more e = rw e refl

-- the row of a port that writes
new_row : (before now : Digits) (m : Mem) (address own : ℕ) (some more : Bool) → more ≡ true
    → after_all before now m address (if some then after_all before now m address own else own) ≡ (if some || more then after_all before now m address own else own)
new_row before now m address own true more e = after_all_twice before now m address own
new_row before now m address own false more e = rw e refl

-- where the new row is the first one, it is the one that stood there
back_row : (before now : Digits) (m : Mem) (address own : ℕ) (some : Bool) (row v : ℕ) → row ≡ (if some then after_all before now m address own else own) → v ≡ after_all before now m address row → v ≡ own → v ≡ row
back_row before now m address own true row v r e same = e ∙ ap (after_all before now m address) r ∙ after_all_twice before now m address own ∙ sym r
back_row before now m address own false row v r e same = same ∙ sym r

renewed_at : (before now : Digits) (m : Mem) (first : ℕ) (p : WritePort) (olds rows : List ℕ) (changed part : Bool) (place : ℕ)
    → first < length m.writes → p ≡ get_or m.writes first p → length olds ≡ m.size → place < m.size
    → has_edge p.rising before now p.clk ≡ true → sig_number now p.addr ≡ place + m.offset
    → RowsAfter before now m first olds rows changed
    → (let rows' = renewed_rows before now m (Some place) rows in part ≡ not (same_lists rows' rows) → RowsAfter before now m (first + 1) olds rows' (changed || part))
renewed_at before now m first p olds rows changed part place lt is size there edge named r =
    let v = after_all before now m (place + m.offset) (get_or rows place 0) in
    let inside : place < length rows = omega (arith, r.long, size) in
    let hits : writes_to before now (place + m.offset) p ≡ true = ap (λ b. b && eqb (sig_number now p.addr) (place + m.offset)) edge ∙ eq-eqb (sig_number now p.addr) (place + m.offset) named in
    let own : get_or rows place 0 ≡ row_of_first before now m first (place + m.offset) (get_or olds place 0) = r.each place (omega (arith, size)) in
    let S = some_writes before now (place + m.offset) (take first m.writes) in
    λ told_part. record {
      long = length-set rows place v ∙ r.long;
      each = λ i in'. elim (cases_eq i place) [
        | inl e ↦
            (ap (λ k. get_or (set rows place v) k 0) e ∙ get_or-set_same rows place v 0 inside
            ∙ ap (after_all before now m (place + m.offset)) own
            ∙ new_row before now m (place + m.offset) (get_or olds place 0) S (writes_to before now (place + m.offset) p) hits
            ∙ ap (λ b. if b then after_all before now m (place + m.offset) (get_or olds place 0) else get_or olds place 0) (sym (some_more before now m first p (place + m.offset) lt is))
            ∙ ap (λ k. row_of_first before now m (first + 1) (k + m.offset) (get_or olds k 0)) (sym e))
        | inr ne ↦
            (let misses : writes_to before now (i + m.offset) p ≡ false = ap (λ b. b && eqb (sig_number now p.addr) (i + m.offset)) edge ∙ ne_eqb (sig_number now p.addr) (i + m.offset) (λ e. ne (omega (arith, named, e))) in
            get_or-set_other rows place i v 0 ne ∙ r.each i in'
            ∙ sym (same_row before now m (i + m.offset) (get_or olds i 0) (some_writes before now (i + m.offset) (take first m.writes)) (writes_to before now (i + m.offset) p) misses)
            ∙ ap (λ b. if b then after_all before now m (i + m.offset) (get_or olds i 0) else get_or olds i 0) (sym (some_more before now m first p (i + m.offset) lt is)))
      ];
      told =
          told_set olds rows place v changed part inside r.told (told_part ∙ ap not (told_one rows place v inside))
          (λ e. back_row before now m (place + m.offset) (get_or olds place 0) S (get_or rows place 0) v own refl (sym (get_or-set_same rows place v 0 inside) ∙ ap (λ (xs : List ℕ). get_or xs place 0) e));
    }

renewed_nowhere : (before now : Digits) (m : Mem) (first : ℕ) (p : WritePort) (olds rows : List ℕ) (changed part : Bool)
    → first < length m.writes → p ≡ get_or m.writes first p → length olds ≡ m.size
    → ((i : ℕ) → i < m.size → writes_to before now (i + m.offset) p ≡ false)
    → RowsAfter before now m first olds rows changed → part ≡ not (same_lists rows rows) → RowsAfter before now m (first + 1) olds rows (changed || part)
renewed_nowhere before now m first p olds rows changed part lt is size none r told_part = record {
  long = r.long;
  each = λ i in'. r.each i in'
      ∙ sym (same_row before now m (i + m.offset) (get_or olds i 0) (some_writes before now (i + m.offset) (take first m.writes)) (writes_to before now (i + m.offset) p) (none i (omega (arith, size))))
      ∙ ap (λ b. if b then after_all before now m (i + m.offset) (get_or olds i 0) else get_or olds i 0) (sym (some_more before now m first p (i + m.offset) lt is));
  told = ap (λ b. changed || b) (told_part ∙ sym (told_none rows)) ∙ of changed ∙ r.told;
}
  where
    of : (b : Bool) → (b || false) ≡ b
    of true = refl
    of false = refl

pub rows_after_more : (before now : Digits) (m : Mem) (first : ℕ) (p : WritePort) (olds rows rows' : List ℕ) (changed part : Bool)
    → first < length m.writes → p ≡ get_or m.writes first p → length olds ≡ m.size
    → RowsAfter before now m first olds rows changed
    → rows' ≡ renewed_rows before now m (place_written before now m p) rows → part ≡ not (same_lists rows' rows)
    → RowsAfter before now m (first + 1) olds rows' (changed || part)
rows_after_more before now m first p olds rows rows' changed part lt is size r made told_part = by (where_is m (has_edge p.rising before now p.clk) (sig_number now p.addr))
  where
    by : Where m (has_edge p.rising before now p.clk) (sig_number now p.addr) → RowsAfter before now m (first + 1) olds rows' (changed || part)
    by (at place e there edge named) =
        let same : rows' ≡ renewed_rows before now m (Some place) rows = made ∙ ap (λ o. renewed_rows before now m o rows) e in
        let P : List ℕ → Type 0 = λ xs. RowsAfter before now m (first + 1) olds xs (changed || part) in
        subst P (sym same) (renewed_at before now m first p olds rows changed part place lt is size there edge named r (told_part ∙ ap (λ (xs : List ℕ). not (same_lists xs rows)) same))
    by (nowhere e none) =
        let same : rows' ≡ rows = made ∙ ap (λ o. renewed_rows before now m o rows) e in
        let P : List ℕ → Type 0 = λ xs. RowsAfter before now m (first + 1) olds xs (changed || part) in
        subst P (sym same) (renewed_nowhere before now m first p olds rows changed part lt is size none r (told_part ∙ ap (λ (xs : List ℕ). not (same_lists xs rows)) same))

-- ---- all ports

length-next_rows : (before now : Digits) (m : Mem) (place : ℕ) (rows : List ℕ) → length (next_rows before now m place rows) ≡ length rows
unfolding next_rows
length-next_rows before now m place [] = refl
length-next_rows before now m place (own ∷ rows) = let t = length-next_rows before now m (suc place) rows in omega arith

next_rows_at : (before now : Digits) (m : Mem) (place : ℕ) (rows : List ℕ) (i : ℕ) → i < length rows → get_or (next_rows before now m place rows) i 0 ≡ after_all before now m (place + i + m.offset) (get_or rows i 0)
unfolding next_rows
next_rows_at before now m place [] i lt = absurd (omega arith)
next_rows_at before now m place (own ∷ rows) zero lt = let e : place + m.offset ≡ place + 0 + m.offset = omega arith in ap (λ a. after_all before now m a own) e
next_rows_at before now m place (own ∷ rows) (suc i) lt =
    let e : suc place + i + m.offset ≡ place + suc i + m.offset = omega arith in
    next_rows_at before now m (suc place) rows i (omega arith) ∙ ap (λ a. after_all before now m a (get_or rows i 0)) e

row_of_all : (before now : Digits) (m : Mem) (address own : ℕ) (some : Bool) → some ≡ some_writes before now address m.writes → own < 2 ^ m.width → (if some then after_all before now m address own else own) ≡ after_all before now m address own
row_of_all before now m address own true e below = refl
row_of_all before now m address own false e below = sym (after_no_port before now m address own below (sym e))

pub rows_whole : (before now : Digits) (m : Mem) (first : ℕ) (olds rows : List ℕ) (changed : Bool) → length m.writes ≤ first → ((i : ℕ) → i < length olds → get_or olds i 0 < 2 ^ m.width)
    → RowsAfter before now m first olds rows changed → rows ≡ next_rows before now m 0 olds
rows_whole before now m first olds rows changed le below r =
    same_number_lists rows (next_rows before now m 0 olds) (r.long ∙ sym (length-next_rows before now m 0 olds))
    (λ i lt. let in' : i < length olds = omega (arith, r.long) in
    let e : i + m.offset ≡ 0 + i + m.offset = omega arith in
    r.each i in'
    ∙ row_of_all before now m (i + m.offset) (get_or olds i 0) (some_writes before now (i + m.offset) (take first m.writes)) (ap (some_writes before now (i + m.offset)) (take_all first m.writes le)) (below i in')
    ∙ ap (λ a. after_all before now m a (get_or olds i 0)) e ∙ sym (next_rows_at before now m 0 olds i in'))
