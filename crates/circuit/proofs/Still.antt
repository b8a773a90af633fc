-- A state that a round leaves as it is stays so in a further round, in which no clock moves.
use Rattle.std.proofs.Common.{◌≡◌, ℕ, zero, suc, ◌+◌, ◌<◌, cond, List, [], ◌∷◌, refl, sym, ◌∙◌, ap, subst, arith, inl, inr, Bool, true, false, not, ◌&&◌, Option, Some, None}
use Rattle.std.specs.Prelude.{nat_eq, unwrap_or}
use Rattle.std.specs.Int.{bit_at}
use Rattle.std.specs.Cmp.Lexicographic.{pointwise}
use Rattle.std.proofs.lemmas.Bool.Decides.{nat_tests}
use Rattle.std.proofs.lemmas.Bool.{and_parts, and_from, cases_Bool, cond-true, cond-false}
use Rattle.std.proofs.lemmas.Nat.Bits.{bit_at-lt}
use Rattle.std.proofs.lemmas.Option.{none-some}
use Rattle.circuit.specs.Signal.{Digits, digits_of_nets, sig_number}
use Rattle.circuit.specs.State.{State, Stored, same_stored, same_state}
use Rattle.circuit.specs.Valuation.{valuation}
use Rattle.circuit.specs.Next.{is_active, has_edge, RegisterInputs, register_inputs, bit_by_bit, next_by, next_number, next_numbers, writes_at, or_else, highest_write, all_marked, next_row, next_rows, transparent_read, next_read, next_reads, next_stored, next_mems, next}
use Rattle.circuit.specs.Rounds.{Standing, settled_within, settling}
use Rattle.circuit.specs.declared.netlist.Circuit.{Circuit}
use Rattle.circuit.specs.declared.netlist.Piece.{Piece}
use Rattle.circuit.specs.declared.register.Reg.{Reg}
use Rattle.circuit.specs.declared.register.RegKind.{RegKind}
use Rattle.circuit.specs.declared.register.RegKind.TheVariants as kind
use Rattle.circuit.specs.declared.memory.Mem.{Mem}
use Rattle.circuit.specs.declared.memory.ReadPort.{ReadPort}
use Rattle.circuit.specs.declared.memory.WritePort.{WritePort}
use Rattle.circuit.proofs.Same.{gathered_same}
use Rattle.circuit.proofs.Gathered.{gathered_bit}

-- ---- registers

-- a clock that does not move has no edge
no_edge : (rising : Bool) (now : Digits) (clk : List Piece) → has_edge rising now now clk ≡ false
no_edge rising now clk = by (is_active rising now clk)
  where
    by : (t : Bool) → (not t && t) ≡ false
    by true = refl
    by false = refl

-- the same ports without an edge
abbrev resting : RegisterInputs → RegisterInputs
resting a = record a { edge = false }

pub cond_below : (n : ℕ) (t : Bool) (x y : ℕ) → x < n → y < n → cond t x y < n
cond_below n true x y lx ly = lx
cond_below n false x y lx ly = ly

pub bits_digit : (a : RegisterInputs) (rest i : ℕ) → cond (a.cleared i) 0 (cond (a.set i) 1 (bit_at rest i)) < 2
bits_digit a rest i = cond_below 2 (a.cleared i) 0 (cond (a.set i) 1 (bit_at rest i)) (omega arith) (cond_below 2 (a.set i) 1 (bit_at rest i) (omega arith) (bit_at-lt rest i))

kept_digit : (c s : Bool) (r o : ℕ) → o ≡ cond c 0 (cond s 1 r) → cond c 0 (cond s 1 o) ≡ cond c 0 (cond s 1 r)
kept_digit true s r o e = refl
kept_digit false true r o e = refl
kept_digit false false r o e = e

-- what is bit by bit its own stays so where the bits that are neither cleared nor set keep theirs
bits_rest : (w : ℕ) (a : RegisterInputs) (rest own : ℕ) → bit_by_bit w a rest ≡ own → bit_by_bit w a own ≡ own
bits_rest w a rest own e =
    gathered_same w (λ i. cond (a.cleared i) 0 (cond (a.set i) 1 (bit_at own i))) (λ i. cond (a.cleared i) 0 (cond (a.set i) 1 (bit_at rest i)))
    (λ i lt. kept_digit (a.cleared i) (a.set i) (bit_at rest i) (bit_at own i)
    (ap (λ n. bit_at n i) (sym e) ∙ gathered_bit w (λ j. cond (a.cleared j) 0 (cond (a.set j) 1 (bit_at rest j))) (bits_digit a rest) i lt)) ∙ e

-- two lines, of which the first does not ask for the edge
level_line : (level : Bool) (v rest own : ℕ) → cond level v rest ≡ own → cond level v own ≡ own
level_line true v rest own e = e
level_line false v rest own e = refl

register_rests : (k : RegKind) (w : ℕ) (a : RegisterInputs) (own : ℕ) → next_by k w a own ≡ own → next_by k w (resting a) own ≡ own
register_rests kind.Dff w a own e = refl
register_rests kind.Dffe w a own e = refl
register_rests kind.Adff w a own e = level_line a.reset a.value (cond a.edge a.input own) own e
register_rests kind.Adffe w a own e = level_line a.reset a.value (cond (a.edge && a.enabled) a.input own) own e
register_rests kind.Sdff w a own e = refl
register_rests kind.Sdffe w a own e = refl
register_rests kind.Sdffce w a own e = refl
register_rests kind.Aldff w a own e = level_line a.loaded a.load (cond a.edge a.input own) own e
register_rests kind.Aldffe w a own e = level_line a.loaded a.load (cond (a.edge && a.enabled) a.input own) own e
register_rests kind.Dffsr w a own e = bits_rest w a (cond a.edge a.input own) own e
register_rests kind.Dffsre w a own e = bits_rest w a (cond (a.edge && a.enabled) a.input own) own e
register_rests kind.Sr w a own e = e
register_rests kind.Dlatch w a own e = e
register_rests kind.Adlatch w a own e = e
register_rests kind.Dlatchsr w a own e = e

number_rests : (before now : Digits) (r : Reg) (own : ℕ) → next_number before now r own ≡ own → next_number now now r own ≡ own
number_rests before now r own e =
    ap (λ t. next_by r.kind r.width (record (register_inputs before now r) { edge = t }) own) (no_edge r.pol.clk now r.clk) ∙ register_rests r.kind r.width (register_inputs before now r) own e

eq_is : (m n : ℕ) → nat_eq m n ≡ true → m ≡ n
eq_is m n e = grind (arith, nat_tests)

is_eq : (m n : ℕ) → m ≡ n → nat_eq m n ≡ true
is_eq m n e = grind (arith, nat_tests)

numbers_rest : (before now : Digits) (rs : List Reg) (ps : List ℕ) → pointwise nat_eq (next_numbers before now rs ps) ps ≡ true → pointwise nat_eq (next_numbers now now rs ps) ps ≡ true
unfolding next_numbers
numbers_rest before now [] ps e = e
numbers_rest before now (r ∷ rs) [] e = e
numbers_rest before now (r ∷ rs) (p ∷ ps) e =
    let t = and_parts (nat_eq (next_number before now r p) p) (pointwise nat_eq (next_numbers before now rs ps) ps) e in
    and_from (nat_eq (next_number now now r p) p) (pointwise nat_eq (next_numbers now now rs ps) ps)
    (is_eq (next_number now now r p) p (number_rests before now r p (eq_is (next_number before now r p) p t.0)))
    (numbers_rest before now rs ps t.1)

-- ---- memories

nothing_written : (now : Digits) (address i : ℕ) (marks : List Bool) (ports : List WritePort) → highest_write now now address i marks ports ≡ None
unfolding highest_write
nothing_written now address i marks [] = refl
nothing_written now address i [] (p ∷ ports) = refl
nothing_written now address i (mark ∷ marks) (p ∷ ports) =
    ap (λ o. or_else o (cond (mark && writes_at now now address i p) (Some (bit_at (sig_number now p.word) i)) None)) (nothing_written now address i marks ports)
    ∙ ap (λ t. cond (mark && (t && (nat_eq (sig_number now p.addr) address && nat_eq (bit_at (sig_number now p.en) i) 1))) (Some (bit_at (sig_number now p.word) i)) None) (no_edge p.rising now p.clk)
    ∙ never mark (Some (bit_at (sig_number now p.word) i))
  where
    never : (t : Bool) (o : Option ℕ) → cond (t && false) o None ≡ None
    never true o = refl
    never false o = refl

last_digit : (o : Option ℕ) (t : Bool) (d n : ℕ) → ((m : ℕ) → o ≡ Some m → m < 2) → d < 2 → or_else o (cond t (Some d) None) ≡ Some n → n < 2
last_digit (Some m) t d n later lt e = later n e
last_digit None true d n later lt e = let s : d ≡ n = grind arith in omega (arith, lt, s)
last_digit None false d n later lt e = absurd (none-some n e)

written_digit : (before now : Digits) (address i : ℕ) (marks : List Bool) (ports : List WritePort) (n : ℕ) → highest_write before now address i marks ports ≡ Some n → n < 2
unfolding highest_write
written_digit before now address i marks [] n e = absurd (none-some n e)
written_digit before now address i [] (p ∷ ports) n e = absurd (none-some n e)
written_digit before now address i (mark ∷ marks) (p ∷ ports) n e =
    last_digit (highest_write before now address i marks ports) (mark && writes_at before now address i p) (bit_at (sig_number now p.word) i) n
    (λ m is. written_digit before now address i marks ports m is) (bit_at-lt (sig_number now p.word) i) e

pub row_digit : (before now : Digits) (m : Mem) (marks : List Bool) (address own i : ℕ) → unwrap_or (highest_write before now address i marks m.writes) (bit_at own i) < 2
row_digit before now m marks address own i = by (highest_write before now address i marks m.writes) refl
  where
    by : (o : Option ℕ) → highest_write before now address i marks m.writes ≡ o → unwrap_or o (bit_at own i) < 2
    by None is = bit_at-lt own i
    by (Some n) is = written_digit before now address i marks m.writes n is

row_rests : (before now : Digits) (m : Mem) (marks : List Bool) (address own : ℕ) → next_row before now m marks address own ≡ own → next_row now now m marks address own ≡ own
row_rests before now m marks address own e =
    gathered_same m.width (λ i. unwrap_or (highest_write now now address i marks m.writes) (bit_at own i)) (λ i. unwrap_or (highest_write before now address i marks m.writes) (bit_at own i))
    (λ i lt. ap (λ o. unwrap_or o (bit_at own i)) (nothing_written now address i marks m.writes)
    ∙ ap (λ n. bit_at n i) (sym e) ∙ gathered_bit m.width (λ j. unwrap_or (highest_write before now address j marks m.writes) (bit_at own j)) (row_digit before now m marks address own) i lt) ∙ e

rows_rest : (before now : Digits) (m : Mem) (place : ℕ) (rows : List ℕ) → pointwise nat_eq (next_rows before now m place rows) rows ≡ true → pointwise nat_eq (next_rows now now m place rows) rows ≡ true
unfolding next_rows
rows_rest before now m place [] e = refl
rows_rest before now m place (own ∷ rows) e =
    let marks = all_marked m.writes in
    let t = and_parts (nat_eq (next_row before now m marks (place + m.offset) own) own) (pointwise nat_eq (next_rows before now m (suc place) rows) rows) e in
    and_from (nat_eq (next_row now now m marks (place + m.offset) own) own) (pointwise nat_eq (next_rows now now m (suc place) rows) rows)
    (is_eq (next_row now now m marks (place + m.offset) own) own (row_rests before now m marks (place + m.offset) own (eq_is (next_row before now m marks (place + m.offset) own) own t.0)))
    (rows_rest before now m (suc place) rows t.1)

read_rests : (now : Digits) (m : Mem) (rows : List ℕ) (p : ReadPort) (own : ℕ) → next_read now now m rows p own ≡ own
read_rests now m rows p own = ap (λ t. cond (p.clocked && (t && is_active true now p.en)) (transparent_read now now m rows p) own) (no_edge p.rising now p.clk) ∙ by p.clocked
  where
    by : (t : Bool) → cond (t && false) (transparent_read now now m rows p) own ≡ own
    by true = refl
    by false = refl

reads_rest : (before now : Digits) (m : Mem) (rows : List ℕ) (ports : List ReadPort) (owns : List ℕ) → pointwise nat_eq (next_reads before now m rows ports owns) owns ≡ true → pointwise nat_eq (next_reads now now m rows ports owns) owns ≡ true
unfolding next_reads
reads_rest before now m rows [] owns e = e
reads_rest before now m rows (p ∷ ports) [] e = e
reads_rest before now m rows (p ∷ ports) (own ∷ owns) e =
    let t = and_parts (nat_eq (next_read before now m rows p own) own) (pointwise nat_eq (next_reads before now m rows ports owns) owns) e in
    and_from (nat_eq (next_read now now m rows p own) own) (pointwise nat_eq (next_reads now now m rows ports owns) owns)
    (is_eq (next_read now now m rows p own) own (read_rests now m rows p own)) (reads_rest before now m rows ports owns t.1)

stored_rests : (before now : Digits) (m : Mem) (kept : Stored) → same_stored (next_stored before now m kept) kept ≡ true → same_stored (next_stored now now m kept) kept ≡ true
stored_rests before now m kept e =
    let t = and_parts (pointwise nat_eq (next_rows before now m 0 kept.rows) kept.rows) (pointwise nat_eq (next_reads before now m kept.rows m.reads kept.reads) kept.reads) e in
    and_from (pointwise nat_eq (next_rows now now m 0 kept.rows) kept.rows) (pointwise nat_eq (next_reads now now m kept.rows m.reads kept.reads) kept.reads)
    (rows_rest before now m 0 kept.rows t.0) (reads_rest before now m kept.rows m.reads kept.reads t.1)

mems_rest : (before now : Digits) (ms : List Mem) (kept : List Stored) → pointwise same_stored (next_mems before now ms kept) kept ≡ true → pointwise same_stored (next_mems now now ms kept) kept ≡ true
unfolding next_mems
mems_rest before now [] kept e = e
mems_rest before now (m ∷ ms) [] e = e
mems_rest before now (m ∷ ms) (k ∷ ks) e =
    let t = and_parts (same_stored (next_stored before now m k) k) (pointwise same_stored (next_mems before now ms ks) ks) e in
    and_from (same_stored (next_stored now now m k) k) (pointwise same_stored (next_mems now now ms ks) ks) (stored_rests before now m k t.0) (mems_rest before now ms ks t.1)

-- ---- the whole

pub state_rests : (c : Circuit) (s : State) (before now : List ℕ) → same_state (next c s before now) s ≡ true → same_state (next c s now now) s ≡ true
state_rests c s before now e =
    let p = digits_of_nets before in
    let n = digits_of_nets now in
    let t = and_parts (pointwise nat_eq (next_numbers p n c.regs s.regs) s.regs) (pointwise same_stored (next_mems p n c.mems s.mems) s.mems) e in
    and_from (pointwise nat_eq (next_numbers n n c.regs s.regs) s.regs) (pointwise same_stored (next_mems n n c.mems s.mems) s.mems) (numbers_rest p n c.regs s.regs t.0) (mems_rest p n c.mems s.mems t.1)

-- a standing that a sample leaves: its nets are the valuation of its state, and a round that led to it left the state as
-- it is
pub record Settles (c : Circuit) (inputs : List ℕ) (t : Standing) : Type 0 where
  pub before : List ℕ
  pub nets : t.nets ≡ valuation c t.state inputs
  pub same : same_state (next c t.state before t.nets) t.state ≡ true

same_standing : (s t : Standing) → Some s ≡ Some t → s ≡ t
same_standing s t e = grind arith

pub settles : (rounds : ℕ) (c : Circuit) (state : State) (before inputs : List ℕ) (t : Standing) → settled_within rounds c state before inputs ≡ Some t → Settles c inputs t
unfolding settling
settles zero c state before inputs t e = absurd (none-some t e)
settles (suc rounds) c state before inputs t e = elim (cases_Bool (same_state (next c state before (valuation c state inputs)) state)) [
  | inl same ↦ subst (Settles c inputs) (same_standing _ t (sym (cond-true (same_state (next c state before (valuation c state inputs)) state) _ _ same) ∙ e)) (record { before = before; nets = refl; same = same })
  | inr other ↦ settles rounds c (next c state before (valuation c state inputs)) (valuation c state inputs) inputs t (sym (cond-false (same_state (next c state before (valuation c state inputs)) state) _ _ other) ∙ e)
]
