-- Registers, rows and read ports keep numbers below 2 to their widths.
use Rattle.std.proofs.Common.{◌≡◌, ℕ, zero, suc, ◌+◌, ◌*◌, ◌/◌, ◌^◌, ◌<◌, ◌≤◌, cond, List, [], ◌∷◌, map, refl, sym, ◌∙◌, ap, subst, arith, inl, inr, Bool, true, ◌&&◌, ◌==◌, Some}
use Rattle.std.specs.Prelude.{slice_get, slice_index, option_map, nat_le}
use Rattle.std.specs.Int.{bit_at}
use Rattle.std.specs.List.{list_all}
use Rattle.std.proofs.Math.Nat.{mod-lt, mul-le-mul_right}
use Rattle.std.proofs.lemmas.Nat.{pow-add, pow_pos}
use Rattle.std.proofs.lemmas.Nat.Bits.{bit_at-lt}
use Rattle.std.proofs.lemmas.Bool.{and_parts, cases_Bool, cond-true, cond-false, eqb-true}
use Rattle.std.proofs.lemmas.Option.{none-some, same_Some, option_and_then_some, slice_get-map}
use Rattle.std.proofs.lemmas.List.Sums.{sum_by-cons}
use Rattle.circuit.specs.Signal.{Digits, digits_of_nets, piece_width, piece_number, sig_width, sig_number}
use Rattle.circuit.specs.State.{State, Stored, is_inside, addressed_row}
use Rattle.circuit.specs.Valuation.{valuation}
use Rattle.circuit.specs.Next.{RegisterInputs, register_inputs, has_edge, is_active, next_by, next_number, next_numbers, all_marked, next_row, next_rows, transparent_read, next_read, next_reads, next_stored, next_mems, next}
use Rattle.sim_base.specs.Parts.{parts}
use Rattle.circuit.specs.Rounds.{Run, Standing, settled, settled_within, standing_after, start_state, start_stored, settling}
use Rattle.circuit.specs.State.{same_state}
use Rattle.circuit.specs.Valid.{address_width, counts_fit, cell_fits, drive_fits, drivers_of, is_valid, mem_fits, ports_of_kind, read_fits, register_fits, register_has, sig_fits, sig_of, widest, width_where, write_fits}
use Rattle.circuit.specs.Below.{AreConstantsBelow, AreRowsBelow, AreValuesBelow, IsBelow, IsRegisterBelow, IsStateBelow}
use Rattle.circuit.specs.declared.netlist.Circuit.{Circuit}
use Rattle.circuit.specs.declared.netlist.Net.{Net}
use Rattle.circuit.specs.declared.netlist.Piece.{Piece}
use Rattle.circuit.specs.declared.netlist.Piece.TheVariants as piece
use Rattle.circuit.specs.declared.register.Reg.{Reg}
use Rattle.circuit.specs.declared.register.RegKind.{RegKind}
use Rattle.circuit.specs.declared.register.RegKind.TheVariants as kind
use Rattle.circuit.specs.declared.memory.Mem.{Mem}
use Rattle.circuit.specs.declared.memory.ReadPort.{ReadPort}
use Rattle.circuit.proofs.Gathered.{gathered_below}
use Rattle.circuit.proofs.Still.{bits_digit, cond_below, row_digit}

-- ---- signals

cat_below : (a b v w : ℕ) → a < 2 ^ v → b < 2 ^ w → a * 2 ^ w + b < 2 ^ (w + v)
cat_below a b v w la lb =
    let m : (a + 1) * 2 ^ w ≤ 2 ^ v * 2 ^ w = mul-le-mul_right (2 ^ w) (omega (arith, la)) in
    let p : 2 ^ (w + v) ≡ 2 ^ w * 2 ^ v = pow-add 2 w v in
    omega (arith, m, p, lb)

piece_below : (d : Digits) → ((net bit : ℕ) → d net bit < 2) → (p : Piece) → ((v : _) → p ≡ piece.Const v → IsBelow v) → piece_number d p < 2 ^ piece_width p
piece_below d small (piece.Const v) below = below v refl
piece_below d small (piece.Part net at width) below = gathered_below width (λ j. d net (at + j)) (λ j. small net (at + j))

sig_below : (d : Digits) → ((net bit : ℕ) → d net bit < 2) → (ps : List Piece) → AreConstantsBelow ps → sig_number d ps < 2 ^ sig_width ps
unfolding sig_number
sig_below d small [] below = omega arith
sig_below d small (p ∷ ps) below =
    subst (λ w. sig_number d ps * 2 ^ piece_width p + piece_number d p < 2 ^ w) (sym (sum_by-cons piece_width p ps))
    (cat_below (sig_number d ps) (piece_number d p) (sig_width ps) (piece_width p) (sig_below d small ps (λ i. below (suc i))) (piece_below d small p (λ v is. below 0 v (ap Some is))))

-- ---- registers

-- what each kind takes, loads and is reset to has the register's width
by_below : (k : RegKind) (w : ℕ) (a : RegisterInputs) (own : ℕ) → a.input < 2 ^ width_where (ports_of_kind k).d w → a.load < 2 ^ width_where (ports_of_kind k).load w → a.value < 2 ^ w → own < 2 ^ w → next_by k w a own < 2 ^ w
by_below kind.Dff w a own i l v o = cond_below (2 ^ w) a.edge a.input own i o
by_below kind.Dffe w a own i l v o = cond_below (2 ^ w) (a.edge && a.enabled) a.input own i o
by_below kind.Adff w a own i l v o = cond_below (2 ^ w) a.reset a.value (cond a.edge a.input own) v (cond_below (2 ^ w) a.edge a.input own i o)
by_below kind.Adffe w a own i l v o = cond_below (2 ^ w) a.reset a.value (cond (a.edge && a.enabled) a.input own) v (cond_below (2 ^ w) (a.edge && a.enabled) a.input own i o)
by_below kind.Sdff w a own i l v o = cond_below (2 ^ w) (a.edge && a.reset) a.value (cond a.edge a.input own) v (cond_below (2 ^ w) a.edge a.input own i o)
by_below kind.Sdffe w a own i l v o = cond_below (2 ^ w) (a.edge && a.reset) a.value (cond (a.edge && a.enabled) a.input own) v (cond_below (2 ^ w) (a.edge && a.enabled) a.input own i o)
by_below kind.Sdffce w a own i l v o = cond_below (2 ^ w) (a.edge && (a.enabled && a.reset)) a.value (cond (a.edge && a.enabled) a.input own) v (cond_below (2 ^ w) (a.edge && a.enabled) a.input own i o)
by_below kind.Aldff w a own i l v o = cond_below (2 ^ w) a.loaded a.load (cond a.edge a.input own) l (cond_below (2 ^ w) a.edge a.input own i o)
by_below kind.Aldffe w a own i l v o = cond_below (2 ^ w) a.loaded a.load (cond (a.edge && a.enabled) a.input own) l (cond_below (2 ^ w) (a.edge && a.enabled) a.input own i o)
by_below kind.Dffsr w a own i l v o = gathered_below w (λ j. cond (a.cleared j) 0 (cond (a.set j) 1 (bit_at (cond a.edge a.input own) j))) (bits_digit a (cond a.edge a.input own))
by_below kind.Dffsre w a own i l v o = gathered_below w (λ j. cond (a.cleared j) 0 (cond (a.set j) 1 (bit_at (cond (a.edge && a.enabled) a.input own) j))) (bits_digit a (cond (a.edge && a.enabled) a.input own))
by_below kind.Sr w a own i l v o = gathered_below w (λ j. cond (a.cleared j) 0 (cond (a.set j) 1 (bit_at own j))) (bits_digit a own)
by_below kind.Dlatch w a own i l v o = cond_below (2 ^ w) a.enabled a.input own i o
by_below kind.Adlatch w a own i l v o = cond_below (2 ^ w) a.reset a.value (cond a.enabled a.input own) v (cond_below (2 ^ w) a.enabled a.input own i o)
by_below kind.Dlatchsr w a own i l v o = gathered_below w (λ j. cond (a.cleared j) 0 (cond (a.set j) 1 (bit_at (cond a.enabled a.input own) j))) (bits_digit a (cond a.enabled a.input own))

-- the widths that a register needs here
record HasWidths (r : Reg) : Type 0 where
  d : sig_width r.d ≡ width_where (ports_of_kind r.kind).d r.width
  ad : sig_width r.ad ≡ width_where (ports_of_kind r.kind).load r.width
  value : r.value.width ≡ r.width
  init : r.init.width ≡ r.width

sig_wide : (nets : List Net) (width : ℕ) (ps : List Piece) → sig_of nets width ps ≡ true → sig_width ps ≡ width
sig_wide nets width ps h = eqb-true (sig_width ps) width (and_parts (sig_fits nets ps) (sig_width ps == width) h).1

second_and_last : (a b c d e f g : Bool) → (a && (b && (c && (d && (e && (f && g)))))) ≡ true → (b ≡ true) × (g ≡ true)
second_and_last a b c d e f g h =
    let u = and_parts b _ (and_parts a _ h).1 in
    (u.0, (and_parts f _ (and_parts e _ (and_parts d _ (and_parts c _ u.1).1).1).1).1)

has_widths : (nets : List Net) (r : Reg) → register_fits nets r ≡ true → HasWidths r
has_widths nets r h =
    let p = ports_of_kind r.kind in
    let a = and_parts (nat_le r.width widest) (register_has nets p r && (r.value.width == r.width && r.init.width == r.width)) h in
    let b = and_parts (register_has nets p r) (r.value.width == r.width && r.init.width == r.width) a.1 in
    let v = and_parts (r.value.width == r.width) (r.init.width == r.width) b.1 in
    let s = second_and_last (sig_of nets (width_where p.clk 1) r.clk) (sig_of nets (width_where p.d r.width) r.d) (sig_of nets (width_where p.en 1) r.en)
    (sig_of nets (width_where p.bits r.width) r.set) (sig_of nets (cond p.bits r.width (width_where p.reset 1)) r.clr) (sig_of nets (width_where p.load 1) r.load)
    (sig_of nets (width_where p.load r.width) r.ad) b.0 in
    record {
      d = sig_wide nets (width_where p.d r.width) r.d s.0;
      ad = sig_wide nets (width_where p.load r.width) r.ad s.1;
      value = eqb-true r.value.width r.width v.0;
      init = eqb-true r.init.width r.width v.1;
    }

number_below : (r : Reg) → HasWidths r → IsRegisterBelow r → (before now : Digits) → ((net bit : ℕ) → now net bit < 2) → (own : ℕ) → own < 2 ^ r.width → next_number before now r own < 2 ^ r.width
number_below r wide below before now small own o =
    by_below r.kind r.width (register_inputs before now r) own
    (subst (λ w. sig_number now r.d < 2 ^ w) wide.d (sig_below now small r.d below.d))
    (subst (λ w. sig_number now r.ad < 2 ^ w) wide.ad (sig_below now small r.ad below.ad))
    (subst (λ w. r.value.number < 2 ^ w) wide.value below.value) o

numbers_below : (before now : Digits) (rs : List Reg) (ps : List ℕ) (n : ℕ) (r : Reg) → slice_get rs n ≡ Some r → ((own : ℕ) → own < 2 ^ r.width → next_number before now r own < 2 ^ r.width)
    → slice_index ps n < 2 ^ r.width → slice_index (next_numbers before now rs ps) n < 2 ^ r.width
unfolding next_numbers
numbers_below before now [] ps n r is step own = cc is
numbers_below before now (y ∷ rs) [] n r is step own = pow_pos r.width
numbers_below before now (y ∷ rs) (p ∷ ps) zero r is step own =
    subst (λ (x : Reg). next_number before now x p < 2 ^ r.width) (sym (same_Some y r is)) (step p own)
numbers_below before now (y ∷ rs) (p ∷ ps) (suc n) r is step own = numbers_below before now rs ps n r is step own

first_numbers : (rs : List Reg) (n : ℕ) (r : Reg) → slice_get rs n ≡ Some r → slice_index (map (λ (x : Reg). x.init.number) rs) n ≡ r.init.number
first_numbers [] n r is = cc is
first_numbers (y ∷ rs) zero r is = ap (λ (x : Reg). x.init.number) (same_Some y r is)
first_numbers (y ∷ rs) (suc n) r is = first_numbers rs n r is

-- ---- memories

row_below : (before now : Digits) (m : Mem) (marks : List Bool) (address own : ℕ) → next_row before now m marks address own < 2 ^ m.width
row_below before now m marks address own = gathered_below m.width _ (row_digit before now m marks address own)

rows_at : (before now : Digits) (m : Mem) (place : ℕ) (rows : List ℕ) (row : ℕ) → slice_index (next_rows before now m place rows) row < 2 ^ m.width
unfolding next_rows
rows_at before now m place [] row = pow_pos m.width
rows_at before now m place (own ∷ rows) zero = row_below before now m (all_marked m.writes) (place + m.offset) own
rows_at before now m place (own ∷ rows) (suc row) = rows_at before now m (suc place) rows row

parts_at : (width count n row : ℕ) → slice_index (parts width count n) row < 2 ^ width
unfolding parts
parts_at width zero n row = pow_pos width
parts_at width (suc count) n zero = mod-lt n (pow_pos width)
parts_at width (suc count) n (suc row) = parts_at width count (n / 2 ^ width) row

read_below : (before now : Digits) (m : Mem) (rows : List ℕ) (p : ReadPort) (own : ℕ) → own < 2 ^ m.width → next_read before now m rows p own < 2 ^ m.width
read_below before now m rows p own o =
    let address = sig_number now p.addr in
    cond_below (2 ^ m.width) (p.clocked && (has_edge p.rising before now p.clk && is_active true now p.en)) (transparent_read before now m rows p) own
    (cond_below (2 ^ m.width) (is_inside m address) (next_row before now m p.see address (addressed_row m rows address)) 0 (row_below before now m p.see address (addressed_row m rows address)) (pow_pos m.width)) o

reads_at : (before now : Digits) (m : Mem) (rows : List ℕ) (ports : List ReadPort) (owns : List ℕ) (n : ℕ) → slice_index owns n < 2 ^ m.width → slice_index (next_reads before now m rows ports owns) n < 2 ^ m.width
unfolding next_reads
reads_at before now m rows [] owns n o = pow_pos m.width
reads_at before now m rows (p ∷ ports) [] n o = pow_pos m.width
reads_at before now m rows (p ∷ ports) (own ∷ owns) zero o = read_below before now m rows p own o
reads_at before now m rows (p ∷ ports) (own ∷ owns) (suc n) o = reads_at before now m rows ports owns n o

first_reads : (width : ℕ) (ports : List ReadPort) → ((n : ℕ) (p : ReadPort) → slice_get ports n ≡ Some p → p.init.number < 2 ^ width) → (n : ℕ) → slice_index (map (λ (p : ReadPort). p.init.number) ports) n < 2 ^ width
first_reads width [] below n = pow_pos width
first_reads width (p ∷ ports) below zero = below 0 p refl
first_reads width (p ∷ ports) below (suc n) = first_reads width ports (λ k. below (suc k)) n

-- a memory of the next state is what follows on its own
pub mems_at : (before now : Digits) (ms : List Mem) (ks : List Stored) (n : ℕ) (m : Mem) (kept : Stored) → slice_get ms n ≡ Some m → slice_get (next_mems before now ms ks) n ≡ Some kept
    → (k : Stored) × (slice_get ks n ≡ Some k) × (next_stored before now m k ≡ kept)
unfolding next_mems
mems_at before now [] ks n m kept is next = cc is
mems_at before now (y ∷ ms) [] n m kept is next = cc next
mems_at before now (y ∷ ms) (k ∷ ks) zero m kept is next =
    (k, refl, ap (λ (x : Mem). next_stored before now x k) (sym (same_Some y m is)) ∙ same_Some (next_stored before now y k) kept next)
mems_at before now (y ∷ ms) (k ∷ ks) (suc n) m kept is next = mems_at before now ms ks n m kept is next

pub first_mems : (ms : List Mem) (n : ℕ) (m : Mem) (kept : Stored) → slice_get ms n ≡ Some m → slice_get (map start_stored ms) n ≡ Some kept → start_stored m ≡ kept
first_mems ms n m kept is first =
    same_Some (start_stored m) kept (sym (slice_get-map start_stored ms n ∙ ap (option_map start_stored) is) ∙ first)

-- ---- what a valid circuit says of its registers and memories

all_at : {X : Type 0} (p : X → Bool) (xs : List X) (i : ℕ) (x : X) → list_all p xs ≡ true → slice_get xs i ≡ Some x → p x ≡ true
all_at p [] i x h e = cc e
all_at p (y ∷ xs) zero x h e = ap p (sym (same_Some y x e)) ∙ (and_parts (p y) (list_all p xs) h).0
all_at p (y ∷ xs) (suc i) x h e = all_at p xs i x (and_parts (p y) (list_all p xs) h).1 e

fifth_and_sixth : (a b c d e f rest : Bool) → (a && (b && (c && (d && (e && (f && rest)))))) ≡ true → (e ≡ true) × (f ≡ true)
fifth_and_sixth a b c d e f rest h =
    let u = and_parts e _ (and_parts d _ (and_parts c _ (and_parts b _ (and_parts a _ h).1).1).1).1 in
    (u.0, (and_parts f rest u.1).0)

valid_parts : (c : Circuit) → is_valid c ≡ true → (list_all (register_fits c.nets) c.regs ≡ true) × (list_all (mem_fits c.nets) c.mems ≡ true)
valid_parts c valid =
    fifth_and_sixth (counts_fit c) (list_all (λ x. nat_le x.width widest) c.nets) (list_all (drive_fits (drivers_of c)) c.drives) (list_all (cell_fits c.nets) c.cells)
    (list_all (register_fits c.nets) c.regs) (list_all (mem_fits c.nets) c.mems) _ valid

register_widths : (c : Circuit) → is_valid c ≡ true → (n : ℕ) (r : Reg) → slice_get c.regs n ≡ Some r → HasWidths r
register_widths c valid n r is = has_widths c.nets r (all_at (register_fits c.nets) c.regs n r (valid_parts c valid).0 is)

last_two : (a b c d e : Bool) → (a && (b && (c && (d && e)))) ≡ true → (d ≡ true) × (e ≡ true)
last_two a b c d e h = and_parts d e (and_parts c _ (and_parts b _ (and_parts a _ h).1).1).1

read_width : (c : Circuit) → is_valid c ≡ true → (n port : ℕ) (m : Mem) (p : ReadPort) → slice_get c.mems n ≡ Some m → slice_get m.reads port ≡ Some p → p.init.width ≡ m.width
read_width c valid n port m p is at =
    let abits = address_width m.reads m.writes in
    let fits : mem_fits c.nets m ≡ true = all_at (mem_fits c.nets) c.mems n m (valid_parts c valid).1 is in
    let reads : list_all (read_fits c.nets m abits) m.reads ≡ true = (last_two (nat_le m.width widest) (m.init.width == m.size * m.width) _ (list_all (read_fits c.nets m abits) m.reads) (list_all (write_fits c.nets m abits) m.writes) fits).0 in
    let read : read_fits c.nets m abits p ≡ true = all_at (read_fits c.nets m abits) m.reads port p reads at in
    eqb-true p.init.width m.width (last_two (sig_of c.nets 1 p.clk) (sig_of c.nets 1 p.en) (sig_of c.nets abits p.addr) _ (p.init.width == m.width) read).1

-- ---- states

start_rows : (c : Circuit) → AreRowsBelow c (start_state c)
start_rows c n row m kept is first =
    subst (λ (k : Stored). slice_index k.rows row < 2 ^ m.width) (first_mems c.mems n m kept is first) (parts_at m.width m.size m.init.number row)

next_rows_below : (c : Circuit) (s : State) (before now : List ℕ) → AreRowsBelow c (next c s before now)
next_rows_below c s before now n row m kept is after =
    let b = digits_of_nets before in
    let d = digits_of_nets now in
    let h = mems_at b d c.mems s.mems n m kept is after in
    subst (λ (k : Stored). slice_index k.rows row < 2 ^ m.width) h.2 (rows_at b d m 0 h.0.rows row)

pub start_below : (c : Circuit) → is_valid c ≡ true → AreValuesBelow c → IsStateBelow c (start_state c)
start_below c valid values = record {
  regs = λ n r is. subst (λ v. v < 2 ^ r.width) (sym (first_numbers c.regs n r is)) (subst (λ w. r.init.number < 2 ^ w) (register_widths c valid n r is).init (values.regs n r is).init);
  rows = start_rows c;
  reads = λ n port m kept is first. subst (λ (k : Stored). slice_index k.reads port < 2 ^ m.width) (first_mems c.mems n m kept is first)
      (first_reads m.width m.reads (λ k p at. subst (λ w. p.init.number < 2 ^ w) (read_width c valid n k m p is at) (values.reads n k m p is at)) port);
}

pub next_below : (c : Circuit) → is_valid c ≡ true → AreValuesBelow c → (s : State) (before now : List ℕ) → IsStateBelow c s → IsStateBelow c (next c s before now)
next_below c valid values s before now small = record {
  regs = λ n r is. numbers_below b d c.regs s.regs n r is
      (number_below r (register_widths c valid n r is) (values.regs n r is) b d (λ net bit. bit_at-lt (slice_index now net) bit)) (small.regs n r is);
  rows = next_rows_below c s before now;
  reads = λ n port m kept is after. (let h = mems_at b d c.mems s.mems n m kept is after in
      subst (λ (k : Stored). slice_index k.reads port < 2 ^ m.width) h.2 (reads_at b d m h.0.rows m.reads h.0.reads port (small.reads n port m h.0 is h.1)));
}
  where
    b : Digits
    b = digits_of_nets before

    d : Digits
    d = digits_of_nets now

-- ---- samples

-- what a round keeps, some rounds keep
module _ (c : Circuit) (P : State → Type 0) (later : (s : State) (before now : List ℕ) → P s → P (next c s before now)) where
  rounds_keep : (rounds : ℕ) (s : State) (before inputs : List ℕ) (t : Standing) → settled_within rounds c s before inputs ≡ Some t → P s → P t.state
  unfolding settling
  rounds_keep zero s before inputs t is p = absurd (none-some t is)
  rounds_keep (suc rounds) s before inputs t is p = elim (cases_Bool (same_state (next c s before (valuation c s inputs)) s)) [
    | inl same ↦ subst (λ (x : Standing). P x.state) (same_Some _ t (sym (cond-true (same_state (next c s before (valuation c s inputs)) s) _ _ same) ∙ is)) p
    | inr other ↦
        rounds_keep rounds (next c s before (valuation c s inputs)) (valuation c s inputs) inputs t (sym (cond-false (same_state (next c s before (valuation c s inputs)) s) _ _ other) ∙ is)
        (later s before (valuation c s inputs) p)
  ]

-- what is true of the start and what a round keeps is true after each sample
module _ (run : Run) (P : State → Type 0) (first : P (start_state run.circuit)) (later : (s : State) (before now : List ℕ) → P s → P (next run.circuit s before now)) where
  pub samples_keep : (k : ℕ) (s : Standing) → standing_after run k ≡ Some s → P s.state
  unfolding standing_after
  samples_keep zero s is = subst (λ (x : Standing). P x.state) (same_Some _ s is) first
  samples_keep (suc k) s is =
      option_and_then_some (λ t. settled run.circuit t (run.row k).inputs) (standing_after run k) s is
      (λ t before here. rounds_keep run.circuit P later 256 t.state t.nets (run.row k).inputs s here (samples_keep k t before))

pub sample_below : (run : Run) → is_valid run.circuit ≡ true → AreValuesBelow run.circuit → (k : ℕ) (s : Standing) → standing_after run k ≡ Some s → IsStateBelow run.circuit s.state
sample_below run valid values k s is =
    samples_keep run (IsStateBelow run.circuit) (start_below run.circuit valid values) (next_below run.circuit valid values) k s is

pub rows_below : (run : Run) (k : ℕ) (s : Standing) → standing_after run k ≡ Some s → AreRowsBelow run.circuit s.state
rows_below run k s is =
    samples_keep run (AreRowsBelow run.circuit) (start_rows run.circuit) (λ t before now p. next_rows_below run.circuit t before now) k s is
