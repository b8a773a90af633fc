-- A row after the first write ports.
use Rattle.std.proofs.Common.{◌≡◌, ℕ, zero, suc, ◌+◌, ◌^◌, ◌<◌, List, [], ◌∷◌, ◌++◌, length, take, get_or, eqb, cond, refl, sym, ◌∙◌, ap, arith, Bool, true, false, ◌&&◌}
use Rattle.std.specs.Prelude.{Option, Some, None, unwrap_or, if◌then◌else◌}
use Rattle.std.proofs.lemmas.List.{take_more, length-map, length-take-le}
use Rattle.std.proofs.lemmas.Nat.Bits.{bit_at-lt, same_from_bits_below}
use Rattle.std.specs.Int.{bit_at}
use Rattle.circuit.specs.Signal.{Digits, gathered, sig_number}
use Rattle.circuit.specs.Next.{all_marked, has_edge, or_else, writes_at, highest_write}
use Rattle.circuit.specs.declared.memory.WritePort.{WritePort}
use Rattle.circuit.proofs.Gathered.{gathered_bit, gathered_below}
use Rattle.memory_cells.specs.Ports.{row_by}
use Rattle.memory_cells.proofs.MaskedDigits.{masked_bit, masked_below}

-- what one port writes to a bit
abbrev pub one : Digits → Digits → ℕ → ℕ → Bool → WritePort → Option ℕ
one before now address i mark p = if mark && writes_at before now address i p then Some (bit_at (sig_number now p.word) i) else None

-- the digit of a bit after these ports
abbrev pub digit_after : Digits → Digits → ℕ → List Bool → List WritePort → ℕ → ℕ → ℕ
digit_after before now address marks ports own i = unwrap_or (highest_write before now address i marks ports) (bit_at own i)

abbrev pub row_after : Digits → Digits → ℕ → ℕ → List Bool → List WritePort → ℕ → ℕ
row_after before now width address marks ports own = gathered (digit_after before now address marks ports own) width

or_else_none : (o : Option ℕ) → or_else o None ≡ o
or_else_none (Some n) = refl
or_else_none None = refl

or_else_assoc : (a b c : Option ℕ) → or_else (or_else a b) c ≡ or_else a (or_else b c)
or_else_assoc (Some n) b c = refl
or_else_assoc None b c = refl

pub unwrap_or_else : (a b : Option ℕ) (x : ℕ) → unwrap_or (or_else a b) x ≡ unwrap_or a (unwrap_or b x)
unwrap_or_else (Some n) b x = refl
unwrap_or_else None b x = refl

pub written_cons : (before now : Digits) (address i : ℕ) (mark : Bool) (marks : List Bool) (p : WritePort) (ports : List WritePort) → highest_write before now address i (mark ∷ marks) (p ∷ ports) ≡ or_else (highest_write before now address i marks ports) (one before now address i mark p)
unfolding highest_write
written_cons before now address i mark marks p ports = refl

pub written_nil : (before now : Digits) (address i : ℕ) (marks : List Bool) → highest_write before now address i marks [] ≡ None
unfolding highest_write
written_nil before now address i marks = refl

written_unmarked : (before now : Digits) (address i : ℕ) (p : WritePort) (ports : List WritePort) → highest_write before now address i [] (p ∷ ports) ≡ None
unfolding highest_write
written_unmarked before now address i p ports = refl

-- a port more
written_more : (before now : Digits) (address i : ℕ) (marks : List Bool) (ports : List WritePort) (mark : Bool) (p : WritePort) → length marks ≡ length ports
    → highest_write before now address i (marks ++ mark ∷ []) (ports ++ p ∷ []) ≡ or_else (one before now address i mark p) (highest_write before now address i marks ports)
written_more before now address i [] [] mark p e =
    written_cons before now address i mark [] p [] ∙ ap (λ o. or_else o (one before now address i mark p)) (written_nil before now address i []) ∙ sym (or_else_none (one before now address i mark p)) ∙ ap (or_else (one before now address i mark p)) (sym (written_nil before now address i []))
written_more before now address i [] (q ∷ ports) mark p e = absurd (omega arith)
written_more before now address i (m ∷ marks) [] mark p e = absurd (omega arith)
written_more before now address i (m ∷ marks) (q ∷ ports) mark p e =
    written_cons before now address i m (marks ++ mark ∷ []) q (ports ++ p ∷ [])
    ∙ ap (λ o. or_else o (one before now address i m q)) (written_more before now address i marks ports mark p (omega arith))
    ∙ or_else_assoc (one before now address i mark p) (highest_write before now address i marks ports) (one before now address i m q)
    ∙ ap (or_else (one before now address i mark p)) (sym (written_cons before now address i m marks q ports))

one_below : (b : Bool) (n x y : ℕ) → n < 2 → x < 2 → unwrap_or (if b then Some n else None) x < 2
one_below true n x y a b = a
one_below false n x y a b = b

written_below : (before now : Digits) (address i : ℕ) (marks : List Bool) (ports : List WritePort) (x : ℕ) → x < 2 → unwrap_or (highest_write before now address i marks ports) x < 2
written_below before now address i marks [] x lt = rw (written_nil before now address i marks) lt
written_below before now address i [] (p ∷ ports) x lt = rw (written_unmarked before now address i p ports) lt
written_below before now address i (mark ∷ marks) (p ∷ ports) x lt =
    rw (written_cons before now address i mark marks p ports)
    (rw (unwrap_or_else (highest_write before now address i marks ports) (one before now address i mark p) x)
    (written_below before now address i marks ports (unwrap_or (one before now address i mark p) x) (one_below (mark && writes_at before now address i p) (bit_at (sig_number now p.word) i) x x (bit_at-lt (sig_number now p.word) i) lt)))

pub digit_after_below : (before now : Digits) (address : ℕ) (marks : List Bool) (ports : List WritePort) (own i : ℕ) → digit_after before now address marks ports own i < 2
digit_after_below before now address marks ports own i = written_below before now address i marks ports (bit_at own i) (bit_at-lt own i)

pub row_after_below : (before now : Digits) (w address : ℕ) (marks : List Bool) (ports : List WritePort) (own : ℕ) → row_after before now w address marks ports own < 2 ^ w
row_after_below before now w address marks ports own = gathered_below w (digit_after before now address marks ports own) (digit_after_below before now address marks ports own)

pub row_after_bit : (before now : Digits) (w address : ℕ) (marks : List Bool) (ports : List WritePort) (own i : ℕ) → i < w → bit_at (row_after before now w address marks ports own) i ≡ digit_after before now address marks ports own i
row_after_bit before now w address marks ports own i lt = gathered_bit w (digit_after before now address marks ports own) (digit_after_below before now address marks ports own) i lt

-- after no port the row is as it was
pub row_after_none : (before now : Digits) (w address : ℕ) (own : ℕ) → own < 2 ^ w → row_after before now w address [] [] own ≡ own
row_after_none before now w address own lt =
    same_from_bits_below w (row_after before now w address [] [] own) own (row_after_below before now w address [] [] own) lt
    (λ i in'. row_after_bit before now w address [] [] own i in' ∙ ap (λ o. unwrap_or o (bit_at own i)) (written_nil before now address i []))

row_by_below : (writes : Bool) (en word row w : ℕ) → row < 2 ^ w → row_by writes en word row w < 2 ^ w
row_by_below true en word row w lt = masked_below en word row w
row_by_below false en word row w lt = lt

one_digit : (mark edge there : Bool) (en word row w i : ℕ) → i < w
    → unwrap_or (if mark && (edge && (there && eqb (bit_at en i) 1)) then Some (bit_at word i) else None) (bit_at row i) ≡ bit_at (row_by (mark && (edge && there)) en word row w) i
one_digit false edge there en word row w i lt = refl
one_digit true false there en word row w i lt = refl
one_digit true true false en word row w i lt = refl
one_digit true true true en word row w i lt = enabled (eqb (bit_at en i) 1) ∙ sym (masked_bit en word row w i lt)
  where
    enabled : (b : Bool) → unwrap_or (if b then Some (bit_at word i) else None) (bit_at row i) ≡ cond b (bit_at word i) (bit_at row i)
    enabled true = refl
    enabled false = refl

pub row_after_more : (before now : Digits) (w address : ℕ) (marks : List Bool) (ports : List WritePort) (mark : Bool) (p : WritePort) (own : ℕ) → length marks ≡ length ports
    → row_after before now w address (marks ++ mark ∷ []) (ports ++ p ∷ []) own
    ≡ row_by (mark && (has_edge p.rising before now p.clk && eqb (sig_number now p.addr) address)) (sig_number now p.en) (sig_number now p.word) (row_after before now w address marks ports own) w
row_after_more before now w address marks ports mark p own e =
    let writes = mark && (has_edge p.rising before now p.clk && eqb (sig_number now p.addr) address) in
    let row = row_after before now w address marks ports own in
    same_from_bits_below w _ _ (row_after_below before now w address (marks ++ mark ∷ []) (ports ++ p ∷ []) own) (row_by_below writes (sig_number now p.en) (sig_number now p.word) row w (row_after_below before now w address marks ports own))
    (λ i lt.
    row_after_bit before now w address (marks ++ mark ∷ []) (ports ++ p ∷ []) own i lt
    ∙ ap (λ o. unwrap_or o (bit_at own i)) (written_more before now address i marks ports mark p e)
    ∙ unwrap_or_else (one before now address i mark p) (highest_write before now address i marks ports) (bit_at own i)
    ∙ ap (unwrap_or (one before now address i mark p)) (sym (row_after_bit before now w address marks ports own i lt))
    ∙ one_digit mark (has_edge p.rising before now p.clk) (eqb (sig_number now p.addr) address) (sig_number now p.en) (sig_number now p.word) row w i lt)

-- a port of a list that is marked or not
pub row_after_next : (before now : Digits) (w address : ℕ) (marks : List Bool) (ports : List WritePort) (i : ℕ) (p : WritePort) (own row new : ℕ) → length marks ≡ length ports → i < length ports → p ≡ get_or ports i p
    → row ≡ row_after before now w address (take i marks) (take i ports) own
    → new ≡ row_by (get_or marks i false && (has_edge p.rising before now p.clk && eqb (sig_number now p.addr) address)) (sig_number now p.en) (sig_number now p.word) row w
    → new ≡ row_after before now w address (take (i + 1) marks) (take (i + 1) ports) own
row_after_next before now w address marks ports i p own row new same lt at e made =
    let more_marks : take (i + 1) marks ≡ take i marks ++ get_or marks i false ∷ [] = take_more marks i false (omega arith) in
    let more_ports : take (i + 1) ports ≡ take i ports ++ p ∷ [] = take_more ports i p lt ∙ ap (λ q. take i ports ++ q ∷ []) (sym at) in
    let lengths : length (take i marks) ≡ length (take i ports) = length-take-le i marks (omega arith) ∙ sym (length-take-le i ports (omega arith)) in
    made
    ∙ ap (λ n. row_by (get_or marks i false && (has_edge p.rising before now p.clk && eqb (sig_number now p.addr) address)) (sig_number now p.en) (sig_number now p.word) n w) e
    ∙ sym (row_after_more before now w address (take i marks) (take i ports) (get_or marks i false) p own lengths)
    ∙ ap (λ ms. row_after before now w address ms (take i ports ++ p ∷ []) own) (sym more_marks)
    ∙ ap (λ ps. row_after before now w address (take (i + 1) marks) ps own) (sym more_ports)

marked_at : (ports : List WritePort) (i : ℕ) → i < length ports → get_or (all_marked ports) i false ≡ true
marked_at [] i lt = absurd (omega arith)
marked_at (p ∷ ports) zero lt = refl
marked_at (p ∷ ports) (suc i) lt = marked_at ports i (omega arith)

-- a port of a list of which all are marked
pub row_after_next_of_all : (before now : Digits) (w address : ℕ) (ports : List WritePort) (i : ℕ) (p : WritePort) (own row new : ℕ) → i < length ports → p ≡ get_or ports i p
    → row ≡ row_after before now w address (take i (all_marked ports)) (take i ports) own
    → new ≡ row_by (has_edge p.rising before now p.clk && eqb (sig_number now p.addr) address) (sig_number now p.en) (sig_number now p.word) row w
    → new ≡ row_after before now w address (take (i + 1) (all_marked ports)) (take (i + 1) ports) own
row_after_next_of_all before now w address ports i p own row new lt at e made =
    row_after_next before now w address (all_marked ports) ports i p own row new (length-map ports (λ _. true)) lt at e
    (made ∙ ap (λ b. row_by (b && (has_edge p.rising before now p.clk && eqb (sig_number now p.addr) address)) (sig_number now p.en) (sig_number now p.word) row w) (sym (marked_at ports i lt)))
