-- The values of read ports after the first of them.
use Rattle.std.proofs.Common.{◌≡◌, ℕ, zero, suc, ◌+◌, ◌-◌, ◌<◌, ◌≤◌, List, [], ◌∷◌, ◌++◌, length, take, drop, get_or, set, eqb, refl, sym, ◌∙◌, ap, arith, Bool, not, map, ◌||◌, append_assoc}
use Rattle.std.proofs.lemmas.List.{take_more, drop_more, length-take-le, length-append, set-append_right, get_or-append_right, get_or-set_same, take_all, drop_all, append-nil}
use Rattle.std.proofs.lemmas.List.{length-map, get_or-map, map-set}
use Rattle.std.proofs.Math.Seq.{map-set_same}
use Rattle.sim_base.specs.BitValue.{BitValue, bit_value}
use Rattle.sim_base.specs.Values.{numbers, widths}
use Rattle.circuit.specs.Signal.{Digits}
use Rattle.circuit.specs.Next.{next_read, next_reads}
use Rattle.circuit.specs.declared.memory.Mem.{Mem}
use Rattle.circuit.specs.declared.memory.ReadPort.{ReadPort}
use Rattle.memory_cells.proofs.Told.{same_lists, told_set}

reads_more : (before now : Digits) (m : Mem) (rows : List ℕ) (ports : List ReadPort) (owns : List ℕ) (p : ReadPort) (own : ℕ) → length ports ≡ length owns
    → next_reads before now m rows (ports ++ p ∷ []) (owns ++ own ∷ []) ≡ next_reads before now m rows ports owns ++ next_read before now m rows p own ∷ []
unfolding next_reads
reads_more before now m rows [] [] p own e = refl
reads_more before now m rows [] (x ∷ owns) p own e = absurd (omega arith)
reads_more before now m rows (q ∷ ports) [] p own e = absurd (omega arith)
reads_more before now m rows (q ∷ ports) (x ∷ owns) p own e = ap (λ ys. next_read before now m rows q x ∷ ys) (reads_more before now m rows ports owns p own (omega arith))

reads_length : (before now : Digits) (m : Mem) (rows : List ℕ) (ports : List ReadPort) (owns : List ℕ) → length ports ≡ length owns → length (next_reads before now m rows ports owns) ≡ length owns
unfolding next_reads
reads_length before now m rows [] owns e = e
reads_length before now m rows (q ∷ ports) [] e = absurd (omega arith)
reads_length before now m rows (q ∷ ports) (x ∷ owns) e = let t = reads_length before now m rows ports owns (omega arith) in omega arith

pub reads_none : (before now : Digits) (m : Mem) (rows owns : List ℕ) → next_reads before now m rows [] [] ++ owns ≡ owns
unfolding next_reads
reads_none before now m rows owns = refl

-- the values after the first ports
abbrev pub read_after : Digits → Digits → Mem → List ℕ → List ReadPort → List ℕ → ℕ → List ℕ
read_after before now m rows ports owns i = next_reads before now m rows (take i ports) (take i owns) ++ drop i owns

-- a port more
pub record ReadMore (before now : Digits) (m : Mem) (rows : List ℕ) (ports : List ReadPort) (owns : List ℕ) (i : ℕ) (p : ReadPort) : Type 0 where
  pub own : get_or (read_after before now m rows ports owns i) i 0 ≡ get_or owns i 0
  pub more : set (read_after before now m rows ports owns i) i (next_read before now m rows p (get_or owns i 0)) ≡ read_after before now m rows ports owns (i + 1)
  pub there : i < length (read_after before now m rows ports owns i)

pub read_more : (before now : Digits) (m : Mem) (rows : List ℕ) (ports : List ReadPort) (owns : List ℕ) (i : ℕ) (p : ReadPort) → length ports ≡ length owns → i < length ports → p ≡ get_or ports i p → ReadMore before now m rows ports owns i p
read_more before now m rows ports owns i p same lt at =
    let first = next_reads before now m rows (take i ports) (take i owns) in
    let lengths : length (take i ports) ≡ length (take i owns) = length-take-le i ports (omega arith) ∙ sym (length-take-le i owns (omega arith)) in
    let long : length first ≡ i = reads_length before now m rows (take i ports) (take i owns) lengths ∙ length-take-le i owns (omega arith) in
    let rest : drop i owns ≡ get_or owns i 0 ∷ drop (i + 1) owns = drop_more owns i 0 (omega arith) in
    let none : i - i ≡ 0 = omega arith in
    let v = next_read before now m rows p (get_or owns i 0) in
    let more_ports : take (i + 1) ports ≡ take i ports ++ p ∷ [] = take_more ports i p lt ∙ ap (λ q. take i ports ++ q ∷ []) (sym at) in
    let more_owns : take (i + 1) owns ≡ take i owns ++ get_or owns i 0 ∷ [] = take_more owns i 0 (omega arith) in
    record {
      own = get_or-append_right first (drop i owns) i i 0 long (omega arith) ∙ ap (get_or (drop i owns) (i - i)) refl ∙ ap (λ k. get_or (drop i owns) k 0) none ∙ ap (λ (xs : List ℕ). get_or xs 0 0) rest;
      more =
          set-append_right first (drop i owns) i i v long (omega arith)
          ∙ ap (λ k. first ++ set (drop i owns) k v) none
          ∙ ap (λ (xs : List ℕ). first ++ set xs 0 v) rest
          ∙ sym (append_assoc first (v ∷ []) (drop (i + 1) owns))
          ∙ ap (λ (xs : List ℕ). xs ++ drop (i + 1) owns) (sym (reads_more before now m rows (take i ports) (take i owns) p (get_or owns i 0) lengths))
          ∙ ap (λ (xs : List ReadPort). next_reads before now m rows xs (take i owns ++ get_or owns i 0 ∷ []) ++ drop (i + 1) owns) (sym more_ports)
          ∙ ap (λ (xs : List ℕ). next_reads before now m rows (take (i + 1) ports) xs ++ drop (i + 1) owns) (sym more_owns);
      there = omega (arith, length-append first (drop i owns), long, ap (length {A = ℕ}) rest);
    }

-- one more value, and whether one changed
pub told_more : (before now : Digits) (m : Mem) (rows : List ℕ) (ports : List ReadPort) (owns : List ℕ) (i : ℕ) (p : ReadPort) (changed part : Bool) → ReadMore before now m rows ports owns i p
    → changed ≡ not (same_lists (read_after before now m rows ports owns i) owns)
    → part ≡ not (eqb (next_read before now m rows p (get_or owns i 0)) (get_or owns i 0))
    → (changed || part) ≡ not (same_lists (read_after before now m rows ports owns (i + 1)) owns)
told_more before now m rows ports owns i p changed part r told told_part =
    let v = next_read before now m rows p (get_or owns i 0) in
    let after = read_after before now m rows ports owns i in
    told_set owns after i v changed part r.there told (told_part ∙ ap (λ n. not (eqb v n)) (sym r.own))
    (λ e. sym (get_or-set_same after i v 0 r.there) ∙ ap (λ (xs : List ℕ). get_or xs i 0) e ∙ sym r.own)
    ∙ ap (λ (xs : List ℕ). not (same_lists xs owns)) r.more

-- the values themselves, of which each has the width of a row
pub record OutsMore (before now : Digits) (m : Mem) (rows : List ℕ) (ports : List ReadPort) (olds outs : List BitValue) (i : ℕ) (changed : Bool) : Type 0 where
  pub wide : widths outs ≡ widths olds
  pub after : numbers outs ≡ read_after before now m rows ports (numbers olds) i
  pub told : changed ≡ not (same_lists (numbers outs) (numbers olds))

pub outs_long : (ports : List ReadPort) (olds outs : List BitValue) (w : ℕ) → widths olds ≡ map (λ _. w) ports → widths outs ≡ widths olds → length outs ≡ length ports
outs_long ports olds outs w e f = sym (length-map outs (λ (v : BitValue). v.width)) ∙ ap length (f ∙ e) ∙ length-map ports (λ _. w)

pub same_width_at : (ports : List ReadPort) (w k : ℕ) → k < length ports → get_or (map (λ _. w) ports) k 0 ≡ w
same_width_at [] w k lt = absurd (omega arith)
same_width_at (p ∷ ports) w zero lt = refl
same_width_at (p ∷ ports) w (suc k) lt = same_width_at ports w k (omega arith)

pub out_wide : (ports : List ReadPort) (olds outs : List BitValue) (w i : ℕ) (o : BitValue) → widths olds ≡ map (λ _. w) ports → widths outs ≡ widths olds → i < length ports → (get_or outs i o).width ≡ w
out_wide ports olds outs w i o e f lt =
    sym (get_or-map (λ (v : BitValue). v.width) outs i o 0 (omega (arith, outs_long ports olds outs w e f))) ∙ ap (λ (xs : List ℕ). get_or xs i 0) (f ∙ e) ∙ same_width_at ports w i lt

pub outs_more : (before now : Digits) (m : Mem) (rows : List ℕ) (ports : List ReadPort) (olds outs : List BitValue) (w i : ℕ) (p : ReadPort) (o new : BitValue) (changed part : Bool)
    → widths olds ≡ map (λ _. w) ports → i < length ports → p ≡ get_or ports i p
    → OutsMore before now m rows ports olds outs i changed
    → new ≡ bit_value w (next_read before now m rows p (get_or outs i o).number)
    → part ≡ not (eqb new.number (get_or outs i o).number)
    → OutsMore before now m rows ports olds (set outs i new) (i + 1) (changed || part)
outs_more before now m rows ports olds outs w i p o new changed part all lt at done made told_part =
    let long : length outs ≡ length ports = outs_long ports olds outs w all done.wide in
    let owns = numbers olds in
    let same : length ports ≡ length owns = sym (length-map ports (λ _. w)) ∙ ap length (sym all) ∙ length-map olds (λ (v : BitValue). v.width) ∙ sym (length-map olds (λ (v : BitValue). v.number)) in
    let r = read_more before now m rows ports owns i p same lt at in
    let own : (get_or outs i o).number ≡ get_or owns i 0 = sym (get_or-map (λ (v : BitValue). v.number) outs i o 0 (omega (arith, long))) ∙ ap (λ (xs : List ℕ). get_or xs i 0) done.after ∙ r.own in
    let number : new.number ≡ next_read before now m rows p (get_or owns i 0) = ap (λ (v : BitValue). v.number) made ∙ ap (next_read before now m rows p) own in
    let after : numbers (set outs i new) ≡ read_after before now m rows ports owns (i + 1) = map-set (λ (v : BitValue). v.number) outs i new ∙ ap (λ (xs : List ℕ). set xs i new.number) done.after ∙ ap (set (read_after before now m rows ports owns i) i) number ∙ r.more in
    record {
      wide = map-set_same (λ (v : BitValue). v.width) outs i new o (ap (λ (v : BitValue). v.width) made ∙ sym (out_wide ports olds outs w i o all done.wide lt)) ∙ done.wide;
      after = after;
      told =
          told_more before now m rows ports owns i p changed part r (done.told ∙ ap (λ (xs : List ℕ). not (same_lists xs owns)) done.after)
          (told_part ∙ ap (λ n. not (eqb n (get_or outs i o).number)) number ∙ ap (λ n. not (eqb (next_read before now m rows p (get_or owns i 0)) n)) own)
          ∙ ap (λ (xs : List ℕ). not (same_lists xs owns)) (sym after);
    }

pub outs_whole : (before now : Digits) (m : Mem) (rows : List ℕ) (ports : List ReadPort) (olds outs : List BitValue) (w i : ℕ) (changed : Bool) → widths olds ≡ map (λ _. w) ports → length ports ≤ i
    → OutsMore before now m rows ports olds outs i changed → numbers outs ≡ next_reads before now m rows ports (numbers olds)
outs_whole before now m rows ports olds outs w i changed all le done =
    let same : length ports ≡ length (numbers olds) = sym (length-map ports (λ _. w)) ∙ ap length (sym all) ∙ length-map olds (λ (v : BitValue). v.width) ∙ sym (length-map olds (λ (v : BitValue). v.number)) in
    done.after
    ∙ ap (λ (xs : List ReadPort). next_reads before now m rows xs (take i (numbers olds)) ++ drop i (numbers olds)) (take_all i ports le)
    ∙ ap (λ (xs : List ℕ). next_reads before now m rows ports xs ++ drop i (numbers olds)) (take_all i (numbers olds) (omega (arith, same)))
    ∙ ap (λ (xs : List ℕ). next_reads before now m rows ports (numbers olds) ++ xs) (drop_all i (numbers olds) (omega (arith, same)))
    ∙ append-nil (next_reads before now m rows ports (numbers olds))
