-- The roots of a circuit over its stores.
use Rattle.std.proofs.Common.{◌≡◌, ℕ, ◌+◌, ◌<◌, ◌≤◌, List, map, length, set, take, get_or, refl, sym, ◌∙◌, ap, subst, arith, true, Some, nat_le, nat_lt}
use Rattle.std.specs.Prelude.{slice_get, slice_index, sum_by}
use Rattle.std.proofs.lemmas.Bool.{and_parts, leb-true}
use Rattle.std.proofs.lemmas.List.{length-map}
use Rattle.std.proofs.lemmas.List.Sums.{sum_by_more}
use Rattle.std.proofs.lemmas.Option.{slice_get-get_or}
use Rattle.sim_base.specs.BitValue.{BitValue, bit_value}
use Rattle.circuit.specs.Output.{output}
use Rattle.circuit.specs.Signal.{Digits, sig_number}
use Rattle.circuit.specs.State.{addressed_row}
use Rattle.circuit.specs.declared.memory.ReadPort.{ReadPort}
use Rattle.memory_cells.specs.Rows.{RowValues}
use Rattle.circuit.specs.Valid.{cell_holds, driver_fits, drivers_of, port_holds}
use Rattle.circuit.specs.declared.netlist.Circuit.{Circuit}
use Rattle.circuit.specs.declared.netlist.Net.{Net}
use Rattle.circuit.specs.declared.netlist.Drive.{Drive}
use Rattle.circuit.specs.declared.netlist.By.{By}
use Rattle.circuit.specs.declared.netlist.By.TheVariants as by
use Rattle.circuit.specs.declared.cell.Cell.{Cell}
use Rattle.circuit.specs.declared.memory.Mem.{Mem}
use Rattle.circuit.specs.declared.store.Store.{Store}
use Rattle.eval_plan.specs.Roots.{AreRoots}
use Rattle.eval_plan.specs.Sources.{AreSources, cell_row, read_row}
use Rattle.eval_plan.specs.declared.sources.Sources.{Sources}
use Rattle.driver_check.proofs.Fitting.{fits_inside}
use Rattle.eval_plan.proofs.Given.{root_fits}
use Rattle.driver_check.proofs.Places.{found, read, same, within}
use Rattle.signal_words.specs.Stores.{IsStoreOf}
use Rattle.sim_base.specs.Values.{numbers, width_at, widths}
use Rattle.signal_words.specs.Values.{digits_in}
use Rattle.signal_words.proofs.Fitting.{mapped_at}
use Rattle.eval_commit.specs.Computed.{cell_number, port_row, read_number}
use Rattle.eval_commit.specs.Spread.{AreRootsInside, IsSpread}
use Rattle.circuit.specs.Valuation.{offset_of}
use Rattle.eval_commit.proofs.Written.{number_set, put_widths}

-- ---- elements

pub fetched : {X : Type 0} (xs ys : List X) (i : ℕ) (x : X) → ys ≡ xs → i < length xs → x ≡ get_or ys i x → slice_get xs i ≡ Some x
fetched xs ys i x e lt is = read xs i x lt (is ∙ ap (λ (zs : List _). get_or zs i x) e)

-- the value of a part
pub value_at : {X : Type 0} (f : X → ℕ) (vs : List BitValue) (xs : List X) (n : ℕ) (x : X) → widths vs ≡ map f xs → slice_get xs n ≡ Some x
    → (v : BitValue) × (slice_get vs n ≡ Some v) × (v.width ≡ f x)
value_at f vs xs n x e at =
    let there = mapped_at f xs n x at in
    let l : length vs ≡ length xs = sym (length-map vs (λ (v : BitValue). v.width)) ∙ ap length e ∙ length-map xs f in
    let lt : n < length vs = omega (arith, l, there.0) in
    let h = found vs n lt in
    (h.0, h.1, sym (mapped_at (λ (v : BitValue). v.width) vs n h.0 h.1).1 ∙ ap (λ (ws : List ℕ). get_or ws n 0) e ∙ there.1)

pub below_in : {X : Type 0} (f : X → ℕ) (vs ys : List BitValue) (xs : List X) (n : ℕ) → widths vs ≡ map f xs → ys ≡ vs → n < length xs → n < length ys
below_in f vs ys xs n e is lt =
    let l : length vs ≡ length xs = sym (length-map vs (λ (v : BitValue). v.width)) ∙ ap length e ∙ length-map xs f in
    let k : length ys ≡ length vs = ap length is in omega (arith, l, k, lt)

pub value_read : {X : Type 0} (f : X → ℕ) (vs ys : List BitValue) (xs : List X) (n : ℕ) (x : X) (v : BitValue) → widths vs ≡ map f xs → slice_get xs n ≡ Some x → ys ≡ vs → v ≡ get_or ys n v
    → (slice_get vs n ≡ Some v) × (v.width ≡ f x)
value_read f vs ys xs n x v e at is read_is =
    let h = value_at f vs xs n x e at in
    let there : slice_get vs n ≡ Some v = fetched vs ys n v is (within vs n h.0 h.1) read_is in
    (there, ap (λ (u : BitValue). u.width) (same vs n v h.0 there h.1) ∙ h.2)

-- ---- roots

pub roots_inside : (c : Circuit) (nets : List BitValue) (roots qs : List Drive) → qs ≡ roots → widths nets ≡ map (λ x. x.width) c.nets → AreRoots c roots → AreRootsInside nets qs
roots_inside c nets roots qs same_roots e are = subst (λ (rs : List Drive). AreRootsInside nets rs) (sym same_roots) inside
  where
    inside : AreRootsInside nets roots
    inside i r at =
        let h = fits_inside c r (are.right i r at).inside in
        let v = value_at (λ (x : Net). x.width) nets c.nets r.net h.0 e h.1 in
        let w : width_at nets r.net ≡ h.0.width = (mapped_at (λ (u : BitValue). u.width) nets r.net v.0 v.1).1 ∙ v.2 in
        (within nets r.net v.0 v.1, omega (arith, h.2, w))

-- the listed roots are there, and take no more bits than a value has
abbrev pub AreListed : List Drive → List ℕ → ℕ → Type 0
AreListed roots places width = (j k : ℕ) → slice_get places j ≡ Some k → (r : Drive) × (slice_get roots k ≡ Some r) × (offset_of r.by + r.width ≤ width)

pub cell_listed : (c : Circuit) (roots qs : List Drive) (sources : Sources) (n w : ℕ) (x : Cell) (places : List ℕ) → qs ≡ roots → places ≡ cell_row sources n → AreRoots c roots → AreSources c roots sources
    → slice_get c.cells n ≡ Some x → w ≡ x.width → AreListed qs places w
cell_listed c roots qs sources n w x places same_roots same_places are from at e =
    subst (λ (ps : List ℕ). AreListed qs ps w) (sym same_places) (subst (λ (rs : List Drive). AreListed rs (cell_row sources n) w) (sym same_roots) listed)
  where
    listed : AreListed roots (cell_row sources n) w
    listed j k p =
        let h = (from.cells n (within c.cells n x at)).right j k p in
        let r : Drive = h.0 in
        let fits : driver_fits (drivers_of c) r.width (by.Cell n h.2.0) ≡ true = subst (λ (b : By). driver_fits (drivers_of c) r.width b ≡ true) h.2.1 (root_fits c roots are k r h.1) in
        let held : cell_holds (h.2.0 + r.width) (Some x) ≡ true = subst (λ o. cell_holds (h.2.0 + r.width) o ≡ true) at fits in
        let o : offset_of r.by ≡ h.2.0 = ap offset_of h.2.1 in
        let le : h.2.0 + r.width ≤ x.width = leb-true (h.2.0 + r.width) x.width held in
        (r, h.1, omega (arith, o, le, e))

pub read_listed : (c : Circuit) (roots qs : List Drive) (sources : Sources) (m n w : ℕ) (x : Mem) (places : List ℕ) → qs ≡ roots → places ≡ read_row sources m n → AreRoots c roots → AreSources c roots sources
    → slice_get c.mems m ≡ Some x → n < length x.reads → w ≡ x.width → AreListed qs places w
read_listed c roots qs sources m n w x places same_roots same_places are from at lt e =
    subst (λ (ps : List ℕ). AreListed qs ps w) (sym same_places) (subst (λ (rs : List Drive). AreListed rs (read_row sources m n) w) (sym same_roots) listed)
  where
    listed : AreListed roots (read_row sources m n) w
    listed j k p =
        let h = (from.reads m n x at lt).right j k p in
        let r : Drive = h.0 in
        let fits : driver_fits (drivers_of c) r.width (by.Read m n h.2.0) ≡ true = subst (λ (b : By). driver_fits (drivers_of c) r.width b ≡ true) h.2.1 (root_fits c roots are k r h.1) in
        let held : port_holds n (h.2.0 + r.width) (Some x) ≡ true = subst (λ o. port_holds n (h.2.0 + r.width) o ≡ true) at fits in
        let o : offset_of r.by ≡ h.2.0 = ap offset_of h.2.1 in
        let le : h.2.0 + r.width ≤ x.width = leb-true (h.2.0 + r.width) x.width (and_parts (nat_lt n (length x.reads)) (nat_le (h.2.0 + r.width) x.width) held).1 in
        (r, h.1, omega (arith, o, le, e))

pub spread_as : (roots qs : List Drive) (row places : List ℕ) (number given : ℕ) (vs ws us : List BitValue) → qs ≡ roots → places ≡ row → given ≡ number → ws ≡ vs
    → IsSpread qs places (length places) given ws us → IsSpread roots row (length row) number vs us
spread_as roots qs row places number given vs ws us a b d e s =
    subst (λ (rs : List Drive). IsSpread rs row (length row) number vs us) a
    (subst (λ (ps : List ℕ). IsSpread qs ps (length ps) number vs us) b
    (subst (λ (n : ℕ). IsSpread qs places (length places) n vs us) d
    (subst (λ (xs : List BitValue). IsSpread qs places (length places) given xs us) e s)))

-- ---- a store after a cell was evaluated

pub record IsEvaluated (c : Circuit) (store : Store) (n : ℕ) (after : Store) : Type 0 where
  pub belongs : IsStoreOf c after
  pub nets : after.nets ≡ store.nets
  pub regs : after.regs ≡ store.regs
  pub reads : after.reads ≡ store.reads
  pub number : slice_index (numbers after.cells) n ≡ cell_number (digits_in store.nets) (slice_get c.cells n)

pub evaluated : (c : Circuit) (store after : Store) (n : ℕ) (x : Cell) → IsStoreOf c store → slice_get c.cells n ≡ Some x
    → after ≡ record store { cells = set store.cells n (bit_value x.width (output (digits_in store.nets) x)) } → IsEvaluated c store n after
evaluated c store after n x s at e =
    let v = value_at (λ (y : Cell). y.width) store.cells c.cells n x s.cells at in
    let y : BitValue = bit_value x.width (output (digits_in store.nets) x) in
    subst (λ (a : Store). IsEvaluated c store n a) (sym e) (record {
      belongs = record { nets = s.nets; cells = put_widths store.cells n v.0 y v.1 (sym v.2) ∙ s.cells; regs = s.regs; reads = s.reads };
      nets = refl;
      regs = refl;
      reads = refl;
      number = number_set store.cells n v.0 y v.1 ∙ sym (ap (cell_number (digits_in store.nets)) at);
    })

-- ---- the row that a read port gives

pub read_at : (digits : Digits) (mems : List Mem) (rows : List RowValues) (m n : ℕ) (x : Mem) (r : RowValues) (p : ReadPort) → slice_get mems m ≡ Some x → slice_get rows m ≡ Some r → slice_get x.reads n ≡ Some p
    → read_number digits (slice_get mems m) (slice_get rows m) n ≡ addressed_row x r.rows (sig_number digits p.addr)
read_at digits mems rows m n x r p a b e =
    ap (λ o. read_number digits o (slice_get rows m) n) a ∙ ap (λ o. read_number digits (Some x) o n) b ∙ ap (port_row digits x r) e

-- ---- an element of a loop over a list

pub element : {X : Type 0} (xs ys : List X) (k : ℕ) (d : X) → ys ≡ xs → k < length ys → slice_get xs k ≡ Some (get_or ys k d)
element xs ys k d e lt = subst (λ (zs : List _). slice_get zs k ≡ Some (get_or ys k d)) e (slice_get-get_or ys k d lt)

pub counted_more : {X : Type 0} (f : X → ℕ) (xs ys : List X) (k start old new : ℕ) (d : X) → ys ≡ xs → k < length ys → new ≡ old + f (get_or ys k d) → old ≡ start + sum_by f (take k xs) → new ≡ start + sum_by f (take (k + 1) xs)
counted_more f xs ys k start old new d e lt now was =
    let at : f (get_or ys k d) ≡ f (get_or xs k d) = ap (λ (zs : List _). f (get_or zs k d)) e in
    let l : length ys ≡ length xs = ap length e in
    let more : sum_by f (take (k + 1) xs) ≡ sum_by f (take k xs) + f (get_or xs k d) = sum_by_more f xs k d (omega (arith, lt, l)) in
    omega (arith, at, more, now, was)

pub ended : {X : Type 0} (xs ys : List X) (k : ℕ) → ys ≡ xs → length ys ≤ k → k ≤ length ys → k ≡ length xs
ended xs ys k e a b = let l : length ys ≡ length xs = ap length e in omega (arith, l, a, b)
