-- A step of a pass over the drives.
use Rattle.std.proofs.Common.{◌≡◌, ◌≢◌, ℕ, ◌+◌, ◌^◌, ◌<◌, ◌⊎◌, List, [], ◌∷◌, map, length, get_or, set, refl, sym, ◌∙◌, ap, subst, arith, inl, inr, replicate, Some, get_or-set_other, get_or-set_same}
use Rattle.std.specs.Prelude.{slice_get, slice_index}
use Rattle.std.specs.Int.{bit_at}
use Rattle.std.proofs.lemmas.Bool.{cases_eq, cases_lt, cases_order}
use Rattle.std.proofs.lemmas.Nat.{pow_pos}
use Rattle.std.proofs.lemmas.Option.{slice_get_within}
use Rattle.std.proofs.lemmas.List.{length-set, ext_get_or, get_or-replicate, length-replicate, get_or_past}
use Rattle.circuit.specs.Signal.{digits_of_nets}
use Rattle.circuit.specs.Output.{output}
use Rattle.circuit.specs.State.{State}
use Rattle.circuit.specs.declared.netlist.Circuit.{Circuit}
use Rattle.circuit.specs.declared.netlist.Net.{Net}
use Rattle.circuit.specs.declared.cell.Cell.{Cell}
use Rattle.circuit.specs.declared.netlist.Drive.{Drive}
use Rattle.circuit.specs.declared.netlist.By.{By}
use Rattle.circuit.specs.declared.netlist.By.TheVariants as by
use Rattle.flat_design.specs.Flat.{IsFlat, IsFlatBy, ReadsNet}
use Rattle.flat_rounds.specs.Fits.{AreInputs}
use Rattle.flat_rounds.specs.Pass.{AreNetNumbers, AreRegNumbers, AreGiven, cell_number, number_given, IsSource, IsSourced, IsEvaluated}
use Rattle.flat_rounds.proofs.Reading.{cell_same}
use Rattle.flat_rounds.proofs.Given.{given_below}

same_drive : (drives : List Drive) (i : ℕ) (d e : Drive) → slice_get drives i ≡ Some d → slice_get drives i ≡ Some e → d ≡ e
same_drive drives i d e p q = cc (p, q)

-- a number that fits its net is written
pub fits_set : (c : Circuit) (nets : List ℕ) (net v : ℕ) (x : Net) → AreNetNumbers c nets → slice_get c.nets net ≡ Some x → v < 2 ^ x.width → AreNetNumbers c (set nets net v)
fits_set c nets net v x are at lt = record {
  long = length-set nets net v ∙ are.long;
  below = λ n y e. elim (cases_eq n net) [
    | inl same ↦
        (let P : ℕ → Type 0 = λ m. m < 2 ^ y.width in
        let there : net < length nets = omega (arith, slice_get_within c.nets net x at, are.long) in
        let value : get_or (set nets net v) n 0 ≡ v = ap (λ k. get_or (set nets net v) k 0) same ∙ get_or-set_same nets net v 0 there in
        let z : Some x ≡ Some y = sym at ∙ ap (slice_get c.nets) (sym same) ∙ e in
        let xy : x ≡ y = cc z in
        subst P (sym value) (subst (λ (z : Net). v < 2 ^ z.width) xy lt))
    | inr ne ↦
        (let P : ℕ → Type 0 = λ m. m < 2 ^ y.width in
        subst P (sym (get_or-set_other nets net n v 0 ne)) (are.below n y e))
  ];
}

written : (nets numbers : List ℕ) (net v n : ℕ) → net < length nets → v ≡ slice_index numbers net → (n ≢ net → slice_index nets n ≡ slice_index numbers n) → slice_index (set nets net v) n ≡ slice_index numbers n
written nets numbers net v n there is other = elim (cases_eq n net) [
  | inl same ↦ ap (λ k. slice_index (set nets net v) k) same ∙ get_or-set_same nets net v 0 there ∙ is ∙ ap (slice_index numbers) (sym same)
  | inr ne ↦ get_or-set_other nets net n v 0 ne ∙ other ne
]

-- ---- inputs and registers

pub source_write : (c : Circuit) (nets numbers : List ℕ) (i v : ℕ) (d : Drive) → slice_get c.drives i ≡ Some d → d.net < length nets → v ≡ slice_index numbers d.net
    → ((n : ℕ) → IsSourced c i n → slice_index nets n ≡ slice_index numbers n) → (n : ℕ) → IsSourced c (i + 1) n → slice_index (set nets d.net v) n ≡ slice_index numbers n
source_write c nets numbers i v d at there is right n done =
    written nets numbers d.net v n there is
    (λ ne. right n (λ j e at_j on.
    let t = done j e at_j on in
    elim (cases_eq j i) [
      | inl same ↦
          (let f : e ≡ d = same_drive c.drives i e d (subst (λ (k : ℕ). slice_get c.drives k ≡ Some e) same at_j) at in
          absurd (ne (sym on ∙ ap (λ x. x.net) f)))
      | inr apart ↦ (omega (arith, t.0, apart), t.1)
    ]))

pub source_skip : (c : Circuit) (nets numbers : List ℕ) (i : ℕ) (d : Drive) → slice_get c.drives i ≡ Some d → (IsSource d.by → ⊥)
    → ((n : ℕ) → IsSourced c i n → slice_index nets n ≡ slice_index numbers n) → (n : ℕ) → IsSourced c (i + 1) n → slice_index nets n ≡ slice_index numbers n
source_skip c nets numbers i d at never right n done =
    right n (λ j e at_j on.
    let t = done j e at_j on in
    elim (cases_eq j i) [
      | inl same ↦
          (let f : e ≡ d = same_drive c.drives i e d (subst (λ (k : ℕ). slice_get c.drives k ≡ Some e) same at_j) at in
          absurd (never (subst (λ (x : Drive). IsSource x.by) f t.1)))
      | inr apart ↦ (omega (arith, t.0, apart), t.1)
    ])

pub no_source : (c : Circuit) (net w : ℕ) (b : By) → ((n at : ℕ) → b ≡ by.Input n at → ⊥) → ((n at : ℕ) → b ≡ by.Reg n at → ⊥) → IsFlatBy c net w b → IsSource b → ⊥
no_source c net w (by.Const v) no_input no_reg flat s = flat
no_source c net w (by.Input n at) no_input no_reg flat s = no_input n at refl
no_source c net w (by.Wire n at) no_input no_reg flat s = flat
no_source c net w (by.Cell n at) no_input no_reg flat s = s
no_source c net w (by.Reg n at) no_input no_reg flat s = no_reg n at refl
no_source c net w (by.Read m n at) no_input no_reg flat s = flat

-- ---- cells

pub cell_write : (c : Circuit) (nets numbers : List ℕ) (i v : ℕ) (d : Drive) → slice_get c.drives i ≡ Some d → d.net < length nets → v ≡ slice_index numbers d.net
    → ((n : ℕ) → IsEvaluated c i n → slice_index nets n ≡ slice_index numbers n) → (n : ℕ) → IsEvaluated c (i + 1) n → slice_index (set nets d.net v) n ≡ slice_index numbers n
cell_write c nets numbers i v d at there is right n done =
    written nets numbers d.net v n there is
    (λ ne. right n (λ j k p e at_j on b.
    let t = done j k p e at_j on b in
    elim (cases_eq j i) [
      | inl same ↦
          (let f : e ≡ d = same_drive c.drives i e d (subst (λ (m : ℕ). slice_get c.drives m ≡ Some e) same at_j) at in
          absurd (ne (sym on ∙ ap (λ x. x.net) f)))
      | inr apart ↦ omega (arith, t, apart)
    ]))

pub cell_skip : (c : Circuit) (nets numbers : List ℕ) (i : ℕ) (d : Drive) → slice_get c.drives i ≡ Some d → ((k p : ℕ) → d.by ≡ by.Cell k p → ⊥)
    → ((n : ℕ) → IsEvaluated c i n → slice_index nets n ≡ slice_index numbers n) → (n : ℕ) → IsEvaluated c (i + 1) n → slice_index nets n ≡ slice_index numbers n
cell_skip c nets numbers i d at never right n done =
    right n (λ j k p e at_j on b.
    let t = done j k p e at_j on b in
    elim (cases_eq j i) [
      | inl same ↦
          (let f : e ≡ d = same_drive c.drives i e d (subst (λ (m : ℕ). slice_get c.drives m ≡ Some e) same at_j) at in
          absurd (never k p (sym (ap (λ x. x.by) f) ∙ b)))
      | inr apart ↦ omega (arith, t, apart)
    ])

-- what a cell reads is evaluated before it
ready : (c : Circuit) → IsFlat c → (i m p net : ℕ) (d : Drive) (x : Cell) → slice_get c.drives i ≡ Some d → d.by ≡ by.Cell m p → slice_get c.cells m ≡ Some x → ReadsNet x.a net ⊎ ReadsNet x.b net → IsEvaluated c i net
ready c flat i m p net d x at b is reads j k q e at_j on b_j =
    let before : k < m = flat.order m k q j net x e is reads at_j on b_j in
    elim (cases_order j i) [
      | inl same ↦
          (let f : e ≡ d = same_drive c.drives i e d (subst (λ (n : ℕ). slice_get c.drives n ≡ Some e) same at_j) at in
          let g : by.Cell k q ≡ by.Cell m p = sym b_j ∙ ap (λ y. y.by) f ∙ b in
          let h : k ≡ m = cc g in
          absurd (omega (arith, before, h)))
      | inr (inl lt) ↦ lt
      | inr (inr gt) ↦ (let after : m < k = flat.rising i j m k p q d e gt at at_j b b_j in absurd (omega (arith, before, after)))
    ]

-- the output of a cell from what stands before it
pub cell_value : (c : Circuit) → IsFlat c → (regs inputs nets numbers : List ℕ) (i m p : ℕ) (d : Drive) (x : Cell) → AreGiven c regs inputs numbers → slice_get c.drives i ≡ Some d → d.by ≡ by.Cell m p → slice_get c.cells m ≡ Some x
    → ((n : ℕ) → IsEvaluated c i n → slice_index nets n ≡ slice_index numbers n) → output (digits_of_nets nets) x ≡ slice_index numbers d.net
cell_value c flat regs inputs nets numbers i m p d x are at b is right =
    cell_same x (digits_of_nets nets) (digits_of_nets numbers) (flat.cells m x is).s (λ net bit reads. ap (λ n. bit_at n bit) (right net (ready c flat i m p net d x at b is reads)))
    ∙ ap (cell_number (digits_of_nets numbers)) (sym is)
    ∙ ap (number_given c regs inputs (digits_of_nets numbers)) (sym b)
    ∙ sym (are.driven i d at)

-- ---- whole steps

-- what a drive's width says of its net
pub there : (c : Circuit) → IsFlat c → (nets : List ℕ) → AreNetNumbers c nets → (i : ℕ) (d : Drive) → slice_get c.drives i ≡ Some d → d.net < length nets
there c flat nets are i d at =
    let h = flat.drives i d at in omega (arith, slice_get_within c.nets d.net h.1.0 h.1.1, are.long)

drive_fits : (c : Circuit) → IsFlat c → (nets : List ℕ) → AreNetNumbers c nets → (i v : ℕ) (d : Drive) → slice_get c.drives i ≡ Some d → v < 2 ^ d.width → AreNetNumbers c (set nets d.net v)
drive_fits c flat nets are i v d at lt =
    let h = flat.drives i d at in
    let P : ℕ → Type 0 = λ w. v < 2 ^ w in
    fits_set c nets d.net v h.1.0 are h.1.1 (subst P (sym h.1.2) lt)

pub source_fits : (c : Circuit) (state : State) (inputs : List ℕ) → IsFlat c → AreInputs c inputs → AreRegNumbers c state.regs → (nets : List ℕ) → AreNetNumbers c nets → (i v : ℕ) (d : Drive) (b : By) → slice_get c.drives i ≡ Some d → d.by ≡ b → v ≡ number_given c state.regs inputs (digits_of_nets nets) b → AreNetNumbers c (set nets d.net v)
source_fits c state inputs flat ins regs nets are i v d b at is value =
    let h = flat.drives i d at in
    let P : ℕ → Type 0 = λ m. m < 2 ^ d.width in
    drive_fits c flat nets are i v d at
    (subst P (sym (value ∙ ap (number_given c state.regs inputs (digits_of_nets nets)) (sym is)))
    (given_below c state inputs flat ins regs (digits_of_nets nets) d.net d.width h.1.0 h.1.1 h.1.2 d.by h.2))

pub source_right : (c : Circuit) (regs inputs nets numbers : List ℕ) → IsFlat c → AreNetNumbers c nets → AreGiven c regs inputs numbers → (i v : ℕ) (d : Drive) (b : By) → slice_get c.drives i ≡ Some d → d.by ≡ b → v ≡ number_given c regs inputs (digits_of_nets numbers) b
    → ((n : ℕ) → IsSourced c i n → slice_index nets n ≡ slice_index numbers n) → (n : ℕ) → IsSourced c (i + 1) n → slice_index (set nets d.net v) n ≡ slice_index numbers n
source_right c regs inputs nets numbers flat are given i v d b at is value right =
    source_write c nets numbers i v d at (there c flat nets are i d at)
    (value ∙ ap (number_given c regs inputs (digits_of_nets numbers)) (sym is) ∙ sym (given.driven i d at)) right

-- the cell of a drive
pub drive_cell : (c : Circuit) → IsFlat c → (i m p : ℕ) (d : Drive) → slice_get c.drives i ≡ Some d → d.by ≡ by.Cell m p → (x : Cell) × (slice_get c.cells m ≡ Some x) × (x.width ≡ d.width)
drive_cell c flat i m p d at b =
    let h = flat.drives i d at in
    let P : By → Type 0 = λ y. IsFlatBy c d.net d.width y in
    let g = subst P b h.2 in (g.1, g.2, g.3)

pub cell_fits : (c : Circuit) → IsFlat c → (nets : List ℕ) → AreNetNumbers c nets → (i m p v : ℕ) (d : Drive) (x : Cell) → slice_get c.drives i ≡ Some d → d.by ≡ by.Cell m p → slice_get c.cells m ≡ Some x → v < 2 ^ x.width → AreNetNumbers c (set nets d.net v)
cell_fits c flat nets are i m p v d x at b is lt =
    let g = drive_cell c flat i m p d at b in
    let s : Some x ≡ Some g.0 = sym is ∙ g.1 in
    let e : x ≡ g.0 = cc s in
    let w : x.width ≡ d.width = ap (λ y. y.width) e ∙ g.2 in
    let P : ℕ → Type 0 = λ k. v < 2 ^ k in
    drive_fits c flat nets are i v d at (subst P w lt)

pub cell_right : (c : Circuit) → IsFlat c → (regs inputs nets numbers : List ℕ) → AreNetNumbers c nets → AreGiven c regs inputs numbers → (i m p v : ℕ) (d : Drive) (x : Cell) → slice_get c.drives i ≡ Some d → d.by ≡ by.Cell m p → slice_get c.cells m ≡ Some x → v ≡ output (digits_of_nets nets) x
    → ((n : ℕ) → IsEvaluated c i n → slice_index nets n ≡ slice_index numbers n) → (n : ℕ) → IsEvaluated c (i + 1) n → slice_index (set nets d.net v) n ≡ slice_index numbers n
cell_right c flat regs inputs nets numbers are given i m p v d x at b is value right =
    cell_write c nets numbers i v d at (there c flat nets are i d at)
    (value ∙ cell_value c flat regs inputs nets numbers i m p d x given at b is right) right

-- ---- the whole

-- numbers that are right everywhere are the numbers
pub all_right : (c : Circuit) (nets numbers : List ℕ) → length nets ≡ length c.nets → length numbers ≡ length c.nets → ((n : ℕ) → IsEvaluated c (length c.drives) n → slice_index nets n ≡ slice_index numbers n) → nets ≡ numbers
all_right c nets numbers long same right =
    ext_get_or 0 nets numbers (long ∙ sym same) (λ n lt. right n (λ j k p d at on b. slice_get_within c.drives j d at))

-- what is right after the inputs and registers is right before the cells
pub sources_first : (c : Circuit) (nets numbers : List ℕ) → ((n : ℕ) → IsSourced c (length c.drives) n → slice_index nets n ≡ slice_index numbers n) → (n : ℕ) → IsEvaluated c 0 n → slice_index nets n ≡ slice_index numbers n
sources_first c nets numbers right n none =
    right n (λ j d at on. (slice_get_within c.drives j d at, no_cell d.by (λ k p b. absurd (omega (arith, none j k p d at on b)))))
  where
    no_cell : (b : By) → ((k p : ℕ) → b ≡ by.Cell k p → ⊥) → IsSource b
    no_cell (by.Const v) h = tt
    no_cell (by.Input n at) h = tt
    no_cell (by.Wire n at) h = tt
    no_cell (by.Cell n at) h = h n at refl
    no_cell (by.Reg n at) h = tt
    no_cell (by.Read m n at) h = tt

-- nets that are all 0
pub zeros_fit : (c : Circuit) (nets : List ℕ) → length nets ≡ length c.nets → ((n : ℕ) → slice_index nets n ≡ 0) → AreNetNumbers c nets
zeros_fit c nets long zeros = record {
  long = long;
  below = λ n x e. (let P : ℕ → Type 0 = λ m. m < 2 ^ x.width in subst P (sym (zeros n)) (pow_pos x.width));
}

pub zeros_right : (c : Circuit) (regs inputs nets numbers : List ℕ) → ((n : ℕ) → slice_index nets n ≡ 0) → AreGiven c regs inputs numbers → (n : ℕ) → IsSourced c 0 n → slice_index nets n ≡ slice_index numbers n
zeros_right c regs inputs nets numbers zeros given n none =
    zeros n ∙ sym (given.undriven n (λ j d at on. omega (arith, (none j d at on).0)))

pub zero_of_zeros : (n k : ℕ) → get_or (replicate {A = ℕ} n 0) k 0 ≡ 0
zero_of_zeros n k = elim (cases_lt k n) [
  | inl a ↦ get_or-replicate {A = ℕ} n k 0 0 a
  | inr b ↦ (let l : length (replicate {A = ℕ} n 0) ≡ n = length-replicate {A = ℕ} n 0 in get_or_past (replicate {A = ℕ} n 0) k 0 (omega arith))
]

pub zeros_inputs : (c : Circuit) → AreInputs c (replicate (length c.inputs) 0)
zeros_inputs c = record {
  long = length-replicate {A = ℕ} (length c.inputs) 0;
  below = λ n x e. (let P : ℕ → Type 0 = λ m. m < 2 ^ x.width in subst P (sym (zero_of_zeros (length c.inputs) n)) (pow_pos x.width));
}

pub zeros_mapped : (xs : List ℕ) → replicate {A = ℕ} (length xs) 0 ≡ map (λ _. 0) xs
zeros_mapped [] = refl
zeros_mapped (x ∷ xs) = ap (λ ys. 0 ∷ ys) (zeros_mapped xs)
