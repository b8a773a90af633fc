-- What is marked where bits change.
use Rattle.std.proofs.Common.{◌≡◌, ◌≢◌, ℕ, ◌+◌, ◌<◌, ◌⊎◌, List, length, refl, sym, ◌∙◌, ap, subst, arith, inl, inr, cond, Some}
use Rattle.std.specs.Prelude.{slice_get}
use Rattle.std.specs.Int.{bit_at}
use Rattle.std.proofs.lemmas.Bool.{cases_Bool, cases_eq, cond-false}
use Rattle.std.proofs.lemmas.Bool.Decides.{nat_tests}
use Rattle.sim_base.specs.BitValue.{BitValue, digit_after_set}
use Rattle.circuit.specs.Valuation.{covers}
use Rattle.circuit.specs.declared.netlist.Circuit.{Circuit}
use Rattle.circuit.specs.declared.netlist.Drive.{Drive}
use Rattle.dirty_set.specs.Marks.{IsLeastTaken, IsMarked, IsWithMark}
use Rattle.driver_check.specs.Depends.{Bit}
use Rattle.driver_check.specs.declared.parts.Node.{Node}
use Rattle.driver_check.proofs.Places.{same, within}
use Rattle.eval_plan.specs.Readers.{AreReaders}
use Rattle.eval_plan.specs.Roots.{AreApart}
use Rattle.eval_plan.specs.Tables.{table_row}
use Rattle.eval_plan.specs.declared.table.Table.{Table}
use Rattle.signal_words.specs.Values.{digits_in}
use Rattle.eval_commit.specs.Marked.{AreMarkedToo, AreTold, HaveMarks, ReadListed}

-- ---- one mark

after_same : (i d n : ℕ) → digit_after_set i d n i ≡ d
after_same i d n = grind (arith, nat_tests)

after_other : (i d n j : ℕ) → j ≢ i → digit_after_set i d n j ≡ bit_at n j
after_other i d n j ne = grind (arith, nat_tests)

pub now_marked : (i : ℕ) (before after : BitValue) → IsWithMark i before after → IsMarked after i
now_marked i before after w = w.marks i ∙ after_same i 1 before.number

pub still_marked : (i k : ℕ) (before after : BitValue) → IsWithMark i before after → IsMarked before k → IsMarked after k
still_marked i k before after w marked = elim (cases_eq k i) [
  | inl e ↦ subst (λ (n : ℕ). IsMarked after n) (sym e) (now_marked i before after w)
  | inr ne ↦ w.marks k ∙ after_other i 1 before.number k ne ∙ marked
]

pub was_marked : (i k : ℕ) (before after : BitValue) → IsWithMark i before after → IsMarked after k → (k ≡ i) ⊎ IsMarked before k
was_marked i k before after w marked = elim (cases_eq k i) [
  | inl e ↦ inl e
  | inr ne ↦ inr (sym (after_other i 1 before.number k ne) ∙ sym (w.marks k) ∙ marked)
]

-- ---- the least mark is taken

pub others_marked : (i k : ℕ) (before after : BitValue) → IsLeastTaken i before after → k ≢ i → IsMarked before k → IsMarked after k
others_marked i k before after t ne marked = t.marks k ∙ after_other i 0 before.number k ne ∙ marked

pub marked_before : (i k : ℕ) (before after : BitValue) → IsLeastTaken i before after → IsMarked after k → (k ≢ i) × IsMarked before k
marked_before i k before after t marked =
    let ne : k ≢ i = λ e. absurd (let h : 0 ≡ 1 = sym (after_same i 0 before.number) ∙ sym (t.marks i) ∙ subst (λ (j : ℕ). IsMarked after j) e marked in omega (arith, h)) in
    (ne, sym (after_other i 0 before.number k ne) ∙ sym (t.marks k) ∙ marked)

-- ---- a row of marks

pub none_marked_too : (row : List ℕ) (marks : BitValue) → AreMarkedToo row 0 marks marks
none_marked_too row marks = record {
  width = refl;
  listed = λ j k lt at. absurd (omega (arith, lt));
  kept = λ k marked. marked;
  only = λ k marked. inl marked;
}

pub marked_more : (row : List ℕ) (t i : ℕ) (first before after : BitValue) → slice_get row t ≡ Some i → AreMarkedToo row t first before → IsWithMark i before after → AreMarkedToo row (t + 1) first after
marked_more row t i first before after at are w = record {
  width = w.width ∙ are.width;
  listed = λ j k lt here. elim (cases_eq j t) [
    | inl e ↦ subst (λ (n : ℕ). IsMarked after n) (same row t i k at (subst (λ (n : ℕ). slice_get row n ≡ Some k) e here)) (now_marked i before after w)
    | inr ne ↦ still_marked i k before after w (are.listed j k (omega (arith, lt, ne)) here)
  ];
  kept = λ k marked. still_marked i k before after w (are.kept k marked);
  only = λ k marked. elim (was_marked i k before after w marked) [
    | inl e ↦ inr (t, subst (λ (n : ℕ). slice_get row t ≡ Some n) (sym e) at)
    | inr was ↦ are.only k was
  ];
}

-- ---- bits that are told

pub nothing_told : (roots : List Drive) (readers : Table) (nets : List BitValue) (marks : BitValue) → AreTold roots readers nets nets marks marks
nothing_told roots readers nets marks = record { width = refl; kept = λ k marked. marked; bits = λ x. inl refl }

pub told_then : (roots : List Drive) (readers : Table) (vs ws us : List BitValue) (a b d : BitValue) → AreTold roots readers vs ws a b → AreTold roots readers ws us b d → AreTold roots readers vs us a d
told_then roots readers vs ws us a b d one two = record {
  width = two.width ∙ one.width;
  kept = λ k marked. two.kept k (one.kept k marked);
  bits = λ x. elim (two.bits x) [
    | inl stays ↦ elim (one.bits x) [
      | inl was ↦ inl (stays ∙ was)
      | inr told ↦ inr (λ l i k r cov at. two.kept k (told l i k r cov at))
    ]
    | inr told ↦ inr told
  ];
}

-- more marks tell no less
pub told_marked : (roots : List Drive) (readers : Table) (vs ws : List BitValue) (row : List ℕ) (t : ℕ) (a b d : BitValue) → AreTold roots readers vs ws a b → AreMarkedToo row t b d → AreTold roots readers vs ws a d
told_marked roots readers vs ws row t a b d one more = told_then roots readers vs ws ws a b d one (record { width = more.width; kept = more.kept; bits = λ x. inl refl })

-- a root that is written tells of its bits
pub root_told : (roots : List Drive) (readers : Table) (place : ℕ) (r : Drive) (row : List ℕ) (vs ws : List BitValue) (a b : BitValue) (taken : Bit → ℕ) → AreApart roots → slice_get roots place ≡ Some r → row ≡ table_row readers place
    → ((x : Bit) → digits_in ws x.0 x.1 ≡ cond (covers x.0 x.1 r) (taken x) (digits_in vs x.0 x.1)) → AreMarkedToo row (length row) a b → AreTold roots readers vs ws a b
root_told roots readers place r row vs ws a b taken apart at e digits marked = record {
  width = marked.width;
  kept = marked.kept;
  bits = λ x. elim (cases_Bool (covers x.0 x.1 r)) [
    | inl on ↦ inr (λ l i k q cov here.
        let f : l ≡ place = apart l place q r x cov (at, on) in
        let g : slice_get row i ≡ Some k = ap (λ (ks : List ℕ). slice_get ks i) (e ∙ ap (table_row readers) (sym f)) ∙ here in
        marked.listed i k (within row i k g) g)
    | inr off ↦ inl (digits x ∙ cond-false (covers x.0 x.1 r) (taken x) (digits_in vs x.0 x.1) off)
  ];
}

-- ---- the readers of listed roots

pub nothing_listed : (readers : Table) (places : List ℕ) (marks : BitValue) → ReadListed readers places marks marks
nothing_listed readers places marks k marked = inl marked

pub listed_more : (readers : Table) (places : List ℕ) (t l : ℕ) (first before after : BitValue) → slice_get places t ≡ Some l → ReadListed readers places first before
    → ((k : ℕ) → IsMarked after k → IsMarked before k ⊎ ((i : ℕ) × (slice_get (table_row readers l) i ≡ Some k))) → ReadListed readers places first after
listed_more readers places t l first before after at are more k marked = elim (more k marked) [
  | inl was ↦ are k was
  | inr h ↦ inr (t, l, h.0, at, h.1)
]

pub have_still : (readers : Table) (before after : BitValue) → after.width ≡ before.width → HaveMarks readers before → HaveMarks readers after
have_still readers before after e have l i k at = subst (λ (n : ℕ). k < n) (sym e) (have l i k at)

-- of a row
pub row_listed : (readers : Table) (l : ℕ) (row : List ℕ) (before after : BitValue) → row ≡ table_row readers l → ((k : ℕ) → IsMarked after k → IsMarked before k ⊎ ((i : ℕ) × (slice_get row i ≡ Some k)))
    → (k : ℕ) → IsMarked after k → IsMarked before k ⊎ ((i : ℕ) × (slice_get (table_row readers l) i ≡ Some k))
row_listed readers l row before after e h k marked = elim (h k marked) [
  | inl was ↦ inl was
  | inr at ↦ inr (at.0, ap (λ (ks : List ℕ). slice_get ks at.0) (sym e) ∙ at.1)
]

-- nets that are the same, and no mark more
pub same_told : (roots : List Drive) (readers : Table) (vs ws : List BitValue) (marks : BitValue) → ws ≡ vs → AreTold roots readers vs ws marks marks
same_told roots readers vs ws marks e = record { width = refl; kept = λ k marked. marked; bits = λ x. inl (ap (λ (ns : List BitValue). digits_in ns x.0 x.1) e) }

pub told_as : (roots qs : List Drive) (readers : Table) (vs ws us : List BitValue) (a b : BitValue) → qs ≡ roots → ws ≡ vs → AreTold qs readers ws us a b → AreTold roots readers vs us a b
told_as roots qs readers vs ws us a b e f told = subst (λ (rs : List Drive). AreTold rs readers vs us a b) e (subst (λ (ns : List BitValue). AreTold qs readers ns us a b) f told)

pub listed_as : (readers : Table) (row places : List ℕ) (a b : BitValue) → places ≡ row → ReadListed readers places a b → ReadListed readers row a b
listed_as readers row places a b e listed = subst (λ (ps : List ℕ). ReadListed readers ps a b) e listed

-- each reader is a node
pub readers_have : (c : Circuit) (nodes : List Node) (roots : List Drive) (readers : Table) (marks : BitValue) → AreReaders c nodes roots readers → marks.width ≡ length nodes → HaveMarks readers marks
readers_have c nodes roots readers marks are e l i k at =
    let h = (are l).right i k at in
    subst (λ (n : ℕ). k < n) (sym e) (within nodes k h.node h.at)
