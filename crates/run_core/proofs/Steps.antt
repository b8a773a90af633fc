-- A machine goes on by a sample of a run.
use Rattle.std.proofs.Common.{◌≡◌, ℕ, ◌+◌, ◌<◌, List, ◌++◌, length, take, drop, refl, sym, ap, ◌∙◌, arith, add-one, true, false, ◌&&◌, Option, Some, None}
use Rattle.std.specs.Prelude.{is_some, nat_lt, nat_eq}
use Rattle.std.proofs.lemmas.Bool.{cond-true, cond-false, false≢true}
use Rattle.std.proofs.lemmas.Bool.Decides.{nat_tests}
use Rattle.std.proofs.lemmas.List.{take_at}
use Rattle.circuit.specs.Rounds.{Run, Standing, standing_after, standing_at, start}
use Rattle.circuit.specs.declared.netlist.Circuit.{Circuit}
use Rattle.eval_commit.specs.Machine.{MachineState, after_sample}
use Rattle.stimulus_blocks.specs.Courses.{Course, row_of, run_of}
use Rattle.run_core.specs.Cursor.{left_by}
use Rattle.run_core.specs.Samples.{has_next, next_of, sample_of}
use Rattle.run_core.specs.Words.{StandsAt}
use Rattle.run_core.specs.declared.next.Next.TheVariants as next

-- what was written through a slice of all elements
pub written_back : {X : Type 0} (n : ℕ) (xs old : List X) → length xs ≡ n → take n (xs ++ drop (length xs) old) ≡ xs
written_back n xs old long = take_at xs (drop (length xs) old) n long

pub some_of : {X : Type 0} (o : Option X) → is_some o ≡ true → (x : X) × (o ≡ Some x)
some_of None e = absurd (false≢true e)
some_of (Some x) e = (x, refl)

pub starts : (c : Circuit) (s : Course) → Some (start c) ≡ standing_after (run_of c s) 0
unfolding standing_after
starts c s = refl

pub started : (c : Circuit) (s : Course) → is_some (standing_after (run_of c s) 0) ≡ true
unfolding standing_after
started c s = refl

module _ (c : Circuit) (s : Course) (k : ℕ) where
  pub goes_on : (m now : MachineState) (inputs : List ℕ) → m.circuit ≡ c → m.standing ≡ standing_after (run_of c s) k → inputs ≡ (row_of s k).inputs → now ≡ after_sample m inputs → now ≡ left_by (run_of c s) k
  unfolding standing_after
  goes_on m now inputs same before at is =
      is
      ∙ ap (λ (x : Circuit). after_sample (record { circuit = x; standing = m.standing; fired = m.fired }) inputs) same
      ∙ ap (λ (o : Option Standing). after_sample (record { circuit = c; standing = o; fired = m.fired }) inputs) before
      ∙ ap (λ (xs : List ℕ). after_sample (record { circuit = c; standing = standing_after (run_of c s) k; fired = m.fired }) xs) at

  pub stands_at : (now : MachineState) → now ≡ left_by (run_of c s) k → is_some now.standing ≡ true → (t : Standing) × StandsAt (run_of c s) k now t
  stands_at now is some =
      let t = some_of now.standing some in (
        t.0,
        record {
          circuit = ap (λ (m : MachineState). m.circuit) is;
          left = sym (ap (λ (m : MachineState). m.standing) is) ∙ t.1;
          standing = t.1;
          fired = ap (λ (m : MachineState). m.fired) is;
        },
      )

  pub settles : (now : MachineState) → now ≡ left_by (run_of c s) k → is_some now.standing ≡ true → is_some (standing_at (run_of c s) k) ≡ true
  settles now is some = ap is_some (sym (ap (λ (m : MachineState). m.standing) is)) ∙ some

  pub stands_next : (now : MachineState) → now ≡ left_by (run_of c s) k → now.standing ≡ standing_after (run_of c s) (k + 1)
  stands_next now is = ap (λ (m : MachineState). m.standing) is ∙ ap (standing_after (run_of c s)) (sym (add-one k))

  pub settles_next : (now : MachineState) → now ≡ left_by (run_of c s) k → is_some now.standing ≡ true → is_some (standing_after (run_of c s) (k + 1)) ≡ true
  settles_next now is some = ap is_some (sym (stands_next now is)) ∙ some

  pub does_not : (now : MachineState) → now ≡ left_by (run_of c s) k → now.standing ≡ None → standing_at (run_of c s) k ≡ None
  does_not now is none = sym (ap (λ (m : MachineState). m.standing) is) ∙ none

-- ---- what comes next

pub has_more : (run : Run) (k : ℕ) → k < run.count → is_some (standing_at run k) ≡ true → has_next run k ≡ true
has_more run k lt some = ap (λ b. nat_lt k run.count && b) some ∙ (let e : (nat_lt k run.count && true) ≡ true = grind (arith, nat_tests) in e)

pub sample_next : (run : Run) (k : ℕ) → k < run.count → is_some (standing_at run k) ≡ true → next_of run k ≡ next.Sample (sample_of run k)
sample_next run k lt some = cond-true (has_next run k) _ _ (has_more run k lt some)

pub has_none : (run : Run) (k : ℕ) → is_some (standing_at run k) ≡ false → has_next run k ≡ false
has_none run k none = ap (λ b. nat_lt k run.count && b) none ∙ (let e : (nat_lt k run.count && false) ≡ false = grind (arith, nat_tests) in e)

pub unsettled_next : (run : Run) (k : ℕ) → k < run.count → is_some (standing_at run k) ≡ false → next_of run k ≡ next.Unsettled
unsettled_next run k lt none =
    cond-false (has_next run k) _ _ (has_none run k none) ∙ cond-false (nat_eq k run.count) _ _ (let e : nat_eq k run.count ≡ false = grind (arith, nat_tests) in e)
