-- How many samples may be recorded next.
use Rattle.std.proofs.Common.{◌≡◌, ℕ, zero, suc, ◌+◌, ◌-◌, ◌<◌, ◌≤◌, Bool, true, false, List, refl, sym, ap, subst, arith, ◌∙◌, inl, inr}
use Rattle.std.specs.Prelude.{nat_le, nat_lt, not, ◌==◌, ◌&&◌, ◌||◌}
use Rattle.std.proofs.lemmas.Bool.{and_parts, cases_Bool, cases_lt, cond-true, cond-false, false≢true, not-true, or_parts}
use Rattle.std.proofs.lemmas.Bool.Decides.{nat_tests}
use Rattle.hall_core.specs.Batches.{greatest, hits_goal, may_record, may_stop, record_of, some_hits}
use Rattle.hall_core.specs.Legal.{HitsAsSaid, Next, RunFacts, allowed}
use Rattle.hall_core.specs.Replay.{Replayed, replay}
use Rattle.hall_core.specs.declared.entry.Entry.{Entry}
use Rattle.hall_core.specs.declared.entry.Entry.TheVariants as entry
use Rattle.hall_core.specs.declared.entry.Goal.{Goal}
use Rattle.hall_core.specs.declared.entry.Goal.TheVariants as goal

le_of : (a b : ℕ) → nat_le a b ≡ true → a ≤ b
le_of a b h = grind (arith, nat_tests)

of_le : (a b : ℕ) → a ≤ b → nat_le a b ≡ true
of_le a b h = grind (arith, nat_tests)

eq_of : (a b : ℕ) → (a == b) ≡ true → a ≡ b
eq_of a b h = grind (arith, nat_tests)

of_eq : (a b : ℕ) → a ≡ b → (a == b) ≡ true
of_eq a b h = grind (arith, nat_tests)

lt_of : (a b : ℕ) → nat_lt a b ≡ true → a < b
lt_of a b h = grind (arith, nat_tests)

of_lt : (a b : ℕ) → a < b → nat_lt a b ≡ true
of_lt a b h = grind (arith, nat_tests)

and_true : (a b : Bool) → a ≡ true → b ≡ true → (a && b) ≡ true
and_true a b p q = ap (λ x. x && b) p ∙ q

-- ---- the greatest number that passes a test

pub greatest_within : (test : ℕ → Bool) (n : ℕ) → greatest test n ≤ n
unfolding greatest
greatest_within test zero = omega arith
greatest_within test (suc n) = elim (cases_Bool (test (suc n))) [
  | inl on ↦ (let e : greatest test (suc n) ≡ suc n = cond-true (test (suc n)) (suc n) (greatest test n) on in omega (arith, e))
  | inr off ↦ (let e : greatest test (suc n) ≡ greatest test n = cond-false (test (suc n)) (suc n) (greatest test n) off in let rest : greatest test n ≤ n = greatest_within test n in omega (arith, e, rest))
]

pub greatest_passes : (test : ℕ → Bool) (n : ℕ) → 0 < greatest test n → test (greatest test n) ≡ true
unfolding greatest
greatest_passes test zero lt = absurd (omega (arith, lt))
greatest_passes test (suc n) lt = elim (cases_Bool (test (suc n))) [
  | inl on ↦ (let e : greatest test (suc n) ≡ suc n = cond-true (test (suc n)) (suc n) (greatest test n) on in ap test e ∙ on)
  | inr off ↦ (let e : greatest test (suc n) ≡ greatest test n = cond-false (test (suc n)) (suc n) (greatest test n) off in ap test e ∙ greatest_passes test n (let h : 0 < greatest test n = subst (λ x. 0 < x) e lt in h))
]

same_or_below : (m n : ℕ) → m ≤ suc n → n < m → m ≡ suc n
same_or_below m n le lt = omega arith

pub greatest_most : (test : ℕ → Bool) (n m : ℕ) → m ≤ n → test m ≡ true → m ≤ greatest test n
unfolding greatest
greatest_most test zero m le passes = omega (arith, le)
greatest_most test (suc n) m le passes = elim (cases_Bool (test (suc n))) [
  | inl on ↦ (let e : greatest test (suc n) ≡ suc n = cond-true (test (suc n)) (suc n) (greatest test n) on in omega (arith, e, le))
  | inr off ↦ (
      let e : greatest test (suc n) ≡ greatest test n = cond-false (test (suc n)) (suc n) (greatest test n) off in
      elim (cases_lt n m) [
        | inl lt ↦ absurd (let x : true ≡ false = sym passes ∙ ap test (same_or_below m n le lt) ∙ off in cc)
        | inr ge ↦ (let rest : m ≤ greatest test n = greatest_most test n m ge passes in omega (arith, e, rest))
      ]
      )
]

-- a number that passes, where it is not 0, is the greatest where none above it does
pub greatest_at : (test : ℕ → Bool) (n m : ℕ) → m ≤ n → (0 < m → test m ≡ true) → ((j : ℕ) → m < j → j ≤ n → test j ≡ false) → greatest test n ≡ m
greatest_at test n m le passes fails =
    let within : greatest test n ≤ n = greatest_within test n in
    elim (cases_lt m (greatest test n)) [
      | inl lt ↦ absurd (false≢true (sym (fails (greatest test n) lt within) ∙ greatest_passes test n (omega (arith, lt))))
      | inr ge ↦ elim (cases_lt 0 m) [
        | inl some ↦ (let most : m ≤ greatest test n = greatest_most test n m le (passes some) in omega (arith, ge, most))
        | inr none ↦ omega (arith, ge, none)
      ]
    ]

-- ---- records

-- where none of some samples hits, each of them does not
pub none_of_them : (facts : RunFacts) (g : Goal) (n m k : ℕ) → some_hits facts g n m ≡ false → n ≤ k → k < n + m → hits_goal facts g k ≡ false
unfolding some_hits
none_of_them facts g n zero k none low high = absurd (omega (arith, low, high))
none_of_them facts g n (suc m) k none low high =
    let parts = or_parts (hits_goal facts g n) (some_hits facts g (suc n) m) none in
    elim (cases_lt n k) [
      | inl lt ↦ none_of_them facts g (suc n) m k parts.1 (omega (arith, lt)) (omega (arith, high))
      | inr ge ↦ (let same : n ≡ k = omega (arith, ge, low) in ap (λ z. hits_goal facts g z) (sym same) ∙ parts.0)
    ]

or_false : (a b : Bool) → a ≡ false → b ≡ false → (a || b) ≡ false
or_false a b p q = ap (λ x. x || b) p ∙ q

-- and the other way round
pub each_of_them : (facts : RunFacts) (g : Goal) (n m : ℕ) → ((k : ℕ) → n ≤ k → k < n + m → hits_goal facts g k ≡ false) → some_hits facts g n m ≡ false
unfolding some_hits
each_of_them facts g n zero none = refl
each_of_them facts g n (suc m) none = or_false (hits_goal facts g n) (some_hits facts g (suc n) m) (none n (omega arith) (omega arith)) (each_of_them facts g (suc n) m (λ k low high. none k (omega (arith, low)) (omega (arith, high))))

-- where one of them hits, some do
pub some_of_them : (facts : RunFacts) (g : Goal) (n m k : ℕ) → n ≤ k → k < n + m → hits_goal facts g k ≡ true → some_hits facts g n m ≡ true
some_of_them facts g n m k low high hit = elim (cases_Bool (some_hits facts g n m)) [
  | inl on ↦ on
  | inr off ↦ absurd (false≢true (sym (none_of_them facts g n m k off low high) ∙ hit))
]

hits_as_said : (facts : RunFacts) (n m : ℕ) (g : Goal) → some_hits facts g n (m - 1) ≡ false → HitsAsSaid facts n m (hits_goal facts g (n + m - 1)) g
hits_as_said facts n m goal.Hold none = tt {0}
hits_as_said facts n m (goal.To g kinds) none = (
  (λ k low high. none_of_them facts (goal.To g kinds) n (m - 1) k none low (omega (arith, low, high))),
  (λ k is. (let same : k ≡ n + m - 1 = omega (arith, is) in ap (λ z. facts.hits z kinds) same)),
)
hits_as_said facts n m goal.Over none = tt {0}

none_held : (facts : RunFacts) (n m : ℕ) → some_hits facts goal.Hold n m ≡ false
none_held facts n m = each_of_them facts goal.Hold n m (λ k low high. refl)

none_over : (facts : RunFacts) (n m : ℕ) → some_hits facts goal.Over n m ≡ false
none_over facts n m = each_of_them facts goal.Over n m (λ k low high. refl)

said_as_hits : (facts : RunFacts) (n m : ℕ) (hit : Bool) (g : Goal) → HitsAsSaid facts n m hit g → some_hits facts g n (m - 1) ≡ false
said_as_hits facts n m hit goal.Hold hits = none_held facts n (m - 1)
said_as_hits facts n m hit (goal.To g kinds) hits = each_of_them facts (goal.To g kinds) n (m - 1) (λ k low high. hits.0 k low (omega (arith, low, high)))
said_as_hits facts n m hit goal.Over hits = none_over facts n (m - 1)

not_false : (b : Bool) → b ≡ false → not b ≡ true
not_false b is = ap not is

pub may_record_next : (facts : RunFacts) (history : List Entry) (m : ℕ) → may_record facts (replay history) m ≡ true → Next facts history (record_of facts (replay history) m)
may_record_next facts history m may =
    let s : Replayed = replay history in
    let parts = and_parts (allowed facts.count s (record_of facts s m)) (nat_le (s.n + m) facts.length && not (some_hits facts s.goal s.n (m - 1))) may in
    let more = and_parts (nat_le (s.n + m) facts.length) (not (some_hits facts s.goal s.n (m - 1))) parts.1 in
    record {
      allows = parts.0;
      meets = (le_of (s.n + m) facts.length more.0, hits_as_said facts s.n m s.goal (not-true (some_hits facts s.goal s.n (m - 1)) more.1));
    }

pub next_may_record : (facts : RunFacts) (history : List Entry) (m : ℕ) → Next facts history (record_of facts (replay history) m) → may_record facts (replay history) m ≡ true
next_may_record facts history m next =
    let s : Replayed = replay history in
    and_true (allowed facts.count s (record_of facts s m)) (nat_le (s.n + m) facts.length && not (some_hits facts s.goal s.n (m - 1))) next.allows
    (and_true (nat_le (s.n + m) facts.length) (not (some_hits facts s.goal s.n (m - 1))) (of_le (s.n + m) facts.length next.meets.0)
    (not_false (some_hits facts s.goal s.n (m - 1)) (said_as_hits facts s.n m (hits_goal facts s.goal (s.n + m - 1)) s.goal next.meets.1)))

pub may_stop_next : (facts : RunFacts) (history : List Entry) → may_stop facts (replay history) ≡ true → Next facts history entry.Unsettled
may_stop_next facts history may =
    let s : Replayed = replay history in
    let parts = and_parts (allowed facts.count s entry.Unsettled) (s.n == facts.length && nat_lt facts.length facts.count) may in
    let at = and_parts (s.n == facts.length) (nat_lt facts.length facts.count) parts.1 in
    record { allows = parts.0; meets = (eq_of s.n facts.length at.0, lt_of facts.length facts.count at.1) }

pub next_may_stop : (facts : RunFacts) (history : List Entry) → Next facts history entry.Unsettled → may_stop facts (replay history) ≡ true
next_may_stop facts history next =
    let s : Replayed = replay history in
    and_true (allowed facts.count s entry.Unsettled) (s.n == facts.length && nat_lt facts.length facts.count) next.allows
    (and_true (s.n == facts.length) (nat_lt facts.length facts.count) (of_eq s.n facts.length next.meets.0) (of_lt facts.length facts.count next.meets.1))
