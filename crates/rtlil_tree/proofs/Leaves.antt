-- What a rule leaves: never more tokens than there were.
use Rattle.std.proofs.Common.{◌≡◌, ◌≤◌, ℕ, ◌-◌, List, [], ◌∷◌, length, Bool, true, false, Ok, Err, refl, if◌then◌else◌, arith}
use Rattle.rtlil_tree.specs.Input.{Input, Outcome, Rule, and_then, ◌>>=◌, pure, refuse, fail, on, on_word, sees, sees_word, place, next, behind, more, stop}
use Rattle.rtlil_lexer.specs.declared.token.Token.{Token}
use Rattle.rtlil_lexer.specs.declared.fault.TextFaultKind.{TextFaultKind}
use Rattle.rtlil_tree.specs.declared.place.Place.{Place}
use Rattle.rtlil_tree.specs.declared.cursor.Sign.{Sign}

-- what an outcome leaves of so many tokens, where a tree takes at least so many of them
abbrev pub Left : {A : Type 0} → (A → ℕ) → ℕ → Outcome A → Type 0
Left took n (Ok p) = length p.1.rest ≤ n - took p.0
Left took n (Err e) = Unit {0}

unfoldable pub Leaves : {A : Type 0} → (A → ℕ) → Rule A → Type 0
Leaves took r = (i : Input) → Left took (length i.rest) (r i)

abbrev pub none : {A : Type 0} → A → ℕ
none a = 0

abbrev pub one : {A : Type 0} → A → ℕ
one a = 1

-- a step takes a token where more may come
abbrev pub stepped : {S : Type 0} → S × Bool → ℕ
stepped p = if p.1 then 1 else 0

abbrev pub Shrinks : {A : Type 0} → Rule A → Type 0
Shrinks r = Leaves none r

abbrev pub Takes : {A : Type 0} → Rule A → Type 0
Takes r = Leaves one r

abbrev pub Step : {S : Type 0} → Rule (S × Bool) → Type 0
Step r = Leaves stepped r

weaken : {A : Type 0} (some took : A → ℕ) (m n : ℕ) (o : Outcome A) → ((a : A) → m - some a ≤ n - took a) → Left some m o → Left took n o
weaken some took m n (Ok p) less left = let l = less p.0 in omega arith
weaken some took m n (Err e) less left = tt

then_left : {A B : Type 0} (some : A → ℕ) (other took : B → ℕ) (n : ℕ) (o : Outcome A) (f : A → Rule B)
    → ((a : A) (b : B) → n - some a - other b ≤ n - took b) → Left some n o → ((a : A) → Leaves other (f a)) → Left took n (and_then o f)
unfolding Leaves
then_left some other took n (Ok p) f less left leaves = weaken other took (length p.1.rest) n (f p.0 p.1) (λ b. let l = less p.0 b in omega arith) (leaves p.0 p.1)
then_left some other took n (Err e) f less left leaves = tt

-- the rule goes on with the same tokens whichever way a test goes
if_left : {A : Type 0} (took : A → ℕ) (n : ℕ) (b : Bool) (x y : Outcome A) → Left took n x → Left took n y → Left took n (if b then x else y)
if_left took n true x y first second = first
if_left took n false x y first second = second

less_next : (tokens : List Token) → length (behind tokens) ≡ length tokens - 1
less_next [] = refl
less_next (t ∷ ts) = omega arith

pub next_left : {A : Type 0} (took : A → ℕ) (i : Input) (found : Rule A) → ((a : A) → took a ≤ 1) → Shrinks found → Left took (length i.rest) (found (next i))
unfolding Leaves next
next_left took i found few leaves = let e = less_next i.rest in
    weaken none took (length (behind i.rest)) (length i.rest) (found (next i)) (λ a. let f = few a in omega arith) (leaves (next i))

-- a token that is taken
pub taken : (i : Input) → length (next i).rest ≤ length i.rest - 1
unfolding next
taken i = let e = less_next i.rest in omega arith

-- ---- a rule made of rules

pub if_leaves : {A : Type 0} (took : A → ℕ) (test : Input → Bool) (x y : Rule A) → Leaves took x → Leaves took y → Leaves took (λ i. if test i then x i else y i)
unfolding Leaves
if_leaves took test x y first second = λ i. if_left took (length i.rest) (test i) (x i) (y i) (first i) (second i)

-- a rule that knows where it begins
pub place_leaves : {A : Type 0} (took : A → ℕ) (r : Place → Rule A) → ((p : Place) → Leaves took (r p)) → Leaves took (λ i. r (place i) i)
unfolding Leaves
place_leaves took r each = λ i. each (place i) i

on_leaves : {A : Type 0} (took : A → ℕ) (few : (a : A) → took a ≤ 1) (s : Sign) (found other : Rule A) → Shrinks found → Leaves took other → Leaves took (on s found other)
unfolding Leaves
on_leaves took few s found other first second = λ i. if_left took (length i.rest) (sees s i) (found (next i)) (other i) (next_left took i found few first) (second i)

on_word_leaves : {A : Type 0} (took : A → ℕ) (few : (a : A) → took a ≤ 1) (text : List ℕ) (found other : Rule A) → Shrinks found → Leaves took other → Leaves took (on_word text found other)
unfolding Leaves
on_word_leaves took few text found other first second = λ i. if_left took (length i.rest) (sees_word text i) (found (next i)) (other i) (next_left took i found few first) (second i)

pub then_leaves : {A B : Type 0} (some : A → ℕ) (other took : B → ℕ) (p : Rule A) (f : A → Rule B)
    → ((n : ℕ) (a : A) (b : B) → n - some a - other b ≤ n - took b) → Leaves some p → ((a : A) → Leaves other (f a)) → Leaves took (p >>= f)
unfolding Leaves
then_leaves some other took p f less first second = λ i. then_left some other took (length i.rest) (p i) f (less (length i.rest)) (first i) second

pub pure_shrinks : {A : Type 0} (a : A) → Shrinks (pure a)
unfolding Leaves
pure_shrinks a = λ i. omega arith

pub refuse_leaves : {A : Type 0} (took : A → ℕ) → Leaves took (refuse {A = A})
unfolding Leaves
refuse_leaves took = λ i. tt

pub fail_leaves : {A : Type 0} (took : A → ℕ) (what : TextFaultKind) → Leaves took (fail {A = A} what)
unfolding Leaves
fail_leaves took what = λ i. tt

-- ---- the three kinds

zero_few : {A : Type 0} (a : A) → none a ≤ 1
zero_few a = omega arith

pub one_few : {A : Type 0} (a : A) → one a ≤ 1
one_few a = omega arith

if_few : (b : Bool) → (if b then 1 else 0) ≤ 1
if_few true = omega arith
if_few false = omega arith

stepped_few : {S : Type 0} (p : S × Bool) → stepped p ≤ 1
stepped_few p = if_few p.1

pub on_shrinks : {A : Type 0} (s : Sign) (found other : Rule A) → Shrinks found → Shrinks other → Shrinks (on s found other)
on_shrinks = on_leaves none zero_few

pub on_takes : {A : Type 0} (s : Sign) (found other : Rule A) → Shrinks found → Takes other → Takes (on s found other)
on_takes = on_leaves one one_few

pub on_step : {S : Type 0} (s : Sign) (found other : Rule (S × Bool)) → Shrinks found → Step other → Step (on s found other)
on_step = on_leaves stepped stepped_few

pub word_shrinks : {A : Type 0} (text : List ℕ) (found other : Rule A) → Shrinks found → Shrinks other → Shrinks (on_word text found other)
word_shrinks = on_word_leaves none zero_few

pub word_takes : {A : Type 0} (text : List ℕ) (found other : Rule A) → Shrinks found → Takes other → Takes (on_word text found other)
word_takes = on_word_leaves one one_few

pub word_step : {S : Type 0} (text : List ℕ) (found other : Rule (S × Bool)) → Shrinks found → Step other → Step (on_word text found other)
word_step = on_word_leaves stepped stepped_few

pub then_shrinks : {A B : Type 0} (p : Rule A) (f : A → Rule B) → Shrinks p → ((a : A) → Shrinks (f a)) → Shrinks (p >>= f)
then_shrinks p f = then_leaves none none none p f (λ n a b. omega arith)

-- the first part takes a token
pub then_takes : {A B : Type 0} (p : Rule A) (f : A → Rule B) → Takes p → ((a : A) → Shrinks (f a)) → Takes (p >>= f)
then_takes p f = then_leaves one none one p f (λ n a b. omega arith)

pub then_step : {A S : Type 0} (p : Rule A) (f : A → Rule (S × Bool)) → Takes p → ((a : A) → Shrinks (f a)) → Step (p >>= f)
then_step p f = then_leaves one none stepped p f (λ n a b. let few = stepped_few b in omega arith)

pub takes_shrinks : {A : Type 0} (r : Rule A) → Takes r → Shrinks r
unfolding Leaves
takes_shrinks r takes = λ i. weaken one none (length i.rest) (length i.rest) (r i) (λ a. omega arith) (takes i)

pub stop_step : {S : Type 0} (state : S) → Step (stop state)
unfolding Leaves
stop_step state = λ i. omega arith

pub more_shrinks : {S : Type 0} (state : S) → Shrinks (more state)
more_shrinks state = pure_shrinks (state, true)

pub stop_shrinks : {S : Type 0} (state : S) → Shrinks (stop state)
stop_shrinks state = pure_shrinks (state, false)
