-- Identifiers whose names are UTF-8 and have bytes but no space behind their first one, and rules that read from such tokens.
use Rattle.std.proofs.Common.{◌≡◌, ℕ, zero, suc, List, [], ◌∷◌, length, drop, Bool, true, false, Ok, Err, if◌then◌else◌}
use Rattle.std.specs.Prelude.{nat_lt}
use Rattle.std.specs.Str.{is_utf8}
use Rattle.rtlil_lexer.specs.declared.token.Token.{Token}
use Rattle.rtlil_lexer.specs.declared.token.TokenKind.{TokenKind}
use Rattle.rtlil_lexer.specs.declared.token.TokenKind.TheVariants as token
use Rattle.rtlil_lexer.specs.declared.fault.TextFaultKind.{TextFaultKind}
use Rattle.rtlil_tree.specs.declared.place.Place.{Place}
use Rattle.rtlil_tree.specs.Input.{Input, Outcome, Rule, and_then, ◌>>=◌, ◌<$>◌, pure, refuse, fail, on, on_word, sees, sees_word, place, next, behind, repeated, more, stop, many, up_to_end}
use Rattle.rtlil_names.specs.Names.{has_no_space}

pub record IsNamed (name : List ℕ) : Type 0 where
  pub text : is_utf8 name ≡ true
  pub spaceless : has_no_space (drop 1 name) ≡ true
  pub long : nat_lt 1 (length name) ≡ true

abbrev pub IsNamedKind : TokenKind → Type 0
IsNamedKind (token.Identifier name) = IsNamed name
IsNamedKind _ = Unit {0}

abbrev pub AreNamed : List Token → Type 0
AreNamed [] = Unit {0}
AreNamed (t ∷ ts) = IsNamedKind t.kind × AreNamed ts

-- a tree as it should be, and tokens that are left as they were
abbrev pub Gives : {A : Type 0} → (A → Type 0) → Outcome A → Type 0
Gives fits (Ok p) = fits p.0 × AreNamed p.1.rest
Gives fits (Err e) = Unit {0}

unfoldable pub Reads : {A : Type 0} → (A → Type 0) → Rule A → Type 0
Reads fits r = (i : Input) → AreNamed i.rest → Gives fits (r i)

abbrev pub Anything : {A : Type 0} → A → Type 0
Anything a = Unit {0}

-- nothing is said of the tree
abbrev pub Keeps : {A : Type 0} → Rule A → Type 0
Keeps r = Reads Anything r

-- what a step leaves
abbrev pub Stepped : {S : Type 0} → (S → Type 0) → S × Bool → Type 0
Stepped fits p = fits p.0

gives_then : {A B : Type 0} (some : A → Type 0) (fits : B → Type 0) (o : Outcome A) (f : A → Rule B) → Gives some o → ((a : A) → some a → Reads fits (f a)) → Gives fits (and_then o f)
unfolding Reads
gives_then some fits (Ok p) f given reads = reads p.0 given.0 p.1 given.1
gives_then some fits (Err e) f given reads = tt

if_gives : {A : Type 0} (fits : A → Type 0) (b : Bool) (x y : Outcome A) → Gives fits x → Gives fits y → Gives fits (if b then x else y)
if_gives fits true x y first second = first
if_gives fits false x y first second = second

behind_named : (tokens : List Token) → AreNamed tokens → AreNamed (behind tokens)
behind_named [] named = tt
behind_named (t ∷ ts) named = named.1

pub next_named : (i : Input) → AreNamed i.rest → AreNamed (next i).rest
unfolding next
next_named i named = behind_named i.rest named

-- ---- a rule made of rules

pub then_reads : {A B : Type 0} (some : A → Type 0) (fits : B → Type 0) (p : Rule A) (f : A → Rule B) → Reads some p → ((a : A) → some a → Reads fits (f a)) → Reads fits (p >>= f)
unfolding Reads
then_reads some fits p f first second = λ i named. gives_then some fits (p i) f (first i named) second

-- the first part's tree does not count
pub then_after : {A B : Type 0} (fits : B → Type 0) (p : Rule A) (f : A → Rule B) → Keeps p → ((a : A) → Reads fits (f a)) → Reads fits (p >>= f)
then_after fits p f first second = then_reads Anything fits p f first (λ a any. second a)

pub if_reads : {A : Type 0} (fits : A → Type 0) (test : Input → Bool) (x y : Rule A) → Reads fits x → Reads fits y → Reads fits (λ i. if test i then x i else y i)
unfolding Reads
if_reads fits test x y first second = λ i named. if_gives fits (test i) (x i) (y i) (first i named) (second i named)

pub on_reads : {A : Type 0} (fits : A → Type 0) (s : _) (found other : Rule A) → Reads fits found → Reads fits other → Reads fits (on s found other)
unfolding Reads
on_reads fits s found other first second = λ i named. if_gives fits (sees s i) (found (next i)) (other i) (first (next i) (next_named i named)) (second i named)

pub word_reads : {A : Type 0} (fits : A → Type 0) (text : List ℕ) (found other : Rule A) → Reads fits found → Reads fits other → Reads fits (on_word text found other)
unfolding Reads
word_reads fits text found other first second = λ i named. if_gives fits (sees_word text i) (found (next i)) (other i) (first (next i) (next_named i named)) (second i named)

-- a rule that knows where it begins
pub place_reads : {A : Type 0} (fits : A → Type 0) (r : Place → Rule A) → ((p : Place) → Reads fits (r p)) → Reads fits (λ i. r (place i) i)
unfolding Reads
place_reads fits r each = λ i. each (place i) i

pub pure_reads : {A : Type 0} (fits : A → Type 0) (a : A) → fits a → Reads fits (pure a)
unfolding Reads
pure_reads fits a is = λ i named. (is, named)

pub refuse_reads : {A : Type 0} (fits : A → Type 0) → Reads fits (refuse {A = A})
unfolding Reads
refuse_reads fits = λ i named. tt

pub fail_reads : {A : Type 0} (fits : A → Type 0) (what : TextFaultKind) → Reads fits (fail {A = A} what)
unfolding Reads
fail_reads fits what = λ i named. tt

pub mapped_reads : {A B : Type 0} (some : A → Type 0) (fits : B → Type 0) (f : A → B) (r : Rule A) → ((a : A) → some a → fits (f a)) → Reads some r → Reads fits (f <$> r)
mapped_reads some fits f r each reads = then_reads some fits r _ reads (λ a is. pure_reads fits (f a) (each a is))

pub more_reads : {S : Type 0} (fits : S → Type 0) (state : S) → fits state → Reads (Stepped fits) (more state)
more_reads fits state is = pure_reads (Stepped fits) (state, true) is

pub stop_reads : {S : Type 0} (fits : S → Type 0) (state : S) → fits state → Reads (Stepped fits) (stop state)
stop_reads fits state is = pure_reads (Stepped fits) (state, false) is

-- ---- repetitions, of which each step leaves a state as it should be

either : {S : Type 0} (fits : S → Type 0) (b : Bool) (x y : Rule S) → Reads fits x → Reads fits y → Reads fits (if b then x else y)
either fits true x y first second = first
either fits false x y first second = second

repeated_reads : {S : Type 0} (fits : S → Type 0) (step : S → Rule (S × Bool)) (ended : S → Rule S) → ((state : S) → fits state → Reads (Stepped fits) (step state))
    → ((state : S) → fits state → Reads fits (ended state)) → (turns : ℕ) (state : S) → fits state → Reads fits (repeated step ended turns state)
unfolding repeated
repeated_reads fits step ended steps ends zero state is = ends state is
repeated_reads fits step ended steps ends (suc turns) state is =
    then_reads (Stepped fits) fits (step state) (λ p. if p.1 then repeated step ended turns p.0 else pure p.0) (steps state is)
    (λ p left. either fits p.1 (repeated step ended turns p.0) (pure p.0) (repeated_reads fits step ended steps ends turns p.0 left) (pure_reads fits p.0 left))

pub many_reads : {S : Type 0} (fits : S → Type 0) (step : S → Rule (S × Bool)) → ((state : S) → fits state → Reads (Stepped fits) (step state))
    → (state : S) → fits state → Reads fits (many step state)
unfolding Reads
many_reads fits step steps state is = λ i. repeated_reads fits step pure steps (pure_reads fits) (length i.rest) state is i

pub up_to_end_reads : {S : Type 0} (fits : S → Type 0) (step : S → Rule (S × Bool)) → ((state : S) → fits state → Reads (Stepped fits) (step state))
    → (state : S) → fits state → Reads fits (up_to_end step state)
unfolding Reads
up_to_end_reads {S} fits step steps state is = λ i. repeated_reads fits step (λ _. refuse) steps (λ _ _. refuse_reads {A = S} fits) (length i.rest) state is i

-- ---- where nothing is said of the tree

pub then_keeps : {A B : Type 0} (p : Rule A) (f : A → Rule B) → Keeps p → ((a : A) → Keeps (f a)) → Keeps (p >>= f)
then_keeps = then_after Anything

pub if_keeps : {A : Type 0} (test : Input → Bool) (x y : Rule A) → Keeps x → Keeps y → Keeps (λ i. if test i then x i else y i)
if_keeps = if_reads Anything

pub on_keeps : {A : Type 0} (s : _) (found other : Rule A) → Keeps found → Keeps other → Keeps (on s found other)
on_keeps s = on_reads Anything s

pub word_keeps : {A : Type 0} (text : List ℕ) (found other : Rule A) → Keeps found → Keeps other → Keeps (on_word text found other)
word_keeps = word_reads Anything

pub pure_keeps : {A : Type 0} (a : A) → Keeps (pure a)
pure_keeps a = pure_reads Anything a tt

pub refuse_keeps : (A : Type 0) → Keeps (refuse {A = A})
refuse_keeps A = refuse_reads {A = A} Anything

pub fail_keeps : (A : Type 0) (what : TextFaultKind) → Keeps (fail {A = A} what)
fail_keeps A what = fail_reads {A = A} Anything what

pub more_keeps : {S : Type 0} (state : S) → Keeps (more state)
more_keeps state = pure_keeps (state, true)

pub stop_keeps : {S : Type 0} (state : S) → Keeps (stop state)
stop_keeps state = pure_keeps (state, false)

pub many_keeps : {S : Type 0} (step : S → Rule (S × Bool)) → ((state : S) → Keeps (step state)) → (state : S) → Keeps (many step state)
many_keeps step steps state = many_reads Anything step (λ state any. steps state) state tt

pub up_to_end_keeps : {S : Type 0} (step : S → Rule (S × Bool)) → ((state : S) → Keeps (step state)) → (state : S) → Keeps (up_to_end step state)
up_to_end_keeps step steps state = up_to_end_reads Anything step (λ state any. steps state) state tt

-- a tree that is as it should be is a tree
pub any_reads : {A : Type 0} (fits : A → Type 0) (r : Rule A) → Reads fits r → Keeps r
unfolding Reads
any_reads {A = A} fits r reads = λ i named. by (r i) (reads i named)
  where
    by : (o : Outcome A) → Gives fits o → Gives Anything o
    by (Ok p) given = (tt, given.1)
    by (Err e) given = tt
