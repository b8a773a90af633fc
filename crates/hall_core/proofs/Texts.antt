-- A log tells its history.
use Rattle.std.proofs.Common.{◌≡◌, ℕ, ◌<◌, ◌^◌, Bool, true, false, List, [], ◌∷◌, ◌++◌, refl, sym, ap, subst, arith, ◌∙◌, codes, decimal, get_or, eqb}
use Rattle.std.specs.Int.{IsInRange}
use Rattle.std.proofs.lemmas.Bool.Decides.{nat_tests}
use Rattle.std.proofs.lemmas.List.{append_cancel_left}
use Rattle.std.proofs.lemmas.List.Concat.{flat_map-cons}
use Rattle.std.proofs.lemmas.Fmt.{decimal_injective, digits_decimal}
use Rattle.std.proofs.lemmas.Str.Parse.{numerals_by_value}
use Rattle.hall_core.specs.declared.entry.Entry.{Entry}
use Rattle.hall_core.specs.declared.entry.Entry.TheVariants as entry
use Rattle.hall_core.specs.declared.entry.Act.{Act}
use Rattle.hall_core.specs.declared.entry.Act.TheVariants as act
use Rattle.hall_core.specs.declared.entry.Why.{Why}
use Rattle.hall_core.specs.declared.entry.Why.TheVariants as why
use Rattle.hall_core.specs.LogText.{word_if, kinds_text, act_text, why_text, line, log_text}
use Rattle.hall_core.specs.Laws.{IsSmall, IsSmallAct, AllSmall}

append_assoc' : (xs ys zs : List ℕ) → (xs ++ ys) ++ zs ≡ xs ++ (ys ++ zs)
append_assoc' [] ys zs = refl
append_assoc' (x ∷ xs) ys zs = ap (λ z. x ∷ z) (append_assoc' xs ys zs)

-- a number and what stands behind it

abbrev AreDigits : List ℕ → Type 0
AreDigits [] = Unit {0}
AreDigits (c ∷ cs) = IsInRange 48 57 c × AreDigits cs

digits_of_decimal : (n : ℕ) → n < 2 ^ 64 → AreDigits (decimal n)
digits_of_decimal n small = digits_decimal (numerals_by_value AreDigits (record { empty = tt; parts = λ c cs p. p; more = λ c cs p q. (p, q) })) n small

-- no digit stands first
data NoDigitFirst : List ℕ → Type 0 where
  first : (c : ℕ) (cs : List ℕ) → c < 48 → NoDigitFirst (c ∷ cs)

head : (a b : ℕ) (us vs : List ℕ) → a ∷ us ≡ b ∷ vs → a ≡ b
head a b us vs h = cc

tail : (a b : ℕ) (us vs : List ℕ) → a ∷ us ≡ b ∷ vs → us ≡ vs
tail a b us vs h = cc

digit_is_high : (c d : ℕ) → c < 48 → IsInRange 48 57 d → c ≡ d → ⊥
digit_is_high c d low range same = omega (arith, range.0)

same_digits : (us vs xs ys : List ℕ) → AreDigits us → AreDigits vs → NoDigitFirst xs → NoDigitFirst ys → us ++ xs ≡ vs ++ ys → us ≡ vs
same_digits [] [] xs ys da db nx ny h = refl
same_digits [] (b ∷ vs) _ ys da db (first c cs low) ny h = absurd (digit_is_high c b low db.0 (head _ _ _ _ h))
same_digits (a ∷ us) [] xs _ da db nx (first c cs low) h = absurd (digit_is_high c a low da.0 (sym (head _ _ _ _ h)))
same_digits (a ∷ us) (b ∷ vs) xs ys da db nx ny h =
    let one = head _ _ _ _ h in
    let more = same_digits us vs xs ys da.1 db.1 nx ny (tail _ _ _ _ h) in
    cc

number : (m n : ℕ) (xs ys : List ℕ) → m < 2 ^ 64 → n < 2 ^ 64 → NoDigitFirst xs → NoDigitFirst ys → decimal m ++ xs ≡ decimal n ++ ys → (m ≡ n) × (xs ≡ ys)
number m n xs ys sm sn nx ny h =
    let digits = same_digits (decimal m) (decimal n) xs ys (digits_of_decimal m sm) (digits_of_decimal n sn) nx ny h in
    (decimal_injective m n sm sn digits, append_cancel_left (decimal n) xs ys (subst (λ z. z ++ xs ≡ decimal n ++ ys) digits h))

low_blank : 32 < 48
low_blank = omega arith

low_line : 10 < 48
low_line = omega arith

-- two lists that differ at a place
differs : (a b : ℕ) → eqb a b ≡ false → a ≡ b → ⊥
differs a b differ same = grind (arith, nat_tests)

apart : (k : ℕ) (us vs : List ℕ) → eqb (get_or us k 0) (get_or vs k 0) ≡ false → us ≡ vs → ⊥
apart k us vs differ same = differs (get_or us k 0) (get_or vs k 0) differ (ap (λ z. get_or z k 0) same)

-- the kinds, and what stands behind them

kinds_on : Bool → Bool → List ℕ → List ℕ
kinds_on asserts assumes rest = word_if asserts (codes " assert") ++ (word_if assumes (codes " assume") ++ 10 ∷ rest)

kinds_read : (a b c d : Bool) (rest rest' : List ℕ) → kinds_on a b rest ≡ kinds_on c d rest' → (a ≡ c) × (b ≡ d) × (rest ≡ rest')
unfolding kinds_on
kinds_read true true true true rest rest' h = (refl, refl, tail _ _ _ _ (append_cancel_left (codes " assert assume") _ _ h))
kinds_read true false true false rest rest' h = (refl, refl, tail _ _ _ _ (append_cancel_left (codes " assert") _ _ h))
kinds_read false true false true rest rest' h = (refl, refl, tail _ _ _ _ (append_cancel_left (codes " assume") _ _ h))
kinds_read false false false false rest rest' h = (refl, refl, tail _ _ _ _ h)
kinds_read true true true false rest rest' h = absurd (apart 7 _ _ refl h)
kinds_read true false true true rest rest' h = absurd (apart 7 _ _ refl h)
kinds_read true b false true rest rest' h = absurd (apart 4 (kinds_on true b rest) (kinds_on false true rest') refl h)
kinds_read false true true d rest rest' h = absurd (apart 4 (kinds_on false true rest) (kinds_on true d rest') refl h)
kinds_read true b false false rest rest' h = absurd (apart 0 (kinds_on true b rest) (kinds_on false false rest') refl h)
kinds_read false true false false rest rest' h = absurd (apart 0 _ _ refl h)
kinds_read false false true d rest rest' h = absurd (apart 0 (kinds_on false false rest) (kinds_on true d rest') refl h)
kinds_read false false false true rest rest' h = absurd (apart 0 _ _ refl h)

kinds_first : (a b : Bool) (rest : List ℕ) → NoDigitFirst (kinds_on a b rest)
unfolding kinds_on
kinds_first true b rest = first _ _ low_blank
kinds_first false true rest = first _ _ low_blank
kinds_first false false rest = first _ _ low_line

-- an act, and what stands behind it

act_on : Act → List ℕ → List ℕ
act_on act.Look rest = 10 ∷ rest
act_on (act.Run m kinds) rest = codes " run " ++ (decimal m ++ kinds_on kinds.asserts kinds.assumes rest)
act_on act.Pause rest = codes " pause" ++ 10 ∷ rest

same_run : (m n : ℕ) (a b c d : Bool) → m ≡ n → a ≡ c → b ≡ d → act.Run m (record { asserts = a; assumes = b }) ≡ act.Run n (record { asserts = c; assumes = d })
same_run m n a b c d p q r = cc

run_read : (m n : ℕ) (a b c d : Bool) (rest rest' : List ℕ) → m < 2 ^ 64 → n < 2 ^ 64 → decimal m ++ kinds_on a b rest ≡ decimal n ++ kinds_on c d rest' → (act.Run m (record { asserts = a; assumes = b }) ≡ act.Run n (record { asserts = c; assumes = d })) × (rest ≡ rest')
run_read m n a b c d rest rest' sm sn h =
    let parts = number m n _ _ sm sn (kinds_first a b rest) (kinds_first c d rest') h in
    let kinds = kinds_read a b c d rest rest' parts.1 in
    (same_run m n a b c d parts.0 kinds.0 kinds.1, kinds.2)

act_read : (a b : Act) (rest rest' : List ℕ) → IsSmallAct a → IsSmallAct b → act_on a rest ≡ act_on b rest' → (a ≡ b) × (rest ≡ rest')
unfolding act_on
act_read act.Look act.Look rest rest' sa sb h = (refl, tail _ _ _ _ h)
act_read (act.Run m k) (act.Run n l) rest rest' sa sb h = run_read m n k.asserts k.assumes l.asserts l.assumes rest rest' sa sb (append_cancel_left (codes " run ") _ _ h)
act_read act.Pause act.Pause rest rest' sa sb h = (refl, tail _ _ _ _ (append_cancel_left (codes " pause") _ _ h))
act_read act.Look (act.Run n l) rest rest' sa sb h = absurd (apart 0 _ _ refl h)
act_read act.Look act.Pause rest rest' sa sb h = absurd (apart 0 _ _ refl h)
act_read (act.Run m k) act.Look rest rest' sa sb h = absurd (apart 0 _ _ refl h)
act_read (act.Run m k) act.Pause rest rest' sa sb h = absurd (apart 1 _ _ refl h)
act_read act.Pause act.Look rest rest' sa sb h = absurd (apart 0 _ _ refl h)
act_read act.Pause (act.Run n l) rest rest' sa sb h = absurd (apart 1 _ _ refl h)

act_first : (a : Act) (rest : List ℕ) → NoDigitFirst (act_on a rest)
unfolding act_on
act_first act.Look rest = first _ _ low_line
act_first (act.Run m kinds) rest = first _ _ low_blank
act_first act.Pause rest = first _ _ low_blank

-- why a client is gone, and what stands behind it

why_on : Why → List ℕ → List ℕ
why_on w rest = why_text w ++ 10 ∷ rest

why_first : (w : Why) (rest : List ℕ) → NoDigitFirst (why_on w rest)
unfolding why_on
why_first why.Ended rest = first _ _ low_blank
why_first why.Fault rest = first _ _ low_blank
why_first why.TooLong rest = first _ _ low_blank
why_first why.Slow rest = first _ _ low_blank
why_first why.Limit rest = first _ _ low_blank
why_first why.Memory rest = first _ _ low_blank
why_first why.Over rest = first _ _ low_blank

why_read : (w v : Why) (rest rest' : List ℕ) → why_on w rest ≡ why_on v rest' → (w ≡ v) × (rest ≡ rest')
unfolding why_on
why_read why.Ended why.Ended rest rest' h = (refl, tail _ _ _ _ (append_cancel_left (codes " ended") _ _ h))
why_read why.Fault why.Fault rest rest' h = (refl, tail _ _ _ _ (append_cancel_left (codes " fault") _ _ h))
why_read why.TooLong why.TooLong rest rest' h = (refl, tail _ _ _ _ (append_cancel_left (codes " too_long") _ _ h))
why_read why.Slow why.Slow rest rest' h = (refl, tail _ _ _ _ (append_cancel_left (codes " slow") _ _ h))
why_read why.Limit why.Limit rest rest' h = (refl, tail _ _ _ _ (append_cancel_left (codes " limit") _ _ h))
why_read why.Memory why.Memory rest rest' h = (refl, tail _ _ _ _ (append_cancel_left (codes " memory") _ _ h))
why_read why.Over why.Over rest rest' h = (refl, tail _ _ _ _ (append_cancel_left (codes " over") _ _ h))
why_read w v rest rest' h = absurd (apart 1 (why_on w rest) (why_on v rest') refl h)

-- whether the flag stands, and what stands behind it

hit_on : Bool → List ℕ → List ℕ
hit_on hit rest = word_if hit (codes " hit") ++ 10 ∷ rest

hit_first : (hit : Bool) (rest : List ℕ) → NoDigitFirst (hit_on hit rest)
unfolding hit_on
hit_first true rest = first _ _ low_blank
hit_first false rest = first _ _ low_line

hit_read : (a b : Bool) (rest rest' : List ℕ) → hit_on a rest ≡ hit_on b rest' → (a ≡ b) × (rest ≡ rest')
unfolding hit_on
hit_read true true rest rest' h = (refl, tail _ _ _ _ (append_cancel_left (codes " hit") _ _ h))
hit_read false false rest rest' h = (refl, tail _ _ _ _ h)
hit_read true false rest rest' h = absurd (apart 0 _ _ refl h)
hit_read false true rest rest' h = absurd (apart 0 _ _ refl h)

-- a line, and what stands behind it

line_on : Entry → List ℕ → List ℕ
line_on (entry.Open c) rest = codes "open " ++ (decimal c ++ 10 ∷ rest)
line_on (entry.Packet c what) rest = codes "packet " ++ (decimal c ++ act_on what rest)
line_on (entry.Record m hit) rest = codes "record " ++ (decimal m ++ hit_on hit rest)
line_on entry.Unsettled rest = codes "unsettled" ++ 10 ∷ rest
line_on (entry.Close c cause) rest = codes "close " ++ (decimal c ++ why_on cause rest)
line_on entry.End rest = codes "end" ++ 10 ∷ rest

-- three parts and a line's end in front of a rest
regroup : (word digits more rest : List ℕ) → ((word ++ digits ++ more) ++ 10 ∷ []) ++ rest ≡ word ++ (digits ++ (more ++ 10 ∷ rest))
regroup word digits more rest =
    append_assoc' (word ++ digits ++ more) (10 ∷ []) rest
    ∙ append_assoc' (word ++ digits) more (10 ∷ rest)
    ∙ append_assoc' word digits (more ++ 10 ∷ rest)

regroup_two : (word digits rest : List ℕ) → ((word ++ digits) ++ 10 ∷ []) ++ rest ≡ word ++ (digits ++ 10 ∷ rest)
regroup_two word digits rest =
    append_assoc' (word ++ digits) (10 ∷ []) rest
    ∙ append_assoc' word digits (10 ∷ rest)

act_text_on : (a : Act) (rest : List ℕ) → act_text a ++ 10 ∷ rest ≡ act_on a rest
unfolding act_on kinds_on
act_text_on act.Look rest = refl
act_text_on (act.Run m kinds) rest =
    append_assoc' (codes " run " ++ decimal m) (kinds_text kinds) (10 ∷ rest)
    ∙ append_assoc' (codes " run ") (decimal m) (kinds_text kinds ++ 10 ∷ rest)
    ∙ ap (λ z. codes " run " ++ (decimal m ++ z)) (append_assoc' (word_if kinds.asserts (codes " assert")) (word_if kinds.assumes (codes " assume")) (10 ∷ rest))
act_text_on act.Pause rest = refl

line_text : (e : Entry) (rest : List ℕ) → line e ++ rest ≡ line_on e rest
unfolding line_on hit_on why_on
line_text (entry.Open c) rest = regroup_two (codes "open ") (decimal c) rest
line_text (entry.Packet c what) rest = regroup (codes "packet ") (decimal c) (act_text what) rest ∙ ap (λ z. codes "packet " ++ (decimal c ++ z)) (act_text_on what rest)
line_text (entry.Record m hit) rest = regroup (codes "record ") (decimal m) (word_if hit (codes " hit")) rest
line_text entry.Unsettled rest = refl
line_text (entry.Close c cause) rest = regroup (codes "close ") (decimal c) (why_text cause) rest
line_text entry.End rest = refl

same_packet : (c d : ℕ) (a b : Act) → c ≡ d → a ≡ b → entry.Packet c a ≡ entry.Packet d b
same_packet c d a b p q = cc

same_record : (m n : ℕ) (a b : Bool) → m ≡ n → a ≡ b → entry.Record m a ≡ entry.Record n b
same_record m n a b p q = cc

same_close : (c d : ℕ) (w v : Why) → c ≡ d → w ≡ v → entry.Close c w ≡ entry.Close d v
same_close c d w v p q = cc

line_read : (e f : Entry) (rest rest' : List ℕ) → IsSmall e → IsSmall f → line_on e rest ≡ line_on f rest' → (e ≡ f) × (rest ≡ rest')
unfolding line_on
line_read (entry.Open c) (entry.Open d) rest rest' se sf h =
    let parts = number c d _ _ se sf (first _ _ low_line) (first _ _ low_line) (append_cancel_left (codes "open ") _ _ h) in
    (ap (λ z. entry.Open z) parts.0, tail _ _ _ _ parts.1)
line_read (entry.Packet c a) (entry.Packet d b) rest rest' se sf h =
    let parts = number c d _ _ se.0 sf.0 (act_first a rest) (act_first b rest') (append_cancel_left (codes "packet ") _ _ h) in
    let acts = act_read a b rest rest' se.1 sf.1 parts.1 in
    (same_packet c d a b parts.0 acts.0, acts.1)
line_read (entry.Record m a) (entry.Record n b) rest rest' se sf h =
    let parts = number m n _ _ se sf (hit_first a rest) (hit_first b rest') (append_cancel_left (codes "record ") _ _ h) in
    let hits = hit_read a b rest rest' parts.1 in
    (same_record m n a b parts.0 hits.0, hits.1)
line_read entry.Unsettled entry.Unsettled rest rest' se sf h = (refl, tail _ _ _ _ (append_cancel_left (codes "unsettled") _ _ h))
line_read (entry.Close c w) (entry.Close d v) rest rest' se sf h =
    let parts = number c d _ _ se sf (why_first w rest) (why_first v rest') (append_cancel_left (codes "close ") _ _ h) in
    let whys = why_read w v rest rest' parts.1 in
    (same_close c d w v parts.0 whys.0, whys.1)
line_read entry.End entry.End rest rest' se sf h = (refl, tail _ _ _ _ (append_cancel_left (codes "end") _ _ h))
line_read e f rest rest' se sf h = absurd (apart 0 (line_on e rest) (line_on f rest') refl h)

no_line : (e : Entry) (rest : List ℕ) → line_on e rest ≡ [] → ⊥
unfolding line_on
no_line (entry.Open c) rest h = absurd (apart 0 _ _ refl h)
no_line (entry.Packet c what) rest h = absurd (apart 0 _ _ refl h)
no_line (entry.Record m hit) rest h = absurd (apart 0 _ _ refl h)
no_line entry.Unsettled rest h = absurd (apart 0 _ _ refl h)
no_line (entry.Close c cause) rest h = absurd (apart 0 _ _ refl h)
no_line entry.End rest h = absurd (apart 0 _ _ refl h)

log-cons : (e : Entry) (history : List Entry) → log_text (e ∷ history) ≡ line_on e (log_text history)
log-cons e history = flat_map-cons line e history ∙ line_text e (log_text history)

both : (e f : Entry) (one two : List Entry) → e ≡ f → one ≡ two → e ∷ one ≡ f ∷ two
both e f one two p q = cc

pub same_history : (one two : List Entry) → AllSmall one → AllSmall two → log_text one ≡ log_text two → one ≡ two
unfolding AllSmall
same_history [] [] so st h = refl
same_history [] (f ∷ two) so st h = absurd (no_line f (log_text two) (sym (log-cons f two) ∙ sym h))
same_history (e ∷ one) [] so st h = absurd (no_line e (log_text one) (sym (log-cons e one) ∙ h))
same_history (e ∷ one) (f ∷ two) so st h =
    let parts = line_read e f (log_text one) (log_text two) so.0 st.0 (sym (log-cons e one) ∙ h ∙ log-cons f two) in
    both e f one two parts.0 (same_history one two so.1 st.1 parts.1)
