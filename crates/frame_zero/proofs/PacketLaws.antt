-- Laws of the packets of a stream.
use Rattle.std.proofs.Common.{◌≡◌, ◌≢◌, ℕ, ◌<◌, ◌≤◌, eqb, ltb, cond, List, [], ◌∷◌, ◌++◌, length, Bool, true, false, refl, sym, ap, arith, length-append}
use Rattle.std.proofs.lemmas.Bool.Decides.{nat_tests}
use Rattle.frame_zero.specs.Packets.{limit, Packet, whole, too_long, with_byte, parts_of, packets_from, packets, Begins}

-- no byte of the list is zero
pub data HasNoZero : List ℕ → Type 0 where
  none : HasNoZero []
  one : {b : ℕ} {bytes : List ℕ} → b ≢ 0 → HasNoZero bytes → HasNoZero (b ∷ bytes)

eqb-zero : (b : ℕ) → b ≢ 0 → eqb b 0 ≡ false
eqb-zero b h = grind (arith, nat_tests)

below-limit : (n : ℕ) → n ≤ limit → ltb limit n ≡ false
below-limit n h = grind (arith, nat_tests)

above-limit : (n : ℕ) → limit < n → ltb limit n ≡ true
above-limit n h = grind (arith, nat_tests)

-- a list of parts followed by another: the last part of the one goes on in the first of the other
join : List (List ℕ) → List (List ℕ) → List (List ℕ)
join [] qs = qs
join (p ∷ []) [] = p ∷ []
join (p ∷ []) (q ∷ qs) = (p ++ q) ∷ qs
join (p ∷ next ∷ ps) qs = p ∷ join (next ∷ ps) qs

data IsCons : List (List ℕ) → Type 0 where
  cons : (p : List ℕ) (ps : List (List ℕ)) → IsCons (p ∷ ps)

with_byte-cons : (b : ℕ) (ps : List (List ℕ)) → IsCons (with_byte b ps)
with_byte-cons b [] = cons _ _
with_byte-cons b (p ∷ ps) = cons _ _

cond-cons : (t : Bool) (ps qs : List (List ℕ)) → IsCons ps → IsCons qs → IsCons (cond t ps qs)
cond-cons true ps qs p q = p
cond-cons false ps qs p q = q

parts_of-cons : (bytes : List ℕ) → IsCons (parts_of bytes)
unfolding parts_of
parts_of-cons [] = cons _ _
parts_of-cons (b ∷ bytes) = cond-cons (eqb b 0) _ _ (cons _ _) (with_byte-cons b (parts_of bytes))

join-nil : (qs : List (List ℕ)) → IsCons qs → join ([] ∷ []) qs ≡ qs
unfolding join
join-nil _ (cons q qs) = refl

join-ended : (ps qs : List (List ℕ)) → IsCons ps → join ([] ∷ ps) qs ≡ [] ∷ join ps qs
unfolding join
join-ended _ qs (cons p ps) = refl

join-with_byte : (b : ℕ) (ps qs : List (List ℕ)) → IsCons ps → join (with_byte b ps) qs ≡ with_byte b (join ps qs)
unfolding join
join-with_byte b _ qs (cons p []) = elim qs as (λ z. join ((b ∷ p) ∷ []) z ≡ with_byte b (join (p ∷ []) z)) [ [] ↦ refl | q ∷ more ↦ refl ]
join-with_byte b _ qs (cons p (next ∷ ps)) = refl

join-cond : (t : Bool) (ps ps' qs : List (List ℕ)) → join (cond t ps ps') qs ≡ cond t (join ps qs) (join ps' qs)
join-cond true ps ps' qs = refl
join-cond false ps ps' qs = refl

parts_of-append : (s t : List ℕ) → parts_of (s ++ t) ≡ join (parts_of s) (parts_of t)
unfolding parts_of
parts_of-append [] t = sym (join-nil (parts_of t) (parts_of-cons t))
parts_of-append (b ∷ s) t =
    let more = parts_of-append s t in
    let ended = join-ended (parts_of s) (parts_of t) (parts_of-cons s) in
    let going = join-with_byte b (parts_of s) (parts_of t) (parts_of-cons s) in
    rw (join-cond (eqb b 0) ([] ∷ parts_of s) (with_byte b (parts_of s)) (parts_of t), ended, going, more) refl

-- a list of packets that begins with a packet stays so
Begins-cons : (p : Packet) (xs ys : List Packet) → Begins xs ys → Begins (p ∷ xs) (p ∷ ys)
Begins-cons p xs ys h = (h.0, ap (λ z. p ∷ z) h.1)

Begins-nil : (ys : List Packet) → Begins [] ys
Begins-nil ys = (ys, refl)

Begins-same : (xs : List Packet) → Begins xs xs
Begins-same [] = ([], refl)
Begins-same (x ∷ xs) = Begins-cons x xs xs (Begins-same xs)

-- a part that is too long ends the list, whatever stands behind it
packets_from-too_long : (p : List ℕ) (ps : List (List ℕ)) → ltb limit (length p) ≡ true → packets_from (p ∷ ps) ≡ too_long ∷ []
unfolding packets_from
packets_from-too_long p [] h = rw h refl
packets_from-too_long p (next ∷ ps) h = rw h refl

packets_from-last : (p : List ℕ) → ltb limit (length p) ≡ false → packets_from (p ∷ []) ≡ []
unfolding packets_from
packets_from-last p h = rw h refl

packets_from-whole : (p : List ℕ) (ps : List (List ℕ)) → IsCons ps → ltb limit (length p) ≡ false → packets_from (p ∷ ps) ≡ whole p ∷ packets_from ps
unfolding packets_from
packets_from-whole p _ (cons next ps) h = rw h refl

ltb-longer : (p q : List ℕ) → ltb limit (length p) ≡ true → ltb limit (length (p ++ q)) ≡ true
ltb-longer p q h = grind (arith, nat_tests, length-append p q)

-- the last part goes on
begins-last : (t : Bool) (p : List ℕ) → ltb limit (length p) ≡ t → (q : List ℕ) (qs : List (List ℕ)) → Begins (packets_from (p ∷ [])) (packets_from ((p ++ q) ∷ qs))
begins-last true p h q qs = rw (packets_from-too_long p [] h, packets_from-too_long (p ++ q) qs (ltb-longer p q h)) (Begins-same (too_long ∷ []))
begins-last false p h q qs = rw (packets_from-last p h) (Begins-nil _)

join-cons : (ps qs : List (List ℕ)) → IsCons ps → IsCons (join ps qs)
unfolding join
join-cons _ [] (cons p []) = cons _ _
join-cons _ (q ∷ qs) (cons p []) = cons _ _
join-cons _ qs (cons p (next ∷ ps)) = cons _ _

begins-ended : (t : Bool) (p : List ℕ) → ltb limit (length p) ≡ t → (ps qs : List (List ℕ)) → IsCons ps → IsCons qs → Begins (packets_from ps) (packets_from qs) → Begins (packets_from (p ∷ ps)) (packets_from (p ∷ qs))
begins-ended true p h ps qs hp hq more = rw (packets_from-too_long p ps h, packets_from-too_long p qs h) (Begins-same (too_long ∷ []))
begins-ended false p h ps qs hp hq more = rw (packets_from-whole p ps hp h, packets_from-whole p qs hq h) (Begins-cons (whole p) _ _ more)

packets_from-join : (ps qs : List (List ℕ)) → Begins (packets_from ps) (packets_from (join ps qs))
unfolding join
packets_from-join [] qs = unfold packets_from in Begins-nil _
packets_from-join (p ∷ []) [] = Begins-same _
packets_from-join (p ∷ []) (q ∷ qs) = begins-last (ltb limit (length p)) p refl q qs
packets_from-join (p ∷ next ∷ ps) qs = begins-ended (ltb limit (length p)) p refl (next ∷ ps) (join (next ∷ ps) qs) (cons _ _) (join-cons (next ∷ ps) qs (cons _ _)) (packets_from-join (next ∷ ps) qs)

-- the packets of the beginning of a stream begin the packets of the stream
pub packets-append : (stream more : List ℕ) → Begins (packets stream) (packets (stream ++ more))
packets-append stream more = rw (parts_of-append stream more) (packets_from-join (parts_of stream) (parts_of more))

-- what has no zero byte is one part
parts_of-open : {a : List ℕ} → HasNoZero a → parts_of a ≡ a ∷ []
unfolding parts_of
parts_of-open none = refl
parts_of-open (one {b} {bytes} h more) = rw (eqb-zero b h, parts_of-open more) refl

parts_of-ended : {a : List ℕ} → HasNoZero a → (rest : List ℕ) → parts_of (a ++ 0 ∷ rest) ≡ a ∷ parts_of rest
unfolding parts_of
parts_of-ended none rest = refl
parts_of-ended (one {b} {bytes} h more) rest = rw (eqb-zero b h, parts_of-ended more rest) refl

-- a packet, and what stands behind its zero byte
pub packets-whole : (a rest : List ℕ) → HasNoZero a → length a ≤ limit → packets (a ++ 0 ∷ rest) ≡ whole a ∷ packets rest
packets-whole a rest h short = rw (parts_of-ended h rest) (packets_from-whole a (parts_of rest) (parts_of-cons rest) (below-limit _ short))

-- less than a packet
pub packets-open : (a : List ℕ) → HasNoZero a → length a ≤ limit → packets a ≡ []
packets-open a h short = rw (parts_of-open h) (packets_from-last a (below-limit _ short))

too_long-join : (a : List ℕ) (qs : List (List ℕ)) → IsCons qs → limit < length a → packets_from (join (a ∷ []) qs) ≡ too_long ∷ []
unfolding join
too_long-join a _ (cons q qs) long = packets_from-too_long (a ++ q) qs (ltb-longer a q (above-limit _ long))

-- a part that is too long, ended or not
pub packets-too_long : (a rest : List ℕ) → HasNoZero a → limit < length a → packets (a ++ rest) ≡ too_long ∷ []
packets-too_long a rest h long = rw (parts_of-append a rest, parts_of-open h) (too_long-join a (parts_of rest) (parts_of-cons rest) long)
