-- The packets of a stream that comes in pieces.
use Rattle.std.proofs.Common.{◌≡◌, ◌≢◌, ℕ, ◌≤◌, Bool, true, false, List, [], ◌∷◌, ◌++◌, length, map, refl, ap, subst, arith, ◌∙◌, cond, slice_get, Some, None}
use Rattle.std.specs.Prelude.{nat_lt, ◌==◌, if◌then◌else◌}
use Rattle.std.proofs.lemmas.List.{append_assoc}
use Rattle.std.proofs.lemmas.Bool.Decides.{nat_tests}
use Rattle.frame_zero.specs.Packets.{Packet, limit, packets, packets_from, parts_of, too_long, whole, with_byte, has_too_long, wholes, Begins}
use Rattle.frame_zero.proofs.PacketLaws.{HasNoZero, none, one, packets-whole, packets-append}

-- no byte of the first part is zero
abbrev FirstHasNoZero : List (List ℕ) → Type 0
FirstHasNoZero [] = Unit {0}
FirstHasNoZero (part ∷ parts) = HasNoZero part

not_zero : (b : ℕ) → (b == 0) ≡ false → b ≢ 0
not_zero b h is = grind (arith, nat_tests)

first-with_byte : (b : ℕ) (parts : List (List ℕ)) → b ≢ 0 → FirstHasNoZero parts → FirstHasNoZero (with_byte b parts)
first-with_byte b [] some h = one some none
first-with_byte b (part ∷ parts) some h = one some h

first-cond : (t : Bool) (b : ℕ) (parts : List (List ℕ)) → (b == 0) ≡ t → FirstHasNoZero parts → FirstHasNoZero (cond t ([] ∷ parts) (with_byte b parts))
first-cond true b parts is h = none
first-cond false b parts is h = first-with_byte b parts (not_zero b is) h

first_has_no_zero : (bytes : List ℕ) → FirstHasNoZero (parts_of bytes)
unfolding parts_of
first_has_no_zero [] = none
first_has_no_zero (b ∷ bytes) = first-cond (b == 0) b (parts_of bytes) refl (first_has_no_zero bytes)

-- what a packet is: no byte of it is zero, and it has no more bytes than a packet may have
abbrev IsPacket : List ℕ → Type 0
IsPacket packet = HasNoZero packet × (length packet ≤ limit)

same_packet : (part packet : List ℕ) (ps qs : List Packet) → whole part ∷ ps ≡ whole packet ∷ qs → part ≡ packet
same_packet part packet ps qs h = cc

no_whole : (packet : List ℕ) (ps qs : List Packet) → too_long ∷ ps ≡ whole packet ∷ qs → ⊥
no_whole packet ps qs h = cc

no_packet : (packet : List ℕ) (qs : List Packet) → [] ≡ whole packet ∷ qs → ⊥
no_packet packet qs h = cc

short : (n : ℕ) → nat_lt limit n ≡ false → n ≤ limit
short n h = grind (arith, nat_tests)

last_is_none : (t : Bool) (packet : List ℕ) (qs : List Packet) → cond t (too_long ∷ []) [] ≡ whole packet ∷ qs → ⊥
last_is_none true packet qs h = no_whole packet [] qs h
last_is_none false packet qs h = no_packet packet qs h

is_packet : (t : Bool) (part packet : List ℕ) (ps qs : List Packet) → nat_lt limit (length part) ≡ t → HasNoZero part → cond t (too_long ∷ []) (whole part ∷ ps) ≡ whole packet ∷ qs → IsPacket packet
is_packet true part packet ps qs is clean h = absurd (no_whole packet [] qs h)
is_packet false part packet ps qs is clean h = subst (λ z. IsPacket z) (same_packet part packet ps qs h) (clean, short (length part) is)

first_packet : (parts : List (List ℕ)) (packet : List ℕ) (qs : List Packet) → FirstHasNoZero parts → packets_from parts ≡ whole packet ∷ qs → IsPacket packet
unfolding packets_from
first_packet [] packet qs clean h = absurd (no_packet packet qs h)
first_packet (rest ∷ []) packet qs clean h = absurd (last_is_none (nat_lt limit (length rest)) packet qs h)
first_packet (part ∷ next ∷ parts) packet qs clean h = is_packet (nat_lt limit (length part)) part packet _ qs refl clean h

-- a packet that stands first in a stream stands first however the stream goes on
pub taken_more : (old packet new : List ℕ) → old ≡ packet ++ 0 ∷ new → packets old ≡ whole packet ∷ packets new → (more : List ℕ) → packets (old ++ more) ≡ whole packet ∷ packets (new ++ more)
taken_more old packet new same first more =
    let is = first_packet (parts_of old) packet (packets new) (first_has_no_zero old) first in
    ap (λ z. packets z) (ap (λ z. z ++ more) same ∙ append_assoc packet (0 ∷ new) more)
    ∙ packets-whole packet (new ++ more) is.0 is.1

-- packets that are whole before others
pub wholes_done : (done : List (List ℕ)) (ps : List Packet) → wholes (map whole done ++ ps) ≡ done ++ wholes ps
unfolding wholes
wholes_done [] ps = refl
wholes_done (packet ∷ done) ps = ap (λ z. packet ∷ z) (wholes_done done ps)

pub has_too_long_done : (done : List (List ℕ)) (ps : List Packet) → has_too_long (map whole done ++ ps) ≡ has_too_long ps
unfolding has_too_long
has_too_long_done [] ps = refl
has_too_long_done (packet ∷ done) ps = has_too_long_done done ps

-- ---- what is left of a stream

long_or : (part : List ℕ) (b : Bool) (others : List Packet) → slice_get (if b then too_long ∷ [] else whole part ∷ others) 0 ≡ Some too_long → (if b then too_long ∷ [] else whole part ∷ others) ≡ too_long ∷ []
long_or part true others is = refl
long_or part false others is = absurd (let e : whole part ≡ too_long = cc in cc)

last_long : (b : Bool) → slice_get (if b then too_long ∷ [] else []) 0 ≡ Some too_long → (if b then too_long ∷ [] else []) ≡ too_long ∷ []
last_long true is = refl
last_long false is = absurd cc

too_long_parts : (parts : List (List ℕ)) → slice_get (packets_from parts) 0 ≡ Some too_long → packets_from parts ≡ too_long ∷ []
unfolding packets_from
too_long_parts [] is = absurd cc
too_long_parts (rest ∷ []) is = last_long (nat_lt limit (length rest)) is
too_long_parts (part ∷ next ∷ parts) is = long_or part (nat_lt limit (length part)) (packets_from (next ∷ parts)) is

-- a part that is too long ends the packets
pub ends_too_long : (bytes : List ℕ) → slice_get (packets bytes) 0 ≡ Some too_long → packets bytes ≡ too_long ∷ []
ends_too_long bytes is = too_long_parts (parts_of bytes) is

none_there : (ps : List Packet) → slice_get ps 0 ≡ None → ps ≡ []
none_there [] is = refl
none_there (p ∷ ps) is = absurd cc

pub ends_open : (bytes : List ℕ) → slice_get (packets bytes) 0 ≡ None → packets bytes ≡ []
ends_open bytes is = none_there (packets bytes) is

first_of : (ps : List Packet) → Begins (too_long ∷ []) ps → slice_get ps 0 ≡ Some too_long
first_of ps begins = ap (λ z. slice_get z 0) begins.1

-- a part that is too long stays so, whatever comes behind it
pub stays_too_long : (rest more : List ℕ) → packets rest ≡ too_long ∷ [] → packets (rest ++ more) ≡ too_long ∷ []
stays_too_long rest more is = ends_too_long (rest ++ more) (first_of (packets (rest ++ more)) (subst (λ z. Begins z (packets (rest ++ more))) is (packets-append rest more)))
