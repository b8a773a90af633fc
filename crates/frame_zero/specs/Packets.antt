-- The packets of a stream of bytes, each of which ends in a zero byte.
use Rattle.std.specs.Prelude.{Bool, true, false, ◌≡◌, ℕ, ◌==◌, nat_lt, List, [], ◌∷◌, ◌++◌, length, if◌then◌else◌, Option, Some, None}
use Rattle.frame_zero.specs.declared.Frame.{Frame}
use Rattle.frame_zero.specs.declared.Frame.TheVariants.{Whole, TooLong, NotYet}

-- the most bytes that a packet has, its zero byte not counted
abbrev pub limit : ℕ
limit = 1048576

-- what stands at one place of a stream: a packet without its zero byte, or a part that is too long to be one
pub data Packet : Type 0 where
  whole : List ℕ → Packet
  too_long : Packet

-- the parts, with a byte set before the first
abbrev pub with_byte : ℕ → List (List ℕ) → List (List ℕ)
with_byte b [] = (b ∷ []) ∷ []
with_byte b (part ∷ parts) = (b ∷ part) ∷ parts

-- the parts before, between and behind the zero bytes; the last one is not ended
unfoldable pub parts_of : List ℕ → List (List ℕ)
parts_of [] = [] ∷ []
parts_of (b ∷ bytes) = if b == 0 then [] ∷ parts_of bytes else with_byte b (parts_of bytes)

-- each part that is ended is a packet, up to the first part that is too long, ended or not
unfoldable pub packets_from : List (List ℕ) → List Packet
packets_from [] = []
packets_from (rest ∷ []) = if nat_lt limit (length rest) then too_long ∷ [] else []
packets_from (part ∷ next ∷ parts) = if nat_lt limit (length part) then too_long ∷ [] else whole part ∷ packets_from (next ∷ parts)

-- the packets of a whole stream
abbrev pub packets : List ℕ → List Packet
packets stream = packets_from (parts_of stream)

-- the first list begins the second
abbrev pub Begins : List Packet → List Packet → Type 0
Begins begun all = (more : List Packet) × (all ≡ begun ++ more)

-- what an answer says of the first place
abbrev pub packet_in : Frame → Option Packet
packet_in (Whole packet) = Some (whole packet.now)
packet_in TooLong = Some too_long
packet_in NotYet = None

-- the bytes that an answer leaves: a whole packet is taken with its zero byte, and nothing else is
abbrev pub Leaves : Frame → List ℕ → List ℕ → Type 0
Leaves (Whole packet) old new = (old ≡ packet.now ++ 0 ∷ new) × (packets old ≡ whole packet.now ∷ packets new)
Leaves TooLong old new = new ≡ old
Leaves NotYet old new = new ≡ old

-- the packets of a stream that are whole
unfoldable pub wholes : List Packet → List (List ℕ)
wholes [] = []
wholes (whole packet ∷ more) = packet ∷ wholes more
wholes (too_long ∷ more) = wholes more

-- some part of a stream is too long to be a packet
unfoldable pub has_too_long : List Packet → Bool
has_too_long [] = false
has_too_long (whole packet ∷ more) = has_too_long more
has_too_long (too_long ∷ more) = true
