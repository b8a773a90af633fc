-- What the crate's reader says of a packet.
use Rattle.std.proofs.Common.{◌≡◌, ℕ, List, Bool, true, false, Some, None, refl}
use Rattle.std.specs.Str.{IsUtf8, is_utf8}
use Rattle.std.proofs.lemmas.Str.{is_utf8-from_IsUtf8, IsUtf8-from_is_utf8}
use Rattle.serde_json.specs.Data.{Data}
use Rattle.serde_json.specs.Read.{read}
use Rattle.proto_packets.specs.Asked.{reading}

pub reading-some : (bytes : List ℕ) (d : Data) → IsUtf8 bytes → read bytes ≡ Some d → reading bytes ≡ Some d
reading-some bytes d valid known = rw (is_utf8-from_IsUtf8 bytes valid) known

none_by : (b : Bool) (bytes : List ℕ) → is_utf8 bytes ≡ b → (IsUtf8 bytes → read bytes ≡ None) → reading bytes ≡ None
none_by true bytes test h = rw test (h (IsUtf8-from_is_utf8 bytes test))
none_by false bytes test h = rw test refl

pub reading-none : (bytes : List ℕ) → (IsUtf8 bytes → read bytes ≡ None) → reading bytes ≡ None
reading-none bytes h = none_by (is_utf8 bytes) bytes refl h
