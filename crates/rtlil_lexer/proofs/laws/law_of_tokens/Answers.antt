use Rattle.std.proofs.Common.{◌≡◌, ℕ, List, Option, Some, None, Ok, sym, subst, ◌∙◌, arith}
use Rattle.rtlil_lexer.specs.declared.token.Token.{Token}
use Rattle.rtlil_lexer.specs.declared.fault.TextFault.{TextFault}
use Rattle.rtlil_lexer.specs.Tokens.{start, sound_length}
use Rattle.rtlil_lexer.specs.Reading.{ReadsWhole}
use Rattle.rtlil_lexer.proofs.Readings.{outcome, reads_lexed, is_read}
use Rattle.rtlil_lexer.proofs.laws.law_of_tokens.Goals as goal

same_tokens : (xs ys : List Token) → outcome xs None ≡ Ok ys → xs ≡ ys
same_tokens xs ys e = grind arith

no_fault : (xs ys : List Token) (f : TextFault) → outcome xs (Some f) ≡ Ok ys → ⊥
no_fault xs ys f e = grind arith

to_tokens : (text : List ℕ) (tokens others : List Token) (end : Option TextFault) → ReadsWhole text others end → outcome others end ≡ Ok tokens → ReadsWhole text tokens None
to_tokens text tokens others None reads is = subst (λ ts. ReadsWhole text ts None) (same_tokens others tokens is) reads
to_tokens text tokens others (Some f) reads is = absurd (no_fault others tokens f is)

pub returns : goal.returns
returns c = λ text tokens. (
  (λ reads. reads_lexed start (sound_length text) text tokens None reads),
  (λ is. let r = is_read start (sound_length text) text in
      to_tokens text tokens r.tokens r.end r.reads (sym (reads_lexed start (sound_length text) text r.tokens r.end r.reads) ∙ is)),
)
