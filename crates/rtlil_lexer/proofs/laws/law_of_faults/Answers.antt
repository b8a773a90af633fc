use Rattle.std.proofs.Common.{◌≡◌, ℕ, List, Option, Some, None, Err, sym, subst, ◌∙◌, arith}
use Rattle.rtlil_lexer.specs.declared.token.Token.{Token}
use Rattle.rtlil_lexer.specs.declared.fault.TextFault.{TextFault}
use Rattle.rtlil_lexer.specs.Tokens.{start, sound_length}
use Rattle.rtlil_lexer.specs.Reading.{ReadsWhole}
use Rattle.rtlil_lexer.proofs.Readings.{outcome, reads_lexed, is_read}
use Rattle.rtlil_lexer.proofs.laws.law_of_faults.Goals as goal

same_fault : (xs : List Token) (f g : TextFault) → outcome xs (Some f) ≡ Err g → f ≡ g
same_fault xs f g e = grind arith

no_tokens : (xs : List Token) (g : TextFault) → outcome xs None ≡ Err g → ⊥
no_tokens xs g e = grind arith

to_fault : (text : List ℕ) (f : TextFault) (tokens : List Token) (end : Option TextFault) → ReadsWhole text tokens end → outcome tokens end ≡ Err f → ReadsWhole text tokens (Some f)
to_fault text f tokens None reads is = absurd (no_tokens tokens f is)
to_fault text f tokens (Some g) reads is = subst (λ h. ReadsWhole text tokens (Some h)) (same_fault tokens g f is) reads

pub returns : goal.returns
returns c = λ text f. (
  (λ r. reads_lexed start (sound_length text) text r.0 (Some f) r.1),
  (λ is. let r = is_read start (sound_length text) text in
      (r.tokens, to_fault text f r.tokens r.end r.reads (sym (reads_lexed start (sound_length text) text r.tokens r.end r.reads) ∙ is))),
)
