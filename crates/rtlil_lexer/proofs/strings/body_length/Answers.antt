use Rattle.std.proofs.Common.{◌∙◌, refl, sym, ap, get_or}
use Rattle.rtlil_lexer.proofs.Escapes.{further, body_stops, body_closes, body_goes_on, body_keeps, body_end}
use Rattle.rtlil_lexer.proofs.strings.body_length.Goals.{else-byte-eq34-via-then-byte-eq34+else-not-escaped, else-byte-eq34-via-else-byte-eq34}
use Rattle.rtlil_lexer.proofs.strings.body_length.Goals as goal

pub returns-then-byte-eq10-clause-value : goal.returns-then-byte-eq10-clause-value
returns-then-byte-eq10-clause-value c =
    let bytes = c.args.rest.now in
    let at = c.loop-at.at in
    sym (ap (further at) (body_stops c.loop-at.escaped at (get_or bytes at 0) bytes c.loop-at-test.true refl c.if-byte-eq10.true)) ∙ c.loop-at.invariant

pub returns-then-not-escaped-clause-value : goal.returns-then-not-escaped-clause-value
returns-then-not-escaped-clause-value c =
    let bytes = c.args.rest.now in
    let at = c.loop-at.at in
    sym (body_closes c.loop-at.escaped at (get_or bytes at 0) bytes c.loop-at-test.true refl c.if-byte-eq34.true c.if-not-escaped.true) ∙ c.loop-at.invariant

pub loop-at-preserved : goal.loop-at-preserved
loop-at-preserved c =
    let bytes = c.args.rest.now in
    let at = c.loop-at.at in
    let b = get_or bytes at 0 in
    elim c.else-byte-eq34.branch [
      | else-byte-eq34-via-then-byte-eq34+else-not-escaped w ↦ body_keeps c.loop-at.escaped c.escapes_next-escaped.result at b bytes c.loop-at-test.true refl w.if-byte-eq34.true w.if-not-escaped.false c.escapes_next-escaped.ensures ∙ c.loop-at.invariant
      | else-byte-eq34-via-else-byte-eq34 w ↦ body_goes_on c.loop-at.escaped c.escapes_next-escaped.result at b bytes c.loop-at-test.true refl c.if-byte-eq10.false w.if-byte-eq34.false c.escapes_next-escaped.ensures ∙ c.loop-at.invariant
    ]

pub returns-clause-value : goal.returns-clause-value
returns-clause-value c =
    let bytes = c.args.rest.now in
    let at = c.loop-at.at in
    sym (ap (further at) (body_end c.loop-at.escaped at bytes c.loop-at-test.false)) ∙ c.loop-at.invariant
