use Rattle.std.proofs.Common.{◌≡◌, ◌≤◌, ◌-◌, ◌∙◌, sym, ap, arith, length, take, drop, get_or, Err}
use Rattle.std.proofs.lemmas.List.{take_rest}
use Rattle.rtlil_lexer.specs.declared.fault.TextFaultKind.TheVariants as fault
use Rattle.rtlil_lexer.specs.Tokens.{behind, fault_at, tokens_from, with_front}
use Rattle.rtlil_lexer.specs.Cursors.{one_or_none}
use Rattle.rtlil_lexer.proofs.Steps.{read_fault, read_unsound, read_sound, piece_sized, line_behind, column_behind, left_length}
use Rattle.rtlil_lexer.proofs.lexer.Cursor.read_piece.Goals as goal

pub returns-in-Err-clause-left : goal.returns-in-Err-clause-left
returns-in-Err-clause-left c =
    let self = c.args.self in
    read_fault self.place self.sound self.rest.now c.in-Err.kind c.requires.some c.in-Err.ensures ∙ ap Err (sym c.fault_at.ensures)

pub returns-then-piece-self-clause-left : goal.returns-then-piece-self-clause-left
returns-then-piece-self-clause-left c =
    let self = c.args.self in
    read_unsound self.place self.sound self.rest.now c.in-Ok.piece c.requires.some c.in-Ok.ensures c.if-piece-self.true
    ∙ ap Err (ap (fault_at fault.BadByte) (sym c.onward.ensures) ∙ sym c.fault_at-then-piece-self.ensures)

pub returns-clause-left : goal.returns-clause-left
returns-clause-left c =
    let self = c.args.self in
    let piece = c.in-Ok.piece in
    let left = self.sound - piece.length in
    read_sound self.place self.sound self.rest.now piece c.requires.some c.in-Ok.ensures c.if-piece-self.false
    ∙ ap (λ front. with_front front (tokens_from 0 (behind self.place piece.token piece.length) left (drop piece.length self.rest.now))) (sym c.token_at.ensures)
    ∙ ap (λ place. with_front (one_or_none c.token_at.result) (tokens_from 0 place left (drop piece.length self.rest.now))) (sym c.behind.ensures)
    ∙ ap (λ rest. with_front (one_or_none c.token_at.result) (tokens_from 0 c.behind.result left rest)) (sym (take_rest self.rest.now piece.length))

pub returns-clause-room : goal.returns-clause-room
returns-clause-room c =
    let self = c.args.self in
    let piece = c.in-Ok.piece in
    let some : 1 ≤ piece.length = piece_sized (get_or self.rest.now 0 0) (drop 1 self.rest.now) piece c.in-Ok.ensures in
    let within : piece.length ≤ length self.rest.now = omega (arith, c.requires.room.sound, c.if-piece-self.false) in
    let left : length (take (length self.rest.now - piece.length) (drop piece.length self.rest.now)) ≡ length self.rest.now - piece.length = left_length self.rest.now piece.length within in
    let line = line_behind self.place c.behind.result piece.token piece.length (length self.rest.now) 4294967295 c.behind.ensures some within c.requires.room.line in
    let column = column_behind self.place c.behind.result piece.token piece.length (length self.rest.now) 4294967295 c.behind.ensures some within c.requires.room.column in
    record {
      sound = omega (arith, left, c.requires.room.sound, c.if-piece-self.false);
      line = omega (arith, left, line);
      column = omega (arith, left, column);
    }

pub returns-clause-shorter : goal.returns-clause-shorter
returns-clause-shorter c =
    let self = c.args.self in
    let piece = c.in-Ok.piece in
    let some : 1 ≤ piece.length = piece_sized (get_or self.rest.now 0 0) (drop 1 self.rest.now) piece c.in-Ok.ensures in
    let within : piece.length ≤ length self.rest.now = omega (arith, c.requires.room.sound, c.if-piece-self.false) in
    omega (arith, left_length self.rest.now piece.length within)
