use Rattle.std.proofs.Common.{◌≡◌, ◌∙◌, true, false, if◌then◌else◌, ap, sym}
use Rattle.circuit.specs.Next.{register_inputs, bit_by_bit}
use Rattle.circuit.specs.Signal.{sig_number}
use Rattle.circuit.specs.Valid.{ports_of_kind}
use Rattle.sim_base.specs.Values.{number_at}
use Rattle.signal_words.specs.Values.{digits_in}
use Rattle.signal_words.proofs.Told.{same_put}
use Rattle.state_cells.specs.Sources.{sourced_number, under_bits}
use Rattle.state_cells.proofs.Chosen.{input_or_own_number}
use Rattle.state_cells.proofs.register.next.Goals as goal

pub returns-then-has_bits : goal.returns-then-has_bits
returns-then-has_bits c =
    let reg = c.args.reg.now in
    let own = number_at c.args.into.now c.args.out in
    let bits : (ports_of_kind reg.kind).bits ≡ true = sym c.has_bits.ensures ∙ c.if-has_bits.true in
    let before = digits_in c.args.before.now.nets in
    let now = digits_in c.args.now.now.nets in
    let a = register_inputs before now reg in
    let number = sourced_number c.source_of-source.result a own in
    same_put _ _ _ _ _ _
    (ap (λ b. bit_by_bit reg.width a (if b then sig_number now reg.d else own)) c.is_input.ensures
    ∙ ap (bit_by_bit reg.width a) (input_or_own_number reg.kind c.source_of-source.result a own bits c.source_of-source.ensures.there)
    ∙ ap (λ b. under_bits b reg.width a number) (sym bits)
    ∙ c.source_of-source.ensures.number own)
    (c.put_under_bits.ensures before)

pub returns-else-has_bits : goal.returns-else-has_bits
returns-else-has_bits c =
    let reg = c.args.reg.now in
    let own = number_at c.args.into.now c.args.out in
    let bits : (ports_of_kind reg.kind).bits ≡ false = sym c.has_bits.ensures ∙ c.if-has_bits.false in
    let before = digits_in c.args.before.now.nets in
    let a = register_inputs before (digits_in c.args.now.now.nets) reg in
    let number = sourced_number c.source_of-source.result a own in
    same_put _ _ _ _ _ _
    (ap (λ b. under_bits b reg.width a number) (sym bits) ∙ c.source_of-source.ensures.number own)
    (c.put_whole.ensures before)
