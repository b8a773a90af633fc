use Rattle.std.proofs.Common.{◌≡◌, Ok, ap, sym, ◌∙◌}
use Rattle.std.specs.Option.{option_copied}
use Rattle.rtlil_lexer.specs.Tokens.{lexed}
use Rattle.design_load.proofs.load.circuit_of.Goals as goal

pub returns-clause-valid : goal.returns-clause-valid
returns-clause-valid c =
    let text = c.args.text.now in
    let tokens = c.as_slice.result.now in
    let file = c.in_ok-file.file in
    let read : lexed text ≡ Ok tokens = c.in_ok-tokens.ensures.tokens ∙ ap Ok (sym c.as_slice.ensures.value) in
    let names = c.law_of_names_read.ensures text tokens file read c.in_ok-file.ensures.tree in
    c.law_of_elaboration.ensures file.modules (option_copied c.args.top) c.in_ok-elaborate.field-0 c.in_ok-elaborate.ensures.exact names c.in_ok-elaborate.ensures.nodes
