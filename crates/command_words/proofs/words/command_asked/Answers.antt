use Rattle.std.proofs.Common.{◌≡◌, ◌∙◌, map, string_bytes}
use Rattle.std.proofs.lemmas.Result.{IfOk-weaker}
use Rattle.clap.specs.Words.{found_of, rows_of}
use Rattle.command_words.specs.declared.fault.WordsFault.TheVariants as fault
use Rattle.command_words.proofs.Steps.{asked_where_fits, none_where_refused}
use Rattle.command_words.proofs.words.command_asked.Goals as goal

pub returns-in-Ok-clause-command : goal.returns-in-Ok-clause-command
returns-in-Ok-clause-command c =
    let same = asked_where_fits (map string_bytes c.args.words.now) (rows_of (found_of c.in-Ok.matches)) c.in-Ok.ensures.fits c.in-Ok.ensures.matches in
    IfOk-weaker c.command_in.result _ _ (λ r e. same ∙ e) c.command_in.ensures.command

pub returns-in-Ok-clause-usage : goal.returns-in-Ok-clause-usage
returns-in-Ok-clause-usage c =
    let same = asked_where_fits (map string_bytes c.args.words.now) (rows_of (found_of c.in-Ok.matches)) c.in-Ok.ensures.fits c.in-Ok.ensures.matches in
    λ usage. same ∙ c.command_in.ensures.usage usage

pub returns-in-Err-clause-usage : goal.returns-in-Err-clause-usage
returns-in-Err-clause-usage c = λ usage.
    let is_usage : c.fault_of.result ≡ fault.Usage = cc in
    none_where_refused (map string_bytes c.args.words.now) _ (c.fault_of.ensures is_usage) c.in-Err.ensures.fits
