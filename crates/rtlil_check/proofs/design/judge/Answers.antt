use Rattle.std.proofs.Common.{ℕ, List, Option, subst}
use Rattle.std.specs.Option.{option_copied}
use Rattle.outside.specs.Shelf.{File, IsOf}
use Rattle.rtlil_check.specs.Said.{IsSaidOf, IsSaidOfText}
use Rattle.rtlil_check.specs.declared.design.Said.{Said}
use Rattle.rtlil_check.specs.declared.design.Said.TheVariants as said
use Rattle.rtlil_check.proofs.design.judge.Goals as goal

said_of_file : (file : File) (bytes : List ℕ) (name : Option (List ℕ)) (s : Said) → IsOf file bytes → IsSaidOfText bytes name s → IsSaidOf file name s
said_of_file file bytes name (said.Taken text) has is = (bytes, has, is)
said_of_file file bytes name (said.Refused line) has is = (bytes, has, is)
said_of_file file bytes name said.TooLong has is = absurd is

pub returns-in-Ok-said_of-clause-said : goal.returns-in-Ok-said_of-clause-said
returns-in-Ok-said_of-clause-said g c =
    said_of_file _ c.in-Ok.text.items (option_copied c.args.top) c.in-Ok-said_of.said c.in-Ok.ensures.bytes
    (subst (λ bytes. IsSaidOfText bytes (option_copied c.args.top) c.in-Ok-said_of.said) c.as_slice.ensures.value c.in-Ok-said_of.ensures)
