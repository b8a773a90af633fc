-- The first word and the rest of them make the number.
use Rattle.std.proofs.Common.{◌*◌, ◌^◌, ◌%◌, ◌<◌, nat_lt, get_or, ap, ◌∙◌, arith}
use Rattle.spool_format.proofs.Below.{below_first, below_none, below_rest, power_kept}
use Rattle.spool_format.proofs.shaped.+is_below.Goals as goal

pub returns-else-width-lt32 : goal.returns-else-width-lt32
returns-else-width-lt32 t c =
    let first : get_or c.args.words.now 0 0 < 2 ^ 32 = (c.type_inv.words 0).fits in
    c.is_below.ensures ∙ below_rest c.args.words.now c.args.width (omega arith) first (omega arith)

pub returns-in_default : goal.returns-in_default
returns-in_default t c = below_none c.args.words.now c.args.width c.requires (omega arith)

pub returns-then-width-lt32 : goal.returns-then-width-lt32
returns-then-width-lt32 t c =
    ap (λ n. nat_lt n (1 * 2 ^ c.args.width % 18446744073709551616)) c.from.ensures ∙ ap (nat_lt (get_or c.args.words.now 0 0)) (power_kept c.args.width c.if-width-lt32.true)
    ∙ below_first c.args.words.now c.args.width c.requires c.in-len1-up.len_at_least c.if-width-lt32.true
