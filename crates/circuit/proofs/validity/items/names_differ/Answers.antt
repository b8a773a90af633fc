use Rattle.std.proofs.Common.{arith, refl, get_or, true, false, bytes_eq}
use Rattle.circuit.specs.Valid.{names_differ}
use Rattle.circuit.proofs.Tested.{none_behind, fails_at, passes_at, passes_all, is_other, names_step, names_none}
use Rattle.circuit.proofs.validity.items.names_differ.Goals as goal

pub returns-then-has_name : goal.returns-then-has_name
returns-then-has_name c =
    fails_at names_differ is_other names_step c.args.scopes.now c.loop-i.i c.index-scopes-i.result (get_or c.args.scopes.now c.loop-i.i c.index-scopes-i.result) (omega arith) refl
    (none_behind (λ other. bytes_eq (get_or c.args.scopes.now c.loop-i.i c.index-scopes-i.result).name other.name) c.args.scopes.now c.loop-i.i c.has_name.result true c.has_name.ensures c.if-has_name.true)
    c.loop-i.invariant

pub loop-i-preserved : goal.loop-i-preserved
loop-i-preserved c =
    passes_at names_differ is_other names_step c.args.scopes.now c.loop-i.i c.index-scopes-i.result (get_or c.args.scopes.now c.loop-i.i c.index-scopes-i.result) (omega arith) refl
    (none_behind (λ other. bytes_eq (get_or c.args.scopes.now c.loop-i.i c.index-scopes-i.result).name other.name) c.args.scopes.now c.loop-i.i c.has_name.result false c.has_name.ensures c.if-has_name.false)
    c.loop-i.invariant

pub returns : goal.returns
returns c = passes_all names_differ is_other names_step names_none c.args.scopes.now c.loop-i.i (omega arith) c.loop-i.invariant
