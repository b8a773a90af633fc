-- Facts of a result by its cases.
use Rattle.std.proofs.Common.{Result, Ok, Err}
use Rattle.std.specs.Prelude.{OnOk}

pub both_ok : {A B : Type 0} (r : Result A B) (p q s : Type 0) → (p → q → s) → OnOk r p → OnOk r q → OnOk r s
both_ok (Ok x) p q s f h k = f h k
both_ok (Err e) p q s f h k = tt
