use Rattle.std.proofs.Common.{◌≡◌, ◌++◌, sym, ◌∙◌, ap, append-nil, Option, Some, None}
use Rattle.std.specs.Prelude.{option_copied}
use Rattle.rtlil_tree.specs.declared.sig.Const.{Const}
use Rattle.design_starts.specs.Marks.{marks_on}
use Rattle.design_starts.proofs.Marked.{mapped}
use Rattle.design_starts.proofs.marks.push_init.Goals as goal

pub returns-in-None : goal.returns-in-None
returns-in-None c = λ x init n i.
    let inits = c.args.inits.now in
    let net = c.args.net in
    let found = c.args.found.now.items in
    let some : Some (option_copied c.init_at.result) ≡ Some init = sym (mapped option_copied inits net c.init_at.result c.init_at.ensures) ∙ i in
    let same : option_copied c.init_at.result ≡ init = cc some in
    let none : init ≡ None = sym same ∙ ap option_copied c.in-None.is in
    sym (ap (λ (o : Option Const). found ++ marks_on net x.width o) none ∙ append-nil found)
