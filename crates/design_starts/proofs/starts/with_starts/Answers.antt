use Rattle.std.proofs.Common.{◌≡◌, List, map, ◌∙◌, ap, subst}
use Rattle.std.specs.Prelude.{option_copied}
use Rattle.sim_base.specs.BitValue.{BitValue}
use Rattle.circuit.specs.declared.netlist.Circuit.{Circuit}
use Rattle.circuit.specs.declared.netlist.Net.{Net}
use Rattle.circuit.specs.declared.register.Reg.{Reg}
use Rattle.design_starts.specs.Marks.{marks}
use Rattle.design_starts.specs.Starts.{HaveDigits, with_values}
use Rattle.design_starts.specs.declared.marks.Mark.{Mark}
use Rattle.design_starts.proofs.Given.{registers_started}
use Rattle.design_starts.proofs.starts.with_starts.Goals as goal

pub returns : goal.returns
returns c =
    let circuit : Circuit = c.args.circuit in
    let inits = map option_copied c.args.inits.now in
    let values = c.in_ok-values.values in
    let ms : c.deref.result.now ≡ marks circuit.nets inits = c.deref.ensures.value ∙ c.in_ok-marks.ensures ∙ ap (λ (nets : List Net). marks nets inits) c.as_slice.ensures in
    let have = subst (λ (xs : List Mark). HaveDigits circuit xs values) ms c.in_ok-values.ensures in
    let regs = c.in_ok-regs.ensures ∙ ap (λ (vs : List BitValue). with_values circuit.regs vs) c.as_slice-2.ensures ∙ registers_started circuit (marks circuit.nets inits) values have in
    ap (λ (rs : List Reg). let made : Circuit = record circuit { regs = rs } in made) regs
