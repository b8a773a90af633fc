use Rattle.std.proofs.Common.{◌∙◌, arith}
use Rattle.circuit.proofs.Slots.{joined_widths, few_widths}
use Rattle.circuit.proofs.netlist.Circuit.shape.Goals as goal

pub new-requires : goal.new-requires
new-requires c =
    omega (
      arith,
      few_widths c.args.self.now c.push_diags.new.widths.items c.requires
          (joined_widths c.args.self.now c.new-widths.result.items c.push_items.new.widths.items c.push_diags.new.widths.items c.as_slice.result.now c.as_slice-2.result.now
          c.new-widths.ensures.items c.as_slice.ensures c.as_slice-2.ensures c.in_ok-push_items.ensures c.in_ok-push_diags.ensures),
    )

pub returns : goal.returns
returns c =
    c.new.ensures ∙ joined_widths c.args.self.now c.new-widths.result.items c.push_items.new.widths.items c.push_diags.new.widths.items c.as_slice.result.now c.as_slice-2.result.now
    c.new-widths.ensures.items c.as_slice.ensures c.as_slice-2.ensures c.in_ok-push_items.ensures c.in_ok-push_diags.ensures
