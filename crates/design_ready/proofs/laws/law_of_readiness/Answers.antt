use Rattle.std.proofs.Common.{◌≡◌, ◌&&◌, true}
use Rattle.std.proofs.lemmas.Bool.{and_parts}
use Rattle.circuit.proofs.Grown.{all_mono}
use Rattle.rtlil_tree.specs.declared.module.Module.{Module}
use Rattle.rtlil_names.specs.Names.{is_named_module, is_spaceless_module, is_text_module, is_well_named}
use Rattle.design_ready.proofs.Ready.{design_ready}
use Rattle.design_ready.proofs.laws.law_of_readiness.Goals as goal

well_text : (m : Module) → is_well_named m ≡ true → is_text_module m ≡ true
well_text m h = (and_parts (is_text_module m) (is_spaceless_module m && is_named_module m) h).0

well_spaced : (m : Module) → is_well_named m ≡ true → is_spaceless_module m ≡ true
well_spaced m h = (and_parts (is_spaceless_module m) (is_named_module m) (and_parts (is_text_module m) (is_spaceless_module m && is_named_module m) h).1).0

well_named : (m : Module) → is_well_named m ≡ true → is_named_module m ≡ true
well_named m h = (and_parts (is_spaceless_module m) (is_named_module m) (and_parts (is_text_module m) (is_spaceless_module m && is_named_module m) h).1).1

pub returns : goal.returns
returns c ms top made goods good ran nodes =
    let spaced = all_mono is_well_named is_spaceless_module ms well_spaced goods in
    let apart = c.law_of_names.ensures ms top made spaced (well_spaced top good) ran in
    let differ = c.law_of_scopes.ensures ms top made spaced (all_mono is_well_named is_named_module ms well_named goods) (well_spaced top good) (well_named top good) ran in
    design_ready ms top made (all_mono is_well_named is_text_module ms well_text goods) (well_text top good) ran nodes apart differ
