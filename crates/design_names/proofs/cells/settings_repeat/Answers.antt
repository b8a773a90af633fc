use Rattle.std.proofs.Common.{[], map, ap, ◌∙◌}
use Rattle.design_names.specs.Clashes.{setting_name}
use Rattle.design_names.specs.Names.{any_again, has, with_name}
use Rattle.design_names.proofs.Steps.{again_found, again_more, again_none}
use Rattle.design_names.proofs.cells.settings_repeat.Goals as goal

pub returns-then-branch : goal.returns-then-branch
returns-then-branch c =
    again_found setting_name c.loop-setting.names c.args.settings.now c.loop-setting.setting-index (any_again [] (map setting_name c.args.settings.now)) c.setting-item.result c.in_ok-is_again.field-0
    c.loop-setting-test.true c.setting-item.is (c.in_ok-is_again.ensures.value ∙ ap (has c.loop-setting.names) c.as_bytes.ensures) c.if-branch.true c.loop-setting.invariant

pub loop-setting-preserved : goal.loop-setting-preserved
loop-setting-preserved c =
    again_more setting_name c.loop-setting.names c.args.settings.now c.loop-setting.setting-index (any_again [] (map setting_name c.args.settings.now)) c.setting-item.result c.in_ok-is_again.field-0 c.is_again.new.names
    c.loop-setting-test.true c.setting-item.is (c.in_ok-is_again.ensures.value ∙ ap (has c.loop-setting.names) c.as_bytes.ensures) c.if-branch.false (c.in_ok-is_again.ensures.names ∙ ap (with_name c.loop-setting.names) c.as_bytes.ensures) c.loop-setting.invariant

pub returns : goal.returns
returns c = again_none setting_name c.loop-setting.names c.args.settings.now c.loop-setting.setting-index (any_again [] (map setting_name c.args.settings.now)) c.loop-setting-test.false c.loop-setting.invariant
