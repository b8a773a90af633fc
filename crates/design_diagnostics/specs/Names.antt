-- The types of cells that drive nothing, and what a diagnostic reads of them.
use Rattle.std.specs.Prelude.{ℕ, List, [], ◌∷◌, Option, bytes_eq, find, codes}
use Rattle.design_diagnostics.specs.declared.names.Parameter.{Parameter}
use Rattle.design_diagnostics.specs.declared.names.Parameter.TheVariants as parameter
use Rattle.design_diagnostics.specs.declared.names.Port.{Port}
use Rattle.design_diagnostics.specs.declared.names.Port.TheVariants as port
use Rattle.design_diagnostics.specs.declared.names.SilentType.{SilentType}
use Rattle.design_diagnostics.specs.declared.names.SilentType.TheVariants as silent

abbrev pub type_name : SilentType → List ℕ
type_name silent.Assert = codes "$assert"
type_name silent.Assume = codes "$assume"
type_name silent.Check = codes "$check"
type_name silent.Cover = codes "$cover"
type_name silent.Fair = codes "$fair"
type_name silent.Live = codes "$live"
type_name silent.Print = codes "$print"
type_name silent.ScopeInfo = codes "$scopeinfo"

unfoldable pub types : List SilentType
types =
    silent.Assert
    ∷ silent.Assume
    ∷ silent.Check
    ∷ silent.Cover
    ∷ silent.Fair
    ∷ silent.Live
    ∷ silent.Print
    ∷ silent.ScopeInfo
    ∷ []

abbrev pub type_in : List SilentType → List ℕ → Option SilentType
type_in ts name = find (λ t. bytes_eq (type_name t) name) ts

abbrev pub type_named : List ℕ → Option SilentType
type_named name = type_in types name

abbrev pub parameter_name : Parameter → List ℕ
parameter_name parameter.Flavor = codes "\\FLAVOR"
parameter_name parameter.TriggerEnable = codes "\\TRG_ENABLE"
parameter_name parameter.TriggerWidth = codes "\\TRG_WIDTH"
parameter_name parameter.TriggerPolarity = codes "\\TRG_POLARITY"

abbrev pub port_name : Port → List ℕ
port_name port.Value = codes "\\A"
port_name port.Enable = codes "\\EN"
port_name port.Trigger = codes "\\TRG"
