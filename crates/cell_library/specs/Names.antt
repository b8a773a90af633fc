-- The identifiers of parameters and ports, and which values a parameter may have.
use Rattle.std.specs.Prelude.{ℕ, List, codes}
use Rattle.cell_library.specs.declared.line.Parameter.{Parameter}
use Rattle.cell_library.specs.declared.line.Parameter.TheVariants as p
use Rattle.cell_library.specs.declared.line.PortName.{PortName}
use Rattle.cell_library.specs.declared.line.PortName.TheVariants as port
use Rattle.cell_library.specs.declared.line.Range.{Range}
use Rattle.cell_library.specs.declared.line.Range.TheVariants as range

abbrev pub parameter_name : Parameter → List ℕ
parameter_name p.ASigned = codes "\\A_SIGNED"
parameter_name p.BSigned = codes "\\B_SIGNED"
parameter_name p.AWidth = codes "\\A_WIDTH"
parameter_name p.BWidth = codes "\\B_WIDTH"
parameter_name p.YWidth = codes "\\Y_WIDTH"
parameter_name p.Width = codes "\\WIDTH"
parameter_name p.SWidth = codes "\\S_WIDTH"
parameter_name p.Offset = codes "\\OFFSET"
parameter_name p.ClkPolarity = codes "\\CLK_POLARITY"
parameter_name p.EnPolarity = codes "\\EN_POLARITY"
parameter_name p.ArstPolarity = codes "\\ARST_POLARITY"
parameter_name p.ArstValue = codes "\\ARST_VALUE"
parameter_name p.SrstPolarity = codes "\\SRST_POLARITY"
parameter_name p.SrstValue = codes "\\SRST_VALUE"
parameter_name p.AloadPolarity = codes "\\ALOAD_POLARITY"
parameter_name p.SetPolarity = codes "\\SET_POLARITY"
parameter_name p.ClrPolarity = codes "\\CLR_POLARITY"

-- a width or an offset is below 2^31; of a flag it counts only whether it is 0; a value may be any number
abbrev pub range_of : Parameter → Range
range_of p.ASigned = range.Flag
range_of p.BSigned = range.Flag
range_of p.AWidth = range.Size
range_of p.BWidth = range.Size
range_of p.YWidth = range.Size
range_of p.Width = range.Size
range_of p.SWidth = range.Size
range_of p.Offset = range.Size
range_of p.ClkPolarity = range.Flag
range_of p.EnPolarity = range.Flag
range_of p.ArstPolarity = range.Flag
range_of p.ArstValue = range.Any
range_of p.SrstPolarity = range.Flag
range_of p.SrstValue = range.Any
range_of p.AloadPolarity = range.Flag
range_of p.SetPolarity = range.Flag
range_of p.ClrPolarity = range.Flag

abbrev pub port_name : PortName → List ℕ
port_name port.A = codes "\\A"
port_name port.B = codes "\\B"
port_name port.S = codes "\\S"
port_name port.Y = codes "\\Y"
port_name port.Clk = codes "\\CLK"
port_name port.En = codes "\\EN"
port_name port.Arst = codes "\\ARST"
port_name port.Srst = codes "\\SRST"
port_name port.Aload = codes "\\ALOAD"
port_name port.Ad = codes "\\AD"
port_name port.Set = codes "\\SET"
port_name port.Clr = codes "\\CLR"
port_name port.D = codes "\\D"
port_name port.Q = codes "\\Q"
