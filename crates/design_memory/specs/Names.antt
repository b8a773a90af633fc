-- The parameters and ports of a memory.
use Rattle.std.specs.Prelude.{ℕ, ◌*◌, List, [], ◌∷◌, Option, bytes_eq, find, codes}
use Rattle.design_memory.specs.declared.names.Each.{Each}
use Rattle.design_memory.specs.declared.names.Each.TheVariants as each
use Rattle.design_memory.specs.declared.names.Parameter.{Parameter}
use Rattle.design_memory.specs.declared.names.Parameter.TheVariants as parameter
use Rattle.design_memory.specs.declared.names.Port.{Port}
use Rattle.design_memory.specs.declared.names.Port.TheVariants as port
use Rattle.design_memory.specs.declared.names.Side.{Side}
use Rattle.design_memory.specs.declared.names.Side.TheVariants as side
use Rattle.design_memory.specs.declared.settings.Shape.{Shape}

abbrev pub parameter_name : Parameter → List ℕ
parameter_name parameter.MemId = codes "\\MEMID"
parameter_name parameter.Size = codes "\\SIZE"
parameter_name parameter.Offset = codes "\\OFFSET"
parameter_name parameter.AddressWidth = codes "\\ABITS"
parameter_name parameter.Width = codes "\\WIDTH"
parameter_name parameter.Init = codes "\\INIT"
parameter_name parameter.ReadPorts = codes "\\RD_PORTS"
parameter_name parameter.ReadClockEnable = codes "\\RD_CLK_ENABLE"
parameter_name parameter.ReadClockPolarity = codes "\\RD_CLK_POLARITY"
parameter_name parameter.ReadTransparencyMask = codes "\\RD_TRANSPARENCY_MASK"
parameter_name parameter.ReadInitValue = codes "\\RD_INIT_VALUE"
parameter_name parameter.ReadWideContinuation = codes "\\RD_WIDE_CONTINUATION"
parameter_name parameter.WritePorts = codes "\\WR_PORTS"
parameter_name parameter.WriteClockEnable = codes "\\WR_CLK_ENABLE"
parameter_name parameter.WriteClockPolarity = codes "\\WR_CLK_POLARITY"
parameter_name parameter.WriteWideContinuation = codes "\\WR_WIDE_CONTINUATION"

-- those that a memory must be given
unfoldable pub needed : List Parameter
needed =
    parameter.MemId
    ∷ parameter.Size
    ∷ parameter.Offset
    ∷ parameter.AddressWidth
    ∷ parameter.Width
    ∷ parameter.Init
    ∷ parameter.ReadPorts
    ∷ parameter.ReadClockEnable
    ∷ parameter.ReadClockPolarity
    ∷ parameter.WritePorts
    ∷ parameter.WriteClockEnable
    ∷ parameter.WriteClockPolarity
    ∷ []

abbrev pub port_name : Port → List ℕ
port_name port.ReadClock = codes "\\RD_CLK"
port_name port.ReadEnable = codes "\\RD_EN"
port_name port.ReadArst = codes "\\RD_ARST"
port_name port.ReadSrst = codes "\\RD_SRST"
port_name port.ReadAddress = codes "\\RD_ADDR"
port_name port.ReadData = codes "\\RD_DATA"
port_name port.WriteClock = codes "\\WR_CLK"
port_name port.WriteEnable = codes "\\WR_EN"
port_name port.WriteAddress = codes "\\WR_ADDR"
port_name port.WriteData = codes "\\WR_DATA"

unfoldable pub ports : List Port
ports =
    port.ReadClock
    ∷ port.WriteClock
    ∷ port.ReadEnable
    ∷ port.ReadArst
    ∷ port.ReadSrst
    ∷ port.ReadAddress
    ∷ port.ReadData
    ∷ port.WriteEnable
    ∷ port.WriteAddress
    ∷ port.WriteData
    ∷ []

abbrev pub port_in : List Port → List ℕ → Option Port
port_in ps name = find (λ p. bytes_eq (port_name p) name) ps

abbrev pub port_named : List ℕ → Option Port
port_named name = port_in ports name

-- whether a port is that of the read ports or that of the write ports
abbrev pub side_of : Port → Side
side_of port.ReadClock = side.Reads
side_of port.ReadEnable = side.Reads
side_of port.ReadArst = side.Reads
side_of port.ReadSrst = side.Reads
side_of port.ReadAddress = side.Reads
side_of port.ReadData = side.Reads
side_of port.WriteClock = side.Writes
side_of port.WriteEnable = side.Writes
side_of port.WriteAddress = side.Writes
side_of port.WriteData = side.Writes

-- what it has for each of them
abbrev pub each_of : Port → Each
each_of port.ReadClock = each.Bit
each_of port.ReadEnable = each.Bit
each_of port.ReadArst = each.Bit
each_of port.ReadSrst = each.Bit
each_of port.ReadAddress = each.Address
each_of port.ReadData = each.Row
each_of port.WriteClock = each.Bit
each_of port.WriteEnable = each.Row
each_of port.WriteAddress = each.Address
each_of port.WriteData = each.Row

abbrev pub side_count : Shape → Side → ℕ
side_count s side.Reads = s.reads
side_count s side.Writes = s.writes

abbrev pub each_width : Shape → Each → ℕ
each_width s each.Bit = 1
each_width s each.Address = s.address_width
each_width s each.Row = s.width

abbrev pub port_width : Shape → Port → ℕ
port_width s p = side_count s (side_of p) * each_width s (each_of p)
