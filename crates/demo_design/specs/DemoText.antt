-- The texts of the demo: a chain of registers of 16 bits, and a clock that rises 16,384 times.
use Rattle.std.specs.Prelude.{ℕ, zero, suc, ◌-◌, ◌==◌, List, [], ◌++◌, codes, decimal, if◌then◌else◌}

-- a line that ends with a stage's number
abbrev pub numbered : List ℕ → ℕ → List ℕ
numbered words stage = words ++ decimal stage ++ codes "\n"

-- a stage's register, and the sum that it takes next
abbrev pub wires_of : ℕ → List ℕ
wires_of stage =
    numbered (codes "  wire width 16 \\q") stage
    ++ numbered (codes "  wire width 16 $sum") stage

-- what a stage adds to its register: 1 the first one, and each other the register of the stage before it
abbrev pub addend_of : ℕ → List ℕ
addend_of stage =
    if stage == 0
    then codes "    connect \\B 16'0000000000000001\n"
    else numbered (codes "    connect \\B \\q") (stage - 1)

abbrev pub adder_of : ℕ → List ℕ
adder_of stage =
    numbered (codes "  cell $add $adder") stage
    ++ codes "    parameter \\A_SIGNED 0\n    parameter \\A_WIDTH 16\n    parameter \\B_SIGNED 0\n    parameter \\B_WIDTH 16\n    parameter \\Y_WIDTH 16\n"
    ++ numbered (codes "    connect \\A \\q") stage
    ++ addend_of stage
    ++ numbered (codes "    connect \\Y $sum") stage
    ++ codes "  end\n"

-- takes the sum where the clock rises
abbrev pub register_of : ℕ → List ℕ
register_of stage =
    numbered (codes "  cell $dff $register") stage
    ++ codes "    parameter \\CLK_POLARITY 1'1\n    parameter \\WIDTH 16\n"
    ++ codes "    connect \\CLK \\clk\n"
    ++ numbered (codes "    connect \\D $sum") stage
    ++ numbered (codes "    connect \\Q \\q") stage
    ++ codes "  end\n"

abbrev pub cells_of : ℕ → List ℕ
cells_of stage = adder_of stage ++ register_of stage

-- what each of so many stages has, from stage 0 on
unfoldable pub each_stage : (ℕ → List ℕ) → ℕ → List ℕ
each_stage text zero = []
each_stage text (suc stage) = each_stage text stage ++ text stage

-- the module of so many stages
abbrev pub design_text : ℕ → List ℕ
design_text stages =
    codes "module \\demo\n  wire input 1 \\clk\n"
    ++ each_stage wires_of stages
    ++ each_stage cells_of stages
    ++ codes "end\n"

-- 16,384 periods of 10 nanoseconds, of which the clock is 0 in the first half and 1 in the second
abbrev pub stimulus_text : List ℕ
stimulus_text = codes "stimulus 0\ninputs clk\nblock 16384 0.00000001\n0.0 0\n0.000000005 1\nend\n"
