-- The texts that the program prints about itself.
use Rattle.std.specs.Prelude.{ℕ, List, codes}

-- how the program is called
unfoldable pub help_text : List ℕ
help_text = codes "cxxsim simulates a digital design, written in RTLIL, under a stimulus.\n\nusage: cxxsim trace|solo|demo [NUMBER] [OPTIONS]\n\nModes\n  trace   Runs the design and prints the value of every item at every sample.\n            cxxsim trace --design counter.il --stimulus counter.stim\n  solo    Serves one debugger: its packets come from the standard input, and\n          replies and events go to the standard output. When the session has\n          ended, its log goes to the standard error.\n            cxxsim solo --design counter.il --stimulus counter.stim\n  demo    Makes a design of NUMBER stages, from 1 to 1000, runs it, and prints\n          a summary.\n            cxxsim demo 100\n\nOptions\n  --design F     The file of the design. trace and solo need it.\n  --stimulus F   The file of the stimulus. trace and solo need it.\n  --top NAME     The module to run, without the \\ before its name. Without it,\n                 the one whose attribute \\top is set, or the only one.\n  --help         Prints this text. It stands alone.\n  --version      Prints the version. It stands alone.\n\nFiles\n  A design is text in RTLIL, as Yosys writes it with write_rtlil after prep.\n  A stimulus is text: the names of the inputs, and blocks of times and values.\n  A trace is text: the items, a line for each sample, and how the run ended.\n  Packets are JSON, each with a zero byte behind it.\n\nStatuses\n  0  All was read, served and written.\n  2  The words do not fit; the standard error has the usage line.\n  3  A file or the standard input could not be read.\n  4  A file has a fault; the standard error says which and where.\n  5  An output could not be written.\n  6  A sample did not settle.\n  8  There was not enough memory.\n  9  The debugger sent more than 16777216 bytes.\n"

-- the program and its version
unfoldable pub version_text : List ℕ
version_text = codes "cxxsim 0.1.0\n"
