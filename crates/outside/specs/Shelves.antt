-- The files of a shelf in memory, and how it answers.
use Rattle.std.specs.Prelude.{ℕ, List, [], Option, Some, None, Bool, ◌||◌, is_none, if◌then◌else◌}
use Rattle.std.specs.Ordering.{nat_cmp, is_eq}
use Rattle.std.specs.Cmp.Lexicographic.{slice_cmp}
use Rattle.std.specs.Map.{lookup}
use Rattle.outside.specs.Calls.{is_listed, one_more}
use Rattle.outside.specs.Shelf.{File, Holds, Missing, ShelfSeen}

-- the files by their names, the numbers of the calls that are to fail, the calls that were made and the faults
pub record Shelved : Type 0 where
  pub files : List (List ℕ × List ℕ)
  pub failing_reads : List ℕ
  pub failing_writes : List ℕ
  pub reads : ℕ
  pub writes : ℕ
  pub read_faults : ℕ
  pub write_faults : ℕ

-- no files, and no call that fails
abbrev pub empty_shelves : Shelved
empty_shelves = record { files = []; failing_reads = []; failing_writes = []; reads = 0; writes = 0; read_faults = 0; write_faults = 0 }

-- the bytes of the file of this name
abbrev pub bytes_in : List (List ℕ × List ℕ) → List ℕ → Option (List ℕ)
bytes_in files name = lookup (λ other. is_eq (slice_cmp nat_cmp name other)) files

abbrev pub known_file : Option (List ℕ) → File
known_file None = Missing
known_file (Some bytes) = Holds bytes

-- what a shelf in memory tells of the file of this name
abbrev pub file_in : List (List ℕ × List ℕ) → List ℕ → File
file_in files name = known_file (bytes_in files name)

-- what is seen of it
abbrev pub seen_of : Shelved → ShelfSeen
seen_of shelves = record { file = file_in shelves.files; read_faults = shelves.read_faults; write_faults = shelves.write_faults }

-- the next read fails: its number is listed, or there is no such file
abbrev pub fails_read : Shelved → List ℕ → Bool
fails_read shelves name = is_listed shelves.failing_reads (one_more shelves.reads) || is_none (bytes_in shelves.files name)

-- the next write fails: its number is listed
abbrev pub fails_write : Shelved → Bool
fails_write shelves = is_listed shelves.failing_writes (one_more shelves.writes)

-- the count of faults after a call
abbrev pub faults_after : Bool → ℕ → ℕ
faults_after fails faults = if fails then one_more faults else faults

abbrev pub after_read : Shelved → List ℕ → Shelved
after_read shelves name = record shelves { reads = one_more shelves.reads; read_faults = faults_after (fails_read shelves name) shelves.read_faults }

-- after a write that left these files
abbrev pub after_write : Shelved → List (List ℕ × List ℕ) → Shelved
after_write shelves files = record shelves { files = files; writes = one_more shelves.writes; write_faults = faults_after (fails_write shelves) shelves.write_faults }
