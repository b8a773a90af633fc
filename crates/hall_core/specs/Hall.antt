-- What a contract sees of a history and of a Hall.
use Rattle.std.specs.Prelude.{ℕ, ◌-◌, List, min, vec_len, vec_capacity}
use Rattle.hall_core.specs.declared.entry.Entry.{Entry}
use Rattle.hall_core.specs.declared.history.History.{History}
use Rattle.hall_core.specs.declared.replaying.Replaying.{Replaying}
use Rattle.hall_core.specs.Replay.{Replayed}

abbrev pub entries : History → List Entry
entries history = history.list.items

pub record Seen : Type 0 where
  -- the number of samples of the runs that it is for
  pub count : ℕ
  pub history : List Entry
  -- so many steps take no memory
  pub spare : ℕ

-- what it says so far, of what is kept of it in memory
abbrev pub replayed : Replaying → Replayed
replayed s = record { n = s.n; goal = s.goal; unsettled = s.unsettled; clients = s.clients.items }

-- so many clients can be opened without memory
abbrev pub room : Replaying → ℕ
room s = vec_capacity s.clients - vec_len s.clients

-- so many entries can be added without memory
abbrev pub spare : History → Replaying → ℕ
spare history s = min (vec_capacity history.list - vec_len history.list) (room s)
