-- Diagnostics over the values of nets in two rounds.
use Rattle.std.specs.Prelude.{◌≡◌, ◌≤◌, ◌&&◌, List, length, Bool, Option, Some, None}
use Rattle.sim_base.specs.BitValue.{BitValue}
use Rattle.circuit.specs.Signal.{sig_width}
use Rattle.circuit.specs.Valid.{widest}
use Rattle.circuit.specs.Rounds.{Round}
use Rattle.circuit.specs.Shown.{fails, is_triggered}
use Rattle.circuit.specs.declared.diagnostic.Diag.{Diag}
use Rattle.circuit.specs.declared.diagnostic.Trigger.{Trigger}
use Rattle.circuit.specs.declared.store.Store.{Store}
use Rattle.sim_base.specs.Values.{numbers}
use Rattle.signal_words.specs.Values.{AreInside}

-- a diagnostic fires in one round: it is enabled and does not hold there, and it is triggered, if it has a trigger
abbrev pub fires_where : Option Trigger → Diag → Round → Bool
fires_where None d round = fails d round.now
fires_where (Some t) d round = is_triggered t round && fails d round.now

abbrev pub fires_in : Diag → Round → Bool
fires_in d round = fires_where d.trigger d round

-- the round whose nets have these values, after one with those
abbrev pub round_of : Store → Store → Round
round_of before now = record { before = numbers before.nets; now = numbers now.nets }

-- a trigger's signal lies inside the nets of both rounds, and each of its bits has its edge
pub record IsTriggerOf (before now : List BitValue) (t : Trigger) : Type 0 where
  pub on_before : AreInside before t.on
  pub on : AreInside now t.on
  pub width : sig_width t.on ≤ widest
  pub rising : length t.rising ≡ sig_width t.on

abbrev pub MayTrigger : List BitValue → List BitValue → Option Trigger → Type 0
MayTrigger before now None = Unit {0}
MayTrigger before now (Some t) = IsTriggerOf before now t

-- the signals of a diagnostic lie inside the nets, and those of one bit have it
pub record IsDiagnosticOf (before now : List BitValue) (d : Diag) : Type 0 where
  pub a : AreInside now d.a
  pub a_width : sig_width d.a ≡ 1
  pub en : AreInside now d.en
  pub en_width : sig_width d.en ≡ 1
  pub trigger : MayTrigger before now d.trigger
