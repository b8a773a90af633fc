use Rattle.std.proofs.Common.{◌≡◌, ◌<◌, ◌+◌, ◌-◌, ℕ, Bool, true, false, arith, ◌∙◌, sym, refl, inl, inr, if◌then◌else◌}
use Rattle.std.proofs.lemmas.Bool.{cases_Bool, false≢true}
use Rattle.circuit.specs.Rounds.{Run, run_length}
use Rattle.flat_run.specs.Run.{run_under}
use Rattle.flat_run.proofs.Steps.{reached}
use Rattle.flat_run.proofs.progress.Progress.reach.Goals.{then-loop-self-test+else-not-self, else-loop-self-test}
use Rattle.flat_run.proofs.progress.Progress.reach.Goals as goal

left : Bool → ℕ
left stuck = if stuck then 0 else 1

smaller : (want before now : ℕ) (was stuck : Bool) → before < want → was ≡ false → (stuck ≡ false → now ≡ before + 1) → (stuck ≡ true → now ≡ before) → (want - now) + left stuck < (want - before) + left was
unfolding left
smaller want before now true stuck lt free further same = absurd (false≢true (sym free))
smaller want before now false true lt free further same = (let e : now ≡ before = same refl in omega arith)
smaller want before now false false lt free further same = (let e : now ≡ before + 1 = further refl in omega arith)

pub loop-self-smaller : goal.loop-self-smaller
unfolding left
loop-self-smaller c = smaller c.args.want c.loop-self.self.settled c.go_on.new.self.settled c.loop-self.self.stuck c.go_on.new.self.stuck c.loop-self-test.true c.if-not-self.true c.go_on.ensures.further c.go_on.ensures.ended

pub returns-clause-settled : goal.returns-clause-settled
returns-clause-settled c =
    let run : Run = run_under c.args.circuit.now c.args.stimulus.now in
    elim c.loop-self-test.branch [
      | then-loop-self-test+else-not-self w ↦ (let e : run_length run ≡ c.loop-self.self.settled = c.loop-self.invariant.ends w.if-not-self.false in c.min.ensures ∙ omega (arith, w.loop-self-test))
      | else-loop-self-test w ↦ elim (cases_Bool c.loop-self.self.stuck) [
        | inl on ↦ (let e : run_length run ≡ c.loop-self.self.settled = c.loop-self.invariant.ends on in c.min.ensures ∙ omega (arith, w.loop-self-test))
        | inr off ↦ (let le = reached run c.loop-self.self.settled c.loop-self.self.rounds c.loop-self.invariant.within (c.loop-self.invariant.stands off) in c.min.ensures ∙ omega (arith, w.loop-self-test, le))
      ]
    ]
