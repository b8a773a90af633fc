use Rattle.std.proofs.Common.{◌≡◌, ◌<◌, ◌≤◌, ◌+◌, ◌-◌, ℕ, Bool, true, false, arith, sym, refl, if◌then◌else◌}
use Rattle.std.proofs.lemmas.Bool.{false≢true}
use Rattle.circuit.specs.Rounds.{Run, run_length}
use Rattle.stimulus_blocks.specs.Courses.{run_of}
use Rattle.run_followed.proofs.Steps.{reached}
use Rattle.run_followed.proofs.progress.Progress.follow.Goals as goal

left : Bool → ℕ
left stuck = if stuck then 0 else 1

smaller : (want before now : ℕ) (was stuck : Bool) → before < want → was ≡ false → (stuck ≡ false → now ≡ before + 1) → before ≤ now → (want - now) + left stuck < (want - before) + left was
unfolding left
smaller want before now true stuck lt free further least = absurd (false≢true (sym free))
smaller want before now false true lt free further least = omega (arith, least, lt)
smaller want before now false false lt free further least = (let e : now ≡ before + 1 = further refl in omega arith)

pub loop-self-smaller : goal.loop-self-smaller
unfolding left
loop-self-smaller c = smaller c.args.want c.loop-self.self.cursor.given c.go_on.new.self.cursor.given c.loop-self.self.cursor.stuck c.go_on.new.self.cursor.stuck c.loop-self-test.true c.if-not-self.true c.go_on.ensures.further c.go_on.ensures.never_back

pub returns-else-not-self-clause-least : goal.returns-else-not-self-clause-least
returns-else-not-self-clause-least c =
    let run : Run = run_of c.args.circuit.now c.args.stimulus.now in
    let given = c.loop-self.self.cursor.given in
    let e : run_length run ≡ given = c.length_of_run.ensures.only run given c.loop-self.invariant.cursor.within c.loop-self.invariant.cursor.settled (λ lt. (c.loop-self.invariant.cursor.ends c.if-not-self.false).1) in
    omega (arith, e)

pub returns-else-not-self-clause-most : goal.returns-else-not-self-clause-most
returns-else-not-self-clause-most c =
    reached (run_of c.args.circuit.now c.args.stimulus.now) c.loop-self.self.cursor.given c.loop-self.invariant.cursor.within c.loop-self.invariant.cursor.settled

pub returns-after-loop-self-clause-most : goal.returns-after-loop-self-clause-most
returns-after-loop-self-clause-most c =
    reached (run_of c.args.circuit.now c.args.stimulus.now) c.loop-self.self.cursor.given c.loop-self.invariant.cursor.within c.loop-self.invariant.cursor.settled
