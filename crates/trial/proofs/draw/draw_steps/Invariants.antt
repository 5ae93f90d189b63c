use Rattle.std.proofs.Common.{◌≡◌, ◌-◌, ◌++◌, vec_items}
use Rattle.trial.specs.Draws.{steps_from}
use Rattle.trial.proofs.draw.draw_steps.Given as goal

-- the calls so far, and those that the state still gives
abbrev pub invariant-loop : goal.invariant-loop
invariant-loop l = vec_items l.steps ++ steps_from l.state (l.count - l.counter) ≡ steps_from l.seed l.count
