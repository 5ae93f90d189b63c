use Rattle.std.proofs.Common.{◌≡◌, drop}
use Rattle.trial.specs.Steps.{keys_after_all}
use Rattle.trial.specs.Tallies.{no_calls, tallied}
use Rattle.trial.proofs.side_by_side.compare.Given as goal

-- the calls that are left, made of what stands now, give what all calls give from the start
abbrev pub invariant-loop-step : goal.invariant-loop-step
invariant-loop-step g l =
    let ks = g.L.Roll.keys l.line in
    let js = g.M.Roll.keys l.other in
    let left = drop l.step-index l.steps in
    (tallied l.tally ks js left ≡ tallied no_calls (g.L.Roll.keys l.initial.line) (g.M.Roll.keys l.initial.other) l.steps)
    × (keys_after_all ks left ≡ keys_after_all (g.L.Roll.keys l.initial.line) l.steps)
    × (keys_after_all js left ≡ keys_after_all (g.M.Roll.keys l.initial.other) l.steps)
