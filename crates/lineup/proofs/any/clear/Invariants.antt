use Rattle.std.proofs.Common.{◌≡◌, ℕ, ◌<◌, length, None}
use Rattle.lineup.specs.Rolls.{key_at}
use Rattle.lineup.proofs.any.clear.Given as goal

abbrev pub invariant-loop-place : goal.invariant-loop-place
invariant-loop-place g l =
    let ks = g.R.Roll.keys l.roll in
    (length ks ≡ length (g.R.Roll.keys l.initial.roll)) × ((k : ℕ) → k < l.place → key_at ks k ≡ None)
