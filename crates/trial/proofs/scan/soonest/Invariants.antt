use Rattle.std.proofs.Common.{◌≡◌, take}
use Rattle.lineup.specs.Front.{front_entry}
use Rattle.trial.proofs.scan.soonest.Given as goal

-- the best so far is the front of the places looked at
abbrev pub invariant-loop-place : goal.invariant-loop-place
invariant-loop-place l = l.best ≡ front_entry (take l.place l.keys)
