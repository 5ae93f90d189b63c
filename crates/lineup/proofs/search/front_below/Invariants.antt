use Rattle.std.proofs.Common.{◌≡◌, take}
use Rattle.lineup.specs.Front.{front_entry}
use Rattle.lineup.proofs.search.front_below.Given as goal

abbrev pub invariant-loop-place : goal.invariant-loop-place
invariant-loop-place g l = l.best ≡ front_entry (take l.place (g.R.Roll.keys l.roll))
