-- The numbers that refusals have outside.
use Rattle.std.specs.Prelude.{ℕ}
use Rattle.claim.specs.declared.refusal.CodeRefusal.{CodeRefusal}
use Rattle.claim.specs.declared.refusal.CodeRefusal.TheVariants.{NoRoom, BadNumber, BadCheck}

-- the number of each refusal
abbrev pub number_of : CodeRefusal → ℕ
number_of NoRoom = 7
number_of BadNumber = 41
number_of BadCheck = 42
