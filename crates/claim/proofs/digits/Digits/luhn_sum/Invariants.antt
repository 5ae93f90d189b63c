use Rattle.std.proofs.Common.{◌≡◌, ◌+◌, ◌%◌, ◌<◌, drop}
use Rattle.claim.specs.Code.{digits_in}
use Rattle.claim.specs.Luhn.{total}
use Rattle.claim.proofs.digits.Digits.luhn_sum.Given as goal

-- what is summed and what is left to sum make the total, to the last digit
abbrev pub invariant-loop-i : goal.invariant-loop-i
invariant-loop-i l = (l.sum < 10) × ((l.sum + total (digits_in (drop l.i l.self.text.now))) % 10 ≡ total (digits_in l.self.text.now) % 10)
