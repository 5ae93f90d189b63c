-- The check digit of ISO/IEC 7812-1 (the Luhn formula, modulus 10, double-add-double), on a number's decimal digits, first digit first.
use Rattle.std.specs.Prelude.{ℕ, ◌+◌, ◌-◌, ◌*◌, ◌%◌, cond, List, [], ◌∷◌, length, ◌==◌, nat_lt}

-- a digit doubled; nine is taken off a result above nine
abbrev pub doubled : ℕ → ℕ
doubled d = cond (nat_lt 9 (2 * d)) (2 * d - 9) (2 * d)

-- what a digit adds to the sum: from the right every second digit is doubled, the last one first,
-- so it is doubled where an even number of digits stands to its right
abbrev pub weight : ℕ → ℕ → ℕ
weight right d = cond (right % 2 == 0) (doubled d) d

-- the sum over a number's digits
abbrev pub total : List ℕ → ℕ
total [] = 0
total (d ∷ ds) = weight (length ds) d + total ds

-- the digit that brings the sum to a multiple of ten
abbrev pub check_digit : List ℕ → ℕ
check_digit ds = (10 - total ds % 10) % 10
