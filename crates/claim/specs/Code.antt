-- Claim codes: a session number in decimal, then its check digit, as ASCII bytes; how they are made and read.
use Rattle.std.specs.Prelude.{ℕ, ◌+◌, ◌-◌, ◌*◌, ◌^◌, min, Bool, cond, not, ◌&&◌, List, [], ◌∷◌, ◌++◌, map, length, take, drop, Some, None, Ok, Err, decimal, Option, Result, ◌==◌, nat_le, nat_lt, slice_index}
use Rattle.std.specs.Str.{all_ascii_digits}
use Rattle.std.specs.Result.{result_map_both}
use Rattle.arrayvec.specs.ArrayString.{ArrayString}
use Rattle.claim.specs.declared.refusal.CodeRefusal.{CodeRefusal}
use Rattle.claim.specs.declared.refusal.CodeRefusal.TheVariants.{NoRoom, BadNumber, BadCheck}
use Rattle.claim.specs.Luhn.{check_digit}

-- the largest session number that has a code
abbrev pub largest : ℕ
largest = 2 ^ 60

-- the most digits of a session number
abbrev pub widest : ℕ
widest = 19

-- the most digits of a code, and so the room that making one asks for
abbrev pub longest : ℕ
longest = widest + 1

-- the digits that ASCII bytes stand for: 48 is the byte of 0
abbrev pub digits_in : List ℕ → List ℕ
digits_in bs = map (λ b. b - 48) bs

-- a number's code: its decimal digits, then its check digit
abbrev pub code_of : ℕ → List ℕ
code_of n = decimal n ++ ((48 + check_digit (digits_in (decimal n))) ∷ [])

-- whether a number has a code
abbrev pub coded : ℕ → Bool
coded n = nat_lt 0 n && nat_le n largest

-- the bytes of a text that is answered
abbrev pub bytes_in : Result ArrayString CodeRefusal → Result (List ℕ) CodeRefusal
bytes_in r = result_map_both (λ t. t.bytes) (λ why. why) r

-- the code of a number, where it has one
abbrev pub coding : ℕ → Result (List ℕ) CodeRefusal
coding n = cond (coded n) (Ok (code_of n)) (Err BadNumber)

-- making: the answer, with the refusals in the sequence in which they are tried
abbrev pub making : ℕ → List ℕ → Result ℕ CodeRefusal
making n out = cond (not (coded n)) (Err BadNumber) (cond (nat_lt (length out) longest) (Err NoRoom) (Ok (length (code_of n))))

-- making: the memory, which is the code and then its former bytes, or as it was
abbrev pub memory : ℕ → List ℕ → List ℕ
memory n out = cond (coded n && nat_le longest (length out)) (code_of n ++ drop (length (code_of n)) out) out

-- the number that digits write, after the digits of m
abbrev pub value_after : ℕ → List ℕ → ℕ
value_after m [] = m
value_after m (d ∷ ds) = value_after (10 * m + d) ds

-- the number that a text writes, or the limit where that is less; none if the text is empty or has a byte that is no digit
abbrev pub value_up_to : ℕ → List ℕ → Option ℕ
value_up_to limit bs = cond (nat_lt 0 (length bs) && all_ascii_digits bs) (Some (min limit (value_after 0 (digits_in bs)))) None

-- a code without its check digit
abbrev pub front : List ℕ → List ℕ
front code = take (length code - 1) code

-- the number that stands before the check digit
abbrev pub number_in : List ℕ → ℕ
number_in code = value_after 0 (digits_in (front code))

-- 2 to 20 digits, the first of them not 0, with a number in range before the last
abbrev pub well_formed : List ℕ → Bool
well_formed code = nat_le 2 (length code) && (nat_le (length code) longest && (all_ascii_digits code && (not (slice_index code 0 == 48) && nat_le (number_in code) largest)))

-- whether the last byte is the check digit of those before it
abbrev pub checked : List ℕ → Bool
checked code = slice_index code (length code - 1) == 48 + check_digit (digits_in (front code))

-- reading: the answer, with the refusals in the sequence in which they are tried
abbrev pub reading : List ℕ → Result ℕ CodeRefusal
reading code = cond (not (well_formed code)) (Err BadNumber) (cond (not (checked code)) (Err BadCheck) (Ok (number_in code)))
