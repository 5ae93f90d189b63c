-- What making a code writes, and that reading takes it back.
use Rattle.std.proofs.Common.{◌≡◌, ℕ, ◌+◌, ◌-◌, ◌<◌, ◌≤◌, Bool, true, false, List, [], ◌∷◌, length, get_or, Ok, decimal, sym, refl, ap, ◌∙◌, arith, length-append, rules}
use Rattle.std.specs.Prelude.{nat_le, nat_lt}
use Rattle.std.specs.Str.{all_ascii_digits}
use Rattle.std.proofs.lemmas.Bool.{and_parts, ltb-true, leb-true}
use Rattle.std.proofs.lemmas.List.{take_at, get_or_at, get_or_append_left}
use Rattle.std.proofs.lemmas.Str.Ascii.{encode_ascii}
use Rattle.std.proofs.lemmas.Fmt.{length-decimal-le, decimal_nonempty, first_decimal, digits_decimal, digits_value-decimal}
use Rattle.claim.specs.declared.refusal.CodeRefusal.TheVariants.{BadNumber}
use Rattle.claim.specs.Luhn.{check_digit}
use Rattle.claim.specs.Code.{widest, longest, largest, digits_in, code_of, coded, making, value_after, front, number_in, reading}
use Rattle.claim.proofs.Numbers.{numerals}
use Rattle.claim.proofs.Reading.{WellFormed, Checked, accepted, never, digits_append}

-- the byte of a number's check digit
abbrev check_byte : ℕ → ℕ
check_byte n = 48 + check_digit (digits_in (decimal n))

pub length_code : (n : ℕ) → length (code_of n) ≡ length (decimal n) + 1
length_code n = length-append (decimal n) (check_byte n ∷ [])

check_is_digit : (n : ℕ) → all_ascii_digits (check_byte n ∷ []) ≡ true
check_is_digit n = search rules

module _ (n : ℕ) (some : 0 < n) (small : n ≤ largest) where
  pub digits_short : length (decimal n) ≤ widest
  digits_short = length-decimal-le widest n (omega arith) (omega arith) (omega arith)

  pub digits_all : all_ascii_digits (decimal n) ≡ true
  digits_all = digits_decimal numerals n (omega arith)

  pub code_digits : all_ascii_digits (code_of n) ≡ true
  code_digits = digits_append (decimal n) _ digits_all (check_is_digit n)

  pub code_some : 0 < length (code_of n)
  code_some = omega (arith, length_code n)

  -- a number's code is read as that number
  pub code_reads : reading (code_of n) ≡ Ok n
  code_reads =
      let short = digits_short in
      let one = decimal_nonempty n (omega arith) in
      let len = length_code n in
      let first : 48 < get_or (code_of n) 0 0 = rw (get_or_append_left (decimal n) (check_byte n ∷ []) 0 0 one) (first_decimal n some (omega arith)) in
      let whole : front (code_of n) ≡ decimal n = take_at (decimal n) (check_byte n ∷ []) (length (code_of n) - 1) (omega arith) in
      let number : number_in (code_of n) ≡ n = ap (λ l. value_after 0 (digits_in l)) whole ∙ digits_value-decimal numerals n (omega arith) in
      let right : Checked (code_of n) =
      get_or_at (decimal n) (check_byte n) [] 0 (length (code_of n) - 1) (omega arith) ∙ ap (λ l. 48 + check_digit (digits_in l)) (sym whole) in
      let good : WellFormed (code_of n) =
      record {
        two = omega arith;
        most = omega arith;
        digits = code_digits;
        first = λ e. omega arith;
        small = omega arith;
      } in
      accepted (code_of n) good right ∙ ap (λ k. Ok k) number

  -- and it is no longer than the longest
  pub code_short : length (code_of n) ≤ longest
  code_short = omega (arith, length_code n, digits_short)

-- a number that has a code is in range
pub in_range : (n : ℕ) → coded n ≡ true → (0 < n) × (n ≤ largest)
in_range n h = let p = and_parts (nat_lt 0 n) (nat_le n largest) h in (ltb-true 0 n p.0, leb-true n largest p.1)

-- only a number that has a code is made
pub on_made : (n k : ℕ) (out : List ℕ) → Ok k ≡ making n out → coded n ≡ true
on_made n k out h = by (coded n) refl
  where
    by : (t : Bool) → coded n ≡ t → coded n ≡ true
    by true e = e
    by false e = absurd (never k BadNumber (h ∙ rw e))

-- what `code` needs of its number's digits
pub ruleset of_a_code = (in_range, digits_short, digits_all, code_short, code_reads, encode_ascii)
