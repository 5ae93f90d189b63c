-- Texts of decimal digits, and the numbers that they write.
use Rattle.std.proofs.Common.{◌≡◌, ℕ, ◌+◌, ◌-◌, ◌*◌, ◌^◌, ◌<◌, ◌≤◌, min, Bool, true, false, ltb, List, [], ◌∷◌, length, get_or, Some, None, Option, refl, ap, ◌∙◌, ⊎_elim, arith, rules}
use Rattle.std.specs.Char.{is_ascii_digit}
use Rattle.std.specs.Int.{IsInRange}
use Rattle.std.specs.List.{fold}
use Rattle.std.specs.Str.{all_ascii_digits}
use Rattle.std.proofs.lemmas.Str.Parse.{IsNumeralModel, numerals_by_fold, tells_all_ascii_digits, digit_at}
use Rattle.std.proofs.lemmas.Bool.{cases_lt, lt-ltb, ltb-true}
use Rattle.std.proofs.lemmas.List.{get_or_default}
use Rattle.std.proofs.lemmas.List.Recursion.{and_is}
use Rattle.claim.specs.Code.{digits_in, value_after, value_up_to}

-- `all_ascii_digits` and `value_after` are what std calls the digits of a number and their value
pub numerals : IsNumeralModel (λ ds. all_ascii_digits ds ≡ true) (λ ds. value_after 0 (digits_in ds))
numerals = numerals_by_fold _ tells_all_ascii_digits (λ n ds. value_after n (digits_in ds)) (search rules)

-- what the answer of a search for another byte tells
pub told_by : (bs : List ℕ) (all : Bool) → (all ≡ true → (i : ℕ) → i < length bs → is_ascii_digit (get_or bs i 0) ≡ true) → (all ≡ false → (i : ℕ) × (i < length bs) × (is_ascii_digit (get_or bs i 0) ≡ false)) → all ≡ all_ascii_digits bs
told_by bs = and_is all_ascii_digits is_ascii_digit refl (λ _ _. refl) bs 0

-- each byte of a text of digits is a digit's
pub digit_byte : (bs : List ℕ) (i d : ℕ) → all_ascii_digits bs ≡ true → i < length bs → IsInRange 48 57 (get_or bs i d)
digit_byte bs i d digits lt = let same = get_or_default bs i d 0 lt in rw same (digit_at bs i (numerals.to bs digits) lt)

-- digits after m write at least m
pub value_after_ge : (m : ℕ) (ds : List ℕ) → m ≤ value_after m ds
value_after_ge m [] = omega arith
value_after_ge m (d ∷ ds) = omega (arith, value_after_ge (10 * m + d) ds)

-- a number cut to a limit before the last digits came is cut to the same limit after them
pub cut_before : (limit m : ℕ) (ds : List ℕ) → min limit (value_after (min m limit) ds) ≡ min limit (value_after m ds)
cut_before limit m ds =
    ⊎_elim
    (λ (h : m < limit). let same : min m limit ≡ m = omega arith in ap (λ k. min limit (value_after k ds)) same)
    (λ (h : limit ≤ m). omega (arith, value_after_ge (min m limit) ds, value_after_ge m ds))
    (cases_lt m limit)

-- reading digit by digit, cut to a limit at each, gives the number cut to the limit
reads_on : (max m : ℕ) (bs : List ℕ) → fold (λ n b. min (min (n * 10) max + (b - 48)) max) (min max m) bs ≡ min max (value_after m (digits_in bs))
reads_on max m [] = refl
reads_on max m (b ∷ bs) =
    let step : min (min (min max m * 10) max + (b - 48)) max ≡ min max (10 * m + (b - 48)) = omega arith in
    ap (λ n. fold (λ n b. min (min (n * 10) max + (b - 48)) max) n bs) step ∙ reads_on max (10 * m + (b - 48)) bs

pub value_by_fold : (bs : List ℕ) → fold (λ n b. min (min (n * 10) (2 ^ 64 - 1) + (b - 48)) (2 ^ 64 - 1)) 0 bs ≡ min (2 ^ 64 - 1) (value_after 0 (digits_in bs))
value_by_fold bs = reads_on (2 ^ 64 - 1) 0 bs

-- no number is none
pub some_or_none : (n : ℕ) → ◌≡◌ {A = Option ℕ} (Some n) None → ⊥
some_or_none n h = let z : ◌≡◌ {A = ℕ} 0 1 = cc in omega arith

-- what a text with a value is
pub record Valued (limit n : ℕ) (bs : List ℕ) : Type 0 where
  pub some : 0 < length bs
  pub digits : all_ascii_digits bs ≡ true
  pub number : n ≡ min limit (value_after 0 (digits_in bs))

pub value_some : (limit : ℕ) (bs : List ℕ) → 0 < length bs → all_ascii_digits bs ≡ true → value_up_to limit bs ≡ Some (min limit (value_after 0 (digits_in bs)))
value_some limit bs some digits = rw (lt-ltb 0 (length bs) some, digits)

pub on_some : (limit n : ℕ) (bs : List ℕ) → Some n ≡ value_up_to limit bs → Valued limit n bs
on_some limit n bs h = by (ltb 0 (length bs)) refl (all_ascii_digits bs) refl
  where
    by : (t : Bool) → ltb 0 (length bs) ≡ t → (u : Bool) → all_ascii_digits bs ≡ u → Valued limit n bs
    by true e true f =
        record {
          some = ltb-true 0 (length bs) e;
          digits = f;
          number = let k : ◌≡◌ {A = Option ℕ} (Some n) (Some (min limit (value_after 0 (digits_in bs)))) = h ∙ rw (e, f) in cc;
        }
    by true e false f = absurd (some_or_none n (h ∙ rw (e, f)))
    by false e u f = absurd (some_or_none n (h ∙ rw e))
