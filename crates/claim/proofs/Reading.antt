-- When a text is read as a code, and as which; and that it is then the code of that number.
use Rattle.std.proofs.Common.{◌≡◌, ℕ, zero, suc, ◌+◌, ◌-◌, ◌<◌, ◌≤◌, min, Bool, true, false, not, eqb, leb, List, [], ◌∷◌, ◌++◌, length, get_or, take, Some, None, Ok, Err, decimal, Result, sym, refl, ap, ◌∙◌, arith, length-take, rules}
use Rattle.std.specs.Char.{is_ascii_digit}
use Rattle.std.specs.Str.{all_ascii_digits}
use Rattle.std.proofs.lemmas.List.{take_more, take_all, get_or-take}
use Rattle.std.proofs.lemmas.Bool.{and_parts, and_from, leb-true, le-leb, eqb-true, eqb-false, eq-eqb, ne_eqb, not-true, not_from_false}
use Rattle.std.proofs.lemmas.Bool.Decides.{nat_tests}
use Rattle.std.proofs.lemmas.Fmt.{decimal-digits_value, decimal_digit}
use Rattle.claim.specs.declared.refusal.CodeRefusal.{CodeRefusal}
use Rattle.claim.specs.declared.refusal.CodeRefusal.TheVariants.{BadNumber, BadCheck}
use Rattle.claim.specs.Luhn.{check_digit}
use Rattle.claim.specs.Code.{largest, longest, digits_in, value_up_to, front, number_in, well_formed, checked, reading}
use Rattle.claim.specs.Laws.{CodeOf}
use Rattle.claim.proofs.Numbers.{numerals, digit_byte, some_or_none, value_some, on_some}

-- what `well_formed` tests
pub record WellFormed (code : List ℕ) : Type 0 where
  pub two : 2 ≤ length code
  pub most : length code ≤ longest
  pub digits : all_ascii_digits code ≡ true
  pub first : get_or code 0 0 ≡ 48 → ⊥
  pub small : number_in code ≤ largest

abbrev pub last_of : List ℕ → ℕ
last_of code = get_or code (length code - 1) 0

abbrev pub Checked : List ℕ → Type 0
Checked code = last_of code ≡ 48 + check_digit (digits_in (front code))

pub tested : (code : List ℕ) → well_formed code ≡ true → WellFormed code
tested code h =
    let a = and_parts (leb 2 (length code)) _ h in
    let b = and_parts (leb (length code) longest) _ a.1 in
    let c = and_parts (all_ascii_digits code) _ b.1 in
    let d = and_parts (not (eqb (get_or code 0 0) 48)) _ c.1 in
    record {
      two = leb-true 2 (length code) a.0;
      most = leb-true (length code) longest b.0;
      digits = c.0;
      first = eqb-false (get_or code 0 0) 48 (not-true (eqb (get_or code 0 0) 48) d.0);
      small = leb-true (number_in code) largest d.1;
    }

pub passes : (code : List ℕ) → WellFormed code → well_formed code ≡ true
passes code h =
    and_from _ _ (le-leb 2 (length code) h.two)
    (and_from _ _ (le-leb (length code) longest h.most)
    (and_from _ _ h.digits
    (and_from _ _ (not_from_false _ (ne_eqb (get_or code 0 0) 48 h.first)) (le-leb (number_in code) largest h.small))))

pub fails : (code : List ℕ) → (WellFormed code → ⊥) → well_formed code ≡ false
fails code bad = by (well_formed code) refl
  where
    by : (t : Bool) → well_formed code ≡ t → well_formed code ≡ false
    by true e = absurd (bad (tested code e))
    by false e = e

pub accepted : (code : List ℕ) → WellFormed code → Checked code → reading code ≡ Ok (number_in code)
accepted code good right = rw (passes code good, eq-eqb (last_of code) (48 + check_digit (digits_in (front code))) right)

-- no answer is both a number and a refusal
pub never : (n : ℕ) (why : CodeRefusal) → ◌≡◌ {A = Result ℕ CodeRefusal} (Ok n) (Err why) → ⊥
never n why h = let z : ◌≡◌ {A = ℕ} 0 1 = cc in omega arith

-- what an accepted text is
pub record Accepted (code : List ℕ) (n : ℕ) : Type 0 where
  pub good : WellFormed code
  pub right : Checked code
  pub number : n ≡ number_in code

pub on_accepted : (code : List ℕ) (n : ℕ) → reading code ≡ Ok n → Accepted code n
on_accepted code n h = by (well_formed code) refl (checked code) refl
  where
    by : (t : Bool) → well_formed code ≡ t → (u : Bool) → checked code ≡ u → Accepted code n
    by true e true f =
        record {
          good = tested code e;
          right = eqb-true (last_of code) (48 + check_digit (digits_in (front code))) f;
          number = let k : ◌≡◌ {A = Result ℕ CodeRefusal} (Ok n) (Ok (number_in code)) = sym h ∙ rw (e, f) in cc;
        }
    by true e false f = absurd (never n BadCheck (sym h ∙ rw (e, f)))
    by false e u f = absurd (never n BadNumber (sym h ∙ rw e))

-- a text that is read as a number is digits
pub digits_of_code : (code : List ℕ) (n : ℕ) → reading code ≡ Ok n → all_ascii_digits code ≡ true
digits_of_code code n h = (on_accepted code n h).good.digits

-- a text is its front and its last byte
pub ends : (code : List ℕ) → 0 < length code → code ≡ front code ++ (last_of code ∷ [])
ends code some =
    let back : length code - 1 + 1 ≡ length code = omega arith in
    let whole : take (length code - 1 + 1) code ≡ code = rw back (take_all (length code) code (omega arith)) in
    sym whole ∙ take_more code (length code - 1) 0 (omega arith)

pub digits_append : (xs ys : List ℕ) → all_ascii_digits xs ≡ true → all_ascii_digits ys ≡ true → all_ascii_digits (xs ++ ys) ≡ true
digits_append [] ys h k = k
digits_append (x ∷ xs) ys h k = let q = digits_append xs ys in search (rules, q)

pub digits_take : (bs : List ℕ) (n : ℕ) → all_ascii_digits bs ≡ true → all_ascii_digits (take n bs) ≡ true
digits_take [] zero h = refl
digits_take [] (suc n) h = refl
digits_take (b ∷ bs) zero h = refl
digits_take (b ∷ bs) (suc n) h = let q = digits_take bs n in search (rules, q)

-- whatever is accepted is the code of the number that is answered
pub only_codes : (code : List ℕ) (n : ℕ) → Accepted code n → CodeOf n code
only_codes code n h =
    let good = h.good in
    let two = good.two in
    let len : length (front code) ≡ length code - 1 = simp length-take (omega arith) in
    let first : get_or (front code) 0 0 ≡ get_or code 0 0 = get_or-take (length code - 1) code 0 0 (omega arith) in
    let written : decimal (number_in code) ≡ front code =
    decimal-digits_value numerals (front code) (digits_take code _ good.digits) (omega arith) (λ e. absurd (good.first (sym first ∙ e))) (omega (arith, good.small)) in
    let nought : number_in code ≡ 0 → ⊥ =
    λ z. good.first (sym first ∙ ap (λ l. get_or l 0 0) (sym written ∙ ap decimal z ∙ decimal_digit 0 (omega arith))) in
    let spelled : front code ≡ decimal n = sym written ∙ ap decimal (sym h.number) in
    record {
      some = omega (arith, h.number, nought);
      small = omega (arith, h.number, good.small);
      same = ends code (omega arith) ∙ ap (λ c. front code ++ (c ∷ [])) h.right ∙ ap (λ l. l ++ ((48 + check_digit (digits_in l)) ∷ [])) spelled;
    }

-- the digits before the check digit of a text that is well formed have a value
pub front_valued : (limit : ℕ) (code : List ℕ) → WellFormed code → value_up_to limit (front code) ≡ Some (min limit (number_in code))
front_valued limit code good =
    let len : length (front code) ≡ length code - 1 = simp length-take (omega (arith, good.two)) in
    value_some limit (front code) (omega (arith, good.two)) (digits_take code (length code - 1) good.digits)

-- and a text is well formed where they have one that is in range, its length and its first byte too, and its last byte is a digit
pub formed : (limit n : ℕ) (code : List ℕ) → Some n ≡ value_up_to limit (front code) → length code ≤ longest → (get_or (front code) 0 0 ≡ 48 → ⊥) → n ≤ largest → largest < limit → is_ascii_digit (last_of code) ≡ true → WellFormed code
formed limit n code valued most first small below last =
    let v = on_some limit n (front code) valued in
    let len : length (front code) ≡ min (length code - 1) (length code) = length-take (length code - 1) code in
    let two : 2 ≤ length code = omega (arith, v.some) in
    record {
      two = two;
      most = most;
      digits = rw (ends code (omega arith)) (digits_append (front code) (last_of code ∷ []) v.digits (rw last));
      first = λ e. first (get_or-take (length code - 1) code 0 0 (omega arith) ∙ e);
      small = omega (arith, v.number);
    }

-- what stands against a text's being well formed
pub no_value : (limit : ℕ) (code : List ℕ) → None ≡ value_up_to limit (front code) → WellFormed code → ⊥
no_value limit code none good = some_or_none (min limit (number_in code)) (sym (none ∙ front_valued limit code good))

pub first_nought : (code : List ℕ) → get_or (front code) 0 0 ≡ 48 → WellFormed code → ⊥
first_nought code nought good = good.first (sym (get_or-take (length code - 1) code 0 0 (omega (arith, good.two))) ∙ nought)

pub too_large : (limit n : ℕ) (code : List ℕ) → Some n ≡ value_up_to limit (front code) → largest < n → WellFormed code → ⊥
too_large limit n code valued large good = omega (arith, (on_some limit n (front code) valued).number, good.small)

pub last_no_digit : (code : List ℕ) → is_ascii_digit (last_of code) ≡ false → WellFormed code → ⊥
last_no_digit code other good =
    let byte = digit_byte code (length code - 1) 0 good.digits (omega (arith, good.two)) in
    let z : ◌≡◌ {A = ℕ} 0 1 = grind (arith, nat_tests) in
    omega arith
