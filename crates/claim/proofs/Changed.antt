-- A code with one digit changed is refused: the sum of its digits is then no multiple of ten any more.
use Rattle.std.proofs.Common.{◌≡◌, ℕ, zero, suc, ◌+◌, ◌-◌, ◌%◌, ◌<◌, ◌≤◌, Bool, true, false, cond, eqb, List, [], ◌∷◌, ◌++◌, length, get_or, take, set, is_err, Ok, Err, Result, sym, refl, ap, ◌∙◌, ⊎_elim, arith, length-set, length-take}
use lib.ListN.{length-map}
use Rattle.std.proofs.lemmas.List.{take-set-le, set-append_left, get_or-set_same, get_or-set_other, map-set, take_at, get_or-map, get_or-take}
use Rattle.std.proofs.lemmas.Bool.{cases_lt}
use Rattle.std.proofs.lemmas.Bool.Decides.{nat_tests}
use Rattle.claim.specs.declared.refusal.CodeRefusal.{CodeRefusal}
use Rattle.claim.specs.Luhn.{doubled, weight, total, check_digit}
use Rattle.claim.specs.Code.{digits_in, front, reading}
use Rattle.claim.specs.Laws.{Guarded}
use Rattle.claim.proofs.Numbers.{digit_byte}
use Rattle.claim.proofs.Reading.{Accepted, on_accepted, ends, last_of}

-- no two digits add the same at one place, and none adds more than nine
weight_same : (t : Bool) (a b : ℕ) → a < 10 → b < 10 → cond t (doubled a) a ≡ cond t (doubled b) b → a ≡ b
weight_same true a b small-a small_b e = grind (arith, nat_tests)
weight_same false a b small-a small_b e = e

weight_small : (t : Bool) (a : ℕ) → a < 10 → cond t (doubled a) a < 10
weight_small true a small = grind (arith, nat_tests)
weight_small false a small = small

-- a changed digit changes the sum by what it adds itself, since no other digit's place changes
total_set : (ds : List ℕ) (i e : ℕ) → i < length ds → total (set ds i e) + weight (length ds - 1 - i) (get_or ds i 0) ≡ total ds + weight (length ds - 1 - i) e
total_set [] i e lt = absurd (omega arith)
total_set (d ∷ ds) zero e lt =
    let right : length (d ∷ ds) - 1 - 0 ≡ length ds = omega arith in
    rw right (omega arith)
total_set (d ∷ ds) (suc i) e lt =
    let right : length (d ∷ ds) - 1 - suc i ≡ length ds - 1 - i = omega arith in
    let sums : total (set (d ∷ ds) (suc i) e) ≡ weight (length ds) d + total (set ds i e) = ap (λ l. weight l d + total (set ds i e)) (length-set ds i e) in
    rw right (omega (arith, sums, total_set ds i e (omega arith)))

-- so two numbers of digits that differ in one digit have different check digits
check_apart : (ds : List ℕ) (i e : ℕ) → i < length ds → get_or ds i 0 < 10 → e < 10 → check_digit (set ds i e) ≡ check_digit ds → e ≡ get_or ds i 0
check_apart ds i e lt small-old small-new same =
    let even = eqb ((length ds - 1 - i) % 2) 0 in
    let sums = total_set ds i e lt in
    let old = weight_small even (get_or ds i 0) small-old in
    let new = weight_small even e small-new in
    weight_same even e (get_or ds i 0) small-new small-old (omega (arith, sums, old, new))

module _ (code : List ℕ) (n : ℕ) (h : Accepted code n) (i d : ℕ) (lt : i < length code) (low : 48 ≤ d) (high : d ≤ 57) (other : d ≡ get_or code i 0 → ⊥) (m : ℕ) (k : Accepted (set code i d) m) where
  -- the check digit itself was changed: it is no longer that of the number before it
  last_changed : length code ≤ i + 1 → ⊥
  last_changed at-end =
      let here : length code - 1 ≡ i = omega arith in
      let size : length (set code i d) ≡ length code = length-set code i d in
      let fronts : front (set code i d) ≡ front code = ap (λ l. take (l - 1) (set code i d)) size ∙ take-set-le (length code - 1) code i d (omega arith) in
      let new : last_of (set code i d) ≡ d = ap (λ l. get_or (set code i d) (l - 1) 0) size ∙ ap (λ l. get_or (set code i d) l 0) here ∙ get_or-set_same code i d 0 lt in
      other (sym new ∙ k.right ∙ ap (λ l. 48 + check_digit (digits_in l)) fronts ∙ sym h.right ∙ ap (λ l. get_or code l 0) here)

  -- a digit before it was changed: the number's check digit is then another
  front_changed : i + 1 < length code → ⊥
  front_changed before =
      let fr = front code in
      let len : length fr ≡ length code - 1 = simp length-take (omega arith) in
      let size : length (set code i d) ≡ length code = length-set code i d in
      let whole : set code i d ≡ set fr i d ++ (last_of code ∷ []) = ap (λ l. set l i d) (ends code (omega arith)) ∙ set-append_left fr (last_of code ∷ []) i d (omega arith) in
      let fronts : front (set code i d) ≡ set fr i d =
      ap (λ l. take (l - 1) (set code i d)) size ∙ ap (λ l. take (length code - 1) l) whole ∙ take_at (set fr i d) _ (length code - 1) (length-set fr i d ∙ len) in
      let last : last_of (set code i d) ≡ last_of code = ap (λ l. get_or (set code i d) (l - 1) 0) size ∙ get_or-set_other code i (length code - 1) d 0 (λ e. omega arith) in
      let ds : digits_in (front (set code i d)) ≡ set (digits_in fr) i (d - 48) = ap digits_in fronts ∙ map-set (λ b. b - 48) fr i d in
      let old : get_or (digits_in fr) i 0 ≡ get_or code i 0 - 48 = get_or-map (λ b. b - 48) fr i 0 0 (omega arith) ∙ ap (λ b. b - 48) (get_or-take (length code - 1) code i 0 (omega arith)) in
      let byte = digit_byte code i 0 h.good.digits lt in
      let same : check_digit (set (digits_in fr) i (d - 48)) ≡ check_digit (digits_in fr) = omega (arith, ap check_digit ds, last, k.right, h.right) in
      let e = check_apart (digits_in fr) i (d - 48) (simp length-map (omega arith)) (omega arith) (omega arith) same in
      other (omega arith)

pub guarded : (code : List ℕ) (n : ℕ) → Accepted code n → Guarded code
guarded code n h i d lt low high other = by (reading (set code i d)) refl
  where
    by : (r : Result ℕ CodeRefusal) → reading (set code i d) ≡ r → is_err r ≡ true
    by (Err e) is = refl
    by (Ok m) is =
        let k = on_accepted (set code i d) m is in
        absurd (⊎_elim (front_changed code n h i d lt low high other m k) (last_changed code n h i d lt low high other m k) (cases_lt (i + 1) (length code)))
