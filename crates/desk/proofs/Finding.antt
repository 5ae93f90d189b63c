-- A word of digits at the desk: it is a line's one word, and a session's number and code find each other.
use Rattle.std.proofs.Common.{◌≡◌, ℕ, ◌-◌, ◌^◌, ◌<◌, ◌≤◌, min, true, false, eqb, List, [], ◌∷◌, length, Some, Ok, decimal, refl, ap, ◌∙◌, arith}
use Rattle.std.specs.Char.{is_ascii_whitespace, is_ascii_graphic, is_ascii_digit}
use Rattle.std.specs.Str.{all_ascii_digits}
use Rattle.std.proofs.lemmas.Bool.{and_parts, and_from, lt-ltb, le-leb, ne_eqb, cond-true}
use Rattle.std.proofs.lemmas.Bool.Decides.{nat_tests}
use Rattle.std.proofs.lemmas.Fmt.{decimal_nonempty, digits_value-decimal}
use Rattle.claim.specs.Code.{largest, coded, code_of, digits_in, value_after}
use Rattle.claim.proofs.Numbers.{numerals, value_some}
use Rattle.claim.proofs.Making.{digits_all, code_digits, code_some, code_reads}
use Rattle.desk.specs.Words.{skip_white, until_white, from_white, first_word, after_word, visible}
use Rattle.desk.specs.Requests.{make, read, sole_word, with_number, with_word, numbered}
use Rattle.desk.specs.Replies.{read_outcome_by, reply_by, shown_by, in_words}
use Rattle.desk.specs.Laws.{FindsEachSession}

digit_visible : (b : ℕ) → is_ascii_digit b ≡ true → is_ascii_graphic b ≡ true
digit_visible b h = grind (arith, nat_tests)

digits_visible : (bs : List ℕ) → all_ascii_digits bs ≡ true → visible bs ≡ true
digits_visible [] h = refl
digits_visible (b ∷ bs) h =
    let p = and_parts (is_ascii_digit b) (all_ascii_digits bs) h in
    and_from (is_ascii_graphic b) (visible bs) (digit_visible b p.0) (digits_visible bs p.1)

-- a visible word has no white space in it
visible_dark : (b : ℕ) → is_ascii_graphic b ≡ true → is_ascii_whitespace b ≡ false
visible_dark b h = grind (arith, nat_tests)

word_starts : (w : List ℕ) → visible w ≡ true → skip_white w ≡ w
word_starts [] h = refl
word_starts (b ∷ bs) h = rw (visible_dark b (and_parts (is_ascii_graphic b) (visible bs) h).0)

word_ends : (w : List ℕ) → visible w ≡ true → until_white w ≡ w
word_ends [] h = refl
word_ends (b ∷ bs) h = let p = and_parts (is_ascii_graphic b) (visible bs) h in rw (visible_dark b p.0) (ap (λ l. b ∷ l) (word_ends bs p.1))

word_alone : (w : List ℕ) → visible w ≡ true → from_white w ≡ []
word_alone [] h = refl
word_alone (b ∷ bs) h = let p = and_parts (is_ascii_graphic b) (visible bs) h in rw (visible_dark b p.0) (word_alone bs p.1)

-- so it is the one word after a space
sole : (w : List ℕ) → visible w ≡ true → 0 < length w → sole_word (32 ∷ w) ≡ Ok w
sole w h some =
    let first : first_word (32 ∷ w) ≡ w = ap until_white (word_starts w h) ∙ word_ends w h in
    let rest : after_word (32 ∷ w) ≡ [] = ap from_white (word_starts w h) ∙ word_alone w h in
    let long : eqb (length w) 0 ≡ false = ne_eqb (length w) 0 (λ e. omega arith) in
    rw (first, rest, long, h)

-- the number that is typed
typed_number : (n : ℕ) → 0 < n → n ≤ largest → numbered (decimal n) ≡ Ok (make (decimal n) n)
typed_number n some small =
    let number : min (2 ^ 64 - 1) (value_after 0 (digits_in (decimal n))) ≡ n = omega (arith, digits_value-decimal numerals n (omega arith)) in
    ap (with_number (decimal n)) (value_some (2 ^ 64 - 1) (decimal n) (decimal_nonempty n (omega arith)) (digits_all n some small) ∙ ap (λ k. Some k) number)

pub finds_each_session : FindsEachSession
finds_each_session line n some small =
    let number = sole (decimal n) (digits_visible (decimal n) (digits_all n some small)) (decimal_nonempty n (omega arith)) in
    let code = sole (code_of n) (digits_visible (code_of n) (code_digits n some small)) (code_some n some small) in
    let has_code : coded n ≡ true = and_from _ _ (lt-ltb 0 n some) (le-leb n largest small) in (
      ap (λ w. in_words (reply_by line (with_word numbered w))) number ∙ ap (λ r. in_words (reply_by line r)) (typed_number n some small) ∙ ap (shown_by (decimal n)) (cond-true (coded n) _ _ has_code),
      ap (λ w. in_words (reply_by line (with_word (λ word. Ok (read word)) w))) code ∙ ap (λ r. shown_by (code_of n) (read_outcome_by r)) (code_reads n some small),
    )
