-- Words of a line, and what a scan for white space knows of them.
use Rattle.std.proofs.Common.{◌≡◌, ℕ, suc, ◌+◌, ◌<◌, Bool, true, false, leb, List, [], ◌∷◌, ◌++◌, length, get_or, take, drop, Some, Ok, Err, IsUtf8, IsAscii, Result, refl, ap, ◌∙◌, arith, Bor, MatchResult}
use Rattle.std.specs.Char.{is_ascii_whitespace, is_ascii_graphic}
use Rattle.std.specs.Option.{option_map}
use Rattle.std.specs.Result.{result_ok}
use Rattle.std.specs.List.{prefix_len}
use Rattle.std.specs.Str.{IsTrimAsciiStart}
use Rattle.std.proofs.lemmas.Grind.{common_steps}
use Rattle.std.proofs.lemmas.List.{take_at, drop_at}
use Rattle.std.proofs.lemmas.List.Recursion.{and_is}
use Rattle.std.proofs.lemmas.Bool.{and_parts, leb-true}
use Rattle.std.proofs.lemmas.Str.Ascii.{IsAscii-cons, IsAscii-nil, trim_ascii_start_is}
use Rattle.std.proofs.lemmas.Str.{IsUtf8-from_ascii}
use Rattle.desk.specs.Words.{skip_white, until_white, from_white, visible}

-- what `trim_ascii_start` leaves
skips : (bs : List ℕ) → drop (prefix_len is_ascii_whitespace bs) bs ≡ skip_white bs
skips [] = refl
skips (b ∷ bs) = by (is_ascii_whitespace b) refl (skips bs)
  where
    by : (t : Bool) → is_ascii_whitespace b ≡ t → drop (prefix_len is_ascii_whitespace bs) bs ≡ skip_white bs → drop (prefix_len is_ascii_whitespace (b ∷ bs)) (b ∷ bs) ≡ skip_white (b ∷ bs)
    by true e more = let one : 1 + prefix_len is_ascii_whitespace bs ≡ suc (prefix_len is_ascii_whitespace bs) = omega arith in rw (e, one) more
    by false e more = rw e

pub trimmed : (bs t : List ℕ) → IsTrimAsciiStart bs t → t ≡ skip_white bs
trimmed bs t h = trim_ascii_start_is bs t h ∙ skips bs

-- a text is its first word and what follows, where no white space stands before the word
parts : (bs : List ℕ) → bs ≡ until_white bs ++ from_white bs
parts [] = refl
parts (b ∷ bs) = let more = parts bs in grind (arith, common_steps)

-- so it is cut behind the word
pub cut : (bs : List ℕ) (n : ℕ) → length (until_white bs) ≡ n → (take n bs ≡ until_white bs) × (drop n bs ≡ from_white bs)
cut bs n e =
    (ap (take n) (parts bs) ∙ take_at (until_white bs) (from_white bs) n e, ap (drop n) (parts bs) ∙ drop_at (until_white bs) (from_white bs) n e)

-- what the answer of a search for another byte tells
pub told_by : (bs : List ℕ) (all : Bool) → (all ≡ true → (i : ℕ) → i < length bs → is_ascii_graphic (get_or bs i 0) ≡ true) → (all ≡ false → (i : ℕ) × (i < length bs) × (is_ascii_graphic (get_or bs i 0) ≡ false)) → all ≡ visible bs
told_by bs = and_is visible is_ascii_graphic refl (λ _ _. refl) bs 0

-- a visible text is UTF-8
ascii_visible : (bs : List ℕ) → visible bs ≡ true → IsAscii bs
ascii_visible [] h = IsAscii-nil
ascii_visible (b ∷ bs) h =
    let p = and_parts (is_ascii_graphic b) (visible bs) h in
    IsAscii-cons b bs (omega (arith, leb-true b 126 (and_parts (leb 33 b) (leb b 126) p.0).1)) (ascii_visible bs p.1)

pub utf8_visible : (bs : List ℕ) → visible bs ≡ true → IsUtf8 bs
utf8_visible bs h = IsUtf8-from_ascii bs (ascii_visible bs h)

-- what `from_utf8` answers of such a text
pub text_of : {E : Type 0} (Q : E → Type 0) (bs : List ℕ) (r : Result (Bor (List ℕ)) E) → MatchResult r (λ s. (s.now ≡ bs) × IsUtf8 bs) (λ e. (IsUtf8 bs → ⊥) × Q e) → IsUtf8 bs → option_map (λ s. s.now) (result_ok r) ≡ Some bs
text_of Q bs (Ok s) (same, text) u = ap (λ l. Some l) same
text_of Q bs (Err e) (no_text, q) u = absurd (no_text u)
