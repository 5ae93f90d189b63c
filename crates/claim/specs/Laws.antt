-- What may be relied on of claim codes.
use Rattle.std.specs.Prelude.{◌≡◌, ℕ, ◌<◌, ◌≤◌, true, List, [], ◌∷◌, map, length, is_err, codes, ◌≢◌, slice_index, slice_set}
use Rattle.claim.specs.Code.{largest, code_of, reading}

-- the text is the code of n, a session number
pub record CodeOf (n : ℕ) (text : List ℕ) : Type 0 where
  pub some : 0 < n
  pub small : n ≤ largest
  pub same : text ≡ code_of n

-- the code with any one digit changed to another digit is refused
abbrev pub Guarded : List ℕ → Type 0
Guarded code = (i d : ℕ) → i < length code → 48 ≤ d → d ≤ 57 → (d ≢ slice_index code i) → is_err (reading (slice_set code i d)) ≡ true

-- session numbers with their codes
abbrev pub examples : List (ℕ × List ℕ)
examples = (1, codes "18") ∷ ((12, codes "125") ∷ ((7992739871, codes "79927398713") ∷ []))

-- each number of the table has the code beside it
abbrev pub WorkedExamples : Type 0
WorkedExamples = map (λ row. code_of row.0) examples ≡ map (λ row. row.1) examples
