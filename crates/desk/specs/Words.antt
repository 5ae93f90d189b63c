-- The words of a line: the runs of bytes between white space (space, tab, line feed, form feed, carriage return).
use Rattle.std.specs.Prelude.{ℕ, Bool, true, cond, ◌&&◌, List, [], ◌∷◌}
use Rattle.std.specs.Char.{is_ascii_whitespace, is_ascii_graphic}

-- the text from its first byte on that is not white space
abbrev pub skip_white : List ℕ → List ℕ
skip_white [] = []
skip_white (b ∷ bs) = cond (is_ascii_whitespace b) (skip_white bs) (b ∷ bs)

-- the bytes before the first white space
abbrev pub until_white : List ℕ → List ℕ
until_white [] = []
until_white (b ∷ bs) = cond (is_ascii_whitespace b) [] (b ∷ until_white bs)

-- the bytes from the first white space on
abbrev pub from_white : List ℕ → List ℕ
from_white [] = []
from_white (b ∷ bs) = cond (is_ascii_whitespace b) (b ∷ bs) (from_white bs)

-- the first word, which is empty where there is none
abbrev pub first_word : List ℕ → List ℕ
first_word text = until_white (skip_white text)

-- what follows the first word
abbrev pub after_word : List ℕ → List ℕ
after_word text = from_white (skip_white text)

-- whether each byte is a visible ASCII character
abbrev pub visible : List ℕ → Bool
visible [] = true
visible (b ∷ bs) = is_ascii_graphic b && visible bs
