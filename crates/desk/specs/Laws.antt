-- What may be relied on at the desk.
use Rattle.std.specs.Prelude.{◌≡◌, ℕ, ◌<◌, ◌≤◌, ◌++◌, codes, decimal}
use Rattle.claim.specs.Code.{largest, code_of}
use Rattle.desk.specs.Replies.{reply_to, in_words}

-- on every line, each session number is answered with its claim code, and that code with the session number
abbrev pub FindsEachSession : Type 0
FindsEachSession =
    (line session : ℕ) → 0 < session → session ≤ largest
    → (in_words (reply_to line (codes "make " ++ decimal session)) ≡ codes "session " ++ (decimal session ++ (codes " has claim code " ++ code_of session)))
    × (in_words (reply_to line (codes "read " ++ code_of session)) ≡ codes "claim code " ++ (code_of session ++ (codes " is session " ++ decimal session)))
