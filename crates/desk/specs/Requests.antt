-- What a line asks of the desk, as a plain value.
use Rattle.std.specs.Prelude.{ℕ, ◌-◌, ◌^◌, cond, not, List, length, Some, None, Ok, Err, codes, Option, Result, ◌==◌}
use Rattle.std.specs.Borrow.{Bor}
use Rattle.std.specs.Str.{bytes_eq}
use Rattle.claim.specs.Code.{value_up_to}
use Rattle.desk.specs.declared.request.Request.{Request}
use Rattle.desk.specs.declared.request.Request.TheVariants.{Make, Read}
use Rattle.desk.specs.declared.request.Misread.{Misread}
use Rattle.desk.specs.declared.request.Misread.TheVariants.{Blank, UnknownWord, NothingFollows, TooMuchFollows, NotVisible, NotANumber}
use Rattle.desk.specs.Words.{first_word, after_word, visible}

-- a request, with the bytes of its second word
pub data Asked : Type 0 where
  make : (typed : List ℕ) (number : ℕ) → Asked
  read : (code : List ℕ) → Asked

-- the plain value of a request
abbrev pub plainly : Request → Asked
plainly (Make t n) = make t.now n
plainly (Read c) = read c.now

-- the plain value of what `understand` answers
abbrev pub asked_by : Result Request Misread → Result Asked Misread
asked_by (Ok r) = Ok (plainly r)
asked_by (Err e) = Err e

-- the bytes of a text that is answered
abbrev pub held_text : Result (Bor (List ℕ)) Misread → Result (List ℕ) Misread
held_text (Ok t) = Ok t.now
held_text (Err e) = Err e

-- the one word of a text
abbrev pub sole_word : List ℕ → Result (List ℕ) Misread
sole_word text =
    cond (length (first_word text) == 0) (Err NothingFollows)
    (cond (not (length (first_word (after_word text)) == 0)) (Err TooMuchFollows)
    (cond (not (visible (first_word text))) (Err NotVisible) (Ok (first_word text))))

-- the request to make a code, by the value of what is typed
abbrev pub with_number : List ℕ → Option ℕ → Result Asked Misread
with_number typed (Some n) = Ok (make typed n)
with_number typed None = Err NotANumber

-- the request to make the code of the number that is typed; one beyond u64 counts as the largest u64, which has no code either
abbrev pub numbered : List ℕ → Result Asked Misread
numbered typed = with_number typed (value_up_to (2 ^ 64 - 1) typed)

-- what a first word asks, with the one word of what follows it
abbrev pub with_word : (List ℕ → Result Asked Misread) → Result (List ℕ) Misread → Result Asked Misread
with_word asks (Ok word) = asks word
with_word asks (Err e) = Err e

-- what the first word of a line and what follows it ask; the first word is looked at first
abbrev pub joint : List ℕ → List ℕ → Result Asked Misread
joint first rest =
    cond (length first == 0) (Err Blank)
    (cond (bytes_eq first (codes "make")) (with_word numbered (sole_word rest))
    (cond (bytes_eq first (codes "read")) (with_word (λ word. Ok (read word)) (sole_word rest)) (Err UnknownWord)))

-- what a line asks
abbrev pub asked : List ℕ → Result Asked Misread
asked line = joint (first_word line) (after_word line)

-- why a line is not understood, in words
abbrev pub reason_of : Misread → List ℕ
reason_of Blank = codes "it is blank"
reason_of UnknownWord = codes "its first word is neither make nor read"
reason_of NothingFollows = codes "nothing follows its first word"
reason_of TooMuchFollows = codes "more than one word follows its first word"
reason_of NotVisible = codes "its second word has a character that is not visible ASCII"
reason_of NotANumber = codes "its session number is not written in digits"
