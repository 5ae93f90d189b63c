-- The desk's reply to a line, and how it is shown.
use Rattle.std.specs.Prelude.{◌≡◌, ℕ, cond, List, [], ◌++◌, Ok, Err, IfOk, codes, decimal, Result}
use Rattle.claim.specs.declared.refusal.CodeRefusal.{CodeRefusal}
use Rattle.claim.specs.declared.refusal.CodeRefusal.TheVariants.{NoRoom, BadNumber, BadCheck}
use Rattle.claim.specs.Refusals.{number_of}
use Rattle.claim.specs.Code.{largest, coded, code_of, reading}
use Rattle.desk.specs.declared.reply.Reply.{Reply}
use Rattle.desk.specs.declared.made.Made.{Made}
use Rattle.desk.specs.declared.reply.Answer.{Answer}
use Rattle.desk.specs.declared.reply.Answer.TheVariants.{Make, Read}
use Rattle.desk.specs.declared.request.Misread.{Misread}
use Rattle.desk.specs.Requests.{Asked, make, read, asked, reason_of}

-- what comes of a line, as a plain value
pub data Said : Type 0 where
  made : (session : ℕ) (code : List ℕ) → Said
  found : (session : ℕ) → Said
  not_made : (why : CodeRefusal) → Said
  not_found : (why : CodeRefusal) → Said
  not_understood : (line : ℕ) (why : Misread) → Said

-- a reply: the line's second word as it was typed, and what came of it
pub record Replied : Type 0 where
  pub typed : List ℕ
  pub outcome : Said

-- what comes of `make`: the session's code, or refusal 41
abbrev pub make_outcome : ℕ → Said
make_outcome n = cond (coded n) (made n (code_of n)) (not_made BadNumber)

-- what comes of `make`, by the session and its code, or the refusal
abbrev pub make_outcome_by : Result Made CodeRefusal → Said
make_outcome_by (Ok m) = made m.session m.code.bytes
make_outcome_by (Err why) = not_made why

-- what comes of `read`, by the answer of reading
abbrev pub read_outcome_by : Result ℕ CodeRefusal → Said
read_outcome_by (Ok n) = found n
read_outcome_by (Err why) = not_found why

-- what comes of `read`: the session, or the refusal of reading
abbrev pub read_outcome : List ℕ → Said
read_outcome code = read_outcome_by (reading code)

-- the reply to a request
abbrev pub answer_to : Asked → Replied
answer_to (make typed n) = record { typed = typed; outcome = make_outcome n }
answer_to (read code) = record { typed = code; outcome = read_outcome code }

-- the plain value of an answer
abbrev pub answered : Answer → Replied
answered (Make typed outcome) = record { typed = typed.now; outcome = make_outcome_by outcome }
answered (Read typed session) = record { typed = typed.now; outcome = read_outcome_by session }

-- the plain value of a reply, by its line's number
abbrev pub replied_by : ℕ → Result Answer Misread → Replied
replied_by line (Ok answer) = answered answer
replied_by line (Err why) = record { typed = []; outcome = not_understood line why }

-- the plain value of a reply
abbrev pub replied : Reply → Replied
replied r = replied_by r.line r.answer

-- the code of a session that is answered is read back as that session
abbrev pub MadeReadsBack : Made → Type 0
MadeReadsBack m = reading m.code.bytes ≡ Ok m.session

-- a code that is answered is read back as its session; other answers hold no code
abbrev pub AnswerReadsBack : Answer → Type 0
AnswerReadsBack (Make typed outcome) = IfOk outcome MadeReadsBack
AnswerReadsBack (Read typed session) = Unit

-- the reply by what a line asks; a line that is not understood is named by its number
abbrev pub reply_by : ℕ → Result Asked Misread → Replied
reply_by number (Ok request) = answer_to request
reply_by number (Err why) = record { typed = []; outcome = not_understood number why }

-- the reply to a line
abbrev pub reply_to : ℕ → List ℕ → Replied
reply_to number line = reply_by number (asked line)

-- what a session number has to be, in words
abbrev pub number_demand : List ℕ
number_demand = codes "session numbers go from 1 to " ++ decimal largest

-- what a claim code has to be, in words
abbrev pub code_demand : List ℕ
code_demand = codes "a claim code is 2 to 20 digits, the first not 0, of a session number up to " ++ decimal largest

-- why a code is refused, in words; the demand says what a number or a code has to be
abbrev pub reason_for : CodeRefusal → List ℕ → List ℕ
reason_for NoRoom demand = codes "there is no room for it"
reason_for BadNumber demand = demand
reason_for BadCheck demand = codes "its check digit is wrong"

-- a refusal in words: its number, and why
abbrev pub refused : CodeRefusal → List ℕ → List ℕ
refused why demand = codes " is refused (" ++ (decimal (number_of why) ++ (codes "): " ++ reason_for why demand))

-- the words for what was typed and what came of it
abbrev pub shown_by : List ℕ → Said → List ℕ
shown_by typed (made n code) = codes "session " ++ (decimal n ++ (codes " has claim code " ++ code))
shown_by typed (found n) = codes "claim code " ++ (typed ++ (codes " is session " ++ decimal n))
shown_by typed (not_made why) = codes "session " ++ (typed ++ refused why number_demand)
shown_by typed (not_found why) = codes "claim code " ++ (typed ++ refused why code_demand)
shown_by typed (not_understood line why) = codes "line " ++ (decimal line ++ (codes " is not understood: " ++ reason_of why))

-- the line that shows a reply
abbrev pub in_words : Replied → List ℕ
in_words r = shown_by r.typed r.outcome
