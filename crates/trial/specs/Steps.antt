-- What calls of a line-up answer and leave, by the list of its places' keys.
use Rattle.std.specs.Prelude.{ℕ, Bool, true, false, not, List, [], ◌∷◌, length, is_some, is_err, Some, None, Ok, Err, Option, Result, ◌==◌, slice_set}
use Rattle.lineup.specs.declared.refusal.RollRefusal.{RollRefusal}
use Rattle.lineup.specs.Rolls.{key_at, no_keys, put_answer}
use Rattle.lineup.specs.Front.{front_of}
use Rattle.trial.specs.declared.step.Step.{Step}
use Rattle.trial.specs.declared.step.Step.TheVariants.{Put, TakeOut, KeyOf, Front, Clear}
use Rattle.trial.specs.declared.step.Answer.{Answer}
use Rattle.trial.specs.declared.step.Answer.TheVariants.{Done, Key, Place}

-- what a call answers
abbrev pub answer_to : List (Option ℕ) → Step → Answer
answer_to ks (Put p k) = Done (put_answer ks p)
answer_to ks (TakeOut p) = Key (key_at ks p)
answer_to ks (KeyOf p) = Key (key_at ks p)
answer_to ks Front = Place (front_of ks)
answer_to ks Clear = Done (Ok tt)

-- the keys after a call
abbrev pub keys_after : List (Option ℕ) → Step → List (Option ℕ)
keys_after ks (Put p k) = slice_set ks p (Some k)
keys_after ks (TakeOut p) = slice_set ks p None
keys_after ks (KeyOf p) = ks
keys_after ks Front = ks
keys_after ks Clear = no_keys (length ks)

-- the keys after a list of calls
abbrev pub keys_after_all : List (Option ℕ) → List Step → List (Option ℕ)
keys_after_all ks [] = ks
keys_after_all ks (s ∷ ss) = keys_after_all (keys_after ks s) ss

-- whether two numbers, or none, are the same
abbrev pub same_number : Option ℕ → Option ℕ → Bool
same_number None None = true
same_number None (Some b) = false
same_number (Some a) None = false
same_number (Some a) (Some b) = a == b

-- whether two calls were both done, or both refused; there is one refusal only
abbrev pub same_end : Result Unit RollRefusal → Result Unit RollRefusal → Bool
same_end (Ok u) (Ok v) = true
same_end (Ok u) (Err f) = false
same_end (Err e) (Ok v) = false
same_end (Err e) (Err f) = true

-- whether two answers are the same
abbrev pub same_answer : Answer → Answer → Bool
same_answer (Done r) (Done s) = same_end r s
same_answer (Done r) (Key o) = false
same_answer (Done r) (Place o) = false
same_answer (Key o) (Done r) = false
same_answer (Key o) (Key p) = same_number o p
same_answer (Key o) (Place p) = false
same_answer (Place o) (Done r) = false
same_answer (Place o) (Key p) = false
same_answer (Place o) (Place p) = same_number o p

-- whether a call was refused
abbrev pub is_refused : Answer → Bool
is_refused (Done r) = is_err r
is_refused (Key o) = false
is_refused (Place o) = false

-- whether a key or a place was asked for, and none was there
abbrev pub is_none : Answer → Bool
is_none (Done r) = false
is_none (Key o) = not (is_some o)
is_none (Place o) = not (is_some o)
