-- Refusals: their numbers, and the first condition that applies.
use Rattle.std.specs.Prelude.{ℕ, Bool, cond, List, [], ◌∷◌, Some, None, Ok, Err, Option, Result}
use Rattle.schedule.specs.declared.refusal.Refusal.{Refusal}
use Rattle.schedule.specs.declared.refusal.Refusal.TheVariants.{NoStation, ShareOutOfRange, AlreadyLinked, NotFree, SharesFull, LifeOver, NoSession, NoFormat, BadLength, RingFull, Feeding, NoneWaits, PastFeed, SomeWaits, OutOfReach}

-- the number of each refusal
abbrev pub number_of : Refusal → ℕ
number_of NoStation = 10
number_of ShareOutOfRange = 11
number_of AlreadyLinked = 12
number_of NotFree = 13
number_of SharesFull = 14
number_of LifeOver = 15
number_of NoSession = 20
number_of NoFormat = 21
number_of BadLength = 22
number_of RingFull = 23
number_of Feeding = 30
number_of NoneWaits = 31
number_of PastFeed = 32
number_of SomeWaits = 33
number_of OutOfReach = 34

-- conditions in the sequence in which they are tried, each with the refusal that it means
abbrev pub Conditions : Type 0
Conditions = List (Bool × Refusal)

-- the refusal of the first condition that holds
abbrev pub first_of : Conditions → Option Refusal
first_of [] = None
first_of (c ∷ cs) = cond c.0 (Some c.1) (first_of cs)

-- a value, unless there is a refusal
abbrev pub unless : {X : Type 0} → Option Refusal → X → Result X Refusal
unless None x = Ok x
unless (Some r) x = Err r
