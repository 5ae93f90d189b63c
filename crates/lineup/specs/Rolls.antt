-- What a roll's answers mean, by the list of its places' keys.
use Rattle.std.specs.Prelude.{ℕ, cond, List, length, replicate, None, Ok, Err, Option, Result, nat_lt, slice_index_or}
use Rattle.lineup.specs.declared.refusal.RollRefusal.{RollRefusal}
use Rattle.lineup.specs.declared.refusal.RollRefusal.TheVariants.{NoPlace}

-- the most places that a roll has
abbrev pub most_places : ℕ
most_places = 64

-- how many places a table has
abbrev pub table_places : ℕ
table_places = 16

-- how many places a heap has
abbrev pub heap_places : ℕ
heap_places = 48

-- the key of a place, or none; a place past the list's end has none
abbrev pub key_at : List (Option ℕ) → ℕ → Option ℕ
key_at ks place = slice_index_or ks place None

-- what put answers: it refuses a place that is not below the capacity, and no other
abbrev pub put_answer : List (Option ℕ) → ℕ → Result Unit RollRefusal
put_answer ks place = cond (nat_lt place (length ks)) (Ok tt) (Err NoPlace)

-- so many places, none with a key
abbrev pub no_keys : ℕ → List (Option ℕ)
no_keys n = replicate n None

-- the number of each refusal
abbrev pub number_of : RollRefusal → ℕ
number_of NoPlace = 40
