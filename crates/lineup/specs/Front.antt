-- Which place of a roll is in front.
use Rattle.std.specs.Prelude.{◌≡◌, ℕ, ◌+◌, ◌<◌, ◌≤◌, cond, List, [], ◌∷◌, Some, None, Option, nat_lt}
use Rattle.std.specs.Option.{option_map}
use Rattle.lineup.specs.declared.entry.Entry.{Entry}
use Rattle.lineup.specs.Rolls.{key_at}

-- the front: no place has a lesser key and no lower place an equal one; none is in front if no place has a key
abbrev pub IsFront : List (Option ℕ) → Option ℕ → Type 0
IsFront ks None = (q : ℕ) → key_at ks q ≡ None
IsFront ks (Some p) =
    (k : ℕ) × (key_at ks p ≡ Some k) × ((q j : ℕ) → key_at ks q ≡ Some j → (k ≤ j) × (q < p → k < j))

-- a place with its key, if it has one
abbrev pub entry_of : ℕ → Option ℕ → Option Entry
entry_of p o = option_map (λ k. record { place = p; key = k }) o

-- the same so many places further on
abbrev pub moved : ℕ → Option Entry → Option Entry
moved n o = option_map (λ e. record { place = e.place + n; key = e.key }) o

-- the first of two, unless the second has a lesser key
abbrev pub sooner_of : Option Entry → Option Entry → Option Entry
sooner_of None b = b
sooner_of (Some e) None = Some e
sooner_of (Some e) (Some f) = cond (nat_lt f.key e.key) (Some f) (Some e)

-- the front with its key: the sooner of the first place and of the front of the rest
abbrev pub front_entry : List (Option ℕ) → Option Entry
front_entry [] = None
front_entry (o ∷ ks) = sooner_of (entry_of 0 o) (moved 1 (front_entry ks))

-- the place of an entry
abbrev pub place_of : Option Entry → Option ℕ
place_of o = option_map (λ e. e.place) o

-- the front
abbrev pub front_of : List (Option ℕ) → Option ℕ
front_of ks = place_of (front_entry ks)

-- what front_of finds is the front, and nothing else is: every list of keys has exactly one
abbrev pub OneFront : Type 0
OneFront = (ks : List (Option ℕ)) → IsFront ks (front_of ks) × ((r : Option ℕ) → IsFront ks r → r ≡ front_of ks)
