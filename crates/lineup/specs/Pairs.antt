-- What a pair of two line-ups means: `joint`. The rest serves the pair's own functions.
use Rattle.std.specs.Prelude.{◌≡◌, ℕ, ◌+◌, ◌-◌, min, cond, List, ◌++◌, length, take, Some, None, Err, Option, nat_lt, slice_set}
use Rattle.lineup.specs.declared.refusal.RollRefusal.TheVariants.{NoPlace}
use Rattle.lineup.specs.declared.pair.Side.{Side}
use Rattle.lineup.specs.declared.pair.Side.TheVariants.{First, Second}
use Rattle.lineup.specs.Rolls.{most_places, key_at, put_answer}

-- the keys of a pair: all of the first's, then those of the second's that bring them to 64 at most
abbrev pub joint : List (Option ℕ) → List (Option ℕ) → List (Option ℕ)
joint xs ys = xs ++ take (most_places - length xs) ys

-- the sum of two capacities, or 64 where that is less
abbrev pub capped : ℕ → ℕ → ℕ
capped m n = min (m + n) most_places

-- where a place of the pair stands, if the first has so many places of its own, or none where it is not the pair's
abbrev pub side_of : ℕ → ℕ → Option Side
side_of own place =
    cond (nat_lt place own) (Some (First place)) (cond (nat_lt place most_places) (Some (Second (place - own))) None)

-- what is asked and done at a place of the pair is asked and done where it stands
abbrev pub StandsFor : List (Option ℕ) → List (Option ℕ) → ℕ → Option Side → Type 0
StandsFor xs ys place (Some (First at)) =
    (key_at (joint xs ys) place ≡ key_at xs at)
    × (put_answer (joint xs ys) place ≡ put_answer xs at)
    × ((v : Option ℕ) → slice_set (joint xs ys) place v ≡ joint (slice_set xs at v) ys)
StandsFor xs ys place (Some (Second at)) =
    (key_at (joint xs ys) place ≡ key_at ys at)
    × (put_answer (joint xs ys) place ≡ put_answer ys at)
    × ((v : Option ℕ) → slice_set (joint xs ys) place v ≡ joint xs (slice_set ys at v))
StandsFor xs ys place None =
    (key_at (joint xs ys) place ≡ None)
    × (put_answer (joint xs ys) place ≡ Err NoPlace)
    × ((v : Option ℕ) → slice_set (joint xs ys) place v ≡ joint xs ys)
