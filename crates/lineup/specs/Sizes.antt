-- How many places a roll has, from how many its kind has: what the traits' law rests on.
use Rattle.std.specs.Prelude.{◌≡◌, ℕ, ◌≤◌, ◌&&◌, true, List, length, Option, nat_le}
use Rattle.std.proofs.Common.{arith, length-append, length-take}
use Rattle.std.proofs.lemmas.Bool.{and_parts, leb-true}
use Rattle.lineup.specs.Rolls.{most_places}
use Rattle.lineup.specs.Pairs.{joint, capped}

-- so many places are 1 to 64 if their number is
pub as_many : (ks : List (Option ℕ)) (n : ℕ) → length ks ≡ n → (nat_le 1 n && nat_le n most_places) ≡ true → (1 ≤ length ks) × (length ks ≤ most_places)
as_many ks n e h =
    let a = and_parts (nat_le 1 n) (nat_le n most_places) h in
    let some = leb-true 1 n a.0 in
    let few = leb-true n most_places a.1 in
    (omega arith, omega arith)

-- a pair's capacity is the sum of both, or 64 where that is less
pub length_joint : (xs ys : List (Option ℕ)) → length xs ≤ most_places → length (joint xs ys) ≡ capped (length xs) (length ys)
length_joint xs ys few = simp (length-append, length-take) (omega arith)

-- a pair has 1 to 64 places, since its first has
pub joint_sized : (xs ys : List (Option ℕ)) → (1 ≤ length xs) × (length xs ≤ most_places) → (1 ≤ length (joint xs ys)) × (length (joint xs ys) ≤ most_places)
joint_sized xs ys (some, few) =
    let e = length_joint xs ys few in
    (omega arith, omega arith)
