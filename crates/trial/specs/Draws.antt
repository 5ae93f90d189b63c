-- The calls that a seed gives.
use Rattle.std.specs.Prelude.{ℕ, zero, suc, ◌+◌, ◌-◌, ◌*◌, ◌/◌, ◌%◌, ◌^◌, cond, List, [], ◌∷◌, nat_lt}
use Rattle.trial.specs.declared.step.Step.{Step}
use Rattle.trial.specs.declared.step.Step.TheVariants.{Put, TakeOut, KeyOf, Front, Clear}

-- the next state of the generator
abbrev pub drawn : ℕ → ℕ
drawn s = (s * 6364136223846793005 + 1442695040888963407) % 2 ^ 64

-- a place: below 72, or far out of range
abbrev pub place_in : ℕ → ℕ
place_in n = cond (nat_lt (n % 80) 72) (n % 80) (2 ^ 64 - 1 - n % 80)

-- a key: below 49, or the largest
abbrev pub key_in : ℕ → ℕ
key_in n = cond (nat_lt (n % 50) 49) (n % 50) (2 ^ 64 - 1)

-- a call of a kind from 0 to 255
abbrev pub step_of_kind : ℕ → ℕ → ℕ → Step
step_of_kind kind p k =
    cond (nat_lt kind 128) (Put p k) (cond (nat_lt kind 192) (TakeOut p) (cond (nat_lt kind 224) (KeyOf p) (cond (nat_lt kind 254) Front Clear)))

-- the call that a drawn number stands for
abbrev pub step_of : ℕ → Step
step_of n = step_of_kind (n / 2 ^ 56) (place_in (n / 2 ^ 16)) (key_in (n / 2 ^ 32))

-- so many calls, drawn from a seed
abbrev pub steps_from : ℕ → ℕ → List Step
steps_from seed zero = []
steps_from seed (suc n) = step_of (drawn seed) ∷ steps_from (drawn seed) n
