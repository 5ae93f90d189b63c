-- What a span is, for every share: the fewest whole ticks in which a printer of that share feeds the length.
use Rattle.std.proofs.Common.{◌≡◌, ℕ, ◌+◌, ◌-◌, ◌*◌, ◌/◌, ◌%◌, min, mul_comm, ◌<◌, ◌≤◌, inl, inr, refl, mul-le-mul_left, arith}
use Rattle.std.proofs.lemmas.Bool.{cases_lt}
use Rattle.std.proofs.lemmas.Grind.{div_ceil_times}
use Rattle.schedule.specs.Limits.{unit}
use Rattle.schedule.specs.Orders.{span_of}

-- the length is fed in the span
pub span_covers : (len share : ℕ) → 0 < share → len * unit ≤ share * span_of len share
unfolding span_of
span_covers len share l = omega arith

-- and not in a tick less
pub span_tight : (len share : ℕ) → 0 < share → share * span_of len share < len * unit + share
unfolding span_of
span_tight len share l = omega arith

pub span_of_none : (len : ℕ) → span_of len 0 ≡ 0
unfolding span_of
span_of_none len = omega arith

-- a number that is not in reach of n by a whole share more is at most one that reaches it
least_reaching : (n share q r : ℕ) → share * q < n + share → n ≤ share * r → q ≤ r
least_reaching n share q r l m =
    elim (cases_lt r q) [
      | inl k ↦ absurd (omega (arith, mul-le-mul_left share k))
      | inr k ↦ k
    ]

-- whatever covers the length without a tick too many is the span
pub span_is : (len share q : ℕ) → 0 < share → len * unit ≤ share * q → share * q < len * unit + share → q ≡ span_of len share
span_is len share q l m k =
    let a : q ≤ span_of len share = least_reaching (len * unit) share q (span_of len share) k (span_covers len share l) in
    let b : span_of len share ≤ q = least_reaching (len * unit) share (span_of len share) q (span_tight len share l) m in
    omega arith

-- no share prints faster than the printer
pub length_within_span : (len share : ℕ) → 0 < share → share ≤ unit → len ≤ span_of len share
length_within_span len share l k =
    elim (cases_lt (span_of len share) len) [
      | inl q ↦ absurd (omega (arith, span_covers len share l, mul-le-mul_left share q, mul-le-mul_left len k))
      | inr q ↦ q
    ]

-- rounding a quotient up covers what was divided, without a divisor too many
pub ceil_covers : (n share q : ℕ) → 0 < share → q ≡ n / share + min 1 (n % share) → (n ≤ share * q) × (share * q < n + share)
ceil_covers n share q l e = rw (mul_comm share q, e) (div_ceil_times n share l)

-- a quotient rounded up is the one that the definition names
pub ceil_is : (n share : ℕ) → 0 < share → n / share + min 1 (n % share) ≡ (n + (share - 1)) / share
ceil_is n share l =
    let q = n / share + min 1 (n % share) in
    let r = (n + (share - 1)) / share in
    let t = ceil_covers n share q l refl in
    let covers : n ≤ share * r = omega arith in
    let tight : share * r < n + share = omega arith in
    let a : q ≤ r = least_reaching n share q r t.1 covers in
    let b : r ≤ q = least_reaching n share r q tight t.0 in
    omega arith
