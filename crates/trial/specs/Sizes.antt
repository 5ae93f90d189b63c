-- A vector, and the list of its elements.
use Rattle.std.specs.Prelude.{ℕ, ◌≤◌, length, Vec}
use Rattle.std.proofs.Common.{arith}
use Rattle.std.specs.Vec.{vec_len}

-- what bounds a vector's length bounds the list of its elements
pub as_long : {X Z : Type 0} (v : Vec X Z) (least most : ℕ) → least ≤ vec_len v → vec_len v ≤ most → (least ≤ length v.items) × (length v.items ≤ most)
as_long v least most some few = (omega arith, omega arith)
