-- What a swap leaves of a heap.
use Rattle.std.proofs.Common.{◌≡◌, ℕ, zero, suc, ◌<◌, ◌≤◌, ap, ⊎_elim, arith, rules}
use Rattle.std.proofs.lemmas.Bool.{cases_lt}
use Rattle.lineup.specs.Heaps.{parent, IsHeap, ButUp, ButAround, ButDown, Across, Swapped, LeastChild}

-- a swap with the parent
module _ (f g : ℕ → ℕ) (n i up : ℕ) (above : up < i) (is : parent i ≡ up) (inside : i < n) (s : Swapped f g i up) (less : f i < f up) (but : ButAround f n i) (across : Across f n i) where
  pub up_but : ButUp g n up
  up_but j p l ne = grind (arith, s, but, across)

  pub up_around : ButAround g n up
  up_around j p l ne na = grind (arith, s, but, across)

  pub up_across : Across g n up
  up_across j p l e z = grind (arith, s, but, across)

-- a swap with the least child
module _ (f g : ℕ → ℕ) (n i c : ℕ) (least : LeastChild f n i c) (s : Swapped f g i c) (less : f c < f i) (but : ButDown f n i) (across : Across f n i) where
  pub down_but : ButDown g n c
  down_but j p l ne = grind (arith, s, but, across, least)

  pub down_across : Across g n c
  down_across j p l e z = search rules

-- the root comes first
root_by : (f : ℕ → ℕ) (n : ℕ) → IsHeap f n → (fuel i : ℕ) → i ≤ fuel → i < n → f 0 ≤ f i
root_by f n heap zero i le l = let e : f i ≡ f 0 = ap f (omega arith) in omega arith
root_by f n heap (suc fuel) i le l =
    ⊎_elim
    (λ (z : 0 < i). let k = heap i z l in let r = root_by f n heap fuel (parent i) (omega arith) (omega arith) in omega arith)
    (λ (m : i ≤ 0). let e : f i ≡ f 0 = ap f (omega arith) in omega arith)
    (cases_lt 0 i)

pub root_first : (f : ℕ → ℕ) (n i : ℕ) → IsHeap f n → i < n → f 0 ≤ f i
root_first f n i heap l = root_by f n heap i i (omega arith) l
