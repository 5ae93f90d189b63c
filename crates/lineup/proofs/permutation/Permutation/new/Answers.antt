use Rattle.std.proofs.Common.{◌≡◌, ℕ, ◌<◌, get_or, arith, rules}
use Rattle.lineup.specs.Rolls.{heap_places}
use Rattle.lineup.proofs.permutation.Permutation.new.Goals as goal

pub invariant_of-result : goal.invariant_of-result
invariant_of-result c =
    let same : (i : ℕ) → i < heap_places → get_or c.from_fn-counted.result i 0 ≡ i = λ i l. let h = c.from_fn-counted.ensures.items.at i 0 l in search rules in
    grind (arith, same)

pub returns : goal.returns
returns c = record { starts_in_sequence = λ k l. let h = c.from_fn-counted.ensures.items.at k 0 l in search rules }
