-- The rank of a place with a key, and after another place has got or lost its key.
use Rattle.std.proofs.Common.{◌≡◌, ℕ, ◌+◌, ◌*◌, List, set, Some, None, Option, unwrap_or, ap}
use Rattle.std.specs.Prelude.{◌≢◌}
use Rattle.std.proofs.lemmas.List.{get_or-set_other}
use Rattle.lineup.specs.Rolls.{most_places, key_at}
use Rattle.lineup.specs.Heaps.{rank}

pub rank_with : (ks : List (Option ℕ)) (p k : ℕ) → key_at ks p ≡ Some k → rank ks p ≡ k * most_places + p
rank_with ks p k e = ap (λ o. unwrap_or o 0 * most_places + p) e

pub rank_elsewhere : (ks : List (Option ℕ)) (p q : ℕ) (v : Option ℕ) → q ≢ p → rank (set ks p v) q ≡ rank ks q
rank_elsewhere ks p q v ne = ap (λ o. unwrap_or o 0 * most_places + q) (get_or-set_other ks p q v None ne)
