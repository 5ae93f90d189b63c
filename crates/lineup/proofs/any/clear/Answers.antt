use Rattle.std.proofs.Common.{ℕ, Option, length, None, arith}
use Rattle.std.proofs.lemmas.List.{ext_get_or, get_or-replicate, length-replicate}
use Rattle.lineup.specs.Rolls.{no_keys}
use Rattle.lineup.proofs.any.clear.Goals as goal

pub returns : goal.returns
returns g c =
    let h = c.loop-place.invariant in
    let n = length (g.R.Roll.keys c.args.roll.now) in
    record { no_key_is_left = ext_get_or None _ (no_keys n) (grind (arith, length-replicate, h.0)) (λ i l. grind (arith, get_or-replicate {A = Option ℕ} n i None None, h.1 i)) }
