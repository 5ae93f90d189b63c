-- Calls drawn one by one are those of the seed.
use Rattle.std.proofs.Common.{◌≡◌, ℕ, suc, ◌+◌, ◌-◌, ◌<◌, List, [], ◌∷◌, ◌++◌, ◌∙◌, arith}
use Rattle.std.proofs.lemmas.List.{append_assoc}
use Rattle.trial.specs.declared.step.Step.{Step}
use Rattle.trial.specs.Draws.{drawn, step_of, steps_from}

-- one call more is drawn and pushed: what is drawn so far and what is still to come stay the same in all
pub draw_step : {all : List Step} (old new : List Step) (state next count i : ℕ) (s : Step) → i < count → next ≡ drawn state → s ≡ step_of next → new ≡ old ++ s ∷ [] → old ++ steps_from state (count - i) ≡ all
    → new ++ steps_from next (count - (i + 1)) ≡ all
draw_step old new state next count i s l en es eo e =
    let left : count - i ≡ suc (count - (i + 1)) = omega arith in
    rw (eo, es, en) (append_assoc old (step_of (drawn state) ∷ []) (steps_from (drawn state) (count - (i + 1))) ∙ rw left at e)
