use Rattle.std.proofs.Common.{◌≤◌, length, ap, ◌∙◌, arith}
use Rattle.trial.proofs.Runs.{tally_step, keys_step, tally_end, keys_end, never_differs}
use Rattle.trial.proofs.side_by_side.compare.Goals as goal

pub loop-step-preserved : goal.loop-step-preserved
loop-step-preserved g c =
    let l = c.loop-step-test.true in
    let both = c.apply_to_both.ensures in
    let left = c.loop-step.invariant in (
      tally_step _ _ _ _ _ _ _ _ _ l both.counts_the_answers both.leaves_the_keys both.leaves_the_others_keys left.0,
      keys_step _ _ _ _ _ l both.leaves_the_keys left.1,
      keys_step _ _ _ _ _ l both.leaves_the_others_keys left.2,
    )

pub returns : goal.returns
returns g c =
    let end : length c.args.steps.now ≤ c.loop-step.step-index = omega arith in
    let left = c.loop-step.invariant in
    let t = tally_end _ _ _ _ _ _ end left.0 in
    record {
      tallies_every_call = t;
      leaves_the_keys = keys_end _ _ _ _ end left.1;
      leaves_the_others_keys = keys_end _ _ _ _ end left.2;
      same_keys_same_answers = λ e. ap (λ u. u.differing) t ∙ rw (← e) (never_differs c.args.steps.now _ _);
    }
