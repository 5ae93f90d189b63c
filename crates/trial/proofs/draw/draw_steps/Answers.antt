use Rattle.trial.proofs.Drawing.{draw_step}
use Rattle.trial.proofs.draw.draw_steps.Goals as goal

pub loop-preserved : goal.loop-preserved
loop-preserved c =
    draw_step _ _ _ _ _ _ _ c.loop-test.true c.draw-state.ensures.draws c.step_of.ensures.is_its_step c.in_ok-push.ensures.items c.loop.invariant
