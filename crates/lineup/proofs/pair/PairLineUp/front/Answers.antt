use Rattle.lineup.proofs.Pairing.{front_fits}
use Rattle.lineup.proofs.pair.PairLineUp.front.Goals as goal

pub further-requires : goal.further-requires
further-requires g c = front_fits _ _ _ c.front_within-high.ensures.answers_their_front
