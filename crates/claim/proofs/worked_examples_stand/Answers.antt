use Rattle.std.proofs.Common.{refl}
use Rattle.std.specs.Fmt.{digits}
use Rattle.claim.proofs.worked_examples_stand.Goals as goal

pub returns : goal.returns
unfolding digits
returns c = record { worked_examples = refl }
