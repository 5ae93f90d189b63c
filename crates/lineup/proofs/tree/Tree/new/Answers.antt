use Rattle.lineup.proofs.Heaped.{new_members}
use Rattle.lineup.proofs.tree.Tree.new.Goals as goal

pub invariant_of-result-clause-members : goal.invariant_of-result-clause-members
invariant_of-result-clause-members c = new_members c.new.result.positions
