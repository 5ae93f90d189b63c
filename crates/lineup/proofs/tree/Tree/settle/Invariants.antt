use Rattle.std.proofs.Common.{◌≡◌, ◌-◌, ◌<◌, ◌≤◌}
use Rattle.lineup.specs.Heaps.{ButUp, ButAround, ButDown, Across}
use Rattle.lineup.specs.Trees.{ranks}
use Rattle.lineup.proofs.tree.Tree.settle.Given as goal

-- going up
abbrev pub invariant-loop-up : goal.invariant-loop-up
invariant-loop-up l =
    record {
      in_the_tree : l.i < l.self.len;
      not_below : l.i ≤ l.at;
      same_keys : l.self.keys ≡ l.fn.self.keys;
      but_up : l.i < l.at → ButUp (ranks l.self) l.self.len l.i;
      but_around : ButAround (ranks l.self) l.self.len l.i;
      across : Across (ranks l.self) l.self.len l.i;
    }

abbrev pub decreases-loop-up : goal.decreases-loop-up
decreases-loop-up l = l.i

-- and from there down
abbrev pub invariant-loop-child : goal.invariant-loop-child
invariant-loop-child l =
    record {
      in_the_tree : l.i < l.self.len;
      same_keys : l.self.keys ≡ l.fn.self.keys;
      but_down : ButDown (ranks l.self) l.self.len l.i;
      across : Across (ranks l.self) l.self.len l.i;
    }

abbrev pub decreases-loop-child : goal.decreases-loop-child
decreases-loop-child l = l.self.len - l.i
