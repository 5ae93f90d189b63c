-- The heap's tree: what stands at its positions, by the ranks. Only the heap's own functions cite these.
use Rattle.std.specs.Prelude.{ℕ, cond, Some, None, Option, ◌==◌, slice_index}
use Rattle.lineup.specs.declared.tree.Tree.{Tree}
use Rattle.lineup.specs.Heaps.{rank, IsHeap}

-- the rank of what stands at a position
abbrev pub ranks : Tree → ℕ → ℕ
ranks t i = rank t.keys (slice_index t.order.places i)

-- none in the tree ranks before its parent
abbrev pub IsHeaped : Tree → Type 0
IsHeaped t = IsHeap (ranks t) t.len

-- what stands at the root, if anything does
abbrev pub root_of : Tree → Option ℕ
root_of t = cond (t.len == 0) None (Some (slice_index t.order.places 0))
