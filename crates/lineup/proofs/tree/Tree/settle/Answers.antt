use Rattle.std.proofs.Common.{sym, ◌∙◌, arith, rules}
use Rattle.std.proofs.lemmas.Bool.{ltb-true}
use Rattle.lineup.specs.Trees.{ranks}
use Rattle.lineup.proofs.Sifts.{up_but, up_around, up_across}
use Rattle.lineup.proofs.tree.Tree.settle.Goals as goal

pub loop-up-preserved : goal.loop-up-preserved
loop-up-preserved c =
    let t = c.loop-up.self in
    let g = ranks c.swap.new.self in
    let (above, is) = c.in-Some.ensures.answers_the_parent in
    let inv = c.loop-up.invariant in
    let s = c.swap.ensures.swaps_the_ranks in
    let less = ltb-true _ _ (sym c.before-in-loop-up.ensures.compares_ranks ∙ c.if-before.true) in
    rw c.swap.ensures.keeps_the_length record {
      in_the_tree = omega arith;
      not_below = omega arith;
      same_keys = search rules;
      but_up = λ _. up_but (ranks t) g t.len c.loop-up.i c.in-Some.up above is inv.in_the_tree s less inv.but_around inv.across;
      but_around = up_around (ranks t) g t.len c.loop-up.i c.in-Some.up above is inv.in_the_tree s less inv.but_around inv.across;
      across = up_across (ranks t) g t.len c.loop-up.i c.in-Some.up above is inv.in_the_tree s less inv.but_around inv.across;
    }
