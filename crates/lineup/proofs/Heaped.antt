-- What stands at the root of a heap is in front.
use Rattle.std.proofs.Common.{◌≡◌, ℕ, ◌+◌, ◌*◌, ◌<◌, ◌≤◌, true, false, eqb, List, get_or, is_some, Some, None, Option, sym, refl, ap, ◌∙◌, ⊎_elim, arith}
use Rattle.std.proofs.lemmas.List.{get_or_past, get_or-replicate}
use Rattle.std.proofs.lemmas.Bool.{both_ways, cases_lt, cond_both, eqb-true, eqb-false, lt-ltb, le-ltb, ltb-true}
use Rattle.lineup.specs.Rolls.{heap_places, most_places, key_at, no_keys}
use Rattle.lineup.specs.Front.{IsFront, front_of}
use Rattle.lineup.specs.declared.tree.Tree.{Tree}
use Rattle.lineup.specs.Heaps.{Members, rank}
use Rattle.lineup.specs.Trees.{ranks, root_of, IsHeaped}
use Rattle.lineup.proofs.Fronts.{within, front_is}
use Rattle.lineup.proofs.Ranks.{rank_with}
use Rattle.lineup.proofs.Sifts.{root_first}

-- a key is there or not
none_since : (o : Option ℕ) → is_some o ≡ false → o ≡ None
none_since None e = refl
none_since (Some k) e = absurd (both_ways true e refl)

some_since : (o : Option ℕ) → is_some o ≡ true → (k : ℕ) × (o ≡ Some k)
some_since None e = absurd (both_ways false refl e)
some_since (Some k) e = (k, refl)

-- in a tree in which nothing stands no place has a key
pub new_members : (positions : List ℕ) → Members (no_keys heap_places) positions 0
new_members positions p l =
    ap is_some (get_or-replicate heap_places p None None l) ∙ sym (le-ltb (get_or positions p 0) 0 (omega arith))

module _ (t : Tree) where
  none_in_front : t.len ≡ 0 → IsFront t.keys None
  none_in_front e q =
      ⊎_elim (λ (l : q < heap_places). none_since (key_at t.keys q) (t.members q l ∙ le-ltb (get_or t.order.positions q 0) t.len (omega arith)))
      (λ (g : heap_places ≤ q). get_or_past t.keys q None (omega arith))
      (cases_lt q heap_places)

  module _ (heap : IsHeaped t) where
    root_in_front : 0 < t.len → IsFront t.keys (Some (get_or t.order.places 0 0))
    root_in_front some =
        let p = get_or t.order.places 0 0 in
        let (lp, sp) = t.order.placed.1 0 (omega arith) in
        let (k, kp) = some_since (key_at t.keys p) (t.members p lp ∙ lt-ltb (get_or t.order.positions p 0) t.len (omega arith)) in
        let rp = rank_with t.keys p k kp in (
          k,
          kp,
          λ q j kq.
              let i = get_or t.order.positions q 0 in
              let inside = within t.keys q j kq in
              let lq : q < heap_places = omega arith in
              let li = ltb-true i t.len (sym (t.members q lq) ∙ ap is_some kq) in
              let first = root_first (ranks t) t.len i heap li in
              let rq : ranks t i ≡ j * most_places + q = ap (rank t.keys) (t.order.positioned.1 q lq).1 ∙ rank_with t.keys q j kq in
              (omega arith, λ l. omega arith),
        )

    pub root_is_front : root_of t ≡ front_of t.keys
    root_is_front =
        front_is t.keys (root_of t)
        (cond_both (eqb t.len 0) _ _ (IsFront t.keys) (λ e. none_in_front (eqb-true t.len 0 e)) (λ e. root_in_front (let z = eqb-false t.len 0 e in omega arith)))
