-- A place of a pair is a place of one of its two, or of none.
use Rattle.std.specs.Prelude.{◌≡◌, ℕ, ◌+◌, ◌-◌, ◌^◌, ◌<◌, ◌≤◌, List, ◌++◌, length, take, Some, None, Option, MatchOption, nat_lt, refl}
use Rattle.std.proofs.Common.{sym, ap, ◌∙◌, arith, length-set, length-take}
use Rattle.std.proofs.lemmas.List.{get_or_past, get_or-take, get_or_append_left, get_or-append_right, set-append_left, set-append_right, set_past}
use Rattle.std.proofs.Math.Seq.{take-set-lt}
use Rattle.std.proofs.lemmas.Bool.{cond_both, ltb-true, ltb-false}
use Rattle.std.proofs.lemmas.Bool.Decides.{nat_tests}
use Rattle.lineup.specs.declared.entry.Entry.{Entry}
use Rattle.lineup.specs.declared.pair.Side.TheVariants.{First, Second}
use Rattle.lineup.specs.Rolls.{most_places}
use Rattle.lineup.specs.Front.{front_entry, moved, sooner_of}
use Rattle.lineup.specs.Sizes.{length_joint}
use Rattle.lineup.specs.Pairs.{joint, side_of, StandsFor}
use Rattle.lineup.proofs.Fronts.{leads_by, within}
use Rattle.lineup.proofs.Joins.{front_append}

module _ (xs ys : List (Option ℕ)) (few : length xs ≤ most_places) where
  stands_first : (place : ℕ) → place < length xs → StandsFor xs ys place (Some (First place))
  stands_first place h =
      let rest = take (most_places - length xs) ys in (
        get_or_append_left xs rest None place h,
        grind (arith, nat_tests, length_joint xs ys few),
        λ v. grind (arith, set-append_left xs rest place v h, length-set xs place v),
      )

  stands_second : (place : ℕ) → length xs ≤ place → place < most_places → StandsFor xs ys place (Some (Second (place - length xs)))
  stands_second place h l =
      let rest = take (most_places - length xs) ys in (
        get_or-append_right xs rest (length xs) place None refl h ∙ get_or-take (most_places - length xs) ys (place - length xs) None (omega arith),
        grind (arith, nat_tests, length_joint xs ys few),
        λ v. set-append_right xs rest (length xs) place v refl h ∙ ap (λ t. xs ++ t) (sym (take-set-lt (most_places - length xs) ys (place - length xs) v (omega arith))),
      )

  stands_nowhere : (place : ℕ) → most_places ≤ place → StandsFor xs ys place None
  stands_nowhere place h =
      let e = length_joint xs ys few in
      let past : length (joint xs ys) ≤ place = omega arith in
      (get_or_past (joint xs ys) place None past, grind (arith, nat_tests, past), λ v. set_past (joint xs ys) place v past)

  pub stands_for : (place : ℕ) → StandsFor xs ys place (side_of (length xs) place)
  stands_for place =
      cond_both (nat_lt place (length xs)) _ _ (StandsFor xs ys place) (λ t. stands_first place (ltb-true place (length xs) t))
      (λ t.
      cond_both (nat_lt place most_places) _ _ (StandsFor xs ys place)
      (λ u. stands_second place (ltb-false place (length xs) t) (ltb-true place most_places u))
      (λ u. stands_nowhere place (ltb-false place most_places u)))

-- the front of the second's places that are the pair's, counted on, is no large number
pub front_fits : (ks : List (Option ℕ)) (own : ℕ) (r : Option Entry) → r ≡ front_entry (take (most_places - own) ks) → MatchOption r Unit (λ e. e.place + own < 2 ^ 64)
front_fits ks own None e = tt
front_fits ks own (Some b) e =
    let theirs = take (most_places - own) ks in
    let w = within theirs b.place b.key (leads_by theirs (Some b) e).0 in
    let t = length-take (most_places - own) ks in
    omega arith

-- the pair's front is the sooner of the two
pub pair_front : (xs ys : List (Option ℕ)) (own : ℕ) (low high : Option Entry) → own ≡ length xs → low ≡ front_entry xs → high ≡ front_entry (take (most_places - own) ys) → sooner_of low (moved own high) ≡ front_entry (joint xs ys)
pair_front xs ys own low high e f g =
    rw (f, g, e) (sym (front_append xs (take (most_places - length xs) ys)))
