-- Lengths of orders, from what is known of a format's feed length.
use Rattle.std.proofs.Common.{◌≡◌, ℕ, zero, suc, ◌+◌, ◌*◌, ◌/◌, ◌<◌, ◌≤◌, ◌⊎◌, ⊎_elim, Bool, true, false, cond, [], ◌∷◌, Some, None, Ok, Err, Result, refl, arith}
use Rattle.std.proofs.lemmas.Bool.Decides.{nat_tests}
use Rattle.schedule.specs.declared.refusal.Refusal.{Refusal}
use Rattle.schedule.specs.declared.refusal.Refusal.TheVariants.{NoFormat, BadLength}
use Rattle.schedule.specs.Limits.{longest}
use Rattle.schedule.specs.Orders.{feed_of, length_of, no_format, bad_length, length_conditions}
use Rattle.schedule.specs.Refusals.{first_of, unless}

-- a feed length that was answered is the format's
pub record Known (format feed : ℕ) : Type 0 where
  pub there : no_format format ≡ false
  pub is : feed ≡ feed_of format

pub feed_known : (format feed : ℕ) → ◌≡◌ {A = Result ℕ Refusal} (Ok feed) (unless (first_of ((no_format format, NoFormat) ∷ [])) (feed_of format)) → Known format feed
feed_known format feed h = by (no_format format) refl
  where
    by : (t : Bool) → no_format format ≡ t → Known format feed
    by true e = let k : ◌≡◌ {A = Result ℕ Refusal} (Ok feed) (Err NoFormat) = rw e at h in absurd cc
    by false e = let k : ◌≡◌ {A = Result ℕ Refusal} (Ok feed) (Ok (feed_of format)) = rw e at h in record { there = e; is = cc }

-- the first refusal of a format that is there
pub refused_length : (format copies : ℕ) → no_format format ≡ false → first_of (length_conditions format copies) ≡ cond (bad_length format copies) (Some BadLength) None
refused_length format copies there = rw there

module _ (format copies feed : ℕ) (known : Known format feed) where
  -- copies that make an order, and copies that make none
  pub length_made : 0 < copies → copies * feed ≤ longest → first_of (length_conditions format copies) ≡ None
  unfolding length_of
  length_made some few =
      let e = known.is in
      let good : bad_length format copies ≡ false = grind (arith, nat_tests) in
      rw (refused_length format copies known.there, good)

  pub length_refused : (copies ≡ 0) ⊎ (longest < copies * feed) → first_of (length_conditions format copies) ≡ Some BadLength
  unfolding length_of
  length_refused why =
      let bad : bad_length format copies ≡ true = ⊎_elim none many why in
      rw (refused_length format copies known.there, bad)
    where
      none : copies ≡ 0 → bad_length format copies ≡ true
      none e = grind (arith, nat_tests)

      many : longest < copies * feed → bad_length format copies ≡ true
      many h = let e = known.is in grind (arith, nat_tests)

-- as many copies as go into the longest order make one, and one more does not
pub most_fit : (feed : ℕ) → 0 < feed → longest / feed * feed ≤ longest
most_fit feed some = omega arith

pub one_more : (feed : ℕ) → 0 < feed → longest < (longest / feed + 1) * feed
one_more feed some = omega arith

pub some_fit : (feed : ℕ) → 0 < feed → feed ≤ 610 → 0 < longest / feed
some_fit feed some few = by (longest / feed) (one_more feed some)
  where
    by : (q : ℕ) → longest < (q + 1) * feed → 0 < q
    by zero h = absurd (omega arith)
    by (suc q) h = omega arith
