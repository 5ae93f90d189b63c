-- The front of two lists of keys, one behind the other.
use Rattle.std.specs.Prelude.{◌≡◌, ℕ, ◌+◌, List, [], ◌∷◌, ◌++◌, length, take, Some, None, Option, refl}
use Rattle.std.proofs.Common.{sym, arith, length-take}
use Rattle.std.proofs.lemmas.List.{get_or_past, take_all, take_more}
use Rattle.std.proofs.lemmas.Bool.Decides.{nat_tests}
use Rattle.std.proofs.lemmas.Bool.{cases_lt}
use Rattle.lineup.specs.declared.entry.Entry.{Entry}
use Rattle.lineup.specs.Rolls.{key_at}
use Rattle.lineup.specs.Front.{entry_of, moved, sooner_of, front_entry}
use Rattle.lineup.proofs.Fronts.{leads_append, leads_found, leads_is}

-- the second's places count on from the first's length, and among equals the first's come before
pub front_append : (xs ys : List (Option ℕ)) → front_entry (xs ++ ys) ≡ sooner_of (front_entry xs) (moved (length xs) (front_entry ys))
front_append xs ys = sym (leads_is (xs ++ ys) _ (leads_append xs ys _ _ (leads_found xs) (leads_found ys)))

sooner_alone : (a : Option Entry) → sooner_of a None ≡ a
sooner_alone None = refl
sooner_alone (Some a) = refl

-- among three, it is all one which two are compared first
sooner_assoc : (a b c : Option Entry) → sooner_of (sooner_of a b) c ≡ sooner_of a (sooner_of b c)
sooner_assoc None b c = refl
sooner_assoc (Some a) None c = refl
sooner_assoc (Some a) (Some b) None = sooner_alone (sooner_of (Some a) (Some b))
sooner_assoc (Some a) (Some b) (Some c) = grind (arith, nat_tests)

one_place : (n : ℕ) (o : Option ℕ) → moved n (front_entry (o ∷ [])) ≡ entry_of n o
one_place n None = refl
one_place n (Some k) = grind arith

-- one place more, behind all others
front_more : (ks : List (Option ℕ)) (i : ℕ) → sooner_of (front_entry (take i ks)) (entry_of i (key_at ks i)) ≡ front_entry (take (i + 1) ks)
front_more ks i =
    grind (arith, take_more ks i None, front_append (take i ks) (key_at ks i ∷ []), one_place i (key_at ks i), get_or_past ks i None, take_all, sooner_alone, length-take, cases_lt i (length ks))

-- the same as a step of a search from the start
pub search_step : (ks : List (Option ℕ)) (i : ℕ) (best new : Option Entry) → best ≡ front_entry (take i ks) → new ≡ entry_of i (key_at ks i) → sooner_of best new ≡ front_entry (take (i + 1) ks)
search_step ks i best new e f = rw (e, f) (front_more ks i)
