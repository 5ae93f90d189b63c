-- The front that is computed is the front, and the only one.
use Rattle.std.specs.Prelude.{◌≡◌, ℕ, zero, suc, ◌-◌, ◌<◌, ◌≤◌, List, [], ◌∷◌, ◌++◌, length, take, Some, None, Option, nat_lt, refl}
use Rattle.std.proofs.Common.{◌⊎◌, inl, inr, sym, ap, subst, ◌∙◌, ⊎_elim, arith, length-take}
use Rattle.std.proofs.lemmas.List.{get_or_past, get_or-take, get_or_append_left, get_or-append_right}
use Rattle.std.proofs.lemmas.Bool.{cases_lt, cond_both, ltb-true, ltb-false}
use Rattle.lineup.specs.declared.entry.Entry.{Entry}
use Rattle.lineup.specs.Rolls.{key_at}
use Rattle.lineup.specs.Front.{IsFront, OneFront, entry_of, moved, sooner_of, front_entry, front_of, place_of}

-- a place with a key is below the capacity
pub within : (ks : List (Option ℕ)) (q j : ℕ) → key_at ks q ≡ Some j → q < length ks
within ks q j a = grind (arith, get_or_past)

-- a key of two lists, one behind the other, is the first's or the second's
at_append : (xs ys : List (Option ℕ)) (q j : ℕ) → key_at (xs ++ ys) q ≡ Some j → (key_at xs q ≡ Some j) ⊎ ((length xs ≤ q) × (key_at ys (q - length xs) ≡ Some j))
at_append xs ys q j a =
    ⊎_elim (λ l. inl (sym (get_or_append_left xs ys None q l) ∙ a))
    (λ m. inr (m, sym (get_or-append_right xs ys (length xs) q None refl m) ∙ a))
    (cases_lt q (length xs))

-- a key of the first n places
of_take : (ks : List (Option ℕ)) (n q j : ℕ) → key_at (take n ks) q ≡ Some j → (q < n) × (key_at ks q ≡ Some j)
of_take ks n q j a = grind (arith, get_or-take, length-take, within)

-- a front with its key
abbrev pub Leads : List (Option ℕ) → Option Entry → Type 0
Leads ks None = (q : ℕ) → key_at ks q ≡ None
Leads ks (Some e) =
    (key_at ks e.place ≡ Some e.key) × ((q j : ℕ) → key_at ks q ≡ Some j → (e.key ≤ j) × (q < e.place → e.key < j))

-- it is one
leads_unique : (ks : List (Option ℕ)) (a b : Option Entry) → Leads ks a → Leads ks b → a ≡ b
leads_unique ks None None f g = refl
leads_unique ks None (Some e) f g = grind (arith, f, g)
leads_unique ks (Some e) None f g = grind (arith, f, g)
leads_unique ks (Some e) (Some d) f g = grind (arith, f, g)

-- the front of two lists, one behind the other, is the sooner of both
pub leads_append : (xs ys : List (Option ℕ)) (a b : Option Entry) → Leads xs a → Leads ys b → Leads (xs ++ ys) (sooner_of a (moved (length xs) b))
leads_append xs ys None None f g =
    λ q. grind (arith, get_or_append_left, get_or-append_right, f q, g (q - length xs), cases_lt q (length xs))
leads_append xs ys None (Some e) f g = (
  grind (arith, get_or-append_right, g.0),
  λ q j a. grind (arith, at_append xs ys q j a, f q, g.1 (q - length xs) j),
)
leads_append xs ys (Some e) None f g = (
  grind (arith, get_or_append_left, within, f.0),
  λ q j a. grind (arith, at_append xs ys q j a, f.1 q j, g (q - length xs), within),
)
leads_append xs ys (Some e) (Some d) f g =
    cond_both (nat_lt d.key e.key) _ _ (Leads (xs ++ ys))
    (λ t. (grind (arith, get_or-append_right, g.0), λ q j a. grind (arith, at_append xs ys q j a, f.1 q j, g.1 (q - length xs) j, ltb-true d.key e.key t)))
    (λ t. (grind (arith, get_or_append_left, within, f.0), λ q j a. grind (arith, at_append xs ys q j a, f.1 q j, g.1 (q - length xs) j, ltb-false d.key e.key t, within)))

leads_one : (o : Option ℕ) → Leads (o ∷ []) (entry_of 0 o)
leads_one None = elim [ zero ↦ refl | suc q ↦ refl ]
leads_one (Some k) = (refl, elim [ zero ↦ λ j a. grind (arith, a) | suc q ↦ λ j a. grind (arith, a) ])

-- what is computed is the front with its key
pub leads_found : (ks : List (Option ℕ)) → Leads ks (front_entry ks)
leads_found [] = λ q. refl
leads_found (o ∷ ks) = leads_append (o ∷ []) ks (entry_of 0 o) (front_entry ks) (leads_one o) (leads_found ks)

-- the same of what equals it
pub leads_by : (ks : List (Option ℕ)) (b : Option Entry) → b ≡ front_entry ks → Leads ks b
leads_by ks b e = subst (Leads ks) (sym e) (leads_found ks)

-- and the front with its key is what is computed
pub leads_is : (ks : List (Option ℕ)) (b : Option Entry) → Leads ks b → b ≡ front_entry ks
leads_is ks b h = leads_unique ks b (front_entry ks) h (leads_found ks)

is_front : (ks : List (Option ℕ)) (b : Option Entry) → Leads ks b → IsFront ks (place_of b)
is_front ks None h = h
is_front ks (Some e) (at, h) = (e.key, at, h)

-- what is the front is what is computed
pub front_is : (ks : List (Option ℕ)) (r : Option ℕ) → IsFront ks r → r ≡ front_of ks
front_is ks None h = ap place_of (leads_is ks None h)
front_is ks (Some p) (k, at, h) = ap place_of (leads_is ks (Some (record { place = p; key = k })) (at, h))

-- every list has one front
pub one_front : OneFront
one_front ks = (is_front ks (front_entry ks) (leads_found ks), front_is ks)

-- the place in front and its key are what is computed
pub entry_is : (ks : List (Option ℕ)) (p : ℕ) → Some p ≡ front_of ks → entry_of p (key_at ks p) ≡ front_entry ks
entry_is ks p f = go (front_entry ks) (leads_found ks) f
  where
    go : (b : Option Entry) → Leads ks b → Some p ≡ place_of b → entry_of p (key_at ks p) ≡ b
    go None h e = grind arith
    go (Some b) h e = grind (arith, h)

-- no front, no entry
pub entry_none : (ks : List (Option ℕ)) → None ≡ front_of ks → None ≡ front_entry ks
entry_none ks f = go (front_entry ks) f
  where
    go : (b : Option Entry) → None ≡ place_of b → None ≡ b
    go None e = refl
    go (Some b) e = grind arith

-- a front among the first n places is theirs too
pub front_kept : (ks : List (Option ℕ)) (n : ℕ) (e : Entry) → e.place < n → Some e ≡ front_entry ks → Some e ≡ front_entry (take n ks)
front_kept ks n e l f =
    let g = leads_by ks (Some e) f in
    leads_is (take n ks) (Some e) (get_or-take n ks e.place None l ∙ g.0, λ q j a. g.1 q j (of_take ks n q j a).1)

-- where no place has a key, none of the first n has
pub front_none_kept : (ks : List (Option ℕ)) (n : ℕ) → None ≡ front_entry ks → None ≡ front_entry (take n ks)
front_none_kept ks n f =
    leads_is (take n ks) None (λ q. grind (arith, leads_by ks None f q, get_or-take n ks q None, get_or_past (take n ks) q None, length-take, cases_lt q n))
