-- A binary heap: what stands at each position, and in which sequence.
-- Only the heap's own functions cite these; what a heap means to others is the list of its keys.
use Rattle.std.specs.Prelude.{◌≡◌, ℕ, ◌+◌, ◌-◌, ◌*◌, ◌/◌, ◌<◌, ◌≤◌, List, length, is_some, Option, ◌≢◌, nat_lt, slice_index}
use Rattle.std.specs.Option.{unwrap_or}
use Rattle.lineup.specs.Rolls.{heap_places, most_places, key_at}

-- the position above position j
abbrev pub parent : ℕ → ℕ
parent j = (j - 1) / 2

-- a place's rank: by its key, and by its number among equals, as one number
abbrev pub rank : List (Option ℕ) → ℕ → ℕ
rank ks p = unwrap_or (key_at ks p) 0 * most_places + p

-- a heap of n positions, ranked by f: none ranks before its parent
abbrev pub IsHeap : (ℕ → ℕ) → ℕ → Type 0
IsHeap f n = (j : ℕ) → 0 < j → j < n → f (parent j) ≤ f j

-- a heap but that position i may rank before its parent
abbrev pub ButUp : (ℕ → ℕ) → ℕ → ℕ → Type 0
ButUp f n i = (j : ℕ) → 0 < j → j < n → (j ≢ i) → f (parent j) ≤ f j

-- a heap but that the children of position i may rank before it
abbrev pub ButDown : (ℕ → ℕ) → ℕ → ℕ → Type 0
ButDown f n i = (j : ℕ) → 0 < j → j < n → (parent j ≢ i) → f (parent j) ≤ f j

-- a heap but for both
abbrev pub ButAround : (ℕ → ℕ) → ℕ → ℕ → Type 0
ButAround f n i = (j : ℕ) → 0 < j → j < n → (j ≢ i) → (parent j ≢ i) → f (parent j) ≤ f j

-- the children of position i do not rank before its parent
abbrev pub Across : (ℕ → ℕ) → ℕ → ℕ → Type 0
Across f n i = (j : ℕ) → 0 < j → j < n → parent j ≡ i → 0 < i → f (parent i) ≤ f j

-- a child of position i that no other ranks before
abbrev pub LeastChild : (ℕ → ℕ) → ℕ → ℕ → ℕ → Type 0
LeastChild f n i c =
    (0 < c) × (c < n) × (parent c ≡ i) × ((j : ℕ) → 0 < j → j < n → parent j ≡ i → f c ≤ f j)

-- g is f with two positions swapped
abbrev pub Swapped : (ℕ → ℕ) → (ℕ → ℕ) → ℕ → ℕ → Type 0
Swapped f g a b = (g a ≡ f b) × (g b ≡ f a) × ((m : ℕ) → (m ≢ a) → (m ≢ b) → g m ≡ f m)

-- an entry for each place, or for each position, from which the other list leads back
abbrev pub LeadsBack : List ℕ → List ℕ → Type 0
LeadsBack xs ys =
    (length xs ≡ heap_places)
    × ((i : ℕ) → i < heap_places → (slice_index xs i < heap_places) × (slice_index ys (slice_index xs i) ≡ i))

-- the places that have a key, and no others, stand at the first n positions
abbrev pub Members : List (Option ℕ) → List ℕ → ℕ → Type 0
Members ks positions n = (p : ℕ) → p < heap_places → is_some (key_at ks p) ≡ nat_lt (slice_index positions p) n
