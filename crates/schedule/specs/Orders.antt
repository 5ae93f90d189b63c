-- How long an order is, and how long a printer of one share would take for it.
use Rattle.std.specs.Prelude.{ℕ, ◌+◌, ◌-◌, ◌*◌, ◌/◌, Bool, not, ◌||◌, List, [], ◌∷◌, length, ◌==◌, nat_le, nat_lt, slice_index}
use Rattle.schedule.specs.declared.order.Order.{Order}
use Rattle.schedule.specs.declared.refusal.Refusal.TheVariants.{NoFormat, BadLength}
use Rattle.schedule.specs.Limits.{unit, least_share, longest, life_limit, ring_size}
use Rattle.schedule.specs.Refusals.{Conditions}

-- the feed length of each format in millimetres, by its code
abbrev pub feeds : List ℕ
feeds = 51 ∷ 54 ∷ 89 ∷ 102 ∷ 100 ∷ 114 ∷ 127 ∷ 130 ∷ 152 ∷ 150 ∷ 165 ∷ 178 ∷ 203 ∷ 254 ∷ 305 ∷ 610 ∷ []

-- the feed length of a format; 0 of a code that is no format's
unfoldable pub feed_of : ℕ → ℕ
feed_of format = slice_index feeds format

-- the length of an order: copies times feed length
unfoldable pub length_of : ℕ → ℕ → ℕ
length_of format copies = copies * feed_of format

-- the span of a length: its time on a printer of one share, rounded up to whole ticks; 0 at no share
unfoldable pub span_of : ℕ → ℕ → ℕ
span_of len share = (len * unit + (share - 1)) / share

-- the length of an order that waits
abbrev pub order_length : Order → ℕ
order_length o = length_of o.format o.copies

-- its span at a share
abbrev pub order_span : ℕ → Order → ℕ
order_span share o = span_of (order_length o) share

-- the share is out of range
abbrev pub bad_share : ℕ → Bool
bad_share share = nat_lt share least_share || nat_lt unit share

-- there is no such format
abbrev pub no_format : ℕ → Bool
no_format format = not (nat_lt format (length feeds))

-- there are no copies, or the order is too long
abbrev pub bad_length : ℕ → ℕ → Bool
bad_length format copies = copies == 0 || nat_lt longest (length_of format copies)

-- so many orders wait that none fits behind them
abbrev pub ring_full : ℕ → Bool
ring_full waiting = nat_le ring_size waiting

-- life would pass its limit
abbrev pub life_over : ℕ → ℕ → Bool
life_over life growth = nat_lt life_limit (life + growth)

-- why a format and copies make no order
abbrev pub length_conditions : ℕ → ℕ → Conditions
length_conditions format copies = (no_format format, NoFormat) ∷ (bad_length format copies, BadLength) ∷ []
