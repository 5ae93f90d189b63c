-- The numbers of the rules. Each stands here once, and every other definition goes by its name.
use Rattle.std.specs.Prelude.{ℕ, ◌^◌}

-- the whole printer, in the parts that a share counts; also the largest share, and the most that is held at once
abbrev pub unit : ℕ
unit = 10000

-- the smallest share
abbrev pub least_share : ℕ
least_share = 50

-- the longest order in ticks; also the most that an order is late
abbrev pub longest : ℕ
longest = 3000

-- life, which grows with every link, order and pass, ends here
abbrev pub life_limit : ℕ
life_limit = 2 ^ 60

-- the most orders that wait at a station
abbrev pub ring_size : ℕ
ring_size = 8
