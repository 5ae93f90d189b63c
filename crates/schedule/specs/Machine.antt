-- What a hub does, as a plain machine over natural numbers and lists: its state, why each call is refused, and what an
-- accepted call changes and answers. docs/RULES.md has the same rules in words, in the same sequence.
use Rattle.std.specs.Prelude.{ℕ, suc, ◌+◌, ◌-◌, max, Bool, true, false, cond, not, ◌&&◌, ◌||◌, List, [], ◌∷◌, ◌++◌, length, replicate, is_some, Some, None, Option, Result, ◌==◌, nat_lt, slice_index_or, slice_set}
use Rattle.std.specs.Option.{option_map, unwrap_or}
use Rattle.lineup.specs.declared.entry.Entry.{Entry}
use Rattle.lineup.specs.Rolls.{key_at, no_keys}
use Rattle.lineup.specs.Front.{front_entry}
use Rattle.schedule.specs.declared.call.Call.{Call}
use Rattle.schedule.specs.declared.call.Answer.{Answer}
use Rattle.schedule.specs.declared.order.Order.{Order}
use Rattle.schedule.specs.declared.order.State.{State}
use Rattle.schedule.specs.declared.order.State.TheVariants.{Empty, Linked, Leaving, Cooling}
use Rattle.schedule.specs.declared.refusal.Refusal.{Refusal}
use Rattle.schedule.specs.Limits.{unit}
use Rattle.schedule.specs.Orders.{length_of, span_of, order_length, order_span, bad_share, no_format, bad_length, ring_full, life_over}
use Rattle.schedule.specs.Refusals.{Conditions, first_of, unless}

-- a station: where one customer at a time links a phone
pub record Station : Type 0 where
  pub state : State
  -- the session's part of the printer, in ten-thousandths
  pub share : ℕ
  -- the number of the session
  pub session : ℕ
  -- how many of its orders were accepted
  pub accepted : ℕ
  -- the due of the last of them
  pub last_due : ℕ
  -- by which the station is ordered among those that wait; 0 while it waits, for then the stamp is a key
  pub stamp : ℕ
  -- the orders that wait, oldest first
  pub orders : List Order

pub record Machine : Type 0 where
  -- how many stations there are
  pub capacity : ℕ
  -- the run clock: the ticks that have passed
  pub run : ℕ
  -- the shift clock: the run clock, moved ahead whenever the printer could serve the waiting stations sooner than their ideal starts say
  pub shift : ℕ
  -- the ticks left to feed; an order is being fed only while there are any
  pub left : ℕ
  -- the due of the order taken last
  pub due : ℕ
  -- all that links, orders and passes have added: no other number outgrows it
  pub life : ℕ
  -- the next session's number
  pub next_session : ℕ
  pub stations : List Station
  -- the stamp of each waiting station, and none of any other
  pub stamps : List (Option ℕ)
  -- the ideal start of each waiting station, and none of any other; the station's span is its stamp less its ideal start
  pub ideals : List (Option ℕ)

-- a station that was never linked
abbrev pub empty_station : Station
empty_station = record { state = Empty; share = 0; session = 0; accepted = 0; last_due = 0; stamp = 0; orders = [] }

-- a new machine
abbrev pub start : ℕ → Machine
start capacity =
    record {
      capacity = capacity;
      run = 0;
      shift = 0;
      left = 0;
      due = 0;
      life = 0;
      next_session = 1;
      stations = replicate capacity empty_station;
      stamps = no_keys capacity;
      ideals = no_keys capacity;
    }

-- WORDS

abbrev pub station_at : ℕ → Machine → Station
station_at p m = slice_index_or m.stations p empty_station

abbrev pub is_linked : State → Bool
is_linked Empty = false
is_linked Linked = true
is_linked Leaving = false
is_linked Cooling = false

-- a station is free when empty, or when cooling with the shift clock past its stamp
abbrev pub free_by : State → Bool → Bool
free_by Empty past = true
free_by Linked past = false
free_by Leaving past = false
free_by Cooling past = past

abbrev pub is_free : ℕ → Station → Bool
is_free shift st = free_by st.state (nat_lt st.stamp shift)

-- the shares of all stations that are not free are held
abbrev pub held_by : ℕ → Station → ℕ
held_by shift st = cond (is_free shift st) 0 st.share

abbrev pub held_in : ℕ → List Station → ℕ
held_in shift [] = 0
held_in shift (st ∷ sts) = held_by shift st + held_in shift sts

-- an order is being fed
abbrev pub feeding : Machine → Bool
feeding m = nat_lt 0 m.left

-- some station waits
abbrev pub any_waits : Machine → Bool
any_waits m = is_some (front_entry m.stamps)

-- the place in front and its key; 0 where none is in front
abbrev pub place_in : Option Entry → ℕ
place_in None = 0
place_in (Some e) = e.place

abbrev pub key_in : Option Entry → ℕ
key_in None = 0
key_in (Some e) = e.key

-- the earliest ideal start; 0 where no station waits
abbrev pub earliest : Machine → ℕ
earliest m = key_in (front_entry m.ideals)

-- the place of the linked session of a number
abbrev pub is_session : ℕ → Station → Bool
is_session session st = is_linked st.state && st.session == session

abbrev pub find_session : ℕ → List Station → Option ℕ
find_session session [] = None
find_session session (st ∷ sts) = cond (is_session session st) (Some 0) (option_map (λ p. suc p) (find_session session sts))

abbrev pub found : ℕ → Machine → Option ℕ
found session m = find_session session m.stations

-- the place where a session was found; 0 where it was not
abbrev pub place_of : ℕ → Machine → ℕ
place_of session m = unwrap_or (found session m) 0

-- the orders that wait at a station; at a leaving one a blank waits instead
abbrev pub waiting_at : Station → List Order
waiting_at st = cond (is_linked st.state) st.orders []

-- PARTS OF THE STEPS: each changes what its name says and nothing else

abbrev pub with_station : ℕ → Station → Machine → Machine
with_station p st m = record m { stations = slice_set m.stations p st }

abbrev pub with_keys : ℕ → Option ℕ → Option ℕ → Machine → Machine
with_keys p stamp ideal m = record m { stamps = slice_set m.stamps p stamp; ideals = slice_set m.ideals p ideal }

abbrev pub with_shift : ℕ → Machine → Machine
with_shift shift m = record m { shift = shift }

abbrev pub with_feed : ℕ → ℕ → Machine → Machine
with_feed left due m = record m { left = left; due = due }

abbrev pub with_life : ℕ → Machine → Machine
with_life life m = record m { life = life }

abbrev pub with_next_session : ℕ → Machine → Machine
with_next_session session m = record m { next_session = session }

-- LINK a station at a share

abbrev pub link_conditions : ℕ → ℕ → Machine → Conditions
link_conditions p share m =
    (not (nat_lt p m.capacity), Refusal.NoStation)
    ∷ (bad_share share, Refusal.ShareOutOfRange)
    ∷ (is_linked (station_at p m).state, Refusal.AlreadyLinked)
    ∷ (not (is_free m.shift (station_at p m)), Refusal.NotFree)
    ∷ (nat_lt unit (held_in m.shift m.stations + share), Refusal.SharesFull)
    ∷ (life_over m.life 1, Refusal.LifeOver)
    ∷ []

-- linked with stamp 0, last due 0 and no orders
abbrev pub linked_station : ℕ → ℕ → Station
linked_station share session = record { state = Linked; share = share; session = session; accepted = 0; last_due = 0; stamp = 0; orders = [] }

abbrev pub linked : ℕ → ℕ → Machine → Machine
linked p share m =
    with_life (m.life + 1) (with_next_session (m.next_session + 1) (with_station p (linked_station share m.next_session) m))

-- ORDER copies of a format, in a session

abbrev pub order_conditions : Option ℕ → ℕ → ℕ → Machine → Conditions
order_conditions place format copies m =
    let st : Station = station_at (unwrap_or place 0) m in
    (not (is_some place), Refusal.NoSession)
    ∷ (no_format format, Refusal.NoFormat)
    ∷ (bad_length format copies, Refusal.BadLength)
    ∷ (ring_full (length st.orders), Refusal.RingFull)
    ∷ (life_over m.life (span_of (length_of format copies) st.share), Refusal.LifeOver)
    ∷ []

-- its due: the larger of run clock and last due, plus the span
abbrev pub new_order : ℕ → ℕ → Station → Machine → Order
new_order format copies st m =
    record { format = format; copies = copies; due = max m.run st.last_due + span_of (length_of format copies) st.share }

-- it waits behind the others, and its due is the last
abbrev pub with_order : Order → Station → Station
with_order o st = record st { accepted = st.accepted + 1; last_due = o.due; stamp = 0; orders = st.orders ++ (o ∷ []) }

-- the shift clock, if lower, rises to the earliest ideal start; where no station waits it stays
abbrev pub raised : Machine → Machine
raised m = with_shift (max m.shift (earliest m)) m

-- an ideal start: the larger of shift clock and stamp; and a stamp: that plus the span
abbrev pub ideal_start : Station → Machine → ℕ
ideal_start st m = max m.shift st.stamp

abbrev pub begun : ℕ → ℕ → Station → Machine → Machine
begun p span st m = with_keys p (Some (ideal_start st m + span)) (Some (ideal_start st m)) m

-- a station that waits already keeps its stamp and ideal start; any other gets them, after the shift clock was raised
abbrev pub joined : Option ℕ → ℕ → ℕ → Station → Machine → Machine
joined (Some stamp) p span st m = m
joined None p span st m = begun p span st (raised m)

abbrev pub ordered_at : ℕ → Order → ℕ → Station → Machine → Machine
ordered_at p o span st m = with_life (m.life + span) (with_station p (with_order o st) (joined (key_at m.stamps p) p span st m))

abbrev pub ordered : ℕ → ℕ → ℕ → Machine → Machine
ordered p format copies m =
    let st : Station = station_at p m in
    ordered_at p (new_order format copies st m) (span_of (length_of format copies) st.share) st m

-- NEXT

abbrev pub next_conditions : Machine → Conditions
next_conditions m = (feeding m, Refusal.Feeding) ∷ (not (any_waits m), Refusal.NoneWaits) ∷ []

-- lastly, if no station waits any more, the shift clock, if lower, rises to the stamp just taken
abbrev pub settled : ℕ → Machine → Machine
settled stamp m = with_shift (cond (any_waits m) m.shift (max m.shift stamp)) m

-- a blank is passed over: the station cools, with its stamp in its record
abbrev pub cooled : ℕ → Station → Station
cooled stamp st = record st { state = Cooling; stamp = stamp; orders = [] }

-- the station with these orders and this stamp in its record
abbrev pub with_orders : List Order → ℕ → Station → Station
with_orders orders stamp st = record st { stamp = stamp; orders = orders }

-- if orders remain, the ideal start becomes the stamp, and the stamp grows by the new head's span; if none, the station waits no more
abbrev pub requeued : ℕ → ℕ → Station → List Order → Machine → Machine
requeued p stamp st [] m = with_keys p None None (with_station p (with_orders [] stamp st) m)
requeued p stamp st (o ∷ os) m =
    with_keys p (Some (stamp + order_span st.share o)) (Some stamp) (with_station p (with_orders (o ∷ os) 0 st) m)

-- the oldest order is taken, its length is left to feed and its due is kept; a blank leaves both as they were
abbrev pub taken : ℕ → ℕ → Station → List Order → Machine → Machine
taken p stamp st [] m = settled stamp (with_keys p None None (with_station p (cooled stamp st) m))
taken p stamp st (o ∷ os) m = settled stamp (requeued p stamp st os (with_feed (order_length o) o.due m))

abbrev pub taken_answer : ℕ → ℕ → Station → List Order → Answer
taken_answer p stamp st [] = Answer.PassedOver p
taken_answer p stamp st (o ∷ os) =
    Answer.HandedOut st.session (st.accepted - length os) p o.format o.copies (order_length o) o.due stamp

-- the waiting station of least stamp
abbrev pub taken_at : Option Entry → Machine → Machine
taken_at front m =
    let st : Station = station_at (place_in front) m in
    taken (place_in front) (key_in front) st (waiting_at st) m

abbrev pub taken_at_answer : Option Entry → Machine → Answer
taken_at_answer front m =
    let st : Station = station_at (place_in front) m in
    taken_answer (place_in front) (key_in front) st (waiting_at st)

-- PASS ticks

abbrev pub pass_conditions : ℕ → Machine → Conditions
pass_conditions ticks m =
    (feeding m && nat_lt m.left ticks, Refusal.PastFeed)
    ∷ (not (feeding m) && any_waits m, Refusal.SomeWaits)
    ∷ (life_over m.life ticks, Refusal.LifeOver)
    ∷ []

-- both clocks and life grow by the ticks, and the feed shrinks by them
abbrev pub passed : ℕ → Machine → Machine
passed ticks m = record m { run = m.run + ticks; shift = m.shift + ticks; left = m.left - ticks; life = m.life + ticks }

-- SHIFT to a value

abbrev pub shift_conditions : ℕ → Machine → Conditions
shift_conditions value m =
    (not (any_waits m), Refusal.NoneWaits)
    ∷ (nat_lt value m.shift || nat_lt (earliest m) value, Refusal.OutOfReach)
    ∷ []

-- UNLINK a session

-- a blank waits on if an order did
abbrev pub left_behind : List Order → State
left_behind [] = Cooling
left_behind (o ∷ os) = Leaving

-- the waiting orders are erased; a stamp and an ideal start that are keys stay so
abbrev pub unlinked_station : Station → Station
unlinked_station st = record st { state = left_behind st.orders; orders = [] }

abbrev pub unlinked_at : ℕ → Machine → Machine
unlinked_at p m = with_station p (unlinked_station (station_at p m)) m

-- THE SIX CALLS

-- the conditions of each call's refusals
abbrev pub conditions : Call → Machine → Conditions
conditions (Call.Link station share) m = link_conditions station share m
conditions (Call.Order session format copies) m = order_conditions (found session m) format copies m
conditions Call.Next m = next_conditions m
conditions (Call.Pass ticks) m = pass_conditions ticks m
conditions (Call.Shift value) m = shift_conditions value m
conditions (Call.Unlink session) m = (not (is_some (found session m)), Refusal.NoSession) ∷ []

-- what each call changes where it is accepted
abbrev pub effect : Call → Machine → Machine
effect (Call.Link station share) m = linked station share m
effect (Call.Order session format copies) m = ordered (place_of session m) format copies m
effect Call.Next m = taken_at (front_entry m.stamps) m
effect (Call.Pass ticks) m = passed ticks m
effect (Call.Shift value) m = with_shift value m
effect (Call.Unlink session) m = unlinked_at (place_of session m) m

-- what it answers then
abbrev pub answer_to : Call → Machine → Answer
answer_to (Call.Link station share) m = Answer.Linked m.next_session
answer_to (Call.Order session format copies) m =
    let st : Station = station_at (place_of session m) m in
    Answer.Accepted (st.accepted + 1) (new_order format copies st m).due
answer_to Call.Next m = taken_at_answer (front_entry m.stamps) m
answer_to (Call.Pass ticks) m = Answer.Passed (m.run + ticks) (m.left - ticks)
answer_to (Call.Shift value) m = Answer.Shifted value
answer_to (Call.Unlink session) m = Answer.Unlinked (length (station_at (place_of session m) m).orders)

-- what a call leaves and answers
pub record Outcome : Type 0 where
  pub after : Machine
  pub answer : Result Answer Refusal

-- a refusal changes nothing
abbrev pub outcome : Option Refusal → Call → Machine → Outcome
outcome None c m = record { after = effect c m; answer = unless None (answer_to c m) }
outcome (Some r) c m = record { after = m; answer = unless (Some r) (answer_to c m) }

-- one step: the first condition that holds refuses the call
abbrev pub step : Call → Machine → Outcome
step c m = outcome (first_of (conditions c m)) c m

-- the machine after a list of calls, and the answers to them
abbrev pub after : List Call → Machine → Machine
after [] m = m
after (c ∷ cs) m = after cs (step c m).after

abbrev pub answers : List Call → Machine → List (Result Answer Refusal)
answers [] m = []
answers (c ∷ cs) m = (step c m).answer ∷ answers cs (step c m).after
