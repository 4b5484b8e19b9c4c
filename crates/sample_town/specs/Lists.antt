-- The lists of events that a town gives: its base, then ten changes, and then nothing. The number i of a thing among
-- its kind counts from 0.
use Rattle.std.specs.Prelude.{Bool, ℕ, ◌+◌, ◌*◌, ◌-◌, ◌/◌, ◌%◌, ◌==◌, nat_lt, List, [], ◌++◌, cond}
use Rattle.road_base.specs.declared.event.Event.{Event}
use Rattle.sample_town.specs.Draws.{after_draws, drawn_below, iterate, listed}
use Rattle.sample_town.specs.Streets.{node, east_way, north_way, restriction, deletion}

-- ---- the base

-- the i-th node, row by row
abbrev pub base_node : ℕ → Event
base_node i = node 0 (i / 60) (i % 60)

-- whether the way for which this state draws is oneway
abbrev pub drawn_oneway : ℕ → Bool
drawn_oneway s = drawn_below 8 s == 0

-- the i-th way to the east, row by row, with the i-th draw
abbrev pub base_east_way : ℕ → ℕ → Event
base_east_way n i = east_way 0 (i / 59) (i % 59) (drawn_oneway (after_draws i n))

-- the i-th way to the north, row by row, with the i-th draw behind those of the ways to the east
abbrev pub base_north_way : ℕ → ℕ → Event
base_north_way n i = north_way 0 (i / 60) (i % 60) (drawn_oneway (after_draws (3540 + i) n))

-- the restriction that is drawn from the state s: its column, its row and its kind
unfoldable pub drawn_restriction : ℕ → ℕ → Event
drawn_restriction number s =
    restriction number (drawn_below 60 (after_draws 1 s)) (drawn_below 57 s) (drawn_below 4 (after_draws 2 s))

-- the i-th restriction, with three draws behind those of the ways and of the restrictions before it
abbrev pub base_restriction : ℕ → ℕ → Event
base_restriction n i = drawn_restriction (1 + i) (after_draws (7080 + 3 * i) n)

unfoldable pub base : ℕ → List Event
base n =
    listed base_node 3600 ++ listed (base_east_way n) 3540
    ++ listed (base_north_way n) 3540
    ++ listed (base_restriction n) 600

-- ---- the changes

-- the event of change q that is drawn from the state s: a node moves, a way is oneway or not, or a restriction is
-- deleted; the next draw says which object, and for a way the one behind it whether it is oneway
unfoldable pub drawn_event : ℕ → ℕ → Event
drawn_event q s =
    let next = after_draws 1 s in
    cond (drawn_below 3 s == 0) (node q (drawn_below 3600 next / 60) (drawn_below 3600 next % 60))
    (cond (drawn_below 3 s == 1)
    (east_way q (drawn_below 3540 next / 59) (drawn_below 3540 next % 59) (drawn_below 2 (after_draws 2 s) == 1))
    (deletion q (1 + drawn_below 600 next)))

-- the state that the draws of one such event leave: three for a way, else two
unfoldable pub after_event : ℕ → ℕ
after_event s = after_draws (cond (drawn_below 3 s == 1) 3 2) s

-- the twenty events of change q that are drawn from the state s on
abbrev pub change_from : ℕ → ℕ → List Event
change_from q s = listed (λ i. drawn_event q (iterate after_event i s)) 20

-- the state before change q, counted from 1: behind the 8880 draws of the base, and those of the changes before it
unfoldable pub before_change : ℕ → ℕ → ℕ
before_change n q = iterate after_event (20 * (q - 1)) (after_draws 8880 n)

abbrev pub change : ℕ → ℕ → List Event
change n q = change_from q (before_change n q)

-- ---- all of them

-- How far a town has come: the number that it is made from, and how many lists it gave, the empty ones not counted.
pub record Progress : Type 0 where
  pub number : ℕ
  pub given : ℕ

-- the list that a call gives
unfoldable pub next_list : Progress → List Event
next_list t = cond (t.given == 0) (base t.number) (cond (nat_lt t.given 11) (change t.number t.given) [])

-- the town behind a call: one more list is given, up to eleven
unfoldable pub after_list : Progress → Progress
after_list t = record { number = t.number; given = cond (nat_lt t.given 11) (t.given + 1) t.given }

-- the state before the list that a call gives
unfoldable pub before_list : ℕ → ℕ → ℕ
before_list n given = cond (given == 0) n (before_change n given)
