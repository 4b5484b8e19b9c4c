-- Parts of a grid, and where in it places lie.
use Rattle.std.specs.Prelude.{◌≡◌, ℕ, ◌+◌, ◌-◌, ◌/◌, ◌<◌, ◌≤◌, Bool, ◌&&◌, ◌||◌, IsTrue, nat_lt, nat_le}
use Rattle.std.specs.Prelude.{pos, ◌+ℤ◌, unsigned_abs}
use Rattle.road_base.specs.declared.location.Location.{Location}
use Rattle.cell_plan.specs.declared.intervals.Interval.{Interval}
use Rattle.cell_plan.specs.declared.intervals.Rect.{Rect}

-- how many units of 1e-7 degree the place lies east of the root square's west edge, and north of its south edge
abbrev pub units_east : Location → ℕ
units_east p = unsigned_abs (p.lon +ℤ pos 1800000000)

abbrev pub units_north : Location → ℕ
units_north p = unsigned_abs (p.lat +ℤ pos 1800000000)

-- the number is one of these, which begin at `start` and end before `end`
abbrev pub in_interval : Interval → ℕ → Bool
in_interval s n = nat_le s.start n && nat_lt n s.end

-- the square of the grid with that column and row is one of these
abbrev pub in_rect : Rect → ℕ → ℕ → Bool
in_rect r column row = in_interval r.columns column && in_interval r.rows row

-- the place lies in these units of 1e-7 degree
abbrev pub in_units : Rect → Location → Bool
in_units r p = in_rect r (units_east p) (units_north p)

-- the place lies in these squares of the grid of that side
abbrev pub in_squares : ℕ → Rect → Location → Bool
in_squares side r p = in_rect r (units_east p / side) (units_north p / side)

-- the squares of the grid of that side that touch these units of 1e-7 degree
abbrev pub touched_interval : ℕ → Interval → Interval
touched_interval side s = record { start = s.start / side; end = s.end / side + 1 }

abbrev pub touched : ℕ → Rect → Rect
touched side r = record { columns = touched_interval side r.columns; rows = touched_interval side r.rows }

-- the square of the grid with that column and row is one of a square's, or one of those that are touched
abbrev pub is_near : Rect → Rect → ℕ → ℕ → Bool
is_near square touched column row = in_rect square column row || in_rect touched column row

-- how many columns there are
abbrev pub width : Rect → ℕ
width r = r.columns.end - r.columns.start

-- two intervals share no number and have all of a third one's, than which each is shorter if it is longer than one
pub record AreHalves (s low high : Interval) : Type 0 where
  pub either : (n : ℕ) → in_interval s n ≡ (in_interval low n || in_interval high n)
  pub apart : (n : ℕ) → IsTrue (in_interval low n) → IsTrue (in_interval high n) → ⊥
  pub low_shorter : 1 < s.end - s.start → low.end - low.start < s.end - s.start
  pub high_shorter : 1 < s.end - s.start → high.end - high.start < s.end - s.start

-- no square of the grid is in both
abbrev pub ShareNone : Rect → Rect → Type 0
ShareNone a b = (column row : ℕ) → IsTrue (in_rect a column row) → IsTrue (in_rect b column row) → ⊥

-- no edge of a is beyond that of b
pub record HasEdgesInside (a b : Rect) : Type 0 where
  pub west : b.columns.start ≤ a.columns.start
  pub east : a.columns.end ≤ b.columns.end
  pub south : b.rows.start ≤ a.rows.start
  pub north : a.rows.end ≤ b.rows.end

-- four parts, of which no two share a square, have all squares of a rectangle
pub record AreQuadrants (r a b c d : Rect) : Type 0 where
  pub each : (column row : ℕ) → in_rect r column row
      ≡ (((in_rect a column row || in_rect b column row) || in_rect c column row) || in_rect d column row)
  pub b_apart : ShareNone a b
  pub c_apart : ShareNone a c × ShareNone b c
  pub d_apart : ShareNone a d × ShareNone b d × ShareNone c d
