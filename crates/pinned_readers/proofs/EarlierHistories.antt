-- Histories without their last changes.
use Rattle.std.proofs.Common.{◌≡◌, ◌-◌, ◌≤◌, ℕ, List, [], ◌∷◌, length, ap, arith}
use Rattle.std.proofs.lemmas.List.{take_all, take-append-le, length-take-le}
use Rattle.road_base.specs.declared.event.Event.{Event}
use Rattle.road_base.specs.History.{History, kept, with_change}
use Rattle.pinned_readers.specs.PinnedRuns.{up_to}

with_changes : History → List (List Event) → History
with_changes h changes = record {
  profile = h.profile;
  base_number = h.base_number;
  base_events = h.base_events;
  changes = changes;
}

-- nothing stands above the number that is kept
pub all_of : (h : History) → up_to h (kept h) ≡ h
unfolding with_changes
all_of h =
    let enough : length h.changes ≤ kept h - h.base_number = omega arith in
    ap (with_changes h) (take_all (kept h - h.base_number) h.changes enough)

-- a change at the end alters nothing below it
pub before_change : (h : History) (change : List Event) (n : ℕ) → n ≤ kept h
    → up_to (with_change h change) n ≡ up_to h n
unfolding with_changes
before_change h change n below =
    let within : n - h.base_number ≤ length h.changes = omega (arith, below) in
    ap (with_changes h) (take-append-le (n - h.base_number) h.changes (change ∷ []) within)

-- it keeps its number
pub kept_up_to : (h : History) (n : ℕ) → h.base_number ≤ n → n ≤ kept h → kept (up_to h n) ≡ n
kept_up_to h n above below =
    let within : n - h.base_number ≤ length h.changes = omega (arith, below) in
    let taken = length-take-le (n - h.base_number) h.changes within in
    omega (arith, taken, above)

pub base_kept : (h : History) → h.base_number ≤ kept h
base_kept h = omega arith
