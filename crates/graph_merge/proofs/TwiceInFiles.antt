-- Ways that have a block in two of several files, each of which ascends.
use Rattle.std.proofs.Common.{◌≡◌, ℕ, zero, suc, ◌<◌, ◌≤◌, ◌⊎◌, List, [], ◌∷◌, inl, inr}
use Rattle.std.proofs.Common.{refl, arith, flat_map}
use Rattle.road_base.specs.declared.ids.WayId.{WayId}
use Rattle.road_model.specs.declared.blocks.Block.{Block}
use Rattle.ordered_lists.proofs.ListMembers.{in_from_contains, contains_from_in}
use Rattle.graph_merge.specs.Merging.{AreFiles, HasWayAt, StandsTwice}
use Rattle.graph_merge.proofs.CountedWays.{times, times_both, has_some, OfWay, from_some, at_most_once}

-- the blocks of all files, one behind the other
abbrev pub all_of : List (List Block) → List Block
all_of files = flat_map (λ f. f) files

-- the files behind the first one have it, a place earlier
later : (f : List Block) (fs : List (List Block)) (n : ℕ) (w : WayId) → HasWayAt (f ∷ fs) (suc n) w → HasWayAt fs n w
later f fs n w has = record {
  file = has.file;
  at = has.at;
  block = has.block;
  stands = has.stands;
  way_is = has.way_is;
}

shifted : (f : List Block) (fs : List (List Block)) (n : ℕ) (w : WayId) → HasWayAt fs n w → HasWayAt (f ∷ fs) (suc n) w
shifted f fs n w has =
    record { file = has.file; at = has.at; block = has.block; stands = has.stands; way_is = has.way_is }

in_head : (f : List Block) (fs : List (List Block)) (w : WayId) → HasWayAt (f ∷ fs) 0 w → 1 ≤ times w f
in_head f fs w has =
    let same : f ≡ has.file = cc (has.at) in
    has_some w f has.block (rw same (in_from_contains has.file has.block has.stands)) has.way_is

pub one_of_all : (files : List (List Block)) (n : ℕ) (w : WayId) → HasWayAt files n w → 1 ≤ times w (all_of files)
one_of_all [] n w has = absurd (cc (has.at))
one_of_all (f ∷ fs) zero w has =
    let one = in_head f fs w has in
    let all = times_both w f (all_of fs) in
    omega (arith, one, all)
one_of_all (f ∷ fs) (suc n) w has =
    let one = one_of_all fs n w (later f fs n w has) in
    let all = times_both w f (all_of fs) in
    omega (arith, one, all)

two_of_all : (files : List (List Block)) (i j : ℕ) (w : WayId) → i < j → HasWayAt files i w → HasWayAt files j w
    → 2 ≤ times w (all_of files)
two_of_all [] i j w apart first second = absurd (cc (first.at))
two_of_all (f ∷ fs) i zero w apart first second = absurd (omega (arith, apart))
two_of_all (f ∷ fs) zero (suc j) w apart first second =
    let one = in_head f fs w first in
    let more = one_of_all fs j w (later f fs j w second) in
    let all = times_both w f (all_of fs) in
    omega (arith, one, more, all)
two_of_all (f ∷ fs) (suc i) (suc j) w apart first second =
    let two = two_of_all fs i j w (omega (arith, apart)) (later f fs i w first) (later f fs j w second) in
    let all = times_both w f (all_of fs) in
    omega (arith, two, all)

-- two blocks of the way stand among those of all files
pub twice_counts : (files : List (List Block)) (w : WayId) → StandsTwice files w → 2 ≤ times w (all_of files)
twice_counts files w twice =
    two_of_all files twice.first twice.second w twice.apart twice.in_first twice.in_second

first_has : (f : List Block) (fs : List (List Block)) (w : WayId) → OfWay w f → HasWayAt (f ∷ fs) 0 w
first_has f fs w own = record {
  file = f;
  at = refl;
  block = own.block;
  stands = contains_from_in f own.block own.inside;
  way_is = own.own;
}

-- a file of the way
record SomeAt (files : List (List Block)) (w : WayId) : Type 0 where
  place : ℕ
  has : HasWayAt files place w

none_or_some : (n : ℕ) → (n ≡ 0) ⊎ (1 ≤ n)
none_or_some zero = inl refl
none_or_some (suc n) = inr (omega arith)

some_at : (files : List (List Block)) (w : WayId) → 1 ≤ times w (all_of files) → SomeAt files w
some_at [] w some = absurd (omega (arith, some))
some_at (f ∷ fs) w some = elim (none_or_some (times w f)) [
  | inl none ↦
      let all = times_both w f (all_of fs) in
      let further = some_at fs w (omega (arith, some, none, all)) in
      record { place = suc further.place; has = shifted f fs further.place w further.has }
  | inr one ↦
      let own = from_some w f one in
      record { place = 0; has = first_has f fs w own }
]

-- where each file ascends, two blocks of the way stand in two files
pub counts_twice : (version profile : ℕ) (files : List (List Block)) → AreFiles version profile files → (w : WayId)
    → 2 ≤ times w (all_of files) → StandsTwice files w
counts_twice version profile [] each w two = absurd (omega (arith, two))
counts_twice version profile (f ∷ fs) each w two = elim (none_or_some (times w f)) [
  | inl none ↦
      let all = times_both w f (all_of fs) in
      let further = counts_twice version profile fs each.1 w (omega (arith, two, none, all)) in
      let apart = further.apart in
      record {
        first = suc further.first;
        second = suc further.second;
        apart = omega (arith, apart);
        in_first = shifted f fs further.first w further.in_first;
        in_second = shifted f fs further.second w further.in_second;
      }
  | inr one ↦
      let few = at_most_once w f each.0.ascend in
      let all = times_both w f (all_of fs) in
      let other = some_at fs w (omega (arith, two, few, all)) in
      record {
        first = 0;
        second = suc other.place;
        apart = omega arith;
        in_first = first_has f fs w (from_some w f one);
        in_second = shifted f fs other.place w other.has;
      }
]
