-- The visits with which drives begin.
use Rattle.std.proofs.Common.{◌≡◌, inl, inr, ℕ, ◌+◌, ◌<◌, ◌≤◌, List, [], length, Contains}
use Rattle.std.proofs.Common.{sym, ◌∙◌, ap, subst, take, get_or}
use Rattle.std.proofs.lemmas.List.{take_more, take_all}
use Rattle.ordered_lists.proofs.ListMembers.{contains_more}
use Rattle.road_model.specs.declared.lists.PieceName.{PieceName}
use Rattle.context_search.specs.declared.ends.Begin.{Begin}
use Rattle.context_search.specs.declared.marks.Origin.{Origin}
use Rattle.context_search.specs.declared.marks.Origin.TheVariants.{Begins, Follows}
use Rattle.context_search.specs.declared.spots.Spot.{Spot}
use Rattle.context_search.specs.Marks.{At, at_of, key_of}
use Rattle.context_search.specs.Phases.{PhaseRules}
use Rattle.context_search.specs.Visits.{Marks, IsSearch, IsVisited, IsMarked, AreBegun, AreKnown, Grows, first_key}
use Rattle.context_search.specs.Visits.{state_key}
use Rattle.context_search.proofs.SearchMarks.{marked_cases, marked_grows, marked_keeps, marked_visited, visited_stays}

begin_from : Origin → ℕ
begin_from (Begins first) = first
begin_from (Follows j) = 0

same_begin : (a b : ℕ) → Begins a ≡ Begins b → a ≡ b
unfolding begin_from
same_begin a b e = ap begin_from e

begins_not : (P : Type 0) (first j : ℕ) → Begins first ≡ Follows j → P
begins_not P first j e = cc

-- the names of the context of the start's piece alone
abbrev pub alone : Begin → PieceName × List PieceName
alone s = (s.piece.now.name, [])

-- the context of the start's piece alone is visited
abbrev pub IsStartMarked : PhaseRules → List At → Begin → Marks → Marks → Type 0
IsStartMarked F L start m n = (spot : Spot) × Contains L (at_of spot) × (key_of (at_of spot) ≡ alone start)
    × IsMarked spot (F.start start.piece.now.zone) (Begins start.first) m n

pub start_marked : (F : PhaseRules) (L : List At) (start : Begin) (m n : Marks) (spot : Spot) → Contains L (at_of spot)
    → key_of (at_of spot) ≡ alone start
    → (phase : ℕ) → phase ≡ F.start start.piece.now.zone → IsMarked spot phase (Begins start.first) m n
    → IsStartMarked F L start m n
start_marked F L start m n spot has named phase starts is =
    (spot, has, named, subst (λ f. IsMarked spot f (Begins start.first) m n) starts is)

module _ (F : PhaseRules) (L : List At) (start : Begin) (m n : Marks) (is : IsStartMarked F L start m n) where
  named : state_key is.0 (F.start start.piece.now.zone) ≡ first_key F start
  named = λ i. (is.2 i, F.start start.piece.now.zone)

  pub start_grows : Grows L m n
  start_grows = marked_grows is.0 (F.start start.piece.now.zone) (Begins start.first) m n is.3 L is.1

  pub start_keeps : IsSearch F L m → AreKnown n → IsSearch F L n
  start_keeps s known = marked_keeps is.0 (F.start start.piece.now.zone) (Begins start.first) m n is.3 F L s known is.1
      (λ j e. begins_not _ start.first j e)

  pub start_visited : IsVisited n.visits (first_key F start)
  start_visited = subst (IsVisited n.visits) named
      (marked_visited is.0 (F.start start.piece.now.zone) (Begins start.first) m n is.3)

  pub start_begun : (starts : List Begin) → Contains starts start → AreBegun F starts m → AreBegun F starts n
  start_begun starts has old k first v e o =
      elim (marked_cases is.0 (F.start start.piece.now.zone) (Begins start.first) m n is.3 k v e) [
        | inl before ↦ old k first v before o
        | inr now ↦
            let step : start.first ≡ first = same_begin start.first first (sym now.1 ∙ o) in
            record { start = start; is = has; step = step; named = now.0 ∙ named }
      ]

pub more_started : (F : PhaseRules) (L : List At) (starts : List Begin) (i : ℕ) (d start : Begin) (m n : Marks)
    → i < length starts → start ≡ get_or starts i d → Grows L m n → IsVisited n.visits (first_key F start)
    → ((s : Begin) → Contains (take i starts) s → IsVisited m.visits (first_key F s))
    → (s : Begin) → Contains (take (i + 1) starts) s → IsVisited n.visits (first_key F s)
more_started F L starts i d start m n h is g now old s has =
    elim (contains_more (take i starts) (get_or starts i d) s
    (subst (λ l. Contains l s) (take_more starts i d h) has)) [
      | inl before ↦ visited_stays m n g.stays (first_key F s) (old s before)
      | inr same ↦ subst (λ (t : Begin). IsVisited n.visits (first_key F t)) (is ∙ sym same) now
    ]

pub all_started : (F : PhaseRules) (starts : List Begin) (i : ℕ) (m : Marks) → length starts ≤ i
    → ((s : Begin) → Contains (take i starts) s → IsVisited m.visits (first_key F s))
    → (s : Begin) → Contains starts s → IsVisited m.visits (first_key F s)
all_started F starts i m h f s has = f s (subst (λ l. Contains l s) (sym (take_all i starts h)) has)
