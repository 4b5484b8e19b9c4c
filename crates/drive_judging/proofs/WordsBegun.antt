-- The words that begin with given steps stand together where words are sorted by their steps.
use Rattle.std.proofs.Common.{◌≡◌, ◌↔◌, ℕ, zero, suc, List, [], ◌∷◌, ◌++◌, length, take, drop, Contains}
use Rattle.std.proofs.Common.{pos, true, false, Option, Ordering, refl, sym, ap, ◌∙◌, subst}
use Rattle.std.specs.Ordering.{is_lt, is_eq, ordering_then}
use Rattle.std.specs.declared.cmp.Ordering.TheVariants.{Less, Equal, Greater}
use Rattle.std.specs.Cmp.{Equal-is}
use Rattle.std.specs.FinMap.{slice_cmp-IsAntisymmetric}
use Rattle.std.specs.List.{filter}
use Rattle.std.specs.List.Sorted.{IsSortedByKey}
use Rattle.std.proofs.lemmas.Cmp.{tied_itself}
use Rattle.std.proofs.lemmas.List.{take-append-drop}
use Rattle.road_base.specs.declared.ids.RelationId.{RelationId}
use Rattle.road_base.specs.declared.ids.Step.{Step}
use Rattle.road_base.specs.contracts.ids.StepOrd.TheImpl.{ghosts as step_order}
use Rattle.ordered_lists.proofs.FilteredLists.{contains_filter, contains_from_filter}
use Rattle.restrictions.specs.declared.word_list.Word.{Word}
use Rattle.turn_automata.specs.Watched.{Must}
use Rattle.drive_judging.specs.DriveWords.{steps_cmp, AreInWordOrder}
use Rattle.drive_judging.specs.Judging.{DemandsNext, LeavesBehind, IsLeastIf}
use Rattle.drive_judging.proofs.WordOrder.{step_ties, steps_total}
use Rattle.drive_judging.proofs.WordsCompared.{must_by, must_of, least_same}

then_below : (r s t : Ordering) → (is_lt s ≡ false → is_lt t ≡ false) → is_lt (ordering_then r s) ≡ false
    → is_lt (ordering_then r t) ≡ false
then_below Less s t f h = h
then_below Equal s t f h = f h
then_below Greater s t f h = h

-- the fronts of two lists stand in their order, or are equal
fronts_so : (n : ℕ) (a b : List Step) → is_lt (steps_cmp a b) ≡ false → is_lt (steps_cmp (take n a) (take n b)) ≡ false
fronts_so zero a b h = refl
fronts_so (suc n) [] [] h = refl
fronts_so (suc n) [] (y ∷ b) h = h
fronts_so (suc n) (x ∷ a) [] h = refl
fronts_so (suc n) (x ∷ a) (y ∷ b) h = then_below (step_order.cmp x y) (steps_cmp a b) (steps_cmp (take n a) (take n b))
    (fronts_so n a b) h

abbrev pub front_of : ℕ → Word → List Step
front_of n w = take n w.steps

pub fronts_sorted : (n : ℕ) (words : List Word) → AreInWordOrder words → IsSortedByKey (front_of n) steps_cmp words
fronts_sorted n words sorted k d low high = fronts_so n _ _ (sorted k d low high)

take_whole : (driven rest : List Step) → take (length driven) (driven ++ rest) ≡ driven
take_whole [] rest = refl
take_whole (x ∷ driven) rest = ap (λ v. x ∷ v) (take_whole driven rest)

-- the front is equal to the driven steps exactly where they begin the word
module _ (driven : List Step) where
  begins_by : (w : Word) → is_eq (steps_cmp (front_of (length driven) w) driven) ≡ true
      → (rest : List Step) × (w.steps ≡ driven ++ rest)
  begins_by w h =
      let e = slice_cmp-IsAntisymmetric step_ties _ _ ((Equal-is _).0 h) in (
        drop (length driven) w.steps,
        sym (take-append-drop (length driven) w.steps)
            ∙ ap (λ v. v ++ drop (length driven) w.steps) e,
      )

  tied_by : (w : Word) (rest : List Step) → w.steps ≡ driven ++ rest
      → is_eq (steps_cmp (front_of (length driven) w) driven) ≡ true
  tied_by w rest e =
      let f : take (length driven) w.steps ≡ driven = ap (take (length driven)) e ∙ take_whole driven rest in
      (Equal-is _).1 (ap (λ v. steps_cmp v driven) f ∙ tied_itself steps_total driven)

  pub begun : (words part : List Word)
      → part ≡ filter (λ w. is_eq (steps_cmp (front_of (length driven) w) driven)) words
      → (w : Word) → Contains part w ↔ (Contains words w × ((rest : List Step) × (w.steps ≡ driven ++ rest)))
  begun words part is w = (
    λ c.
        let k = contains_from_filter (λ v. is_eq (steps_cmp (front_of (length driven) v) driven)) words w
        (subst (λ l. Contains l w) is c) in
        (k.0, begins_by w k.1),
    λ p. subst (λ l. Contains l w) (sym is)
        (contains_filter (λ v. is_eq (steps_cmp (front_of (length driven) v) driven)) words w p.0
        (tied_by w p.1.0 p.1.1)),
  )

-- ---- what Only words demand is told by the words that begin with the driven steps

module _ (words near : List Word) (driven : List Step) (s : Step)
    (same : (w : Word) → Contains near w ↔ (Contains words w × ((rest : List Step) × (w.steps ≡ driven ++ rest)))) where
  near_word : (w : Word) (x : Step) → Contains words w → DemandsNext driven w x → Contains near w
  near_word w x c d = (same w).1 (c, (x ∷ d.rest, d.is))

  near_must : Must words driven s → Must near driven s
  near_must m =
      let w = must_of words driven s m in must_by near driven s w.0 (near_word w.0 s w.1 w.2) w.2

  far_must : Must near driven s → Must words driven s
  far_must m =
      let w = must_of near driven s m in must_by words driven s w.0 ((same w.0).0 w.1).0 w.2

  pub near_least : (o : Option RelationId) → IsLeastIf (LeavesBehind near driven s) o
      → IsLeastIf (LeavesBehind words driven s) o
  near_least o h = least_same (LeavesBehind near driven s) (LeavesBehind words driven s)
      (λ r k.
      let w = k.word in record {
        lacks = λ m. k.lacks (near_must m);
        word = record { word = w.word; among = ((same w.word).0 w.among).0; of = w.of; is = w.is };
      })
      (λ r k.
      let w = k.word in record {
        lacks = λ m. k.lacks (far_must m);
        word = record { word = w.word; among = near_word w.word w.is.0 w.among w.is.1; of = w.of; is = w.is };
      })
      o h

pub some_word : Word
some_word = record { relation = record { 0 = pos 0 }; only = false; binding = 0; steps = [] }
