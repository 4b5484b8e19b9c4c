-- The entries of a history's objects are one list of events.
use mathlib.Core.HLevel.{is_prop→PathP}
use mathlib.Core.Bool.{Bool-set}
use Rattle.std.proofs.Common.{◌≡◌, ◌∙◌, List, [], ◌∷◌, map, length, refl, sym, ap, IsTrue, true, arith}
use Rattle.std.specs.FinMap.{empty, entries}
use Rattle.road_base.specs.Kinds.{has_kind}
use Rattle.road_base.specs.declared.ids.Key.{Key}
use Rattle.road_base.specs.declared.event.Event.{Event}
use Rattle.road_base.specs.History.{History, all_events}
use Rattle.road_base.specs.Objects.{Entry}
use Rattle.road_base.specs.Applying.{entry_of}
use Rattle.osmroad.specs.Checkpoints.{AreItsEntries}
use Rattle.osmroad.proofs.CitedLaws.{OneMap}

abbrev pair : Event → Key × Entry
pair e = (e.key, entry_of e)

-- events of one key and one entry are equal
same_event : (x y : Event) → pair x ≡ pair y → x ≡ y
same_event x y e = λ i. record {
  key = (e i).0;
  version = (e i).1.version;
  body = (e i).1.body;
  kind = is_prop→PathP (λ j. IsTrue (has_kind (e j).0 (e j).1.body))
      (λ j. Bool-set (has_kind (e j).0 (e j).1.body) true) x.kind y.kind i;
}

abbrev first_of : {A : Type 0} → A → List A → A
first_of x [] = x
first_of x (y ∷ ys) = y

abbrev rest_of : {A : Type 0} → List A → List A
rest_of [] = []
rest_of (y ∷ ys) = ys

same_events : (xs ys : List Event) → map pair xs ≡ map pair ys → xs ≡ ys
same_events [] [] e = refl
same_events [] (y ∷ ys) e = absurd (omega (arith, ap (λ (l : List (Key × Entry)). length l) e))
same_events (x ∷ xs) [] e = absurd (omega (arith, ap (λ (l : List (Key × Entry)). length l) e))
same_events (x ∷ xs) (y ∷ ys) e =
    let first : x ≡ y = same_event x y (ap (first_of (pair x)) e) in
    let rest : xs ≡ ys = same_events xs ys (ap rest_of e) in
    λ i. first i ∷ rest i

pub entries_of_one : OneMap → (h : History) (x y : List Event) → AreItsEntries h x → AreItsEntries h y → x ≡ y
entries_of_one one h x y a b =
    let same : a.objects ≡ b.objects = one empty a.objects b.objects (all_events h) a.has b.has in
    same_events x y (a.are ∙ (ap entries same ∙ sym b.are))
