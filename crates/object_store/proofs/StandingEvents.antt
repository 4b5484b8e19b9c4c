-- What events leave of a map is what those of them leave that stand.
use Rattle.std.proofs.Common.{◌≡◌, List, [], ◌∷◌, ◌++◌, map, filter, Option, Some, None, refl, sym, ap, ◌∙◌}
use Rattle.std.specs.Option.{option_to_list}
use Rattle.std.specs.Cmp.{IsTotalOrder}
use Rattle.std.specs.FinMap.{IsAntisymmetric, empty, get, get-empty, get-from_entries}
use Rattle.road_base.specs.declared.ids.Key.{Key}
use Rattle.road_base.specs.declared.event.Event.{Event}
use Rattle.road_base.specs.Objects.{Objects, Entry, key_cmp}
use Rattle.road_base.specs.Applying.{entry_of, is_of, newer, first_greatest, entries_for, IsApplied}
use Rattle.object_store.specs.Listed.{pair_of, objects_of, IsInOrder}
use Rattle.object_store.proofs.InOrder.{own}

same_left : (xs ys zs : List Entry) → first_greatest ys ≡ first_greatest zs
    → first_greatest (xs ++ ys) ≡ first_greatest (xs ++ zs)
same_left [] ys zs e = e
same_left (x ∷ xs) ys zs e = ap (newer x) (same_left xs ys zs e)

greatest_alone : (o : Option Entry) → first_greatest (option_to_list o) ≡ o
greatest_alone None = refl
greatest_alone (Some e) = refl

-- the events of a key
abbrev pub entries_in : List Event → Key → List Entry
entries_in events k = map entry_of (filter (is_of k) events)

pub of_nothing : (events : List Event) (k : Key) → entries_for empty events k ≡ entries_in events k
of_nothing events k = rw (get-empty key_cmp k) refl

module _ (total : IsTotalOrder key_cmp) (exact : IsAntisymmetric key_cmp) where
  pub own_entry : (k : Key) (xs : List Event) → IsInOrder xs → option_to_list (get (objects_of xs) k) ≡ entries_in xs k
  own_entry k xs h = ap option_to_list (get-from_entries total (map pair_of xs) k) ∙ own total exact k xs h

  -- those that stand leave of a key what all leave
  same_greatest : (k : Key) (events stand : List Event) → IsInOrder stand → IsApplied empty events (objects_of stand)
      → first_greatest (entries_in events k) ≡ first_greatest (entries_in stand k)
  same_greatest k events stand h applied =
      ap first_greatest (sym (of_nothing events k)) ∙ sym (applied k) ∙ sym (greatest_alone (get (objects_of stand) k))
      ∙ ap first_greatest (own_entry k stand h)

  pub standing_for : (M N : Objects) (events stand : List Event) → IsInOrder stand
      → IsApplied empty events (objects_of stand) → IsApplied M events N → IsApplied M stand N
  standing_for M N events stand h standing applied k =
      applied k ∙ same_left (option_to_list (get M k)) (entries_in events k) (entries_in stand k)
      (same_greatest k events stand h standing)

  -- and what those leave that stand is what all leave
  pub standing_back : (M N : Objects) (events stand : List Event) → IsInOrder stand
      → IsApplied empty events (objects_of stand) → IsApplied M stand N → IsApplied M events N
  standing_back M N events stand h standing applied k =
      applied k ∙ sym (same_left (option_to_list (get M k)) (entries_in events k) (entries_in stand k)
      (same_greatest k events stand h standing))
