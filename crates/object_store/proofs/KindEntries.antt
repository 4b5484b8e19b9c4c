-- The events of a list in key order whose keys pass a test are the entries of such keys.
use Rattle.std.proofs.Common.{◌≡◌, Bool, true, false, cond, List, [], ◌∷◌, map, filter, Some, inl, inr, refl, sym, ap}
use Rattle.std.proofs.Common.{◌∙◌, subst}
use Rattle.std.specs.Ordering.{is_eq}
use Rattle.std.specs.Cmp.{IsTotalOrder, Equal-is}
use Rattle.std.specs.FinMap.{IsAntisymmetric, entries, find, get-from_entries}
use Rattle.road_base.specs.declared.ids.Key.{Key}
use Rattle.road_base.specs.declared.event.Event.{Event}
use Rattle.road_base.specs.Objects.{Objects, Entry, key_cmp}
use Rattle.road_base.specs.Applying.{entry_of}
use Rattle.object_store.specs.Listed.{key_of, pair_of, objects_of, IsInOrder, AreEntriesOf}
use Rattle.ordered_lists.proofs.ListMembers.{In, in_from_contains, contains_from_in}
use Rattle.ordered_lists.proofs.FilteredLists.{in_filter, from_filter}
use Rattle.object_store.proofs.InOrder.{found_at, entries_of}

same_inner : (a b : Entry) → Some a ≡ Some b → a ≡ b
same_inner a b f = cc

module _ (total : IsTotalOrder key_cmp) (exact : IsAntisymmetric key_cmp) where
  found_own : (k : Key) (xs : List Event) (e : Entry) → find key_cmp k (map pair_of xs) ≡ Some e
      → (x : Event) × In x xs × (x.key ≡ k) × (entry_of x ≡ e)
  found_own k [] e h = cc
  found_own k (y ∷ ys) e h =
      elim (is_eq (key_cmp k y.key)) as (λ t. is_eq (key_cmp k y.key) ≡ t
      → cond t (Some (entry_of y)) (find key_cmp k (map pair_of ys)) ≡ Some e
      → (x : Event) × In x (y ∷ ys) × (x.key ≡ k) × (entry_of x ≡ e)) [
        | true ↦ λ t f. (y, inl refl, sym (exact k y.key ((Equal-is _).0 t)), same_inner (entry_of y) e f)
        | false ↦ λ t f. let r = found_own k ys e f in (r.0, inr r.1, r.2, r.3)
      ] refl h

  pub entries_of_kind : (is_one : Key → Bool) (xs ones : List Event) → IsInOrder xs
      → ones ≡ filter (λ e. is_one e.key) xs → AreEntriesOf is_one (objects_of xs) ones
  entries_of_kind is_one xs ones h are = record {
    own = λ e c.
        let f = from_filter (λ (x : Event). is_one x.key) xs e (subst (In e) are (in_from_contains ones e c)) in
        let at = contains_from_in xs e f.0 in
        let found = found_at total exact e.key xs h at.0 e at.1 (ap key_of at.2) in
        (f.1, get-from_entries total (map pair_of xs) e.key ∙ found ∙ ap (λ (x : Event). Some (entry_of x)) at.2);
    all = λ k x passes is.
        let f = found_own k xs x (sym (get-from_entries total (map pair_of xs) k) ∙ is) in
        let one : In f.0 (filter (λ e. is_one e.key) xs) = in_filter (λ (x : Event). is_one x.key) xs f.0 f.1
        (ap is_one f.2 ∙ passes) in
        (f.0, contains_from_in ones f.0 (subst (In f.0) (sym are) one), f.2, f.3);
  }

-- the list's pairs are those of the map's entries
pub pairs_left : (p : Key → Bool) (xs : List Event)
    → map pair_of (filter (λ e. p e.key) xs) ≡ filter (λ (q : Key × Entry). p q.0) (map pair_of xs)
pairs_left p [] = refl
pairs_left p (x ∷ xs) =
    elim (p x.key) as (λ t. p x.key ≡ t → map pair_of (filter (λ e. p e.key) (x ∷ xs))
    ≡ filter (λ (q : Key × Entry). p q.0) (map pair_of (x ∷ xs))) [
      | true ↦ λ e. rw e (ap (λ l. pair_of x ∷ l) (pairs_left p xs))
      | false ↦ λ e. rw e (pairs_left p xs)
    ] refl

-- what is said of a list's events holds of the map that it stands for
pub pairs_of_kind : IsTotalOrder key_cmp → (is_one : Key → Bool) (M : Objects) (xs lent ones : List Event)
    → IsInOrder xs → objects_of xs ≡ M → lent ≡ xs → ones ≡ filter (λ e. is_one e.key) lent
    → map pair_of ones ≡ filter (λ (p : Key × Entry). is_one p.0) (entries M)
pairs_of_kind total is_one M xs lent ones h view same are =
    let ones_of = λ (p : Key × Entry). is_one p.0 in
    ap (map pair_of) are ∙ pairs_left is_one lent ∙ ap (λ l. filter ones_of (map pair_of l)) same
    ∙ ap (filter ones_of) (sym (entries_of total xs h) ∙ ap entries view)

pub exactly_kind : IsTotalOrder key_cmp → IsAntisymmetric key_cmp
    → (is_one : Key → Bool) (M : Objects) (xs lent ones : List Event) → IsInOrder xs → objects_of xs ≡ M → lent ≡ xs
    → ones ≡ filter (λ e. is_one e.key) lent
    → AreEntriesOf is_one M ones
exactly_kind total exact is_one M xs lent ones h view same are =
    subst (λ N. AreEntriesOf is_one N ones) view
    (entries_of_kind total exact is_one xs ones h (are ∙ ap (λ (l : List Event). filter (λ e. is_one e.key) l) same))
