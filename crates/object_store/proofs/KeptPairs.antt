-- The object map of events that are kept at their keys: what is found in it and listed, and what changes leave of it.
use Rattle.std.proofs.Common.{◌≡◌, ℕ, suc, true, false, cond, List, [], ◌∷◌, ◌++◌, ◌&&◌, map, filter, Option, Some}
use Rattle.std.proofs.Common.{None, Bool, inl, inr, nat_lt, nat_le, refl, sym, ap, subst, ◌∙◌, arith, Ordering, IsTrue}
use Rattle.std.proofs.Common.{append_assoc, append-nil}
use Rattle.std.specs.Ordering.{is_lt, eq_by_cmp}
use Rattle.std.specs.Option.{option_map, option_to_list}
use Rattle.std.specs.Cmp.{IsTotalOrder, Equal-is}
use Rattle.std.specs.FinMap.{IsAntisymmetric, get, get-from_entries, from_entries, find, is_sorted, entries}
use Rattle.std.specs.FinMap.Entries.{below_all, find-put}
use Rattle.std.proofs.lemmas.Bool.Decides.{leb_tells}
use Rattle.road_base.specs.declared.ids.Key.{Key}
use Rattle.road_base.specs.declared.event.Event.{Event}
use Rattle.road_base.specs.Objects.{Objects, Entry, key_cmp}
use Rattle.road_base.specs.Applying.{entry_of, is_of, first_greatest, IsApplied}
use Rattle.ordered_lists.specs.Orders.{rises, rises_from}
use Rattle.ordered_lists.proofs.AscendingLists.{rest_rises, rises_kept}
use Rattle.layered_maps.specs.Maps.{keyed, change_pair, changed_by}
use Rattle.layered_maps.specs.declared.change.Change.{Change}
use Rattle.layered_maps.proofs.FoundPairs.{pairs_rise, keys_rise}
use Rattle.layered_maps.proofs.OverPairs.{over_rises}
use Rattle.object_store.specs.Listed.{key_of, pair_of, objects_of, is_any, AreEntriesOf, IsInOrder}
use Rattle.object_store.specs.Keeping.{kept_pair, objects_in, is_later, stands, puts}
use Rattle.object_store.proofs.KindEntries.{exactly_kind}
use Rattle.object_store.proofs.InOrder.{entries_of, none_kept, other_above}

-- ---- orders that compare alike

module _ (cmp : Key → Key → Ordering) (by : (a b : Key) → cmp a b ≡ key_cmp a b) where
  same_order : cmp ≡ key_cmp
  same_order = λ i a b. by a b i

  pub exact_by : IsAntisymmetric key_cmp → IsAntisymmetric cmp
  exact_by exact = subst (λ (f : Key → Key → Ordering). IsAntisymmetric f) (sym same_order) exact

  pub rising_by : (es : List Event) → IsInOrder es → IsTrue (rises cmp (map key_of es))
  rising_by es up = subst (λ (f : Key → Key → Ordering). IsTrue (rises f (map key_of es))) (sym same_order) up

  pub sorted_by : {V : Type 0} (ps : List (Key × V)) → IsTrue (is_sorted key_cmp ps) → IsTrue (is_sorted cmp ps)
  sorted_by ps up = subst (λ (f : Key → Key → Ordering). IsTrue (is_sorted f ps)) (sym same_order) up

  pub changed_as : (changes : List (Change Key Event)) (ps : List (Key × Event))
      → changed_by key_of cmp changes ps ≡ changed_by key_of key_cmp changes ps
  changed_as changes ps = ap (λ (f : Key → Key → Ordering). changed_by key_of f changes ps) same_order

-- ---- what is found, and what is listed

find_kept : (k : Key) (ps : List (Key × Event))
    → find key_cmp k (map kept_pair ps) ≡ option_map entry_of (find key_cmp k ps)
find_kept k [] = refl
find_kept k (p ∷ ps) =
    elim (eq_by_cmp key_cmp k p.0) as (λ b. cond b (Some (entry_of p.1)) (find key_cmp k (map kept_pair ps))
    ≡ option_map entry_of (cond b (Some p.1) (find key_cmp k ps))) [ true ↦ refl | false ↦ find_kept k ps ]

pub got : IsTotalOrder key_cmp → (k : Key) (ps : List (Key × Event))
    → get (objects_in ps) k ≡ option_map entry_of (find key_cmp k ps)
got total k ps = get-from_entries total (map kept_pair ps) k ∙ find_kept k ps

pub got_by : IsTotalOrder key_cmp → (cmp : Key → Key → Ordering) → ((a b : Key) → cmp a b ≡ key_cmp a b) → (k : Key)
    → (ps : List (Key × Event)) (o : Option Event) → o ≡ find cmp k ps → option_map entry_of o ≡ get (objects_in ps) k
got_by total cmp by k ps o e =
    ap (option_map entry_of) (e ∙ ap (λ (f : Key → Key → Ordering). find f k ps) (same_order cmp by))
    ∙ sym (got total k ps)

kept_pairs : (es : List Event) → map kept_pair (map (keyed key_of) es) ≡ map pair_of es
kept_pairs [] = refl
kept_pairs (e ∷ es) = ap (λ l. pair_of e ∷ l) (kept_pairs es)

-- the map of events that are kept at their own keys is that of the list
pub kept_objects : (es : List Event) → objects_in (map (keyed key_of) es) ≡ objects_of es
kept_objects es = ap from_entries (kept_pairs es)

module _ (total : IsTotalOrder key_cmp) where
  pub kept_sorted : (es : List Event) (ps : List (Key × Event)) → ps ≡ map (keyed key_of) es → IsInOrder es
      → IsTrue (is_sorted key_cmp ps)
  kept_sorted es ps e up =
      subst (λ l. IsTrue (is_sorted key_cmp l)) (sym e) (pairs_rise key_of key_cmp total es up)

  pub walked_in_order : (es : List Event) (ps : List (Key × Event)) → map (keyed key_of) es ≡ ps
      → IsTrue (is_sorted key_cmp ps) → IsInOrder es
  walked_in_order es ps e up =
      keys_rise key_of key_cmp total es (subst (λ l. IsTrue (is_sorted key_cmp l)) (sym e) up)

  pub walked_entries : (es : List Event) (ps : List (Key × Event)) → map (keyed key_of) es ≡ ps
      → IsTrue (is_sorted key_cmp ps) → entries (objects_in ps) ≡ map pair_of es
  walked_entries es ps e up =
      ap (λ l. entries (objects_in l)) (sym e) ∙ ap entries (kept_objects es)
      ∙ entries_of total es (walked_in_order es ps e up)

all_kept : (es : List Event) → es ≡ filter (λ e. is_any e.key) es
all_kept [] = refl
all_kept (e ∷ es) = ap (λ l. e ∷ l) (all_kept es)

pub walked_exactly : IsTotalOrder key_cmp → IsAntisymmetric key_cmp → (es : List Event) (ps : List (Key × Event))
    → map (keyed key_of) es ≡ ps → IsTrue (is_sorted key_cmp ps) → (M : Objects) → objects_in ps ≡ M
    → AreEntriesOf is_any M es
walked_exactly total exact es ps e up M is =
    exactly_kind total exact is_any M es es es (walked_in_order total es ps e up)
    (sym (kept_objects es) ∙ ap objects_in e ∙ is) refl (all_kept es)

-- ---- what changes leave

put_first : (b : Bool) (e : Event) (es : List Event)
    → puts (cond b (e ∷ es) es) ≡ puts (cond b (e ∷ []) []) ++ puts es
put_first true e es = refl
put_first false e es = refl

-- one more event is put, or passed over
pub one_put : (p : Event → Bool) (e : Event) (rest whole : List Event) (old new all : List (Change Key Event))
    → whole ≡ e ∷ rest → old ++ puts (filter p whole) ≡ all → new ≡ old ++ puts (filter p (e ∷ []))
    → new ++ puts (filter p rest) ≡ all
one_put p e rest whole old new all split before here =
    ap (λ l. l ++ puts (filter p rest)) here ∙ append_assoc old (puts (filter p (e ∷ []))) (puts (filter p rest))
    ∙ ap (λ l. old ++ l) (sym (put_first (p e) e (filter p rest))) ∙ ap (λ l. old ++ puts (filter p l)) (sym split)
    ∙ before

pub all_put : (p : Event → Bool) (rest : List Event) (new all : List (Change Key Event)) → rest ≡ []
    → new ++ puts (filter p rest) ≡ all → new ≡ all
all_put p rest new all none before =
    sym (append-nil new) ∙ ap (λ l. new ++ puts (filter p l)) (sym none) ∙ before

-- one more event is copied
pub one_copied : (old new left rest all : List Event) (e : Event) → left ≡ e ∷ rest → old ++ left ≡ all
    → new ≡ old ++ e ∷ [] → new ++ rest ≡ all
one_copied old new left rest all e split before here =
    ap (λ l. l ++ rest) here ∙ append_assoc old (e ∷ []) rest ∙ ap (λ l. old ++ l) (sym split) ∙ before

pub all_copied : (new rest all : List Event) → rest ≡ [] → new ++ rest ≡ all → new ≡ all
all_copied new rest all none before = sym (append-nil new) ∙ ap (λ l. new ++ l) (sym none) ∙ before

below_same : (k : Key) (es : List Event) → below_all key_cmp k (map (change_pair key_of) (puts es))
    ≡ below_all key_cmp k (map (keyed key_of) es)
below_same k [] = refl
below_same k (e ∷ es) = ap (λ b. is_lt (key_cmp k e.key) && b) (below_same k es)

sorted_same : (es : List Event) → is_sorted key_cmp (map (change_pair key_of) (puts es))
    ≡ is_sorted key_cmp (map (keyed key_of) es)
sorted_same [] = refl
sorted_same (e ∷ es) = λ i. below_same e.key es i && sorted_same es i

pub puts_rise : IsTotalOrder key_cmp → (es : List Event) → IsInOrder es
    → IsTrue (is_sorted key_cmp (map (change_pair key_of) (puts es)))
puts_rise total es up = sorted_same es ∙ pairs_rise key_of key_cmp total es up

greatest_old : (o : Option Entry) → first_greatest (option_to_list o ++ []) ≡ o
greatest_old None = refl
greatest_old (Some e) = refl

chosen : (a b : ℕ) (x y : Option Entry) → cond (nat_le b a) x y ≡ cond (nat_lt a b) y x
chosen a b x y =
    elim (leb_tells b a) [
      | inl h ↦ elim (leb_tells (suc a) b) [
        | inl g ↦ absurd (omega (arith, h.1, g.1))
        | inr g ↦ ap (λ t. cond t x y) h.0 ∙ sym (ap (λ t. cond t y x) g.0)
      ]
      | inr h ↦ elim (leb_tells (suc a) b) [
        | inl g ↦ ap (λ t. cond t x y) h.0 ∙ sym (ap (λ t. cond t y x) g.0)
        | inr g ↦ absurd (omega (arith, h.1, g.1))
      ]
    ]

greatest_new : (o : Option Entry) (e : Event)
    → first_greatest (option_to_list o ++ entry_of e ∷ []) ≡ cond (is_later o e) (Some (entry_of e)) o
greatest_new None e = refl
greatest_new (Some old) e = chosen old.version e.version (Some old) (Some (entry_of e))

skipped : (b c : Bool) (x y : Option Event) → c ≡ false → cond b (cond c x y) y ≡ y
skipped true c x y h = ap (λ d. cond d x y) h
skipped false c x y h = refl

taken : (b c : Bool) (e : Event) (y : Option Event) (o : Option Entry) → c ≡ true → option_map entry_of y ≡ o
    → option_map entry_of (cond b (cond c (Some e) y) y) ≡ cond b (Some (entry_of e)) o
taken true c e y o h g = ap (λ d. option_map entry_of (cond d (Some e) y)) h
taken false c e y o h g = g

module _ (total : IsTotalOrder key_cmp) (exact : IsAntisymmetric key_cmp) (ps : List (Key × Event)) where
  abbrev with_all : List Event → List (Key × Event)
  with_all es = changed_by key_of key_cmp (puts es) ps

  -- what the events leave of the pairs
  abbrev pub after : List Event → List (Key × Event)
  after es = with_all (filter (stands (objects_in ps)) es)

  put_found : (k : Key) (e : Event) (b : Bool) (es : List Event) → find key_cmp k (with_all (cond b (e ∷ es) es))
      ≡ cond b (cond (is_of k e) (Some e) (find key_cmp k (with_all es))) (find key_cmp k (with_all es))
  put_found k e true es = find-put key_cmp total k e.key e (with_all es)
  put_found k e false es = refl

  applied_at : (k : Key) (es : List Event) → IsInOrder es → option_map entry_of (find key_cmp k (after es))
      ≡ first_greatest (option_to_list (get (objects_in ps) k) ++ map entry_of (filter (is_of k) es))
  applied_at k [] up = sym (got total k ps) ∙ sym (greatest_old (get (objects_in ps) k))
  applied_at k (e ∷ es) up =
      let M = objects_in ps in
      let y = find key_cmp k (after es) in
      let rest = applied_at k es (rest_rises key_cmp e.key (map key_of es) up) in
      let put = put_found k e (stands M e) (filter (stands M) es) in
      elim (is_of k e) as (λ t. is_of k e ≡ t → option_map entry_of (find key_cmp k (after (e ∷ es)))
      ≡ first_greatest (option_to_list (get M k)
      ++ map entry_of (cond t (e ∷ filter (is_of k) es) (filter (is_of k) es)))) [
        | true ↦ λ t.
            let own : k ≡ e.key = exact k e.key ((Equal-is _).0 t) in
            let none : filter (is_of k) es ≡ [] = none_kept k es (other_above total k es
            (subst (λ n. IsTrue (rises_from key_cmp n (map key_of es))) (sym own) up)) in
            let before : option_map entry_of y ≡ get M k = rest
            ∙ ap (λ l. first_greatest (option_to_list (get M k) ++ map entry_of l)) none ∙ greatest_old (get M k) in
            ap (option_map entry_of) put ∙ taken (stands M e) (is_of k e) e y (get M k) t before
            ∙ ap (λ n. cond (is_later (get M n) e) (Some (entry_of e)) (get M k)) (sym own)
            ∙ sym (greatest_new (get M k) e)
            ∙ ap (λ l. first_greatest (option_to_list (get M k) ++ map entry_of (e ∷ l))) (sym none)
        | false ↦ λ t.
            ap (option_map entry_of) (put ∙ skipped (stands M e) (is_of k e) (Some e) y t) ∙ rest
      ] refl

  pub after_applied : (es : List Event) → IsInOrder es → IsApplied (objects_in ps) es (objects_in (after es))
  after_applied es up k = got total k (after es) ∙ applied_at k es up

  pub after_sorted : (es : List Event) → IsTrue (is_sorted key_cmp ps) → IsTrue (is_sorted key_cmp (after es))
  after_sorted es up =
      over_rises key_cmp total (map (change_pair key_of) (puts (filter (stands (objects_in ps)) es))) ps up

  pub kept_rise : (es : List Event) → IsInOrder es
      → IsTrue (is_sorted key_cmp (map (change_pair key_of) (puts (filter (stands (objects_in ps)) es))))
  kept_rise es up =
      puts_rise total (filter (stands (objects_in ps)) es)
      (rises_kept key_of key_cmp total (stands (objects_in ps)) es up)

module _ (total : IsTotalOrder key_cmp) (exact : IsAntisymmetric key_cmp) (cmp : Key → Key → Ordering)
    (by : (a b : Key) → cmp a b ≡ key_cmp a b) (ps : List (Key × Event)) (M : Objects) (is : objects_in ps ≡ M)
    (es : List Event) (changes : List (Change Key Event)) (put : changes ≡ puts (filter (stands M) es)) where
  these : changes ≡ puts (filter (stands (objects_in ps)) es)
  these = put ∙ ap (λ N. puts (filter (stands N) es)) (sym is)

  pub changes_rise : IsInOrder es → IsTrue (is_sorted cmp (map (change_pair key_of) changes))
  changes_rise up =
      sorted_by cmp by (map (change_pair key_of) changes)
      (subst (λ l. IsTrue (is_sorted key_cmp (map (change_pair key_of) l))) (sym these)
      (kept_rise total exact ps es up))

  left : (new : List (Key × Event)) → new ≡ changed_by key_of cmp changes ps → new ≡ after total exact ps es
  left new e = e ∙ changed_as cmp by changes ps ∙ ap (λ l. changed_by key_of key_cmp l ps) these

  pub left_sorted : (new : List (Key × Event)) → new ≡ changed_by key_of cmp changes ps
      → IsTrue (is_sorted key_cmp ps) → IsTrue (is_sorted key_cmp new)
  left_sorted new e up =
      subst (λ l. IsTrue (is_sorted key_cmp l)) (sym (left new e)) (after_sorted total exact ps es up)

  pub left_applied : (new : List (Key × Event)) → new ≡ changed_by key_of cmp changes ps → IsInOrder es
      → IsApplied M es (objects_in new)
  left_applied new e up =
      subst (λ N. IsApplied N es (objects_in new)) is
      (subst (λ l. IsApplied (objects_in ps) es (objects_in l)) (sym (left new e))
      (after_applied total exact ps es up))
