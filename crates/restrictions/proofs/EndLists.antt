-- The lists of end steps have exactly the end steps, each once.
use Rattle.std.specs.Prelude.{slice_get}
use Rattle.std.proofs.Common.{◌≡◌, ℕ, ◌+◌, ◌-◌, ◌≤◌, ◌<◌, ◌⊎◌, inl, inr, get_or, take, nat_eq, nat_le, nat_lt, Bool}
use Rattle.std.proofs.Common.{true, false, cond, ◌&&◌, ◌||◌, List, [], ◌∷◌, ◌++◌, length, Option, Some, None, Contains}
use Rattle.std.proofs.Common.{refl, sym, ap, subst, ◌∙◌, arith}
use Rattle.std.specs.List.{list_any}
use Rattle.std.specs.Ordering.{int_eq}
use Rattle.std.proofs.lemmas.Bool.{false≢true, and_parts, and_from, or_parts}
use Rattle.std.proofs.lemmas.Bool.Decides.{Decides-int_eq, nat_tests}
use Rattle.std.proofs.lemmas.List.{take_more}
use Rattle.std.proofs.lemmas.Option.{none-some, same_Some, slice_get-get_or}
use Rattle.std.proofs.lemmas.List.Elements.{Contains-append_cases, Contains-append_left, Contains-push}
use Rattle.road_base.specs.declared.ids.NodeId.{NodeId}
use Rattle.road_base.specs.declared.ids.WayId.{WayId}
use Rattle.road_base.specs.declared.ids.Key.{Key}
use Rattle.road_base.specs.declared.ids.Key.TheVariants.{Node as NodeKey, Way as WayKey, Relation as RelationKey}
use Rattle.road_base.specs.declared.ids.Step.{Step}
use Rattle.road_base.specs.declared.ids.Dir.TheVariants.{Forward, Backward}
use Rattle.road_base.specs.Objects.{Objects}
use Rattle.road_model.specs.Lines.{line_of, node_at, names_pair, end_at, head_position, tail_position}
use Rattle.road_model.specs.Orders.{same_dir}
use Rattle.road_model.specs.Restrictions.{same_end}
use Rattle.road_model.proofs.Directions.{dir_is, dir_self}
use Rattle.restrictions.specs.declared.end_steps.Side.{Side}
use Rattle.restrictions.specs.declared.end_steps.Side.TheVariants.{Into, OutOf}
use Rattle.restrictions.specs.Runs.{first_node, last_node}
use Rattle.restrictions.specs.Ends.{IsEnd, added, ends_of, first_dir, first_end, last_dir, last_end}
use Rattle.restrictions.specs.Ends.{same_step, with_ends}
use Rattle.restrictions.specs.Words.{AreDistinct}
use Rattle.ordered_lists.proofs.ListMembers.{contains_head, contains_later, contains_cases, contains_none, contains_one}
use Rattle.restrictions.proofs.DistinctLists.{distinct_push}
use Rattle.restrictions.proofs.OneRun.{end_there, there_end}

-- ---- equal steps

make_step : (a b : Step) → a.way ≡ b.way → a.index ≡ b.index → a.dir ≡ b.dir → a ≡ b
make_step a b ways indexes dirs = λ i. record { way = ways i; index = indexes i; dir = dirs i }

index_is : (m n : ℕ) → nat_eq m n ≡ true → m ≡ n
index_is m n same = grind (arith, nat_tests)

index_self : (m : ℕ) → nat_eq m m ≡ true
index_self m = grind (arith, nat_tests)

step_is : (a b : Step) → same_step a b ≡ true → a ≡ b
step_is a b same =
    let parts = and_parts (int_eq a.way.0 b.way.0) (nat_eq a.index b.index && same_dir a.dir b.dir) same in
    let more = and_parts (nat_eq a.index b.index) (same_dir a.dir b.dir) parts.1 in
    let numbers : a.way.0 ≡ b.way.0 = (Decides-int_eq a.way.0 b.way.0).0 parts.0 in
    make_step a b (λ i. record { 0 = numbers i }) (index_is a.index b.index more.0) (dir_is a.dir b.dir more.1)

step_self : (a : Step) → same_step a a ≡ true
step_self a = and_from (int_eq a.way.0 a.way.0) (nat_eq a.index a.index && same_dir a.dir a.dir)
    ((Decides-int_eq a.way.0 a.way.0).1 refl)
    (and_from (nat_eq a.index a.index) (same_dir a.dir a.dir) (index_self a.index) (dir_self a.dir))

listed_by : (s x : Step) (xs : List Step) (b : Bool) → same_step s x ≡ b → (b || list_any (same_step s) xs) ≡ true
    → (list_any (same_step s) xs ≡ true → Contains xs s) → Contains (x ∷ xs) s
listed_by s x xs true same found behind = subst (λ y. Contains (y ∷ xs) s) (step_is s x same) (contains_head s xs)
listed_by s x xs false same found behind = contains_later x s xs (behind found)

listed : (s : Step) (xs : List Step) → list_any (same_step s) xs ≡ true → Contains xs s
listed s [] found = absurd (false≢true found)
listed s (x ∷ xs) found = listed_by s x xs (same_step s x) refl found (listed s xs)

unlisted : (s : Step) (xs : List Step) → list_any (same_step s) xs ≡ false → Contains xs s → ⊥
unlisted s [] none has = contains_none s has
unlisted s (x ∷ xs) none has =
    let parts = or_parts (same_step s x) (list_any (same_step s) xs) none in
    elim (contains_cases x s xs has) [
      | inl is ↦ false≢true (sym parts.0 ∙ (ap (λ y. same_step s y) (sym is) ∙ step_self s))
      | inr more ↦ unlisted s xs parts.1 more
    ]

listed_or : (s : Step) (xs : List Step) (b : Bool) → list_any (same_step s) xs ≡ b → Contains xs s
    → list_any (same_step s) xs ≡ true
listed_or s xs true found has = found
listed_or s xs false none has = absurd (unlisted s xs none has)

there_listed : (s : Step) (xs : List Step) → Contains xs s → list_any (same_step s) xs ≡ true
there_listed s xs has = listed_or s xs (list_any (same_step s) xs) refl has

-- ---- one more step, if there is one

new_or_there : (xs : List Step) (s : Step) (b : Bool) → list_any (same_step s) xs ≡ b
    → Contains (cond b xs (xs ++ s ∷ [])) s
new_or_there xs s true found = listed s xs found
new_or_there xs s false none = Contains-push xs s

kept_there : (xs : List Step) (s x : Step) (b : Bool) → Contains xs x → Contains (cond b xs (xs ++ s ∷ [])) x
kept_there xs s x true has = has
kept_there xs s x false has = Contains-append_left xs (s ∷ []) x has

was_or_new : (xs : List Step) (s x : Step) (b : Bool) → Contains (cond b xs (xs ++ s ∷ [])) x → Contains xs x ⊎ (s ≡ x)
was_or_new xs s x true has = inl has
was_or_new xs s x false has = elim (Contains-append_cases xs (s ∷ []) x has)
    [ inl old ↦ inl old | inr new ↦ inr (sym (contains_one s x new)) ]

still_distinct : (xs : List Step) (s : Step) (b : Bool) → list_any (same_step s) xs ≡ b → AreDistinct xs
    → AreDistinct (cond b xs (xs ++ s ∷ []))
still_distinct xs s true found once = once
still_distinct xs s false none once = distinct_push xs s once (unlisted s xs none)

added_has : (xs : List Step) (o : Option Step) (x : Step) → Contains xs x ⊎ (o ≡ Some x) → Contains (added xs o) x
added_has xs None x (inl has) = has
added_has xs None x (inr is) = absurd (none-some x is)
added_has xs (Some s) x (inl has) = kept_there xs s x (list_any (same_step s) xs) has
added_has xs (Some s) x (inr is) = subst (Contains (added xs (Some s))) (same_Some s x is)
    (new_or_there xs s (list_any (same_step s) xs) refl)

has_added : (xs : List Step) (o : Option Step) (x : Step) → Contains (added xs o) x → Contains xs x ⊎ (o ≡ Some x)
has_added xs None x has = inl has
has_added xs (Some s) x has = elim (was_or_new xs s x (list_any (same_step s) xs) has)
    [ inl old ↦ inl old | inr new ↦ inr (ap Some new) ]

distinct_added : (xs : List Step) (o : Option Step) → AreDistinct xs → AreDistinct (added xs o)
distinct_added xs None once = once
distinct_added xs (Some s) once = still_distinct xs s (list_any (same_step s) xs) refl once

-- ---- the two end steps of a way

some_by : (b : Bool) (s x : Step) → cond b (Some s) None ≡ Some x → (b ≡ true) × (s ≡ x)
some_by true s x is = (refl, same_Some s x is)
some_by false s x is = absurd (none-some x is)

some_if : (b : Bool) (s : Step) → b ≡ true → cond b (Some s) None ≡ Some s
some_if b s holds = ap (λ t. cond t (Some s) None) holds

two_up : (n : ℕ) → nat_le 2 n ≡ true → 2 ≤ n
two_up n test = grind (arith, nat_tests)

test_two : (n : ℕ) → 2 ≤ n → nat_le 2 n ≡ true
test_two n up = grind (arith, nat_tests)

module _ (M : Objects) where
  at_end : (w : WayId) (v : NodeId) (i : ℕ) → i ≡ length (line_of M w) - 1 → last_node M w ≡ Some v
      → node_at M w i ≡ Some v
  at_end w v i at is = ap (λ k. node_at M w k) at ∙ is

  -- the end of a step that names a pair, from the node there
  at_named : (s : Step) (i : ℕ) (v : NodeId) → s.index + 2 ≤ length (line_of M s.way) → node_at M s.way i ≡ Some v
      → end_at M s i ≡ Some v
  unfolding end_at names_pair
  at_named s i v long is =
      let named : nat_lt (s.index + 1) (length (line_of M s.way)) ≡ true = grind (arith, nat_tests) in
      ap (λ b. cond b (node_at M s.way i) None) named ∙ is

  when_named : (b : Bool) (o : Option NodeId) (v : NodeId) → cond b o None ≡ Some v → (b ≡ true) × (o ≡ Some v)
  when_named true o v is = (refl, is)
  when_named false o v is = absurd (none-some v is)

  -- and back
  named_at : (s : Step) (i : ℕ) (v : NodeId) → end_at M s i ≡ Some v
      → (s.index + 2 ≤ length (line_of M s.way)) × (node_at M s.way i ≡ Some v)
  unfolding end_at names_pair
  named_at s i v is =
      let parts = when_named (nat_lt (s.index + 1) (length (line_of M s.way))) (node_at M s.way i) v is in
      let named = parts.0 in
      (grind (arith, nat_tests), parts.1)

  end_first : (side : Side) (w : WayId) (v : NodeId) → 2 ≤ length (line_of M w) → first_node M w ≡ Some v
      → IsEnd M side w v (record { way = w; index = 0; dir = first_dir side })
  end_first Into w v long is =
      let head = at_named (record { way = w; index = 0; dir = Backward }) 0 v long is in
      record { of = refl; head = head; end = inr (refl, refl) }
  end_first OutOf w v long is =
      let tail = at_named (record { way = w; index = 0; dir = Forward }) 0 v long is in
      record { of = refl; tail = tail; end = inl (refl, refl) }

  end_last : (side : Side) (w : WayId) (v : NodeId) → 2 ≤ length (line_of M w) → last_node M w ≡ Some v
      → IsEnd M side w v (record { way = w; index = length (line_of M w) - 2; dir = last_dir side })
  end_last Into w v long is =
      let at = length (line_of M w) - 2 in
      let ends = at_end w v (length (line_of M w) - 2 + 1) (omega arith) is in
      let head = at_named (record { way = w; index = at; dir = Forward }) (at + 1) v (omega arith) ends in
      record { of = refl; head = head; end = inl (refl, omega arith) }
  end_last OutOf w v long is =
      let at = length (line_of M w) - 2 in
      let ends = at_end w v (length (line_of M w) - 2 + 1) (omega arith) is in
      let tail = at_named (record { way = w; index = at; dir = Backward }) (at + 1) v (omega arith) ends in
      record { of = refl; tail = tail; end = inr (refl, omega arith) }

  end_of_first : (side : Side) (w : WayId) (v : NodeId) (s : Step) → first_end M side w v ≡ Some s → IsEnd M side w v s
  end_of_first side w v s is =
      let found = some_by (nat_le 2 (length (line_of M w)) && same_end (first_node M w) (Some v))
      (record { way = w; index = 0; dir = first_dir side }) s is in
      let parts = and_parts (nat_le 2 (length (line_of M w))) (same_end (first_node M w) (Some v)) found.0 in
      subst (IsEnd M side w v) found.1
      (end_first side w v (two_up (length (line_of M w)) parts.0) (there_end (first_node M w) v parts.1))

  end_of_last : (side : Side) (w : WayId) (v : NodeId) (s : Step) → last_end M side w v ≡ Some s → IsEnd M side w v s
  end_of_last side w v s is =
      let found = some_by (nat_le 2 (length (line_of M w)) && same_end (last_node M w) (Some v))
      (record { way = w; index = length (line_of M w) - 2; dir = last_dir side }) s is in
      let parts = and_parts (nat_le 2 (length (line_of M w))) (same_end (last_node M w) (Some v)) found.0 in
      subst (IsEnd M side w v) found.1 (end_last side w v (two_up (length (line_of M w)) parts.0)
      (there_end (last_node M w) v parts.1))

  -- an end step at position 0, or at the last pair
  is_first : (side : Side) (w : WayId) (v : NodeId) (s : Step) → s.way ≡ w → s.dir ≡ first_dir side → s.index ≡ 0
      → end_at M s s.index ≡ Some v → first_end M side w v ≡ Some s
  is_first side w v s of dir at ends =
      let is = named_at s s.index v ends in
      let within = is.0 in
      let whole : length (line_of M s.way) ≡ length (line_of M w) = ap (λ u. length (line_of M u)) of in
      let long : 2 ≤ length (line_of M w) = omega arith in
      let begins : first_node M w ≡ Some v = ap (λ k. node_at M w k) (sym at)
      ∙ (ap (λ u. node_at M u s.index) (sym of) ∙ is.1) in
      some_if (nat_le 2 (length (line_of M w)) && same_end (first_node M w) (Some v))
      (record { way = w; index = 0; dir = first_dir side })
      (and_from (nat_le 2 (length (line_of M w))) (same_end (first_node M w) (Some v))
      (test_two (length (line_of M w)) long) (end_there (first_node M w) v begins))
      ∙ ap Some (make_step (record { way = w; index = 0; dir = first_dir side }) s (sym of) (sym at) (sym dir))

  is_last : (side : Side) (w : WayId) (v : NodeId) (s : Step) → s.way ≡ w → s.dir ≡ last_dir side
      → s.index + 2 ≡ length (line_of M w) → end_at M s (s.index + 1) ≡ Some v → last_end M side w v ≡ Some s
  is_last side w v s of dir at far =
      let is = (named_at s (s.index + 1) v far).1 in
      let place : s.index + 1 ≡ length (line_of M w) - 1 = omega arith in
      let index : length (line_of M w) - 2 ≡ s.index = omega arith in
      let long : 2 ≤ length (line_of M w) = omega arith in
      let ends : last_node M w ≡ Some v = ap (λ k. node_at M w k) (sym place)
      ∙ (ap (λ u. node_at M u (s.index + 1)) (sym of) ∙ is) in
      some_if (nat_le 2 (length (line_of M w)) && same_end (last_node M w) (Some v))
      (record { way = w; index = length (line_of M w) - 2; dir = last_dir side })
      (and_from (nat_le 2 (length (line_of M w))) (same_end (last_node M w) (Some v))
      (test_two (length (line_of M w)) long) (end_there (last_node M w) v ends))
      ∙ ap Some (make_step (record { way = w; index = length (line_of M w) - 2; dir = last_dir side }) s (sym of) index
      (sym dir))

  head_forward : (s : Step) (v : NodeId) → s.dir ≡ Forward → end_at M s (head_position s.dir s.index) ≡ Some v
      → end_at M s (s.index + 1) ≡ Some v
  head_forward s v dir is = ap (λ d. end_at M s (head_position d s.index)) (sym dir) ∙ is

  head_backward : (s : Step) (v : NodeId) → s.dir ≡ Backward → end_at M s (head_position s.dir s.index) ≡ Some v
      → end_at M s s.index ≡ Some v
  head_backward s v dir is = ap (λ d. end_at M s (head_position d s.index)) (sym dir) ∙ is

  tail_forward : (s : Step) (v : NodeId) → s.dir ≡ Forward → end_at M s (tail_position s.dir s.index) ≡ Some v
      → end_at M s s.index ≡ Some v
  tail_forward s v dir is = ap (λ d. end_at M s (tail_position d s.index)) (sym dir) ∙ is

  tail_backward : (s : Step) (v : NodeId) → s.dir ≡ Backward → end_at M s (tail_position s.dir s.index) ≡ Some v
      → end_at M s (s.index + 1) ≡ Some v
  tail_backward s v dir is = ap (λ d. end_at M s (tail_position d s.index)) (sym dir) ∙ is

  ends_are : (side : Side) (w : WayId) (v : NodeId) (s : Step) → IsEnd M side w v s
      → (first_end M side w v ≡ Some s) ⊎ (last_end M side w v ≡ Some s)
  ends_are Into w v s is = elim is.end [
    | inl at_last ↦ inr (is_last Into w v s is.of at_last.0 at_last.1 (head_forward s v at_last.0 is.head))
    | inr at_first ↦ inl (is_first Into w v s is.of at_first.0 at_first.1 (head_backward s v at_first.0 is.head))
  ]
  ends_are OutOf w v s is = elim is.end [
    | inl at_first ↦ inl (is_first OutOf w v s is.of at_first.0 at_first.1 (tail_forward s v at_first.0 is.tail))
    | inr at_last ↦ inr (is_last OutOf w v s is.of at_last.0 at_last.1 (tail_backward s v at_last.0 is.tail))
  ]

  -- ---- the end steps of several ways

  -- an end step of one of these ways
  abbrev pub IsEndOf : Side → NodeId → List Key → Step → Type 0
  IsEndOf side v ks s = (w : WayId) × Contains ks (WayKey w) × IsEnd M side w v s

  with_has : (side : Side) (v : NodeId) (xs : List Step) (k : Key) (s : Step) → Contains xs s
      → Contains (with_ends M side v xs k) s
  with_has side v xs (NodeKey n) s has = has
  with_has side v xs (WayKey w) s has = added_has (added xs (first_end M side w v)) (last_end M side w v) s
      (inl (added_has xs (first_end M side w v) s (inl has)))
  with_has side v xs (RelationKey r) s has = has

  with_end : (side : Side) (v : NodeId) (xs : List Step) (w : WayId) (s : Step) → IsEnd M side w v s
      → Contains (with_ends M side v xs (WayKey w)) s
  with_end side v xs w s is = elim (ends_are side w v s is) [
    | inl first ↦ added_has (added xs (first_end M side w v)) (last_end M side w v) s
        (inl (added_has xs (first_end M side w v) s (inr first)))
    | inr last ↦ added_has (added xs (first_end M side w v)) (last_end M side w v) s (inr last)
  ]

  has_with : (side : Side) (v : NodeId) (xs : List Step) (k : Key) (ks : List Key) (s : Step)
      → Contains (with_ends M side v xs k) s → Contains xs s ⊎ IsEndOf side v (k ∷ ks) s
  has_with side v xs (NodeKey n) ks s has = inl has
  has_with side v xs (WayKey w) ks s has = elim
      (has_added (added xs (first_end M side w v)) (last_end M side w v) s has) [
        | inl before ↦ elim (has_added xs (first_end M side w v) s before) [
          | inl old ↦ inl old
          | inr first ↦ inr (w, contains_head (WayKey w) ks, end_of_first side w v s first)
        ]
        | inr last ↦ inr (w, contains_head (WayKey w) ks, end_of_last side w v s last)
      ]
  has_with side v xs (RelationKey r) ks s has = inl has

  with_distinct : (side : Side) (v : NodeId) (xs : List Step) (k : Key) → AreDistinct xs
      → AreDistinct (with_ends M side v xs k)
  with_distinct side v xs (NodeKey n) once = once
  with_distinct side v xs (WayKey w) once = distinct_added (added xs (first_end M side w v)) (last_end M side w v)
      (distinct_added xs (first_end M side w v) once)
  with_distinct side v xs (RelationKey r) once = once

  kept : (side : Side) (v : NodeId) (ks : List Key) (xs : List Step) (s : Step) → Contains xs s
      → Contains (ends_of M side v ks xs) s
  kept side v [] xs s has = has
  kept side v (k ∷ ks) xs s has = kept side v ks (with_ends M side v xs k) s (with_has side v xs k s has)

  -- each end step is there
  pub ends_there : (side : Side) (v : NodeId) (ks : List Key) (xs : List Step) (s : Step) → IsEndOf side v ks s
      → Contains (ends_of M side v ks xs) s
  ends_there side v [] xs s (w, has, is) = absurd (contains_none (WayKey w) has)
  ends_there side v (k ∷ ks) xs s (w, has, is) = elim (contains_cases k (WayKey w) ks has) [
    | inl this ↦ kept side v ks (with_ends M side v xs k) s
        (subst (λ l. Contains (with_ends M side v xs l) s) this (with_end side v xs w s is))
    | inr more ↦ ends_there side v ks (with_ends M side v xs k) s (w, more, is)
  ]

  later : (side : Side) (v : NodeId) (k : Key) (ks : List Key) (s : Step) → IsEndOf side v ks s
      → IsEndOf side v (k ∷ ks) s
  later side v k ks s (w, has, is) = (w, contains_later k (WayKey w) ks has, is)

  ends_known : (side : Side) (v : NodeId) (ks : List Key) (xs : List Step) (s : Step)
      → Contains (ends_of M side v ks xs) s → Contains xs s ⊎ IsEndOf side v ks s
  ends_known side v [] xs s has = inl has
  ends_known side v (k ∷ ks) xs s has = elim (ends_known side v ks (with_ends M side v xs k) s has) [
    | inl before ↦ has_with side v xs k ks s before
    | inr more ↦ inr (later side v k ks s more)
  ]

  -- and no other step
  pub ends_sound : (side : Side) (v : NodeId) (ks : List Key) (s : Step) → Contains (ends_of M side v ks []) s
      → IsEndOf side v ks s
  ends_sound side v ks s has = elim (ends_known side v ks [] s has)
      [ inl none ↦ absurd (contains_none s none) | inr is ↦ is ]

  -- and none twice
  pub ends_distinct : (side : Side) (v : NodeId) (ks : List Key) (xs : List Step) → AreDistinct xs
      → AreDistinct (ends_of M side v ks xs)
  ends_distinct side v [] xs once = once
  ends_distinct side v (k ∷ ks) xs once = ends_distinct side v ks (with_ends M side v xs k)
      (with_distinct side v xs k once)

  -- ---- a way that stands again adds none

  added_none : (xs : List Step) (o : Option Step) → ((s : Step) → o ≡ Some s → Contains xs s) → added xs o ≡ xs
  added_none xs None there = refl
  added_none xs (Some s) there = ap (λ b. cond b xs (xs ++ s ∷ [])) (there_listed s xs (there s refl))

  pub with_none : (side : Side) (v : NodeId) (ks : List Key) (k : Key) → Contains ks k
      → with_ends M side v (ends_of M side v ks []) k ≡ ends_of M side v ks []
  with_none side v ks (NodeKey n) again = refl
  with_none side v ks (WayKey w) again =
      let xs = ends_of M side v ks [] in
      let first : added xs (first_end M side w v)
      ≡ xs = added_none xs (first_end M side w v)
      (λ s is. ends_there side v ks [] s (w, again, end_of_first side w v s is)) in
      let last : added xs (last_end M side w v)
      ≡ xs = added_none xs (last_end M side w v)
      (λ s is. ends_there side v ks [] s (w, again, end_of_last side w v s is)) in
      ap (λ (ys : List Step). added ys (last_end M side w v)) first ∙ last
  with_none side v ks (RelationKey r) again = refl

  pub ends_pushed : (side : Side) (v : NodeId) (ks : List Key) (xs : List Step) (k : Key)
      → ends_of M side v (ks ++ k ∷ []) xs ≡ with_ends M side v (ends_of M side v ks xs) k
  ends_pushed side v [] xs k = refl
  ends_pushed side v (l ∷ ks) xs k = ends_pushed side v ks (with_ends M side v xs l) k

  -- one way more of the list
  pub ends_more : (side : Side) (v : NodeId) (ks : List Key) (i : ℕ) (d : Key) (xs : List Step) → i < length ks
      → xs ≡ ends_of M side v (take i ks) [] → with_ends M side v xs (get_or ks i d)
      ≡ ends_of M side v (take (i + 1) ks) []
  ends_more side v ks i d xs within are =
      ap (λ (ys : List Step). with_ends M side v ys (get_or ks i d)) are
      ∙ (sym (ends_pushed side v (take i ks) [] (get_or ks i d))
      ∙ ap (λ (ls : List Key). ends_of M side v ls []) (sym (take_more ks i d within)))

  -- a way that stands among those before
  pub ends_again : (side : Side) (v : NodeId) (ks : List Key) (i : ℕ) (xs : List Step) → i < length ks
      → ((k : Key) → slice_get ks i ≡ Some k → Contains (take i ks) k) → xs ≡ ends_of M side v (take i ks) []
      → xs ≡ ends_of M side v (take (i + 1) ks) []
  ends_again side v [] i xs within again are = absurd (omega arith)
  ends_again side v (d ∷ rest) i xs within again are =
      let ks = d ∷ rest in
      let k = get_or ks i d in
      let there = again k (slice_get-get_or ks i d within) in
      are ∙ (sym (with_none side v (take i ks) k there)
      ∙ (ap (λ (ys : List Step). with_ends M side v ys k) (sym are) ∙ ends_more side v ks i d xs within are))
