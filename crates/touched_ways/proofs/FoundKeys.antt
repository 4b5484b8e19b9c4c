-- How what calls find is put together.
use Rattle.std.proofs.Common.{◌≡◌, ◌↔◌, ℕ, ◌+◌, ◌<◌, ◌≤◌, ◌⊎◌, inl, inr, List, [], length, take, get_or, refl}
use Rattle.std.proofs.Common.{sym, ap, ◌∙◌, subst, Contains}
use Rattle.std.proofs.lemmas.List.{take_all}
use Rattle.road_base.specs.declared.ids.NodeId.{NodeId}
use Rattle.road_base.specs.declared.ids.WayId.{WayId}
use Rattle.road_base.specs.declared.ids.RelationId.{RelationId}
use Rattle.road_base.specs.declared.ids.Key.{Key}
use Rattle.road_base.specs.declared.ids.Key.TheVariants.{Node as NodeKey, Way as WayKey, Relation as RelationKey}
use Rattle.ordered_lists.proofs.ListMembers.{contains_none}
use Rattle.ordered_lists.proofs.JoinedLists.{one_more, has_last, has_before}
use Rattle.touched_ways.specs.declared.found.Reached.{Reached}
use Rattle.touched_ways.specs.Searches.{IsFound, Finds, GivenBy}

-- ---- one call behind another

-- nothing is to be found
pub finds_none : (f : Reached) (Is : Key → Type 0) → ((k : Key) → Is k → ⊥) → Finds f f Is
finds_none f Is none = record { sound = λ k h. inl h; complete = λ k i. absurd (none k i); keeps = λ k h. h }

pub finds_as : (f g : Reached) (Is Other : Key → Type 0) → Finds f g Is → ((k : Key) → Is k → Other k)
    → ((k : Key) → Other k → Is k) → Finds f g Other
finds_as f g Is Other h to from = record {
  sound = λ k i. elim (h.sound k i) [ inl old ↦ inl old | inr new ↦ inr (to k new) ];
  complete = λ k i. h.complete k (from k i);
  keeps = h.keeps;
}

-- each key of a list gives itself
pub finds_given : (f g : Reached) (keys : List Key) → Finds f g (GivenBy (λ x k. k ≡ x) keys)
    → Finds f g (Contains keys)
finds_given f g keys h = finds_as f g (GivenBy (λ x k. k ≡ x) keys) (Contains keys) h
    (λ k i. subst (Contains keys) (sym i.2) i.1) (λ k has. (k, has, refl))

pub finds_both : (f g e : Reached) (Is Next More : Key → Type 0) → Finds f g Is → Finds g e Next
    → ((k : Key) → Is k → More k) → ((k : Key) → Next k → More k) → ((k : Key) → More k → Is k ⊎ Next k)
    → Finds f e More
finds_both f g e Is Next More first second this that from = record {
  sound = λ k i. elim (second.sound k i) [
    | inl before ↦ elim (first.sound k before) [ inl old ↦ inl old | inr new ↦ inr (this k new) ]
    | inr new ↦ inr (that k new)
  ];
  complete = λ k m. elim (from k m) [
    | inl i ↦ second.keeps k (first.complete k i)
    | inr n ↦ second.complete k n
  ];
  keeps = λ k i. second.keeps k (first.keeps k i);
}

pub finds_key : (f g : Reached) (key other : Key) → key ≡ other → Finds f g (λ k. k ≡ other) → Finds f g (λ k. k ≡ key)
finds_key f g key other e h = subst (λ x. Finds f g (λ k. k ≡ x)) (sym e) h

-- the key is found where the fact holds of it
pub finds_if : (f g : Reached) (key : Key) (Is : Key → Type 0) → Is key → Finds f g (λ k. k ≡ key)
    → Finds f g (λ k. (k ≡ key) × Is k)
finds_if f g key Is is h = finds_as f g (λ k. k ≡ key) (λ k. (k ≡ key) × Is k) h
    (λ k e. (e, subst Is (sym e) is)) (λ k p. p.0)

pub finds_not : (f : Reached) (key : Key) (Is : Key → Type 0) → (Is key → ⊥) → Finds f f (λ k. (k ≡ key) × Is k)
finds_not f key Is not = finds_none f (λ k. (k ≡ key) × Is k) (λ k p. not (subst Is p.0 p.1))

-- ---- one element of a list after the other

module _ {A : Type 0} (Gives : A → Key → Type 0) where
  pub finds_first : (f : Reached) (xs : List A) → Finds f f (GivenBy Gives (take 0 xs))
  finds_first f xs = finds_none f (GivenBy Gives []) (λ k g. contains_none g.0 g.1)

  pub finds_next : (f g e : Reached) (xs : List A) (i : ℕ) (d : A) → i < length xs
      → Finds f g (GivenBy Gives (take i xs)) → Finds g e (Gives (get_or xs i d))
      → Finds f e (GivenBy Gives (take (i + 1) xs))
  finds_next f g e xs i d within first second =
      finds_both f g e (GivenBy Gives (take i xs)) (Gives (get_or xs i d)) (GivenBy Gives (take (i + 1) xs)) first
      second
      (λ k b. (b.0, has_before xs i d b.0 within b.1, b.2))
      (λ k n. (get_or xs i d, has_last xs i d (get_or xs i d) within refl, n))
      (λ k m. elim (one_more xs i d m.0 within m.1) [
        | inl last ↦ inr (subst (λ x. Gives x k) last m.2)
        | inr before ↦ inl (m.0, before, m.2)
      ])

  pub finds_all : (f g : Reached) (xs : List A) (i : ℕ) → length xs ≤ i → Finds f g (GivenBy Gives (take i xs))
      → Finds f g (GivenBy Gives xs)
  finds_all f g xs i past h = subst (λ (l : List A). Finds f g (GivenBy Gives l)) (take_all i xs past) h

-- ---- numbers of one kind

-- the key is that of a number of which the fact holds
abbrev pub KeyOf : {A : Type 0} → (A → Key) → (A → Type 0) → Key → Type 0
KeyOf key Is k = (x : _) × Is x × (k ≡ key x)

-- of one number
pub finds_one : {A : Type 0} (key : A → Key) (x : A) (f g : Reached) → Finds f g (KeyOf key (λ y. y ≡ x))
    → Finds f g (λ k. k ≡ key x)
finds_one key x f g h = finds_as f g (KeyOf key (λ y. y ≡ x)) (λ k. k ≡ key x) h
    (λ k i. i.2 ∙ ap key i.1) (λ k e. (x, refl, e))

module _ (f g : Reached) where
  pub found_nodes : (Is : NodeId → Type 0)
      → ((x : NodeId) → Contains g.nodes.items x ↔ (Contains f.nodes.items x ⊎ Is x))
      → g.ways.list.items ≡ f.ways.list.items → g.rules.items ≡ f.rules.items → Finds f g (KeyOf NodeKey Is)
  found_nodes Is added ways rules = record {
    sound = only;
    complete = λ k i. subst (IsFound g) (sym i.2) ((added i.0).1 (inr i.1));
    keeps = stays;
  }
    where
      only : (k : Key) → IsFound g k → IsFound f k ⊎ KeyOf NodeKey Is k
      only (NodeKey x) h = elim ((added x).0 h) [ inl old ↦ inl old | inr new ↦ inr (x, new, refl) ]
      only (WayKey x) h = inl (subst (λ l. Contains l x) ways h)
      only (RelationKey x) h = inl (subst (λ l. Contains l x) rules h)

      stays : (k : Key) → IsFound f k → IsFound g k
      stays (NodeKey x) h = (added x).1 (inl h)
      stays (WayKey x) h = subst (λ l. Contains l x) (sym ways) h
      stays (RelationKey x) h = subst (λ l. Contains l x) (sym rules) h

  pub found_ways : (Is : WayId → Type 0)
      → ((x : WayId) → Contains g.ways.list.items x ↔ (Contains f.ways.list.items x ⊎ Is x))
      → g.nodes.items ≡ f.nodes.items → g.rules.items ≡ f.rules.items → Finds f g (KeyOf WayKey Is)
  found_ways Is added nodes rules = record {
    sound = only;
    complete = λ k i. subst (IsFound g) (sym i.2) ((added i.0).1 (inr i.1));
    keeps = stays;
  }
    where
      only : (k : Key) → IsFound g k → IsFound f k ⊎ KeyOf WayKey Is k
      only (NodeKey x) h = inl (subst (λ l. Contains l x) nodes h)
      only (WayKey x) h = elim ((added x).0 h) [ inl old ↦ inl old | inr new ↦ inr (x, new, refl) ]
      only (RelationKey x) h = inl (subst (λ l. Contains l x) rules h)

      stays : (k : Key) → IsFound f k → IsFound g k
      stays (NodeKey x) h = subst (λ l. Contains l x) (sym nodes) h
      stays (WayKey x) h = (added x).1 (inl h)
      stays (RelationKey x) h = subst (λ l. Contains l x) (sym rules) h

  pub found_rules : (Is : RelationId → Type 0)
      → ((x : RelationId) → Contains g.rules.items x ↔ (Contains f.rules.items x ⊎ Is x))
      → g.nodes.items ≡ f.nodes.items → g.ways.list.items ≡ f.ways.list.items → Finds f g (KeyOf RelationKey Is)
  found_rules Is added nodes ways = record {
    sound = only;
    complete = λ k i. subst (IsFound g) (sym i.2) ((added i.0).1 (inr i.1));
    keeps = stays;
  }
    where
      only : (k : Key) → IsFound g k → IsFound f k ⊎ KeyOf RelationKey Is k
      only (NodeKey x) h = inl (subst (λ l. Contains l x) nodes h)
      only (WayKey x) h = inl (subst (λ l. Contains l x) ways h)
      only (RelationKey x) h = elim ((added x).0 h) [ inl old ↦ inl old | inr new ↦ inr (x, new, refl) ]

      stays : (k : Key) → IsFound f k → IsFound g k
      stays (NodeKey x) h = subst (λ l. Contains l x) (sym nodes) h
      stays (WayKey x) h = subst (λ l. Contains l x) (sym ways) h
      stays (RelationKey x) h = (added x).1 (inl h)
