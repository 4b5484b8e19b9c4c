-- The ways that a change touches, on a chain of six ways.
--
-- 1 --- w1 --- 2 --- w2 --- 3 --- w3 --- 4 --- w4 --- 5 --- w5 --- 6 --- w6 --- 7
use Rattle.std.proofs.Common.{◌≡◌, ℕ, zero, suc, pos, ◌+◌, ◌*◌, ◌≤◌, List, [], ◌∷◌, ◌⊎◌, inl, inr, refl, sym, ap, subst}
use Rattle.std.proofs.Common.{arith, Option, Some, None, Bool, true, false, Contains, codes, lit<}
use Rattle.std.specs.Ordering.{int_eq}
use Rattle.std.specs.FinMap.{from_sorted, get, find, get-from_sorted}
use Rattle.std.proofs.lemmas.Bool.Decides.{Decides-int_eq}
use Rattle.std.proofs.lemmas.Bool.{false≢true}
use Rattle.road_base.specs.declared.ids.NodeId.{NodeId}
use Rattle.road_base.specs.declared.ids.WayId.{WayId}
use Rattle.road_base.specs.declared.ids.RelationId.{RelationId}
use Rattle.road_base.specs.declared.ids.Key.{Key}
use Rattle.road_base.specs.declared.ids.Key.TheVariants.{Node as NodeKey, Way as WayKey, Relation as RelationKey}
use Rattle.road_base.specs.declared.objects.Way.{Way}
use Rattle.road_base.specs.declared.objects.Relation.{Relation}
use Rattle.road_base.specs.declared.objects.Body.{Body}
use Rattle.road_base.specs.Objects.{Objects, Entry, key_cmp, visible, way_of, relation_of, way_in}
use Rattle.road_base.specs.Tags.{TagList, value_of}
use Rattle.road_model.specs.Rules.{is_the_value}
use Rattle.road_model.specs.Links.{RefersTo, IsLink, IsWithin, Differs, IsNear, IsTouched, AreTouched}
use Rattle.ordered_lists.proofs.ListMembers.{In, in_from_contains, contains_from_in}
use Rattle.road_examples.proofs.ExampleMaps.{natural, node, way, tag, residential, way_body, way_entry, ShowWay}
use Rattle.road_examples.proofs.ExampleMaps.{way_shown, relation_shown}

abbrev chain : TagList → List (Key × Entry)
chain tags =
    way_entry 1 tags 1 2 ∷ way_entry 2 residential 2 3 ∷ way_entry 3 residential 3 4
    ∷ way_entry 4 residential 4 5 ∷ way_entry 5 residential 5 6 ∷ way_entry 6 residential 6 7 ∷ []

-- the first way's tags may change
abbrev chain_map : TagList → Objects
chain_map tags = from_sorted (chain tags)

abbrev service : TagList
service = tag (codes "highway") (codes "service") ∷ []

looked_up : (tags : TagList) (q : Key) → get (chain_map tags) q ≡ find key_cmp q (chain tags)
looked_up tags q = get-from_sorted key_cmp (chain tags) q tt

way_is : (tags : TagList) (w : WayId) (b : Way) → way_of (chain_map tags) w ≡ Some b → ShowWay (chain tags) w b
unfolding way_of visible
way_is tags w b h = way_shown (chain tags) w b (simp (looked_up tags) at h)

no_relation : (tags : TagList) (r : RelationId) (b : Relation) → relation_of (chain_map tags) r ≡ Some b → ⊥
unfolding relation_of visible
no_relation tags r b h = relation_shown (chain tags) r b (simp (looked_up tags) at h)

-- ---- how far along the chain an object stands

abbrev position : Key → ℕ
position (NodeKey n) = 2 * natural n.0
position (WayKey w) = 2 * natural w.0 + 1
position (RelationKey r) = 0

abbrev Beside : WayId → NodeId → Type 0
Beside w n = (position (WayKey w) ≤ position (NodeKey n) + 1) × (position (NodeKey n) ≤ position (WayKey w) + 1)

beside_of : (i j : ℕ) (w : WayId) (n : NodeId) → w ≡ way i → n ≡ node j → i ≤ j → j ≤ i + 1 → Beside w n
beside_of i j w n e f l m =
    let p = ap (λ (x : WayId). natural x.0) e in
    let q = ap (λ (x : NodeId). natural x.0) f in
    (omega arith, omega arith)

beside_at : (tags : TagList) (i j : ℕ) (w : WayId) (n : NodeId) (b : Way) → j ≡ i + 1 → w ≡ way i →
    Some (way_body tags i j) ≡ Some b → Contains b.refs n → Beside w n
beside_at tags i j w n b e f g h =
    let refs : b.refs ≡ node i ∷ node j ∷ [] = cc in
    elim (subst (In n) refs (in_from_contains b.refs n h)) [
      | inl k ↦ beside_of i i w n f k (omega arith) (omega arith)
      | inr m ↦ elim m [ inl k ↦ beside_of i j w n f k (omega arith) (omega arith) | inr none ↦ absurd none ]
    ]

beside_shown : (tags : TagList) (w : WayId) (n : NodeId) (b : Way) → ShowWay (chain tags) w b → Contains b.refs n →
    Beside w n
beside_shown tags w n b (inl a) h = beside_at tags 1 2 w n b refl a.0 a.1 h
beside_shown tags w n b (inr (inl a)) h = beside_at residential 2 3 w n b refl a.0 a.1 h
beside_shown tags w n b (inr (inr (inl a))) h = beside_at residential 3 4 w n b refl a.0 a.1 h
beside_shown tags w n b (inr (inr (inr (inl a)))) h = beside_at residential 4 5 w n b refl a.0 a.1 h
beside_shown tags w n b (inr (inr (inr (inr (inl a))))) h = beside_at residential 5 6 w n b refl a.0 a.1 h
beside_shown tags w n b (inr (inr (inr (inr (inr (inl a)))))) h = beside_at residential 6 7 w n b refl a.0 a.1 h
beside_shown tags w n b (inr (inr (inr (inr (inr (inr none)))))) h = absurd none

beside : (tags : TagList) (w : WayId) (n : NodeId) → RefersTo (chain_map tags) w n → Beside w n
beside tags w n r = beside_shown tags w n r.body (way_is tags w r.body r.is) r.member

linked : (tags : TagList) (a b : Key) → IsLink (chain_map tags) a b → position b ≤ position a + 1
linked tags (NodeKey n) (NodeKey m) h = absurd h
linked tags (NodeKey n) (WayKey w) h = (beside tags w n h).0
linked tags (NodeKey n) (RelationKey r) h = absurd (no_relation tags r h.body h.is)
linked tags (WayKey w) (NodeKey n) h = (beside tags w n h).1
linked tags (WayKey w) (WayKey v) h = absurd h
linked tags (WayKey w) (RelationKey r) h = absurd (no_relation tags r h.body h.is)
linked tags (RelationKey r) (NodeKey n) h = absurd (no_relation tags r h.body h.is)
linked tags (RelationKey r) (WayKey w) h = absurd (no_relation tags r h.body h.is)
linked tags (RelationKey r) (RelationKey q) h = absurd h

within : (tags : TagList) (n : ℕ) (a b : Key) → IsWithin (chain_map tags) n a b → position b ≤ position a + n
within tags zero a b e = let f = ap position e in omega arith
within tags (suc n) a b (inl h) = let k = within tags n a b h in omega arith
within tags (suc n) a b (inr h) = let k = within tags n a h.0 h.1 in let l = linked tags h.0 b h.2 in omega arith

-- what is reached from another object is visible
reached : (tags : TagList) (n : ℕ) (a : Key) (w : WayId) → IsWithin (chain_map tags) n a (WayKey w) →
    (a ≡ WayKey w) ⊎ ((b : Way) × ShowWay (chain tags) w b)
reached tags zero a w e = inl e
reached tags (suc n) a w (inl h) = reached tags n a w h
reached tags (suc n) a w (inr (NodeKey m, h, l)) = inr (l.body, way_is tags w l.body l.is)
reached tags (suc n) a w (inr (WayKey v, h, l)) = absurd l
reached tags (suc n) a w (inr (RelationKey r, h, l)) = absurd (no_relation tags r l.body l.is)

-- ---- the first way's tags change

abbrev before : Objects
before = chain_map residential

abbrev after : Objects
after = chain_map service

-- no other object differs
other_way : (w : WayId) (same : Bool) → int_eq w.0 (pos 1) ≡ same → Differs before after (WayKey w) → w ≡ way 1
unfolding visible
other_way w true s h = let f = (Decides-int_eq w.0 (pos 1)).0 s in λ i. record { 0 = f i }
other_way w false s h = absurd (h (simp (looked_up, s) refl))

changed_alone : (k : Key) → Differs before after k → k ≡ WayKey (way 1)
unfolding visible
changed_alone (NodeKey n) h = absurd (h (simp looked_up refl))
changed_alone (WayKey w) h = ap WayKey (other_way w _ refl h)
changed_alone (RelationKey r) h = absurd (h (simp looked_up refl))

abbrev is_service : Option Way → Bool
is_service None = false
is_service (Some b) = is_the_value (codes "service") (value_of (codes "highway") b.tags)

first_changed : Differs before after (WayKey (way 1))
unfolding visible
first_changed h = false≢true (ap (λ (o : Option Body). is_service (way_in o)) (simp looked_up at h))

-- ---- the ways within eight links of way 1

ends : (w a b : ℕ) → way_of before (way w) ≡ Some (way_body residential a b) →
    RefersTo before (way w) (node a) × RefersTo before (way w) (node b)
ends w a b e = (
  record { body = way_body residential a b; is = e; highway = refl; member = (0, lit< tt, refl) },
  record { body = way_body residential a b; is = e; highway = refl; member = (1, lit< tt, refl) },
)

-- two links lead from a way over its last node to the way that begins there
next_way : (k a v b w c : ℕ) → way_of before (way v) ≡ Some (way_body residential a b) →
    way_of before (way w) ≡ Some (way_body residential b c) → IsWithin before k (WayKey (way 1)) (WayKey (way v)) →
    IsWithin before (suc (suc k)) (WayKey (way 1)) (WayKey (way w))
next_way k a v b w c e f h = inr (NodeKey (node b), inr (WayKey (way v), h, (ends v a b e).1), (ends w b c f).0)

second_within : IsWithin before 2 (WayKey (way 1)) (WayKey (way 2))
unfolding way_of visible
second_within = next_way 0 1 1 2 2 3 (simp looked_up refl) (simp looked_up refl) refl

third_within : IsWithin before 4 (WayKey (way 1)) (WayKey (way 3))
unfolding way_of visible
third_within = next_way 2 2 2 3 3 4 (simp looked_up refl) (simp looked_up refl) second_within

fourth_within : IsWithin before 6 (WayKey (way 1)) (WayKey (way 4))
unfolding way_of visible
fourth_within = next_way 4 3 3 4 4 5 (simp looked_up refl) (simp looked_up refl) third_within

fifth_near : IsNear before (WayKey (way 1)) (way 5)
unfolding way_of visible
fifth_near = next_way 6 4 4 5 5 6 (simp looked_up refl) (simp looked_up refl) fourth_within

touched : (w : WayId) (i : ℕ) → IsNear before (WayKey (way 1)) (way i) → w ≡ way i → IsTouched before after w
touched w i h e = subst (IsTouched before after) (sym e) (WayKey (way 1), first_changed, inl h)

-- way 6 is ten links away
sixth_not_near : (tags : TagList) → IsNear (chain_map tags) (WayKey (way 1)) (way 6) → ⊥
sixth_not_near tags h = let l = within tags 8 (WayKey (way 1)) (WayKey (way 6)) h in omega arith

abbrev first_five : List WayId
first_five = way 1 ∷ way 2 ∷ way 3 ∷ way 4 ∷ way 5 ∷ []

near_shown : (tags : TagList) (w : WayId) (b : Way) → IsNear (chain_map tags) (WayKey (way 1)) w →
    ShowWay (chain tags) w b → In w first_five
near_shown tags w b h (inl a) = inl a.0
near_shown tags w b h (inr (inl a)) = inr (inl a.0)
near_shown tags w b h (inr (inr (inl a))) = inr (inr (inl a.0))
near_shown tags w b h (inr (inr (inr (inl a)))) = inr (inr (inr (inl a.0)))
near_shown tags w b h (inr (inr (inr (inr (inl a))))) = inr (inr (inr (inr (inl a.0))))
near_shown tags w b h (inr (inr (inr (inr (inr (inl a)))))) =
    absurd (sixth_not_near tags (subst (IsNear (chain_map tags) (WayKey (way 1))) a.0 h))
near_shown tags w b h (inr (inr (inr (inr (inr (inr none)))))) = absurd none

near_among : (tags : TagList) (w : WayId) → IsNear (chain_map tags) (WayKey (way 1)) w → In w first_five
near_among tags w h =
    elim (reached tags 8 (WayKey (way 1)) w h) [ inl e ↦ inl (cc) | inr s ↦ near_shown tags w s.0 h s.1 ]

all_touched : (w : WayId) → IsTouched before after w → In w first_five
all_touched w (k, d, inl h) = near_among residential w (subst (λ x. IsNear before x w) (changed_alone k d) h)
all_touched w (k, d, inr h) = near_among service w (subst (λ x. IsNear after x w) (changed_alone k d) h)

each_touched : (w : WayId) → In w first_five → IsTouched before after w
each_touched w (inl e) = touched w 1 (inl (inl (inl (inl (inl (inl (inl (inl refl)))))))) e
each_touched w (inr (inl e)) = touched w 2 (inl (inl (inl (inl (inl (inl second_within)))))) e
each_touched w (inr (inr (inl e))) = touched w 3 (inl (inl (inl (inl third_within)))) e
each_touched w (inr (inr (inr (inl e)))) = touched w 4 (inl (inl fourth_within)) e
each_touched w (inr (inr (inr (inr (inl e))))) = touched w 5 fifth_near e
each_touched w (inr (inr (inr (inr (inr none))))) = absurd none

touched_are : AreTouched before after first_five
touched_are = record {
  ascending = refl;
  sound = λ w h. each_touched w (in_from_contains first_five w h);
  complete = λ w h. contains_from_in first_five w (all_touched w h);
}
