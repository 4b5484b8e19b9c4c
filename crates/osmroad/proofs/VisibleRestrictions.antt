-- The visible restrictions among the entries of a map.
use Rattle.std.proofs.Common.{◌≡◌, Bool, true, false, cond, IsTrue, List, Contains, Option, Some, None, refl, ap}
use Rattle.std.proofs.Common.{subst, ◌∙◌, All, get_or}
use Rattle.std.specs.Prelude.{filter_map}
use Rattle.std.specs.Cmp.{IsTotalOrder}
use Rattle.std.specs.FinMap.{get}
use Rattle.road_base.specs.declared.ids.RelationId.{RelationId}
use Rattle.road_base.specs.declared.ids.Key.{Key}
use Rattle.road_base.specs.declared.ids.Key.TheVariants.{Node as NodeKey, Way as WayKey, Relation as RelationKey}
use Rattle.road_base.specs.declared.objects.Relation.{Relation}
use Rattle.road_base.specs.declared.objects.Body.{Body}
use Rattle.road_base.specs.declared.objects.Body.TheVariants.{Node as NodeBody, Way as WayBody}
use Rattle.road_base.specs.declared.objects.Body.TheVariants.{Relation as RelationBody, Deleted}
use Rattle.road_base.specs.declared.event.Event.{Event}
use Rattle.road_base.specs.Objects.{Objects, Entry, key_cmp, body_in, relation_in, visible, relation_of}
use Rattle.road_base.specs.Applying.{entry_of}
use Rattle.road_model.specs.Rules.{is_restriction}
use Rattle.ordered_lists.specs.Orders.{rises}
use Rattle.road_model.specs.Orders.{relation_cmp}
use Rattle.object_store.specs.Listed.{AreEntriesOf, IsInOrder, is_any}
use Rattle.restrictions.specs.Words.{IsRestriction}
use Rattle.osmroad.specs.Audit.{restriction_of, visible_restriction}
use Rattle.ordered_lists.proofs.ListMembers.{In, contains_from_in, in_from_contains, in_get}
use Rattle.back_references.proofs.ToldNames.{in_told, from_told, told_rise}

abbrev in_event : Event → Option RelationId
in_event e = restriction_of e.key e.body

-- ---- what an entry tells

-- a relation's tags that say so
abbrev TellsOf : RelationId → Body → RelationId → Type 0
TellsOf id b r = (id ≡ r) × ((body : Relation) × (b ≡ RelationBody body) × IsTrue (is_restriction body.tags))

tells : (id : RelationId) (b : Body) (r : RelationId) → visible_restriction id b ≡ Some r → TellsOf id b r
tells id (NodeBody n) r e = cc
tells id (WayBody w) r e = cc
tells id (RelationBody body) r e = tagged (is_restriction body.tags) refl e
  where
    tagged : (t : Bool) → is_restriction body.tags ≡ t → cond t (Some id) None ≡ Some r
        → TellsOf id (RelationBody body) r
    tagged true is f = (cc, (body, refl, is))
    tagged false is f = cc
tells id Deleted r e = cc

abbrev Tells : Key → Body → RelationId → Type 0
Tells k b r = (k ≡ RelationKey r) × ((body : Relation) × (b ≡ RelationBody body) × IsTrue (is_restriction body.tags))

restriction_is : (k : Key) (b : Body) (r : RelationId) → restriction_of k b ≡ Some r → Tells k b r
restriction_is (NodeKey n) b r e = cc
restriction_is (WayKey w) b r e = cc
restriction_is (RelationKey id) b r e = let t = tells id b r e in (ap (λ x. RelationKey x) t.0, t.1)

own_key : (e : Event) (r : RelationId) → in_event e ≡ Some r → e.key ≡ RelationKey r
own_key e r is = (restriction_is e.key e.body r is).0

-- they ascend by number
pub restrictions_rise : IsTotalOrder key_cmp → (es : List Event) → IsInOrder es
    → IsTrue (rises relation_cmp (filter_map (λ e. restriction_of e.key e.body) es))
restrictions_rise total = told_rise relation_cmp (λ r. RelationKey r) (λ a b. refl) in_event own_key total

-- ---- they are all

body_is : (b : Body) (body : Relation)
    → relation_in (body_in (Some (record { version = 0; body = b }))) ≡ Some body → b ≡ RelationBody body
body_is (NodeBody n) body e = cc
body_is (WayBody w) body e = cc
body_is (RelationBody r) body e = cc
body_is Deleted body e = cc

entry_is : (o : Option Entry) (body : Relation)
    → relation_in (body_in o) ≡ Some body → (x : Entry) × (o ≡ Some x) × (x.body ≡ RelationBody body)
entry_is None body e = cc
entry_is (Some x) body e = (x, refl, body_is x.body body e)

entry_has : (o : Option Entry) (x : Entry) (body : Relation) → o ≡ Some x → x.body ≡ RelationBody body
    → relation_in (body_in o) ≡ Some body
entry_has o x body is has =
    ap (λ p. relation_in (body_in p)) is ∙ ap (λ b. relation_in (body_in (Some (record { version = 0; body = b })))) has

module _ (M : Objects) (es : List Event) (all : AreEntriesOf is_any M es) where
  told_is_restriction : (r : RelationId) → Contains (filter_map (λ e. restriction_of e.key e.body) es) r
      → IsRestriction M r
  unfolding relation_of visible
  told_is_restriction r has =
      let from = from_told in_event es r (in_from_contains (filter_map in_event es) r has) in
      let is = restriction_is from.0.key from.0.body r from.2 in
      let entry = (all.own from.0 (contains_from_in es from.0 from.1)).1 in
      let found : get M (RelationKey r) ≡ Some (entry_of from.0) =
      subst (λ k. get M k ≡ Some (entry_of from.0)) is.0 entry
      in
      record {
        body = is.1.0;
        visible = entry_has (get M (RelationKey r)) (entry_of from.0) is.1.0 found is.1.1;
        restriction = is.1.2;
      }

  pub all_restrictions : (rules : List RelationId) → rules ≡ filter_map (λ e. restriction_of e.key e.body) es
      → All (IsRestriction M) rules
  all_restrictions rules are = λ k d within.
      let r = get_or rules k d in
      let has = contains_from_in rules r (in_get rules k d within) in
      told_is_restriction r (subst (λ l. Contains l r) are has)

  pub restriction_is_told : (r : RelationId) → IsRestriction M r
      → In r (filter_map (λ e. restriction_of e.key e.body) es)
  unfolding relation_of visible
  restriction_is_told r rule =
      let entry = entry_is (get M (RelationKey r)) rule.body rule.visible in
      let event = all.all (RelationKey r) entry.0 refl entry.1 in
      let body_of : event.0.body ≡ RelationBody rule.body = ap (λ x. x.body) event.3 ∙ entry.2 in
      let is : in_event event.0 ≡ Some r =
      ap (λ k. restriction_of k event.0.body) event.2
      ∙ ap (visible_restriction r) body_of
      ∙ ap (λ t. cond t (Some r) None) rule.restriction
      in
      in_told in_event es event.0 r (in_from_contains es event.0 event.1) is
