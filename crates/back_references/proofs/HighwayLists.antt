-- The visible ways with the key `highway` among the entries of a map.
use Rattle.std.proofs.Common.{◌≡◌, Bool, true, false, cond, IsTrue, List, [], ◌∷◌, ◌++◌, map}
use Rattle.std.proofs.Common.{Contains, Option, Some, None, refl, sym, ap, ◌∙◌, append_assoc}
use Rattle.std.proofs.lemmas.List.{append-nil}
use Rattle.std.specs.Prelude.{filter_map}
use Rattle.std.specs.List.{cons_option}
use Rattle.std.specs.Option.{option_to_list}
use Rattle.std.specs.Cmp.{IsTotalOrder}
use Rattle.std.specs.FinMap.{get, entries}
use Rattle.road_base.specs.declared.ids.WayId.{WayId}
use Rattle.road_base.specs.declared.ids.Key.{Key}
use Rattle.road_base.specs.declared.ids.Key.TheVariants.{Node as NodeKey, Way as WayKey, Relation as RelationKey}
use Rattle.road_base.specs.declared.objects.Way.{Way}
use Rattle.road_base.specs.declared.objects.Body.{Body}
use Rattle.road_base.specs.declared.objects.Body.TheVariants.{Node as NodeBody, Way as WayBody}
use Rattle.road_base.specs.declared.objects.Body.TheVariants.{Relation as RelationBody, Deleted}
use Rattle.road_base.specs.declared.event.Event.{Event}
use Rattle.road_base.specs.Objects.{Objects, Entry, key_cmp, body_in, way_in, visible, way_of}
use Rattle.road_model.specs.Rules.{has_highway}
use Rattle.road_model.specs.Highways.{IsHighway, highway_of, highways, visible_highway}
use Rattle.ordered_lists.specs.Orders.{rises}
use Rattle.road_model.specs.Orders.{way_cmp}
use Rattle.object_store.specs.Listed.{AreEntriesOf, IsInOrder, is_any, pair_of}
use Rattle.ordered_lists.proofs.ListMembers.{In, contains_from_in, in_from_contains}
use Rattle.back_references.proofs.ToldNames.{in_told, told_rise}

-- ---- they are told from the entries

abbrev pub in_event : Event → Option WayId
in_event e = highway_of e.key e.body

abbrev in_entry : Key × Entry → Option WayId
in_entry e = highway_of e.0 e.1.body

of_pairs : (events : List Event) → filter_map in_entry (map pair_of events) ≡ filter_map in_event events
of_pairs [] = refl
of_pairs (e ∷ events) = ap (cons_option (in_event e)) (of_pairs events)

-- those among all entries
pub highways_are : (M : Objects) (events : List Event) → entries M ≡ map pair_of events
    → filter_map (λ e. highway_of e.key e.body) events ≡ highways M
highways_are M events is = sym (of_pairs events) ∙ ap (filter_map in_entry) (sym is)

told_first : (o : Option WayId) (ways : List WayId) → cons_option o ways ≡ option_to_list o ++ ways
told_first None ways = refl
told_first (Some w) ways = refl

-- one more entry is looked at
pub one_told : (old new all : List WayId) (left rest : List Event) (e : Event) → left ≡ e ∷ rest
    → old ++ filter_map in_event left ≡ all → new ≡ old ++ option_to_list (in_event e)
    → new ++ filter_map in_event rest ≡ all
one_told old new all left rest e split before here =
    ap (λ l. l ++ filter_map in_event rest) here
    ∙ append_assoc old (option_to_list (in_event e)) (filter_map in_event rest)
    ∙ ap (λ l. old ++ l) (sym (told_first (in_event e) (filter_map in_event rest)))
    ∙ ap (λ l. old ++ filter_map in_event l) (sym split) ∙ before

pub all_told : (new all : List WayId) (rest : List Event) → rest ≡ [] → new ++ filter_map in_event rest ≡ all
    → new ≡ all
all_told new all rest none before =
    sym (append-nil new) ∙ ap (λ l. new ++ filter_map in_event l) (sym none) ∙ before

-- ---- they ascend

visible_key : (v w : WayId) (b : Body) → visible_highway v b ≡ Some w → v ≡ w
visible_key v w (NodeBody n) e = cc
visible_key v w (WayBody body) e = tagged (has_highway body.tags) e
  where
    tagged : (t : Bool) → cond t (Some v) None ≡ Some w → v ≡ w
    tagged true e = cc
    tagged false e = cc
visible_key v w (RelationBody r) e = cc
visible_key v w Deleted e = cc

key_is : (k : Key) (b : Body) (w : WayId) → highway_of k b ≡ Some w → k ≡ WayKey w
key_is (NodeKey n) b w e = cc
key_is (WayKey v) b w e = ap (λ x. WayKey x) (visible_key v w b e)
key_is (RelationKey r) b w e = cc

own_key : (e : Event) (w : WayId) → in_event e ≡ Some w → e.key ≡ WayKey w
own_key e w is = key_is e.key e.body w is

pub highways_rise : IsTotalOrder key_cmp → (es : List Event) → IsInOrder es
    → IsTrue (rises way_cmp (filter_map in_event es))
highways_rise total = told_rise way_cmp (λ w. WayKey w) (λ a b. refl) in_event own_key total

-- ---- each is among them

body_is : (b : Body) (body : Way)
    → way_in (body_in (Some (record { version = 0; body = b }))) ≡ Some body → b ≡ WayBody body
body_is (NodeBody n) body e = cc
body_is (WayBody w) body e = cc
body_is (RelationBody r) body e = cc
body_is Deleted body e = cc

entry_is : (o : Option Entry) (body : Way)
    → way_in (body_in o) ≡ Some body → (x : Entry) × (o ≡ Some x) × (x.body ≡ WayBody body)
entry_is None body e = cc
entry_is (Some x) body e = (x, refl, body_is x.body body e)

module _ (M : Objects) (es : List Event) (all : AreEntriesOf is_any M es) where
  visible_listed : (w : WayId) (body : Way)
      → way_of M w ≡ Some body → IsTrue (has_highway body.tags) → In w (filter_map in_event es)
  unfolding way_of visible
  visible_listed w body seen tagged =
      let entry = entry_is (get M (WayKey w)) body seen in
      let event = all.all (WayKey w) entry.0 refl entry.1 in
      let body_of : event.0.body ≡ WayBody body = ap (λ x. x.body) event.3 ∙ entry.2 in
      let is : in_event event.0 ≡ Some w =
      ap (λ k. highway_of k event.0.body) event.2
      ∙ ap (visible_highway w) body_of
      ∙ ap (λ t. cond t (Some w) None) tagged
      in
      in_told in_event es event.0 w (in_from_contains es event.0 event.1) is

  pub highway_listed : (w : WayId) → IsHighway M w → Contains (filter_map in_event es) w
  highway_listed w is =
      contains_from_in (filter_map in_event es) w (visible_listed w is.body is.visible is.tagged)
