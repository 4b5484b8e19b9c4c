-- The ways of entries that the cell owns.
use Rattle.std.proofs.Common.{◌≡◌, ◌&&◌, Bool, true, cond, List, [], ◌∷◌, ◌++◌, Option, Some, None}
use Rattle.std.proofs.Common.{Contains, filter, filter_map, flat_map, option_to_list, refl, ap, sym, subst, ◌∙◌}
use Rattle.std.proofs.Common.{append_assoc}
use Rattle.std.specs.FinMap.{get}
use Rattle.std.specs.List.{cons_option}
use Rattle.std.specs.Cmp.{IsTotalOrder}
use Rattle.std.proofs.lemmas.List.{append-nil}
use Rattle.std.proofs.lemmas.List.Concat.{flat_map-append}
use Rattle.std.proofs.lemmas.List.Elements.{filter-append}
use Rattle.ordered_lists.proofs.ListMembers.{contains_from_in, in_end}
use Rattle.road_base.specs.declared.ids.WayId.{WayId}
use Rattle.road_base.specs.declared.ids.NodeId.{NodeId}
use Rattle.road_base.specs.declared.ids.Key.TheVariants.{Way as WayKey}
use Rattle.road_base.specs.declared.objects.Way.{Way}
use Rattle.road_base.specs.declared.objects.Body.TheVariants.{Way as WayBody}
use Rattle.road_base.specs.declared.event.Event.{Event}
use Rattle.road_base.specs.Objects.{Objects, key_cmp, body_in, way_in, visible, way_of}
use Rattle.ordered_lists.specs.Orders.{Lists}
use Rattle.road_model.specs.Orders.{way_cmp}
use Rattle.road_model.specs.Rules.{has_highway}
use Rattle.road_model.specs.Highways.{highway_of, visible_highway}
use Rattle.object_store.specs.Listed.{AreEntriesOf, IsInOrder, is_any}
use Rattle.back_references.proofs.HighwayLists.{in_event, highways_rise, highway_listed}
use Rattle.map_cells.specs.declared.area.Area.{Area}
use Rattle.map_cells.specs.Owners.{first_place, IsOwn}
use Rattle.cell_check.specs.Candidates.{IsEntryIn, IsHighwayIn, named_by_highway, names_of_highway, names_of_way}
use Rattle.cell_check.specs.Candidates.{highway_names}
use Rattle.cell_check.specs.Owning.{owns, owns_body, owned_by, lies_in}
use Rattle.cell_check.proofs.OwnWays.{own_lists}

-- ---- all entries

owned_first : (p : WayId → Bool) (o : Option WayId) (ways : List WayId)
    → filter p (option_to_list o) ++ filter p ways ≡ filter p (cons_option o ways)
owned_first p None ways = refl
owned_first p (Some w) ways = sym (filter-append p (w ∷ []) ways)

owned_among : (M : Objects) (cell : Area) (es : List Event)
    → flat_map (owned_by M cell) es ≡ filter (owns M cell) (filter_map in_event es)
owned_among M cell [] = refl
owned_among M cell (e ∷ es) = ap (λ (l : List WayId). owned_by M cell e ++ l) (owned_among M cell es)
    ∙ owned_first (owns M cell) (in_event e) (filter_map in_event es)

pub owned_lists : (M : Objects) (cell : Area) → IsTotalOrder key_cmp → IsTotalOrder way_cmp → (es : List Event)
    → AreEntriesOf is_any M es → IsInOrder es → (own : List WayId) → own ≡ flat_map (owned_by M cell) es
    → Lists (λ w. w) way_cmp (IsOwn M cell) own
owned_lists M cell keys ways es all rise own is =
    own_lists M cell ways (filter_map in_event es) own (highways_rise keys es rise) (highway_listed M es all)
    (is ∙ owned_among M cell es)

-- ---- one more of them

-- what is left splits the entries one later
pub split_more : (passed left rest all : List Event) (e : Event) → left ≡ e ∷ rest → passed ++ left ≡ all
    → (passed ++ e ∷ []) ++ rest ≡ all
split_more passed left rest all e split before =
    append_assoc passed (e ∷ []) rest ∙ ap (λ (l : List Event). passed ++ l) (sym split) ∙ before

pub next_among : (passed left rest all : List Event) (e : Event) → left ≡ e ∷ rest → passed ++ left ≡ all
    → Contains all e
next_among passed left rest all e split before =
    subst (λ (l : List Event). Contains l e) (ap (λ (l : List Event). passed ++ l) (sym split) ∙ before)
    (contains_from_in (passed ++ e ∷ rest) e (in_end passed e rest))

pub flat_more : {A : Type 0} (f : Event → List A) (passed : List Event) (e : Event)
    → flat_map f (passed ++ e ∷ []) ≡ flat_map f passed ++ f e
flat_more f passed e = flat_map-append f passed (e ∷ [])
    ∙ ap (λ (l : List _). flat_map f passed ++ l) (append-nil (f e))

pub list_more : {A : Type 0} (f : Event → List A) (first old new : List A) (passed : List Event) (e : Event)
    → old ≡ first ++ flat_map f passed → new ≡ old ++ f e → new ≡ first ++ flat_map f (passed ++ e ∷ [])
list_more f first old new passed e before here =
    here ∙ ap (λ (l : List _). l ++ f e) before ∙ append_assoc first (flat_map f passed) (f e)
    ∙ ap (λ (l : List _). first ++ l) (sym (flat_more f passed e))

pub nothing_left : (passed rest all : List Event) → rest ≡ [] → passed ++ rest ≡ all → passed ≡ all
nothing_left passed rest all none before =
    sym (append-nil passed) ∙ ap (λ (l : List Event). passed ++ l) (sym none) ∙ before

-- ---- one of them

pub entry_among : (M : Objects) (es : List Event) → AreEntriesOf is_any M es → (e : Event) → Contains es e
    → IsEntryIn M e
entry_among M es all e has = (all.own e has).1

module _ (M : Objects) (e : Event) (w : WayId) (body : Way) (key : e.key ≡ WayKey w) (is : e.body ≡ WayBody body)
    (tagged : has_highway body.tags ≡ true) where
  pub highway_in : (nodes : List NodeId) → nodes ≡ body.refs → IsEntryIn M e → IsHighwayIn M w nodes
  unfolding way_of visible
  highway_in nodes same entry = record {
    body = body;
    is = ap (λ k. way_in (body_in (get M k))) (sym key) ∙ ap (λ o. way_in (body_in o)) entry
        ∙ ap (λ b. way_in (body_in (Some (record { version = e.version; body = b })))) is;
    tagged = tagged;
    nodes_are = same;
  }

  pub names_are : (nodes : List NodeId) → nodes ≡ body.refs → named_by_highway e ≡ names_of_highway w nodes
  names_are nodes same = ap (λ k. highway_names k e.body) key ∙ ap (names_of_way w) is
      ∙ ap (λ t. cond t (names_of_highway w body.refs) []) tagged ∙ ap (names_of_highway w) (sym same)

  pub owned_is : (cell : Area) → owned_by M cell e ≡ filter (owns M cell) (w ∷ [])
  owned_is cell = ap (λ o. filter (owns M cell) (option_to_list o))
      (ap (λ k. highway_of k e.body) key ∙ ap (visible_highway w) is ∙ ap (λ t. cond t (Some w) None) tagged)

-- the cell owns the way where it begins there
module _ (M : Objects) (cell : Area) (w : WayId) (nodes : List NodeId) (is : IsHighwayIn M w nodes) where
  kept : (b : Bool) → owns M cell w ≡ b → cond b (w ∷ []) [] ≡ filter (owns M cell) (w ∷ [])
  kept b e = ap (λ c. cond c (w ∷ []) []) (sym e)

  pub owned_where : (b : Bool) → b ≡ lies_in cell (first_place M nodes)
      → cond b (w ∷ []) [] ≡ filter (owns M cell) (w ∷ [])
  owned_where b e = kept b (ap (owns_body M cell) is.is
      ∙ ap (λ t. t && lies_in cell (first_place M is.body.refs)) is.tagged
      ∙ ap (λ (l : List NodeId). lies_in cell (first_place M l)) (sym is.nodes_are) ∙ sym e)
