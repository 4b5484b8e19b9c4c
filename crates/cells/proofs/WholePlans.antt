-- The cells of a plan that have nodes have all nodes of the map of which it was made.
use Rattle.std.proofs.Common.{◌≡◌, ◌⊎◌, ℕ, ◌<◌, Bool, true, false, cond, List, [], ◌∷◌, ◌++◌, length, map, Option}
use Rattle.std.proofs.Common.{Some, None}
use Rattle.std.proofs.Common.{Contains, inl, inr, IsTrue, refl, sym, ap, subst, ◌∙◌, arith}
use Rattle.std.specs.Prelude.{nat_lt, nat_le}
use Rattle.std.specs.List.{filter, filter_map}
use Rattle.std.specs.Option.{option_to_list}
use Rattle.std.specs.FinMap.{get, empty, get-empty}
use Rattle.std.proofs.lemmas.Bool.{lt-ltb}
use Rattle.road_base.specs.declared.event.Event.{Event}
use Rattle.road_base.specs.declared.ids.NodeId.{NodeId}
use Rattle.road_base.specs.declared.ids.Key.{Key}
use Rattle.road_base.specs.declared.ids.Key.TheVariants.{Node as NodeKey}
use Rattle.road_base.specs.declared.location.Location.{Location}
use Rattle.road_base.specs.declared.objects.Node.{Node}
use Rattle.road_base.specs.declared.objects.Body.{Body}
use Rattle.road_base.specs.declared.objects.Body.TheVariants.{Node as NodeBody, Way as WayBody}
use Rattle.road_base.specs.declared.objects.Body.TheVariants.{Relation as RelationBody, Deleted}
use Rattle.road_base.specs.Objects.{Objects, Entry, key_cmp, body_in, node_in, visible, node_of}
use Rattle.road_base.specs.Applying.{entry_of, is_of, entries_for, newer, first_greatest, IsApplied}
use Rattle.opl_lexer.specs.declared.mode.Mode.TheVariants.{Extract}
use Rattle.opl_lexer.specs.Reading.{ReadAll}
use Rattle.ordered_lists.proofs.ListMembers.{In, contains_from_in, from_map}
use Rattle.ordered_lists.proofs.ListMembers.{contains_head, contains_later, contains_cases, contains_none}
use Rattle.ordered_lists.proofs.FilteredLists.{from_filter, contains_filter}
use Rattle.road_model.proofs.LocalLinks.{node_same}
use Rattle.map_cells.specs.declared.area.Area.{Area}
use Rattle.map_cells.specs.Areas.{is_in, CoverWorld, CoverNodes}
use Rattle.map_cells.specs.Cells.{IsLocatedIn}
use Rattle.cell_plan.specs.declared.cells.PlanRule.{PlanRule}
use Rattle.cell_plan.specs.declared.cells.PlannedCell.{PlannedCell}
use Rattle.cell_plan.specs.CellPlans.{places_in}
use Rattle.last_words.specs.declared.status.Status.TheVariants.{Done}
use Rattle.cells.specs.Made.{place_of, places_of, IsPlan}
use Rattle.cells.specs.Outcomes.{PlanGives, OfText, OfNodes}
use Rattle.cells.specs.WholeGraph.{HasNodesOf, ArePlannedFor}
use Rattle.cells.proofs.WholeCells.{not_refused}

-- ---- the events of what is visible

chosen : (later : Bool) (e l x : Entry) → cond later (Some e) (Some l) ≡ Some x → (x ≡ e) ⊎ (Some l ≡ Some x)
chosen true e l x is = inl (cc)
chosen false e l x is = inr is

newer_cases : (e : Entry) (o : Option Entry) (x : Entry) → newer e o ≡ Some x → (x ≡ e) ⊎ (o ≡ Some x)
newer_cases e None x is = inl (cc)
newer_cases e (Some l) x is = chosen (nat_le l.version e.version) e l x is

first_in : (es : List Entry) (x : Entry) → first_greatest es ≡ Some x → In x es
first_in [] x is = cc
first_in (e ∷ es) x is = elim (newer_cases e (first_greatest es) x is)
    [ inl here ↦ inl here | inr later ↦ inr (first_in es x later) ]

event_at : (events : List Event) (k : Key) (x : Entry) → In x (entries_for empty events k)
    → (e : Event) × Contains events e × (x ≡ entry_of e)
event_at events k x is =
    let none : entries_for empty events k ≡ map entry_of (filter (is_of k) events)
    = ap (λ (o : Option Entry). option_to_list o ++ map entry_of (filter (is_of k) events)) (get-empty key_cmp k) in
    let h = from_map entry_of (filter (is_of k) events) x (subst (In x) none is) in
    (h.0, contains_from_in events h.0 (from_filter (is_of k) events h.0 h.1).0, h.2)

by_body : (b : Body) (body : Node) → node_in (elim b [
  | NodeBody n ↦ Some (NodeBody n)
  | WayBody w ↦ Some (WayBody w)
  | RelationBody r ↦ Some (RelationBody r)
  | Deleted ↦ None
]) ≡ Some body → b ≡ NodeBody body
by_body (NodeBody n) body is = cc
by_body (WayBody w) body is = cc
by_body (RelationBody r) body is = cc
by_body Deleted body is = cc

shown : (o : Option Entry) (body : Node) → node_in (body_in o) ≡ Some body
    → (x : Entry) × (o ≡ Some x) × (x.body ≡ NodeBody body)
shown None body is = cc
shown (Some x) body is = (x, refl, by_body x.body body is)

-- a visible node is one of the events'
node_event : (events : List Event) (N : Objects) (n : NodeId) (body : Node) → IsApplied empty events N
    → node_of N n ≡ Some body → (e : Event) × Contains events e × (e.body ≡ NodeBody body)
unfolding node_of visible
node_event events N n body applied is =
    let x = shown (get N (NodeKey n)) body is in
    let e = event_at events (NodeKey n) x.0
    (first_in (entries_for empty events (NodeKey n)) x.0 (sym (applied (NodeKey n)) ∙ x.1)) in
    (e.0, e.1, sym (ap (λ (y : Entry). y.body) e.2) ∙ x.2)

-- ---- the places of the events

module _ {A B : Type 0} (f : A → Option B) where
  added : (o : Option B) (x : A) (y : B) (xs : List A) → f x ≡ o → (o ≡ Some y) ⊎ Contains (filter_map f xs) y
      → Contains (filter_map f (x ∷ xs)) y
  added None x y xs is (inl e) = cc
  added None x y xs is (inr has) = rw is has
  added (Some z) x y xs is (inl e) =
      let same : y ≡ z = cc in rw is (subst (λ w. Contains (w ∷ filter_map f xs) y) same
      (contains_head y (filter_map f xs)))
  added (Some z) x y xs is (inr has) = rw is (contains_later z y (filter_map f xs) has)

  contains_filter_map : (xs : List A) (x : A) (y : B) → Contains xs x → f x ≡ Some y → Contains (filter_map f xs) y
  contains_filter_map [] x y has is = absurd (contains_none x has)
  contains_filter_map (z ∷ xs) x y has is = elim (contains_cases z x xs has) [
    | inl here ↦ added (f z) z y xs refl (inl (ap f (sym here) ∙ is))
    | inr more ↦ added (f z) z y xs refl (inr (contains_filter_map xs x y more is))
  ]

event_place : (events : List Event) (body : Node) (p : Location) (e : Event) → Contains events e
    → e.body ≡ NodeBody body → body.location ≡ Some p → Contains (places_of events) p
event_place events body p e has is located = contains_filter_map (λ (x : Event). place_of x.body) events e p has
    (ap place_of is ∙ located)

some_length : {A : Type 0} (xs : List A) (x : A) → Contains xs x → 0 < length xs
some_length [] x has = absurd (contains_none x has)
some_length (y ∷ xs) x has = omega arith

-- ---- the cells

-- the area has some of the places
abbrev has_some : List Location → Area → Bool
has_some places area = nat_lt 0 (places_in area places)

counted_some : (places : List Location) (area : Area) (p : Location) → Contains places p → IsTrue (is_in area p)
    → IsTrue (has_some places area)
counted_some places area p has inside = lt-ltb 0 (places_in area places)
    (some_length (filter (λ q. is_in area q) places) p (contains_filter (λ q. is_in area q) places p has inside))

-- areas of cells that are kept by what is told of the cells
module _ (has : Area → Bool) (keep : PlannedCell → Bool) where
  kept_head : (told kept : Bool) (c : PlannedCell) (areas : List Area) (cells : List PlannedCell) → told ≡ kept
      → areas ≡ map (λ d. d.cell) cells
      → cond told (c.cell ∷ areas) areas ≡ map (λ d. d.cell) (cond kept (c ∷ cells) cells)
  kept_head true true c areas cells same rest = ap (λ l. c.cell ∷ l) rest
  kept_head true false c areas cells same rest = cc
  kept_head false true c areas cells same rest = cc
  kept_head false false c areas cells same rest = rest

  kept_areas : (cells : List PlannedCell) → ((c : PlannedCell) → Contains cells c → has c.cell ≡ keep c)
      → filter has (map (λ c. c.cell) cells) ≡ map (λ c. c.cell) (filter keep cells)
  kept_areas [] same = refl
  kept_areas (c ∷ cells) same = kept_head (has c.cell) (keep c) c (filter has (map (λ d. d.cell) cells))
      (filter keep cells) (same c (contains_head c cells))
      (kept_areas cells (λ d among. same d (contains_later c d cells among)))

abbrev pub LeavesOut : Type 0
LeavesOut = (M : Objects) (areas : List Area) (has_node : Area → Bool) → CoverWorld areas
    → ((c : Area) (n : NodeId) → Contains areas c → IsLocatedIn M c n → IsTrue (has_node c))
    → CoverNodes M (filter has_node areas)

abbrev pub Stands : Type 0
Stands = (M : Objects) (events : List Event) → (N : Objects) × IsApplied M events N

module _ (leaves_out : LeavesOut) (stands : Stands) (M : Objects) (rule : PlanRule) (text lines : List ℕ)
    (holds : HasNodesOf M text) where
  planned_nodes : (events : List Event) → ReadAll Extract text events → IsPlan rule events lines
      → ArePlannedFor M lines
  planned_nodes events read plan =
      let left = stands empty events in
      let places = places_of events in
      record {
        cells = plan.cells;
        spelled = plan.spelled;
        inside = λ c among p inside. (plan.grown c among p inside).inside;
        cover = subst (CoverNodes M)
            (kept_areas (has_some places) (λ c. nat_lt 0 c.count) plan.cells
            (λ c among. ap (nat_lt 0) (sym (plan.counted c among).count)))
            (leaves_out M (map (λ c. c.cell) plan.cells) (has_some places) plan.cover
            (λ area n among located.
            let same = holds left.0 n located.body (record { events = events; read = read; applied = left.1 })
            located.is in
            let e = node_event events left.0 n located.body left.1
            (node_same left.0 M n same ∙ located.is) in
            counted_some places area located.place
            (event_place events located.body located.place e.0 e.1 e.2 located.located) located.inside));
      }

  pub planned_cells : PlanGives rule text Done lines → ArePlannedFor M lines
  planned_cells (OfText refusal) = absurd (not_refused text lines refusal)
  planned_cells (OfNodes few events read plan is) = planned_nodes events read plan
