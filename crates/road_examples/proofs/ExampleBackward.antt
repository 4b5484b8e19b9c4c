-- A restriction that lists its via ways from the to way to the from way.
--
-- 1 --- w10 --- 2 --- w11 --- 3 --- w12 --- 4 --- w13 --- 5        r20: from w10 over w12, w11 to w13
use Rattle.std.proofs.Common.{◌≡◌, List, [], ◌∷◌, length, refl, sym, ap, ◌∙◌, subst, inl, Some, Bool, true}
use Rattle.std.proofs.Common.{false, lit<}
use Rattle.std.specs.Prelude.{codes}
use Rattle.std.specs.FinMap.{from_sorted, get, find, get-from_sorted}
use Rattle.std.proofs.lemmas.Bool.{false≢true}
use Rattle.road_base.specs.declared.ids.Dir.TheVariants.{Forward}
use Rattle.road_base.specs.declared.ids.Key.{Key}
use Rattle.road_base.specs.declared.ids.Key.TheVariants.{Way as WayKey}
use Rattle.road_base.specs.declared.objects.Relation.{Relation}
use Rattle.road_base.specs.Objects.{Objects, Entry, key_cmp, visible, node_of, way_of, relation_of}
use Rattle.road_model.specs.declared.answers.Access.TheVariants.{Free}
use Rattle.road_model.specs.declared.answers.RuleKind.TheVariants.{No}
use Rattle.road_model.specs.declared.answers.Unusable.TheVariants.{NotThisVehicle, NoValue, Members, Missing, NotAnEnd}
use Rattle.road_model.specs.declared.answers.Unusable.TheVariants.{NotConnected, ClosedVia, TooLong}
use Rattle.road_model.specs.Rules.{Rules}
use Rattle.road_model.specs.Lines.{line_of, node_at, names_pair, end_at, tail_of, head_of}
use Rattle.road_model.specs.Driving.{is_open}
use Rattle.road_model.specs.Restrictions.{vias, via_order, lacks_member, misses_end, is_too_long, any_way}
use Rattle.road_model.specs.Restrictions.{connects, IsRun, Holds, IsUsable}
use Rattle.road_model.specs.Words.{IsWord, IsVia}
use Rattle.road_examples.proofs.ExampleMaps.{node, way, relation, along, tag, residential, node_entry, way_entry}
use Rattle.road_examples.proofs.ExampleMaps.{relation_entry}

abbrev over_two : Relation
over_two = record {
  tags = tag (codes "type") (codes "restriction") ∷ [];
  members =
      record { item = WayKey (way 10); role = codes "from" }
      ∷ record { item = WayKey (way 12); role = codes "via" }
      ∷ record { item = WayKey (way 11); role = codes "via" }
      ∷ record { item = WayKey (way 13); role = codes "to" } ∷ [];
}

abbrev things : List (Key × Entry)
things =
    node_entry 1 [] ∷ node_entry 2 [] ∷ node_entry 3 [] ∷ node_entry 4 [] ∷ node_entry 5 []
    ∷ way_entry 10 residential 1 2 ∷ way_entry 11 residential 2 3 ∷ way_entry 12 residential 3 4
    ∷ way_entry 13 residential 4 5 ∷ relation_entry 20 over_two ∷ []

abbrev row_map : Objects
row_map = from_sorted things

looked_up : (q : Key) → get row_map q ≡ find key_cmp q things
looked_up q = get-from_sorted key_cmp things q tt

-- the profile takes via ways that are listed backwards, or doesn't
abbrev rules : Bool → Rules
rules reverses = record {
  number = 1;
  direction = λ t d. Free;
  node_open = λ t. true;
  turns = λ t. false;
  rule = λ t. No;
  reverses = reverses;
  zone = λ t d. false;
}

abbrev in_travel : List Key
in_travel = WayKey (way 11) ∷ WayKey (way 12) ∷ []

-- ---- the two orders

listed_misses : misses_end row_map over_two (vias over_two) ≡ true
unfolding node_at line_of way_of visible
listed_misses = simp looked_up refl

travel_meets : misses_end row_map over_two in_travel ≡ false
unfolding node_at line_of way_of visible
travel_meets = simp looked_up refl

travel_connects : connects row_map any_way over_two in_travel ≡ true
unfolding node_at line_of way_of visible
travel_connects = simp looked_up refl

travel_open : connects row_map (is_open row_map (rules true)) over_two in_travel ≡ true
unfolding is_open node_at line_of way_of visible
travel_open = simp looked_up refl

order_listed : via_order row_map (rules false) over_two ≡ vias over_two
order_listed = refl

order_travel : via_order row_map (rules true) over_two ≡ in_travel
order_travel = rw (listed_misses, travel_meets, travel_connects) refl

-- ---- a profile that passes via ways as they are listed has no use for it

unusable : Holds row_map (rules false) over_two NotAnEnd
unusable = listed_misses

-- ---- the other one has

has_members : lacks_member row_map over_two ≡ false
unfolding line_of way_of node_of relation_of visible
has_members = simp looked_up refl

not_long : is_too_long row_map over_two ≡ false
unfolding line_of way_of visible
not_long = simp looked_up refl

usable : IsUsable row_map (rules true) over_two
usable NotThisVehicle h = cc
usable NoValue h = cc
usable Members h = false≢true h
usable Missing h = false≢true (sym has_members ∙ h)
usable NotAnEnd h = false≢true (sym travel_meets ∙ (ap (misses_end row_map over_two) (sym order_travel) ∙ h))
usable NotConnected h =
    false≢true (sym h.1 ∙ (ap (connects row_map any_way over_two) order_travel ∙ travel_connects))
usable ClosedVia h = false≢true (sym h.2
    ∙ (ap (connects row_map (is_open row_map (rules true)) over_two) order_travel ∙ travel_open))
usable TooLong h = false≢true (sym not_long ∙ h)

rule_visible : relation_of row_map (relation 20) ≡ Some over_two
unfolding relation_of visible
rule_visible = simp looked_up refl

two_nodes : length (line_of row_map (way 10)) ≡ 2
unfolding line_of way_of visible
two_nodes = simp looked_up refl

comes : head_of row_map (along 10) ≡ Some (node 2)
unfolding end_at names_pair node_at line_of way_of visible
comes = simp looked_up refl

goes : tail_of row_map (along 13) ≡ Some (node 4)
unfolding end_at names_pair node_at line_of way_of visible
goes = simp looked_up refl

open_over : (is_open row_map (rules true) (way 11) Forward ≡ true)
    × (is_open row_map (rules true) (way 12) Forward ≡ true)
unfolding is_open way_of visible
open_over = (simp looked_up refl, simp looked_up refl)

run_behind : IsRun row_map (is_open row_map (rules true)) (WayKey (way 12) ∷ []) (node 3) (along 12 ∷ []) (node 4)
unfolding node_at line_of way_of visible
run_behind =
    (Forward, node 4, [], open_over.1, simp looked_up refl, simp looked_up refl, simp looked_up refl, (refl, refl))

run_over : IsRun row_map (is_open row_map (rules true)) in_travel (node 2) (along 11 ∷ along 12 ∷ []) (node 4)
unfolding node_at line_of way_of visible
run_over = (
  Forward,
  node 3,
  along 12 ∷ [],
  open_over.0,
  simp looked_up refl,
  simp looked_up refl,
  simp looked_up refl,
  run_behind,
)

-- its word goes over the via ways in the order of travel
word_over_two : IsWord row_map (rules true) (relation 20) false 2 (along 10 ∷ along 11 ∷ along 12 ∷ along 13 ∷ [])
word_over_two = record {
  body = over_two;
  visible = rule_visible;
  restriction = refl;
  usable = usable;
  kind = refl;
  from_way = way 10;
  to_way = way 13;
  from_member = (0, lit< tt, refl);
  to_member = (0, lit< tt, refl);
  bound = refl;
  enter = node 2;
  leave = node 4;
  first = along 10;
  via = along 11 ∷ along 12 ∷ [];
  last = along 13;
  spelled = refl;
  first_ends = record { of = refl; head = comes; end = inl (refl, sym two_nodes) };
  via_is = subst (λ vs. IsVia row_map (rules true) vs (node 2) (along 11 ∷ along 12 ∷ []) (node 4)) (sym order_travel)
      run_over;
  last_begins = record { of = refl; tail = goes; end = inl (refl, refl) };
}
