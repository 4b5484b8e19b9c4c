-- Small maps, worked out by hand.
use Rattle.std.proofs.Common.{◌≡◌, ℕ, List, [], ◌∷◌, ◌++◌, length, refl, Some, None, true, false, pos, codes, inl, sym}
use Rattle.std.proofs.Common.{◌∙◌, lit<}
use Rattle.std.proofs.lemmas.Bool.{false≢true}
use Rattle.std.specs.FinMap.{from_sorted, get, find, get-from_sorted}
use Rattle.road_base.specs.declared.ids.NodeId.{NodeId}
use Rattle.road_base.specs.declared.ids.Dir.{Dir}
use Rattle.road_base.specs.declared.ids.Dir.TheVariants.{Forward, Backward}
use Rattle.road_base.specs.declared.ids.Key.{Key}
use Rattle.road_base.specs.declared.ids.Key.TheVariants.{Node as NodeKey, Way as WayKey, Relation as RelationKey}
use Rattle.road_base.specs.declared.location.Location.{Location}
use Rattle.road_base.specs.declared.objects.Relation.{Relation}
use Rattle.road_base.specs.declared.objects.Body.{Body}
use Rattle.road_base.specs.declared.objects.Body.TheVariants.{Node as NodeBody, Way as WayBody}
use Rattle.road_base.specs.declared.objects.Body.TheVariants.{Relation as RelationBody}
use Rattle.road_base.specs.Objects.{Objects, Entry, key_cmp, visible, node_of, way_of, relation_of}
use Rattle.road_model.specs.declared.answers.Access.TheVariants.{Free}
use Rattle.road_model.specs.declared.answers.RuleKind.TheVariants.{Absent, No}
use Rattle.road_model.specs.declared.answers.Unusable.TheVariants.{NotThisVehicle, NoValue, Members, Missing, NotAnEnd}
use Rattle.road_model.specs.declared.answers.Unusable.TheVariants.{NotConnected, ClosedVia, TooLong}
use Rattle.road_model.specs.declared.lists.PieceName.{PieceName}
use Rattle.road_model.specs.declared.lists.Place.{Place}
use Rattle.road_model.specs.declared.lists.Piece.{Piece}
use Rattle.road_model.specs.declared.blocks.Block.{Block}
use Rattle.road_model.specs.Rules.{Rules}
use Rattle.road_model.specs.Lines.{line_of, node_at, names_pair, end_at, tail_of, head_of}
use Rattle.road_model.specs.Driving.{is_open, drivable}
use Rattle.road_model.specs.Restrictions.{vias, lacks_member, misses_end, IsUsable}
use Rattle.road_model.specs.Words.{IsWord}
use Rattle.road_model.specs.Format.{graph_bytes}

abbrev all_free : Rules
all_free = record {
  number = 1;
  direction = λ t d. Free;
  node_open = λ t. true;
  turns = λ t. false;
  rule = λ t. Absent;
  reverses = false;
  zone = λ t d. false;
}

abbrev node : ℕ → NodeId
node n = record { 0 = pos n }

abbrev west : Location
west = record { lon = pos 0; lat = pos 0; in_range = refl }

abbrev middle : Location
middle = record { lon = pos 10000; lat = pos 0; in_range = refl }

abbrev east : Location
east = record { lon = pos 20000; lat = pos 0; in_range = refl }

-- ---- way 10 over the nodes 1, 1, 2, 1

abbrev node_entry : ℕ → Location → Key × Entry
node_entry n x = (NodeKey (node n), record { version = 1; body = NodeBody (record { tags = []; location = Some x }) })

abbrev there_and_back : List (Key × Entry)
there_and_back = node_entry 1 west ∷ node_entry 2 middle
    ∷ (
      WayKey (record { 0 = pos 10 }),
      record
          { version = 1; body = WayBody (record { tags = []; refs = node 1 ∷ node 1 ∷ node 2 ∷ node 1 ∷ [] }) },
    ) ∷ []

abbrev small_map : Objects
small_map = from_sorted there_and_back

looked_up : (q : Key) → get small_map q ≡ find key_cmp q there_and_back
looked_up q = get-from_sorted key_cmp there_and_back q tt

-- repeats are dropped, and a node that comes again later stays
line_without_repeats : line_of small_map (record { 0 = pos 10 }) ≡ node 1 ∷ node 2 ∷ node 1 ∷ []
unfolding line_of way_of visible
line_without_repeats = simp looked_up refl

last_step_backward : drivable small_map all_free (record { way = record { 0 = pos 10 }; index = 1; dir = Backward })
    ≡ true
unfolding drivable is_open node_at line_of way_of node_of visible
last_step_backward = simp looked_up refl

no_step_behind : drivable small_map all_free (record { way = record { 0 = pos 10 }; index = 2; dir = Forward }) ≡ false
unfolding drivable is_open node_at line_of way_of node_of visible
no_step_behind = simp looked_up refl

-- and it begins nowhere, though there is a node at its index
no_tail_behind : tail_of small_map (record { way = record { 0 = pos 10 }; index = 2; dir = Forward }) ≡ None
unfolding end_at names_pair line_of way_of visible
no_tail_behind = simp looked_up refl

-- ---- the graph of way 10 over the nodes 1, 2, 3: a piece each way, and at each end the way back

abbrev piece_name : Dir → PieceName
piece_name d = record { way = record { 0 = pos 10 }; index = 0; dir = d }

abbrev place : ℕ → Location → Place
place n x = record { node = node n; location = x }

abbrev piece : Dir → List Place → Dir → Piece
piece d places turn = record {
  name = piece_name d;
  end = 2;
  zone = false;
  places = places;
  contexts = record {
    before = [];
    arcs = record { piece = piece_name turn; length = 1 } ∷ [];
    sources = (piece_name turn ∷ []) ∷ [];
  } ∷ [];
}

abbrev block : Block
block = record {
  way = record { 0 = pos 10 };
  pieces = piece Forward (place 1 west ∷ place 2 middle ∷ place 3 east ∷ []) Backward
      ∷ piece Backward (place 3 east ∷ place 2 middle ∷ place 1 west ∷ []) Forward ∷ [];
}

-- the magic OSMROAD2, profile 1, one block, and its way and two pieces
abbrev header : List ℕ
header =
    79 ∷ 83 ∷ 77 ∷ 82 ∷ 79 ∷ 65 ∷ 68 ∷ 50 ∷ 1 ∷ 0 ∷ 0 ∷ 0 ∷ 1 ∷ 0 ∷ 0 ∷ 0 ∷ 0 ∷ 0 ∷ 0 ∷ 0 ∷
    10 ∷ 0 ∷ 0 ∷ 0 ∷ 0 ∷ 0 ∷ 0 ∷ 0 ∷ 2 ∷ 0 ∷ 0 ∷ 0 ∷ []

-- from 0 to 2 forward: no mark, three places, and one context with the arc back and the source from there
abbrev ahead : List ℕ
ahead =
    0 ∷ 0 ∷ 0 ∷ 0 ∷ 2 ∷ 0 ∷ 0 ∷ 0 ∷ 0 ∷ 0 ∷
    1 ∷ 0 ∷ 0 ∷ 0 ∷ 0 ∷ 0 ∷ 0 ∷ 0 ∷ 0 ∷ 0 ∷ 0 ∷ 0 ∷ 0 ∷ 0 ∷ 0 ∷ 0 ∷
    2 ∷ 0 ∷ 0 ∷ 0 ∷ 0 ∷ 0 ∷ 0 ∷ 0 ∷ 16 ∷ 39 ∷ 0 ∷ 0 ∷ 0 ∷ 0 ∷ 0 ∷ 0 ∷
    3 ∷ 0 ∷ 0 ∷ 0 ∷ 0 ∷ 0 ∷ 0 ∷ 0 ∷ 32 ∷ 78 ∷ 0 ∷ 0 ∷ 0 ∷ 0 ∷ 0 ∷ 0 ∷
    1 ∷ 0 ∷ 0 ∷ 0 ∷ 0 ∷ 0 ∷ 0 ∷ 0 ∷
    1 ∷ 0 ∷ 0 ∷ 0 ∷
    1 ∷ 0 ∷ 0 ∷ 0 ∷ 0 ∷ 0 ∷ 0 ∷ 0 ∷
    10 ∷ 0 ∷ 0 ∷ 0 ∷ 0 ∷ 0 ∷ 0 ∷ 0 ∷ 0 ∷ 0 ∷ 0 ∷ 0 ∷ 1 ∷ 1 ∷ 0 ∷ 0 ∷ 0 ∷
    1 ∷ 0 ∷ 0 ∷ 0 ∷ 0 ∷ 0 ∷ 0 ∷ 0 ∷
    1 ∷ 0 ∷ 0 ∷ 0 ∷ 10 ∷ 0 ∷ 0 ∷ 0 ∷ 0 ∷ 0 ∷ 0 ∷ 0 ∷ 0 ∷ 0 ∷ 0 ∷ 0 ∷ 1 ∷ []

-- from 2 to 0 backward
abbrev back : List ℕ
back =
    0 ∷ 0 ∷ 0 ∷ 0 ∷ 2 ∷ 0 ∷ 0 ∷ 0 ∷ 1 ∷ 0 ∷
    3 ∷ 0 ∷ 0 ∷ 0 ∷ 0 ∷ 0 ∷ 0 ∷ 0 ∷ 32 ∷ 78 ∷ 0 ∷ 0 ∷ 0 ∷ 0 ∷ 0 ∷ 0 ∷
    2 ∷ 0 ∷ 0 ∷ 0 ∷ 0 ∷ 0 ∷ 0 ∷ 0 ∷ 16 ∷ 39 ∷ 0 ∷ 0 ∷ 0 ∷ 0 ∷ 0 ∷ 0 ∷
    1 ∷ 0 ∷ 0 ∷ 0 ∷ 0 ∷ 0 ∷ 0 ∷ 0 ∷ 0 ∷ 0 ∷ 0 ∷ 0 ∷ 0 ∷ 0 ∷ 0 ∷ 0 ∷
    1 ∷ 0 ∷ 0 ∷ 0 ∷ 0 ∷ 0 ∷ 0 ∷ 0 ∷
    1 ∷ 0 ∷ 0 ∷ 0 ∷
    1 ∷ 0 ∷ 0 ∷ 0 ∷ 0 ∷ 0 ∷ 0 ∷ 0 ∷
    10 ∷ 0 ∷ 0 ∷ 0 ∷ 0 ∷ 0 ∷ 0 ∷ 0 ∷ 0 ∷ 0 ∷ 0 ∷ 0 ∷ 0 ∷ 1 ∷ 0 ∷ 0 ∷ 0 ∷
    1 ∷ 0 ∷ 0 ∷ 0 ∷ 0 ∷ 0 ∷ 0 ∷ 0 ∷
    1 ∷ 0 ∷ 0 ∷ 0 ∷ 10 ∷ 0 ∷ 0 ∷ 0 ∷ 0 ∷ 0 ∷ 0 ∷ 0 ∷ 0 ∷ 0 ∷ 0 ∷ 0 ∷ 0 ∷ []

graph_is : graph_bytes 2 1 (block ∷ []) ≡ header ++ (ahead ++ back)
graph_is = refl

graph_length : length (graph_bytes 2 1 (block ∷ [])) ≡ 272
graph_length = refl

-- the same in version 1: no marks, no sources
abbrev old_header : List ℕ
old_header =
    79 ∷ 83 ∷ 77 ∷ 82 ∷ 79 ∷ 65 ∷ 68 ∷ 49 ∷ 1 ∷ 0 ∷ 0 ∷ 0 ∷ 1 ∷ 0 ∷ 0 ∷ 0 ∷ 0 ∷ 0 ∷ 0 ∷ 0 ∷
    10 ∷ 0 ∷ 0 ∷ 0 ∷ 0 ∷ 0 ∷ 0 ∷ 0 ∷ 2 ∷ 0 ∷ 0 ∷ 0 ∷ []

-- from 0 to 2 forward
abbrev old_ahead : List ℕ
old_ahead =
    0 ∷ 0 ∷ 0 ∷ 0 ∷ 2 ∷ 0 ∷ 0 ∷ 0 ∷ 0 ∷
    1 ∷ 0 ∷ 0 ∷ 0 ∷ 0 ∷ 0 ∷ 0 ∷ 0 ∷ 0 ∷ 0 ∷ 0 ∷ 0 ∷ 0 ∷ 0 ∷ 0 ∷ 0 ∷
    2 ∷ 0 ∷ 0 ∷ 0 ∷ 0 ∷ 0 ∷ 0 ∷ 0 ∷ 16 ∷ 39 ∷ 0 ∷ 0 ∷ 0 ∷ 0 ∷ 0 ∷ 0 ∷
    3 ∷ 0 ∷ 0 ∷ 0 ∷ 0 ∷ 0 ∷ 0 ∷ 0 ∷ 32 ∷ 78 ∷ 0 ∷ 0 ∷ 0 ∷ 0 ∷ 0 ∷ 0 ∷
    1 ∷ 0 ∷ 0 ∷ 0 ∷ 0 ∷ 0 ∷ 0 ∷ 0 ∷
    1 ∷ 0 ∷ 0 ∷ 0 ∷
    1 ∷ 0 ∷ 0 ∷ 0 ∷ 0 ∷ 0 ∷ 0 ∷ 0 ∷
    10 ∷ 0 ∷ 0 ∷ 0 ∷ 0 ∷ 0 ∷ 0 ∷ 0 ∷ 0 ∷ 0 ∷ 0 ∷ 0 ∷ 1 ∷ 1 ∷ 0 ∷ 0 ∷ 0 ∷ []

-- from 2 to 0 backward
abbrev old_back : List ℕ
old_back =
    0 ∷ 0 ∷ 0 ∷ 0 ∷ 2 ∷ 0 ∷ 0 ∷ 0 ∷ 1 ∷
    3 ∷ 0 ∷ 0 ∷ 0 ∷ 0 ∷ 0 ∷ 0 ∷ 0 ∷ 32 ∷ 78 ∷ 0 ∷ 0 ∷ 0 ∷ 0 ∷ 0 ∷ 0 ∷
    2 ∷ 0 ∷ 0 ∷ 0 ∷ 0 ∷ 0 ∷ 0 ∷ 0 ∷ 16 ∷ 39 ∷ 0 ∷ 0 ∷ 0 ∷ 0 ∷ 0 ∷ 0 ∷
    1 ∷ 0 ∷ 0 ∷ 0 ∷ 0 ∷ 0 ∷ 0 ∷ 0 ∷ 0 ∷ 0 ∷ 0 ∷ 0 ∷ 0 ∷ 0 ∷ 0 ∷ 0 ∷
    1 ∷ 0 ∷ 0 ∷ 0 ∷ 0 ∷ 0 ∷ 0 ∷ 0 ∷
    1 ∷ 0 ∷ 0 ∷ 0 ∷
    1 ∷ 0 ∷ 0 ∷ 0 ∷ 0 ∷ 0 ∷ 0 ∷ 0 ∷
    10 ∷ 0 ∷ 0 ∷ 0 ∷ 0 ∷ 0 ∷ 0 ∷ 0 ∷ 0 ∷ 0 ∷ 0 ∷ 0 ∷ 0 ∷ 1 ∷ 0 ∷ 0 ∷ 0 ∷ []

old_graph_is : graph_bytes 1 1 (block ∷ []) ≡ old_header ++ (old_ahead ++ old_back)
old_graph_is = refl

old_graph_length : length (graph_bytes 1 1 (block ∷ [])) ≡ 220
old_graph_length = refl

-- ---- way 10 over the nodes 1, 2, way 11 over 2, 3, and a restriction from 10 by node 2 to 11

abbrev street : List NodeId → Body
street refs = WayBody (record { tags = (codes "highway", codes "residential") ∷ []; refs = refs })

abbrev turn_rule : Relation
turn_rule = record {
  tags = (codes "type", codes "restriction") ∷ [];
  members = record { item = WayKey (record { 0 = pos 10 }); role = codes "from" }
      ∷ record { item = NodeKey (node 2); role = codes "via" }
      ∷ record { item = WayKey (record { 0 = pos 11 }); role = codes "to" } ∷ [];
}

abbrev with_rule : List (Key × Entry)
with_rule =
    node_entry 1 west ∷ node_entry 2 middle ∷ node_entry 3 east
    ∷ (WayKey (record { 0 = pos 10 }), record { version = 1; body = street (node 1 ∷ node 2 ∷ []) })
    ∷ (WayKey (record { 0 = pos 11 }), record { version = 1; body = street (node 2 ∷ node 3 ∷ []) })
    ∷ (RelationKey (record { 0 = pos 5 }), record { version = 1; body = RelationBody turn_rule }) ∷ []

abbrev rule_map : Objects
rule_map = from_sorted with_rule

found : (q : Key) → get rule_map q ≡ find key_cmp q with_rule
found q = get-from_sorted key_cmp with_rule q tt

abbrev no_turn : Rules
no_turn = record {
  number = 1;
  direction = λ t d. Free;
  node_open = λ t. true;
  turns = λ t. false;
  rule = λ t. No;
  reverses = false;
  zone = λ t d. false;
}

rule_has_members : lacks_member rule_map turn_rule ≡ false
unfolding line_of way_of node_of relation_of visible
rule_has_members = simp found refl

rule_meets_ends : misses_end rule_map turn_rule (vias turn_rule) ≡ false
unfolding node_at line_of way_of visible
rule_meets_ends = simp found refl

rule_usable : IsUsable rule_map no_turn turn_rule
rule_usable NotThisVehicle h = cc
rule_usable NoValue h = cc
rule_usable Members h = false≢true h
rule_usable Missing h = false≢true (sym rule_has_members ∙ h)
rule_usable NotAnEnd h = false≢true (sym rule_meets_ends ∙ h)
rule_usable NotConnected h = false≢true h.0
rule_usable ClosedVia h = false≢true h.0
rule_usable TooLong h = false≢true h

rule_visible : relation_of rule_map (record { 0 = pos 5 }) ≡ Some turn_rule
unfolding relation_of visible
rule_visible = simp found refl

ends : head_of rule_map (record { way = record { 0 = pos 10 }; index = 0; dir = Forward }) ≡ Some (node 2)
unfolding end_at names_pair node_at line_of way_of visible
ends = simp found refl

begins : tail_of rule_map (record { way = record { 0 = pos 11 }; index = 0; dir = Forward }) ≡ Some (node 2)
unfolding end_at names_pair node_at line_of way_of visible
begins = simp found refl

two_nodes : length (line_of rule_map (record { 0 = pos 10 })) ≡ 2
unfolding line_of way_of visible
two_nodes = simp found refl

-- the forbidden turn is its word
turn_is_word : IsWord rule_map no_turn (record { 0 = pos 5 }) false 1
    (record { way = record { 0 = pos 10 }; index = 0; dir = Forward }
    ∷ record { way = record { 0 = pos 11 }; index = 0; dir = Forward } ∷ [])
turn_is_word = record {
  body = turn_rule;
  visible = rule_visible;
  restriction = refl;
  usable = rule_usable;
  kind = refl;
  from_way = record { 0 = pos 10 };
  to_way = record { 0 = pos 11 };
  from_member = (0, lit< tt, refl);
  to_member = (0, lit< tt, refl);
  bound = refl;
  enter = node 2;
  leave = node 2;
  first = record { way = record { 0 = pos 10 }; index = 0; dir = Forward };
  via = [];
  last = record { way = record { 0 = pos 11 }; index = 0; dir = Forward };
  spelled = refl;
  first_ends = record { of = refl; head = ends; end = inl (refl, sym two_nodes) };
  via_is = (refl, refl, refl);
  last_begins = record { of = refl; tail = begins; end = inl (refl, refl) };
}
