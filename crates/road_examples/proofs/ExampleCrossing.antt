-- A crossing with an Only rule and a No rule, a bollard, a one way street, an area, and a way to a node that isn't
-- there.
--
--               4 --- w14 --- 6
--               |
--              w12
--               |
-- 1 --- w10 --- 2 --- w11 --- 3 --- w13 --> 5        w15, an area, from 4 to 5
--
-- r20: only from w10 at node 2 to w11; r21: not from w11 at node 2 to w12. Node 3 is a bollard, and node 6 isn't
-- there.
use Rattle.std.proofs.Common.{◌≡◌, ℕ, List, [], ◌∷◌, ◌++◌, length, ◌⊎◌, inl, inr, refl, sym, ap, ◌∙◌, subst, Some, Bool}
use Rattle.std.proofs.Common.{true, false, not, cond, is_some, Contains, lit<, codes}
use Rattle.std.specs.FinMap.{from_sorted, get, find, get-from_sorted}
use Rattle.std.proofs.lemmas.Bool.{false≢true}
use Rattle.road_base.specs.declared.ids.RelationId.{RelationId}
use Rattle.road_base.specs.declared.ids.Dir.{Dir}
use Rattle.road_base.specs.declared.ids.Dir.TheVariants.{Forward, Backward}
use Rattle.road_base.specs.declared.ids.Key.{Key}
use Rattle.road_base.specs.declared.ids.Key.TheVariants.{Node as NodeKey, Way as WayKey}
use Rattle.road_base.specs.declared.ids.Step.{Step}
use Rattle.road_base.specs.declared.objects.Relation.{Relation}
use Rattle.road_base.specs.Tags.{TagList, value_of}
use Rattle.road_base.specs.Objects.{Objects, Entry, key_cmp, visible, node_of, way_of, relation_of}
use Rattle.road_model.specs.declared.answers.Access.{Access}
use Rattle.road_model.specs.declared.answers.Access.TheVariants.{Free, Closed, WrongWay}
use Rattle.road_model.specs.declared.answers.ClosedBy.TheVariants.{Area}
use Rattle.road_model.specs.declared.answers.Unusable.TheVariants.{NotThisVehicle, NoValue, Members, Missing, NotAnEnd}
use Rattle.road_model.specs.declared.answers.Unusable.TheVariants.{NotConnected, ClosedVia, TooLong}
use Rattle.road_model.specs.Rules.{Rules, is_the_value}
use Rattle.road_model.specs.Lines.{line_of, node_at, names_pair, end_at, tail_of, head_of}
use Rattle.road_model.specs.Driving.{is_open, drivable}
use Rattle.road_model.specs.Restrictions.{froms, vias, tos, lacks_member, misses_end, IsUsable}
use Rattle.road_model.specs.Words.{IsWord, IsVia, kind_of}
use Rattle.road_model.specs.Network.{Drives}
use Rattle.ordered_lists.proofs.ListMembers.{in_from_contains}
use Rattle.road_examples.proofs.ExampleMaps.{node, way, relation, along, against, tag, residential, node_entry}
use Rattle.road_examples.proofs.ExampleMaps.{way_entry, relation_entry, turn, relation_shown}

abbrev pub only_ahead : Relation
only_ahead = turn (tag (codes "restriction") (codes "only_straight_on") ∷ []) 10 (NodeKey (node 2)) 11

abbrev pub no_turn : Relation
no_turn = turn (tag (codes "restriction") (codes "no_right_turn") ∷ []) 11 (NodeKey (node 2)) 12

abbrev pub one_way : TagList
one_way = tag (codes "highway") (codes "residential") ∷ tag (codes "oneway") (codes "yes") ∷ []

abbrev pub area : TagList
area = tag (codes "area") (codes "yes") ∷ tag (codes "highway") (codes "pedestrian") ∷ []

abbrev pub crossing : List (Key × Entry)
crossing =
    node_entry 1 [] ∷ node_entry 2 [] ∷ node_entry 3 (tag (codes "barrier") (codes "bollard") ∷ [])
    ∷ node_entry 4 [] ∷ node_entry 5 []
    ∷ way_entry 10 residential 1 2 ∷ way_entry 11 residential 2 3 ∷ way_entry 12 residential 2 4
    ∷ way_entry 13 one_way 3 5
    ∷ way_entry 14 residential 4 6
    ∷ way_entry 15 area 4 5
    ∷ relation_entry 20 only_ahead ∷ relation_entry 21 no_turn ∷ []

abbrev pub crossing_map : Objects
crossing_map = from_sorted crossing

pub looked_up : (q : Key) → get crossing_map q ≡ find key_cmp q crossing
looked_up q = get-from_sorted key_cmp crossing q tt

-- ---- rules that look at four keys

abbrev pub carries : List ℕ → TagList → Bool
carries key tags = is_some (value_of key tags)

abbrev pub one_way_for : TagList → Dir → Access
one_way_for tags Forward = Free
one_way_for tags Backward = cond (carries (codes "oneway") tags) WrongWay Free

abbrev pub signs : Rules
signs = record {
  number = 1;
  direction = λ t d. cond (carries (codes "area") t) (Closed Area) (one_way_for t d);
  node_open = λ t. not (carries (codes "barrier") t);
  turns = λ t. false;
  rule = λ t. kind_of (is_the_value (codes "only_straight_on") (value_of (codes "restriction") t));
  reverses = false;
  zone = λ t d. false;
}

-- ---- steps

abbrev pub Runs : ℕ → Dir → ℕ → ℕ → Type 0
Runs w d a b =
    let s : Step = record { way = way w; index = 0; dir = d } in
    (tail_of crossing_map s ≡ Some (node a)) × (head_of crossing_map s ≡ Some (node b))

pub ten : Runs 10 Forward 1 2
unfolding end_at names_pair node_at line_of way_of visible
ten = (simp looked_up refl, simp looked_up refl)

pub eleven : Runs 11 Forward 2 3
unfolding end_at names_pair node_at line_of way_of visible
eleven = (simp looked_up refl, simp looked_up refl)

pub eleven_back : Runs 11 Backward 3 2
unfolding end_at names_pair node_at line_of way_of visible
eleven_back = (simp looked_up refl, simp looked_up refl)

pub twelve : Runs 12 Forward 2 4
unfolding end_at names_pair node_at line_of way_of visible
twelve = (simp looked_up refl, simp looked_up refl)

abbrev pub Go : ℕ → Dir → Type 0
Go w d = Drives crossing_map signs (record { way = way w; index = 0; dir = d })

pub go_ten : Go 10 Forward
unfolding drivable is_open node_at line_of way_of node_of visible
go_ten = simp looked_up refl

pub go_eleven : Go 11 Forward
unfolding drivable is_open node_at line_of way_of node_of visible
go_eleven = simp looked_up refl

pub go_eleven_back : Go 11 Backward
unfolding drivable is_open node_at line_of way_of node_of visible
go_eleven_back = simp looked_up refl

pub go_twelve : Go 12 Forward
unfolding drivable is_open node_at line_of way_of node_of visible
go_twelve = simp looked_up refl

-- ---- the words

two_nodes : (length (line_of crossing_map (way 10)) ≡ 2) × (length (line_of crossing_map (way 11)) ≡ 2)
unfolding line_of way_of visible
two_nodes = (simp looked_up refl, simp looked_up refl)

only_has_members : lacks_member crossing_map only_ahead ≡ false
unfolding line_of way_of node_of relation_of visible
only_has_members = simp looked_up refl

only_meets_ends : misses_end crossing_map only_ahead (vias only_ahead) ≡ false
unfolding node_at line_of way_of visible
only_meets_ends = simp looked_up refl

only_usable : IsUsable crossing_map signs only_ahead
only_usable NotThisVehicle h = cc
only_usable NoValue h = cc
only_usable Members h = false≢true h
only_usable Missing h = false≢true (sym only_has_members ∙ h)
only_usable NotAnEnd h = false≢true (sym only_meets_ends ∙ h)
only_usable NotConnected h = false≢true h.0
only_usable ClosedVia h = false≢true h.0
only_usable TooLong h = false≢true h

no_has_members : lacks_member crossing_map no_turn ≡ false
unfolding line_of way_of node_of relation_of visible
no_has_members = simp looked_up refl

no_meets_ends : misses_end crossing_map no_turn (vias no_turn) ≡ false
unfolding node_at line_of way_of visible
no_meets_ends = simp looked_up refl

no_usable : IsUsable crossing_map signs no_turn
no_usable NotThisVehicle h = cc
no_usable NoValue h = cc
no_usable Members h = false≢true h
no_usable Missing h = false≢true (sym no_has_members ∙ h)
no_usable NotAnEnd h = false≢true (sym no_meets_ends ∙ h)
no_usable NotConnected h = false≢true h.0
no_usable ClosedVia h = false≢true h.0
no_usable TooLong h = false≢true h

rules_visible : (relation_of crossing_map (relation 20) ≡ Some only_ahead)
    × (relation_of crossing_map (relation 21) ≡ Some no_turn)
unfolding relation_of visible
rules_visible = (simp looked_up refl, simp looked_up refl)

-- an Only word; with a via node it binds after one step
pub only_word : IsWord crossing_map signs (relation 20) true 1 (along 10 ∷ along 11 ∷ [])
only_word = record {
  body = only_ahead;
  visible = rules_visible.0;
  restriction = refl;
  usable = only_usable;
  kind = refl;
  from_way = way 10;
  to_way = way 11;
  from_member = (0, lit< tt, refl);
  to_member = (0, lit< tt, refl);
  bound = refl;
  enter = node 2;
  leave = node 2;
  first = along 10;
  via = [];
  last = along 11;
  spelled = refl;
  first_ends = record { of = refl; head = ten.1; end = inl (refl, sym two_nodes.0) };
  via_is = (refl, refl, refl);
  last_begins = record { of = refl; tail = eleven.0; end = inl (refl, refl) };
}

-- a No word, whose from way is driven against its line
pub no_word : IsWord crossing_map signs (relation 21) false 1 (against 11 ∷ along 12 ∷ [])
no_word = record {
  body = no_turn;
  visible = rules_visible.1;
  restriction = refl;
  usable = no_usable;
  kind = refl;
  from_way = way 11;
  to_way = way 12;
  from_member = (0, lit< tt, refl);
  to_member = (0, lit< tt, refl);
  bound = refl;
  enter = node 2;
  leave = node 2;
  first = against 11;
  via = [];
  last = along 12;
  spelled = refl;
  first_ends = record { of = refl; head = eleven_back.1; end = inr (refl, refl) };
  via_is = (refl, refl, refl);
  last_begins = record { of = refl; tail = twelve.0; end = inl (refl, refl) };
}

-- ---- every word of the map

-- u is a step of way a and a step of way b, from relation n
pub record Turn (only : Bool) (n a b : ℕ) (o : Bool) (r : RelationId) (u : List Step) : Type 0 where
  pub kind : o ≡ only
  pub number : r ≡ relation n
  pub first : Step
  pub last : Step
  pub is : u ≡ first ∷ last ∷ []
  pub from : first.way ≡ way a
  pub to : last.way ≡ way b

same_kind : (a b : Bool) → kind_of a ≡ kind_of b → a ≡ b
same_kind true true e = refl
same_kind true false e = cc
same_kind false true e = cc
same_kind false false e = refl

alone : (k x : Key) → Contains (k ∷ []) x → x ≡ k
alone k x h = elim (in_from_contains (k ∷ []) x h) [ inl e ↦ e | inr none ↦ absurd none ]

turns : (only : Bool) (n a b : ℕ) (tags : TagList) (o : Bool) (r : RelationId) (c : ℕ) (u : List Step)
    (w : IsWord crossing_map signs r o c u) → w.body ≡ turn tags a (NodeKey (node 2)) b
    → signs.rule w.body.tags ≡ kind_of only → r ≡ relation n → Turn only n a b o r u
turns only n a b tags o r c u w body kind number =
    let via = subst (λ (x : Relation). IsVia crossing_map signs (vias x) w.enter w.via w.leave) body w.via_is in
    let from = alone _ _ (subst (λ (x : Relation). Contains (froms x) (WayKey w.from_way)) body w.from_member) in
    let to = alone _ _ (subst (λ (x : Relation). Contains (tos x) (WayKey w.to_way)) body w.to_member) in
    record {
      kind = same_kind o only (sym w.kind ∙ kind);
      number = number;
      first = w.first;
      last = w.last;
      is = w.spelled ∙ ap (λ v. w.first ∷ (v ++ w.last ∷ [])) via.1;
      from = w.first_ends.of ∙ (cc (from));
      to = w.last_begins.of ∙ (cc (to));
    }

pub word_turns : (o : Bool) (r : RelationId) (c : ℕ) (u : List Step) → IsWord crossing_map signs r o c u →
    Turn true 20 10 11 o r u ⊎ Turn false 21 11 12 o r u
unfolding relation_of visible
word_turns o r c u w = elim (relation_shown crossing r w.body (simp looked_up at w.visible)) [
  | inl a ↦ let e : w.body ≡ only_ahead = cc (a.1) in inl
      (turns true 20 10 11 _ o r c u w e (ap (λ (x : Relation). signs.rule x.tags) e) a.0)
  | inr x ↦ elim x [
    | inl a ↦ let e : w.body ≡ no_turn = cc (a.1) in inr
        (turns false 21 11 12 _ o r c u w e (ap (λ (x : Relation). signs.rule x.tags) e) a.0)
    | inr none ↦ absurd none
  ]
]

pub no_turns : (r : RelationId) (c : ℕ) (u : List Step) → IsWord crossing_map signs r false c u →
    Turn false 21 11 12 false r u
no_turns r c u w = elim (word_turns false r c u w) [ inl t ↦ let k = t.kind in cc (k) | inr t ↦ t ]

pub only_turns : (r : RelationId) (c : ℕ) (u : List Step) → IsWord crossing_map signs r true c u →
    Turn true 20 10 11 true r u
only_turns r c u w = elim (word_turns true r c u w) [ inl t ↦ t | inr t ↦ let k = t.kind in cc (k) ]
