-- A restriction over a via way: its word, when an Only rule binds, and a context of two pieces.
--
-- 1 --- w10 --- 2 --- w13 --- 5
--               |
--              w11
--               |
-- 4 --- w12 --- 3 --- w14 --- 6        r20: from w10 over w11 to w12
use Rattle.std.proofs.Common.{◌≡◌, ◌≢◌, ℕ, List, [], ◌∷◌, ◌++◌, length, length-append, inl, inr, refl, sym, ap, ◌∙◌}
use Rattle.std.proofs.Common.{subst, arith, Some, Bool, true, false, Contains, lit<}
use Rattle.std.specs.FinMap.{from_sorted, get, find, get-from_sorted}
use Rattle.std.proofs.lemmas.Bool.{false≢true}
use Rattle.road_base.specs.declared.ids.WayId.{WayId}
use Rattle.road_base.specs.declared.ids.RelationId.{RelationId}
use Rattle.road_base.specs.declared.ids.Dir.{Dir}
use Rattle.road_base.specs.declared.ids.Dir.TheVariants.{Forward, Backward}
use Rattle.road_base.specs.declared.ids.Key.{Key}
use Rattle.road_base.specs.declared.ids.Key.TheVariants.{Way as WayKey}
use Rattle.road_base.specs.declared.ids.Step.{Step}
use Rattle.road_base.specs.declared.objects.Relation.{Relation}
use Rattle.road_base.specs.Objects.{Objects, Entry, key_cmp, visible, node_of, way_of, relation_of}
use Rattle.road_model.specs.declared.answers.Access.TheVariants.{Free}
use Rattle.road_model.specs.declared.answers.Unusable.TheVariants.{NotThisVehicle, NoValue, Members, Missing, NotAnEnd}
use Rattle.road_model.specs.declared.answers.Unusable.TheVariants.{NotConnected, ClosedVia, TooLong}
use Rattle.road_model.specs.Rules.{Rules}
use Rattle.road_model.specs.Lines.{line_of, node_at, names_pair, end_at, tail_of, head_of}
use Rattle.road_model.specs.Driving.{is_open, drivable}
use Rattle.road_model.specs.Restrictions.{vias, wrong_members, lacks_member, misses_end, is_too_long, any_way}
use Rattle.road_model.specs.Restrictions.{whole_way, tos, connects, IsRun, IsUsable}
use Rattle.road_model.specs.Words.{IsWord, IsVia, kind_of, binding_of}
use Rattle.road_model.specs.Pieces.{Span}
use Rattle.road_model.specs.Contexts.{One, Many}
use Rattle.road_model.specs.Network.{Drives, Legal, HasNoWords, IsContext}
use Rattle.ordered_lists.proofs.ListMembers.{in_from_contains}
use Rattle.road_examples.proofs.ExampleMaps.{node, way, relation, along, against, residential, node_entry, way_entry}
use Rattle.road_examples.proofs.ExampleMaps.{relation_entry, turn, same_way_number, relation_shown}
use Rattle.road_examples.proofs.SmallDrives.{short_piece, goes_straight, two_legal}

abbrev roads : List (Key × Entry)
roads =
    node_entry 1 [] ∷ node_entry 2 [] ∷ node_entry 3 [] ∷ node_entry 4 [] ∷ node_entry 5 [] ∷ node_entry 6 []
    ∷ way_entry 10 residential 1 2 ∷ way_entry 11 residential 2 3 ∷ way_entry 12 residential 4 3
    ∷ way_entry 13 residential 2 5 ∷ way_entry 14 residential 3 6 ∷ []

abbrev over_way : Relation
over_way = turn [] 10 (WayKey (way 11)) 12

abbrev with_rule : List (Key × Entry)
with_rule = roads ++ relation_entry 20 over_way ∷ []

abbrev rule_map : Objects
rule_map = from_sorted with_rule

abbrev road_map : Objects
road_map = from_sorted roads

looked_up : (q : Key) → get rule_map q ≡ find key_cmp q with_rule
looked_up q = get-from_sorted key_cmp with_rule q tt

looked_up_roads : (q : Key) → get road_map q ≡ find key_cmp q roads
looked_up_roads q = get-from_sorted key_cmp roads q tt

-- the restriction is an Only rule, or a No rule
abbrev rules : Bool → Rules
rules only = record {
  number = 1;
  direction = λ t d. Free;
  node_open = λ t. true;
  turns = λ t. false;
  rule = λ t. kind_of only;
  reverses = false;
  zone = λ t d. false;
}

-- ---- its word

begins : tail_of rule_map (along 10) ≡ Some (node 1)
unfolding end_at names_pair node_at line_of way_of visible
begins = simp looked_up refl

comes : head_of rule_map (along 10) ≡ Some (node 2)
unfolding end_at names_pair node_at line_of way_of visible
comes = simp looked_up refl

enters : tail_of rule_map (along 11) ≡ Some (node 2)
unfolding end_at names_pair node_at line_of way_of visible
enters = simp looked_up refl

leaves : head_of rule_map (along 11) ≡ Some (node 3)
unfolding end_at names_pair node_at line_of way_of visible
leaves = simp looked_up refl

goes : tail_of rule_map (against 12) ≡ Some (node 3)
unfolding end_at names_pair node_at line_of way_of visible
goes = simp looked_up refl

two_nodes : length (line_of rule_map (way 10)) ≡ 2
unfolding line_of way_of visible
two_nodes = simp looked_up refl

two_over : length (line_of rule_map (way 11)) ≡ 2
unfolding line_of way_of visible
two_over = simp looked_up refl

two_behind : length (line_of rule_map (way 12)) ≡ 2
unfolding line_of way_of visible
two_behind = simp looked_up refl

-- way 11 leads from node 2 to node 3
run_over : (allowed : WayId → Dir → Bool) → allowed (way 11) Forward ≡ true →
    IsRun rule_map allowed (WayKey (way 11) ∷ []) (node 2) (along 11 ∷ []) (node 3)
unfolding node_at line_of way_of visible
run_over allowed h =
    (Forward, node 3, [], h, simp looked_up refl, simp looked_up refl, simp looked_up refl, (refl, refl))

open_over : (only : Bool) → is_open rule_map (rules only) (way 11) Forward ≡ true
unfolding is_open way_of visible
open_over only = simp looked_up refl

connects_any : connects rule_map any_way over_way (vias over_way) ≡ true
unfolding node_at line_of way_of visible
connects_any = simp looked_up refl

connects_open : (only : Bool) → connects rule_map (is_open rule_map (rules only)) over_way (vias over_way) ≡ true
unfolding is_open node_at line_of way_of visible
connects_open only = simp looked_up refl

has_members : lacks_member rule_map over_way ≡ false
unfolding line_of way_of node_of relation_of visible
has_members = simp looked_up refl

meets_ends : misses_end rule_map over_way (vias over_way) ≡ false
unfolding node_at line_of way_of visible
meets_ends = simp looked_up refl

not_long : is_too_long rule_map over_way ≡ false
unfolding line_of way_of visible
not_long = simp looked_up refl

right_members : (only : Bool) → wrong_members only over_way ≡ false
right_members true = refl
right_members false = refl

usable : (only : Bool) → IsUsable rule_map (rules only) over_way
usable true NotThisVehicle h = cc
usable false NotThisVehicle h = cc
usable true NoValue h = cc
usable false NoValue h = cc
usable true Members h = false≢true h
usable false Members h = false≢true h
usable only Missing h = false≢true (sym has_members ∙ h)
usable only NotAnEnd h = false≢true (sym meets_ends ∙ h)
usable only NotConnected h = false≢true (sym h.1 ∙ connects_any)
usable only ClosedVia h = false≢true (sym h.2 ∙ connects_open only)
usable only TooLong h = false≢true (sym not_long ∙ h)

rule_visible : relation_of rule_map (relation 20) ≡ Some over_way
unfolding relation_of visible
rule_visible = simp looked_up refl

-- three steps; as an Only word it binds once two of them were driven
word_over_way : (only : Bool) →
    IsWord rule_map (rules only) (relation 20) only 2 (along 10 ∷ along 11 ∷ against 12 ∷ [])
word_over_way only = record {
  body = over_way;
  visible = rule_visible;
  restriction = refl;
  usable = usable only;
  kind = refl;
  from_way = way 10;
  to_way = way 12;
  from_member = (0, lit< tt, refl);
  to_member = (0, lit< tt, refl);
  bound = refl;
  enter = node 2;
  leave = node 3;
  first = along 10;
  via = along 11 ∷ [];
  last = against 12;
  spelled = refl;
  first_ends = record { of = refl; head = comes; end = inl (refl, sym two_nodes) };
  via_is = run_over (is_open rule_map (rules only)) (open_over only);
  last_begins = record { of = refl; tail = goes; end = inr (refl, sym two_behind) };
}

-- ---- every word of the map

abbrev over_step : Dir → Step
over_step d = record { way = way 11; index = 0; dir = d }

-- a step, the whole of way 11 in some direction, and a step of way 12
record Shape (u : List Step) : Type 0 where
  first : Step
  dir : Dir
  last : Step
  is : u ≡ first ∷ over_step dir ∷ last ∷ []
  to : last.way ≡ way 12

one_over : (d : Dir) → whole_way rule_map (way 11) d ≡ over_step d ∷ []
one_over Forward = rw two_over refl
one_over Backward = rw two_over refl

known : (only o : Bool) (r : RelationId) (b : ℕ) (u : List Step) (w : IsWord rule_map (rules only) r o b u) →
    w.body ≡ over_way
unfolding relation_of visible
known only o r b u w =
    elim (relation_shown with_rule r w.body (simp looked_up at w.visible)) [ inl a ↦ cc (a.1) | inr none ↦ absurd none ]

binds_at_two : (only o : Bool) (r : RelationId) (b : ℕ) (u : List Step) → IsWord rule_map (rules only) r o b u → b ≡ 2
binds_at_two only o r b u w = w.bound ∙ ap (λ (x : Relation). binding_of (vias x)) (known only o r b u w)

shaped : (u : List Step) (first last : Step) (via more : List Step) (d : Dir) → u ≡ first ∷ (via ++ last ∷ []) →
    via ≡ whole_way rule_map (way 11) d ++ more → more ≡ [] → last.way ≡ way 12 → Shape u
shaped u first last via more d e f g to =
    let over : via ≡ over_step d ∷ [] = f ∙ ap (λ v. v ++ more) (one_over d) ∙ ap (λ v. over_step d ∷ v) g in
    record { first = first; dir = d; last = last; is = e ∙ ap (λ v. first ∷ (v ++ last ∷ [])) over; to = to }

shape : (only o : Bool) (r : RelationId) (b : ℕ) (u : List Step) → IsWord rule_map (rules only) r o b u → Shape u
shape only o r b u w =
    let body = known only o r b u w in
    let run = subst (λ (x : Relation). IsVia rule_map (rules only) (vias x) w.enter w.via w.leave) body w.via_is in
    let member = subst (λ (x : Relation). Contains (tos x) (WayKey w.to_way)) body w.to_member in
    elim (in_from_contains (WayKey (way 12) ∷ []) (WayKey w.to_way) member) [
      | inl e ↦ shaped u w.first w.last w.via run.2 run.0 w.spelled run.6 run.7.0 (w.last_begins.of ∙ cc)
      | inr none ↦ absurd none
    ]

not_short : (s t : Step) (a u : List Step) → s ∷ t ∷ [] ≡ a ++ u → Shape u → ⊥
not_short s t a u e h = let k = ap length e in let l = length-append a u in let m = ap length h.is in omega arith

-- ---- when the rule binds

-- from node 1 over node 2 one may go on by any way that is open
two_go : (only : Bool) (w c : ℕ) → Drives rule_map (rules only) (along w) →
    tail_of rule_map (along w) ≡ Some (node 2) → head_of rule_map (along w) ≡ Some (node c) → 1 ≢ c →
    Legal rule_map (rules only) (along 10 ∷ along w ∷ [])
unfolding drivable is_open node_at line_of way_of node_of visible
two_go only w c drives tail head apart =
    two_legal rule_map (rules only) (along 10) (along w) (simp looked_up refl) drives
    (goes_straight rule_map (rules only) (along 10) (along w) 1 2 c begins comes tail head apart (simp looked_up refl))
    (λ a u e n. not_short (along 10) (along w) a u e (shape only false n.relation n.binding u n.word))
    (λ x m.
    let b = binds_at_two only true m.word.relation m.binding _ m.word.word in
    let l = m.bound in
    absurd (omega arith))

on_over : (only : Bool) → Legal rule_map (rules only) (along 10 ∷ along 11 ∷ [])
unfolding drivable is_open node_at line_of way_of node_of visible
on_over only = two_go only 11 3 (simp looked_up refl) enters leaves (omega arith)

-- an Only rule doesn't bind before its via way is entered
past_over : Legal rule_map (rules true) (along 10 ∷ along 13 ∷ [])
unfolding drivable is_open end_at names_pair node_at line_of way_of node_of visible
past_over = two_go true 13 5 (simp looked_up refl) (simp looked_up refl) (simp looked_up refl) (omega arith)

third : (x y z a b c : Step) (more : List Step) → x ∷ y ∷ z ∷ more ≡ a ∷ b ∷ c ∷ [] → z ≡ c
third x y z a b c more e = cc

not_to : (more : List Step) → Shape (along 10 ∷ along 11 ∷ along 14 ∷ more) → ⊥
not_to more h =
    let e = third (along 10) (along 11) (along 14) h.first (over_step h.dir) h.last more h.is in
    let f = same_way_number 14 12 (ap (λ (s : Step). s.way) e ∙ h.to) in
    omega arith

-- once it is, the other way out isn't legal
off_after : Legal rule_map (rules true) (along 10 ∷ along 11 ∷ along 14 ∷ []) → ⊥
off_after l =
    let m = l.only [] (along 10 ∷ along 11 ∷ []) (along 14) [] refl (against 12) (record {
      binding = 2;
      rest = [];
      word = record { relation = relation 20; word = word_over_way true };
      bound = omega arith;
    }) in
    not_to m.rest (shape true true m.word.relation m.binding _ m.word.word)

-- and under a No rule its word isn't
not_over : Legal rule_map (rules false) (along 10 ∷ along 11 ∷ against 12 ∷ []) → ⊥
not_over l = l.no [] (along 10 ∷ along 11 ∷ against 12 ∷ []) [] refl (record {
  relation = relation 20;
  binding = 2;
  word = word_over_way false;
})

-- ---- the context of ways 10 and 11

abbrev along_piece : ℕ → Span
along_piece w = record { way = way w; index = 0; end = 1; dir = Forward }

abbrev both : List Span
both = along_piece 10 ∷ along_piece 11 ∷ []

is_context : (only : Bool) → IsContext rule_map (rules only) both
unfolding drivable is_open node_at line_of way_of node_of visible
is_context only = Many (record {
  first = along_piece 10;
  second = along_piece 11;
  others = [];
  is = refl;
  pieces = (
    short_piece rule_map (rules only) (way 10) Forward two_nodes (simp looked_up refl),
    (short_piece rule_map (rules only) (way 11) Forward two_over (simp looked_up refl), tt),
  );
  legal = on_over only;
  front = [];
  last = along 10;
  ends = refl;
  next = against 12;
  rest = [];
  word = record { relation = relation 20; only = only; binding = 2; word = word_over_way only };
})

-- without the restriction nothing has to be remembered
no_words : (only : Bool) → HasNoWords road_map (rules only)
unfolding relation_of visible
no_words only u w = relation_shown roads w.relation w.word.body (simp looked_up_roads at w.word.visible)

no_context : (only : Bool) → IsContext road_map (rules only) both → ⊥
no_context only (One p e i) = cc
no_context only (Many m) = no_words only _ m.word
