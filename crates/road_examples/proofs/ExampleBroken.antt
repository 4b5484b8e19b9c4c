-- Drives over the crossing: one that is legal, and one for each rule that a drive may break first.
--
--               4 --- w14 --- 6
--               |
--              w12
--               |
-- 1 --- w10 --- 2 --- w11 --- 3 --- w13 --> 5        w15, an area, from 4 to 5
--
-- r20: only from w10 at node 2 to w11; r21: not from w11 at node 2 to w12. Node 3 is a bollard, and node 6 isn't there.
use Rattle.std.proofs.Common.{◌≡◌, ℕ, List, [], ◌∷◌, ◌++◌, refl, sym, ap, ◌∙◌, arith, IsTrue}
use Rattle.std.specs.Ordering.{is_le}
use Rattle.std.proofs.lemmas.Bool.{false≢true}
use Rattle.road_base.specs.declared.ids.RelationId.{RelationId}
use Rattle.road_base.specs.declared.ids.Dir.TheVariants.{Forward, Backward}
use Rattle.road_base.specs.declared.ids.Step.{Step}
use Rattle.road_base.specs.Objects.{visible, node_of, way_of}
use Rattle.road_model.specs.declared.answers.Access.TheVariants.{WrongWay as WrongWayAccess}
use Rattle.road_model.specs.declared.answers.ClosedBy.TheVariants.{Area}
use Rattle.road_model.specs.Lines.{line_of, node_at, names_pair, end_at}
use Rattle.road_model.specs.Driving.{is_open, drivable, MayTurn, AtPlace, AtShut, AtDeadEnd}
use Rattle.road_model.specs.Network.{Drives, Legal, Must}
use Rattle.road_model.specs.Orders.{relation_cmp}
use Rattle.road_model.specs.Broken.{BrokenRule, place, Applies, IsBehind, NoStep, NoNode, Closed, WrongWay, Apart}
use Rattle.road_model.specs.Broken.{Barrier, Reversal, No, Only, AtHead, IsAnswered, EndsNoWord, Broken}
use Rattle.road_model.proofs.BrokenRules.{broken_illegal}
use Rattle.ordered_lists.proofs.Splits.{cons_not_nil}
use Rattle.road_examples.proofs.ExampleMaps.{node, way, way_body, relation, along, against, same_node_number}
use Rattle.road_examples.proofs.ExampleMaps.{same_way_number}
use Rattle.road_examples.proofs.ExampleCrossing.{one_way, area, crossing_map, signs, looked_up, Runs, Go, ten, eleven}
use Rattle.road_examples.proofs.ExampleCrossing.{eleven_back, twelve, go_ten, go_eleven, go_eleven_back, go_twelve}
use Rattle.road_examples.proofs.ExampleCrossing.{only_word, no_word, no_turns, only_turns}
use Rattle.road_examples.proofs.SmallDrives.{goes_straight, two_legal}
use Rattle.road_model.proofs.BrokenSteps.{From, none_before, one_before_legal, broken, from_one, from_two, from_three}
use Rattle.road_model.proofs.BrokenSteps.{from_four, from_six, from_seven, from_eight, from_five, from_nine}

abbrev Breaks : List Step → ℕ → BrokenRule → Type 0
Breaks = Broken crossing_map signs

alone : (s : Step) (rule : BrokenRule) → Applies crossing_map signs [] s rule →
    From crossing_map signs [] s (place rule) → Breaks (s ∷ []) 1 rule
alone s rule applies first = broken crossing_map signs [] s rule (none_before crossing_map signs) applies first

behind : (s t : Step) (rule : BrokenRule) → Drives crossing_map signs s →
    Applies crossing_map signs (s ∷ []) t rule → From crossing_map signs (s ∷ []) t (place rule) →
    Breaks (s ∷ t ∷ []) 2 rule
behind s t rule drives applies first =
    broken crossing_map signs (s ∷ []) t rule (one_before_legal crossing_map signs s drives) applies first

-- ---- one step, by which none may be driven

-- way 10 has one step
abbrev second : Step
second = record { way = way 10; index = 1; dir = Forward }

no_step : Breaks (second ∷ []) 1 NoStep
unfolding names_pair line_of way_of visible
no_step = alone second NoStep (simp looked_up refl) (from_one crossing_map signs [] second)

-- node 6 isn't there
no_node : Breaks (along 14 ∷ []) 1 (NoNode (node 6))
unfolding names_pair end_at node_at line_of way_of node_of visible
no_node = alone (along 14) (NoNode (node 6)) (AtHead (simp looked_up refl) (simp looked_up refl) (simp looked_up refl))
    (from_two crossing_map signs [] (along 14) (simp looked_up refl))

closed : Breaks (along 15 ∷ []) 1 (Closed Area)
unfolding names_pair end_at node_at line_of way_of node_of visible
closed = alone (along 15) (Closed Area) (record { way = way_body area 4 5; visible = simp looked_up refl; says = refl })
    (from_three crossing_map signs [] (along 15) (simp looked_up refl) (simp looked_up refl) (simp looked_up refl))

one_way_says : IsAnswered crossing_map signs (against 13) WrongWayAccess
unfolding way_of visible
one_way_says = record { way = way_body one_way 3 5; visible = simp looked_up refl; says = refl }

wrong_way : Breaks (against 13 ∷ []) 1 WrongWay
unfolding names_pair end_at node_at line_of way_of node_of visible
wrong_way = alone (against 13) WrongWay one_way_says (from_four crossing_map signs [] (against 13)
    (simp looked_up refl) (simp looked_up refl) (simp looked_up refl) one_way_says)

-- ---- two steps

thirteen : Runs 13 Forward 3 5
unfolding end_at names_pair node_at line_of way_of visible
thirteen = (simp looked_up refl, simp looked_up refl)

ten_back : Runs 10 Backward 2 1
unfolding end_at names_pair node_at line_of way_of visible
ten_back = (simp looked_up refl, simp looked_up refl)

go_thirteen : Go 13 Forward
unfolding drivable is_open node_at line_of way_of node_of visible
go_thirteen = simp looked_up refl

go_ten_back : Go 10 Backward
unfolding drivable is_open node_at line_of way_of node_of visible
go_ten_back = simp looked_up refl

behind_one : (s : Step) → IsBehind (s ∷ []) s
behind_one s = ([], refl)

-- way 13 doesn't begin where way 10 ends
apart : Breaks (along 10 ∷ along 13 ∷ []) 2 Apart
apart = behind (along 10) (along 13) Apart go_ten (record {
  last = along 10;
  behind = behind_one (along 10);
  apart = λ v m.
      let e = same_node_number 2 3 (sym ten.1 ∙ m.from ∙ sym m.to ∙ thirteen.0) in
      absurd (omega arith);
}) (from_five crossing_map signs (along 10 ∷ []) (along 13) go_thirteen)

-- a bollard on the way ahead
barrier : Breaks (along 11 ∷ along 13 ∷ []) 2 (Barrier (node 3))
unfolding node_of visible
barrier = behind (along 11) (along 13) (Barrier (node 3)) go_eleven (record {
  last = along 11;
  behind = behind_one (along 11);
  meets = record { from = eleven.1; to = thirteen.0 };
  on = λ e. let k = same_node_number 5 2 (sym thirteen.1 ∙ e ∙ eleven.0) in absurd (omega arith);
  barrier = simp looked_up refl;
}) (from_six crossing_map signs (along 11 ∷ []) (along 13) go_thirteen (along 11) (behind_one (along 11)) (node 3)
    (record { from = eleven.1; to = thirteen.0 }))

-- three ways leave the crossing, which is no place to turn round
may_not : MayTurn crossing_map signs (node 2) (against 10) → ⊥
unfolding node_of visible
may_not (AtPlace h) = false≢true (simp looked_up at h)
may_not (AtShut h) = false≢true (simp looked_up at h)
may_not (AtDeadEnd l h) =
    let e = ap (λ (s : Step). s.way) (h (along 12) (record { drives = go_twelve; tail = twelve.0 })) in
    let k = same_way_number 12 10 e in
    omega arith

reversal : Breaks (along 10 ∷ against 10 ∷ []) 2 (Reversal (node 2))
reversal = behind (along 10) (against 10) (Reversal (node 2)) go_ten (record {
  last = along 10;
  behind = behind_one (along 10);
  meets = record { from = ten.1; to = ten_back.0 };
  back = ten_back.1 ∙ sym ten.0;
  may_not = may_not;
}) (from_seven crossing_map signs (along 10 ∷ []) (against 10) go_ten_back (along 10) (behind_one (along 10)) (node 2)
    (record { from = ten.1; to = ten_back.0 }) (ten_back.1 ∙ sym ten.0))

-- ---- restrictions

-- where two steps end with a word of two steps they are that word
both_steps : (s t : Step) (a : List Step) (f l : Step) → s ∷ t ∷ [] ≡ a ++ f ∷ l ∷ [] → (s ≡ f) × (t ≡ l)
both_steps s t [] f l e = (cc, cc)
both_steps s t (x ∷ []) f l e = cc
both_steps s t (x ∷ y ∷ a) f l e = absurd (cons_not_nil a f (l ∷ []) (cc))

-- no No word leads from way 10
no_word_from_ten : (t : Step) (r : RelationId) → EndsNoWord crossing_map signs (along 10 ∷ t ∷ []) r → ⊥
no_word_from_ten t r h =
    let w = no_turns r h.binding h.word h.is in
    let k = both_steps (along 10) t h.front w.first w.last (h.ends ∙ ap (λ v. h.front ++ v) w.is) in
    let e = same_way_number 10 11 (ap (λ (s : Step). s.way) k.0 ∙ w.from) in
    omega arith

-- behind way 10 the Only rule demands way 11
demanded : Must crossing_map signs (along 10 ∷ []) (along 11)
demanded = record {
  binding = 1;
  rest = [];
  word = record { relation = relation 20; word = only_word };
  bound = omega arith;
}

second_of : (s t f l : Step) (more : List Step) → s ∷ t ∷ more ≡ f ∷ l ∷ [] → (s ≡ f) × (t ≡ l)
second_of s t f l more e = (cc, cc)

not_demanded : Must crossing_map signs (along 10 ∷ []) (along 12) → ⊥
not_demanded m =
    let w = only_turns m.word.relation m.binding _ m.word.word in
    let k = second_of (along 10) (along 12) w.first w.last m.rest w.is in
    let e = same_way_number 12 11 (ap (λ (s : Step). s.way) k.1 ∙ w.to) in
    omega arith

-- a drive that keeps the rule
follows : Legal crossing_map signs (along 10 ∷ along 11 ∷ [])
unfolding node_of visible
follows = two_legal crossing_map signs (along 10) (along 11) go_ten go_eleven
    (goes_straight crossing_map signs (along 10) (along 11) 1 2 3 ten.0 ten.1 eleven.0 eleven.1 (omega arith)
    (simp looked_up refl))
    (λ a u e n. no_word_from_ten (along 11) n.relation (record {
      front =
          a;
      word = u;
      ends = e;
      binding = n.binding;
      is = n.word;
    }))
    (λ x m. demanded)

as_low : (n : ℕ) (q : RelationId) → IsTrue (is_le (relation_cmp (relation n) (relation n))) → q ≡ relation n →
    IsTrue (is_le (relation_cmp (relation n) q))
as_low n q h e = rw e h

-- and one that leaves it
only_broken : Breaks (along 10 ∷ along 12 ∷ []) 2 (Only (relation 20))
unfolding node_of visible
only_broken = behind (along 10) (along 12) (Only (relation 20)) go_ten (record {
  holds = record {
    front = [];
    driven = along 10 ∷ [];
    ends = refl;
    lacks = not_demanded;
    next = along 11;
    rest = [];
    binding = 1;
    word = only_word;
    bound = omega arith;
  };
  least = λ q h. as_low 20 q refl (only_turns q h.binding _ h.word).number;
}) (from_nine crossing_map signs (along 10 ∷ []) (along 12) go_twelve (along 10) (behind_one (along 10))
    (goes_straight crossing_map signs (along 10) (along 12) 1 2 4 ten.0 ten.1 twelve.0 twelve.1 (omega arith)
    (simp looked_up refl))
    (no_word_from_ten (along 12)))

-- the forbidden turn
no_broken : Breaks (against 11 ∷ along 12 ∷ []) 2 (No (relation 21))
unfolding node_of visible
no_broken = behind (against 11) (along 12) (No (relation 21)) go_eleven_back (record {
  holds = record { front = []; word = against 11 ∷ along 12 ∷ []; ends = refl; binding = 1; is = no_word };
  least = λ q h. as_low 21 q refl (no_turns q h.binding h.word h.is).number;
}) (from_eight crossing_map signs (against 11 ∷ []) (along 12) go_twelve (against 11) (behind_one (against 11))
    (goes_straight crossing_map signs (against 11) (along 12) 3 2 4 eleven_back.0 eleven_back.1 twelve.0 twelve.1
    (omega arith) (simp looked_up refl)))

not_legal : Legal crossing_map signs (along 10 ∷ along 12 ∷ []) → ⊥
not_legal l = broken_illegal crossing_map signs _ 2 (Only (relation 20)) only_broken l
