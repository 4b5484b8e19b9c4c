-- Which positions are plain, by the nodes about them and how often the node there stands on the line.
use Rattle.std.proofs.Common.{◌≡◌, ℕ, zero, suc, ◌+◌, ◌-◌, ◌<◌, List, [], ◌∷◌, length, map, slice_get, Option, Some}
use Rattle.std.proofs.Common.{None, is_some, not, ◌||◌, Bool, true, false, IsTrue, IsFalse, ◌⊎◌, inl, inr, refl, sym}
use Rattle.std.proofs.Common.{ap, subst, ◌∙◌, arith}
use Rattle.std.proofs.lemmas.Bool.{and_parts, and_from, false≢true, ltb-false, le-ltb}
use Rattle.std.proofs.lemmas.List.{length-map}
use Rattle.std.proofs.lemmas.Option.{slice_get_within}
use Rattle.road_base.specs.declared.ids.NodeId.{NodeId}
use Rattle.road_base.specs.declared.ids.WayId.{WayId}
use Rattle.road_base.specs.declared.objects.Node.{Node}
use Rattle.road_base.specs.declared.ids.Dir.TheVariants.{Forward}
use Rattle.road_base.specs.Objects.{Objects, node_of}
use Rattle.road_model.specs.Rules.{Rules}
use Rattle.road_model.specs.Lines.{line_of, node_at}
use Rattle.road_model.specs.Driving.{is_open, is_road, located, node_located}
use Rattle.road_model.specs.Pieces.{IsPlain}
use Rattle.way_lines.specs.declared.road_line.LineNode.{LineNode}
use Rattle.way_lines.specs.declared.road_line.RoadLine.{RoadLine}
use Rattle.way_lines.specs.declared.roads.Road.{Road}
use Rattle.way_lines.specs.RoadLines.{IsRoad, IsRoadLine, line_node, location_in, goes_through}
use Rattle.junctions.specs.declared.plain.Neighbours.{Neighbours}
use Rattle.junctions.specs.PlainPositions.{AreNeighbours, IsPassed}
use Rattle.junctions.specs.Repeats.{times, is_repeated, nodes_of}
use Rattle.junctions.proofs.NodeCounts.{few, once_at}

pub some_same : (a b : NodeId) → Some a ≡ Some b → a ≡ b
some_same a b e = cc

pub is_not : (b : Bool) → IsTrue (not b) → IsFalse b
is_not true h = absurd (false≢true h)
is_not false h = refl

pub not_is : (b : Bool) → IsFalse b → IsTrue (not b)
not_is true h = absurd (false≢true (sym h))
not_is false h = refl

pub located_in : (o : Option Node) → is_some (location_in o) ≡ node_located o
located_in None = refl
located_in (Some body) = refl

module _ (M : Objects) (P : Rules) where
  -- a way that is open in some direction is a road
  pub open_road : (r : Road) → IsRoad M P r → (r.forward || r.backward) ≡ is_road M P r.way
  open_road r is = ap (λ b. b || r.backward) is.forward ∙ ap (λ b. is_open M P r.way Forward || b) is.backward

  -- a node on a line that was looked up
  looked_up : (xs : List NodeId) (k : ℕ) (y : LineNode) → slice_get (map (line_node M P) xs) k ≡ Some y
      → (slice_get xs k ≡ Some y.node) × (y ≡ line_node M P y.node)
  looked_up [] zero y is = cc
  looked_up [] (suc k) y is = cc
  looked_up (x ∷ xs) zero y is =
      let same : line_node M P x ≡ y = cc in
      let node : x ≡ y.node = ap (λ (n : LineNode). n.node) same in
      (ap Some node, sym same ∙ ap (line_node M P) node)
  looked_up (x ∷ xs) (suc k) y is = looked_up xs k y is

  -- the nodes of a line that was looked up
  pub same_nodes : (xs : List NodeId) → nodes_of (map (line_node M P) xs) ≡ xs
  same_nodes [] = refl
  same_nodes (x ∷ xs) = ap (λ (l : List NodeId). x ∷ l) (same_nodes xs)

  lies : (y : LineNode) → y ≡ line_node M P y.node → is_some y.location ≡ located M (Some y.node)
  lies y is = ap (λ (n : LineNode). is_some n.location) is ∙ located_in (node_of M y.node)

  through : (y : LineNode) → y ≡ line_node M P y.node → y.goes_through ≡ goes_through M P y.node
  through y is = ap (λ (n : LineNode). n.goes_through) is

  module _ (w : WayId) (i : ℕ) (n : Neighbours) (about : AreNeighbours (map (line_node M P) (line_of M w)) i n) where
    there : (k : ℕ) (y : LineNode) → slice_get (map (line_node M P) (line_of M w)) k ≡ Some y
        → node_at M w k ≡ Some y.node
    unfolding node_at
    there k y is = (looked_up (line_of M w) k y is).0

    on_line : (k : ℕ) (x : NodeId) → node_at M w k ≡ Some x → slice_get (line_of M w) k ≡ Some x
    unfolding node_at
    on_line k x is = is

    at : (k : ℕ) (x : NodeId) → slice_get (line_of M w) k ≡ Some x → node_at M w k ≡ Some x
    unfolding node_at
    at k x is = is

    seen : (k : ℕ) (y : LineNode) → slice_get (map (line_node M P) (line_of M w)) k ≡ Some y
        → is_some y.location ≡ located M (node_at M w k)
    seen k y is = lies y (looked_up (line_of M w) k y is).1 ∙ ap (located M) (sym (there k y is))

    before_there : node_at M w (i - 1) ≡ Some n.before.node
    before_there = there (i - 1) n.before about.before

    here_there : node_at M w i ≡ Some n.here.node
    here_there = there i n.here about.here

    behind_there : node_at M w (i + 1) ≡ Some n.behind.node
    behind_there = there (i + 1) n.behind about.behind

    inside : i + 1 < length (line_of M w)
    inside = slice_get_within (line_of M w) (i + 1) n.behind.node (on_line (i + 1) n.behind.node behind_there)

    passes : n.here.goes_through ≡ goes_through M P n.here.node
    passes = through n.here (looked_up (line_of M w) i n.here about.here).1

    goes : (plain : IsPlain M P w i) → goes_through M P plain.node ≡ true
    goes plain = and_from _ _ plain.here (and_from _ _ (not_is _ plain.not_shut) (not_is _ plain.no_turning))

    -- where one drives on at a node that stands on a road's line once, the position is plain
    pub plain_from : IsTrue (is_road M P w) → false ≡ is_repeated (line_of M w) n.here.node → IsPassed M P w n
        → IsPlain M P w i
    plain_from road once p =
        let few_times = ltb-false 1 (times n.here.node (line_of M w)) (sym once) in
        let open_there = and_parts _ _ (sym passes ∙ p.may.through) in
        let free = and_parts _ _ open_there.1 in
        record {
          road = road;
          not_first = about.inside;
          not_last = inside;
          node = n.here.node;
          is = here_there;
          before = sym (seen (i - 1) n.before about.before) ∙ p.may.near;
          here = open_there.0;
          behind = sym (seen (i + 1) n.behind about.behind) ∙ p.may.far;
          apart = λ e. p.may.apart (some_same n.before.node n.behind.node (sym before_there ∙ (e ∙ behind_there)));
          alone = λ v j is_one there_too.
              let same : v ≡ w = p.no_other v j is_one there_too in
              let here = on_line j n.here.node (subst (λ u. node_at M u j ≡ Some n.here.node) same there_too) in
              (same, once_at n.here.node (line_of M w) few_times j i here (on_line i n.here.node here_there));
          not_shut = is_not _ free.0;
          no_turning = is_not _ free.1;
        }

    module _ (plain : IsPlain M P w i) where
      node_is : plain.node ≡ n.here.node
      node_is = some_same plain.node n.here.node (sym plain.is ∙ here_there)

      lets_pass : goes_through M P n.here.node ≡ true
      lets_pass = subst (λ v. goes_through M P v ≡ true) node_is (goes plain)

      -- one drives on at a plain position
      pub passed : IsPassed M P w n
      passed = record {
        may = record {
          near = seen (i - 1) n.before about.before ∙ plain.before;
          through = passes ∙ lets_pass;
          far = seen (i + 1) n.behind about.behind ∙ plain.behind;
          apart = λ e. plain.apart (before_there ∙ (ap Some e ∙ sym behind_there));
        };
        no_other = λ v j road there_too. (plain.alone v j road (there_too ∙ ap Some (sym node_is))).0;
      }

      at_place : (j : ℕ) → slice_get (line_of M w) j ≡ Some n.here.node → j ≡ i
      at_place j is = (plain.alone w j plain.road (at j n.here.node is ∙ ap Some (sym node_is))).1

      -- and the node of a plain position stands on the line once
      pub once : false ≡ is_repeated (line_of M w) n.here.node
      once =
          let most = few n.here.node (line_of M w) (λ a b x y. at_place a x ∙ sym (at_place b y)) in
          sym (le-ltb 1 (times n.here.node (line_of M w)) most)

  either : (b : Bool) → (b ≡ true) ⊎ (b ≡ false)
  either true = inl refl
  either false = inr refl

  module _ (l : RoadLine) (is : IsRoadLine M P l) where
    -- a way whose line has a node is a road
    pub some_road : (k : ℕ) → k < length l.nodes.items → IsTrue (is_road M P l.road.way)
    some_road k within = elim (either (is_road M P l.road.way)) [
      | inl road ↦ road
      | inr none ↦ let empty = ap length (is.none none) in absurd (omega arith)
    ]

    -- and its nodes are those of the way's line
    pub as_long : IsTrue (is_road M P l.road.way) → length l.nodes.items ≡ length (line_of M l.road.way)
    as_long road = ap length (is.line road) ∙ length-map (line_of M l.road.way) (line_node M P)

    abbrev w : WayId
    w = l.road.way

    module _ (i : ℕ) (n : Neighbours) (about : AreNeighbours l.nodes.items i n) where
      module _ (nodes : List NodeId) (same : nodes ≡ nodes_of l.nodes.items) where
        on_road : IsTrue (is_road M P w) → AreNeighbours (map (line_node M P) (line_of M w)) i n
        on_road road = subst (λ (x : List LineNode). AreNeighbours x i n) (is.line road) about

        on_way : IsTrue (is_road M P w) → is_repeated nodes n.here.node ≡ is_repeated (line_of M w) n.here.node
        on_way road =
            let line : nodes ≡ line_of M w = same ∙ (ap nodes_of (is.line road) ∙ same_nodes (line_of M w)) in
            ap (λ (x : List NodeId). is_repeated x n.here.node) line

        pub plain_once : false ≡ is_repeated nodes n.here.node → IsPassed M P w n → IsPlain M P w i
        plain_once alone p =
            let road = some_road i (slice_get_within l.nodes.items i n.here about.here) in
            plain_from w i n (on_road road) road (alone ∙ on_way road) p

        pub once_plain : IsPlain M P w i → (false ≡ is_repeated nodes n.here.node) × IsPassed M P w n
        once_plain plain =
            let on = on_road plain.road in
            (once w i n on plain ∙ sym (on_way plain.road), passed w i n on plain)
