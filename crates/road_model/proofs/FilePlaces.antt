-- The places of a piece as it is written are the nodes that its steps pass.
use Rattle.std.proofs.Common.{◌≡◌, ℕ, ◌+◌, ◌-◌, ◌<◌, ◌≤◌, length, refl, sym, ap, ◌∙◌, subst, arith, Some, slice_get}
use Rattle.std.proofs.Common.{IsTrue}
use Rattle.road_base.specs.declared.ids.WayId.{WayId}
use Rattle.road_base.specs.declared.ids.Step.{Step}
use Rattle.road_base.specs.declared.ids.Dir.{Dir}
use Rattle.road_base.specs.declared.ids.Dir.TheVariants.{Forward, Backward}
use Rattle.road_base.specs.Objects.{Objects}
use Rattle.road_model.specs.declared.lists.Place.{Place}
use Rattle.road_model.specs.declared.lists.Piece.{Piece}
use Rattle.road_model.specs.Rules.{Rules}
use Rattle.road_model.specs.Lines.{node_at, steps_from, tail_position, head_position, end_at}
use Rattle.road_model.specs.Driving.{drivable}
use Rattle.road_model.specs.Pieces.{Span, IsPiece, spell}
use Rattle.road_model.specs.Blocks.{IsPlaceOf, IsPieceEntry, place_position}
use Rattle.road_model.specs.FileWalks.{IsPlaceAt, ArePassed, piece_steps}
use Rattle.road_model.proofs.StepPlaces.{InsideAt, place_in, place, stands_inside, length-forward, length-backward}
use Rattle.road_model.proofs.StepEnds.{named_end, drives_named}

pub length-steps : (w : WayId) (i n : ℕ) (d : Dir) → length (steps_from w i n d) ≡ n
length-steps w i n Forward = length-forward w i n
length-steps w i n Backward = length-backward w i n

-- the place of a step in its piece is where the step begins, and the next one is where it ends
tail_at : (w : WayId) (i j : ℕ) (d : Dir) (m : ℕ) → i ≤ m → m < j →
    place_position (record { way = w; index = i; end = j; dir = d }) (place_in d i j m) ≡ tail_position d m
tail_at w i j Forward m l h = omega arith
tail_at w i j Backward m l h = omega arith

head_at : (w : WayId) (i j : ℕ) (d : Dir) (m : ℕ) → i ≤ m → m < j →
    place_position (record { way = w; index = i; end = j; dir = d }) (place_in d i j m + 1) ≡ head_position d m
head_at w i j Forward m l h = omega arith
head_at w i j Backward m l h = omega arith

tail_of_place : (p : Span) (k : ℕ) (s : Step) → InsideAt p k s → place_position p k ≡ tail_position s.dir s.index
unfolding place
tail_of_place p k s a =
    ap (place_position p) a.at ∙ tail_at p.way p.index p.end p.dir s.index a.inside.low a.inside.high
    ∙ ap (λ d. tail_position d s.index) (sym a.inside.dir)

head_of_place : (p : Span) (k : ℕ) (s : Step) → InsideAt p k s → place_position p (k + 1) ≡ head_position s.dir s.index
unfolding place
head_of_place p k s a =
    ap (λ n. place_position p (n + 1)) a.at ∙ head_at p.way p.index p.end p.dir s.index a.inside.low a.inside.high
    ∙ ap (λ d. head_position d s.index) (sym a.inside.dir)

module _ (M : Objects) (P : Rules) where
  drives_inside : (p : Span) → IsPiece M P p → (k : ℕ) (s : Step) → InsideAt p k s → IsTrue (drivable M P s)
  drives_inside p i k s a =
      let e = a.inside in
      let same : s ≡ record { way = p.way; index = s.index; dir = p.dir }
      = λ x. record { way = e.way x; index = s.index; dir = e.dir x } in
      subst (λ t. IsTrue (drivable M P t)) (sym same) (i.drives s.index e.low e.high)

  -- the place at the position at which the step has an end is there
  place_at : (p : Span) (k : ℕ) (x : Place) → IsPlaceOf M p k x → (s : Step) (n : ℕ) → IsTrue (drivable M P s) →
      s.way ≡ p.way → place_position p k ≡ n → IsPlaceAt M (end_at M s n) x
  place_at p k x h s n d w e = record {
    node_is = named_end M s n (drives_named M P s d)
        ∙ (λ i. node_at M (w i) (sym e i)) ∙ h.node;
    body = h.body;
    visible = h.visible;
    location = h.location;
  }

  piece_passed : (p : Span) → IsPiece M P p → (e : Piece) (w : WayId) (h : IsPieceEntry M P w e) → h.piece ≡ p →
      ((k : ℕ) (x : Place) → slice_get e.places k ≡ Some x → IsPlaceOf M p k x) → ArePassed M (spell p) e.places
  piece_passed p i e w h same places = record {
    count = h.count ∙ ap (λ (q : Span). q.end - q.index + 1) same
        ∙ ap (λ n. n + 1) (sym (length-steps p.way p.index (p.end - p.index) p.dir));
    tails = λ k s x f g.
        let a = stands_inside p k s i.ascends f in
        place_at p k x (places k x g) s (tail_position s.dir s.index) (drives_inside p i k s a) a.inside.way
        (tail_of_place p k s a);
    heads = λ k s x f g.
        let a = stands_inside p k s i.ascends f in
        place_at p (k + 1) x (places (k + 1) x g) s (head_position s.dir s.index) (drives_inside p i k s a) a.inside.way
        (head_of_place p k s a);
  }

  pub entry_steps : (e : Piece) (w : WayId) (h : IsPieceEntry M P w e) → piece_steps e ≡ spell h.piece
  entry_steps e w h =
      let p = h.piece in
      ap (λ n. steps_from n.way n.index (e.end - n.index) n.dir) h.named
      ∙ ap (λ z. steps_from p.way p.index (z - p.index) p.dir) h.end_is

  pub entry_passed : (e : Piece) (w : WayId) → IsPieceEntry M P w e → ArePassed M (piece_steps e) e.places
  entry_passed e w h = subst (λ l. ArePassed M l e.places) (sym (entry_steps e w h))
      (piece_passed h.piece h.is e w h refl h.places)
