-- The last step of a piece names it, and where a way's pieces that end with a step stand in their list.
use Rattle.std.proofs.Common.{◌≡◌, ℕ, zero, suc, ◌+◌, ◌-◌, ◌<◌, ◌≤◌, ◌⊎◌, inl, inr, List, [], ◌∷◌, ◌++◌, length, map}
use Rattle.std.proofs.Common.{take, drop, get_or, refl, sym, ap, ◌∙◌, subst, arith, true, false, None, Some}
use Rattle.std.proofs.Common.{IsTrue, Contains, Ordering, add-one, below_more}
use Rattle.std.specs.declared.cmp.Ordering.TheVariants.{Equal, Greater}
use Rattle.std.specs.Ordering.{nat_cmp, is_lt, ordering_then}
use Rattle.std.specs.Cmp.{nat_cmp_is}
use Rattle.std.specs.List.Sorted.{IsPartitionPoint, IsPartitionedBy}
use Rattle.std.proofs.Math.Dec.{leb}
use Rattle.std.proofs.lemmas.Bool.{and_parts, false≢true, leb-true, leb-false, cases_lt}
use Rattle.std.proofs.lemmas.Cmp.{int_cmp_total, tied_itself}
use Rattle.std.proofs.lemmas.List.{length-take-le, length-drop, get_or-take, get_or-drop, get_or_default}
use Rattle.std.proofs.lemmas.List.{same_from_push}
use Rattle.std.specs.List.{All}
use Rattle.std.proofs.lemmas.List.Elements.{All-weaker, All-contains_itself}
use Rattle.std.proofs.lemmas.Option.{same_Some}
use Rattle.std.proofs.lemmas.List.Sorted.{IsNonDecreasingBy-from_all_adjacent, IsPartitionedBy-leb}
use Rattle.road_base.specs.declared.ids.WayId.{WayId}
use Rattle.road_base.specs.declared.ids.Step.{Step}
use Rattle.road_base.specs.declared.ids.Dir.{Dir}
use Rattle.road_base.specs.declared.ids.Dir.TheVariants.{Forward, Backward}
use Rattle.road_base.specs.contracts.ids.StepPartialEq.TheImpl.{ghosts as step_equality}
use Rattle.road_base.specs.Objects.{Objects}
use Rattle.road_base.proofs.EqualSteps.{step_same, step_itself}
use Rattle.road_model.specs.declared.lists.PieceName.{PieceName}
use Rattle.road_model.specs.Rules.{Rules}
use Rattle.road_model.specs.Driving.{drivable}
use Rattle.road_model.specs.Pieces.{IsPlain, Span, IsPiece, spell}
use Rattle.ordered_lists.specs.Orders.{Lists, rises, rises_from}
use Rattle.road_model.specs.Orders.{way_cmp, dir_cmp, name_cmp}
use Rattle.road_model.specs.Blocks.{name_of}
use Rattle.road_model.specs.Turning.{EndsPiece}
use Rattle.way_pieces.specs.declared.spans.PieceSpan.{PieceSpan}
use Rattle.way_pieces.specs.Names.{IsSpanOn, piece_of}
use Rattle.way_pieces.specs.RoadPieces.{AreSpans}
use Rattle.expanded_graph.specs.Known.{NamesEnd, IsLastOf}
use Rattle.ordered_lists.proofs.Decided.{order}
use Rattle.expanded_graph.proofs.Ends.{step, last_index, last_step, spell_ends}

-- ---- last steps

-- the last step in each direction
pub last_in : (d : Dir) (p : Span) → p.index < p.end → p.dir ≡ d
    → (front : List Step) × (spell p ≡ front ++ step p.way (last_index d p.index p.end) d ∷ [])
last_in d p h e = let r = spell_ends p h in (
  r.front,
  r.is
      ∙ ap (λ x. r.front ++ step p.way (last_index x p.index p.end) x ∷ []) e,
)

last_within : (d : Dir) (i j : ℕ) → i < j → (i ≤ last_index d i j) × (last_index d i j < j)
last_within Forward i j h = (omega arith, omega arith)
last_within Backward i j h = (omega arith, omega arith)

same_last : (s : PieceSpan) (x y : Step) → IsLastOf s x → IsLastOf s y → x ≡ y
same_last s x y h k = (same_from_push h.0 k.0 x y (sym h.1 ∙ k.1)).1

-- a span that ends with another step doesn't end with this one
other_last : (s : PieceSpan) (x y : Step) → IsLastOf s x → step_equality.eq x y ≡ false → IsLastOf s y → ⊥
other_last s x y h e k = false≢true (sym e
    ∙ subst (λ z. step_equality.eq x z ≡ true) (same_last s x y h k) (step_itself x))

-- none of the first so many spans ends with the step
abbrev pub NoneEnds : List PieceSpan → ℕ → Step → Type 0
NoneEnds spans n x = (k : ℕ) → k < n → (d : PieceSpan) → IsLastOf (get_or spans k d) x → ⊥

-- nor does the next one, which ends with another step
pub none_more : (spans : List PieceSpan) (i : ℕ) (d : PieceSpan) (x y : Step) → i < length spans → NoneEnds spans i y
    → IsLastOf (get_or spans i d) x → step_equality.eq x y ≡ false → NoneEnds spans (i + 1) y
none_more spans i d x y l none h e = below_more _ _ none
    (λ f k. other_last (get_or spans i d) x y h e (subst (λ s. IsLastOf s y) (get_or_default spans i f d l) k))

at_or_below : (i j : ℕ) → i ≤ j → (i ≡ j) ⊎ (i < j)
at_or_below i j h = grind arith

module _ (M : Objects) (P : Rules) where
  last_is : (p : Span) (front : List Step) (x : Step) → IsPiece M P p → spell p ≡ front ++ x ∷ [] → last_step p ≡ x
  last_is p front x i e = let r = spell_ends p i.ascends
      in (same_from_push r.front front (last_step p) x (sym r.is ∙ e)).1

  pub last_drives : (p : Span) (front : List Step) (x : Step) → IsPiece M P p → spell p ≡ front ++ x ∷ []
      → IsTrue (drivable M P x)
  last_drives p front x i e =
      let k = last_within p.dir p.index p.end i.ascends in
      subst (λ s. IsTrue (drivable M P s)) (last_is p front x i e) (i.drives (last_index p.dir p.index p.end) k.0 k.1)

  -- a piece begins at no position within another of its way
  begins_alike : (p q : Span) → IsPiece M P p → IsPiece M P q → p.way ≡ q.way → p.index ≤ q.index → q.index < p.end
      → p.index ≡ q.index
  begins_alike p q a b w low high = elim (at_or_below p.index q.index low) [
    | inl same ↦ same
    | inr l ↦ absurd (b.first (subst (λ v. IsPlain M P v q.index) w (a.inner q.index l high)))
  ]

  -- pieces of one way over one position begin at one position
  one_start : (k : ℕ) (p q : Span) → IsPiece M P p → IsPiece M P q → p.way ≡ q.way → p.index ≤ k → k < p.end
      → q.index ≤ k → k < q.end → p.index ≡ q.index
  one_start k p q a b w pl ph ql qh = elim (cases_lt p.index q.index) [
    | inl l ↦ begins_alike p q a b w (omega arith) (omega arith)
    | inr l ↦ sym (begins_alike q p b a (sym w) l (omega arith))
  ]

  -- pieces that end with one step have one name
  one_ending : (p q : Span) (f g : List Step) (x : Step) → IsPiece M P p → IsPiece M P q → spell p ≡ f ++ x ∷ []
      → spell q ≡ g ++ x ∷ [] → name_of p ≡ name_of q
  one_ending p q f g x a b d e =
      let same : last_step p ≡ last_step q = last_is p f x a d ∙ sym (last_is q g x b e) in
      let k = last_within p.dir p.index p.end a.ascends in
      let l = last_within q.dir q.index q.end b.ascends in
      let at : last_index p.dir p.index p.end ≡ last_index q.dir q.index q.end = ap (λ t. t.index) same in
      let w : p.way ≡ q.way = ap (λ t. t.way) same in
      let t : p.dir ≡ q.dir = ap (λ t. t.dir) same in
      let i = one_start (last_index p.dir p.index p.end) p q a b w k.0 k.1 (subst (λ n. q.index ≤ n) (sym at) l.0)
      (subst (λ n. n < q.end) (sym at) l.1) in
      λ j. record { way = w j; index = i j; dir = t j }

-- ---- names of one way that ascend

then_second : (r s : Ordering) → r ≡ Equal → IsTrue (is_lt (ordering_then r s)) → IsTrue (is_lt s)
then_second r s e h = subst (λ o. IsTrue (is_lt (ordering_then o s))) e h

never_more : (r s : Ordering) → Greater ≡ r → IsTrue (is_lt (ordering_then r s)) → ⊥
never_more r s e h = false≢true (subst (λ o. IsTrue (is_lt (ordering_then o s))) (sym e) h)

by_position : (i j : ℕ) (s : Ordering) → IsTrue (is_lt (ordering_then (nat_cmp i j) s))
    → (i < j) ⊎ ((i ≡ j) × IsTrue (is_lt s))
by_position i j s h = elim (order i j) [
  | inl l ↦ inl l
  | inr o ↦ elim o [
    | inl e ↦ inr (e, then_second (nat_cmp i j) s (sym (nat_cmp_is i j Equal e)) h)
    | inr m ↦ absurd (never_more (nat_cmp i j) s (nat_cmp_is i j Greater m) h)
  ]
]

forward_first : (d e : Dir) → IsTrue (is_lt (dir_cmp d e)) → (d ≡ Forward) × (e ≡ Backward)
forward_first Forward Forward h = absurd (false≢true h)
forward_first Forward Backward h = (refl, refl)
forward_first Backward Forward h = absurd (false≢true h)
forward_first Backward Backward h = absurd (false≢true h)

-- the one name is below the other, at a lower position or in the other direction
abbrev IsNext : PieceName → PieceName → Type 0
IsNext a b = (a.index < b.index) ⊎ ((a.index ≡ b.index) × (a.dir ≡ Forward) × (b.dir ≡ Backward))

next_name : (a b : PieceName) → a.way ≡ b.way → IsTrue (is_lt (name_cmp a b)) → IsNext a b
next_name a b w h =
    let tied : way_cmp a.way b.way ≡ Equal = subst (λ v. way_cmp a.way v ≡ Equal) w (tied_itself int_cmp_total a.way.0)
    in
    let places = then_second (way_cmp a.way b.way) _ tied h in
    elim (by_position a.index b.index (dir_cmp a.dir b.dir) places) [
      | inl l ↦ inl l
      | inr e ↦ let f = forward_first a.dir b.dir e.1 in inr (e.0, f.0, f.1)
    ]

never_lower : (a b : PieceName) → IsNext a b → a.index ≤ b.index
never_lower a b (inl l) = omega arith
never_lower a b (inr e) = omega (arith, e.0)

-- there are no three names at one position
no_three : (a b c : PieceName) → IsNext a b → IsNext b c → a.index ≡ b.index → b.index ≡ c.index → ⊥
no_three a b c (inl l) n e f = omega arith
no_three a b c (inr o) (inl l) e f = omega arith
no_three a b c (inr o) (inr p) e f = let backward : b.dir ≡ Backward = o.2 in let forward : b.dir ≡ Forward = p.1 in cc

rise_next : (n : PieceName) (ss : List PieceSpan) → IsTrue (rises_from name_cmp n (map (λ s. s.name) ss))
    → 0 < length ss → (d : PieceSpan) → IsTrue (is_lt (name_cmp n (get_or ss 0 d).name))
rise_next n [] h l d = absurd (omega arith)
rise_next n (s ∷ ss) h l d = (and_parts _ _ h).0

rise_rest : (s : PieceSpan) (ss : List PieceSpan) → IsTrue (rises_from name_cmp s.name (map (λ t. t.name) ss))
    → IsTrue (rises name_cmp (map (λ t. t.name) ss))
rise_rest s [] h = refl
rise_rest s (t ∷ ss) h = (and_parts _ _ h).1

rise_at : (ss : List PieceSpan) → IsTrue (rises name_cmp (map (λ s. s.name) ss)) → (i : ℕ) → suc i < length ss
    → (d : PieceSpan) → IsTrue (is_lt (name_cmp (get_or ss i d).name (get_or ss (suc i) d).name))
rise_at [] h i l d = absurd (omega arith)
rise_at (s ∷ ss) h zero l d = rise_next s.name ss h (omega arith) d
rise_at (s ∷ ss) h (suc i) l d = rise_at ss (rise_rest s ss h) i (omega arith) d

-- ---- the spans around a step

-- the spans from one place up to another
abbrev pub part : List PieceSpan → ℕ → ℕ → List PieceSpan
part spans low high = take (high - low) (drop low spans)

part_length : (spans : List PieceSpan) (low high : ℕ) → high ≤ length spans → length (part spans low high) ≡ high - low
part_length spans low high l = length-take-le (high - low) (drop low spans) (omega (arith, length-drop low spans))

part_at : (spans : List PieceSpan) (low high i : ℕ) (d : PieceSpan) → i < high - low
    → get_or (part spans low high) i d ≡ get_or spans (low + i) d
part_at spans low high i d l = get_or-take (high - low) (drop low spans) i d l ∙ get_or-drop low spans i d

module _ (M : Objects) (P : Rules) (x : Step) where
  -- a span that ends with the step has the name
  names_span : (s : PieceSpan) → IsSpanOn M P x.way s → IsLastOf s x → NamesEnd M P x (Some s.name)
  names_span s on l n = (
    λ e. record { piece = piece_of s; is = on.is; named = sym (same_Some s.name n e); front = l.0; ends = l.1 },
    λ h. ap Some (one_ending M P (piece_of s) h.piece l.0 h.front x on.is h.is l.1 h.ends ∙ sym h.named),
  )

  module _ (spans : List PieceSpan) (lists : Lists (λ s. s.name) name_cmp (IsSpanOn M P x.way) spans) where
    is_span : (i : ℕ) (d : PieceSpan) → i < length spans → IsSpanOn M P x.way (get_or spans i d)
    is_span i d l = lists.sound (get_or spans i d) (i, l, get_or_default spans i (get_or spans i d) d l)

    next_at : (i : ℕ) (d : PieceSpan) → suc i < length spans
        → IsNext (get_or spans i d).name (get_or spans (suc i) d).name
    next_at i d l =
        let s = is_span i d (omega arith) in
        let t = is_span (suc i) d l in
        next_name (get_or spans i d).name (get_or spans (suc i) d).name (s.of ∙ sym t.of)
        (rise_at spans lists.ascending i l d)

    rise_by_one : (i : ℕ) (d : PieceSpan) → i + 1 < length spans
        → (get_or spans i d).name.index ≤ (get_or spans (i + 1) d).name.index
    rise_by_one i d l = rw add-one (never_lower (get_or spans i d).name (get_or spans (suc i) d).name
        (next_at i d (omega arith)))

    -- the spans that begin at or below a position stand in front
    pub parted : IsPartitionedBy (λ s. leb s.name.index x.index) spans
    parted = IsPartitionedBy-leb (λ s. s.name.index) spans x.index
        (IsNonDecreasingBy-from_all_adjacent (λ s. s.name.index) spans rise_by_one)

    -- where the spans end that begin at or below the step
    module _ (count : ℕ) (point : IsPartitionPoint (λ s. leb s.name.index x.index ≡ true)
        (λ s. leb s.name.index x.index ≡ false) spans count) (fits : count ≤ length spans) where
      begins_low : (i : ℕ) (d : PieceSpan) → i < count → (get_or spans i d).name.index ≤ x.index
      begins_low i d l = leb-true (get_or spans i d).name.index x.index (point.0 i d (omega arith) l)

      begins_high : (i : ℕ) (d : PieceSpan) → count ≤ i → i < length spans → x.index < (get_or spans i d).name.index
      begins_high i d h l = leb-false (get_or spans i d).name.index x.index (point.1 i d h l)

      -- a piece that the step ends stands before that place, and at most one other between
      module _ (n : PieceName) (ending : EndsPiece M P x n) where
        abbrev own : PieceSpan
        own = record { name = name_of ending.piece; end = ending.piece.end }

        last : last_step ending.piece ≡ x
        last = last_is M P ending.piece ending.front x ending.is ending.ends

        over : (own.name.index ≤ x.index) × (x.index < own.end)
        over =
            let k = last_within own.name.dir own.name.index own.end ending.is.ascends in
            let at : last_index own.name.dir own.name.index own.end ≡ x.index = ap (λ s. s.index) last in
            (subst (λ i. own.name.index ≤ i) at k.0, subst (λ i. i < own.end) at k.1)

        on : IsSpanOn M P x.way own
        on = record { of = ap (λ s. s.way) last; is = ending.is }

        among : Contains spans own
        among = lists.complete own on

        alike : (s : PieceSpan) → IsSpanOn M P x.way s → own.name.index ≤ s.name.index → s.name.index ≤ x.index
            → own.name.index ≡ s.name.index
        alike s is low high = let o = over in begins_alike M P (piece_of own) (piece_of s) on.is is.is
            (on.of ∙ sym is.of) low (omega arith)

        before : among.0 < count
        before = elim (cases_lt among.0 count) [
          | inl l ↦ l
          | inr h ↦
              let above = begins_high among.0 own h among.1 in
              let same : (get_or spans among.0 own).name.index ≡ own.name.index = ap (λ s. s.name.index) among.2 in
              let o = over in
              absurd (omega arith)
        ]

        two_more : suc (suc among.0) < count → ⊥
        two_more l =
            let a = get_or spans among.0 own in
            let b = get_or spans (suc among.0) own in
            let c = get_or spans (suc (suc among.0)) own in
            let same : a.name.index ≡ own.name.index = ap (λ s. s.name.index) among.2 in
            let ab : IsNext a.name b.name = next_at among.0 own (omega arith) in
            let bc : IsNext b.name c.name = next_at (suc among.0) own (omega arith) in
            let up = never_lower a.name b.name ab in
            let upper = never_lower b.name c.name bc in
            let e = alike b (is_span (suc among.0) own (omega arith)) (omega arith)
            (begins_low (suc among.0) own (omega arith)) in
            let f = alike c (is_span (suc (suc among.0)) own (omega arith)) (omega arith)
            (begins_low (suc (suc among.0)) own l) in
            no_three a.name b.name c.name ab bc (same ∙ e) (sym e ∙ f)

        not_none : (low : ℕ) → low ≡ count - 2 → NoneEnds (part spans low count) (length (part spans low count)) x → ⊥
        not_none low e none =
            let l = before in
            let near : count ≤ suc (suc among.0) = elim (cases_lt (suc (suc among.0)) count)
            [ inl more ↦ absurd (two_more more) | inr h ↦ h ] in
            let at : low + (among.0 - low) ≡ among.0 = omega arith in
            let within : among.0 - low < length (part spans low count) = omega (arith, part_length spans low count fits)
            in
            let is : get_or (part spans low count) (among.0 - low) own
            ≡ own = part_at spans low count (among.0 - low) own (omega arith)
            ∙ (ap (λ i. get_or spans i own) at ∙ among.2) in
            none (among.0 - low) within own (subst (λ s. IsLastOf s x) (sym is) (ending.front, ending.ends))

      -- what a search through the last two of them finds
      module _ (low : ℕ) (back : low ≡ count - 2) where
        pub names_none : NoneEnds (part spans low count) (length (part spans low count)) x → NamesEnd M P x None
        names_none none n = (λ e. cc, λ h. absurd (not_none n h low back none))

        pub names_some : (i : ℕ) (d : PieceSpan) (y : Step) → i < length (part spans low count)
            → IsLastOf (get_or (part spans low count) i d) y → step_equality.eq y x ≡ true
            → NamesEnd M P x (Some (get_or (part spans low count) i d).name)
        names_some i d y l h e =
            let c = part_length spans low count fits in
            let is : get_or (part spans low count) i d
            ≡ get_or spans (low + i) d = part_at spans low count i d (omega arith) in
            names_span (get_or (part spans low count) i d)
            (subst (IsSpanOn M P x.way) (sym is) (is_span (low + i) d (omega arith)))
            (subst (IsLastOf (get_or (part spans low count) i d)) (step_same y x e) h)

-- the positions of a way's pieces ascend
pub spans_ascend : (M : Objects) (P : Rules) (w : WayId) (spans : List PieceSpan) → AreSpans M P w spans
    → All (λ s. s.name.index < s.end) spans
spans_ascend M P w spans are =
    All-weaker _ (λ (s : PieceSpan). s.name.index < s.end) (λ s has. (are.sound s has).is.ascends) spans
    (All-contains_itself spans)
