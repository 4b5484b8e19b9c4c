-- Each legal drive between two nodes lies within one piece, or leads over the pieces of a walk and one more by an arc.
use Rattle.std.proofs.Common.{◌≡◌, ℕ, ◌+◌, ◌-◌, ◌<◌, ◌≤◌, List, [], ◌∷◌, ◌++◌, length, slice_get, take, drop}
use Rattle.std.proofs.Common.{refl, sym, ap, ◌∙◌, subst, arith, append_assoc, append-nil}
use Rattle.std.proofs.lemmas.Option.{slice_get_within}
use Rattle.std.proofs.lemmas.List.{append_cancel_left, append_cancel_right, drop-drop}
use Rattle.road_base.specs.declared.ids.NodeId.{NodeId}
use Rattle.road_base.specs.declared.ids.Step.{Step}
use Rattle.road_base.specs.Objects.{Objects}
use Rattle.road_model.specs.Rules.{Rules}
use Rattle.road_model.specs.Pieces.{Span, IsPiece, StandsAt, spell}
use Rattle.road_model.specs.Network.{Legal, IsArc, spell_pieces}
use Rattle.road_model.specs.Walks.{WalksTo, Start, Go, IsJunctionDrive}
use Rattle.ordered_lists.proofs.ListPlaces.{stands_last}
use Rattle.ordered_lists.proofs.Splits.{cons_not_nil, ends}
use Rattle.road_model.proofs.WalkLists.{spell_pieces-push}
use Rattle.context_search.specs.Reaching.{LeadsTo}
use Rattle.context_search.specs.Searching.{BeginsAt, StopsAt, along_pieces}
use Rattle.context_search.specs.DriveOver.{LiesOver, InOne, OnMany}
use Rattle.context_search.proofs.DrivePlaces.{split_place, places_ascend, share_first, share_last}
use Rattle.context_search.proofs.DrivePlaces.{begins_with, ends_with, around_run}
use Rattle.context_search.proofs.DriveParts.{DriveLaws, cut_pieces}

-- the steps begin as piece p does and end as piece t does
record Bounded (m : List Step) (p t : Span) : Type 0 where
  first : Step
  more : List Step
  from_spelled : spell p ≡ first ∷ more
  rest : List Step
  begins : m ≡ first ∷ rest
  front : List Step
  last : Step
  to_spelled : spell t ≡ front ++ last ∷ []
  before : List Step
  stops : m ≡ before ++ last ∷ []

-- the drive, with what stands before step i of p and behind step j of t
abbrev made_whole : List Step → Span → ℕ → Span → ℕ → List Step
made_whole d p i t j = take i (spell p) ++ (d ++ drop (j + 1) (spell t))

module _ (M : Objects) (P : Rules) where
  pub walk_some : (d c : List Span) → WalksTo M P d c → d ≡ [] → ⊥
  walk_some d c (Start p i e f) g = cc (e, g)
  walk_some d c (Go o b t w arc e) g = cons_not_nil o t [] (sym e ∙ g)

  first_is_piece : (d c : List Span) → WalksTo M P d c → (q : Span) (o : List Span) → d ≡ q ∷ o → IsPiece M P q
  first_is_piece d c (Start p i e f) q o g = let h : p ≡ q = cc (e, g) in subst (IsPiece M P) h i
  first_is_piece d c (Go [] b t w arc e) q o g = absurd (walk_some [] b w refl)
  first_is_piece d c (Go (r ∷ s) b t w arc e) q o g =
      let h : r ≡ q = cc (e, g) in subst (IsPiece M P) h (first_is_piece (r ∷ s) b w r s refl)

-- what stands between two parts that are the same
cut_both : (x d e y : List Step) → x ++ (d ++ y) ≡ x ++ (e ++ y) → d ≡ e
cut_both x d e y h = append_cancel_right d e y (append_cancel_left x (d ++ y) (e ++ y) h)

-- a list without what stands before place i and behind place j
cut_run : (xs d : List Step) (i j : ℕ) → i ≤ j → xs ≡ take i xs ++ (d ++ drop (j + 1) xs)
    → d ≡ take (j + 1 - i) (drop i xs)
cut_run xs d i j l e =
    let n : i + (j + 1 - i) ≡ j + 1 = omega arith in
    cut_both (take i xs) d (take (j + 1 - i) (drop i xs)) (drop (j + 1) xs)
    (sym e ∙ around_run xs i (j + 1 - i)
    ∙ ap (λ v. take i xs ++ (take (j + 1 - i) (drop i xs) ++ v)) (drop-drop (j + 1 - i) i xs ∙ ap (λ m. drop m xs) n))

module _ (M : Objects) (P : Rules) (laws : DriveLaws M P) where
  same_beginning : (p q : Span) → IsPiece M P p → IsPiece M P q → (f : Step) (a b : List Step) → spell p ≡ f ∷ a
      → spell q ≡ f ∷ b → p ≡ q
  same_beginning p q h i f a b e g =
      let o = laws.one f ((laws.alone p h).drives [] f a e) in
      (o.only p 0 (record { piece = h; at = ap (λ v. slice_get v 0) e })).0
      ∙ sym ((o.only q 0 (record { piece = i; at = ap (λ v. slice_get v 0) g })).0)

  same_ending : (p q : Span) → IsPiece M P p → IsPiece M P q → (a b : List Step) (u : Step) → spell p ≡ a ++ u ∷ []
      → spell q ≡ b ++ u ∷ [] → p ≡ q
  same_ending p q h i a b u e g =
      let o = laws.one u ((laws.alone p h).drives a u [] e) in
      (o.only p (length a) (record { piece = h; at = ap (λ v. slice_get v (length a)) e ∙ stands_last a u })).0
      ∙ sym ((o.only q (length b) (record { piece = i; at = ap (λ v. slice_get v (length b)) g ∙ stands_last b u })).0)

  -- the first and the last piece of a walk are known by what it spells
  first_of_walk : (m : List Step) (p t : Span) → Bounded m p t → IsPiece M P p → (q : Span) (o : List Span)
      → IsPiece M P q → spell_pieces (q ∷ o) ≡ m → p ≡ q
  first_of_walk m p t n h q o i e =
      let r = begins_with (spell q) (spell_pieces o) n.first n.rest ((laws.alone q i).not_empty) (e ∙ n.begins) in
      same_beginning p q h i n.first n.more r.0 n.from_spelled r.1

  last_of_walk : (m : List Step) (p t : Span) → Bounded m p t → IsPiece M P t → (o : List Span) (q : Span)
      → IsPiece M P q → spell_pieces (o ++ q ∷ []) ≡ m → t ≡ q
  last_of_walk m p t n h o q i e =
      let r = ends_with (spell q) (spell_pieces o) n.last n.before (ends (spell q)) ((laws.alone q i).not_empty)
      (sym (spell_pieces-push o q) ∙ e ∙ n.stops) in
      same_ending t q h i n.front r.0 n.last n.to_spelled r.1

  module _ (a b : NodeId) (d : List Step) (l : LeadsTo M P a b d) (p : Span) (i : ℕ) (from : StandsAt M P l.first p i)
      (t : Span) (j : ℕ) (to : StandsAt M P l.last t j) where
    begins_whole : made_whole d p i t j ≡ take i (spell p) ++ l.first ∷ (l.rest ++ drop (j + 1) (spell t))
    begins_whole = ap (λ v. take i (spell p) ++ (v ++ drop (j + 1) (spell t))) l.begins

    stops_whole : made_whole d p i t j ≡ (take i (spell p) ++ l.front) ++ l.last ∷ drop (j + 1) (spell t)
    stops_whole = ap (λ v. take i (spell p) ++ (v ++ drop (j + 1) (spell t))) l.ends
        ∙ ap (λ v. take i (spell p) ++ v) (append_assoc l.front (l.last ∷ []) (drop (j + 1) (spell t)))
        ∙ sym (append_assoc (take i (spell p)) l.front (l.last ∷ drop (j + 1) (spell t)))

    legal_behind : Legal M P (d ++ drop (j + 1) (spell t))
    legal_behind = subst (λ v. Legal M P (v ++ drop (j + 1) (spell t))) (sym l.ends)
        (laws.behind t (take j (spell t)) l.last (drop (j + 1) (spell t)) l.front to.piece
        (split_place (spell t) j l.last to.at) (subst (Legal M P) l.ends l.legal))

    legal_whole : Legal M P (made_whole d p i t j)
    legal_whole = subst (Legal M P) (sym begins_whole)
        (laws.before p (take i (spell p)) l.first (drop (i + 1) (spell p)) (l.rest ++ drop (j + 1) (spell t)) from.piece
        (split_place (spell p) i l.first from.at)
        (subst (Legal M P) (ap (λ v. v ++ drop (j + 1) (spell t)) l.begins) legal_behind))

    bounded : Bounded (made_whole d p i t j) p t
    bounded =
        let f = share_first (take i (spell p)) l.first (drop (i + 1) (spell p)) (l.rest ++ drop (j + 1) (spell t)) in
        let g = share_last (take j (spell t)) (take i (spell p) ++ l.front) l.last (drop (j + 1) (spell t))
        (ends (drop (j + 1) (spell t))) in
        record {
          first = f.first;
          more = f.left;
          from_spelled = split_place (spell p) i l.first from.at ∙ f.left_is;
          rest = f.right;
          begins = begins_whole ∙ f.right_is;
          front = g.left;
          last = g.last;
          to_spelled = split_place (spell t) j l.last to.at ∙ g.left_is;
          before = g.right;
          stops = stops_whole ∙ g.right_is;
        }

    junction_drive : IsJunctionDrive M P (made_whole d p i t j)
    junction_drive = let n = bounded in record {
      legal = legal_whole;
      from = p;
      from_is = from.piece;
      first = n.first;
      more = n.more;
      from_spelled = n.from_spelled;
      rest = n.rest;
      begins = n.begins;
      to = t;
      to_is = to.piece;
      front = n.front;
      last = n.last;
      to_spelled = n.to_spelled;
      before = n.before;
      stops = n.stops;
    }

    begins_at : (q : Span) → p ≡ q → BeginsAt M q i a
    begins_at q e = subst (λ v. BeginsAt M v i a) e (record { step = l.first; at = from.at; tail = l.tail })

    stops_at : (q : Span) → t ≡ q → StopsAt M q j b
    stops_at q e = subst (λ v. StopsAt M v j b) e (record { step = l.last; at = to.at; head = l.head })

    -- a walk of one piece
    in_one : (q : Span) → IsPiece M P q → spell_pieces (q ∷ []) ≡ made_whole d p i t j → p ≡ q → t ≡ q
        → LiesOver M P a b d
    in_one q h e f g =
        let k : spell q ++ [] ≡ made_whole d q i q j =
        e ∙ ap (λ v. made_whole d v i t j) f ∙ ap (λ v. made_whole d q i v j) g in
        let up : i ≤ j = places_ascend (spell q) d i j
        (subst (λ v. i < length (spell v)) f (slice_get_within (spell p) i l.first from.at))
        (subst (λ v. j < length (spell v)) g (slice_get_within (spell t) j l.last to.at)) l.legal.not_empty k in
        InOne q i j h (begins_at q f) (stops_at q g) up
        (cut_run (spell q) d i j up (sym (append-nil (spell q)) ∙ k))

    -- a walk that goes on by an arc
    on_many : (q : Span) (o c : List Span) (x : Span) (e : List Span) → WalksTo M P (q ∷ o) c → IsArc M P c x e
        → spell_pieces ((q ∷ o) ++ x ∷ []) ≡ made_whole d p i t j → p ≡ q → t ≡ x → LiesOver M P a b d
    on_many q o c x e w arc k f g =
        let h : spell_pieces ((q ∷ o) ++ x ∷ []) ≡ made_whole d q i x j =
        k ∙ ap (λ v. made_whole d v i t j) f ∙ ap (λ v. made_whole d q i v j) g in
        OnMany q i o c x j e w arc (begins_at q f) (stops_at x g)
        (cut_both (take i (spell q)) d (along_pieces q i o x j) (drop (j + 1) (spell x))
        (sym h ∙ cut_pieces M P laws a b q i o x j))

    over_walk : (w c : List Span) → WalksTo M P w c → spell_pieces w ≡ made_whole d p i t j → LiesOver M P a b d
    over_walk w c (Start q h e f) g =
        let k : spell_pieces (q ∷ []) ≡ made_whole d p i t j = ap spell_pieces (sym e) ∙ g in
        in_one q h k (first_of_walk _ p t bounded from.piece q [] h k)
        (last_of_walk _ p t bounded to.piece [] q h k)
    over_walk w c (Go [] y x v arc e) g = absurd (walk_some M P [] y v refl)
    over_walk w c (Go (q ∷ o) y x v arc e) g =
        let k : spell_pieces ((q ∷ o) ++ x ∷ []) ≡ made_whole d p i t j = ap spell_pieces (sym e) ∙ g in
        on_many q o y x c v arc k
        (first_of_walk _ p t bounded from.piece q (o ++ x ∷ []) (first_is_piece M P (q ∷ o) y v q o refl) k)
        (last_of_walk _ p t bounded to.piece (q ∷ o) x arc.by k)

    pub lies_between : LiesOver M P a b d
    lies_between =
        let w = laws.walked.onto (made_whole d p i t j) junction_drive in
        over_walk w.walk w.is.context w.is.walks w.spelled

  pub lies_over : (a b : NodeId) (d : List Step) → LeadsTo M P a b d → LiesOver M P a b d
  lies_over a b d l =
      let o = laws.one l.first (l.legal.drives [] l.first l.rest l.begins) in
      let u = laws.one l.last (l.legal.drives l.front l.last [] l.ends) in
      lies_between a b d l o.piece o.place o.stands u.piece u.place u.stands
