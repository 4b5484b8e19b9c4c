-- A context and its steps from the last one of its first piece on determine each other, and these steps decide what may
-- follow.
use Rattle.std.proofs.Common.{◌≡◌, ◌↔◌, List, [], ◌∷◌, ◌++◌, inl, inr, refl, sym, ap, ◌∙◌, subst, append_assoc}
use Rattle.std.proofs.Common.{append-nil, Option, Some, None, Contains, map}
use Rattle.std.specs.List.{cons_option, filter_map}
use Rattle.std.proofs.lemmas.List.Elements.{filter_map-append}
use Rattle.road_base.specs.declared.ids.Step.{Step}
use Rattle.road_base.specs.Objects.{Objects}
use Rattle.road_model.specs.declared.lists.PieceName.{PieceName}
use Rattle.road_model.specs.Rules.{Rules}
use Rattle.road_model.specs.Pieces.{Span, IsPiece, spell}
use Rattle.road_model.specs.Contexts.{Every, IsMany, One, Many}
use Rattle.road_model.specs.Network.{Drives, AnyWord, Legal, GoesOn, IsContext, spell_pieces}
use Rattle.road_model.specs.Blocks.{name_of}
use Rattle.road_model.specs.Turning.{HasTurnSteps, BeginsWord, EndsPiece}
use Rattle.ordered_lists.proofs.Splits.{cons_not_nil, same_last, Ends, Nil, Last, ends}
use Rattle.ordered_lists.proofs.ListMembers.{In, contains_from_in, in_left, in_right}
use Rattle.road_model.proofs.LongestContext.{Every-tail, many}
use Rattle.road_model.proofs.Shapes.{Mid, stretch, piece_shape, word_shape}
use Rattle.road_model.proofs.OnePiece.{one_piece}
use Rattle.road_model.proofs.WalkLists.{inner_legal, context_pieces, spell_pieces-push}
use Rattle.road_model.proofs.JoinedPieces.{one_junction}
use Rattle.road_model.proofs.PieceLaws.{before_whole}
use Rattle.road_model.proofs.StraightOn.{pieces_of, get_split, last_not_mid, same_stand, same_pieces, cancel}
use Rattle.road_model.proofs.WalkLaw.{ends_of}

-- what the steps and the first piece's steps before them spell
pub whole_spelling : (c : List Span) (q : List Step) (h : HasTurnSteps c q) → spell_pieces c ≡ h.front ++ q
whole_spelling c q h =
    ap spell_pieces h.is ∙ ap (λ v. v ++ spell_pieces h.others) h.ends
    ∙ append_assoc h.front (h.last ∷ []) (spell_pieces h.others)
    ∙ ap (λ v. h.front ++ v) (sym h.steps)

pub some_turn_steps : (c : List Span) (q : List Step) → HasTurnSteps c q → q ≡ [] → ⊥
some_turn_steps c q h e = let s = h.steps in cc (s, e)

module _ (M : Objects) (P : Rules) where
  pub single : (p : Span) → IsPiece M P p → (last : Step) × HasTurnSteps (p ∷ []) (last ∷ [])
  single p i = let r = ends_of M P p i (ends (spell p))
      in (r.1, record { first = p; others = []; is = refl; front = r.0; last = r.1; ends = r.2; steps = refl })

  -- they are legal with what is legal behind the pieces
  pub turn_legal : (c : List Span) (q v : List Step) → HasTurnSteps c q → Legal M P (spell_pieces c ++ v)
      → Legal M P (q ++ v)
  turn_legal c q v h l =
      inner_legal M P h.front (q ++ v) [] (λ e. let s = h.steps in cc (s, e))
      (subst (Legal M P) (ap (λ w. w ++ v) (whole_spelling c q h) ∙ append_assoc h.front q v
      ∙ ap (λ w. h.front ++ w) (sym (append-nil (q ++ v)))) l)

  of_many : (c : List Span) → IsMany spell (IsPiece M P) (Legal M P) (AnyWord M P) c
      → (q : List Step) × HasTurnSteps c q × BeginsWord M P q × Legal M P q
  of_many c m =
      let q : List Step = m.last ∷ spell_pieces (m.second ∷ m.others) in
      let h : HasTurnSteps c q = record {
        first = m.first;
        others = m.second
            ∷ m.others;
        is = m.is;
        front = m.front;
        last = m.last;
        ends = m.ends;
        steps = refl;
      } in (
        q,
        h,
        record { some = λ e. cc; next = m.next; more = m.rest; word = m.word },
        subst (Legal M P) (append-nil q) (turn_legal c q [] h
            (subst (Legal M P) (sym (append-nil (spell_pieces c))) m.legal)),
      )

  pub to_steps : (c : List Span) (a b : Span) (rest : List Span) → IsContext M P c → c ≡ a ∷ b ∷ rest
      → (q : List Step) × HasTurnSteps c q × BeginsWord M P q × Legal M P q
  to_steps c a b rest (One p e i) g = absurd (cc)
  to_steps c a b rest (Many m) g = of_many c m

  -- from steps to a context

  last_by : (p : Span) → IsPiece M P p → (a : List Step) (s : Step) (b rest : List Step) → spell p ≡ a ++ s ∷ b
      → AnyWord M P (s ∷ rest) → spell p ≡ a ++ s ∷ []
  last_by p i a s [] rest e w = e
  last_by p i a s (y ∷ b) rest e w =
      absurd ((word_shape M P w.relation w.only w.binding (s ∷ rest) w.word).starts s rest refl
      ((stretch M P p i).links a s y b e).mid)

  -- a drivable step that begins a word is the last one of its piece
  last_of_piece : (s : Step) (rest : List Step) → AnyWord M P (s ∷ rest) → Drives M P s
      → (p : Span) × IsPiece M P p × (a : List Step) × (spell p ≡ a ++ s ∷ [])
  last_of_piece s rest w h =
      let o = one_piece M P s h in
      let r = get_split M P (spell o.piece) o.place s o.stands.at in
      (o.piece, o.stands.piece, r.0, last_by o.piece o.stands.piece r.0 s r.1 rest r.2 w)

  -- of pieces that spell a piece and steps behind it, the first is that piece
  headed : (o : Span) → IsPiece M P o → (v : List Step) (d : List Span) → Every (IsPiece M P) d
      → spell_pieces d ≡ spell o ++ v → (rest : List Span) × (d ≡ o ∷ rest) × (spell_pieces rest ≡ v)
  headed o i v [] j e = let f = (piece_shape M P o i).is in absurd (cc (f, e))
  headed o i v (p ∷ d) j e =
      let f = piece_shape M P p j.0 in let g = piece_shape M P o i in
      let h : f.begin ≡ g.begin = let u = f.is in let w = g.is in cc (u, w, e) in
      let r = same_stand M P p o j.0 i [] f.begin f.others [] g.others f.is (g.is ∙ ap (λ x. x ∷ g.others) (sym h)) in (
        d,
        ap (λ x. x ∷ d) r.0,
        cancel M P (spell o) (spell_pieces d) v
            (ap (λ x. spell x ++ spell_pieces d) (sym r.0) ∙ e),
      )

  -- pieces that stop with the last step of a piece have this piece last
  lasting : (p : Span) → IsPiece M P p → (front : List Step) (t : Step) → spell p ≡ front ++ t ∷ [] → (d : List Span)
      → Every (IsPiece M P) d → (u : List Step) → spell_pieces d ≡ u ++ t ∷ [] → Ends d
      → (b : List Span) × (d ≡ b ++ p ∷ [])
  lasting p i front t f d j u e (Nil n) = absurd (cons_not_nil u t [] (sym e ∙ ap spell_pieces n))
  lasting p i front t f d j u e (Last b z n) =
      let iz = (Every-tail (IsPiece M P) b (z ∷ []) (subst (Every (IsPiece M P)) n j)).0 in
      let y = ends_of M P z iz (ends (spell z)) in
      let whole : (spell_pieces b ++ y.0) ++ y.1 ∷ [] ≡ u ++ t ∷ [] =
      append_assoc (spell_pieces b) y.0 (y.1 ∷ []) ∙ ap (λ v. spell_pieces b ++ v) (sym y.2)
      ∙ sym (spell_pieces-push b z) ∙ ap spell_pieces (sym n) ∙ e in
      let s = same_last (spell_pieces b ++ y.0) y.1 u t whole in
      let r = same_stand M P z p iz i y.0 t [] front [] (y.2 ∙ ap (λ v. y.0 ++ v ∷ []) s.last) f in
      (b, n ∙ ap (λ v. b ++ v ∷ []) r.0)

  onward : (o : Span) → IsPiece M P o → (a : List Step) (s : Step) (v : List Step) → spell o ≡ a ++ s ∷ []
      → Legal M P (s ∷ v) → Legal M P (spell o ++ v)
  onward o i a s v f l = subst (Legal M P) (sym (append_assoc a (s ∷ []) v) ∙ ap (λ x. x ++ v) (sym f))
      (before_whole M P o a s [] v i f l)

  -- the pieces from one to another
  record Between (o : Span) (v : List Step) (p : Span) : Type 0 where
    list : List Span
    pieces : Every (IsPiece M P) (o ∷ (list ++ p ∷ []))
    spelled : spell_pieces (list ++ p ∷ []) ≡ v

  between_of : (o : Span) (v : List Step) (p : Span) (d rest b : List Span) → Every (IsPiece M P) d → d ≡ o ∷ rest
      → spell_pieces rest ≡ v → rest ≡ b ++ p ∷ [] → Between o v p
  between_of o v p d rest b i e f g = record {
    list = b;
    pieces = subst (Every (IsPiece M P)) (e ∙ ap (λ x. o ∷ x) g) i;
    spelled = ap spell_pieces (sym g)
        ∙ f;
  }

  between : (o : Span) → IsPiece M P o → (v : List Step) → Legal M P (spell o ++ v) → (p : Span) → IsPiece M P p
      → (front : List Step) (t : Step) → spell p ≡ front ++ t ∷ [] → (u : List Step) → v ≡ u ++ t ∷ [] → Between o v p
  between o i v l p j front t f u e =
      let g = piece_shape M P o i in
      let stops : spell o ++ v ≡ (spell o ++ u) ++ t ∷ [] = ap (λ x. spell o ++ x) e
      ∙ sym (append_assoc (spell o) u (t ∷ [])) in
      let r = pieces_of M P (spell o ++ v) o i g.begin g.others (g.others ++ v) g.is (ap (λ x. x ++ v) g.is) l p j front
      t f (spell o ++ u) stops in
      let h = headed o i v r.list r.pieces r.spelled in
      let k = lasting p j front t f h.0 ((subst (Every (IsPiece M P)) h.1 r.pieces).1) u (h.2 ∙ e) (ends h.0) in
      between_of o v p r.list h.0 k.0 r.pieces h.1 h.2 k.1

  -- the steps from s on, with the piece that s ends
  context_from : (q : List Step) (s : Step) (v : List Step) (o : Span) (a : List Step) (p : Span) → BeginsWord M P q
      → q ≡ s ∷ v → spell o ≡ a ++ s ∷ [] → Legal M P (spell o ++ v) → (b : Between o v p)
      → HasTurnSteps (o ∷ (b.list ++ p ∷ [])) q × IsContext M P (o ∷ (b.list ++ p ∷ []))
  context_from q s v o a p w e f l b =
      let steps : q ≡ s ∷ spell_pieces (b.list ++ p ∷ []) = e ∙ ap (λ x. s ∷ x) (sym b.spelled) in (
        record { first = o; others = b.list ++ p ∷ []; is = refl; front = a; last = s; ends = f; steps = steps },
        many spell (IsPiece M P) (Legal M P) (AnyWord M P) o b.list p [] b.pieces
            (subst (λ x. Legal M P (spell o ++ x)) (sym b.spelled) l) a s f w.next w.more
            (subst (λ x. AnyWord M P (x ++ w.next ∷ w.more)) steps w.word),
      )

  pub from_steps : (q : List Step) (s : Step) (u : List Step) (t : Step) (p : Span) (front : List Step) → Legal M P q
      → BeginsWord M P q → q ≡ s ∷ (u ++ t ∷ []) → IsPiece M P p → spell p ≡ front ++ t ∷ []
      → (before : List Span) × (before ≡ [] → ⊥) × HasTurnSteps (before ++ p ∷ []) q × IsContext M P (before ++ p ∷ [])
  from_steps q s u t p front l w e i f =
      let o = last_of_piece s ((u ++ t ∷ []) ++ w.next ∷ w.more)
      (subst (λ x. AnyWord M P (x ++ w.next ∷ w.more)) e w.word) (l.drives [] s (u ++ t ∷ []) e) in
      let legal = onward o.0 o.1 o.2 s (u ++ t ∷ []) o.3 (subst (Legal M P) e l) in
      let b = between o.0 o.1 (u ++ t ∷ []) legal p i front t f u refl in
      let c = context_from q s (u ++ t ∷ []) o.0 o.2 p w e o.3 legal b in
      (o.0 ∷ b.list, cons_not_nil [] o.0 b.list, c.0, c.1)

  pub one_list : (c d : List Span) (q : List Step) → Every (IsPiece M P) c → Every (IsPiece M P) d → HasTurnSteps c q
      → HasTurnSteps d q → c ≡ d
  one_list c d q i j h k =
      let u = h.steps in let w = k.steps in
      let l : h.last ≡ k.last = cc (u, w) in
      let o : spell_pieces h.others ≡ spell_pieces k.others = cc (u, w) in
      let x = subst (Every (IsPiece M P)) h.is i in let y = subst (Every (IsPiece M P)) k.is j in
      let p = same_stand M P h.first k.first x.0 y.0 h.front h.last [] k.front [] h.ends
      (k.ends ∙ ap (λ v. k.front ++ v ∷ []) (sym l)) in
      let r = same_pieces M P h.others k.others x.1 y.1 o in
      h.is ∙ (λ z. p.0 z ∷ r z) ∙ sym k.is

  -- the names of the pieces that steps end

  no_name : (o : Option PieceName) → ((n : PieceName) → o ≡ Some n → ⊥) → o ≡ None
  no_name None h = refl
  no_name (Some n) h = absurd (h n refl)

  before_last : (p : Span) → IsPiece M P p → (a : List Step) (x : Step) (b : List Step) (t : Step)
      → spell p ≡ a ++ x ∷ (b ++ t ∷ []) → Mid M P x
  before_last p i a x [] t e = ((stretch M P p i).links a x t [] e).mid
  before_last p i a x (y ∷ b) t e = ((stretch M P p i).links a x y (b ++ t ∷ []) e).mid

  module _ (f : Step → Option PieceName) where
    -- f gives the name of the piece that the step ends, if it ends one
    abbrev Named : Step → Type 0
    Named s = (n : PieceName) → (f s ≡ Some n) ↔ EndsPiece M P s n

    last_name : (p : Span) → IsPiece M P p → (a : List Step) (t : Step) → spell p ≡ a ++ t ∷ [] → Named t
        → f t ≡ Some (name_of p)
    last_name p i a t e h = (h (name_of p)).1 (record { piece = p; is = i; named = refl; front = a; ends = e })

    inner_names : (p : Span) → IsPiece M P p → (a b : List Step) (t : Step) → spell p ≡ a ++ (b ++ t ∷ [])
        → ((s : Step) → In s (b ++ t ∷ []) → Named s) → filter_map f (b ++ t ∷ []) ≡ name_of p ∷ []
    inner_names p i a [] t e h = ap (λ o. cons_option o []) (last_name p i a t e (h t (inl refl)))
    inner_names p i a (x ∷ b) t e h =
        let none : f x ≡ None = no_name (f x) (λ n g. let k = (h x (inl refl) n).0 g in last_not_mid M P k.piece k.is
        k.front x k.ends (before_last p i a x b t e)) in
        ap (λ o. cons_option o (filter_map f (b ++ t ∷ []))) none
        ∙ inner_names p i (a ++ x ∷ []) b t (e ∙ sym (append_assoc a (x ∷ []) (b ++ t ∷ []))) (λ s j. h s (inr j))

    piece_names : (p : Span) → IsPiece M P p → ((s : Step) → In s (spell p) → Named s)
        → filter_map f (spell p) ≡ name_of p ∷ []
    piece_names p i h =
        let r = ends_of M P p i (ends (spell p)) in
        ap (filter_map f) r.2 ∙ inner_names p i [] r.0 r.1 r.2 (λ s j. h s (subst (In s) (sym r.2) j))

    list_names : (d : List Span) → Every (IsPiece M P) d → ((s : Step) → In s (spell_pieces d) → Named s)
        → filter_map f (spell_pieces d) ≡ map name_of d
    list_names [] i h = refl
    list_names (p ∷ d) i h =
        let x = piece_names p i.0 (λ s j. h s (in_left (spell p) (spell_pieces d) s j)) in
        let y = list_names d i.1 (λ s j. h s (in_right (spell p) (spell_pieces d) s j)) in
        filter_map-append f (spell p) (spell_pieces d) ∙ (λ z. x z ++ y z)

    pub names : (c : List Span) (q : List Step) → Every (IsPiece M P) c → HasTurnSteps c q
        → ((s : Step) (n : PieceName) → Contains q s → (f s ≡ Some n) ↔ EndsPiece M P s n)
        → filter_map f q ≡ map name_of c
    names c q i h k =
        let x = subst (Every (IsPiece M P)) h.is i in
        let named = λ (s : Step) (j : In s (h.last ∷ spell_pieces h.others)) (n : PieceName). k s n
        (contains_from_in q s (subst (In s) (sym h.steps) j)) in
        let first = last_name h.first x.0 h.front h.last h.ends (named h.last (inl refl)) in
        let rest = list_names h.others x.1 (λ s j. named s (inr j)) in
        ap (filter_map f) h.steps ∙ (λ z. cons_option (first z) (rest z)) ∙ ap (map name_of) (sym h.is)

  -- what may follow

  pub goes_on_behind : (c : List Span) (q : List Step) (t : Span) (x : Step) (more : List Step) → IsContext M P c
      → HasTurnSteps c q → Legal M P q → IsPiece M P t → spell t ≡ x ∷ more
      → Legal M P (spell_pieces c ++ spell t) ↔ GoesOn M P q x
  goes_on_behind c q t x more k h l i e =
      let j = subst (Every (IsPiece M P)) h.is (context_pieces M P c k) in
      let decides = one_junction M P q t x more (some_turn_steps c q h) l i e in
      let steps : q ++ spell t ≡ h.last ∷ (spell_pieces h.others ++ spell t) = ap (λ v. v ++ spell t) h.steps in (
        (λ a. decides.0 (turn_legal c q (spell t) h a)),
        (λ g. subst (Legal M P) (ap (λ v. h.front ++ v) (sym steps) ∙ sym (append_assoc h.front q (spell t))
            ∙ ap (λ v. v ++ spell t) (sym (whole_spelling c q h)))
            (before_whole M P h.first h.front h.last [] (spell_pieces h.others ++ spell t) j.0 h.ends
            (subst (Legal M P) steps (decides.1 g)))),
      )
