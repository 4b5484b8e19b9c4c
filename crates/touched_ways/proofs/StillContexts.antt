-- The contexts of quiet ways' pieces are the same in both object maps, and so is what is legal behind such pieces.
use Rattle.std.proofs.Common.{◌≡◌, List, [], ◌∷◌, ◌++◌, inl, inr, refl, sym, ap, ◌∙◌, subst, arith, true, false}
use Rattle.std.proofs.Common.{append_assoc}
use Rattle.road_base.specs.declared.ids.Step.{Step}
use Rattle.road_base.specs.declared.ids.Key.TheVariants.{Way as WayKey}
use Rattle.road_base.specs.Objects.{Objects}
use Rattle.road_model.specs.Rules.{Rules}
use Rattle.road_model.specs.Driving.{Passes}
use Rattle.road_model.specs.Pieces.{Span, IsPiece, spell}
use Rattle.road_model.specs.Contexts.{Every, IsMany, One, Many}
use Rattle.road_model.specs.Legal.{MustBy}
use Rattle.road_model.specs.Links.{HasMember}
use Rattle.road_model.specs.Network.{Drives, NoWord, OnlyWord, AnyWord, Legal, IsContext, spell_pieces}
use Rattle.ordered_lists.proofs.ListMembers.{In, in_end, in_left, in_right, in_cases, contains_from_in}
use Rattle.ordered_lists.proofs.Splits.{Cut, Behind, Before, cut}
use Rattle.road_model.proofs.Shapes.{bound_positive}
use Rattle.road_model.proofs.LongestContext.{Every-front}
use Rattle.road_model.proofs.WalkLists.{piece_legal, spell_pieces-push}
use Rattle.road_model.proofs.WordMembers.{on_members}
use Rattle.road_model.proofs.LocalLinks.{IsAlike, alike_turned}
use Rattle.road_model.proofs.LocalPieces.{NeedsHighway, piece_kept}
use Rattle.road_model.proofs.LocalWords.{word_kept}
use Rattle.touched_ways.specs.Altering.{AreNamedTogether}
use Rattle.road_model.proofs.LocalContexts.{spelled_way, steps_of, every_in, every_map, only_one}
use Rattle.road_model.proofs.LocalContexts.{the_word, shared}
use Rattle.touched_ways.proofs.StillWays.{IsQuiet, IsSettled}
use Rattle.touched_ways.proofs.StillTurns.{pass_kept}

-- ---- the steps of pieces

-- where a step stands
place_of : (d : List Step) (s : Step) → In s d → (a : List Step) × (b : List Step) × (d ≡ a ++ s ∷ b)
place_of [] s i = absurd i
place_of (x ∷ d) s (inl e) = ([], d, ap (λ z. z ∷ d) (sym e))
place_of (x ∷ d) s (inr i) = let r = place_of d s i in (x ∷ r.0, r.1, ap (λ l. x ∷ l) r.2)

-- the first of two or more pieces is not the last one
first_in : (c : List Span) (t first second : Span) (others : List Span) → c ++ t ∷ [] ≡ first ∷ second ∷ others
    → In first c
first_in [] t first second others e = cc
first_in (x ∷ c) t first second others e = let same : first ≡ x = cc (e) in inl same

behind_none : (k b : List Span) → [] ≡ k ++ b → b ≡ []
behind_none [] b e = sym e
behind_none (x ∷ k) b e = cc

-- a context has a piece
some_context : (M : Objects) (P : Rules) (b : List Span) → IsContext M P b → b ≡ [] → ⊥
some_context M P b (One q e h) none = cc
some_context M P b (Many m) none = let e = m.is in cc

-- ---- a legal list of steps of quiet ways, with a piece behind it

-- what an Only word demands that begins with a step of a way of which all within two links is the same
must_kept : (M N : Objects) (P : Rules) (s : Step) (r : List Step) (x : Step) → IsAlike M N 2 (WayKey s.way)
    → MustBy (OnlyWord M P) (s ∷ r) x → MustBy (OnlyWord N P) (s ∷ r) x
must_kept M N P s r x al m = record {
  binding = m.binding;
  rest = m.rest;
  bound = m.bound;
  word = record {
    relation = m.word.relation;
    word = word_kept M N P m.word.relation true m.binding _ m.word.word s (inl refl) al;
  };
}

module _ (M N : Objects) (P : Rules) (needs : NeedsHighway P) (d : List Step) (t : Span)
    (quiet : (s : Step) → In s d → IsQuiet M N P s.way) (drives : (s : Step) → In s d → Drives N P s)
    (was : IsPiece M P t) (is : IsPiece N P t) (l : Legal M P (d ++ spell t)) where
  drives_at : (a : List Step) (s : Step) (b : List Step) → Cut d (spell t) a (s ∷ b) → Drives N P s
  drives_at a s b (Behind c e f) = (piece_legal N P t is).drives c s b f
  drives_at a s b (Before x c e f) =
      let same : x ≡ s = cc (f) in subst (Drives N P) same (drives x (subst (In x) (sym e) (in_end a x c)))

  drives_in : (a : List Step) (s : Step) (b : List Step) → d ++ spell t ≡ a ++ s ∷ b → Drives N P s
  drives_in a s b e = drives_at a s b (cut d (spell t) a (s ∷ b) e)

  -- the second of two neighbours drives where the first does
  follows_at : (a : List Step) (s y : Step) (b : List Step) → d ++ spell t ≡ a ++ s ∷ y ∷ b
      → Drives M P y → Drives N P y → Cut d (spell t) a (s ∷ y ∷ b) → Passes N P s y
  follows_at a s y b whole before after (Behind c e f) = (piece_legal N P t is).follows c s y b f
  follows_at a s y b whole before after (Before x c e f) =
      let same : x ≡ s = cc (f) in
      let q : IsQuiet M N P s.way =
      subst (λ z. IsQuiet M N P z.way) same (quiet x (subst (In x) (sym e) (in_end a x c))) in
      pass_kept M N P needs s y q (l.drives a s (y ∷ b) whole) before after (l.follows a s y b whole)

  -- a word that begins in the list has a step of a quiet way
  begins_alike : (a : List Step) (x s : Step) (c : List Step) → d ≡ a ++ x ∷ c → x ≡ s → IsAlike M N 2 (WayKey s.way)
  begins_alike a x s c e same = subst (λ z. IsAlike M N 2 (WayKey z.way)) same
      (quiet x (subst (In x) (sym e) (in_end a x c))).alike

  no_at : (a : List Step) (s : Step) (u b : List Step) → d ++ spell t ≡ a ++ ((s ∷ u) ++ b)
      → Cut d (spell t) a ((s ∷ u) ++ b) → NoWord N P (s ∷ u) → ⊥
  no_at a s u b whole (Behind c e f) w = (piece_legal N P t is).no c (s ∷ u) b f w
  no_at a s u b whole (Before x c e f) w =
      let same : x ≡ s = cc (f) in
      let al = alike_turned M N 2 (WayKey s.way) (begins_alike a x s c e same) in
      l.no a (s ∷ u) b whole (record {
        relation = w.relation;
        binding = w.binding;
        word = word_kept N M P w.relation false w.binding (s ∷ u) w.word s (inl refl) al;
      })

  no_in : (a u b : List Step) → d ++ spell t ≡ a ++ (u ++ b) → NoWord N P u → ⊥
  no_in a [] b e w = let f = w.word.spelled in cc (f)
  no_in a (s ∷ u) b e w = no_at a s u b e (cut d (spell t) a ((s ∷ u) ++ b) e) w

  must_at : (a : List Step) (s : Step) (r : List Step) (y : Step) (b : List Step)
      → d ++ spell t ≡ a ++ ((s ∷ r) ++ y ∷ b) → Cut d (spell t) a ((s ∷ r) ++ y ∷ b) → (x : Step)
      → MustBy (OnlyWord N P) (s ∷ r) x → MustBy (OnlyWord N P) (s ∷ r) y
  must_at a s r y b whole (Behind c e f) x m = (piece_legal N P t is).only c (s ∷ r) y b f x m
  must_at a s r y b whole (Before z c e f) x m =
      let same : z ≡ s = cc (f) in
      let al = begins_alike a z s c e same in
      must_kept M N P s r y al
      (l.only a (s ∷ r) y b whole x (must_kept N M P s r x (alike_turned M N 2 (WayKey s.way) al) m))

  must_in : (a r : List Step) (y : Step) (b : List Step) → d ++ spell t ≡ a ++ (r ++ y ∷ b) → (x : Step)
      → MustBy (OnlyWord N P) r x → MustBy (OnlyWord N P) r y
  must_in a [] y b e x m =
      let o = bound_positive N P m.binding _ m.word in let g = m.bound in absurd (omega arith)
  must_in a (s ∷ r) y b e x m = must_at a s r y b e (cut d (spell t) a ((s ∷ r) ++ y ∷ b) e) x m

  pub behind_kept : Legal N P (d ++ spell t)
  behind_kept = record {
    not_empty = l.not_empty;
    drives = drives_in;
    follows = λ a s y b e.
        let whole = e ∙ sym (append_assoc a (s ∷ []) (y ∷ b)) in
        follows_at a s y b e (l.drives (a ++ s ∷ []) y b whole) (drives_in (a ++ s ∷ []) y b whole)
        (cut d (spell t) a (s ∷ y ∷ b) e);
    no = no_in;
    only = must_in;
  }

-- ---- contexts

-- the way of each piece is quiet
abbrev pub AreQuiet : Objects → Objects → Rules → List Span → Type 0
AreQuiet M N P c = (q : Span) → In q c → IsQuiet M N P q.way

module _ (M N : Objects) (P : Rules) (needs : NeedsHighway P) where
  pub quiet_piece : (q : Span) → IsQuiet M N P q.way → IsPiece M P q → IsPiece N P q
  quiet_piece q quiet h = piece_kept M N P needs q quiet.alike h

  -- a legal list of pieces of quiet ways, and a piece behind it
  pub pieces_behind : (c : List Span) (t : Span) → AreQuiet M N P c → Every (IsPiece M P) c → IsPiece M P t
      → IsPiece N P t → Legal M P (spell_pieces c ++ spell t) → Legal N P (spell_pieces c ++ spell t)
  pieces_behind c t quiet pieces was is l = behind_kept M N P needs (spell_pieces c) t
      (λ s i. let p = steps_of c s i in
      subst (IsQuiet M N P) (sym (spelled_way p.0 s p.2)) (quiet p.0 p.1))
      (λ s i. let p = steps_of c s i in
      let is_piece = quiet_piece p.0 (quiet p.0 p.1) (every_in (IsPiece M P) c p.0 pieces p.1) in
      let at = place_of (spell p.0) s p.2 in
      (piece_legal N P p.0 is_piece).drives at.0 s at.1 at.2)
      was is l

  -- a context of which all pieces but the last, which is one in both object maps, lie on quiet ways
  module _ (c : List Span) (t : Span) (quiet : AreQuiet M N P c) (was : IsPiece M P t) (is : IsPiece N P t) where
    many_kept : IsMany spell (IsPiece M P) (Legal M P) (AnyWord M P) (c ++ t ∷ [])
        → IsMany spell (IsPiece N P) (Legal N P) (AnyWord N P) (c ++ t ∷ [])
    many_kept m =
        let first : In m.first c = first_in c t m.first m.second m.others m.is in
        let way : m.last.way ≡ m.first.way =
        spelled_way m.first m.last (subst (In m.last) (sym m.ends) (in_end m.front m.last [])) in
        let al : IsAlike M N 2 (WayKey m.last.way) =
        subst (λ w. IsAlike M N 2 (WayKey w)) (sym way) (quiet m.first first).alike in
        let whole = spell_pieces-push c t in
        record {
          first = m.first;
          second = m.second;
          others = m.others;
          is = m.is;
          pieces = every_map (IsPiece M P) (IsPiece N P) (c ++ t ∷ []) (λ q i h. elim (in_cases c (t ∷ []) q i) [
            | inl j ↦ quiet_piece q (quiet q j) h
            | inr j ↦ subst (IsPiece N P) (sym (only_one q t j)) is
          ]) m.pieces;
          legal = subst (Legal N P) (sym whole) (pieces_behind c t quiet
              (Every-front (IsPiece M P) c (t ∷ []) m.pieces) was is (subst (Legal M P) whole m.legal));
          front = m.front;
          last = m.last;
          ends = m.ends;
          next = m.next;
          rest = m.rest;
          word = record {
            relation = m.word.relation;
            only = m.word.only;
            binding = m.word.binding;
            word = word_kept M N P m.word.relation m.word.only m.word.binding _ m.word.word m.last (inl refl) al;
          };
        }

    pub context_pushed : IsContext M P (c ++ t ∷ []) → IsContext N P (c ++ t ∷ [])
    context_pushed (One q e h) =
        let same : q ≡ t = sym (only_one t q (subst (In t) e (in_end c t []))) in
        One q e (subst (IsPiece N P) (sym same) is)
    context_pushed (Many m) = Many (many_kept m)

  -- a context that ends such pieces
  module _ (c : List Span) (t : Span) (quiet : AreQuiet M N P c) (was : IsPiece M P t) (is : IsPiece N P t) where
    end_alone : (k b : List Span) → t ∷ [] ≡ k ++ b → IsContext M P b → IsContext N P b
    end_alone [] b e h = One t (sym e) is
    end_alone (x ∷ k) b e h = absurd (some_context M P b h (behind_none k b (cc (e))))

    end_at : (a b : List Span) → Cut c (t ∷ []) a b → IsContext M P b → IsContext N P b
    end_at a b (Behind k e f) h = end_alone k b f h
    end_at a b (Before x k e f) h = subst (IsContext N P) (sym f)
        (context_pushed (x ∷ k) t (λ q i. quiet q (subst (In q) (sym e) (in_right a (x ∷ k) q i))) was is
        (subst (IsContext M P) f h))

    pub end_kept : (a b : List Span) → c ++ t ∷ [] ≡ a ++ b → IsContext M P b → IsContext N P b
    end_kept a b e = end_at a b (cut c (t ∷ []) a b e)

-- ---- the pieces before the last one of a context lie on ways that a restriction names beside the last one's

module _ (M : Objects) (P : Rules) where
  module _ (c : List Span) (m : IsMany spell (IsPiece M P) (Legal M P) (AnyWord M P) c) where
    member : (p : Span) → In p c → HasMember M m.word.relation (WayKey p.way)
    member p i =
        let s = shared M P c m p i in
        subst (λ w. HasMember M m.word.relation (WayKey w)) s.1
        (on_members M P m.word.relation m.word.only m.word.binding (the_word M P c m) m.word.word s.0
        (contains_from_in (the_word M P c m) s.0 s.2))

  pub before_named : (before : List Span) (p q : Span) → In q before → IsContext M P (before ++ p ∷ [])
      → AreNamedTogether M p.way q.way
  before_named (x ∷ []) p q i (One r e h) = cc
  before_named (x ∷ y ∷ before) p q i (One r e h) = cc
  before_named before p q i (Many m) = (
    m.word.relation,
    member (before ++ p ∷ []) m p (in_end before p []),
    member (before ++ p ∷ []) m q (in_left before (p ∷ []) q i),
  )
  before_named [] p q i (One r e h) = absurd i

module _ (M N : Objects) (P : Rules) (needs : NeedsHighway P) where
  pub before_quiet : (before : List Span) (p : Span) → IsSettled M N P p.way → IsContext M P (before ++ p ∷ [])
      → AreQuiet M N P before
  before_quiet before p s c q i = s.beside q.way (before_named M P before p q i c)

  -- contexts as a block has them
  pub context_kept : (before : List Span) (p : Span) → IsSettled M N P p.way → IsPiece M P p
      → IsContext M P (before ++ p ∷ []) → IsContext N P (before ++ p ∷ [])
  context_kept before p s h c = context_pushed M N P needs before p (before_quiet before p s c) h
      (quiet_piece M N P needs p s.own h) c
