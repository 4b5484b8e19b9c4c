-- The contexts of a way's pieces, and their arcs, are the same where all within the forward radius of the way is.
use Rattle.std.proofs.Common.{◌≡◌, ◌↔◌, ◌-◌, List, [], ◌∷◌, ◌++◌, inl, inr, refl, sym, ap, ◌∙◌, subst, append_assoc}
use Rattle.road_base.specs.declared.ids.WayId.{WayId}
use Rattle.road_base.specs.declared.ids.Step.{Step}
use Rattle.road_base.specs.declared.ids.Key.TheVariants.{Node as NodeKey, Way as WayKey}
use Rattle.road_base.specs.Objects.{Objects}
use Rattle.road_model.specs.Rules.{Rules}
use Rattle.road_model.specs.Lines.{head_position}
use Rattle.road_model.specs.Driving.{Passes}
use Rattle.road_model.specs.Pieces.{Span, IsPiece, spell}
use Rattle.road_model.specs.Contexts.{Every, IsMany, One, Many, spell_all}
use Rattle.road_model.specs.Network.{Drives, AnyWord, Legal, IsContext, IsContextOf, IsArc, spell_pieces}
use Rattle.road_model.specs.Links.{IsWithin}
use Rattle.road_model.specs.Local.{IsSameWithin, forward_radius}
use Rattle.ordered_lists.proofs.ListMembers.{In, in_end, in_left, in_right, in_cases}
use Rattle.ordered_lists.proofs.Splits.{Ends, Nil, Last, ends}
use Rattle.road_model.proofs.LongestContext.{Every-tail}
use Rattle.road_model.proofs.Shapes.{piece_shape}
use Rattle.road_model.proofs.WalkLists.{spell_pieces-push, context_pieces}
use Rattle.road_model.proofs.WordMembers.{on_way}
use Rattle.road_model.proofs.StepEnds.{end_named}
use Rattle.road_model.proofs.StraightOn.{road_of}
use Rattle.road_model.proofs.ReferredNodes.{road_refers, step_refers}
use Rattle.road_model.proofs.LocalLinks.{IsAlike, alike_from, alike_turned, alike_less, alike_near}
use Rattle.road_model.proofs.LocalPieces.{NeedsHighway, piece_kept}
use Rattle.road_model.proofs.LocalWords.{linked, word_kept}
use Rattle.road_model.proofs.LocalDrives.{AllAlike, two_of_three, legal_kept}

-- ---- the steps of pieces

pub spelled_way : (p : Span) (s : Step) → In s (spell p) → s.way ≡ p.way
spelled_way p s i = on_way p.way p.index (p.end - p.index) p.dir s i

pub steps_of : (c : List Span) (s : Step) → In s (spell_pieces c) → (p : Span) × In p c × In s (spell p)
steps_of [] s i = absurd i
steps_of (p ∷ c) s i = elim (in_cases (spell p) (spell_pieces c) s i) [
  | inl a ↦ (p, inl refl, a)
  | inr b ↦ let r = steps_of c s b in (r.0, inr r.1, r.2)
]

pub of_piece : (c : List Span) (p : Span) → In p c → (s : Step) → In s (spell p) → In s (spell_pieces c)
of_piece [] p i s j = absurd i
of_piece (q ∷ c) p (inl e) s j = in_left (spell q) (spell_pieces c) s (subst (λ x. In s (spell x)) e j)
of_piece (q ∷ c) p (inr i) s j = in_right (spell q) (spell_pieces c) s (of_piece c p i s j)

pub every_in : (Q : Span → Type 0) (c : List Span) (p : Span) → Every Q c → In p c → Q p
every_in Q [] p h i = absurd i
every_in Q (q ∷ c) p h (inl e) = subst Q (sym e) h.0
every_in Q (q ∷ c) p h (inr i) = every_in Q c p h.1 i

pub every_map : (Q R : Span → Type 0) (c : List Span) → ((p : Span) → In p c → Q p → R p) → Every Q c → Every R c
every_map Q R [] f h = tt
every_map Q R (q ∷ c) f h = (f q (inl refl) h.0, every_map Q R c (λ p i. f p (inr i)) h.1)

-- ---- the ways of a context lie within two links of each other

module _ (M : Objects) (P : Rules) where
  pub first_step : (p : Span) → IsPiece M P p → (s : Step) × In s (spell p)
  first_step p h = let f = piece_shape M P p h in (f.begin, subst (In f.begin) (sym f.is) (inl refl))

  module _ (c : List Span) (m : IsMany spell (IsPiece M P) (Legal M P) (AnyWord M P) c) where
    abbrev pub the_word : List Step
    the_word = m.last ∷ (spell_all spell (m.second ∷ m.others) ++ m.next ∷ m.rest)

    -- a piece of the context has a step of its word
    pub shared : (p : Span) → In p c → (s : Step) × (s.way ≡ p.way) × In s the_word
    shared p i = elim (subst (In p) m.is i) [
      | inl e ↦ (
        m.last,
        spelled_way m.first m.last (subst (In m.last) (sym m.ends) (in_end m.front m.last []))
            ∙ ap (λ q. q.way) (sym e),
        inl refl,
      )
      | inr j ↦
          let f = first_step p (every_in (IsPiece M P) c p m.pieces i) in (
            f.0,
            spelled_way p f.0 f.1,
            inr (in_left (spell_all spell (m.second ∷ m.others)) (m.next ∷ m.rest) f.0
                (of_piece (m.second ∷ m.others) p j f.0 f.1)),
          )
    ]

    together : (p q : Span) → In p c → In q c → IsWithin M 2 (WayKey p.way) (WayKey q.way)
    together p q i j =
        let s = shared p i in let t = shared q j in
        subst (λ w. IsWithin M 2 (WayKey w) (WayKey q.way)) s.1
        (subst (λ w. IsWithin M 2 (WayKey s.0.way) (WayKey w)) t.1
        (linked M P m.word.relation m.word.only m.word.binding the_word m.word.word s.0 t.0 s.2 t.2))

-- ---- what is near a way that is within two links

-- what is within the forward radius of the way has the same visible body in both
abbrev pub IsAlikeAround : Objects → Objects → WayId → Type 0
IsAlikeAround M N w = IsAlike M N forward_radius (WayKey w)

pub around_turned : (M N : Objects) (w : WayId) → IsAlikeAround M N w → IsAlikeAround N M w
around_turned M N w al = alike_turned M N forward_radius (WayKey w) al

three_of_radius : (M N : Objects) (w : WayId) → IsAlikeAround M N w → IsAlike M N 3 (WayKey w)
three_of_radius M N w al = alike_less M N 3 3 (WayKey w) al

two_links_on : (M N : Objects) (w v : WayId) → IsAlikeAround M N w → IsWithin M 2 (WayKey w) (WayKey v)
    → IsAlike M N 3 (WayKey v)
two_links_on M N w v al h = alike_less M N 3 1 (WayKey v) (alike_near M N 2 4 (WayKey w) (WayKey v) al h)

-- all within three links of each piece's way is the same
abbrev pub PiecesAlike : Objects → Objects → List Span → Type 0
PiecesAlike M N c = (q : Span) → In q c → IsAlike M N 3 (WayKey q.way)

pieces_turned : (M N : Objects) (c : List Span) → PiecesAlike M N c → PiecesAlike N M c
pieces_turned M N c near q i = alike_turned M N 3 (WayKey q.way) (near q i)

pieces_end : (M N : Objects) (d a b : List Span) → d ≡ a ++ b → PiecesAlike M N d → PiecesAlike M N b
pieces_end M N d a b e near q i = near q (subst (In q) (sym e) (in_right a b q i))

pub only_one : (p q : Span) → In p (q ∷ []) → p ≡ q
only_one p q (inl e) = e
only_one p q (inr i) = absurd i

context_near : (M N : Objects) (P : Rules) (c : List Span) (p : Span) → In p c → IsAlikeAround M N p.way
    → IsContext M P c → PiecesAlike M N c
context_near M N P c p i al (One r e h) q j =
    let f : p ≡ r = only_one p r (subst (In p) e i) in
    let g : q ≡ r = only_one q r (subst (In q) e j) in
    subst (λ x. IsAlike M N 3 (WayKey x.way)) (f ∙ sym g) (three_of_radius M N p.way al)
context_near M N P c p i al (Many m) q j = two_links_on M N p.way q.way al (together M P c m p q i j)

-- ---- contexts

module _ (M N : Objects) (P : Rules) (needs : NeedsHighway P) where
  spelled_alike : (c : List Span) → PiecesAlike M N c → AllAlike M N (spell_pieces c)
  spelled_alike c near s j = let q = steps_of c s j in
      subst (λ w. IsAlike M N 3 (WayKey w)) (sym (spelled_way q.0 s q.2)) (near q.0 q.1)

  many_alike : (c : List Span) → PiecesAlike M N c → IsMany spell (IsPiece M P) (Legal M P) (AnyWord M P) c
      → IsMany spell (IsPiece N P) (Legal N P) (AnyWord N P) c
  many_alike c near m =
      let first : In m.first c = subst (In m.first) (sym m.is) (inl refl) in
      let way : m.last.way ≡ m.first.way = spelled_way m.first m.last
      (subst (In m.last) (sym m.ends) (in_end m.front m.last [])) in
      let al : IsAlike M N 2 (WayKey m.last.way) = subst (λ w. IsAlike M N 2 (WayKey w)) (sym way)
      (two_of_three M N m.first.way (near m.first first)) in
      record {
        first = m.first;
        second = m.second;
        others = m.others;
        is = m.is;
        pieces = every_map (IsPiece M P) (IsPiece N P) c
            (λ q j h. piece_kept M N P needs q (two_of_three M N q.way (near q j)) h) m.pieces;
        legal = legal_kept M N P needs (spell_pieces c) (spelled_alike c near) m.legal;
        front = m.front;
        last = m.last;
        ends = m.ends;
        next = m.next;
        rest = m.rest;
        word = record {
          relation = m.word.relation;
          only = m.word.only;
          binding = m.word.binding;
          word = word_kept M N P m.word.relation m.word.only m.word.binding _ m.word.word m.last (inl refl) al;
        };
      }

  context_alike : (c : List Span) → PiecesAlike M N c → IsContext M P c → IsContext N P c
  context_alike c near (One q e h) = One q e (piece_kept M N P needs q
      (two_of_three M N q.way (near q (subst (In q) (sym e) (inl refl)))) h)
  context_alike c near (Many m) = Many (many_alike c near m)

  pub context_kept : (before : List Span) (p : Span) → IsAlikeAround M N p.way → IsContext M P (before ++ p ∷ [])
      → IsContext N P (before ++ p ∷ [])
  context_kept before p al h = context_alike (before ++ p ∷ [])
      (context_near M N P (before ++ p ∷ []) p (in_end before p []) al h) h

-- ---- arcs

module _ (M N : Objects) (P : Rules) (needs : NeedsHighway P) where
  longest_kept : (d e : List Span) → PiecesAlike M N d → IsContextOf M P d e → IsContextOf N P d e
  longest_kept d e near l = record {
    front = l.front;
    is = l.is;
    holds = context_alike M N P needs e (pieces_end M N d l.front e l.is near) l.holds;
    longest = λ a b f k. l.longest a b f
        (context_alike N M P needs b (pieces_turned M N b (pieces_end M N d a b f near)) k);
  }

  spelled_both : (c : List Span) (t : Span) → PiecesAlike M N c → IsAlike M N 3 (WayKey t.way)
      → AllAlike M N (spell_pieces c ++ spell t)
  spelled_both c t near al s i = elim (in_cases (spell_pieces c) (spell t) s i) [
    | inl a ↦ spelled_alike M N P needs c near s a
    | inr b ↦ subst (λ w. IsAlike M N 3 (WayKey w)) (sym (spelled_way t s b)) al
  ]

  pushed_alike : (c : List Span) (t : Span) → PiecesAlike M N c → IsAlike M N 3 (WayKey t.way)
      → PiecesAlike M N (c ++ t ∷ [])
  pushed_alike c t near al q i = elim (in_cases c (t ∷ []) q i) [
    | inl a ↦ near q a
    | inr b ↦ subst (λ x. IsAlike M N 3 (WayKey x.way)) (sym (only_one q t b)) al
  ]

  arc_alike : (c : List Span) (t : Span) (e : List Span) → PiecesAlike M N c → IsAlike M N 3 (WayKey t.way)
      → IsArc M P c t e → IsArc N P c t e
  arc_alike c t e near al a = record {
    from = context_alike M N P needs c near a.from;
    by = piece_kept M N P needs t (two_of_three M N t.way al) a.by;
    legal = legal_kept M N P needs (spell_pieces c ++ spell t) (spelled_both c t near al) a.legal;
    to = longest_kept (c ++ t ∷ []) e (pushed_alike c t near al) a.to;
  }

module _ (M : Objects) (P : Rules) (needs : NeedsHighway P) where
  last_step : (p : Span) → IsPiece M P p → Ends (spell p) → (a : List Step) × (x : Step) × (spell p ≡ a ++ x ∷ [])
  last_step p h (Nil e) = let f = (piece_shape M P p h).is in cc (f, e)
  last_step p h (Last a x e) = (a, x, e)

  -- the ways of two steps, of which one may follow the other, share a node
  pass_near : (s t : Step) → Drives M P s → Drives M P t → Passes M P s t
      → IsWithin M 2 (WayKey s.way) (WayKey t.way)
  pass_near s t d e p = inr (
    NodeKey p.node,
    inr (
      WayKey s.way,
      refl,
      road_refers M P needs s.way (head_position s.dir s.index) p.node (road_of M P s d)
          (end_named M s _ p.node p.from).1,
    ),
    step_refers M P needs p.node t (record { drives = e; tail = p.to }),
  )

  -- where a piece follows another, their ways share a node
  pub piece_near : (before : List Span) (p t : Span) → IsPiece M P p → IsPiece M P t
      → Legal M P (spell_pieces (before ++ p ∷ []) ++ spell t) → IsWithin M 2 (WayKey p.way) (WayKey t.way)
  piece_near before p t hp ht l =
      let r = last_step p hp (ends (spell p)) in
      let f = piece_shape M P t ht in
      let front : List Step = spell_pieces before ++ r.0 in
      let whole : spell_pieces (before ++ p ∷ []) ++ spell t ≡ front ++ r.1 ∷ f.begin ∷ f.others =
      ap (λ v. v ++ spell t) (spell_pieces-push before p ∙ ap (λ v. spell_pieces before ++ v) r.2
      ∙ sym (append_assoc (spell_pieces before) r.0 (r.1 ∷ [])))
      ∙ append_assoc front (r.1 ∷ []) (spell t) ∙ ap (λ v. front ++ r.1 ∷ v) f.is in
      let from = l.drives front r.1 (f.begin ∷ f.others) whole in
      let on = l.drives (front ++ r.1 ∷ []) f.begin f.others (whole ∙ sym (append_assoc front (r.1 ∷ []) _)) in
      let last_way = spelled_way p r.1 (subst (In r.1) (sym r.2) (in_end r.0 r.1 [])) in
      let first_way = spelled_way t f.begin (subst (In f.begin) (sym f.is) (inl refl)) in
      subst (λ w. IsWithin M 2 (WayKey w) (WayKey t.way)) last_way
      (subst (λ w. IsWithin M 2 (WayKey r.1.way) (WayKey w)) first_way
      (pass_near r.1 f.begin from on (l.follows front r.1 f.begin f.others whole)))

  pub piece_of : (before : List Span) (p : Span) → IsContext M P (before ++ p ∷ []) → IsPiece M P p
  piece_of before p h = (Every-tail (IsPiece M P) before (p ∷ []) (context_pieces M P (before ++ p ∷ []) h)).0

pub arc_kept : (M N : Objects) (P : Rules) → NeedsHighway P → (before : List Span) (p t : Span) (e : List Span)
    → IsAlikeAround M N p.way → IsArc M P (before ++ p ∷ []) t e → IsArc N P (before ++ p ∷ []) t e
arc_kept M N P needs before p t e al a = arc_alike M N P needs (before ++ p ∷ []) t e
    (context_near M N P (before ++ p ∷ []) p (in_end before p []) al a.from)
    (two_links_on M N p.way t.way al
    (piece_near M P needs before p t (piece_of M P needs before p a.from) a.by a.legal)) a

-- ---- of the way's pieces, where all within the forward radius is the same

near_way : (M N : Objects) (w v : WayId) → IsSameWithin forward_radius M N w → v ≡ w → IsAlikeAround M N v
near_way M N w v same e = subst (λ x. IsAlikeAround M N x) (sym e) (alike_from M N forward_radius w same)

pub local_contexts : (M N : Objects) (P : Rules) → NeedsHighway P → (w : WayId) (before : List Span) (p : Span)
    → IsSameWithin forward_radius M N w → p.way ≡ w
    → IsContext M P (before ++ p ∷ []) ↔ IsContext N P (before ++ p ∷ [])
local_contexts M N P needs w before p same of =
    let al = near_way M N w p.way same of in
    (context_kept M N P needs before p al, context_kept N M P needs before p (around_turned M N p.way al))

pub local_arcs : (M N : Objects) (P : Rules) → NeedsHighway P → (w : WayId) (before : List Span) (p t : Span)
    (e : List Span) → IsSameWithin forward_radius M N w → p.way ≡ w → IsArc M P (before ++ p ∷ []) t e
    ↔ IsArc N P (before ++ p ∷ []) t e
local_arcs M N P needs w before p t e same of =
    let al = near_way M N w p.way same of in
    (arc_kept M N P needs before p t e al, arc_kept N M P needs before p t e (around_turned M N p.way al))
