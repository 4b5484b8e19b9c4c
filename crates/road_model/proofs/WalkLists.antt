-- The walks are the legal lists of pieces.
use Rattle.std.proofs.Common.{◌≡◌, ℕ, suc, zero, ◌≤◌, List, [], ◌∷◌, ◌++◌, length, inl, inr, refl, sym, ap, ◌∙◌, subst}
use Rattle.std.proofs.Common.{arith, append_assoc, append-nil, length-append}
use Rattle.road_base.specs.declared.ids.Step.{Step}
use Rattle.road_base.specs.Objects.{Objects}
use Rattle.road_model.specs.Rules.{Rules}
use Rattle.road_model.specs.Driving.{Passes}
use Rattle.road_model.specs.Pieces.{Span, IsPiece, spell}
use Rattle.road_model.specs.Contexts.{Every, IsMany, One, Many}
use Rattle.road_model.specs.Network.{Drives, NoWord, OnlyWord, AnyWord, Legal, IsContext, IsContextOf, IsArc}
use Rattle.road_model.specs.Network.{HasNoWords, spell_pieces}
use Rattle.road_model.specs.Walks.{WalksTo, Start, Go}
use Rattle.ordered_lists.proofs.Splits.{Behind, Before, cut, cons_not_nil, same_last, Ends, Nil, Last, ends}
use Rattle.road_model.proofs.LegalLists.{infix_legal}
use Rattle.road_model.proofs.LongestContext.{spell_all-append, Every-tail, Every-front, Every-append}
use Rattle.ordered_lists.proofs.Decided.{Decided}
use Rattle.road_model.proofs.Shapes.{piece_shape, bound_positive, stretch}
use Rattle.road_model.proofs.PieceLaws.{behind_whole, context_decides}

-- some word goes on where v ends
pub record Continues (M : Objects) (P : Rules) (v : List Step) : Type 0 where
  pub next : Step
  pub rest : List Step
  pub word : AnyWord M P (v ++ next ∷ rest)

alone_length : (s : Step) (a u b : List Step) → s ∷ [] ≡ a ++ (u ++ b) → length u ≤ 1
alone_length s a u b e =
    let f : 1 ≡ length (a ++ (u ++ b)) = ap length e in
    let g = length-append a (u ++ b) in let h = length-append u b in omega arith

word_length : (f : Step) (via : List Step) (t : Step) → 2 ≤ length (f ∷ (via ++ t ∷ []))
word_length f via t = let h = length-append via (t ∷ []) in omega arith

same_end : (a b x y : List Span) → a ++ b ≡ x ++ y → length b ≡ length y → b ≡ y
same_end [] b [] y e l = e
same_end [] b (z ∷ x) y e l = let f : length b
    ≡ suc (length (x ++ y)) = ap length e in let g = length-append x y in absurd (omega arith)
same_end (z ∷ a) b [] y e l = let f : suc (length (a ++ b))
    ≡ length y = ap length e in let g = length-append a b in absurd (omega arith)
same_end (z ∷ a) b (w ∷ x) y e l = same_end a b x y (cc) l

pub spell_pieces-append : (a b : List Span) → spell_pieces (a ++ b) ≡ spell_pieces a ++ spell_pieces b
spell_pieces-append a b = spell_all-append spell a b

pub spell_pieces-push : (a : List Span) (t : Span) → spell_pieces (a ++ t ∷ []) ≡ spell_pieces a ++ spell t
spell_pieces-push a t = spell_pieces-append a (t ∷ []) ∙ ap (λ v. spell_pieces a ++ v) (append-nil (spell t))

module _ (M : Objects) (P : Rules) where
  pub inner_legal : (x d y : List Step) → (d ≡ [] → ⊥) → Legal M P (x ++ (d ++ y)) → Legal M P d
  inner_legal x d y n l = infix_legal (Drives M P) (Passes M P) (NoWord M P) (OnlyWord M P) x d y n l

  at_only_step : (s : Step) → Drives M P s → (c : List Step) (x : Step) (b : List Step) → s ∷ [] ≡ c ++ x ∷ b
      → Drives M P x
  at_only_step s h [] x b e = let k : s ≡ x = cc in subst (Drives M P) k h
  at_only_step s h (z ∷ c) x b e = absurd (cons_not_nil c x b (cc))

  -- one step alone is legal where it is drivable
  pub step_legal : (s : Step) → Drives M P s → Legal M P (s ∷ [])
  step_legal s h = record {
    not_empty = λ e. cc;
    drives = λ a x b e. at_only_step s h a x b e;
    follows = λ a x y b e. let l = alone_length s a (x ∷ y ∷ []) b e in absurd (omega arith);
    no = λ a u b e w. let l = rw w.word.spelled at (alone_length s a u b e) in let k = word_length w.word.first
        w.word.via w.word.last in omega arith;
    only = λ a p t b e x m. let l = alone_length s a (p ++ t ∷ []) b
        (e ∙ ap (λ v. a ++ v) (sym (append_assoc p (t ∷ []) b))) in
        let k = length-append p (t ∷ []) in let o = bound_positive M P m.binding _ m.word in let q = m.bound in absurd
        (omega arith);
  }

  -- a piece's spelling is legal
  pub piece_legal : (p : Span) → IsPiece M P p → Legal M P (spell p)
  piece_legal p h =
      let f = piece_shape M P p h in
      rw f.is (behind_whole M P p [] f.begin f.others [] h f.is
      (step_legal f.begin ((stretch M P p h).drives [] f.begin f.others f.is)))

  longest_one : (p : Span) (a b : List Span) → p ∷ [] ≡ a ++ b → length b ≤ length (p ∷ [])
  longest_one p a b e = let f : 1 ≡ length (a ++ b) = ap length e in let g = length-append a b in omega arith

  pub one_context : (p : Span) → IsPiece M P p → IsContextOf M P (p ∷ []) (p ∷ [])
  one_context p h = record { front = []; is = refl; holds = One p refl h; longest = λ a b e k. longest_one p a b e }

  pub some_steps : (p : Span) (ps : List Span) → IsPiece M P p → spell_pieces (p ∷ ps) ≡ [] → ⊥
  some_steps p ps h e = let f = piece_shape M P p h in cc (f.is, e)

  -- a context without its last piece is a context
  front_context : (h k : Span) (b : List Span) (t : Span) → IsPiece M P t → (c : List Span)
      → c ≡ h ∷ k ∷ (b ++ t ∷ []) → IsMany spell (IsPiece M P) (Legal M P) (AnyWord M P) c
      → IsMany spell (IsPiece M P) (Legal M P) (AnyWord M P) (h ∷ k ∷ b)
  front_context h k b t i c e m =
      let s = piece_shape M P t i in
      let f : m.first ≡ h = cc (m.is, e) in
      let g : m.second ∷ m.others ≡ (k ∷ b) ++ t ∷ [] = cc (m.is, e) in
      let every = rw e at m.pieces in
      let whole : spell_pieces c ≡ spell_pieces (h ∷ k ∷ b) ++ spell t = ap spell_pieces e
      ∙ spell_pieces-push (h ∷ k ∷ b) t in
      record {
        first = h;
        second = k;
        others = b;
        is = refl;
        pieces = Every-front (IsPiece M P) (h ∷ k ∷ b) (t ∷ []) every;
        legal = inner_legal [] (spell_pieces (h ∷ k ∷ b)) (spell t) (some_steps h (k ∷ b) every.0)
            (rw whole at m.legal);
        front = m.front;
        last = m.last;
        ends = ap spell (sym f) ∙ m.ends;
        next = s.begin;
        rest = s.others ++ m.next ∷ m.rest;
        word = subst (AnyWord M P) (ap (λ v. m.last ∷ (v ++ m.next ∷ m.rest))
            (ap spell_pieces g ∙ spell_pieces-push (k ∷ b) t ∙ ap (λ v. spell_pieces (k ∷ b) ++ v) s.is)
            ∙ ap (λ v. m.last ∷ v) (append_assoc (spell_pieces (k ∷ b)) (s.begin ∷ s.others) (m.next ∷ m.rest))) m.word;
      }

  shorter_context : (b : List Span) (h : Span) (t : Span) → IsPiece M P t → IsPiece M P h → (c : List Span)
      → c ≡ h ∷ (b ++ t ∷ []) → IsContext M P c → IsContext M P (h ∷ b)
  shorter_context [] h t i j c e k = One h refl j
  shorter_context (k ∷ b) h t i j c e (One p f g) = cc
  shorter_context (k ∷ b) h t i j c e (Many m) = Many (front_context h k b t i c e m)

  pub context_pieces : (c : List Span) → IsContext M P c → Every (IsPiece M P) c
  context_pieces c (One p e h) = rw e (h, tt)
  context_pieces c (Many m) = m.pieces

  pub without_last : (e : List Span) (t : Span) → (e ≡ [] → ⊥) → IsContext M P (e ++ t ∷ []) → IsContext M P e
  without_last [] t some k = absurd (some refl)
  without_last (h ∷ b) t some k =
      let i = context_pieces (h ∷ (b ++ t ∷ [])) k in
      shorter_context b h t (Every-tail (IsPiece M P) b (t ∷ []) i.1).0 i.0 (h ∷ (b ++ t ∷ [])) refl k

  -- where there are no words, a context is one piece
  pub one_alone : (c : List Span) → HasNoWords M P → IsContext M P c → (p : Span) × (c ≡ p ∷ [])
  one_alone c none (One p e h) = (p, e)
  one_alone c none (Many m) = absurd (none _ m.word)

  -- the longest context that ends the walk so far and t ends the longest context so far and t
  pub record Reached (d c : List Span) : Type 0 where
    pub pieces : Every (IsPiece M P) d
    pub legal : Legal M P (spell_pieces d)
    pub longest : IsContextOf M P d c

  pub some_context : (c : List Span) → IsContext M P c → 1 ≤ length c
  some_context c (One p e h) = rw e (omega arith)
  some_context c (Many m) = rw m.is (omega arith)

  -- what ends a list and isn't longer than another end of it ends that too
  end_within : (a b x y : List Span) → a ++ b ≡ x ++ y → length b ≤ length y → (z : List Span) × (y ≡ z ++ b)
  end_within a b x y e l = elim (cut x y a b (sym e)) [
    | Behind c p q ↦ (c, q)
    | Before z c p q ↦ let f : length b ≡ suc (length (c ++ y)) = ap length q in let g = length-append c y in absurd
        (omega arith)
  ]

  -- of the longest contexts that end a list there is one
  pub one_longest : (d b c : List Span) → IsContextOf M P d b → IsContextOf M P d c → b ≡ c
  one_longest d b c x y =
      let l = x.longest y.front c y.is y.holds in let m = y.longest x.front b x.is x.holds in
      same_end x.front b y.front c (sym x.is ∙ y.is) (omega arith)

  next_longest : (d c e : List Span) (t : Span) → IsPiece M P t → Every (IsPiece M P) d → IsContextOf M P d c
      → IsContextOf M P (c ++ t ∷ []) e → (a b : List Span) → d ++ t ∷ [] ≡ a ++ b → IsContext M P b → Ends b
      → length b ≤ length e
  next_longest d c e t i v l m a b q k (Nil n) = let g = ap length n in omega arith
  next_longest d c e t i v l m a b q k (Last [] u n) = let g = ap length n in let f = some_context e m.holds in omega
      arith
  next_longest d c e t i v l m a b q k (Last (h ∷ b') u n) =
      let r = same_last d t (a ++ h ∷ b') u (q ∙ ap (λ x. a ++ x) n ∙ sym (append_assoc a (h ∷ b') (u ∷ []))) in
      let j = Every-tail (IsPiece M P) a (h ∷ b') (rw r.front at v) in
      let s = shorter_context b' h t i j.0 b (n ∙ ap (λ x. h ∷ (b' ++ x ∷ [])) (sym r.last)) k in
      let z = end_within a (h ∷ b') l.front c (sym r.front ∙ l.is) (l.longest a (h ∷ b') r.front s) in
      m.longest z.0 b (ap (λ x. x ++ t ∷ []) z.1 ∙ append_assoc z.0 (h ∷ b') (t ∷ [])
      ∙ ap (λ x. z.0 ++ x) (ap (λ x. (h ∷ b') ++ x ∷ []) r.last ∙ sym n)) k

  pub next_context : (d b c : List Span) (t : Span) → Every (IsPiece M P) d → IsPiece M P t → IsContextOf M P d b
      → IsContextOf M P (b ++ t ∷ []) c → IsContextOf M P (d ++ t ∷ []) c
  next_context d b c t v i l m = record {
    front = l.front ++ m.front;
    is = ap (λ x. x ++ t ∷ []) l.is ∙ append_assoc l.front b (t ∷ []) ∙ ap (λ x. l.front ++ x) m.is
        ∙ sym (append_assoc l.front m.front c);
    holds = m.holds;
    longest = λ x y f k. next_longest d b c t i v l m x y f k (ends y);
  }

  reached_go : (d e b c : List Span) (t : Span) → d ≡ e ++ t ∷ [] → Reached e b → IsArc M P b t c → Reached d c
  reached_go d e b c t q r a =
      let l = r.longest in let m = a.to in
      let legal : Legal M P (spell_pieces e ++ spell t) = (context_decides M P e b t r.pieces r.legal l).1 a.legal in
      record {
        pieces = rw q (Every-append (IsPiece M P) e (t ∷ []) r.pieces (a.by, tt));
        legal = rw (q, spell_pieces-push e t) legal;
        longest = subst (λ v. IsContextOf M P v c) (sym q) (next_context e b c t r.pieces a.by l m);
      }

  pub reached : (d c : List Span) → WalksTo M P d c → Reached d c
  reached d c (Start p h e f) = rw (e, f) (record
      { pieces = (h, tt); legal = rw (append-nil) (piece_legal p h); longest = one_context p h })
  reached d c (Go e b t w a q) = reached_go d e b c t q (reached e b w) a

  not_many : (p q : Span) (o : List Span) (front : List Step) (last : Step) → spell p ≡ front ++ last ∷ []
      → (Continues M P (last ∷ spell_pieces (q ∷ o)) → ⊥) → IsContext M P (p ∷ q ∷ o) → ⊥
  not_many p q o front last e n (One r f h) = cc
  not_many p q o front last e n (Many m) =
      let f : m.first ≡ p = cc (m.is) in
      let g : m.second ∷ m.others ≡ q ∷ o = cc (m.is) in
      let k = same_last m.front m.last front last (sym m.ends ∙ ap spell f ∙ e) in
      n (record {
        next = m.next;
        rest = m.rest;
        word = subst (AnyWord M P)
            (ap (λ v. v ∷ (spell_pieces (m.second ∷ m.others) ++ m.next ∷ m.rest)) k.last
            ∙ ap (λ v. last ∷ (spell_pieces v ++ m.next ∷ m.rest)) g) m.word;
      })

  longest_of : (p q : Span) (o e : List Span) → (IsContext M P (p ∷ q ∷ o) → ⊥) → IsContextOf M P (q ∷ o) e
      → (a b : List Span) → p ∷ q ∷ o ≡ a ++ b → IsContext M P b → length b ≤ length e
  longest_of p q o e n l [] b f k = absurd (n (rw f k))
  longest_of p q o e n l (z ∷ a) b f k = l.longest a b (cc) k

  -- where it is decided whether some word goes on, there is a longest context
  module _ (continues : (v : List Step) → Decided (Continues M P v)) where
    many_decided : (p q : Span) (o : List Span) → Every (IsPiece M P) (p ∷ q ∷ o)
        → Legal M P (spell_pieces (p ∷ q ∷ o)) → (front : List Step) (last : Step) → spell p ≡ front ++ last ∷ []
        → Decided (Continues M P (last ∷ spell_pieces (q ∷ o))) → Decided (IsContext M P (p ∷ q ∷ o))
    many_decided p q o i l front last e (inl g) = inl
        (Many (record {
          first = p;
          second = q;
          others = o;
          is = refl;
          pieces = i;
          legal = l;
          front = front;
          last = last;
          ends = e;
          next = g.next;
          rest = g.rest;
          word = g.word;
        }))
    many_decided p q o i l front last e (inr n) = inr (λ c. not_many p q o front last e n c)

    pub context_decided : (p : Span) (o : List Span) → Every (IsPiece M P) (p ∷ o) → Legal M P (spell_pieces (p ∷ o))
        → Ends (spell p) → Decided (IsContext M P (p ∷ o))
    context_decided p [] i l e = inl (One p refl i.0)
    context_decided p (q ∷ o) i l (Nil e) = let f = piece_shape M P p i.0 in cc (f.is, e)
    context_decided p (q ∷ o) i l (Last front last e) = many_decided p q o i l front last e
        (continues (last ∷ spell_pieces (q ∷ o)))

    longest_itself : (c : List Span) → IsContext M P c → IsContextOf M P c c
    longest_itself c h = record {
      front = [];
      is = refl;
      holds = h;
      longest = λ a b e k. let f = length-append a b
          in let g : length c ≡ length (a ++ b) = ap length e in omega arith;
    }

    longest_more : (p q : Span) (o e : List Span) → (IsContext M P (p ∷ q ∷ o) → ⊥) → IsContextOf M P (q ∷ o) e
        → IsContextOf M P (p ∷ q ∷ o) e
    longest_more p q o e n l = record {
      front = p ∷ l.front;
      is = ap (λ v. p ∷ v) l.is;
      holds = l.holds;
      longest = longest_of p q o e n l;
    }

    longest_exists : (p : Span) (o : List Span) → Every (IsPiece M P) (p ∷ o) → Legal M P (spell_pieces (p ∷ o))
        → (e : List Span) × IsContextOf M P (p ∷ o) e
    longest_exists p [] i l = (p ∷ [], one_context p i.0)
    longest_exists p (q ∷ o) i l = elim (context_decided p (q ∷ o) i l (ends (spell p))) [
      | inl c ↦ (p ∷ q ∷ o, longest_itself (p ∷ q ∷ o) c)
      | inr n ↦ let r = longest_exists q o i.1
          (inner_legal (spell p) (spell_pieces (q ∷ o)) [] (some_steps q o i.1.0)
          (subst (Legal M P) (ap (λ v. spell p ++ v) (sym (append-nil _))) l)) in (r.0, longest_more p q o r.0 n r.1)
    ]

    pub longest_of_any : (c : List Span) → (c ≡ [] → ⊥) → Every (IsPiece M P) c → Legal M P (spell_pieces c)
        → (e : List Span) × IsContextOf M P c e
    longest_of_any [] h i l = absurd (h refl)
    longest_of_any (p ∷ o) h i l = longest_exists p o i l

    go_on : (d b : List Span) (t : Span) → Every (IsPiece M P) (d ++ t ∷ []) → Legal M P (spell_pieces (d ++ t ∷ []))
        → WalksTo M P d b → (c : List Span) × WalksTo M P (d ++ t ∷ []) c
    go_on d b t i l w =
        let r = reached d b w in
        let k = r.longest in
        let it = Every-tail (IsPiece M P) d (t ∷ []) i in
        let legal : Legal M P (spell_pieces b ++ spell t) = (context_decides M P d b t r.pieces r.legal k).0
        (rw spell_pieces-push at l) in
        let ib = Every-tail (IsPiece M P) k.front b (rw k.is at r.pieces) in
        let e = longest_of_any (b ++ t ∷ []) (cons_not_nil b t []) (Every-append (IsPiece M P) b (t ∷ []) ib it)
        (rw spell_pieces-push legal) in
        (e.0, Go {c = e.0} d b t w (record { from = k.holds; by = it.0; legal = legal; to = e.1 }) refl)

    walk_push : (d : List Span) (t : Span) → ((d ≡ [] → ⊥) → Every (IsPiece M P) d → Legal M P (spell_pieces d)
        → (c : List Span) × WalksTo M P d c) → Every (IsPiece M P) (d ++ t ∷ [])
        → Legal M P (spell_pieces (d ++ t ∷ [])) → (c : List Span) × WalksTo M P (d ++ t ∷ []) c
    walk_push [] t go i l = (t ∷ [], Start t i.0 refl refl)
    walk_push (p ∷ d) t go i l =
        let ip = Every-front (IsPiece M P) (p ∷ d) (t ∷ []) i in
        let r = go (λ e. cc) ip (inner_legal [] (spell_pieces (p ∷ d)) (spell t) (some_steps p d i.0)
        (rw spell_pieces-push at l)) in
        go_on (p ∷ d) r.0 t i l r.1

    walk_by : (n : ℕ) (d : List Span) → length d ≤ n → Ends d → (d ≡ [] → ⊥) → Every (IsPiece M P) d
        → Legal M P (spell_pieces d) → (c : List Span) × WalksTo M P d c
    walk_by n d h (Nil e) some i l = absurd (some e)
    walk_by zero d h (Last f t e) some i l = let g = ap length e in let k = length-append f (t ∷ []) in absurd
        (omega arith)
    walk_by (suc n) d h (Last f t e) some i l =
        let g = ap length e in let k = length-append f (t ∷ []) in
        let r = walk_push f t (walk_by n f (omega arith) (ends f)) (rw e at i) (rw e at l) in
        (r.0, subst (λ v. WalksTo M P v r.0) (sym e) r.1)

    -- a legal list of pieces is a walk
    pub walk_of : (d : List Span) → (d ≡ [] → ⊥) → Every (IsPiece M P) d → Legal M P (spell_pieces d)
        → (c : List Span) × WalksTo M P d c
    walk_of d = walk_by (length d) d (omega arith) (ends d)
