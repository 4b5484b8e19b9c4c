-- The longest context decides what may follow.
use Rattle.std.proofs.Common.{◌↔◌, ◌≡◌, ℕ, ◌≤◌, List, [], ◌∷◌, ◌++◌, length, refl, sym, ap, ◌∙◌, append_assoc}
use Rattle.std.proofs.Common.{append-nil, subst, arith, length-append}
use Rattle.road_model.specs.Legal.{IsLegalBy, MustBy}
use Rattle.road_model.specs.Contexts.{spell_all, Every, IsContextBy, One, Many, IsLongestEnd}
use Rattle.ordered_lists.proofs.Splits.{Cut, Behind, Before, cut, cons_not_nil, same_begin}
use Rattle.road_model.proofs.LegalLists.{infix_legal}

module _ {S : Type 0} (Drives : S → Type 0) (Follows : S → S → Type 0) (No : List S → Type 0)
    (Only : ℕ → List S → Type 0) (Word : List S → Type 0)
    (no_word : (u : List S) → No u → Word u)
    (only_word : (n : ℕ) (u : List S) → Only n u → Word u) where
  no_joined : (X : List S) (s : S) (C T a : List S) (z : S) (k u b : List S)
      → IsLegalBy Drives Follows No Only (X ++ s ∷ C) → ((y : S) (q : List S) → Word (z ∷ (k ++ (s ∷ C ++ y ∷ q))) → ⊥)
      → X ≡ a ++ z ∷ k → No u → Cut u b (z ∷ (k ++ s ∷ C)) T → ⊥
  no_joined X s C T a z k u b g apart p w (Behind v r q) = g.no a u v
      (ap (λ x. x ++ s ∷ C) p ∙ append_assoc a _ _ ∙ ap (λ x. a ++ x) r) w
  no_joined X s C T a z k u b g apart p w (Before y v r q) = apart y v
      (subst Word (r ∙ ap (λ x. z ∷ x) (append_assoc k _ _)) (no_word u w))

  only_joined : (X : List S) (s : S) (C T a : List S) (z : S) (k p : List S) (x t : S) (b : List S)
      → IsLegalBy Drives Follows No Only (X ++ s ∷ C) → ((y : S) (q : List S) → Word (z ∷ (k ++ (s ∷ C ++ y ∷ q))) → ⊥)
      → X ≡ a ++ z ∷ k → MustBy Only p x → Cut p (t ∷ b) (z ∷ (k ++ s ∷ C)) T → MustBy Only p t
  only_joined X s C T a z k p x t b g apart r m (Behind [] h q) =
      absurd (apart x m.rest (subst Word (ap (λ v. v ++ x ∷ m.rest) (sym (append-nil p) ∙ sym h)
      ∙ ap (λ v. z ∷ v) (append_assoc k _ _)) (only_word m.binding _ m.word)))
  only_joined X s C T a z k p x t b g apart r m (Behind (y ∷ v) h q) =
      g.only a p t v (ap (λ w. w ++ s ∷ C) r ∙ append_assoc a _ _ ∙ ap (λ w. a ++ w) (h ∙ ap (λ w. p ++ w) (cc))) x m
  only_joined X s C T a z k p x t b g apart r m (Before y v h q) =
      absurd (apart y (v ++ x ∷ m.rest) (subst Word
      (ap (λ w. w ++ x ∷ m.rest) h ∙ ap (λ w. z ∷ w) (append_assoc (k ++ s ∷ C) _ _ ∙ append_assoc k _ _))
      (only_word m.binding _ m.word)))

  -- two legal lists that overlap join to a legal one, where no word reaches from before the overlap to behind it
  pub join : (X : List S) (s : S) (C T : List S) → IsLegalBy Drives Follows No Only (X ++ s ∷ C)
      → IsLegalBy Drives Follows No Only (s ∷ C ++ T)
      → ((a : List S) (z : S) (k : List S) → X ≡ a ++ z ∷ k → (y : S) (q : List S) → Word (z ∷ (k ++ (s ∷ C ++ y ∷ q)))
      → ⊥) → IsLegalBy Drives Follows No Only (X ++ (s ∷ C ++ T))
  join X s C T g h apart = record {
    not_empty = cons_not_nil X s (C ++ T);
    drives = λ a x b e. elim (cut X (s ∷ C ++ T) a (x ∷ b) e) [
      | Behind c p q ↦ h.drives c x b q
      | Before z k p q ↦ g.drives a x (k ++ s ∷ C) (ap (λ v. v ++ s ∷ C) p ∙ append_assoc a _ _ ∙ ap (λ v. a ++ v) (cc))
    ];
    follows = λ a x y b e. elim (cut X (s ∷ C ++ T) a (x ∷ y ∷ b) e) [
      | Behind c p q ↦ h.follows c x y b q
      | Before z k p q ↦ let r = same_begin k s (C ++ T) C y b (cc) in g.follows a x y r.rest
          (ap (λ v. v ++ s ∷ C) p ∙ append_assoc a _ _ ∙ ap (λ v. a ++ v) (cc (r.is)))
    ];
    no = λ a u b e w. elim (cut X (s ∷ C ++ T) a (u ++ b) e) [
      | Behind c p q ↦ h.no c u b q w
      | Before z k p q ↦ no_joined X s C T a z k u b g (apart a z k p) p w
          (cut u b (z ∷ (k ++ s ∷ C)) T (q ∙ ap (λ v. z ∷ v) (sym (append_assoc k _ _))))
    ];
    only = λ a p t b e x m. elim (cut X (s ∷ C ++ T) a (p ++ t ∷ b) e) [
      | Behind c r q ↦ h.only c p t b q x m
      | Before z k r q ↦ only_joined X s C T a z k p x t b g (apart a z k r) r m
          (cut p (t ∷ b) (z ∷ (k ++ s ∷ C)) T (q ∙ ap (λ v. z ∷ v) (sym (append_assoc k _ _))))
    ];
  }

pub spell_all-append : {P S : Type 0} (spell : P → List S) (ps qs : List P)
    → spell_all spell (ps ++ qs) ≡ spell_all spell ps ++ spell_all spell qs
spell_all-append spell [] qs = refl
spell_all-append spell (p ∷ ps) qs = ap (λ v. spell p ++ v) (spell_all-append spell ps qs)
    ∙ sym (append_assoc (spell p) _ _)

pub Every-tail : {P : Type 0} (Q : P → Type 0) (ps qs : List P) → Every Q (ps ++ qs) → Every Q qs
Every-tail Q [] qs h = h
Every-tail Q (p ∷ ps) qs h = Every-tail Q ps qs h.1

pub Every-append : {P : Type 0} (Q : P → Type 0) (ps qs : List P) → Every Q ps → Every Q qs → Every Q (ps ++ qs)
Every-append Q [] qs g h = h
Every-append Q (p ∷ ps) qs g h = (g.0, Every-append Q ps qs g.1 h)

pub Every-front : {P : Type 0} (Q : P → Type 0) (ps qs : List P) → Every Q (ps ++ qs) → Every Q ps
Every-front Q [] qs h = tt
Every-front Q (p ∷ ps) qs h = (h.0, Every-front Q ps qs h.1)

-- pieces of which the first one's last step begins a word that goes on behind the others are a context
module _ {P S : Type 0} (spell : P → List S) (IsPiece : P → Type 0) (Legal Word : List S → Type 0) where
  pub many : (p : P) (ps : List P) (h : P) (c : List P) → Every IsPiece (p ∷ (ps ++ h ∷ c))
      → Legal (spell_all spell (p ∷ (ps ++ h ∷ c))) → (front : List S) (z : S) → spell p ≡ front ++ z ∷ []
      → (y : S) (q : List S) → Word (z ∷ (spell_all spell (ps ++ h ∷ c) ++ y ∷ q))
      → IsContextBy spell IsPiece Legal Word (p ∷ (ps ++ h ∷ c))
  many p [] h c i g front z e y q w = Many (record {
    first = p;
    second = h;
    others = c;
    is = refl;
    pieces = i;
    legal = g;
    front = front;
    last = z;
    ends = e;
    next
        = y;
    rest = q;
    word = w;
  })
  many p (r ∷ ps) h c i g front z e y q w = Many
      (record {
        first = p;
        second = r;
        others = ps ++ h
            ∷ c;
        is = refl;
        pieces = i;
        legal = g;
        front = front;
        last = z;
        ends = e;
        next = y;
        rest = q;
        word = w;
      })

-- what a piece's spelling is with regard to junctions: each step but the last has its head at a plain position
pub record PieceShape {S : Type 0} (Mid : S → Type 0) (l : List S) : Type 0 where
  pub begin : S
  pub others : List S
  pub is : l ≡ begin ∷ others
  pub mids : (a : List S) (x y : S) (b : List S) → l ≡ a ++ x ∷ y ∷ b → Mid x

-- where a step whose head is at a junction stands in a list of pieces
pub record Located {P S : Type 0} (spell : P → List S) (ps : List P) (a : List S) (f : S) (b : List S) : Type 0 where
  pub before : List P
  pub piece : P
  pub behind : List P
  pub is : ps ≡ before ++ piece ∷ behind
  pub front : List S
  pub ends : spell piece ≡ front ++ f ∷ []
  pub rest : b ≡ spell_all spell behind

module _ {P S : Type 0} (spell : P → List S) (IsPiece : P → Type 0) (Mid : S → Type 0)
    (shape : (p : P) → IsPiece p → PieceShape Mid (spell p)) where
  located_more : (p : P) (ps : List P) (c : List S) (f : S) (a a' b : List S) → Located spell ps c f b
      → Located spell (p ∷ ps) a f b
  located_more p ps c f a a' b l = record {
    before = p
        ∷ l.before;
    piece = l.piece;
    behind = l.behind;
    is = ap (λ v. p ∷ v) l.is;
    front = l.front;
    ends = l.ends;
    rest
        = l.rest;
  }

  located_here : (p : P) (ps : List P) (a : List S) (f : S) (b : List S) (z : S) (c : List S) → IsPiece p → (Mid f → ⊥)
      → spell p ≡ a ++ z ∷ c → f ∷ b ≡ (z ∷ c) ++ spell_all spell ps → Located spell (p ∷ ps) a f b
  located_here p ps a f b z [] i n e q = record
      { before = []; piece = p; behind = ps; is = refl; front = a; ends = e ∙ ap (λ v. a ++ v) (cc); rest = cc }
  located_here p ps a f b z (y ∷ c) i n e q = absurd (n ((shape p i).mids a f y c (e ∙ ap (λ v. a ++ v) (cc))))

  pub locate : (ps : List P) (a : List S) (f : S) (b : List S) → Every IsPiece ps → (Mid f → ⊥)
      → spell_all spell ps ≡ a ++ f ∷ b → Located spell ps a f b
  locate [] a f b i n e = absurd (cons_not_nil a f b (sym e))
  locate (p ∷ ps) a f b i n e = elim (cut (spell p) (spell_all spell ps) a (f ∷ b) e) [
    | Behind c g q ↦ located_more p ps c f a a b (locate ps c f b i.1 n q)
    | Before z c g q ↦ located_here p ps a f b z c i.0 n g q
  ]

module _ {P S : Type 0} (spell : P → List S) (IsPiece : P → Type 0) (Mid : S → Type 0)
    (shape : (p : P) → IsPiece p → PieceShape Mid (spell p))
    (Drives : S → Type 0) (Follows : S → S → Type 0) (No : List S → Type 0) (Only : ℕ → List S → Type 0)
    (Word : List S → Type 0)
    (no_word : (u : List S) → No u → Word u)
    (only_word : (n : ℕ) (u : List S) → Only n u → Word u)
    (starts : (z : S) (u : List S) → Word (z ∷ u) → Mid z → ⊥) where
  too_long : (ps : List P) (h : P) (c : List P) → length (h ∷ (ps ++ h ∷ c)) ≤ length (h ∷ c) → ⊥
  too_long ps h c e = let l = length-append ps (h ∷ c) in omega arith

  -- a word that reaches from before the context to behind it would make a longer context
  longer : (front : List P) (h : P) (c : List P) (a : List S) (z : S) (k : List S) (y : S) (q : List S) →
      Every IsPiece (front ++ h ∷ c) → IsLegalBy Drives Follows No Only (spell_all spell (front ++ h ∷ c)) →
      ((a b : List P) → front ++ h ∷ c ≡ a ++ b → IsContextBy spell IsPiece (IsLegalBy Drives Follows No Only) Word b
      → length b ≤ length (h ∷ c)) →
      Located spell front a z k → Word (z ∷ (k ++ (spell_all spell (h ∷ c) ++ y ∷ q))) → ⊥
  longer front h c a z k y q i g most l w =
      let whole : front ++ h ∷ c ≡ l.before ++ l.piece ∷ (l.behind ++ h ∷ c) = ap (λ v. v ++ h ∷ c) l.is
      ∙ append_assoc l.before _ _ in
      let every = Every-tail IsPiece l.before _ (rw whole at i) in
      let legal : IsLegalBy Drives Follows No Only (spell_all spell (l.piece ∷ (l.behind ++ h ∷ c))) =
      infix_legal Drives Follows No Only (spell_all spell l.before) _ []
      (λ n. cons_not_nil l.front z _ (sym (append_assoc l.front (z ∷ []) _)
      ∙ ap (λ v. v ++ spell_all spell (l.behind ++ h ∷ c)) (sym l.ends) ∙ n))
      (subst (IsLegalBy Drives Follows No Only)
      (ap (spell_all spell) whole ∙ spell_all-append spell l.before _
      ∙ ap (λ v. spell_all spell l.before ++ v) (sym (append-nil _))) g) in
      let long = most l.before (l.piece ∷ (l.behind ++ h ∷ c)) whole
      (many spell IsPiece (IsLegalBy Drives Follows No Only) Word l.piece l.behind h c every legal l.front z l.ends
      y q
      (subst Word (ap (λ v. z ∷ v) (ap (λ v. v ++ (spell_all spell (h ∷ c) ++ y ∷ q)) l.rest
      ∙ sym (append_assoc (spell_all spell l.behind) _ _)
      ∙ ap (λ v. v ++ y ∷ q) (sym (spell_all-append spell l.behind (h ∷ c))))) w)) in
      too_long l.behind h c long

  Legal : List S → Type 0
  Legal = IsLegalBy Drives Follows No Only

  -- after the longest context the same may follow as after the whole
  pub decided : (front : List P) (h : P) (c : List P) (t : P) (s : S) (C : List S) → spell_all spell (h ∷ c) ≡ s ∷ C →
      Every IsPiece (front ++ h ∷ c) → IsLegalBy Drives Follows No Only (spell_all spell (front ++ h ∷ c)) →
      ((a b : List P) → front ++ h ∷ c ≡ a ++ b → IsContextBy spell IsPiece (IsLegalBy Drives Follows No Only) Word b
      → length b ≤ length (h ∷ c)) →
      IsLegalBy Drives Follows No Only (s ∷ C ++ spell t)
      → IsLegalBy Drives Follows No Only (spell_all spell front ++ (s ∷ C ++ spell t))
  decided front h c t s C e i g most l =
      join Drives Follows No Only Word no_word only_word (spell_all spell front) s C (spell t)
      (subst (IsLegalBy Drives Follows No Only)
      (spell_all-append spell front (h ∷ c) ∙ ap (λ v. spell_all spell front ++ v) e) g) l
      (λ a z k p y q w. longer front h c a z k y q i g most
      (locate spell IsPiece Mid shape front a z k (Every-front IsPiece front _ i) (starts z _ w) p)
      (subst Word (ap (λ v. z ∷ (k ++ (v ++ y ∷ q))) (sym e)) w))

  pub decides_at : (front : List P) (h : P) (c : List P) (t : P) → Every IsPiece (front ++ h ∷ c)
      → IsLegalBy Drives Follows No Only (spell_all spell (front ++ h ∷ c)) →
      ((a b : List P) → front ++ h ∷ c ≡ a ++ b → IsContextBy spell IsPiece (IsLegalBy Drives Follows No Only) Word b
      → length b ≤ length (h ∷ c)) →
      IsLegalBy Drives Follows No Only (spell_all spell (front ++ h ∷ c) ++ spell t)
      ↔ IsLegalBy Drives Follows No Only (spell_all spell (h ∷ c) ++ spell t)
  decides_at front h c t i g most =
      let f = shape h (Every-tail IsPiece front (h ∷ c) i).0 in
      let e : spell_all spell (h ∷ c) ≡ f.begin
      ∷ (f.others ++ spell_all spell c) = ap (λ v. v ++ spell_all spell c) f.is in
      let w : spell_all spell (front ++ h ∷ c) ++ spell t
      ≡ spell_all spell front ++ (spell_all spell (h ∷ c) ++ spell t) = ap (λ v. v ++ spell t)
      (spell_all-append spell front (h ∷ c)) ∙ append_assoc (spell_all spell front) _ _ in (
        (λ l. infix_legal Drives Follows No Only (spell_all spell front) (spell_all spell (h ∷ c) ++ spell t) []
            (λ n. cons_not_nil [] f.begin ((f.others ++ spell_all spell c) ++ spell t)
            (ap (λ v. v ++ spell t) (sym e) ∙ n)) (subst (IsLegalBy Drives Follows No Only)
            (w ∙ ap (λ v. spell_all spell front ++ v) (sym (append-nil _))) l)),
        (λ l. subst (IsLegalBy Drives Follows No Only)
            (ap (λ v. spell_all spell front ++ (v ++ spell t)) (sym e) ∙ sym w)
            (decided front h c t f.begin (f.others ++ spell_all spell c) e i g most
            (subst (λ v. IsLegalBy Drives Follows No Only (v ++ spell t)) e l))),
      )

  at_end : (d front c : List P) (h : P) (c' : List P) (t : P) → d ≡ front ++ c → c ≡ h ∷ c' → Every IsPiece d
      → IsLegalBy Drives Follows No Only (spell_all spell d) →
      ((a b : List P) → d ≡ a ++ b → IsContextBy spell IsPiece (IsLegalBy Drives Follows No Only) Word b
      → length b ≤ length c) →
      IsLegalBy Drives Follows No Only (spell_all spell d ++ spell t)
      ↔ IsLegalBy Drives Follows No Only (spell_all spell c ++ spell t)
  at_end d front c h c' t e n i g most =
      let e' : d ≡ front ++ h ∷ c' = e ∙ ap (λ v. front ++ v) n in
      rw n (rw e' (decides_at front h c' t (rw e' at i) (rw e' at g) (λ a b q k. rw n at (most a b (e' ∙ q) k))))

  pub decides : (d c : List P) (t : P) → Every IsPiece d → IsLegalBy Drives Follows No Only (spell_all spell d) →
      IsLongestEnd (IsContextBy spell IsPiece (IsLegalBy Drives Follows No Only) Word) d c →
      IsLegalBy Drives Follows No Only (spell_all spell d ++ spell t)
      ↔ IsLegalBy Drives Follows No Only (spell_all spell c ++ spell t)
  decides d c t i g l = elim l.holds [
    | One p e k ↦ at_end d l.front c p [] t l.is e i g l.longest
    | Many m ↦ at_end d l.front c m.first (m.second ∷ m.others) t l.is m.is i g l.longest
  ]
