-- Where an arc leads is found among the ends of the context's steps.
use Rattle.std.proofs.Common.{◌≡◌, ◌≤◌, List, [], ◌∷◌, ◌++◌, length, refl, sym, ap, ◌∙◌, subst, arith, append_assoc}
use Rattle.std.proofs.Common.{append-nil, length-append}
use Rattle.road_base.specs.declared.ids.Step.{Step}
use Rattle.road_base.specs.Objects.{Objects}
use Rattle.road_model.specs.Rules.{Rules}
use Rattle.road_model.specs.Pieces.{Span, IsPiece, spell}
use Rattle.road_model.specs.Contexts.{Every, One, Many}
use Rattle.road_model.specs.Network.{AnyWord, Legal, IsContext, IsContextOf, spell_pieces}
use Rattle.road_model.specs.Turning.{HasTurnSteps, BeginsWord}
use Rattle.ordered_lists.proofs.Splits.{Cut, Behind, Before, cut, cons_not_nil, same_last, Ends, Nil, Last, ends}
use Rattle.road_model.proofs.LongestContext.{Every-tail, Every-append, Located, locate, many}
use Rattle.road_model.proofs.Shapes.{Mid, Inner, one_next, stretch, piece_shape, word_shape}
use Rattle.road_model.proofs.WalkLists.{Continues, inner_legal, context_pieces, spell_pieces-append, spell_pieces-push}
use Rattle.road_model.proofs.TurnSteps.{whole_spelling}

module _ (M : Objects) (P : Rules) where
  -- a word that goes on behind a step of a piece goes on behind the piece's end
  beyond : (t : Span) → IsPiece M P t → (w a : List Step) (z : Step) (b : List Step) (n : Step) (m : List Step)
      → spell t ≡ a ++ z ∷ b → AnyWord M P ((w ++ z ∷ []) ++ n ∷ m) → Continues M P (w ++ z ∷ b)
  beyond t i w a z [] n m e k = record { next = n; rest = m; word = k }
  beyond t i w a z (y ∷ b) n [] e k =
      let link = (stretch M P t i).links a z y b e in
      let shape = word_shape M P k.relation k.only k.binding ((w ++ z ∷ []) ++ n ∷ []) k.word in
      let same : n ≡ y = one_next z n y (shape.straight w z n [] (append_assoc w (z ∷ []) (n ∷ [])) link.mid) link.next
      in
      absurd (shape.stops (w ++ z ∷ []) n refl (subst (Inner M P) (sym same) link.inner))
  beyond t i w a z (y ∷ b) n (l ∷ m) e k =
      let link = (stretch M P t i).links a z y b e in
      let shape = word_shape M P k.relation k.only k.binding ((w ++ z ∷ []) ++ n ∷ l ∷ m) k.word in
      let same : n ≡ y = one_next z n y (shape.straight w z n (l ∷ m) (append_assoc w (z ∷ []) (n ∷ l ∷ m)) link.mid)
      link.next in
      subst (Continues M P) (append_assoc w (z ∷ []) (y ∷ b))
      (beyond t i (w ++ z ∷ []) (a ++ z ∷ []) y b l m (e ∙ sym (append_assoc a (z ∷ []) (y ∷ b)))
      (subst (AnyWord M P) (ap (λ x. (w ++ z ∷ []) ++ x ∷ l ∷ m) same
      ∙ sym (append_assoc (w ++ z ∷ []) (y ∷ []) (l ∷ m))) k))

  cut_behind : (v : List Step) (x : Step) (more : List Step) (n : Step) (m : List Step)
      → AnyWord M P (v ++ x ∷ (more ++ n ∷ m)) → BeginsWord M P (v ++ x ∷ [])
  cut_behind v x [] n m w = record {
    some = cons_not_nil v x [];
    next = n;
    more = m;
    word = subst (AnyWord M P)
        (sym (append_assoc v (x ∷ []) (n ∷ m))) w;
  }
  cut_behind v x (y ∷ more) n m w = record {
    some = cons_not_nil v x [];
    next = y;
    more = more ++ n
        ∷ m;
    word = subst (AnyWord M P) (sym (append_assoc v (x ∷ []) (y ∷ (more ++ n ∷ m)))) w;
  }

  -- the steps of pieces that end c end the steps of c
  ends_steps : (c : List Span) (q : List Step) (h : HasTurnSteps c q) (d e : List Span) (b : List Step) → c ≡ d ++ e
      → (k : HasTurnSteps e b) → (a : List Step) × (q ≡ a ++ b)
  ends_steps c q h [] e b g k =
      let u = h.is in let v = k.is in
      let f : h.first ≡ k.first = cc (u, v, g) in
      let o : h.others ≡ k.others = cc (u, v, g) in
      let s = same_last h.front h.last k.front k.last (sym h.ends ∙ ap spell f ∙ k.ends) in
      ([], h.steps ∙ (λ z. s.last z ∷ spell_pieces (o z)) ∙ sym k.steps)
  ends_steps c q h (p ∷ d) e b g k =
      let u = h.is in
      let o : h.others ≡ d ++ e = cc (u, g) in (
        h.last ∷ (spell_pieces d ++ k.front),
        h.steps
            ∙ ap (λ v. h.last ∷ v) (ap spell_pieces o ∙ spell_pieces-append d e
            ∙ ap (λ v. spell_pieces d ++ v) (whole_spelling e b k) ∙ sym (append_assoc (spell_pieces d) k.front b)),
      )

  -- the last piece's first step begins a word with the steps of the pieces before it
  record Begun (e : List Span) (x : Step) : Type 0 where
    steps : List Step
    turn : HasTurnSteps e steps
    some : steps ≡ [] → ⊥
    begins : BeginsWord M P (steps ++ x ∷ [])

  begun : (e : List Span) (t : Span) (x : Step) (more : List Step) → spell t ≡ x ∷ more → (e ≡ [] → ⊥)
      → IsContext M P (e ++ t ∷ []) → Begun e x
  begun [] t x more g some k = absurd (some refl)
  begun (h ∷ e) t x more g some (One p f i) = absurd (cons_not_nil e t [] (cc))
  begun (h ∷ e) t x more g some (Many m) =
      let u = m.is in
      let f : m.first ≡ h = cc (u) in
      let o : m.second ∷ m.others ≡ e ++ t ∷ [] = cc (u) in
      let behind : spell_pieces (m.second ∷ m.others) ++ m.next ∷ m.rest
      ≡ spell_pieces e ++ x ∷ (more ++ m.next ∷ m.rest) =
      ap (λ v. v ++ m.next ∷ m.rest) (ap spell_pieces o ∙ spell_pieces-push e t ∙ ap (λ v. spell_pieces e ++ v) g)
      ∙ append_assoc (spell_pieces e) (x ∷ more) (m.next ∷ m.rest) in
      record {
        steps = m.last ∷ spell_pieces e;
        turn = record {
          first = h;
          others = e;
          is = refl;
          front = m.front;
          last = m.last;
          ends = ap spell (sym f)
              ∙ m.ends;
          steps = refl;
        };
        some = cons_not_nil [] m.last (spell_pieces e);
        begins = cut_behind (m.last ∷ spell_pieces e) x more m.next m.rest
            (subst (AnyWord M P) (ap (λ v. m.last ∷ v) behind) m.word);
      }

  -- a context b that ends c and t is t alone, or begins with steps of c
  record Longer (c : List Span) (q : List Step) (t : Span) (x : Step) (b : List Span) : Type 0 where
    pieces : List Span
    is : b ≡ pieces ++ t ∷ []
    front : List Span
    within : c ≡ front ++ pieces
    begun : Begun pieces x
    before : List Step
    ends : q ≡ before ++ begun.steps

  data Ending (c : List Span) (q : List Step) (t : Span) (x : Step) (b : List Span) : Type 0 where
    Short : length b ≤ 1 → Ending c q t x b
    Long : Longer c q t x b → Ending c q t x b

  ending : (c : List Span) (q : List Step) (h : HasTurnSteps c q) (t : Span) (x : Step) (more : List Step)
      → spell t ≡ x ∷ more → (a b : List Span) → c ++ t ∷ [] ≡ a ++ b → IsContext M P b → Ends b → Ending c q t x b
  ending c q h t x more e a b f k (Nil n) = Short (let g = ap length n in omega arith)
  ending c q h t x more e a b f k (Last [] u n) = Short (let g = ap length n in omega arith)
  ending c q h t x more e a b f k (Last (p ∷ o) u n) =
      let r = same_last c t (a ++ p ∷ o) u (f ∙ ap (λ v. a ++ v) n ∙ sym (append_assoc a (p ∷ o) (u ∷ []))) in
      let is : b ≡ (p ∷ o) ++ t ∷ [] = n ∙ ap (λ v. (p ∷ o) ++ v ∷ []) (sym r.last) in
      let s = begun (p ∷ o) t x more e (cons_not_nil [] p o) (subst (IsContext M P) is k) in
      let w = ends_steps c q h a (p ∷ o) s.steps r.front s.turn in
      Long (record { pieces = p ∷ o; is = is; front = a; within = r.front; begun = s; before = w.0; ends = w.1 })

  NoneBegins : List Step → Step → Type 0
  NoneBegins q x = (a b : List Step) → q ≡ a ++ b → (b ≡ [] → ⊥) → BeginsWord M P (b ++ x ∷ []) → ⊥

  only_short : (c : List Span) (q : List Step) (t : Span) (x : Step) → NoneBegins q x → (b : List Span)
      → Ending c q t x b → length b ≤ 1
  unfolding NoneBegins
  only_short c q t x none b (Short l) = l
  only_short c q t x none b (Long r) = absurd (none r.before r.begun.steps r.ends r.begun.some r.begun.begins)

  pub target_alone : (c : List Span) (q : List Step) (t : Span) (x : Step) (more : List Step) → HasTurnSteps c q
      → IsPiece M P t → spell t ≡ x ∷ more → ((a b : List Step) → q ≡ a ++ b → (b ≡ [] → ⊥)
      → BeginsWord M P (b ++ x ∷ []) → ⊥) → IsContextOf M P (c ++ t ∷ []) (t ∷ [])
  unfolding NoneBegins
  target_alone c q t x more h i e none = record {
    front = c;
    is = refl;
    holds = One t refl i;
    longest = λ a b f k. only_short c q t x none b (ending c q h t x more e a b f k (ends b));
  }

  -- the pieces that have an end of the steps
  record EndOf (c : List Span) (b : List Step) : Type 0 where
    pieces : List Span
    turn : HasTurnSteps pieces b
    front : List Span
    is : c ≡ front ++ pieces

  end_at : (c : List Span) (q : List Step) (h : HasTurnSteps c q) (a : List Step) (y : Step) (b : List Step)
      → Located spell h.others a y b → EndOf c (y ∷ b)
  end_at c q h a y b l = record {
    pieces = l.piece ∷ l.behind;
    turn = record {
      first = l.piece;
      others = l.behind;
      is = refl;
      front = l.front;
      last = y;
      ends = l.ends;
      steps = ap
          (λ v. y ∷ v) l.rest;
    };
    front = h.first ∷ l.before;
    is = h.is ∙ ap (λ v. h.first ∷ v) l.is;
  }

  end_of : (c : List Span) (q : List Step) → HasTurnSteps c q → Every (IsPiece M P) c
      → (a : List Step) (y : Step) (b : List Step) → q ≡ a ++ y ∷ b → (Mid M P y → ⊥) → EndOf c (y ∷ b)
  end_of c q h i [] y b g n = record { pieces = c; turn = subst (HasTurnSteps c) g h; front = []; is = refl }
  end_of c q h i (z ∷ a) y b g n =
      let u = h.steps in
      let rest : spell_pieces h.others ≡ a ++ y ∷ b = cc (u, g) in
      end_at c q h a y b (locate spell (IsPiece M P) (Mid M P) (piece_shape M P) h.others a y b
      ((subst (Every (IsPiece M P)) h.is i).1) n rest)

  end_begins : (c : List Span) (q : List Step) → HasTurnSteps c q → Every (IsPiece M P) c
      → (x : Step) (a b : List Step) → q ≡ a ++ b → (b ≡ [] → ⊥) → BeginsWord M P (b ++ x ∷ []) → EndOf c b
  end_begins c q h i x a [] g some w = absurd (some refl)
  end_begins c q h i x a (y ∷ b) g some w =
      let k = w.word in
      end_of c q h i a y b g ((word_shape M P k.relation k.only k.binding (((y ∷ b) ++ x ∷ []) ++ w.next ∷ w.more)
      k.word).starts y ((b ++ x ∷ []) ++ w.next ∷ w.more) refl)

  -- fewer steps are those of fewer pieces
  shorter : (e f : List Span) (b v : List Step) → HasTurnSteps e b → HasTurnSteps f v → length v ≤ length b
      → (c : List Span) → f ≡ c ++ e → length f ≤ length e
  shorter e f b v h k l [] g = let n = ap length g in omega arith
  shorter e f b v h k l (p ∷ c) g =
      let u = k.is in
      let o : k.others ≡ c ++ e = cc (u, g) in
      let steps : v ≡ k.last ∷ (spell_pieces c ++ (h.front ++ b)) = k.steps
      ∙ ap (λ w. k.last ∷ w) (ap spell_pieces o ∙ spell_pieces-append c e
      ∙ ap (λ w. spell_pieces c ++ w) (whole_spelling e b h)) in
      let n = ap length steps in let m = length-append (spell_pieces c) (h.front ++ b) in let r = length-append h.front
      b in
      absurd (omega arith)

  within_length : (c d e f g : List Span) (b v : List Step) → HasTurnSteps e b → HasTurnSteps g v → length v ≤ length b
      → Cut d e f g → length g ≤ length e
  within_length c d e f g b v h k l (Behind a p r) = let n = ap length r in let m = length-append a g in omega arith
  within_length c d e f g b v h k l (Before z a p r) = shorter e g b v h k l (z ∷ a) r

  longest_end : (c : List Span) (q : List Step) (t : Span) (x : Step) (b : List Step) (e : EndOf c b)
      → ((k l : List Step) → q ≡ k ++ l → BeginsWord M P (l ++ x ∷ []) → length l ≤ length b) → (f : List Span)
      → Ending c q t x f → length f ≤ length (e.pieces ++ t ∷ [])
  longest_end c q t x b e most f (Short l) = let n = length-append e.pieces (t ∷ []) in omega arith
  longest_end c q t x b e most f (Long r) =
      let m = most r.before r.begun.steps r.ends r.begun.begins in
      let w = within_length c e.front e.pieces r.front r.pieces b r.begun.steps e.turn r.begun.turn m
      (cut e.front e.pieces r.front r.pieces (sym e.is ∙ r.within)) in
      let n = length-append e.pieces (t ∷ []) in let o = length-append r.pieces (t ∷ []) in let l = ap length r.is in
      omega arith

  -- the pieces of such steps are a context with the piece behind them
  end_context : (c : List Span) (t : Span) (x : Step) (more b : List Step) → Every (IsPiece M P) c → IsPiece M P t
      → spell t ≡ x ∷ more → Legal M P (spell_pieces c ++ spell t) → BeginsWord M P (b ++ x ∷ []) → (e : EndOf c b)
      → IsContext M P (e.pieces ++ t ∷ [])
  end_context c t x more b j i g l w e =
      let k = e.turn in
      let j' = Every-tail (IsPiece M P) e.front e.pieces (subst (Every (IsPiece M P)) e.is j) in
      let every = Every-append (IsPiece M P) e.pieces (t ∷ []) j' (i, tt) in
      let pieces : e.pieces ++ t ∷ [] ≡ k.first ∷ (k.others ++ t ∷ []) = ap (λ v. v ++ t ∷ []) k.is in
      let whole : spell_pieces c ++ spell t ≡ spell_pieces e.front ++ (spell_pieces (e.pieces ++ t ∷ []) ++ []) =
      ap (λ v. v ++ spell t) (ap spell_pieces e.is ∙ spell_pieces-append e.front e.pieces)
      ∙ append_assoc (spell_pieces e.front) (spell_pieces e.pieces) (spell t)
      ∙ ap (λ v. spell_pieces e.front ++ v) (sym (spell_pieces-push e.pieces t)
      ∙ sym (append-nil (spell_pieces (e.pieces ++ t ∷ [])))) in
      let ne : spell_pieces (e.pieces ++ t ∷ []) ≡ []
      → ⊥ = λ z. cons_not_nil (spell_pieces e.pieces) x more
      (ap (λ v. spell_pieces e.pieces ++ v) (sym g) ∙ sym (spell_pieces-push e.pieces t) ∙ z) in
      let legal = inner_legal M P (spell_pieces e.front) (spell_pieces (e.pieces ++ t ∷ [])) [] ne
      (subst (Legal M P) whole l) in
      let on = beyond t i b [] x more w.next w.more g w.word in
      let steps : b ++ x ∷ more ≡ k.last ∷ spell_pieces (k.others ++ t ∷ []) =
      ap (λ v. b ++ v) (sym g) ∙ ap (λ v. v ++ spell t) k.steps
      ∙ ap (λ v. k.last ∷ v) (sym (spell_pieces-push k.others t)) in
      subst (IsContext M P) (sym pieces)
      (many spell (IsPiece M P) (Legal M P) (AnyWord M P) k.first k.others t []
      (subst (Every (IsPiece M P)) pieces every) (subst (λ v. Legal M P (spell_pieces v)) pieces legal) k.front
      k.last k.ends on.next on.rest
      (subst (λ v. AnyWord M P (v ++ on.next ∷ on.rest)) steps on.word))

  pub target_longer : (c : List Span) (q : List Step) (t : Span) (x : Step) (more a b : List Step) → IsContext M P c
      → HasTurnSteps c q → IsPiece M P t → spell t ≡ x ∷ more → Legal M P (spell_pieces c ++ spell t) → q ≡ a ++ b
      → (b ≡ [] → ⊥) → BeginsWord M P (b ++ x ∷ [])
      → ((k l : List Step) → q ≡ k ++ l → BeginsWord M P (l ++ x ∷ []) → length l ≤ length b)
      → (e : List Span) × HasTurnSteps e b × IsContextOf M P (c ++ t ∷ []) (e ++ t ∷ [])
      × ((d : List Span) × (c ≡ d ++ e))
  target_longer c q t x more a b k h i g l s some w most =
      let j = context_pieces M P c k in
      let e = end_begins c q h j x a b s some w in
      let of : IsContextOf M P (c ++ t ∷ []) (e.pieces ++ t ∷ []) = record {
        front = e.front;
        is = ap (λ v. v ++ t ∷ []) e.is ∙ append_assoc e.front e.pieces (t ∷ []);
        holds = end_context c t x more b j i g l w e;
        longest = λ m n o z. longest_end c q t x b e most n (ending c q h t x more g m n o z (ends n));
      } in
      (e.pieces, e.turn, of, (e.front, e.is))
