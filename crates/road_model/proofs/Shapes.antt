-- What pieces and words are with regard to plain positions.
use Rattle.std.proofs.Common.{◌≡◌, ℕ, ◌+◌, ◌-◌, ◌<◌, ◌≤◌, List, [], ◌∷◌, ◌++◌, length, ◌⊎◌, inl, inr, refl, sym, ap}
use Rattle.std.proofs.Common.{◌∙◌, subst, arith, Bool, Some, slice_get, length-append, append_assoc}
use Rattle.std.proofs.lemmas.Option.{slice_get_within}
use Rattle.road_base.specs.declared.ids.NodeId.{NodeId}
use Rattle.road_base.specs.declared.ids.WayId.{WayId}
use Rattle.road_base.specs.declared.ids.RelationId.{RelationId}
use Rattle.road_base.specs.declared.ids.Key.{Key}
use Rattle.road_base.specs.declared.ids.Key.TheVariants.{Node as NodeKey, Way as WayKey, Relation as RelationKey}
use Rattle.road_base.specs.declared.ids.Step.{Step}
use Rattle.road_base.specs.declared.ids.Dir.{Dir}
use Rattle.road_base.specs.declared.ids.Dir.TheVariants.{Forward, Backward}
use Rattle.road_base.specs.Objects.{Objects}
use Rattle.road_model.specs.Rules.{Rules}
use Rattle.road_model.specs.Lines.{line_of, node_at, head_position, tail_position, forward_steps, backward_steps}
use Rattle.road_model.specs.Lines.{steps_from}
use Rattle.road_model.specs.Driving.{is_open, Passes}
use Rattle.road_model.specs.Pieces.{IsPlain, Span, IsPiece, spell}
use Rattle.road_model.specs.Restrictions.{IsRun, whole_way}
use Rattle.road_model.specs.Words.{IsWord, IsEndInto, IsEndFrom, IsVia, binding_of}
use Rattle.road_model.specs.Network.{Drives, OnlyWord}
use Rattle.road_model.proofs.StepEnds.{pair_named, named_end}
use Rattle.ordered_lists.proofs.Splits.{Behind, Before, cut, cons_not_nil, same_last}
use Rattle.road_model.proofs.LegalLists.{Link, Stretch, WordShape}
use Rattle.road_model.proofs.LongestContext.{PieceShape}
use Rattle.road_model.proofs.StepPlaces.{step, forward_at, backward_at, length-forward, length-backward}

-- the step's head, or its tail, is at a plain position
abbrev pub Mid : Objects → Rules → Step → Type 0
Mid M P s = IsPlain M P s.way (head_position s.dir s.index)

abbrev pub Inner : Objects → Rules → Step → Type 0
Inner M P s = IsPlain M P s.way (tail_position s.dir s.index)

-- straight on along the way
pub record Next (s t : Step) : Type 0 where
  pub way : t.way ≡ s.way
  pub dir : t.dir ≡ s.dir
  pub at : tail_position t.dir t.index ≡ head_position s.dir s.index

one_index : (d : Dir) (a b m : ℕ) → tail_position d a ≡ m → tail_position d b ≡ m → a ≡ b
one_index Forward a b m e f = omega arith
one_index Backward a b m e f = omega arith

pub one_next : (s t u : Step) → Next s t → Next s u → t ≡ u
one_next s t u n m =
    let d : t.dir ≡ u.dir = n.dir ∙ sym m.dir in
    let w : t.way ≡ u.way = n.way ∙ sym m.way in
    let e : t.index ≡ u.index = one_index u.dir t.index u.index _ (rw d at n.at) m.at in
    λ i. record { way = w i; index = e i; dir = d i }

pub get_cut : (a : List Step) (x : Step) (b : List Step) → slice_get (a ++ x ∷ b) (length a) ≡ Some x
get_cut [] x b = refl
get_cut (y ∷ a) x b = get_cut a x b

same_some : (x y : Step) → Some x ≡ Some y → x ≡ y
same_some x y e = cc

-- the step at a cut of a list of steps along a way
pub record At (w : WayId) (i n : ℕ) (d : Dir) (k : ℕ) (x : Step) : Type 0 where
  pub within : k < n
  pub index : ℕ
  pub is : x ≡ step w d index
  pub place : (d ≡ Forward → index ≡ i + k) × (d ≡ Backward → index + k + 1 ≡ i + n)

pub at_cut : (w : WayId) (i n : ℕ) (d : Dir) (a : List Step) (x : Step) (b : List Step)
    → steps_from w i n d ≡ a ++ x ∷ b → At w i n d (length a) x
at_cut w i n Forward a x b e =
    let g : slice_get (forward_steps w i n) (length a) ≡ Some x = ap (λ l. slice_get l (length a)) e ∙ get_cut a x b in
    let l : length a < n = rw (length-forward w i n) at (slice_get_within (forward_steps w i n) (length a) x g) in
    record {
      within = l;
      index = i + length a;
      is = same_some _ _
          (sym g ∙ forward_at w i n (length a) (i + length a) l refl);
      place = (λ f. refl, λ f. cc);
    }
at_cut w i n Backward a x b e =
    let g : slice_get (backward_steps w i n) (length a) ≡ Some x = ap (λ l. slice_get l (length a)) e ∙ get_cut a x b in
    let l : length a < n = rw (length-backward w i n) at (slice_get_within (backward_steps w i n) (length a) x g) in
    record {
      within = l;
      index = i + n - 1 - length a;
      is = same_some _ _
          (sym g ∙ backward_at w i n (length a) (i + n - 1 - length a) l (omega arith));
      place
          = (λ f. cc, λ f. omega arith);
    }

-- two neighbours among the steps along a way
pub record Pair (w : WayId) (i n : ℕ) (d : Dir) (x y : Step) : Type 0 where
  pub index : ℕ
  pub after : ℕ
  pub first : x ≡ step w d index
  pub second : y ≡ step w d after
  pub meets : tail_position d after ≡ head_position d index
  pub low : i < head_position d index
  pub high : head_position d index < i + n

pub length_more : (a : List Step) (x : Step) → length (a ++ x ∷ []) ≡ length a + 1
length_more a x = length-append a (x ∷ [])

pair_of : (w : WayId) (i n : ℕ) (d : Dir) (k : ℕ) (x y : Step) → At w i n d k x → At w i n d (k + 1) y
    → Pair w i n d x y
pair_of w i n Forward k x y p q =
    let e = p.place.0 refl in let f = q.place.0 refl in let l = q.within in
    record {
      index = p.index;
      after = q.index;
      first = p.is;
      second = q.is;
      meets = omega arith;
      low = omega arith;
      high
          = omega arith;
    }
pair_of w i n Backward k x y p q =
    let e = p.place.1 refl in let f = q.place.1 refl in let l = q.within in
    record {
      index = p.index;
      after = q.index;
      first = p.is;
      second = q.is;
      meets = omega arith;
      low = omega arith;
      high
          = omega arith;
    }

pub pair_in : (w : WayId) (i n : ℕ) (d : Dir) (a : List Step) (x y : Step) (b : List Step)
    → steps_from w i n d ≡ a ++ x ∷ y ∷ b → Pair w i n d x y
pair_in w i n d a x y b e =
    pair_of w i n d (length a) x y (at_cut w i n d a x (y ∷ b) e)
    (subst (λ k. At w i n d k y) (length_more a x)
    (at_cut w i n d (a ++ x ∷ []) y b (e ∙ sym (append_assoc a (x ∷ []) (y ∷ b)))))

pub pair_next : (w : WayId) (i n : ℕ) (d : Dir) (x y : Step) → Pair w i n d x y → Next x y
pair_next w i n d x y p = rw p.first (rw p.second (record { way = refl; dir = refl; at = p.meets }))

-- at a plain position one may go straight on
neighbours : (d : Dir) (M : Objects) (P : Rules) (w : WayId) (a b : ℕ) → IsPlain M P w (head_position d a)
    → tail_position d b ≡ head_position d a → node_at M w (head_position d b) ≡ node_at M w (tail_position d a) → ⊥
neighbours Forward M P w a b p e h =
    let f : a + 1 - 1 ≡ a = omega arith in
    p.apart (ap (node_at M w) f ∙ sym h ∙ ap (λ x. node_at M w (x + 1)) e)
neighbours Backward M P w a b p e h =
    let f : a - 1 ≡ b = omega arith in
    p.apart (ap (node_at M w) f ∙ h)

-- the steps before and behind a plain position name pairs
pair_before : (d : Dir) (a n : ℕ) → head_position d a + 1 < n → a + 1 < n
pair_before Forward a n l = omega arith
pair_before Backward a n l = l

pair_behind : (d : Dir) (a b n : ℕ) → tail_position d b ≡ head_position d a → head_position d a + 1 < n → b + 1 < n
pair_behind Forward a b n e l = omega arith
pair_behind Backward a b n e l = omega arith

straight_on : (M : Objects) (P : Rules) (w : WayId) (d : Dir) (a b : ℕ) → IsPlain M P w (head_position d a)
    → tail_position d b ≡ head_position d a → Passes M P (step w d a) (step w d b)
straight_on M P w d a b p e =
    let before = pair_named M (step w d a) (pair_before d a _ p.not_last) in
    let behind = pair_named M (step w d b) (pair_behind d a b _ e p.not_last) in
    record {
      node = p.node;
      from = named_end M (step w d a) (head_position d a) before ∙ p.is;
      to = named_end M (step w d b) (tail_position d b) behind ∙ ap (node_at M w) e ∙ p.is;
      back = λ h. absurd (neighbours d M P w a b p e
          (sym (named_end M (step w d b) (head_position d b) behind) ∙ h
          ∙ named_end M (step w d a) (tail_position d a) before));
      on = λ h. p.not_shut;
    }

pub binding_positive : (ks : List Key) → 1 ≤ binding_of ks
binding_positive [] = omega arith
binding_positive (NodeKey n ∷ ks) = omega arith
binding_positive (WayKey w ∷ ks) = omega arith
binding_positive (RelationKey r ∷ ks) = omega arith

module _ (M : Objects) (P : Rules) where
  abbrev pub LinkOf : Step → Step → Type 0
  LinkOf = Link (Passes M P) (Mid M P) (Inner M P) Next

  pair_link : (w : WayId) (i n : ℕ) (d : Dir) (x y : Step) (p : Pair w i n d x y)
      → IsPlain M P w (head_position d p.index) → LinkOf x y
  pair_link w i n d x y p plain = rw p.first (rw p.second (record {
    mid = plain;
    inner = rw p.meets plain;
    next = record { way = refl; dir = refl; at = p.meets };
    follows = straight_on M P w d p.index p.after plain p.meets;
  }))

  at_low : (p : Span) (d : Dir) (k : ℕ) (x : Step) → At p.way p.index (p.end - p.index) d k x → p.index < p.end
      → d ≡ p.dir → (p.index ≤ x.index) × (x.index < p.end) × (x ≡ step p.way p.dir x.index)
  at_low p Forward k x h l e = let f = h.place.0 refl in let g = h.within in let i : x.index
      ≡ h.index = ap (λ s. s.index) h.is in (
        omega arith,
        omega arith,
        h.is
            ∙ (λ j. record { way = p.way; index = (sym i) j; dir = e j }),
      )
  at_low p Backward k x h l e = let f = h.place.1 refl in let g = h.within in let i : x.index
      ≡ h.index = ap (λ s. s.index) h.is in (
        omega arith,
        omega arith,
        h.is
            ∙ (λ j. record { way = p.way; index = (sym i) j; dir = e j }),
      )

  pub stretch : (p : Span) → IsPiece M P p → Stretch (Drives M P) (Passes M P) (Mid M P) (Inner M P) Next (spell p)
  stretch p h = let l = h.ascends in record {
    drives = λ a s b e. let r = at_low p p.dir (length a) s (at_cut p.way p.index (p.end - p.index) p.dir a s b e) l
        refl in rw r.2 (h.drives s.index r.0 r.1);
    links = λ a x y b e. let q = pair_in p.way p.index (p.end - p.index) p.dir a x y b e in
        let low = q.low in let high = q.high in
        pair_link p.way p.index (p.end - p.index) p.dir x y q (h.inner (head_position p.dir q.index) low (omega arith));
  }

  first_of : (l : List Step) → 0 < length l → ((a : List Step) (x y : Step) (b : List Step) → l ≡ a ++ x ∷ y ∷ b
      → Mid M P x) → PieceShape (Mid M P) l
  first_of [] h m = absurd (omega arith)
  first_of (x ∷ l) h m = record { begin = x; others = l; is = refl; mids = m }

  pub length_steps : (w : WayId) (i n : ℕ) (d : Dir) → length (steps_from w i n d) ≡ n
  length_steps w i n Forward = length-forward w i n
  length_steps w i n Backward = length-backward w i n

  pub piece_shape : (p : Span) → IsPiece M P p → PieceShape (Mid M P) (spell p)
  piece_shape p h =
      let l = h.ascends in
      let n = length_steps p.way p.index (p.end - p.index) p.dir in
      first_of (spell p) (rw n (omega arith)) (λ a x y b e. ((stretch p h).links a x y b e).mid)

  -- words

  not_into_end : (w : WayId) (d : Dir) (i : ℕ)
      → ((d ≡ Forward) × (i + 2 ≡ length (line_of M w))) ⊎ ((d ≡ Backward) × (i ≡ 0))
      → IsPlain M P w (head_position d i) → ⊥
  not_into_end w Forward i (inl e) p = let l = p.not_last in let h = e.1 in omega arith
  not_into_end w Forward i (inr e) p = cc (e.0)
  not_into_end w Backward i (inl e) p = cc (e.0)
  not_into_end w Backward i (inr e) p = let l = p.not_first in let h = e.1 in omega arith

  not_from_end : (w : WayId) (d : Dir) (i : ℕ)
      → ((d ≡ Forward) × (i ≡ 0)) ⊎ ((d ≡ Backward) × (i + 2 ≡ length (line_of M w)))
      → IsPlain M P w (tail_position d i) → ⊥
  not_from_end w Forward i (inl e) p = let l = p.not_first in let h = e.1 in omega arith
  not_from_end w Forward i (inr e) p = cc (e.0)
  not_from_end w Backward i (inl e) p = cc (e.0)
  not_from_end w Backward i (inr e) p = let l = p.not_last in let h = e.1 in omega arith

  into_end : (w : WayId) (v : NodeId) (s : Step) → IsEndInto M w v s → Mid M P s → ⊥
  into_end w v s e p = not_into_end s.way s.dir s.index (rw e.of e.end) p

  from_end : (w : WayId) (v : NodeId) (s : Step) → IsEndFrom M w v s → Inner M P s → ⊥
  from_end w v s e p = not_from_end s.way s.dir s.index (rw e.of e.end) p

  -- a list of steps that goes straight on at plain positions and doesn't stop at one
  record Straight (l : List Step) : Type 0 where
    pairs : (a : List Step) (x y : Step) (b : List Step) → l ≡ a ++ x ∷ y ∷ b → Mid M P x → Next x y
    stop : (a : List Step) (x : Step) → l ≡ a ++ x ∷ [] → Mid M P x → ⊥

  straight_nil : Straight []
  straight_nil = record {
    pairs = λ a x y b e. absurd (cons_not_nil a x (y ∷ b) (sym e));
    stop = λ a x e. absurd
        (cons_not_nil a x [] (sym e));
  }

  pairs_over : (V W : List Step) → Straight V → (a : List Step) (z : Step) (c : List Step) (x y : Step) (b : List Step)
      → V ≡ a ++ z ∷ c → x ∷ y ∷ b ≡ (z ∷ c) ++ W → Mid M P x → Next x y
  pairs_over V W s a z [] x y b e f m = absurd (s.stop a x (e ∙ ap (λ v. a ++ v) (cc)) m)
  pairs_over V W s a z (u ∷ c) x y b e f m = s.pairs a x y c (e ∙ ap (λ v. a ++ v) (cc)) m

  stop_over : (V W : List Step) → Straight V → (a : List Step) (z : Step) (c : List Step) (x : Step) → V ≡ a ++ z ∷ c
      → x ∷ [] ≡ (z ∷ c) ++ W → Mid M P x → ⊥
  stop_over V W s a z [] x e f m = s.stop a x (e ∙ ap (λ v. a ++ v) (cc)) m
  stop_over V W s a z (u ∷ c) x e f m = cc

  straight_append : (V W : List Step) → Straight V → Straight W → Straight (V ++ W)
  straight_append V W s t = record {
    pairs = λ a x y b e m. elim (cut V W a (x ∷ y ∷ b) e)
        [ Behind c p q ↦ t.pairs c x y b q m | Before z c p q ↦ pairs_over V W s a z c x y b p q m ];
    stop = λ a x e m. elim (cut V W a (x ∷ []) e)
        [ Behind c p q ↦ t.stop c x q m | Before z c p q ↦ stop_over V W s a z c x p q m ];
  }

  whole_stop : (w : WayId) (n : ℕ) (d : Dir) (a : List Step) (x : Step) → n ≡ length (line_of M w)
      → At w 0 (n - 1) d (length a) x → length a + 1 ≡ n - 1 → Mid M P x → ⊥
  whole_stop w n Forward a x e h l m =
      let f = h.place.0 refl in let g = h.within in
      let p : IsPlain M P w (h.index + 1) = rw h.is at m in let q = p.not_last in omega arith
  whole_stop w n Backward a x e h l m =
      let f = h.place.1 refl in let g = h.within in
      let p : IsPlain M P w h.index = rw h.is at m in let q = p.not_first in omega arith

  straight_whole : (w : WayId) (d : Dir) → Straight (whole_way M w d)
  straight_whole w d = record {
    pairs = λ a x y b e m. pair_next w 0 (length (line_of M w) - 1) d x y
        (pair_in w 0 (length (line_of M w) - 1) d a x y b e);
    stop = λ a x e m. whole_stop w (length (line_of M w)) d a x refl (at_cut w 0 (length (line_of M w) - 1) d a x [] e)
        (sym (length_more a x) ∙ ap length (sym e) ∙ length_steps w 0 (length (line_of M w) - 1) d) m;
  }

  straight_ways : (ks : List Key) (v : NodeId) (via : List Step) (out : NodeId) → IsRun M (is_open M P) ks v via out
      → Straight via
  straight_ways [] v via out h = subst Straight (sym h.0) straight_nil
  straight_ways (NodeKey n ∷ ks) v via out h = absurd h
  straight_ways (WayKey w ∷ ks) v via out h = subst Straight (sym h.6)
      (straight_append (whole_way M w h.0) h.2 (straight_whole w h.0) (straight_ways ks h.1 h.2 out h.7))
  straight_ways (RelationKey r ∷ ks) v via out h = absurd h

  straight_via : (ks : List Key) (v : NodeId) (via : List Step) (out : NodeId) → IsVia M P ks v via out → Straight via
  straight_via [] v via out h = absurd h
  straight_via (NodeKey n ∷ []) v via out h = subst Straight (sym h.1) straight_nil
  straight_via (NodeKey n ∷ k ∷ ks) v via out h = absurd h
  straight_via (WayKey w ∷ ks) v via out h = straight_ways (WayKey w ∷ ks) v via out h
  straight_via (RelationKey r ∷ ks) v via out h = absurd h

  short : (c : List Step) (x y : Step) (q : List Step) (t : Step) → t ∷ [] ≡ c ++ x ∷ y ∷ q → ⊥
  short [] x y q t e = cc
  short (z ∷ c) x y q t e = cons_not_nil c x (y ∷ q) (cc)

  word_pairs : (f : Step) (via : List Step) (t : Step) → (Mid M P f → ⊥) → Straight via
      → (p : List Step) (x y : Step) (q : List Step) → f ∷ (via ++ t ∷ []) ≡ p ++ x ∷ y ∷ q → Mid M P x → Next x y
  word_pairs f via t n s [] x y q e m = let k : x ≡ f = cc in absurd (n (subst (Mid M P) k m))
  word_pairs f via t n s (g ∷ p) x y q e m = elim (cut via (t ∷ []) p (x ∷ y ∷ q) (cc)) [
    | Behind c h k ↦ absurd (short c x y q t k)
    | Before z c h k ↦ pairs_over via (t ∷ []) s p z c x y q h k m
  ]

  pub word_shape : (r : RelationId) (only : Bool) (binding : ℕ) (u : List Step) → IsWord M P r only binding u
      → WordShape (Mid M P) (Inner M P) Next u
  word_shape r only binding u w = record {
    not_nil = λ e. cc (w.spelled, e);
    starts = λ f rest e m. let k : f ≡ w.first = cc (w.spelled, e) in into_end w.from_way w.enter w.first w.first_ends
        (subst (Mid M P) k m);
    stops = λ front t e m. from_end w.to_way w.leave w.last w.last_begins
        (subst (Inner M P) ((same_last front t (w.first ∷ w.via) w.last (sym e ∙ w.spelled)).last) m);
    straight = λ p x y q e m. word_pairs w.first w.via w.last (into_end w.from_way w.enter w.first w.first_ends)
        (straight_via _ w.enter w.via w.leave w.via_is) p x y q (sym w.spelled ∙ e) m;
  }

  pub bound_positive : (n : ℕ) (u : List Step) → OnlyWord M P n u → 1 ≤ n
  bound_positive n u w = let e = w.word.bound in let b = binding_positive _ in rw e b
