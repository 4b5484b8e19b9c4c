-- A legal drive goes straight on inside a piece, so one from junction to junction is the spelling of pieces.
use Rattle.std.proofs.Common.{◌≡◌, ℕ, suc, zero, ◌+◌, ◌-◌, ◌<◌, ◌≤◌, List, [], ◌∷◌, ◌++◌, length, ◌⊎◌, inl, inr, refl}
use Rattle.std.proofs.Common.{sym, ap, ◌∙◌, subst, arith, true, false, Bool, ◌||◌, Some, IsTrue, slice_get}
use Rattle.std.proofs.Common.{append_assoc, append-nil, length-append}
use Rattle.std.proofs.lemmas.Bool.{false≢true}
use Rattle.road_base.specs.declared.ids.NodeId.{NodeId}
use Rattle.road_base.specs.declared.ids.WayId.{WayId}
use Rattle.road_base.specs.declared.ids.Step.{Step}
use Rattle.road_base.specs.declared.ids.Dir.{Dir}
use Rattle.road_base.specs.declared.ids.Dir.TheVariants.{Forward, Backward}
use Rattle.road_base.specs.Objects.{Objects}
use Rattle.road_model.specs.Rules.{Rules}
use Rattle.road_model.specs.Lines.{node_at, head_of, tail_of, head_position, tail_position}
use Rattle.road_model.specs.Driving.{is_open, is_road, located, Leaves, MayTurn, AtPlace, AtShut, AtDeadEnd, Passes}
use Rattle.road_model.specs.Pieces.{IsPlain, Span, IsPiece, BeginsPiece, spell}
use Rattle.road_model.specs.Contexts.{Every}
use Rattle.road_model.specs.Network.{Drives, Legal, spell_pieces}
use Rattle.ordered_lists.proofs.Splits.{Behind, Before, cut, cons_not_nil, same_last, Ends, Nil, Last, ends}
use Rattle.road_model.proofs.OnePiece.{one_piece, parts, from_parts, plain_here}
use Rattle.road_model.proofs.StepEnds.{named_end, end_named, drives_named}
use Rattle.road_model.proofs.StepPlaces.{step}
use Rattle.road_model.proofs.Shapes.{Mid, Inner, Next, one_next, stretch, piece_shape, At, at_cut, get_cut, length_more}
use Rattle.road_model.proofs.Shapes.{length_steps}
use Rattle.road_model.proofs.WalkLists.{inner_legal, some_steps}

road_by : (a b : Bool) → (a ≡ true) ⊎ (b ≡ true) → (a || b) ≡ true
road_by true b h = refl
road_by false true h = refl
road_by false false (inl h) = h
road_by false false (inr h) = h

module _ (M : Objects) (P : Rules) where
  open_road : (w : WayId) (d : Dir) → IsTrue (is_open M P w d) → IsTrue (is_road M P w)
  open_road w Forward h = road_by _ _ (inl h)
  open_road w Backward h = road_by _ _ (inr h)

  pub road_of : (s : Step) → Drives M P s → IsTrue (is_road M P s.way)
  road_of s h = open_road s.way s.dir ((parts M P s.way s.dir s.index h).is_free)

  -- the step back over the same stretch isn't allowed at a plain position
  no_turn : (w : WayId) (i : ℕ) (n : NodeId) (t u : Step) → (p : IsPlain M P w i) → p.node ≡ n → Drives M P u
      → tail_of M u ≡ Some n → (u ≡ t → ⊥) → MayTurn M P n t → ⊥
  no_turn w i n t u p e d g ne (AtPlace h) = false≢true (sym (rw (← e) p.no_turning) ∙ h)
  no_turn w i n t u p e d g ne (AtShut h) = false≢true (sym (rw (← e) p.not_shut) ∙ h)
  no_turn w i n t u p e d g ne (AtDeadEnd l h) = ne (h u (record { drives = d; tail = g }))

  -- the step straight on from a plain position is drivable
  on_drives : (w : WayId) (d : Dir) (a : ℕ) → Drives M P (step w d a) → IsPlain M P w (head_position d a)
      → (b : ℕ) × Drives M P (step w d b) × (tail_position d b ≡ head_position d a)
  on_drives w Forward a h p = (
    a + 1,
    from_parts M P w Forward (a + 1) ((parts M P w Forward a h).is_free)
        (plain_here M P w (a + 1) p) p.behind,
    refl,
  )
  on_drives w Backward a h p =
      let l = p.not_first in let e : a ≡ a - 1 + 1 = omega arith in (
        a - 1,
        from_parts M P w Backward (a - 1) ((parts M P w Backward a h).is_free) p.before
            (subst (λ x. IsTrue (located M (node_at M w x))) e (plain_here M P w a p)),
        sym e,
      )

  same_or_back : (d e : Dir) → (e ≡ d) ⊎ ((e ≡ d → ⊥)
      × ((a b : ℕ) → tail_position e b ≡ head_position d a → head_position e b ≡ tail_position d a))
  same_or_back Forward Forward = inl refl
  same_or_back Forward Backward = inr ((λ e. cc), (λ a b e. omega arith))
  same_or_back Backward Forward = inr ((λ e. cc), (λ a b e. omega arith))
  same_or_back Backward Backward = inl refl

  -- what follows a step that ends at a plain position is the next step of its way
  pub goes_straight : (x y : Step) → Drives M P x → Drives M P y → Passes M P x y → Mid M P x → Next x y
  goes_straight x y dx dy f p =
      let ends = end_named M x (head_position x.dir x.index) f.node f.from in
      let begins = end_named M y (tail_position y.dir y.index) f.node f.to in
      let n : p.node ≡ f.node = let g = p.is in let h = ends.1 in cc (g, h) in
      let here = p.alone y.way (tail_position y.dir y.index) (road_of y dy) (begins.1 ∙ ap Some (sym n)) in
      elim (same_or_back x.dir y.dir) [
        | inl e ↦ record { way = here.0; dir = e; at = here.1 }
        | inr r ↦
            let u = on_drives x.way x.dir x.index dx p in
            let t = step x.way x.dir u.0 in
            let there : node_at M y.way (head_position y.dir y.index) ≡ node_at M x.way (tail_position x.dir x.index) =
            rw (here.0, r.1 x.index y.index here.1) refl in
            let back : head_of M y ≡ tail_of M x = named_end M y (head_position y.dir y.index) begins.0 ∙ there
            ∙ sym (named_end M x (tail_position x.dir x.index) ends.0) in
            absurd (no_turn x.way (head_position x.dir x.index) f.node y t p n u.1
            (named_end M t (tail_position x.dir u.0) (drives_named M P t u.1) ∙ ap (node_at M x.way) u.2 ∙ ends.1)
            (λ e. r.0 (ap (λ s. s.dir) (sym e))) (f.back back))
      ]

  -- a step that ends where one begins at a plain position ends at that position
  ends_there : (x y : Step) (v : NodeId) → Drives M P x → head_of M x ≡ Some v → tail_of M y ≡ Some v → Inner M P y
      → Mid M P x
  ends_there x y v dx to from p =
      let ends = (end_named M x (head_position x.dir x.index) v to).1 in
      let begins = (end_named M y (tail_position y.dir y.index) v from).1 in
      let n : p.node ≡ v = let g = p.is in cc (g, begins) in
      let here = p.alone x.way (head_position x.dir x.index) (road_of x dx) (ends ∙ ap Some (sym n)) in
      rw (here.0, here.1) p

  -- the last step of a piece ends at a junction
  last_place : (p : Span) (d : Dir) (k : ℕ) (x : Step) → At p.way p.index (p.end - p.index) d k x
      → k + 1 ≡ p.end - p.index → p.index < p.end
      → (head_position d x.index ≡ p.index) ⊎ (head_position d x.index ≡ p.end)
  last_place p Forward k x h l a = let f = h.place.0 refl in let i : x.index
      ≡ h.index = ap (λ s. s.index) h.is in inr (omega arith)
  last_place p Backward k x h l a = let f = h.place.1 refl in let i : x.index
      ≡ h.index = ap (λ s. s.index) h.is in inl (omega arith)

  pub last_not_mid : (p : Span) → IsPiece M P p → (a : List Step) (x : Step) → spell p ≡ a ++ x ∷ [] → Mid M P x → ⊥
  last_not_mid p h a x e m =
      let t = at_cut p.way p.index (p.end - p.index) p.dir a x [] e in
      let w : x.way ≡ p.way = ap (λ s. s.way) t.is in
      let d : x.dir ≡ p.dir = ap (λ s. s.dir) t.is in
      let n : length a + 1 ≡ p.end - p.index = sym (length_more a x) ∙ ap length (sym e)
      ∙ length_steps M P p.way p.index (p.end - p.index) p.dir in
      let k : IsPlain M P p.way (head_position p.dir x.index) = rw (w, d) at m in
      elim (last_place p p.dir (length a) x t n h.ascends) [ inl f ↦ h.first (rw f at k) | inr f ↦ h.last (rw f at k) ]

  Stops : List Step → Type 0
  Stops s = (c : List Step) (y : Step) → s ≡ c ++ y ∷ [] → Mid M P y → ⊥

  -- a legal drive that has begun a piece goes on to the piece's end
  follow : (p : Span) → IsPiece M P p → (s : List Step) → Legal M P s → Stops s
      → (a : List Step) (x : Step) (b r : List Step) → spell p ≡ a ++ x ∷ b → s ≡ a ++ x ∷ r
      → (t : List Step) × (s ≡ spell p ++ t)
  unfolding Stops
  follow p h s l stop a x [] r e f = (r, f ∙ sym (ap (λ v. v ++ r) e ∙ append_assoc a _ _))
  follow p h s l stop a x (y ∷ b) [] e f = absurd (stop a x f ((stretch M P p h).links a x y b e).mid)
  follow p h s l stop a x (y ∷ b) (z ∷ r) e f =
      let k = (stretch M P p h).links a x y b e in
      let dx = l.drives a x (z ∷ r) f in
      let dz = l.drives (a ++ x ∷ []) z r (f ∙ sym (append_assoc a _ _)) in
      let g : z ≡ y = one_next x z y (goes_straight x z dx dz (l.follows a x z r f) k.mid) k.next in
      follow p h s l stop (a ++ x ∷ []) y b r (e ∙ sym (append_assoc a _ _))
      (f ∙ ap (λ v. a ++ x ∷ v ∷ r) g ∙ sym (append_assoc a _ _))

  -- where an element stands
  pub get_split : (l : List Step) (k : ℕ) (y : Step) → slice_get l k ≡ Some y
      → (a : List Step) × (b : List Step) × (l ≡ a ++ y ∷ b)
  get_split [] k y e = cc
  get_split (x ∷ l) zero y e = ([], l, cc)
  get_split (x ∷ l) (suc k) y e = let r = get_split l k y e in (x ∷ r.0, r.1, ap (λ v. x ∷ v) r.2)

  -- where a piece ends, a step that leaves is the first of its piece
  first_of_piece : (p : Span) → IsPiece M P p → (k : List Step) (x : Step) → spell p ≡ k ++ x ∷ []
      → (y : Step) (v : NodeId) → head_of M x ≡ Some v → tail_of M y ≡ Some v → (q : Span) → IsPiece M P q
      → (a b : List Step) → spell q ≡ a ++ y ∷ b → Ends a → spell q ≡ y ∷ b
  first_of_piece p h k x e y v to from q i a b g (Nil n) = g ∙ ap (λ l. l ++ y ∷ b) n
  first_of_piece p h k x e y v to from q i a b g (Last a' z n) =
      let link = (stretch M P q i).links a' z y b (g ∙ ap (λ l. l ++ y ∷ b) n ∙ append_assoc a' _ _) in
      absurd (last_not_mid p h k x e (ends_there x y v ((stretch M P p h).drives k x [] e) to from link.inner))

  pub begins_piece : (p : Span) → IsPiece M P p → (k : List Step) (x : Step) → spell p ≡ k ++ x ∷ []
      → (y : Step) (v : NodeId) → head_of M x ≡ Some v → Leaves M P v y → BeginsPiece M P y
  begins_piece p h k x e y v to leaves =
      let o = one_piece M P y leaves.drives in
      let r = get_split (spell o.piece) o.place y o.stands.at in
      record {
        piece = o.piece;
        is = o.stands.piece;
        more = r.1;
        begins = first_of_piece p h k x e y v to leaves.tail
            o.piece o.stands.piece r.0 r.1 r.2 (ends r.0);
      }

  pub record Pieces (s : List Step) : Type 0 where
    pub list : List Span
    pub some : list ≡ [] → ⊥
    pub pieces : Every (IsPiece M P) list
    pub spelled : spell_pieces list ≡ s

  one_more : (p : Span) → IsPiece M P p → (s t : List Step) → s ≡ spell p ++ t → Pieces t → Pieces s
  one_more p h s t e r = record {
    list = p ∷ r.list;
    some = λ g. cc;
    pieces = (h, r.pieces);
    spelled = ap
        (λ v. spell p ++ v) r.spelled ∙ sym e;
  }

  stop_rest : (s v t : List Step) → s ≡ v ++ t → Stops s → Stops t
  unfolding Stops
  stop_rest s v t g stop c y e m = stop (v ++ c) y (g ∙ ap (λ u. v ++ u) e ∙ sym (append_assoc v c _)) m

  Again : ℕ → Type 0
  Again n = (s : List Step) → length s ≤ n → (p : Span) → IsPiece M P p → (f : Step) (more rest : List Step)
      → spell p ≡ f ∷ more → s ≡ f ∷ rest → Legal M P s → Stops s → Pieces s

  cut_rest : (n : ℕ) → Again n → (s : List Step) → length s ≤ suc n → (p : Span) → IsPiece M P p
      → (f : Step) (more : List Step) → spell p ≡ f ∷ more → Legal M P s → Stops s → (t : List Step) → s ≡ spell p ++ t
      → Ends (spell p) → Pieces s
  unfolding Again
  cut_rest n again s b p h f more e l stop [] g k = record
      { list = p ∷ []; some = λ q. cc; pieces = (h, tt); spelled = sym g }
  cut_rest n again s b p h f more e l stop (y ∷ t) g (Nil q) = cc (e, q)
  cut_rest n again s b p h f more e l stop (y ∷ t) g (Last k x q) =
      let whole : s ≡ k ++ x ∷ y ∷ t = g ∙ ap (λ v. v ++ y ∷ t) q ∙ append_assoc k _ _ in
      let f = l.follows k x y t whole in
      let o = begins_piece p h k x q y f.node f.from
      (record { drives = l.drives (k ++ x ∷ []) y t (whole ∙ sym (append_assoc k _ _)); tail = f.to }) in
      let legal = inner_legal M P (spell p) (y ∷ t) [] (λ z. cc)
      (subst (Legal M P) (g ∙ ap (λ v. spell p ++ v) (sym (append-nil (y ∷ t)))) l) in
      let shorter : length (y ∷ t) ≤ n = let w = ap length g in let v = length-append (spell p) (y ∷ t) in let u = ap
      length e in omega arith in
      one_more p h s (y ∷ t) g (again (y ∷ t) shorter o.piece o.is y o.more t o.begins refl legal
      (stop_rest s (spell p) (y ∷ t) g stop))

  cut_pieces : (n : ℕ) → Again n
  unfolding Again
  cut_pieces zero s b p h f more rest e g l stop = let w = ap length g in absurd (omega arith)
  cut_pieces (suc n) s b p h f more rest e g l stop = let t = follow p h s l stop [] f more rest e g in cut_rest n
      (cut_pieces n) s b p h f more e l stop t.0 t.1 (ends (spell p))

  -- a drive from junction to junction is the spelling of pieces
  pub pieces_of : (s : List Step) (p : Span) → IsPiece M P p → (f : Step) (more rest : List Step) → spell p ≡ f ∷ more
      → s ≡ f ∷ rest → Legal M P s → (q : Span) → IsPiece M P q → (front : List Step) (x : Step)
      → spell q ≡ front ++ x ∷ [] → (before : List Step) → s ≡ before ++ x ∷ [] → Pieces s
  unfolding Again Stops
  pieces_of s p h f more rest e g l q i front x k before stop =
      cut_pieces (length s) s (omega arith) p h f more rest e g l
      (λ c y j m. let r = same_last before x c y (sym stop ∙ j) in last_not_mid q i front x k
      (subst (Mid M P) (sym r.last) m))

  -- a step stands in one piece at one place
  same_split : (a c : List Step) (f : Step) (b d : List Step) → length a ≡ length c → a ++ f ∷ b ≡ c ++ f ∷ d
      → (a ≡ c) × (b ≡ d)
  same_split [] [] f b d l e = (refl, cc)
  same_split [] (y ∷ c) f b d l e = absurd (omega arith)
  same_split (x ∷ a) [] f b d l e = absurd (omega arith)
  same_split (x ∷ a) (y ∷ c) f b d l e = let r = same_split a c f b d (omega arith) (cc) in (cc (r.0), r.1)

  pub same_stand : (p q : Span) → IsPiece M P p → IsPiece M P q → (a : List Step) (f : Step) (b c d : List Step)
      → spell p ≡ a ++ f ∷ b → spell q ≡ c ++ f ∷ d → (p ≡ q) × (a ≡ c) × (b ≡ d)
  same_stand p q h i a f b c d e g =
      let o = one_piece M P f ((stretch M P p h).drives a f b e) in
      let x = o.only p (length a) (record { piece = h; at = ap (λ l. slice_get l (length a)) e ∙ get_cut a f b }) in
      let y = o.only q (length c) (record { piece = i; at = ap (λ l. slice_get l (length c)) g ∙ get_cut c f d }) in
      let same : p ≡ q = x.0 ∙ sym y.0 in
      let r = same_split a c f b d (x.1 ∙ sym y.1) (sym e ∙ ap spell same ∙ g) in
      (same, r.0, r.1)

  pub cancel : (a b c : List Step) → a ++ b ≡ a ++ c → b ≡ c
  cancel [] b c e = e
  cancel (x ∷ a) b c e = cancel a b c (cc)

  -- lists of pieces with the same spelling are the same
  pub same_pieces : (d e : List Span) → Every (IsPiece M P) d → Every (IsPiece M P) e → spell_pieces d ≡ spell_pieces e
      → d ≡ e
  same_pieces [] [] i j e = refl
  same_pieces [] (q ∷ d) i j e = absurd (some_steps M P q d j.0 (sym e))
  same_pieces (p ∷ c) [] i j e = absurd (some_steps M P p c i.0 e)
  same_pieces (p ∷ c) (q ∷ d) i j e =
      let f = piece_shape M P p i.0 in let g = piece_shape M P q j.0 in
      let h : f.begin ≡ g.begin = let u = f.is in let v = g.is in cc (u, v, e) in
      let r = same_stand p q i.0 j.0 [] f.begin f.others [] g.others f.is (g.is ∙ ap (λ v. v ∷ g.others) (sym h)) in
      let t = same_pieces c d i.1 j.1 (cancel (spell p) _ _ (e ∙ ap (λ v. spell v ++ spell_pieces d) (sym r.0))) in
      cc (r.0, t)

  -- where a step stands in a list of pieces
  pub record Standing (e : List Span) (x : List Step) (f : Step) (y : List Step) : Type 0 where
    pub before : List Span
    pub piece : Span
    pub behind : List Span
    pub is : e ≡ before ++ piece ∷ behind
    pub front : List Step
    pub back : List Step
    pub spelled : spell piece ≡ front ++ f ∷ back
    pub left : x ≡ spell_pieces before ++ front
    pub right : y ≡ back ++ spell_pieces behind

  standing_more : (p : Span) (e : List Span) (c x : List Step) (f : Step) (y : List Step) → x ≡ spell p ++ c
      → Standing e c f y → Standing (p ∷ e) x f y
  standing_more p e c x f y g r = record {
    before = p
        ∷ r.before;
    piece = r.piece;
    behind = r.behind;
    is = ap (λ v. p ∷ v) r.is;
    front = r.front;
    back = r.back;
    spelled
        = r.spelled;
    left = g ∙ ap (λ v. spell p ++ v) r.left ∙ sym (append_assoc (spell p) _ _);
    right = r.right;
  }

  pub standing : (e : List Span) (x : List Step) (f : Step) (y : List Step) → spell_pieces e ≡ x ++ f ∷ y
      → Standing e x f y
  standing [] x f y g = absurd (cons_not_nil x f y (sym g))
  standing (p ∷ e) x f y g = elim (cut (spell p) (spell_pieces e) x (f ∷ y) g) [
    | Behind c h k ↦ standing_more p e c x f y h (standing e c f y k)
    | Before z c h k ↦ record {
      before = [];
      piece = p;
      behind = e;
      is = refl;
      front = x;
      back = c;
      spelled = h
          ∙ ap (λ v. x ++ v) (cc);
      left = refl;
      right = cc;
    }
  ]
