-- The walk law, where it is decided whether some word goes on.
use Rattle.std.proofs.Common.{◌≡◌, ◌+◌, ◌≤◌, List, [], ◌∷◌, ◌++◌, length, refl, sym, ap, ◌∙◌, subst, arith}
use Rattle.std.proofs.Common.{append_assoc, append-nil, length-append}
use Rattle.std.proofs.lemmas.List.{nil_from_length}
use Rattle.road_base.specs.declared.ids.Step.{Step}
use Rattle.road_base.specs.Objects.{Objects}
use Rattle.road_model.specs.Rules.{Rules}
use Rattle.road_model.specs.Pieces.{Span, IsPiece, spell}
use Rattle.road_model.specs.Contexts.{Every}
use Rattle.road_model.specs.Network.{Legal, spell_pieces}
use Rattle.road_model.specs.Walks.{WalksTo, IsWalk, IsJunctionDrive, IsSpelled, Carries, HasShortest}
use Rattle.ordered_lists.proofs.Splits.{Ends, Nil, Last, ends}
use Rattle.road_model.proofs.LongestContext.{Every-tail, Every-front, Every-append}
use Rattle.ordered_lists.proofs.Decided.{Decided}
use Rattle.road_model.proofs.Shapes.{piece_shape}
use Rattle.road_model.proofs.PieceLaws.{before_whole, behind_whole}
use Rattle.road_model.proofs.OnePiece.{one_piece}
use Rattle.road_model.proofs.WalkLists.{Continues, reached, one_longest, walk_of, some_steps, spell_pieces-append}
use Rattle.road_model.proofs.WalkLists.{spell_pieces-push}
use Rattle.road_model.proofs.StraightOn.{Pieces, pieces_of, same_pieces, Standing, standing, same_stand, get_split}

pub ends_of : (M : Objects) (P : Rules) (q : Span) → IsPiece M P q → Ends (spell q)
    → (a : List Step) × (x : Step) × (spell q ≡ a ++ x ∷ [])
ends_of M P q i (Nil e) = let f = (piece_shape M P q i).is in cc (f, e)
ends_of M P q i (Last a x e) = (a, x, e)

last_piece : (M : Objects) (P : Rules) (d : List Span) → Ends d → (d ≡ [] → ⊥) → Every (IsPiece M P) d
    → Legal M P (spell_pieces d) → (p : Span) (o : List Span) → d ≡ p ∷ o → IsJunctionDrive M P (spell_pieces d)
last_piece M P d (Nil e) some i l p o g = absurd (some e)
last_piece M P d (Last a q e) some i l p o g =
    let first = piece_shape M P p ((rw g at i).0) in
    let iq = (Every-tail (IsPiece M P) a (q ∷ []) (rw e at i)).0 in
    let t = ends_of M P q iq (ends (spell q)) in
    record {
      legal = l;
      from = p;
      from_is = (rw g at i).0;
      first = first.begin;
      more = first.others;
      from_spelled = first.is;
      rest = first.others ++ spell_pieces o;
      begins = ap spell_pieces g ∙ ap (λ v. v ++ spell_pieces o) first.is;
      to = q;
      to_is = iq;
      front = t.0;
      last = t.1;
      to_spelled = t.2;
      before = spell_pieces a ++ t.0;
      stops = ap spell_pieces e ∙ spell_pieces-push a q ∙ ap (λ v. spell_pieces a ++ v) t.2
          ∙ sym (append_assoc (spell_pieces a) t.0 (t.1 ∷ []));
    }

junction_drive : (M : Objects) (P : Rules) (d : List Span) → (d ≡ [] → ⊥) → Every (IsPiece M P) d
    → Legal M P (spell_pieces d) → IsJunctionDrive M P (spell_pieces d)
junction_drive M P [] some i l = absurd (some refl)
junction_drive M P (p ∷ o) some i l = last_piece M P (p ∷ o) (ends (p ∷ o)) some i l p o refl

-- the walk that a drive makes when its first and last piece are made whole
record Whole (M : Objects) (P : Rules) (s : List Step) : Type 0 where
  p : Span
  ip : IsPiece M P p
  front : List Step
  f : Step
  back : List Step
  p_spelled : spell p ≡ front ++ f ∷ back
  rest : List Step
  begins : s ≡ f ∷ rest
  q : Span
  iq : IsPiece M P q
  before : List Step
  x : Step
  behind : List Step
  q_spelled : spell q ≡ before ++ x ∷ behind
  most : List Step
  stops : s ≡ most ++ x ∷ []

whole_of : (M : Objects) (P : Rules) (s : List Step) → Legal M P s → (f : Step) (rest : List Step) → s ≡ f ∷ rest
    → Ends s → Whole M P s
whole_of M P s l f rest g (Nil e) = absurd (l.not_empty e)
whole_of M P s l f rest g (Last most x e) =
    let o = one_piece M P f (l.drives [] f rest g) in
    let r = get_split M P (spell o.piece) o.place f o.stands.at in
    let u = one_piece M P x (l.drives most x [] e) in
    let v = get_split M P (spell u.piece) u.place x u.stands.at in
    record {
      p = o.piece;
      ip = o.stands.piece;
      front = r.0;
      f = f;
      back = r.1;
      p_spelled = r.2;
      rest = rest;
      begins = g;
      q = u.piece;
      iq = u.stands.piece;
      before = v.0;
      x = x;
      behind = v.1;
      q_spelled = v.2;
      most = most;
      stops = e;
    }

begin_of : (front : List Step) (f : Step) (back l : List Step) → l ≡ front ++ f ∷ back → (rest : List Step)
    → (b : Step) × (more : List Step) × (others : List Step) × (l ≡ b ∷ more) × (front ++ f ∷ rest ≡ b ∷ others)
begin_of [] f back l e rest = (f, back, rest, e, refl)
begin_of (b ∷ front) f back l e rest = (b, front ++ f ∷ back, front ++ f ∷ rest, e, refl)

end_of : (behind before : List Step) (x : Step) (l : List Step) → l ≡ before ++ x ∷ behind → (most : List Step)
    → Ends behind → (y : Step) × (a : List Step) × (c : List Step) × (l ≡ a ++ y ∷ [])
    × (most ++ x ∷ behind ≡ c ++ y ∷ [])
end_of behind before x l e most (Nil n) = (x, before, most, e ∙ ap (λ v. before ++ x ∷ v) n, ap (λ v. most ++ x ∷ v) n)
end_of behind before x l e most (Last b y n)
    = (
      y,
      before ++ x ∷ b,
      most ++ x ∷ b,
      e ∙ ap (λ v. before ++ x ∷ v) n
          ∙ sym (append_assoc before (x ∷ b) (y ∷ [])),
      ap (λ v. most ++ x ∷ v) n ∙ sym (append_assoc most (x ∷ b) (y ∷ [])),
    )

module _ (M : Objects) (P : Rules) (s : List Step) (l : Legal M P s) (w : Whole M P s) where
  -- the drive with its first and last piece made whole
  completed : List Step
  completed = w.front ++ (s ++ w.behind)

  begins_long : s ++ w.behind ≡ w.f ∷ (w.rest ++ w.behind)
  begins_long = ap (λ v. v ++ w.behind) w.begins

  stops_long : w.front ++ (s ++ w.behind) ≡ (w.front ++ w.most) ++ w.x ∷ w.behind
  stops_long = ap (λ v. w.front ++ v) (ap (λ v. v ++ w.behind) w.stops ∙ append_assoc w.most (w.x ∷ []) w.behind)
      ∙ sym (append_assoc w.front w.most (w.x ∷ w.behind))

  long_legal : Legal M P (s ++ w.behind)
  long_legal = subst (λ v. Legal M P (v ++ w.behind)) (sym w.stops)
      (behind_whole M P w.q w.before w.x w.behind w.most w.iq w.q_spelled (subst (Legal M P) w.stops l))

  completed_legal : Legal M P completed
  unfolding completed
  completed_legal = subst (λ v. Legal M P (w.front ++ v)) (sym begins_long)
      (before_whole M P w.p w.front w.f w.back (w.rest ++ w.behind) w.ip w.p_spelled
      (subst (Legal M P) begins_long long_legal))

  pieces_around : Pieces M P completed
  unfolding completed
  pieces_around =
      let b = begin_of w.front w.f w.back (spell w.p) w.p_spelled (w.rest ++ w.behind) in
      let c = end_of w.behind w.before w.x (spell w.q) w.q_spelled (w.front ++ w.most) (ends w.behind) in
      pieces_of M P (w.front ++ (s ++ w.behind)) w.p w.ip b.0 b.1 b.2 b.3 (ap (λ v. w.front ++ v) begins_long ∙ b.4)
      completed_legal w.q w.iq c.1 c.0 c.3 c.2 (stops_long ∙ c.4)

  -- pieces that begin with the drive's first piece and have its last step in their last piece are these
  up_to_last : (d : List Span) (c : List Step) → Every (IsPiece M P) d → (b : Standing M P d (w.front ++ w.most) w.x c)
      → b.before ++ b.piece ∷ [] ≡ pieces_around.list
  unfolding completed
  up_to_last d c i b =
      let j = subst (Every (IsPiece M P)) b.is i in
      let k = (Every-tail (IsPiece M P) b.before (b.piece ∷ b.behind) j).0 in
      let same = same_stand M P b.piece w.q k w.iq b.front w.x b.back w.before w.behind b.spelled w.q_spelled in
      let spelled : spell_pieces (b.before ++ b.piece ∷ []) ≡ w.front ++ (s ++ w.behind) =
      spell_pieces-push b.before b.piece ∙ ap (λ v. spell_pieces b.before ++ v) b.spelled
      ∙ sym (append_assoc (spell_pieces b.before) b.front (w.x ∷ b.back))
      ∙ ap (λ v. v ++ w.x ∷ b.back) (sym b.left) ∙ ap (λ v. (w.front ++ w.most) ++ w.x ∷ v) same.2 ∙ sym stops_long in
      let each = Every-append (IsPiece M P) b.before (b.piece ∷ [])
      (Every-front (IsPiece M P) b.before (b.piece ∷ b.behind) j) (k, tt) in
      same_pieces M P (b.before ++ b.piece ∷ []) pieces_around.list each pieces_around.pieces
      (spelled ∙ sym pieces_around.spelled)

  -- a list of pieces that carries the drive has these pieces among its own
  record Among (e : List Span) : Type 0 where
    left : List Span
    right : List Span
    is : e ≡ left ++ (pieces_around.list ++ right)

  -- what the pieces from the drive's first one on spell
  from_first : (before behind : List Step) (e : List Span) (a : Standing M P e before w.f (w.rest ++ behind))
      → IsPiece M P a.piece → spell_pieces (a.piece ∷ a.behind) ≡ (w.front ++ w.most) ++ w.x ∷ behind
  from_first before behind e a i =
      let same = same_stand M P a.piece w.p i w.ip a.front w.f a.back w.front w.back a.spelled w.p_spelled in
      ap (λ v. v ++ spell_pieces a.behind) a.spelled ∙ append_assoc a.front (w.f ∷ a.back) (spell_pieces a.behind)
      ∙ ap (λ v. a.front ++ w.f ∷ v) (sym a.right) ∙ ap (λ v. v ++ w.f ∷ (w.rest ++ behind)) same.1
      ∙ ap (λ v. w.front ++ (v ++ behind)) (sym w.begins ∙ w.stops)
      ∙ ap (λ v. w.front ++ v) (append_assoc w.most (w.x ∷ []) behind)
      ∙ sym (append_assoc w.front w.most (w.x ∷ behind))

  among_by : (before behind : List Step) (e : List Span) (a : Standing M P e before w.f (w.rest ++ behind))
      → Every (IsPiece M P) (a.piece ∷ a.behind) → Standing M P (a.piece ∷ a.behind) (w.front ++ w.most) w.x behind
      → Among e
  among_by before behind e a i b = record {
    left = a.before;
    right = b.behind;
    is = a.is ∙ ap (λ v. a.before ++ v) (b.is ∙ sym (append_assoc b.before (b.piece ∷ []) b.behind)
        ∙ ap (λ v. v ++ b.behind) (up_to_last (a.piece ∷ a.behind) behind i b));
  }

  among_from : (before behind : List Step) (e : List Span) → Every (IsPiece M P) e
      → Standing M P e before w.f (w.rest ++ behind) → Among e
  among_from before behind e i a =
      let j = Every-tail (IsPiece M P) a.before (a.piece ∷ a.behind) (subst (Every (IsPiece M P)) a.is i) in
      among_by before behind e a j (standing M P (a.piece ∷ a.behind) (w.front ++ w.most) w.x behind
      (from_first before behind e a j.0))

  among : (e : List Span) → Every (IsPiece M P) e → Carries e s → Among e
  among e i c = among_from c.before c.behind e i
      (standing M P e c.before w.f (w.rest ++ c.behind) (c.is ∙ ap (λ v. c.before ++ (v ++ c.behind)) w.begins))

  among_pieces : (e : List Span) (a : Among e)
      → length e ≡ length a.left + (length pieces_around.list + length a.right)
  among_pieces e a = let f = length-append a.left (pieces_around.list ++ a.right) in let g = length-append
      pieces_around.list a.right in ap length a.is ∙ f ∙ ap (λ v. length a.left + v) g

  among_steps : (e : List Span) (a : Among e)
      → length (spell_pieces e) ≡ length (spell_pieces a.left) +
      (length (spell_pieces pieces_around.list) + length (spell_pieces a.right))
  among_steps e a =
      let f = spell_pieces-append a.left (pieces_around.list ++ a.right)
      ∙ ap (λ v. spell_pieces a.left ++ v) (spell_pieces-append pieces_around.list a.right) in
      let g = length-append (spell_pieces a.left) (spell_pieces pieces_around.list ++ spell_pieces a.right) in
      let h = length-append (spell_pieces pieces_around.list) (spell_pieces a.right) in
      ap (λ v. length (spell_pieces v)) a.is ∙ ap length f ∙ g ∙ ap (λ v. length (spell_pieces a.left) + v) h

  no_steps : (d : List Span) → Every (IsPiece M P) d → length (spell_pieces d) ≡ 0 → d ≡ []
  no_steps [] i e = refl
  no_steps (p ∷ d) i e = absurd (some_steps M P p d i.0 (nil_from_length _ e))

  among_alone : (e : List Span) (a : Among e) → a.left ≡ [] → a.right ≡ [] → e ≡ pieces_around.list
  among_alone e a x y = a.is ∙ ap (λ v. v ++ (pieces_around.list ++ a.right)) x ∙ ap (λ v. pieces_around.list ++ v) y
      ∙ append-nil _

  only_pieces : (e : List Span) → Among e → length e ≤ length pieces_around.list → e ≡ pieces_around.list
  only_pieces e a h = let k = among_pieces e a in among_alone e a (nil_from_length a.left (omega arith))
      (nil_from_length a.right (omega arith))

  only_steps : (e : List Span) → Every (IsPiece M P) e → Among e
      → length (spell_pieces e) ≤ length (spell_pieces pieces_around.list) → e ≡ pieces_around.list
  only_steps e i a h =
      let k = among_steps e a in
      let j = subst (Every (IsPiece M P)) a.is i in
      let left = Every-front (IsPiece M P) a.left (pieces_around.list ++ a.right) j in
      let right = Every-tail (IsPiece M P) pieces_around.list a.right
      (Every-tail (IsPiece M P) a.left (pieces_around.list ++ a.right) j) in
      among_alone e a (no_steps a.left left (omega arith)) (no_steps a.right right (omega arith))

walk_pieces : (M : Objects) (P : Rules) (d : List Span) → IsWalk M P d → Every (IsPiece M P) d
walk_pieces M P d w = (reached M P d w.context w.walks).pieces

walk_some : (M : Objects) (P : Rules) (d c : List Span) → WalksTo M P d c → d ≡ [] → ⊥
walk_some M P d c w e = let r = reached M P d c w in r.legal.not_empty (ap spell_pieces e)

pub spelled : (M : Objects) (P : Rules) (d : List Span) → IsWalk M P d → IsJunctionDrive M P (spell_pieces d)
spelled M P d w = let r = reached M P d w.context w.walks in junction_drive M P d (walk_some M P d w.context w.walks)
    r.pieces r.legal

pub one_to_one : (M : Objects) (P : Rules) (d e : List Span) → IsWalk M P d → IsWalk M P e
    → spell_pieces d ≡ spell_pieces e → d ≡ e
one_to_one M P d e v w h = same_pieces M P d e (walk_pieces M P d v) (walk_pieces M P e w) h

-- the pieces of a walk determine its context
pub one_walk : (M : Objects) (P : Rules) (d b c : List Span) → WalksTo M P d b → WalksTo M P d c → b ≡ c
one_walk M P d b c v w = one_longest M P d b c (reached M P d b v).longest (reached M P d c w).longest

module _ (M : Objects) (P : Rules) (continues : (v : List Step) → Decided (Continues M P v)) where
  as_walk : (d : List Span) → (d ≡ [] → ⊥) → Every (IsPiece M P) d → Legal M P (spell_pieces d) → IsWalk M P d
  as_walk d some i l = let r = walk_of M P continues d some i l in record { context = r.0; walks = r.1 }

  pub onto : (s : List Step) → IsJunctionDrive M P s → IsSpelled M P s
  onto s j =
      let r = pieces_of M P s j.from j.from_is j.first j.more j.rest j.from_spelled j.begins j.legal j.to j.to_is
      j.front j.last j.to_spelled j.before j.stops in
      record { walk = r.list; is = as_walk r.list r.some r.pieces (rw r.spelled j.legal); spelled = r.spelled }

  shortest_of : (s : List Step) (l : Legal M P s) (w : Whole M P s) → HasShortest M P s
  unfolding completed
  shortest_of s l w =
      let r = pieces_around M P s l w in
      record {
        walk = r.list;
        is = as_walk r.list r.some r.pieces (rw r.spelled (completed_legal M P s l w));
        carries = record { before = w.front; behind = w.behind; is = r.spelled };
        least_pieces = λ e k c. let n = among_pieces M P s l w e (among M P s l w e (walk_pieces M P e k) c) in omega
            arith;
        only_by_pieces = λ e k c h. only_pieces M P s l w e (among M P s l w e (walk_pieces M P e k) c) h;
        least_steps = λ e k c. let n = among_steps M P s l w e (among M P s l w e (walk_pieces M P e k) c) in omega
            arith;
        only_by_steps = λ e k c h. let i = walk_pieces M P e k in only_steps M P s l w e i (among M P s l w e i c) h;
      }

  pub shortest : (s : List Step) → Legal M P s → HasShortest M P s
  shortest [] l = absurd (l.not_empty refl)
  shortest (f ∷ rest) l = shortest_of (f ∷ rest) l (whole_of M P (f ∷ rest) l f rest refl (ends (f ∷ rest)))
