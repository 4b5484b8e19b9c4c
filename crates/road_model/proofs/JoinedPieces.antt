-- One piece behind legal pieces: its first step decides.
use Rattle.std.proofs.Common.{◌≡◌, ◌↔◌, List, [], ◌∷◌, ◌++◌, sym, ap, ◌∙◌, subst, append_assoc, append-nil}
use Rattle.road_base.specs.declared.ids.Step.{Step}
use Rattle.road_base.specs.Objects.{Objects}
use Rattle.road_model.specs.Rules.{Rules}
use Rattle.road_model.specs.Driving.{Passes}
use Rattle.road_model.specs.Pieces.{Span, IsPiece, spell}
use Rattle.road_model.specs.Network.{Drives, NoWord, Legal, Must, GoesOn}
use Rattle.ordered_lists.proofs.Splits.{Behind, Before, cut, cons_not_nil, same_last, Ends, Nil, Last, ends}
use Rattle.road_model.proofs.Shapes.{stretch}
use Rattle.road_model.proofs.PieceLaws.{behind_whole}

module _ (M : Objects) (P : Rules) where
  -- what makes a drive with one step more legal holds of it
  pub goes_on : (d more : List Step) (t : Step) → (d ≡ [] → ⊥) → Legal M P (d ++ t ∷ more) → GoesOn M P d t
  goes_on d more t some l = record {
    passes = λ a s e. l.follows a s t more (ap (λ v. v ++ t ∷ more) e ∙ append_assoc a (s ∷ []) (t ∷ more));
    no = λ a u e w. l.no a u more (sym (append_assoc d (t ∷ []) more) ∙ ap (λ v. v ++ more) e ∙ append_assoc a u more)
        w;
    only = λ a p e x m. l.only a p t more (ap (λ v. v ++ t ∷ more) e ∙ append_assoc a p (t ∷ more)) x m;
  }

  module _ (d : List Step) (t : Step) (l : Legal M P d) (drives : Drives M P t) (g : GoesOn M P d t) where
    drives_last : (c : List Step) (x : Step) (b : List Step) → t ∷ [] ≡ c ++ x ∷ b → Drives M P x
    drives_last [] x b e = let k : t ≡ x = cc in subst (Drives M P) k drives
    drives_last (z ∷ c) x b e = absurd (cons_not_nil c x b (cc))

    -- a cut before the last step falls in the drive
    pair_last : (a : List Step) (z : Step) (c : List Step) (x y : Step) (b : List Step) → d ≡ a ++ z ∷ c
        → x ∷ y ∷ b ≡ (z ∷ c) ++ t ∷ [] → Passes M P x y
    pair_last a z [] x y b e q = let k : y ≡ t = cc in let j : z
        ≡ x = cc in subst (Passes M P x) (sym k) (g.passes a x (e ∙ ap (λ v. a ++ v ∷ []) j))
    pair_last a z (w ∷ c) x y b e q = l.follows a x y c (e ∙ ap (λ v. a ++ v) (cc))

    short : (c : List Step) (x y : Step) (b : List Step) → t ∷ [] ≡ c ++ x ∷ y ∷ b → ⊥
    short [] x y b e = cc
    short (z ∷ c) x y b e = cons_not_nil c x (y ∷ b) (cc)

    no_last : (a u b : List Step) → d ++ t ∷ [] ≡ a ++ (u ++ b) → Ends b → NoWord M P u → ⊥
    no_last a u b e (Nil n) w = g.no a u (e ∙ ap (λ v. a ++ (u ++ v)) n ∙ ap (λ v. a ++ v) (append-nil u)) w
    no_last a u b e (Last b' y n) w =
        let r = same_last d t (a ++ (u ++ b')) y
        (e ∙ ap (λ v. a ++ (u ++ v)) n ∙ ap (λ v. a ++ v) (sym (append_assoc u b' (y ∷ [])))
        ∙ sym (append_assoc a (u ++ b') (y ∷ []))) in
        l.no a u b' r.front w

    only_last : (a p : List Step) (y : Step) (b : List Step) → d ++ t ∷ [] ≡ a ++ (p ++ y ∷ b) → Ends b → (x : Step)
        → Must M P p x → Must M P p y
    only_last a p y b e (Nil n) x m =
        let r = same_last d t (a ++ p) y (e ∙ ap (λ v. a ++ (p ++ y ∷ v)) n ∙ sym (append_assoc a p (y ∷ []))) in
        subst (Must M P p) r.last (g.only a p r.front x m)
    only_last a p y b e (Last b' z n) x m =
        let r = same_last d t (a ++ (p ++ y ∷ b')) z
        (e ∙ ap (λ v. a ++ (p ++ y ∷ v)) n ∙ ap (λ v. a ++ v) (sym (append_assoc p (y ∷ b') (z ∷ [])))
        ∙ sym (append_assoc a (p ++ y ∷ b') (z ∷ []))) in
        l.only a p y b' r.front x m

    -- a legal drive and a step that may go on there are a legal drive
    pub one_more : Legal M P (d ++ t ∷ [])
    one_more = record {
      not_empty = λ e. cons_not_nil d t [] e;
      drives = λ a x b e. elim (cut d (t ∷ []) a (x ∷ b) e) [
        | Behind c p q ↦ drives_last c x b q
        | Before z c p q ↦ l.drives a x c (p ∙ ap (λ v. a ++ v) (cc))
      ];
      follows = λ a x y b e. elim (cut d (t ∷ []) a (x ∷ y ∷ b) e) [
        | Behind c p q ↦ absurd (short c x y b q)
        | Before z c p q ↦ pair_last a z c x y b p q
      ];
      no = λ a u b e w. no_last a u b e (ends b) w;
      only = λ a p y b e x m. only_last a p y b e (ends b) x m;
    }

  pub one_junction : (d : List Step) (t : Span) (first : Step) (more : List Step) → (d ≡ [] → ⊥) → Legal M P d
      → IsPiece M P t → spell t ≡ first ∷ more → Legal M P (d ++ spell t) ↔ GoesOn M P d first
  one_junction d t first more some l i e = (
    (λ h. goes_on d more first some (subst (λ v. Legal M P (d ++ v)) e h)),
    (λ g. let drives = (stretch M P t i).drives [] first more e in
        subst (λ v. Legal M P v) (append_assoc d (first ∷ []) more ∙ ap (λ v. d ++ v) (sym e))
        (behind_whole M P t [] first more d i e (one_more d first l drives g))),
  )
