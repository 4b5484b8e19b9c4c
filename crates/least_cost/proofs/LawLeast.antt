-- Why certified numbers at the contexts show what they are for.
use Rattle.std.proofs.Common.{◌≡◌, ℕ, ◌+◌, List, [], ◌∷◌, ◌++◌, Option, Some, None, take, drop}
use Rattle.std.proofs.Common.{refl, sym, ap, ◌∙◌, subst, append_assoc, append-nil}
use Rattle.road_base.specs.declared.ids.NodeId.{NodeId}
use Rattle.road_base.specs.declared.ids.Step.{Step}
use Rattle.road_base.specs.Objects.{Objects}
use Rattle.road_model.specs.Rules.{Rules}
use Rattle.road_model.specs.Pieces.{Span, IsPiece, spell}
use Rattle.road_model.specs.Network.{spell_pieces}
use Rattle.road_model.specs.Walks.{WalksTo, Start, Go}
use Rattle.road_model.proofs.WalkLists.{spell_pieces-push}
use Rattle.context_search.specs.Reaching.{LeadsTo}
use Rattle.context_search.specs.Searching.{BeginsAt, along_pieces}
use Rattle.context_search.specs.DriveOver.{LiesOver, InOne, OnMany}
use Rattle.context_search.proofs.DriveOver.{walk_some}
use Rattle.least_cost.specs.Costs.{plus, cost_of}
use Rattle.least_cost.specs.Certified.{AtMost, Certified, IsLeastFor, HasCosts}
use Rattle.least_cost.proofs.LawCosts.{cost_append, at_most_trans, plus_at_most}

module _ (M : Objects) (P : Rules) (a b : NodeId) (C : Option ℕ) (pi : List Span → Option ℕ)
    (k : Certified M P a b C pi) where
  -- from step i of the first piece of a walk on, to the end of its last one
  abbrev walked : Span → ℕ → List Span → List Step
  walked p i whole = drop i (spell p) ++ spell_pieces whole

  walked_push : (p : Span) (i : ℕ) (whole : List Span) (t : Span)
      → cost_of M (walked p i (whole ++ t ∷ [])) ≡ plus (cost_of M (walked p i whole)) (cost_of M (spell t))
  walked_push p i whole t =
      ap (λ v. cost_of M (drop i (spell p) ++ v)) (spell_pieces-push whole t)
      ∙ ap (λ v. cost_of M v) (sym (append_assoc (drop i (spell p)) (spell_pieces whole) (spell t)))
      ∙ cost_append M (walked p i whole) (spell t)

  -- the number at the context of a walk from a is at most what was driven
  pub walk_bound : (d c : List Span) → WalksTo M P d c → (p : Span) (whole : List Span) → d ≡ p ∷ whole → (i : ℕ)
      → BeginsAt M p i a → AtMost (pi c) (cost_of M (walked p i whole))
  walk_bound d c (Start q h e f) p [] g i s =
      let same : p ≡ q = cc (e, g) in
      subst (λ v. AtMost (pi v) (cost_of M (walked p i []))) (ap (λ v. v ∷ []) same ∙ sym f)
      (subst (λ v. AtMost (pi (p ∷ [])) (cost_of M v)) (sym (append-nil (drop i (spell p))))
      (k.begins p i (subst (IsPiece M P) (sym same) h) s))
  walk_bound d c (Start q h e f) p (r ∷ whole) g i s = absurd (cc (e, g))
  walk_bound d c (Go [] l t w arc e) p whole g i s = absurd (walk_some M P [] l w refl)
  walk_bound d c (Go (r ∷ o) l t w arc e) p whole g i s =
      let same : r ≡ p = cc (e, g) in
      let more : o ++ t ∷ [] ≡ whole = cc (e, g) in
      let before = walk_bound (r ∷ o) l w r o refl i (subst (λ v. BeginsAt M v i a) (sym same) s) in
      let bound : AtMost (pi c) (cost_of M (walked r i (o ++ t ∷ []))) = subst (λ v. AtMost (pi c) v)
      (sym (walked_push r i o t))
      (at_most_trans (pi c) (plus (pi l) (cost_of M (spell t)))
      (plus (cost_of M (walked r i o)) (cost_of M (spell t)))
      (k.goes_on l t c arc)
      (plus_at_most (pi l) (cost_of M (walked r i o)) (cost_of M (spell t)) before)) in
      subst (λ v. AtMost (pi c) (cost_of M (walked v i whole))) same
      (subst (λ v. AtMost (pi c) (cost_of M (walked r i v))) more bound)

  along_cost : (p : Span) (i : ℕ) (whole : List Span) (t : Span) (j : ℕ)
      → cost_of M (along_pieces p i whole t j)
      ≡ plus (cost_of M (walked p i whole)) (cost_of M (take (j + 1) (spell t)))
  along_cost p i whole t j =
      ap (λ v. cost_of M v) (sym (append_assoc (drop i (spell p)) (spell_pieces whole) (take (j + 1) (spell t))))
      ∙ cost_append M (walked p i whole) (take (j + 1) (spell t))

  over_bound : (d : List Step) → LiesOver M P a b d → AtMost C (cost_of M d)
  over_bound d (InOne p i j h s u l e) = subst (λ v. AtMost C (cost_of M v)) (sym e) (k.within p i j h s u l)
  over_bound d (OnMany p i whole c t j e w arc s u f) =
      let before = walk_bound (p ∷ whole) c w p whole refl i s in
      subst (λ v. AtMost C (cost_of M v)) (sym f)
      (subst (λ v. AtMost C v) (sym (along_cost p i whole t j))
      (at_most_trans C (plus (pi c) (cost_of M (take (j + 1) (spell t))))
      (plus (cost_of M (walked p i whole)) (cost_of M (take (j + 1) (spell t))))
      (k.ends c t e j arc u)
      (plus_at_most (pi c) (cost_of M (walked p i whole)) (cost_of M (take (j + 1) (spell t))) before)))

least_for : (M : Objects) (P : Rules) (a b : NodeId) (C : Option ℕ) → HasCosts M P a b
    → ((d : List Step) → LeadsTo M P a b d → AtMost C (cost_of M d)) → IsLeastFor M P a b C
least_for M P a b (Some c) costs h = λ d n l e. subst (λ v. AtMost (Some c) v) e (h d l)
least_for M P a b None costs h = λ d l. subst (λ v. AtMost None v) ((costs d l).1) (h d l)

pub certified_least : (M : Objects) (P : Rules) (a b : NodeId) (C : Option ℕ) (pi : List Span → Option ℕ)
    → HasCosts M P a b → ((d : List Step) → LeadsTo M P a b d → LiesOver M P a b d) → Certified M P a b C pi
    → IsLeastFor M P a b C
certified_least M P a b C pi costs over k =
    least_for M P a b C costs (λ d l. over_bound M P a b C pi k d (over d l))
