-- Where all contexts that can be come to are seen and nothing leads on to the goal, no legal drive ends there.
use Rattle.std.proofs.Common.{◌≡◌, ℕ, List, [], ◌∷◌, Contains, refl, sym, subst}
use Rattle.road_base.specs.declared.ids.NodeId.{NodeId}
use Rattle.road_base.specs.declared.ids.Step.{Step}
use Rattle.road_base.specs.Objects.{Objects}
use Rattle.road_model.specs.Rules.{Rules}
use Rattle.road_model.specs.Pieces.{Span}
use Rattle.road_model.specs.Walks.{WalksTo, Start, Go}
use Rattle.context_search.specs.Reaching.{LeadsTo}
use Rattle.context_search.specs.Searching.{BeginsAt, IsSearched}
use Rattle.context_search.specs.DriveOver.{LiesOver, InOne, OnMany}
use Rattle.context_search.proofs.DriveOver.{walk_some, lies_over}
use Rattle.context_search.proofs.DriveParts.{DriveLaws}

module _ (M : Objects) (P : Rules) where
  -- the context of a walk from the node is seen
  walk_seen : (a b : NodeId) (seen : List (List Span)) → IsSearched M P a b seen → (d c : List Span)
      → WalksTo M P d c → (q : Span) (o : List Span) → d ≡ q ∷ o → (k : ℕ) → BeginsAt M q k a → Contains seen c
  walk_seen a b seen s d c (Start p i e f) q o g k h =
      let same : q ≡ p = cc (e, g) in
      subst (Contains seen) (sym f) (s.starts p k i (subst (λ v. BeginsAt M v k a) same h))
  walk_seen a b seen s d c (Go [] l t w arc e) q o g k h = absurd (walk_some M P [] l w refl)
  walk_seen a b seen s d c (Go (r ∷ n) l t w arc e) q o g k h =
      let same : q ≡ r = cc (e, g) in
      s.goes_on l t c
      (walk_seen a b seen s (r ∷ n) l w r n refl k (subst (λ v. BeginsAt M v k a) same h)) arc

  not_over : (a b : NodeId) (seen : List (List Span)) → IsSearched M P a b seen → (d : List Step)
      → LiesOver M P a b d → ⊥
  not_over a b seen s d (InOne p i j h u v l e) = s.apart p i j h u v l
  not_over a b seen s d (OnMany p i whole c t j e w arc u v f) =
      s.misses c t e j (walk_seen a b seen s (p ∷ whole) c w p whole refl i u) arc v

pub no_drive : (M : Objects) (P : Rules) → DriveLaws M P → (a b : NodeId) (seen : List (List Span))
    → IsSearched M P a b seen → (d : List Step) → LeadsTo M P a b d → ⊥
no_drive M P laws a b seen s d l = not_over M P a b seen s d (lies_over M P laws a b d l)
