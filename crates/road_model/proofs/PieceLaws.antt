-- The laws over an object map and a profile's rules.
use Rattle.std.proofs.Common.{◌≡◌, ◌↔◌, ℕ, List, [], ◌∷◌, ◌++◌, true, false}
use Rattle.road_base.specs.declared.ids.Step.{Step}
use Rattle.road_base.specs.Objects.{Objects}
use Rattle.road_model.specs.Rules.{Rules}
use Rattle.road_model.specs.Driving.{Passes}
use Rattle.road_model.specs.Pieces.{Span, IsPiece, spell}
use Rattle.road_model.specs.Contexts.{Every}
use Rattle.road_model.specs.Network.{Drives, NoWord, OnlyWord, AnyWord, Legal, IsContextOf, spell_pieces}
use Rattle.road_model.proofs.LegalLists.{WordShape, prepend, append}
use Rattle.road_model.proofs.LongestContext.{decides}
use Rattle.road_model.proofs.Shapes.{Mid, Inner, Next, one_next, stretch, piece_shape, word_shape, bound_positive}

module _ (M : Objects) (P : Rules) where
  no_shape : (u : List Step) → NoWord M P u → WordShape (Mid M P) (Inner M P) Next u
  no_shape u w = word_shape M P w.relation false w.binding u w.word

  only_shape : (n : ℕ) (u : List Step) → OnlyWord M P n u → WordShape (Mid M P) (Inner M P) Next u
  only_shape n u w = word_shape M P w.relation true n u w.word

  pub before_whole : (p : Span) (front : List Step) (s : Step) (back rest : List Step) → IsPiece M P p
      → spell p ≡ front ++ s ∷ back → Legal M P (s ∷ rest) → Legal M P (front ++ s ∷ rest)
  before_whole p front s back rest h e l =
      prepend (Drives M P) (Passes M P) (NoWord M P) (OnlyWord M P) (Mid M P) (Inner M P) Next no_shape only_shape
      (bound_positive M P) one_next
      (spell p) front s back rest (stretch M P p h) e l

  pub behind_whole : (p : Span) (front : List Step) (s : Step) (back rest : List Step) → IsPiece M P p
      → spell p ≡ front ++ s ∷ back → Legal M P (rest ++ s ∷ []) → Legal M P ((rest ++ s ∷ []) ++ back)
  behind_whole p front s back rest h e l =
      append (Drives M P) (Passes M P) (NoWord M P) (OnlyWord M P) (Mid M P) (Inner M P) Next no_shape only_shape
      (bound_positive M P) one_next
      (spell p) front s back rest (stretch M P p h) e l

  pub context_decides : (d c : List Span) (t : Span) → Every (IsPiece M P) d → Legal M P (spell_pieces d)
      → IsContextOf M P d c → Legal M P (spell_pieces d ++ spell t) ↔ Legal M P (spell_pieces c ++ spell t)
  context_decides d c t i g l =
      decides spell (IsPiece M P) (Mid M P) (piece_shape M P) (Drives M P) (Passes M P) (NoWord M P) (OnlyWord M P)
      (AnyWord M P)
      (λ u w. record { relation = w.relation; only = false; binding = w.binding; word = w.word })
      (λ n u w. record { relation = w.relation; only = true; binding = n; word = w.word })
      (λ z u w m. (word_shape M P w.relation w.only w.binding (z ∷ u) w.word).starts z u (λ i. z ∷ u) m)
      d c t i g l
