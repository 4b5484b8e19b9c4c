-- A relation that is of no use has no words.
use Rattle.std.proofs.Common.{◌≡◌, Some, sym, ◌∙◌, subst}
use Rattle.road_base.specs.declared.objects.Relation.{Relation}
use Rattle.road_base.specs.declared.ids.RelationId.{RelationId}
use Rattle.road_base.specs.Objects.{Objects}
use Rattle.road_model.specs.Rules.{Rules}
use Rattle.road_model.specs.declared.answers.Unusable.{Unusable}
use Rattle.road_model.specs.Restrictions.{Holds}
use Rattle.restrictions.specs.declared.word_list.Word.{Word}
use Rattle.restrictions.specs.declared.relation_words.WordsError.{WordsError}
use Rattle.restrictions.specs.declared.relation_words.WordsError.TheVariants.{Unusable as OfNoUse}
use Rattle.restrictions.specs.Words.{IsWordOf, SaysCause}

one_body : (a b : Relation) → Some a ≡ Some b → a ≡ b
one_body a b e = cc

pub no_words_of : (M : Objects) (P : Rules) (r : RelationId) (e : WordsError) (cause : Unusable) → e ≡ OfNoUse cause
    → SaysCause M P r e → (u : Word) → IsWordOf M P r u → ⊥
no_words_of M P r e cause is says u h =
    let s : SaysCause M P r (OfNoUse cause) = subst (SaysCause M P r) is says in
    let w = h.is in
    w.usable cause (subst (λ b. Holds M P b cause) (one_body s.0 w.body (sym s.1 ∙ w.visible)) s.2.holds)
