-- From which pieces one drives on to a piece: those that come to the node where it starts.
use Rattle.std.proofs.Common.{◌≡◌, List, [], ◌∷◌, ◌++◌, Some, sym, ap, ◌∙◌, append_assoc}
use Rattle.std.proofs.lemmas.Option.{same_Some}
use Rattle.road_base.specs.declared.ids.NodeId.{NodeId}
use Rattle.road_base.specs.declared.ids.Step.{Step}
use Rattle.road_base.specs.Objects.{Objects}
use Rattle.road_model.specs.Rules.{Rules}
use Rattle.road_model.specs.Lines.{tail_of}
use Rattle.road_model.specs.Pieces.{Span, IsPiece, spell}
use Rattle.road_model.specs.Network.{Legal, spell_pieces}
use Rattle.way_pieces.specs.Names.{Arrives}
use Rattle.road_model.proofs.WalkLists.{spell_pieces-push}
use Rattle.expanded_graph.proofs.Ends.{spell_ends, last_step, has_tail}
use Rattle.expanded_graph.proofs.LastSteps.{last_drives}

pub arrives : (M : Objects) (P : Rules) (front : List Span) (q p : Span) → IsPiece M P q
    → Legal M P (spell_pieces (front ++ q ∷ []) ++ spell p) → (first : Step) (more : List Step)
    → spell p ≡ first ∷ more → (v : NodeId) → tail_of M first ≡ Some v → (u : NodeId) × Arrives M q u v
arrives M P front q p is legal first more begins v leaves =
    let e = spell_ends q is.ascends in
    let last = last_step q in
    let before = spell_pieces front in
    let split : spell_pieces (front ++ q ∷ []) ++ spell p ≡ (before ++ e.front) ++ last ∷ first ∷ more =
    ap (λ l. l ++ spell p) (spell_pieces-push front q ∙ (ap (λ l. before ++ l) e.is
    ∙ sym (append_assoc before e.front (last ∷ []))))
    ∙ (append_assoc (before ++ e.front) (last ∷ []) (spell p)
    ∙ ap (λ l. (before ++ e.front) ++ last ∷ l) begins) in
    let pass = legal.follows (before ++ e.front) last first more split in
    let here : pass.node ≡ v = same_Some _ _ (sym pass.to ∙ leaves) in
    let tail = has_tail M P last (last_drives M P q e.front last is e.is) in (
      tail.0,
      record { front = e.front; last = last; ends = e.is; tail = tail.1; head = pass.from ∙ ap Some here },
    )
