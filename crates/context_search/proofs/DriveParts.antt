-- Parts of the spelling of walks are legal drives.
use Rattle.std.proofs.Common.{◌≡◌, ℕ, ◌+◌, ◌-◌, ◌≤◌, List, [], ◌∷◌, ◌++◌, IsTrue, take, drop}
use Rattle.std.proofs.Common.{refl, sym, ap, ◌∙◌, subst, append_assoc}
use Rattle.std.proofs.lemmas.List.{take-append-drop}
use Rattle.road_base.specs.declared.ids.NodeId.{NodeId}
use Rattle.road_base.specs.declared.ids.Step.{Step}
use Rattle.road_base.specs.Objects.{Objects}
use Rattle.road_model.specs.Rules.{Rules}
use Rattle.road_model.specs.Driving.{drivable}
use Rattle.road_model.specs.Pieces.{Span, IsPiece, IsInOnePiece, spell}
use Rattle.road_model.specs.Network.{Legal, IsArc, spell_pieces}
use Rattle.road_model.specs.Walks.{WalksTo, Go, AreWalked}
use Rattle.road_model.proofs.WalkLists.{spell_pieces-push}
use Rattle.context_search.specs.Reaching.{LeadsTo}
use Rattle.context_search.specs.Searching.{BeginsAt, StopsAt, within_piece, along_pieces}
use Rattle.context_search.proofs.DrivePlaces.{drop_place, take_place, run_first, run_last, around_run, around_middle}

-- the laws of pieces, drives and walks
pub record DriveLaws (M : Objects) (P : Rules) : Type 0 where
  pub walked : AreWalked M P
  pub one : (s : Step) → IsTrue (drivable M P s) → IsInOnePiece M P s
  pub alone : (p : Span) → IsPiece M P p → Legal M P (spell p)
  pub before : (p : Span) (front : List Step) (s : Step) (back rest : List Step) → IsPiece M P p
      → spell p ≡ front ++ s ∷ back → Legal M P (s ∷ rest) → Legal M P (front ++ s ∷ rest)
  pub behind : (p : Span) (front : List Step) (s : Step) (back rest : List Step) → IsPiece M P p
      → spell p ≡ front ++ s ∷ back → Legal M P (rest ++ s ∷ []) → Legal M P ((rest ++ s ∷ []) ++ back)
  pub parts : (before d behind : List Step) → (d ≡ [] → ⊥) → Legal M P (before ++ (d ++ behind)) → Legal M P d

module _ (M : Objects) (P : Rules) (laws : DriveLaws M P) (a b : NodeId) where
  -- the steps i to j of a piece
  pub leads_within : (p : Span) (i j : ℕ) → IsPiece M P p → BeginsAt M p i a → StopsAt M p j b → i ≤ j
      → LeadsTo M P a b (within_piece p i j)
  leads_within p i j h s u l =
      let first = run_first (spell p) i j s.step l s.at in
      record {
        legal = laws.parts (take i (spell p)) (within_piece p i j) (drop (j + 1 - i) (drop i (spell p)))
            (λ e. cc (first, e)) (subst (Legal M P) (around_run (spell p) i (j + 1 - i)) (laws.alone p h));
        first = s.step;
        rest = take (j - i) (drop (i + 1) (spell p));
        begins = first;
        tail = s.tail;
        front = drop i (take j (spell p));
        last = u.step;
        ends = run_last (spell p) i j u.step l u.at;
        head = u.head;
      }

  -- what the pieces spell, cut before step i of the first and behind step j of the last
  pub cut_pieces : (p : Span) (i : ℕ) (whole : List Span) (t : Span) (j : ℕ)
      → spell_pieces ((p ∷ whole) ++ t ∷ [])
      ≡ take i (spell p) ++ (along_pieces p i whole t j ++ drop (j + 1) (spell t))
  cut_pieces p i whole t j =
      ap (λ v. spell p ++ v) (spell_pieces-push whole t)
      ∙ ap (λ v. v ++ (spell_pieces whole ++ spell t)) (sym (take-append-drop i (spell p)))
      ∙ ap (λ v. (take i (spell p) ++ drop i (spell p)) ++ (spell_pieces whole ++ v))
      (sym (take-append-drop (j + 1) (spell t)))
      ∙ around_middle (take i (spell p)) (drop i (spell p)) (spell_pieces whole) (take (j + 1) (spell t))
      (drop (j + 1) (spell t))

  -- the pieces of a walk, and one more by an arc
  pub leads_along : (p : Span) (i : ℕ) (whole c : List Span) (t : Span) (j : ℕ) (e : List Span)
      → WalksTo M P (p ∷ whole) c → IsArc M P c t e → BeginsAt M p i a → StopsAt M t j b
      → LeadsTo M P a b (along_pieces p i whole t j)
  leads_along p i whole c t j e w arc s u =
      let more = drop (i + 1) (spell p) ++ (spell_pieces whole ++ take (j + 1) (spell t)) in
      let first : along_pieces p i whole t j ≡ s.step ∷ more =
      ap (λ v. v ++ (spell_pieces whole ++ take (j + 1) (spell t))) (drop_place (spell p) i s.step s.at) in
      let walk : WalksTo M P ((p ∷ whole) ++ t ∷ []) e = Go {c = e} (p ∷ whole) c t w arc refl in
      let drive = laws.walked.legal ((p ∷ whole) ++ t ∷ []) (record { context = e; walks = walk }) in
      record {
        legal = laws.parts (take i (spell p)) (along_pieces p i whole t j) (drop (j + 1) (spell t))
            (λ z. cc (first, z)) (subst (Legal M P) (cut_pieces p i whole t j) drive.legal);
        first = s.step;
        rest = more;
        begins = first;
        tail = s.tail;
        front = drop i (spell p) ++ (spell_pieces whole ++ take j (spell t));
        last = u.step;
        ends = ap (λ v. drop i (spell p) ++ (spell_pieces whole ++ v)) (take_place (spell t) j u.step u.at)
            ∙ ap (λ v. drop i (spell p) ++ v) (sym (append_assoc (spell_pieces whole) (take j (spell t)) (u.step ∷ [])))
            ∙ sym (append_assoc (drop i (spell p)) (spell_pieces whole ++ take j (spell t)) (u.step ∷ []));
        head = u.head;
      }
