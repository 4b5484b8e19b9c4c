-- Drives from node to node: what a search in phases finds and misses goes through no zone.
use Rattle.std.proofs.Common.{◌≡◌, ℕ, ◌+◌, ◌-◌, List, [], ◌∷◌, ◌++◌, length, Bool, Option, Some, None, Result, Ok, Err}
use Rattle.std.proofs.Common.{IfOk}
use Rattle.std.proofs.Common.{take, drop, slice_get, refl, sym, ap, ◌∙◌, subst, arith, zero, suc}
use Rattle.std.proofs.lemmas.Option.{slice_get_within}
use Rattle.std.proofs.lemmas.List.{drop_more, take_more}
use Rattle.ordered_lists.proofs.Splits.{cons_not_nil}
use Rattle.road_base.specs.declared.ids.NodeId.{NodeId}
use Rattle.road_base.specs.declared.ids.Step.{Step}
use Rattle.road_base.specs.Objects.{Objects}
use Rattle.road_model.specs.Rules.{Rules}
use Rattle.road_model.specs.Pieces.{Span, spell}
use Rattle.road_model.specs.Network.{IsArc, spell_pieces}
use Rattle.road_model.specs.Walks.{WalksTo}
use Rattle.context_search.specs.declared.found.Found.{Found}
use Rattle.context_search.specs.declared.found.Found.TheVariants.{Drive, NoNode, Nowhere}
use Rattle.context_search.specs.Reaching.{LeadsTo}
use Rattle.context_search.specs.Searching.{BeginsAt, StopsAt, within_piece, along_pieces, LeadsWithin, LeadsAlong}
use Rattle.context_search.specs.DriveOver.{LiesOver}
use Rattle.context_search.specs.DriveOver.LiesOver.{InOne as OverOne, OnMany as OverMany}
use Rattle.context_search.specs.PhaseWalks.{LeadsIn, IsFoundIn}
use Rattle.context_search.specs.PhaseWalks.LeadsIn.{InOne, OnMany}
use Rattle.destination_drives.specs.declared.phases.Phase.{Phase}
use Rattle.destination_drives.specs.declared.phases.Phase.TheVariants.{Before}
use Rattle.destination_drives.specs.Zones.{is_zone_step, Through}
use Rattle.destination_drives.specs.Phases.{started, gone}
use Rattle.destination_drives.specs.PhaseNumbers.{number_of, zone_phases}
use Rattle.destination_drives.specs.ZoneWalks.{is_zone_piece, ZoneWalksTo}
use Rattle.destination_drives.specs.ZoneReaching.{ZoneLeadsTo, IsZoneFound}
use Rattle.destination_drives.proofs.PhaseRuns.{next, runs, runs-append, AllAre, starts_before, passing_ends}
use Rattle.destination_drives.proofs.PhaseRuns.{ending_passes}
use Rattle.destination_drives.proofs.MarkedRuns.{spelled_alike, runs_some, runs_walk}
use Rattle.destination_drives.proofs.ZoneWalkLaw.{phase_of, as_walk, its_phase, with_phase}
use Rattle.destination_drives.proofs.SearchPhases.{zone_walk, search_walk, goes_to, goes_by_number}

module _ {S : Type 0} (mark : S → Bool) (z : Bool) where
  take_alike : (n : ℕ) (xs : List S) → AllAre mark z xs → AllAre mark z (take n xs)
  take_alike zero xs a = tt
  take_alike (suc n) [] a = tt
  take_alike (suc n) (x ∷ xs) a = (a.0, take_alike n xs a.1)

  drop_alike : (n : ℕ) (xs : List S) → AllAre mark z xs → AllAre mark z (drop n xs)
  drop_alike zero xs a = a
  drop_alike (suc n) [] a = tt
  drop_alike (suc n) (x ∷ xs) a = drop_alike n xs a.1

module _ (M : Objects) (P : Rules) where
  -- part of a piece leads somewhere
  part_goes : (z : Bool) (xs : List Step) → AllAre (is_zone_step M P) z xs
      → runs (is_zone_step M P) (Some Before) xs ≡ None → ⊥
  part_goes z [] a h = cc
  part_goes z (x ∷ xs) a h =
      let e : Some (started z) ≡ None =
      sym (starts_before z) ∙ sym (runs_some M P z (x ∷ xs) (λ n. cc) a (Some Before)) ∙ h in
      cc

  pub within_goes : (p : Span) (i j : ℕ) → Through M P (within_piece p i j) → ⊥
  within_goes p i j t = part_goes (is_zone_piece M P p) (within_piece p i j)
      (take_alike (is_zone_step M P) (is_zone_piece M P p) (j + 1 - i) (drop i (spell p))
      (drop_alike (is_zone_step M P) (is_zone_piece M P p) i (spell p) (spelled_alike M P p)))
      (passing_ends (is_zone_step M P) (Some Before) (within_piece p i j) t)

  -- a piece from one of its steps on, and up to one of its steps, leads where the whole does
  runs_from : (p : Span) (i : ℕ) (s : Step) → slice_get (spell p) i ≡ Some s → (o : Option Phase)
      → runs (is_zone_step M P) o (drop i (spell p)) ≡ next o (is_zone_piece M P p)
  runs_from p i s h o =
      let e = drop_more (spell p) i s (slice_get_within (spell p) i s h) in
      runs_some M P (is_zone_piece M P p) (drop i (spell p)) (λ n. cons_not_nil [] _ _ (sym e ∙ n))
      (drop_alike (is_zone_step M P) (is_zone_piece M P p) i (spell p) (spelled_alike M P p)) o

  runs_up_to : (p : Span) (j : ℕ) (s : Step) → slice_get (spell p) j ≡ Some s → (o : Option Phase)
      → runs (is_zone_step M P) o (take (j + 1) (spell p)) ≡ next o (is_zone_piece M P p)
  runs_up_to p j s h o =
      let e = take_more (spell p) j s (slice_get_within (spell p) j s h) in
      runs_some M P (is_zone_piece M P p) (take (j + 1) (spell p))
      (λ n. cons_not_nil (take j (spell p)) _ [] (sym e ∙ n))
      (take_alike (is_zone_step M P) (is_zone_piece M P p) (j + 1) (spell p) (spelled_alike M P p)) o

  some_steps : (p : Span) (i : ℕ) (s : Step) → slice_get (spell p) i ≡ Some s → spell p ≡ [] → ⊥
  some_steps p i s h e =
      let l = slice_get_within (spell p) i s h in
      let n : length (spell p) ≡ 0 = ap length e in
      omega arith

  -- the pieces of a walk behind its first one
  runs_whole : (p : Span) (i : ℕ) (s : Step) → slice_get (spell p) i ≡ Some s → (whole c : List Span)
      → WalksTo M P (p ∷ whole) c
      → runs (is_zone_step M P) (next (Some Before) (is_zone_piece M P p)) (spell_pieces whole)
      ≡ phase_of M P (p ∷ whole)
  runs_whole p i s h whole c w =
      let whole_piece = runs_some M P (is_zone_piece M P p) (spell p) (some_steps p i s h) (spelled_alike M P p)
      (Some Before) in
      ap (λ o. runs (is_zone_step M P) o (spell_pieces whole)) (sym whole_piece)
      ∙ sym (runs-append (is_zone_step M P) (Some Before) (spell p) (spell_pieces whole))
      ∙ runs_walk M P (p ∷ whole) c w (Some Before)

  -- to which phase a drive over several pieces leads
  pub along_phase : (a b : NodeId) (p : Span) (i : ℕ) (whole c : List Span) (t : Span) (j : ℕ)
      → WalksTo M P (p ∷ whole) c → BeginsAt M p i a → StopsAt M t j b
      → runs (is_zone_step M P) (Some Before) (along_pieces p i whole t j)
      ≡ next (phase_of M P (p ∷ whole)) (is_zone_piece M P t)
  along_phase a b p i whole c t j w s u =
      let mark = is_zone_step M P in
      let to = take (j + 1) (spell t) in
      runs-append mark (Some Before) (drop i (spell p)) (spell_pieces whole ++ to)
      ∙ ap (λ o. runs mark o (spell_pieces whole ++ to)) (runs_from p i s.step s.at (Some Before))
      ∙ runs-append mark (next (Some Before) (is_zone_piece M P p)) (spell_pieces whole) to
      ∙ ap (λ o. runs mark o to) (runs_whole p i s.step s.at whole c w)
      ∙ runs_up_to t j u.step u.at (phase_of M P (p ∷ whole))

  module _ (a b : NodeId) where
    -- over several pieces a drive goes through no zone where its phases go on, and through one where they don't
    along_goes : (p : Span) (i : ℕ) (whole c : List Span) (t : Span) (j : ℕ) (f g : Phase)
        → ZoneWalksTo M P (p ∷ whole) c f → gone f (is_zone_piece M P t) ≡ Some g → BeginsAt M p i a → StopsAt M t j b
        → Through M P (along_pieces p i whole t j) → ⊥
    along_goes p i whole c t j f g w h s u through =
        let none = passing_ends (is_zone_step M P) (Some Before) (along_pieces p i whole t j) through in
        let phase = along_phase a b p i whole c t j (as_walk M P (p ∷ whole) c f w) s u in
        let led : next (phase_of M P (p ∷ whole)) (is_zone_piece M P t) ≡ Some g =
        ap (λ o. next o (is_zone_piece M P t)) (its_phase M P (p ∷ whole) c f w) ∙ h in
        let e : Some g ≡ None = sym led ∙ sym phase ∙ none in
        cc

    along_through : (p : Span) (i : ℕ) (whole c : List Span) (t : Span) (j : ℕ) → WalksTo M P (p ∷ whole) c
        → BeginsAt M p i a → StopsAt M t j b → next (phase_of M P (p ∷ whole)) (is_zone_piece M P t) ≡ None
        → Through M P (along_pieces p i whole t j)
    along_through p i whole c t j w s u h =
        ending_passes (is_zone_step M P) (along_pieces p i whole t j) (along_phase a b p i whole c t j w s u ∙ h)

    -- what a search in phases finds
    pub found_zoned : LeadsWithin M P a b → LeadsAlong M P a b → (d : List Step) → LeadsIn M P zone_phases a b d
        → ZoneLeadsTo M P a b d
    found_zoned within along d (InOne p i j h s u l e) = record {
      leads = subst (LeadsTo M P a b) (sym e) (within p i j h s u l);
      not_through = λ t. within_goes p i j (subst (Through M P) e t);
    }
    found_zoned within along d (OnMany p i whole c n t j x m w arc h s u e) =
        let v = zone_walk M P (p ∷ whole) c n w in
        let r = goes_to v.phase (is_zone_piece M P t) m
        (ap (λ k. zone_phases.go k (is_zone_piece M P t)) (sym v.numbered) ∙ h) in
        record {
          leads = subst (LeadsTo M P a b) (sym e)
              (along p i whole c t j x (as_walk M P (p ∷ whole) c v.phase v.walks) arc s u);
          not_through = λ z. along_goes p i whole c t j v.phase r.next v.walks r.goes s u (subst (Through M P) e z);
        }

    -- and misses
    goes_in : (p : Span) (i : ℕ) (whole c : List Span) (t : Span) (j : ℕ) (x : List Span) (d : List Step)
        → WalksTo M P (p ∷ whole) c → IsArc M P c t x → BeginsAt M p i a → StopsAt M t j b
        → d ≡ along_pieces p i whole t j → (Through M P d → ⊥) → (f : Phase) → phase_of M P (p ∷ whole) ≡ Some f
        → (o : Option Phase) → gone f (is_zone_piece M P t) ≡ o → LeadsIn M P zone_phases a b d
    goes_in p i whole c t j x d w arc s u e n f h None k =
        absurd (n (subst (Through M P) (sym e) (along_through p i whole c t j w s u
        (ap (λ o. next o (is_zone_piece M P t)) h ∙ k))))
    goes_in p i whole c t j x d w arc s u e n f h (Some g) k =
        OnMany p i whole c (number_of f) t j x (number_of g)
        (search_walk M P (p ∷ whole) c f (with_phase M P (p ∷ whole) c w f h)) arc
        (goes_by_number f (is_zone_piece M P t) g k) s u e

    goes_over : (p : Span) (i : ℕ) (whole c : List Span) (t : Span) (j : ℕ) (x : List Span) (d : List Step)
        → WalksTo M P (p ∷ whole) c → IsArc M P c t x → BeginsAt M p i a → StopsAt M t j b
        → d ≡ along_pieces p i whole t j → (Through M P d → ⊥) → (o : Option Phase) → phase_of M P (p ∷ whole) ≡ o
        → LeadsIn M P zone_phases a b d
    goes_over p i whole c t j x d w arc s u e n None h =
        absurd (n (subst (Through M P) (sym e) (along_through p i whole c t j w s u
        (ap (λ o. next o (is_zone_piece M P t)) h))))
    goes_over p i whole c t j x d w arc s u e n (Some f) h =
        goes_in p i whole c t j x d w arc s u e n f h (gone f (is_zone_piece M P t)) refl

    lies_in : (d : List Step) → LiesOver M P a b d → (Through M P d → ⊥) → LeadsIn M P zone_phases a b d
    lies_in d (OverOne p i j h s u l e) n = InOne p i j h s u l e
    lies_in d (OverMany p i whole c t j x w arc s u e) n =
        goes_over p i whole c t j x d w arc s u e n (phase_of M P (p ∷ whole)) refl

    module _ (within : LeadsWithin M P a b) (along : LeadsAlong M P a b)
        (over : (d : List Step) → LeadsTo M P a b d → LiesOver M P a b d) where
      zone_found : (r : Found) → IsFoundIn M P zone_phases a b r → IsZoneFound M P a b r
      zone_found (Drive d) h = found_zoned within along d h
      zone_found (NoNode v) h = h
      zone_found Nowhere h = (h.0, h.1, λ d l. h.2 d (lies_in d (over d l.leads) l.not_through))

      pub zone_found_if : {E : Type 0} (r : Result Found E) → IfOk r (IsFoundIn M P zone_phases a b)
          → IfOk r (IsZoneFound M P a b)
      zone_found_if (Ok r) h = zone_found r h
      zone_found_if (Err e) h = h
