-- In one phase, walks lead along exactly the legal drives.
use Rattle.std.proofs.Common.{ℕ, List, refl, subst, sym}
use Rattle.road_base.specs.declared.ids.NodeId.{NodeId}
use Rattle.road_base.specs.declared.ids.Step.{Step}
use Rattle.road_base.specs.Objects.{Objects}
use Rattle.road_model.specs.Rules.{Rules}
use Rattle.road_model.specs.Pieces.{Span}
use Rattle.road_model.specs.Walks.{WalksTo, Start, Go}
use Rattle.context_search.specs.declared.found.Found.{Found}
use Rattle.context_search.specs.declared.found.Found.TheVariants.{Drive, NoNode, Nowhere}
use Rattle.context_search.specs.DriveOver.{LiesOver, InOne, OnMany}
use Rattle.context_search.specs.Phases.{PhaseRules, one_phase}
use Rattle.context_search.specs.PhaseWalks.{WalksIn, LeadsIn, IsFoundIn}
use Rattle.context_search.specs.PhaseWalks as in_phases
use Rattle.context_search.specs.Reaching.{LeadsTo, IsFound}
use Rattle.context_search.specs.Searching.{LeadsWithin, LeadsAlong}

module _ (M : Objects) (P : Rules) where
  -- a walk in phases is a walk
  pub walks_to : (F : PhaseRules) (d c : List Span) (f : ℕ) → WalksIn M P F d c f → WalksTo M P d c
  walks_to F d c f (in_phases.Start p is phase e g) = Start p is e g
  walks_to F d c f (in_phases.Go e b n t w arc on h) = Go e b t (walks_to F e b n w) arc h

  -- a walk is one in the one phase
  walks_in : (d c : List Span) → WalksTo M P d c → WalksIn M P one_phase d c 0
  walks_in d c (Start p is e g) = in_phases.Start p is refl e g
  walks_in d c (Go e b t w arc h) = in_phases.Go e b 0 t (walks_in e b w) arc refl h

  module _ (a b : NodeId) where
    -- what a walk in phases leads along is a legal drive
    pub leads_to : (F : PhaseRules) → LeadsWithin M P a b → LeadsAlong M P a b → (d : List Step)
        → LeadsIn M P F a b d → LeadsTo M P a b d
    leads_to F within along d (in_phases.InOne p i j is begins stops up e) =
        subst (LeadsTo M P a b) (sym e) (within p i j is begins stops up)
    leads_to F within along d (in_phases.OnMany p i whole c f t j e g w arc on begins stops h) =
        subst (LeadsTo M P a b) (sym h)
        (along p i whole c t j e (walks_to F _ c f w) arc begins stops)

    leads_in : (d : List Step) → LiesOver M P a b d → LeadsIn M P one_phase a b d
    leads_in d (InOne p i j is begins stops up e) = in_phases.InOne p i j is begins stops up e
    leads_in d (OnMany p i whole c t j e w arc begins stops h) =
        in_phases.OnMany p i whole c 0 t j e 0 (walks_in _ c w) arc refl begins stops h

    -- what is found in the one phase is what is to be found
    pub found_in_one : LeadsWithin M P a b → LeadsAlong M P a b
        → ((d : List Step) → LeadsTo M P a b d → LiesOver M P a b d) → (found : Found)
        → IsFoundIn M P one_phase a b found → IsFound M P a b found
    found_in_one within along over (Drive d) h = leads_to one_phase within along d h
    found_in_one within along over (NoNode v) h = h
    found_in_one within along over Nowhere h = (h.0, h.1, λ d leads. h.2 d (leads_in d (over d leads)))
