-- How many blocks a session over the two files builds.
use Rattle.std.proofs.Common.{◌≡◌, ◌≢◌, inl, inr, ⊎_elim, ℕ, ◌+◌, List, [], ◌++◌, length, Option, None, Some, Ok}
use Rattle.std.proofs.Common.{refl, sym, ap, ◌∙◌, subst, arith}
use Rattle.road_base.specs.History.{History, HasObjects}
use Rattle.road_base.specs.Objects.{Objects}
use Rattle.road_model.specs.Highways.{highways}
use Rattle.road_io.specs.Told.{Told}
use Rattle.road_io.specs.Outside.{Outside}
use Rattle.sequence_journal.specs.declared.load.Loaded.{Loaded}
use Rattle.store_switch.specs.LiveFile.{reads_of}
use Rattle.store_switch.specs.StoreLoading.{StoreLoaded, LoadsStore}
use Rattle.pinned_readers.specs.PinnedRuns.{Pins}
use Rattle.session_replies.specs.Replies.{road_costs}
use Rattle.session.specs.Conversation.{Kept}
use Rattle.session.specs.Building.{Start, BuildsOf}
use Rattle.session.specs.declared.end.End.{End}
use Rattle.session.specs.declared.end.End.TheVariants.{Done, Unfinished, SiteFault, Limit, NoMemory}
use Rattle.session.specs.declared.end.End.TheVariants.{ReadFault as ReadFaultEnd}
use Rattle.last_words.specs.declared.status.Status.{Status}
use Rattle.last_words.specs.declared.status.Status.TheVariants.{ReadFault}
use Rattle.osmroad.specs.Opening.{IsStore}
use Rattle.osmroad.specs.StoreLaws.{StoreLaws}
use Rattle.osmroad.specs.Sessions.{ServesBuilding, SessionRunBuilds, opening, end_status}
use Rattle.osmroad.proofs.LoadedStores.{loaded_store}
use Rattle.osmroad.proofs.ServedSessions.{opened, same_opening}

-- ---- over a store that was loaded

-- the session's end is a failed read where the status is
read_failed : (end : End) → end_status end ≡ ReadFault → end ≡ ReadFaultEnd
read_failed Done is = (cc)
read_failed Unfinished is = (cc)
read_failed ReadFaultEnd is = refl
read_failed SiteFault is = (cc)
read_failed Limit is = (cc)
read_failed NoMemory is = (cc)

pub served_builds : (l : Loaded) (end : End) (status : Status) → status ≡ end_status end
    → (held remaining : Option (List ℕ)) (x : Option Outside) (old new : ℕ)
    → ServesBuilding l (end ≢ ReadFaultEnd) held remaining x old new
    → ServesBuilding l (status ≢ ReadFault) held remaining x old new
served_builds l end status is held remaining x old new builds = λ bytes behind w o M has left tells opens objects.
    let b = builds bytes behind w o M has left tells opens objects in (
      b.0,
      b.1,
      ⊎_elim
          (λ few. inl few)
          (λ last. inr (last.0, λ failed. last.1 (read_failed end (sym is ∙ failed)), last.2))
          b.2,
    )

-- ---- the store is loaded

-- the blocks of the loaded store's session are those of the session that opens with the files
module _ (laws : StoreLaws) (l : Loaded) (status : Status) (old new : ℕ) where
  -- so many blocks are built over these files
  abbrev BuildsOver : Outside → List ℕ → List ℕ → Type 0
  BuildsOver w bytes behind =
      ((s : IsStore (reads_of w)) (M : Objects) → HasObjects s.history M
      → (read : List ℕ) × (bytes ≡ read ++ behind)
      × BuildsOf road_costs (opening s) read behind (status ≢ ReadFault) (old + length (highways M)) new)
      × ((IsStore (reads_of w) → ⊥) → new ≡ old)

  -- where the site tells
  builds_on : (held remaining : Option (List ℕ)) (w u : Outside) → LoadsStore (Ok l) w u
      → ServesBuilding l (status ≢ ReadFault) held remaining (Some u) old new
      → SessionRunBuilds status held remaining (Some w) old new
  builds_on held remaining w u load builds = λ bytes behind x has left is.
      let k : StoreLoaded l w u = load.answer in
      let mine = loaded_store l w u k in
      let here : w ≡ x = cc in
      subst (λ (o : Outside). BuildsOver o bytes behind) here (
        λ s M objects.
            let same : opening mine ≡ opening s = same_opening laws (reads_of w) mine s in
            let history : k.history ≡ s.history = ap (λ (o : Kept Pins). o.history) same in
            let b = builds bytes behind u (opening mine) M has left refl (opened l w u k)
            (subst (λ (h : History). HasObjects h M) (sym history) objects) in (
              b.0,
              b.1,
              subst (λ (o : Kept Pins). BuildsOf road_costs o b.0 behind (status ≢ ReadFault)
                  (old + length (highways M)) new) same b.2,
            ),
        λ never. absurd (never mine),
      )

  pub store_builds : (held remaining : Option (List ℕ)) (x y : Option Outside) → Told (LoadsStore (Ok l)) x y
      → ServesBuilding l (status ≢ ReadFault) held remaining y old new
      → SessionRunBuilds status held remaining x old new
  store_builds held remaining None None told builds = λ bytes behind w has left is. (cc)
  store_builds held remaining None (Some u) told builds = absurd told
  store_builds held remaining (Some w) None told builds = absurd told
  store_builds held remaining (Some w) (Some u) told builds = builds_on held remaining w u told builds

-- ---- it isn't

-- nothing is read, and no block is built
pub none_built : (status : Status) (held : Option (List ℕ)) (x : Option Outside) (built : ℕ)
    → SessionRunBuilds status held held x built built
none_built status held x built = λ bytes behind w has left is. (
  λ s M objects. (
    [],
    whole bytes behind has left,
    inl record {
      front = [];
      rest = [];
      is = refl;
      from = opening s;
      n = 0;
      costed = Start;
      few = omega arith;
    },
  ),
  λ never. refl,
)
  where
    whole : (bytes behind : List ℕ) → held ≡ Some bytes → held ≡ Some behind → bytes ≡ [] ++ behind
    whole bytes behind has left = let same : bytes ≡ behind = cc in same
