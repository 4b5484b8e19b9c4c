-- The entries of an object map, as events, leave that map: so its checkpoint is the same history for a reader.
use Rattle.std.proofs.Common.{◌≡◌, inl, inr, ⊎_elim, ℕ, Bool, true, false, cond, IsTrue, List, [], ◌∷◌, map, filter}
use Rattle.std.proofs.Common.{Some, Result, refl, sym, ap, ◌∙◌, subst, arith, append-nil}
use Rattle.std.specs.declared.cmp.Ordering.TheVariants.{Less}
use Rattle.std.specs.Cmp.{Equal-is}
use Rattle.std.specs.FinMap.{IsAntisymmetric, empty, find, is_sorted, entries_sorted, get-entries, get-empty}
use Rattle.std.specs.FinMap.Entries.{below_all}
use Rattle.std.proofs.lemmas.Bool.{and_parts}
use Rattle.std.proofs.Math.Dec.{T}
use Rattle.road_base.specs.declared.ids.Key.{Key}
use Rattle.road_base.specs.declared.event.Event.{Event}
use Rattle.road_base.specs.Objects.{Objects, Entry, key_cmp}
use Rattle.road_base.specs.Applying.{entry_of, is_of, first_greatest, entries_for, IsApplied}
use Rattle.road_base.specs.History.{History, HasObjects, SameForReader, kept}
use Rattle.ordered_lists.proofs.Comparisons.{less}
use Rattle.road_io.specs.Outside.{Outside, LeavesOnly}
use Rattle.road_io.proofs.CallRuns.{only_weaker}
use Rattle.sequence_journal.specs.declared.error.JournalError.{JournalError}
use Rattle.sequence_journal.specs.declared.journal.Journal.{Journal}
use Rattle.store_switch.specs.TwoFiles.{IsOnStore}
use Rattle.store_switch.specs.Checkpointing.{AreEntries, checkpoint_of, LeavesCheckpoint, LeavesAsRead, LeavesRaised}
use Rattle.store_switch.specs.Checkpointing.{IsRaised, Checkpoints}
use Rattle.store_switch.proofs.CheckpointedStores.{checkpoint_left}

abbrev pair : Event → Key × Entry
pair e = (e.key, entry_of e)

is_true : (b : Bool) → T b → IsTrue b
is_true true t = refl
is_true false t = absurd t

-- where all are above a key, none is of that key
none_of : (k : Key) (events : List Event) → IsTrue (below_all key_cmp k (map pair events))
    → filter (is_of k) events ≡ []
none_of k [] h = refl
none_of k (x ∷ xs) h =
    let parts = and_parts _ _ h in
    let above : key_cmp k x.key ≡ Less = less _ parts.0 in
    rw above (none_of k xs parts.1)

module _ (exact : IsAntisymmetric key_cmp) where
  found : (k : Key) (events : List Event) → IsTrue (is_sorted key_cmp (map pair events))
      → find key_cmp k (map pair events) ≡ first_greatest (map entry_of (filter (is_of k) events))
  found k [] h = refl
  found k (x ∷ xs) h =
      let parts = and_parts _ _ h in
      elim (is_of k x) as (λ t. is_of k x ≡ t → cond t (Some (entry_of x)) (find key_cmp k (map pair xs))
      ≡ first_greatest (map entry_of (cond t (x ∷ filter (is_of k) xs) (filter (is_of k) xs)))) [
        | true ↦ λ t.
            let e : x.key ≡ k = sym (exact k x.key ((Equal-is _).0 t)) in
            ap (λ (l : List Event). first_greatest (entry_of x ∷ map entry_of l)) (sym (none_of k xs
            (subst (λ (n : Key). IsTrue (below_all key_cmp n (map pair xs))) e parts.0)))
        | false ↦ λ t. found k xs parts.1
      ] refl

  of_nothing : (k : Key) (events : List Event)
      → first_greatest (map entry_of (filter (is_of k) events)) ≡ first_greatest (entries_for empty events k)
  of_nothing k events = rw (get-empty key_cmp k) refl

  pub entries_leave : (M : Objects) (events : List Event) → AreEntries M events → IsApplied empty events M
  entries_leave M events e k =
      get-entries M k ∙ ap (λ (l : List (Key × Entry)). find key_cmp k l) (sym e)
      ∙ found k events (subst (λ (l : List (Key × Entry)). IsTrue (is_sorted key_cmp l)) (sym e)
      (is_true _ (entries_sorted M)))
      ∙ of_nothing k events

-- ---- for a reader

abbrev pub SameByObjects : Type 0
SameByObjects = (g h : History) (M : Objects) → g.profile ≡ h.profile → kept g ≡ kept h
    → HasObjects g M → HasObjects h M → SameForReader g h

module _ (exact : IsAntisymmetric key_cmp) (same : SameByObjects) where
  -- the checkpoint has the objects of the history
  checkpoint_has : (profile : ℕ) (h : History) (M : Objects) (events : List Event) → AreEntries M events
      → HasObjects (checkpoint_of profile h events) M
  checkpoint_has profile h M events are =
      subst (λ (l : List Event). IsApplied empty l M) (sym (append-nil events)) (entries_leave exact M events are)

  pub checkpoint_same : (h : History) (M : Objects) (events : List Event) → HasObjects h M → AreEntries M events
      → SameForReader (checkpoint_of h.profile h events) h
  checkpoint_same h M events has are = same (checkpoint_of h.profile h events) h M refl (omega arith)
      (checkpoint_has h.profile h M events are) has

  -- under another profile: the objects don't depend on it
  pub checkpoint_raised : (profile : ℕ) (h : History) (M : Objects) (events : List Event) → HasObjects h M
      → AreEntries M events → IsRaised profile (checkpoint_of profile h events) h
  checkpoint_raised profile h M events has are =
      let own = checkpoint_same h M events has are in
      record { profile = refl; number = own.number; objects = own.objects }

  pub checkpoint_left_raised : (old new : Journal) (profile : ℕ) (h : History) (M : Objects) (events : List Event)
      (result : Result (Unit {0}) JournalError) (w v : Outside) → IsOnStore old h w → HasObjects h M
      → AreEntries M events → Checkpoints old new profile events result w v
      → LeavesOnly w v (LeavesRaised profile h w.output)
  checkpoint_left_raised old new profile h M events result w v on has are goes =
      only_weaker w v (LeavesCheckpoint profile h events w.output) (LeavesRaised profile h w.output)
      (checkpoint_left old new profile h events w v on result goes) (λ left l. ⊎_elim
      (λ s. (h, inl (same h h M refl refl has has), record { files = s; out = l.out }))
      (λ s. (
        checkpoint_of profile h events,
        inr (checkpoint_raised profile h M events has are),
        record { files = s; out = l.out },
      )) l.files)

  pub checkpoint_left_as_read : (old new : Journal) (h : History) (M : Objects) (events : List Event)
      (result : Result (Unit {0}) JournalError) (w v : Outside) → IsOnStore old h w → HasObjects h M
      → AreEntries M events → Checkpoints old new old.profile events result w v
      → LeavesOnly w v (LeavesAsRead h w.output)
  checkpoint_left_as_read old new h M events result w v on has are goes =
      only_weaker w v (LeavesRaised old.profile h w.output) (LeavesAsRead h w.output)
      (checkpoint_left_raised old new old.profile h M events result w v on has are goes) (λ left l. (
        l.0,
        ⊎_elim (λ s. s) (λ r. record {
          profile = r.profile ∙ on.at.profile;
          number = r.number;
          objects = r.objects;
        }) l.1,
        l.2,
      ))
