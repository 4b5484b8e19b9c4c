-- What a run gives is determined by its command, the bytes of both files and those of its source.
use Rattle.std.proofs.Common.{◌≡◌, ◌+◌, ◌<◌, ◌≤◌, ◌^◌, ◌==◌, ⊎_elim, ℕ, List, Option, None, Some}
use Rattle.std.proofs.Common.{refl, sym, ap, ◌∙◌, subst, arith}
use Rattle.std.proofs.lemmas.Bool.{eqb-true, or_cases}
use Rattle.std.specs.FinMap.{empty}
use Rattle.std.specs.Cmp.{IsTotalOrder}
use Rattle.road_base.specs.declared.event.Event.{Event}
use Rattle.road_base.specs.Profiles.{IsProfile}
use Rattle.road_base.specs.Objects.{Objects}
use Rattle.road_base.specs.History.{History, all_events, kept, with_change}
use Rattle.road_model.specs.Orders.{relation_cmp}
use Rattle.road_model.specs.Naming.{OneGraph}
use Rattle.road_model.specs.Rules.{Rules}
use Rattle.road_model.specs.declared.blocks.Block.{Block}
use Rattle.road_model.specs.Format.{IsGraph}
use Rattle.road_model.proofs.UniqueEntries.{one_graph}
use Rattle.drive_queries.specs.Counting.{totals_of}
use Rattle.access_profile.specs.Profiles.{rules_of}
use Rattle.opl_lexer.specs.declared.mode.Mode.TheVariants.{Extract, Change}
use Rattle.opl_lexer.specs.Reading.{input_fault}
use Rattle.sequence_journal.specs.Basing.{base_alone}
use Rattle.osmroad.specs.declared.command.BaseProfile.{BaseProfile}
use Rattle.osmroad.specs.declared.command.Command.{Command}
use Rattle.osmroad.specs.declared.command.Command.TheVariants.{Compile, Inspect, Sample, Create, Apply}
use Rattle.osmroad.specs.declared.command.Command.TheVariants.{Graph, Audit, Checkpoint}
use Rattle.last_words.specs.declared.status.Status.{Status}
use Rattle.osmroad.specs.Texts.{sequence_line, counts_line}
use Rattle.compiled_graph.specs.Compiled.{IsGraphOf}
use Rattle.osmroad.specs.Shown.{rules_shown}
use Rattle.osmroad.specs.Audited.{IsAuditOf}
use Rattle.osmroad.specs.Opening.{Files, IsStore, StoreRefusal, size_with_change}
use Rattle.osmroad.specs.Checkpoints.{AreItsEntries, HasNoRoom, CheckpointGives, base_line, checkpointed}
use Rattle.osmroad.specs.Outcomes.{AreInput, IsCompiled, CompileGives, InspectGives, CreateGives, ApplyGives}
use Rattle.osmroad.specs.Outcomes.{ShowGives, Gives}
use Rattle.osmroad.specs.Run.{IsStored}
use Rattle.osmroad.specs.StoreLaws.{OneLive, HasLive, NoDamage, OneStore}
use Rattle.graph_file.proofs.GraphFiles.{one_file}
use Rattle.osmroad.proofs.CitedLaws.{OneMap, OneReading, OneDamage}
use Rattle.osmroad.proofs.OneAudit.{one_audit}
use Rattle.osmroad.proofs.Entries.{entries_of_one}
use Rattle.osmroad.proofs.OneSample.{one_sample}
use Rattle.osmroad.proofs.Refusals.{Same, both, no_fault, one_fault}
use Rattle.osmroad.proofs.Refusals.{not_refused, one_refusal, store_not_refused, one_store_refusal}

-- the same status and output, and one history afterwards
abbrev pub Alike : Status → List ℕ → Option History → Status → List ℕ → Option History → Type 0
Alike status out after another other later = (status ≡ another) × (out ≡ other) × (after ≡ later)

with_after : (status another : Status) (out other : List ℕ) (after later : Option History)
    → Same status out another other → after ≡ later → Alike status out after another other later
with_after status another out other after later same e = (same.0, same.1, e)

-- ---- what is shown of events

pub one_graph_of : OneMap → (P : Rules) → ((M : Objects) → OneGraph M P) → (events : List Event) (out other : List ℕ)
    → IsGraphOf P events out → IsGraphOf P events other → out ≡ other
one_graph_of map P graph events out other a b =
    let objects = map empty b.objects a.objects events b.applied a.applied in
    graph a.objects out other a.graph (subst (λ (M : Objects). IsGraph M P other) objects b.graph)

-- ---- without a store

-- the rules of each known profile give one graph
abbrev pub OneGraphEach : Type 0
OneGraphEach = (n : ℕ) → IsProfile n → (M : Objects) → OneGraph M (rules_of n)

module _ (reading : OneReading) (map : OneMap) (graph : OneGraphEach) (profile : ℕ) where
  one_compiled : (bytes out other : List ℕ) → IsCompiled profile bytes out → IsCompiled profile bytes other
      → out ≡ other
  one_compiled bytes out other a b =
      let events = reading Extract bytes b.events a.events b.read a.read in
      one_graph_of map (rules_of profile) (graph profile a.known) a.events out other a.graph
      (subst (λ (l : List Event). IsGraphOf (rules_of profile) l other) events b.graph)

  one_compile : (bytes : List ℕ) (status another : Status) (out other : List ℕ)
      → CompileGives profile bytes status out → CompileGives profile bytes another other
      → Same status out another other
  one_compile bytes status another out other (CompileGives.OfInput r) (CompileGives.OfInput s) =
      one_refusal Extract bytes status another out other r s
  one_compile bytes status another out other (CompileGives.OfInput r) (CompileGives.OfExtract w c f) = absurd
      (not_refused Extract bytes status out c.events (record { within = w; read = c.read }) r)
  one_compile bytes status another out other (CompileGives.OfExtract w c e) (CompileGives.OfInput s) = absurd
      (not_refused Extract bytes another other c.events (record { within = w; read = c.read }) s)
  one_compile bytes status another out other (CompileGives.OfExtract w c e) (CompileGives.OfExtract v d f) =
      (both _ _ _ e f, one_compiled bytes out other c d)

one_inspect : (bytes : List ℕ) (status another : Status) (out other : List ℕ)
    → InspectGives bytes status out → InspectGives bytes another other → Same status out another other
one_inspect bytes status another out other (InspectGives.OfTooMuch m e o) (InspectGives.OfTooMuch k f p) =
    (both _ _ _ e f, both _ _ _ o p)
one_inspect bytes status another out other (InspectGives.OfTooMuch m e o) (InspectGives.OfNoGraph v n f p) =
    absurd (v m)
one_inspect bytes status another out other (InspectGives.OfTooMuch m e o) (InspectGives.OfGraph v g y n l x f p) =
    absurd (v m)
one_inspect bytes status another out other (InspectGives.OfNoGraph w n e o) (InspectGives.OfTooMuch k f p) =
    absurd (w k)
one_inspect bytes status another out other (InspectGives.OfNoGraph w n e o) (InspectGives.OfNoGraph v k f p) =
    (both _ _ _ e f, both _ _ _ o p)
one_inspect bytes status another out other (InspectGives.OfNoGraph w n e o) (InspectGives.OfGraph v g y m l x f p) =
    absurd (n g)
one_inspect bytes status another out other (InspectGives.OfGraph w g a m l x e o) (InspectGives.OfTooMuch k f p) =
    absurd (w k)
one_inspect bytes status another out other (InspectGives.OfGraph w g a m l x e o) (InspectGives.OfNoGraph v k f p) =
    absurd (k g)
one_inspect bytes status another out other (InspectGives.OfGraph w g a m l x e o)
    (InspectGives.OfGraph v h b n k y f p) = (
      both _ _ _ e f,
      o ∙ (ap (λ (blocks : List Block). counts_line (totals_of blocks)) (one_file a b m n bytes l k x y).2
          ∙ sym p),
    )

-- ---- a new store

module _ (reading : OneReading) (number : ℕ) (files : Files) (bytes : List ℕ) (status another : Status)
    (out other : List ℕ) (after later : Option History) where
  one_create : CreateGives number files bytes status out after → CreateGives number files bytes another other later
      → Alike status out after another other later
  one_create (CreateGives.OfOldStore i h e o a) (CreateGives.OfOldStore k g f p b) =
      (both _ _ _ e f, both _ _ _ o p, both _ _ _ a b)
  one_create (CreateGives.OfOldStore i h e o a) (CreateGives.OfInput n r b) = absurd (n i h.0 h.1 h.2)
  one_create (CreateGives.OfOldStore i h e o a) (CreateGives.OfExtract n l x f p b) = absurd (n i h.0 h.1 h.2)
  one_create (CreateGives.OfInput n r a) (CreateGives.OfOldStore k g f p b) = absurd (n k g.0 g.1 g.2)
  one_create (CreateGives.OfInput n r a) (CreateGives.OfInput m s b) =
      with_after _ _ _ _ _ _ (one_refusal Extract bytes status another out other r s) (both _ _ _ a b)
  one_create (CreateGives.OfInput n r a) (CreateGives.OfExtract m l x f p b) = absurd
      (not_refused Extract bytes status out l x r)
  one_create (CreateGives.OfExtract n l x e o a) (CreateGives.OfOldStore k g f p b) = absurd (n k g.0 g.1 g.2)
  one_create (CreateGives.OfExtract n l x e o a) (CreateGives.OfInput m s b) = absurd
      (not_refused Extract bytes another other l x s)
  one_create (CreateGives.OfExtract n l x e o a) (CreateGives.OfExtract m k y f p b) =
      let same = reading Extract bytes l k x.read y.read in
      (both _ _ _ e f, both _ _ _ o p, a ∙ (ap (λ (v : List Event). Some (base_alone 1 number v)) same ∙ sym b))

-- ---- a store

module _ (live : OneLive) (has : HasLive) (sound : NoDamage) (alone : OneDamage) (store : OneStore)
    (files : Files) where
  one_history : (s t : IsStore files) → s.history ≡ t.history
  one_history s t =
      (store files s.live t.live s.generation t.generation s.history t.history s.stands t.stands).2

  one_generation : (s t : IsStore files) → s.generation ≡ t.generation
  one_generation s t =
      (store files s.live t.live s.generation t.generation s.history t.history s.stands t.stands).1

  module _ (status another : Status) (out other : List ℕ) (after later : Option History) where
    as_before : (s t : IsStore files) → after ≡ Some s.history → later ≡ Some t.history → after ≡ later
    as_before s t a b = a ∙ (ap Some (one_history s t) ∙ sym b)

    module _ (Shows : ℕ → List Event → List ℕ → Type 0)
        (one : (n : ℕ) → IsProfile n → (events : List Event) (x y : List ℕ)
        → Shows n events x → Shows n events y → x ≡ y) where
      one_show : ShowGives Shows files status out after → ShowGives Shows files another other later
          → Alike status out after another other later
      one_show (ShowGives.OfStore r a) (ShowGives.OfStore s b) =
          with_after _ _ _ _ _ _ (one_store_refusal files status another out other live alone r s) (both _ _ _ a b)
      one_show (ShowGives.OfStore r a) (ShowGives.OfHistory t y f b) = absurd
          (store_not_refused files status out live has sound t r)
      one_show (ShowGives.OfHistory s x e a) (ShowGives.OfStore r b) = absurd
          (store_not_refused files another other live has sound s r)
      one_show (ShowGives.OfHistory s x e a) (ShowGives.OfHistory t y f b) =
          let same = sym (one_history s t) in
          let shown = subst (λ (h : History). Shows h.profile (all_events h) other) same y in (
            both _ _ _ e f,
            one s.history.profile s.stands.stands.begins.fits.profile (all_events s.history) out other x shown,
            as_before s t a b,
          )

    -- the entries of the history are one list of events
    one_entries : OneMap → (s t : IsStore files) (x y : List Event) → AreItsEntries s.history x
        → AreItsEntries t.history y → x ≡ y
    one_entries map s t x y r q = entries_of_one map s.history x y r
        (subst (λ (h : History). AreItsEntries h y) (sym (one_history s t)) q)

    one_room : OneMap → (s t : IsStore files) (x y : List Event) → AreItsEntries s.history x
        → AreItsEntries t.history y → HasNoRoom s.generation x → HasNoRoom t.generation y
    one_room map s t x y r q none =
        subst (λ (g : ℕ). HasNoRoom g y) (one_generation s t)
        (subst (λ (l : List Event). HasNoRoom s.generation l) (one_entries map s t x y r q) none)

    one_checkpoint : OneMap → (base : BaseProfile) → CheckpointGives base files status out after
        → CheckpointGives base files another other later → Alike status out after another other later
    one_checkpoint map base (CheckpointGives.OfStore r a) (CheckpointGives.OfStore q b) =
        with_after _ _ _ _ _ _ (one_store_refusal files status another out other live alone r q) (both _ _ _ a b)
    one_checkpoint map base (CheckpointGives.OfStore r a) (CheckpointGives.OfNoRoom t y i n f p b) = absurd
        (store_not_refused files status out live has sound t r)
    one_checkpoint map base (CheckpointGives.OfStore r a) (CheckpointGives.OfEntries t y i n f p b) = absurd
        (store_not_refused files status out live has sound t r)
    one_checkpoint map base (CheckpointGives.OfNoRoom s x j m e o a) (CheckpointGives.OfStore q b) = absurd
        (store_not_refused files another other live has sound s q)
    one_checkpoint map base (CheckpointGives.OfNoRoom s x j m e o a) (CheckpointGives.OfNoRoom t y i n f p b) =
        (both _ _ _ e f, both _ _ _ o p, as_before s t a b)
    one_checkpoint map base (CheckpointGives.OfNoRoom s x j m e o a) (CheckpointGives.OfEntries t y i n f p b) =
        absurd (n (one_room map s t x y j i m))
    one_checkpoint map base (CheckpointGives.OfEntries s x j m e o a) (CheckpointGives.OfStore q b) = absurd
        (store_not_refused files another other live has sound s q)
    one_checkpoint map base (CheckpointGives.OfEntries s x j m e o a) (CheckpointGives.OfNoRoom t y i n f p b) =
        absurd (m (one_room map t s y x i j n))
    one_checkpoint map base (CheckpointGives.OfEntries s x j m e o a) (CheckpointGives.OfEntries t y i n f p b) = (
      both _ _ _ e f,
      o ∙ (ap (λ (h : History). base_line base (kept h)) (one_history s t)
          ∙ sym p),
      a ∙ (ap (λ (h : History). Some (checkpointed base h x)) (one_history s t)
          ∙ (ap (λ (l : List Event). Some (checkpointed base t.history l)) (one_entries map s t x y j i)
          ∙ sym b)),
    )

    module _ (reading : OneReading) (number : ℕ) (bytes : List ℕ) where
      not_next : (s t : IsStore files) → (number ≡ kept s.history + 1 → ⊥) → number ≡ kept t.history + 1 → ⊥
      not_next s t wrong next = wrong (next ∙ ap (λ (h : History). kept h + 1) (sym (one_history s t)))

      one_change : (x y : List Event) → AreInput Change bytes x → AreInput Change bytes y → x ≡ y
      one_change x y r q = reading Change bytes x y r.read q.read

      one_size : (s t : IsStore files) (x y : List Event) → x ≡ y
          → size_with_change s.generation s.history x ≡ size_with_change t.generation t.history y
      one_size s t x y same =
          ap (λ (g : ℕ). size_with_change g s.history x) (one_generation s t)
          ∙ (ap (λ (h : History). size_with_change t.generation h x) (one_history s t)
          ∙ ap (λ (l : List Event). size_with_change t.generation t.history l) same)

      -- the change fits into the file or doesn't
      not_full : (s t : IsStore files) (x y : List Event) → AreInput Change bytes x → AreInput Change bytes y
          → 2 ^ 40 < size_with_change s.generation s.history x
          → size_with_change t.generation t.history y ≤ 2 ^ 40 → ⊥
      not_full s t x y r q large fits =
          let same = one_size s t x y (one_change x y r q) in
          let more = subst (λ (n : ℕ). 2 ^ 40 < n) same large in
          omega arith

      one_after : (s t : IsStore files) (x y : List Event) → AreInput Change bytes x → AreInput Change bytes y
          → Some (with_change s.history x) ≡ Some (with_change t.history y)
      one_after s t x y r q =
          ap (λ (h : History). Some (with_change h x)) (one_history s t)
          ∙ ap (λ (l : List Event). Some (with_change t.history l)) (one_change x y r q)

      -- a store that is refused, and one that isn't
      refused_store : (t : IsStore files) → StoreRefusal files status out → ⊥
      refused_store t r = store_not_refused files status out live has sound t r

      other_refused : (s : IsStore files) → StoreRefusal files another other → ⊥
      other_refused s r = store_not_refused files another other live has sound s r

      one_apply : ApplyGives number files bytes status out after → ApplyGives number files bytes another other later
          → Alike status out after another other later
      one_apply (ApplyGives.OfStore r a) (ApplyGives.OfStore q b) =
          with_after _ _ _ _ _ _ (one_store_refusal files status another out other live alone r q) (both _ _ _ a b)
      one_apply (ApplyGives.OfStore r a) (ApplyGives.OfTooMuch t m f p b) = absurd (refused_store t r)
      one_apply (ApplyGives.OfStore r a) (ApplyGives.OfSequence t w n f p b) = absurd (refused_store t r)
      one_apply (ApplyGives.OfStore r a) (ApplyGives.OfFault t w n y is f p b) = absurd (refused_store t r)
      one_apply (ApplyGives.OfStore r a) (ApplyGives.OfFullFile t n y q l f p b) = absurd (refused_store t r)
      one_apply (ApplyGives.OfStore r a) (ApplyGives.OfChange t n y q l f p b) = absurd (refused_store t r)
      one_apply (ApplyGives.OfTooMuch s m e o a) (ApplyGives.OfStore r b) = absurd (other_refused s r)
      one_apply (ApplyGives.OfTooMuch s m e o a) (ApplyGives.OfTooMuch t k f p b) =
          (both _ _ _ e f, both _ _ _ o p, as_before s t a b)
      one_apply (ApplyGives.OfTooMuch s m e o a) (ApplyGives.OfSequence t w n f p b) = absurd (w m)
      one_apply (ApplyGives.OfTooMuch s m e o a) (ApplyGives.OfFault t w n y is f p b) = absurd (w m)
      one_apply (ApplyGives.OfTooMuch s m e o a) (ApplyGives.OfFullFile t n y q l f p b) = absurd (q.within m)
      one_apply (ApplyGives.OfTooMuch s m e o a) (ApplyGives.OfChange t n y q l f p b) = absurd (q.within m)
      one_apply (ApplyGives.OfSequence s v c e o a) (ApplyGives.OfStore r b) = absurd (other_refused s r)
      one_apply (ApplyGives.OfSequence s v c e o a) (ApplyGives.OfTooMuch t k f p b) = absurd (v k)
      one_apply (ApplyGives.OfSequence s v c e o a) (ApplyGives.OfSequence t w n f p b) = (
        both _ _ _ e f,
        o ∙ (ap (λ (h : History). sequence_line number (kept h)) (one_history s t)
            ∙ sym p),
        as_before s t a b,
      )
      one_apply (ApplyGives.OfSequence s v c e o a) (ApplyGives.OfFault t w n y is f p b) = absurd (not_next s t c n)
      one_apply (ApplyGives.OfSequence s v c e o a) (ApplyGives.OfFullFile t n y q l f p b) = absurd (not_next s t c n)
      one_apply (ApplyGives.OfSequence s v c e o a) (ApplyGives.OfChange t n y q l f p b) = absurd (not_next s t c n)
      one_apply (ApplyGives.OfFault s v c x js e o a) (ApplyGives.OfStore r b) = absurd (other_refused s r)
      one_apply (ApplyGives.OfFault s v c x js e o a) (ApplyGives.OfTooMuch t k f p b) = absurd (v k)
      one_apply (ApplyGives.OfFault s v c x js e o a) (ApplyGives.OfSequence t w n f p b) = absurd (not_next t s n c)
      one_apply (ApplyGives.OfFault s v c x js e o a) (ApplyGives.OfFault t w n y is f p b) = (
        both _ _ _ e f,
        o ∙ (one_fault x y (input_fault Change bytes) js is
            ∙ sym p),
        as_before s t a b,
      )
      one_apply (ApplyGives.OfFault s v c x js e o a) (ApplyGives.OfFullFile t n y q l f p b) = absurd
          (no_fault Change bytes y x q.read js)
      one_apply (ApplyGives.OfFault s v c x js e o a) (ApplyGives.OfChange t n y q l f p b) = absurd
          (no_fault Change bytes y x q.read js)
      one_apply (ApplyGives.OfFullFile s c x r k e o a) (ApplyGives.OfStore q b) = absurd (other_refused s q)
      one_apply (ApplyGives.OfFullFile s c x r k e o a) (ApplyGives.OfTooMuch t m f p b) = absurd (r.within m)
      one_apply (ApplyGives.OfFullFile s c x r k e o a) (ApplyGives.OfSequence t w n f p b) = absurd (not_next t s n c)
      one_apply (ApplyGives.OfFullFile s c x r k e o a) (ApplyGives.OfFault t w n y is f p b) = absurd
          (no_fault Change bytes x y r.read is)
      one_apply (ApplyGives.OfFullFile s c x r k e o a) (ApplyGives.OfFullFile t n y q l f p b) =
          (both _ _ _ e f, both _ _ _ o p, as_before s t a b)
      one_apply (ApplyGives.OfFullFile s c x r k e o a) (ApplyGives.OfChange t n y q l f p b) = absurd
          (not_full s t x y r q k l)
      one_apply (ApplyGives.OfChange s c x r k e o a) (ApplyGives.OfStore q b) = absurd (other_refused s q)
      one_apply (ApplyGives.OfChange s c x r k e o a) (ApplyGives.OfTooMuch t m f p b) = absurd (r.within m)
      one_apply (ApplyGives.OfChange s c x r k e o a) (ApplyGives.OfSequence t w n f p b) = absurd (not_next t s n c)
      one_apply (ApplyGives.OfChange s c x r k e o a) (ApplyGives.OfFault t w n y is f p b) = absurd
          (no_fault Change bytes x y r.read is)
      one_apply (ApplyGives.OfChange s c x r k e o a) (ApplyGives.OfFullFile t n y q l f p b) = absurd
          (not_full t s y x q r l k)
      one_apply (ApplyGives.OfChange s c x r k e o a) (ApplyGives.OfChange t n y q l f p b) =
          (both _ _ _ e f, both _ _ _ o p, a ∙ (one_after s t x y r q ∙ sym b))

-- ---- all commands

-- there are two known profiles
pub each_profile : (one two : ℕ) → one ≡ 1 → two ≡ 2 → ((M : Objects) → OneGraph M (rules_of one))
    → ((M : Objects) → OneGraph M (rules_of two)) → OneGraphEach
each_profile one two is_one is_two graph other n known = ⊎_elim
    (λ is. subst (λ (k : ℕ). (M : Objects) → OneGraph M (rules_of k)) (is_one ∙ sym (eqb-true n 1 is)) graph)
    (λ is. subst (λ (k : ℕ). (M : Objects) → OneGraph M (rules_of k)) (is_two ∙ sym (eqb-true n 2 is)) other)
    (or_cases (n == 1) (n == 2) known)

module _ (reading : OneReading) (map : OneMap) (graph : OneGraphEach)
    (total : IsTotalOrder relation_cmp) (bytes : List ℕ) (status another : Status) (out other : List ℕ)
    (after later : Option History) where
  one_usage : (files : Option Files) → Gives None files bytes status out after
      → Gives None files bytes another other later → Alike status out after another other later
  one_usage files a b = (both _ _ _ a.0 b.0, both _ _ _ a.1 b.1, both _ _ _ a.2 b.2)

  one_alone : (profile : ℕ) (files : Option Files) → Gives (Some (Compile profile)) files bytes status out after
      → Gives (Some (Compile profile)) files bytes another other later
      → Alike status out after another other later
  one_alone profile files a b = with_after _ _ _ _ _ _
      (one_compile reading map graph profile bytes status another out other a.0 b.0)
      (both _ _ _ a.1 b.1)

  one_inspected : (files : Option Files) → Gives (Some Inspect) files bytes status out after
      → Gives (Some Inspect) files bytes another other later → Alike status out after another other later
  one_inspected files a b =
      with_after _ _ _ _ _ _ (one_inspect bytes status another out other a.0 b.0) (both _ _ _ a.1 b.1)

  one_sampled : (number : ℕ) (files : Option Files) → Gives (Some (Sample number)) files bytes status out after
      → Gives (Some (Sample number)) files bytes another other later → Alike status out after another other later
  one_sampled number files a b =
      (both _ _ _ a.0 b.0, one_sample (rules_of 1) map (graph 1 refl) number out other a.1 b.1, both _ _ _ a.2 b.2)

  -- without a store no file is looked at
  pub one_without : (command : Option Command) → (IsStored command → ⊥) → Gives command None bytes status out after
      → Gives command None bytes another other later → Alike status out after another other later
  one_without None n a b = one_usage None a b
  one_without (Some (Compile profile)) n a b = one_alone profile None a b
  one_without (Some Inspect) n a b = one_inspected None a b
  one_without (Some (Sample number)) n a b = one_sampled number None a b
  one_without (Some (Create number)) n a b = absurd (n tt)
  one_without (Some (Apply number)) n a b = absurd (n tt)
  one_without (Some (Graph moment)) n a b = absurd (n tt)
  one_without (Some Audit) n a b = absurd (n tt)
  one_without (Some (Checkpoint base)) n a b = absurd (n tt)

  pub one_answer : OneLive → HasLive → NoDamage → OneDamage → OneStore → (command : Option Command) (files : Files)
      → Gives command (Some files) bytes status out after → Gives command (Some files) bytes another other later
      → Alike status out after another other later
  one_answer live has sound alone store None files a b = one_usage (Some files) a b
  one_answer live has sound alone store (Some (Compile profile)) files a b = one_alone profile (Some files) a b
  one_answer live has sound alone store (Some Inspect) files a b = one_inspected (Some files) a b
  one_answer live has sound alone store (Some (Sample n)) files a b = one_sampled n (Some files) a b
  one_answer live has sound alone store (Some (Create n)) files a b =
      one_create reading n.0 files bytes status another out other after later a b
  one_answer live has sound alone store (Some (Apply n)) files a b =
      one_apply live has sound alone store files status another out other after later reading n.0 bytes a b
  one_answer live has sound alone store (Some (Graph moment)) files a b =
      one_show live has sound alone store files status another out other after later
      (λ n. IsGraphOf (rules_shown moment n))
      (λ n known. one_graph_of map (rules_shown moment n) (λ M. one_graph M (rules_shown moment n))) a b
  one_answer live has sound alone store (Some Audit) files a b =
      one_show live has sound alone store files status another out other after later (λ n. IsAuditOf (rules_of n))
      (λ n known. one_audit total map (rules_of n)) a b
  one_answer live has sound alone store (Some (Checkpoint base)) files a b =
      one_checkpoint live has sound alone store files status another out other after later map base a b
