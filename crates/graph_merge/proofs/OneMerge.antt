-- Bytes are one list of graph files and no other.
use Rattle.std.proofs.Common.{◌≡◌, ℕ, inl, inr, List, [], ◌∷◌, ◌++◌, length, refl, sym, ap, subst, ◌∙◌}
use Rattle.std.proofs.Common.{arith, append_assoc, append-nil, length-append}
use Rattle.road_base.specs.Bytes.{joined}
use Rattle.road_model.specs.declared.blocks.Block.{Block}
use Rattle.road_model.specs.Orders.{way_cmp}
use Rattle.road_model.specs.Format.{graph_bytes}
use Rattle.road_model.proofs.TotalOrders.{way_cmp_total}
use Rattle.ordered_lists.specs.Orders.{Lists}
use Rattle.ordered_lists.proofs.AscendingLists.{lists_unique}
use Rattle.graph_file.specs.GraphReading.{IsFile}
use Rattle.graph_file.proofs.GraphFiles.{grammar, one_front}
use Rattle.graph_merge.specs.declared.faults.MergeFault.{MergeFault}
use Rattle.graph_merge.specs.declared.faults.MergeFault.TheVariants.{Graph, Twice}
use Rattle.graph_merge.specs.Merging.{AreFiles, AreGraphs, StandsTwice, StandsIn, IsMerged, IsMergeable, BreaksAt}
use Rattle.graph_merge.specs.Merging.{IsRefusedFor}
use Rattle.graph_merge.proofs.FrontFiles.{bytes_some}

-- no bytes are a graph's
none_spelled : (version profile : ℕ) (bs : List Block) (rest : List ℕ) → [] ≡ graph_bytes version profile bs ++ rest → ⊥
none_spelled version profile bs rest e =
    let some = bytes_some version profile bs in
    let all = ap length e ∙ length-append (graph_bytes version profile bs) rest in
    omega (arith, some, all)

-- two lists of files of one version and profile that spell the same bytes
same_rest : (v p : ℕ) (a b : List (List Block)) → AreFiles v p a → AreFiles v p b
    → joined (graph_bytes v p) a ≡ joined (graph_bytes v p) b → a ≡ b
same_rest v p [] [] first second same = refl
same_rest v p [] (g ∷ gs) first second same = absurd (none_spelled v p g (joined (graph_bytes v p) gs) same)
same_rest v p (f ∷ fs) [] first second same = absurd (none_spelled v p f (joined (graph_bytes v p) fs) (sym same))
same_rest v p (f ∷ fs) (g ∷ gs) first second same =
    let spell : List Block → List ℕ = graph_bytes v p in
    let one = one_front v v p p (spell f) (spell g) (joined spell fs) (joined spell gs) f g first.0 second.0 same in
    let rest = same_rest v p fs gs first.1 second.1 one.3 in
    λ i. one.2 i ∷ rest i

-- the first files of both are of one version and profile
record SameKind (v w p q : ℕ) : Type 0 where
  version : v ≡ w
  profile : p ≡ q

same_kind : (v w p q : ℕ) (a b : List (List Block)) (rest : List ℕ) → (a ≡ [] → ⊥) → (b ≡ [] → ⊥) → AreFiles v p a
    → AreFiles w q b → joined (graph_bytes v p) a ≡ joined (graph_bytes w q) b ++ rest → SameKind v w p q
same_kind v w p q [] b rest some other first second same = absurd (some refl)
same_kind v w p q (f ∷ fs) [] rest some other first second same = absurd (other refl)
same_kind v w p q (f ∷ fs) (g ∷ gs) rest some other first second same =
    let one = one_front v w p q (graph_bytes v p f) (graph_bytes w q g) (joined (graph_bytes v p) fs)
    (joined (graph_bytes w q) gs ++ rest) f g first.0 second.0
    (same ∙ append_assoc (graph_bytes w q g) (joined (graph_bytes w q) gs) rest) in
    record { version = one.0; profile = one.1 }

-- the same bytes are one list of files
pub same_files : (v w p q : ℕ) (a b : List (List Block)) (bytes : List ℕ) → AreGraphs v p a bytes
    → AreGraphs w q b bytes
    → (v ≡ w) × (p ≡ q) × (a ≡ b)
same_files v w p q a b bytes first second =
    let same : joined (graph_bytes v p) a ≡ joined (graph_bytes w q) b = sym first.spelled ∙ second.spelled in
    let kind = same_kind v w p q a b [] first.some second.some first.each second.each
    (same ∙ sym (append-nil (joined (graph_bytes w q) b))) in
    let each : AreFiles v p b = subst (λ n. AreFiles v n b) (sym kind.profile)
    (subst (λ n. AreFiles n q b) (sym kind.version) second.each) in (
      kind.version,
      kind.profile,
      same_rest v p a b first.each each
          (same ∙ (λ i. joined (graph_bytes (sym kind.version i) (sym kind.profile i)) b)),
    )

pub one_out : (bytes first second : List ℕ) → IsMerged bytes first → IsMerged bytes second → first ≡ second
one_out bytes first second a b =
    let same = same_files a.version b.version a.profile b.profile a.files b.files bytes a.graphs b.graphs in
    let blocks : a.blocks ≡ b.blocks = lists_unique (λ (x : Block). x.way) way_cmp way_cmp_total (StandsIn b.files)
    a.blocks b.blocks (subst (λ fs. Lists (λ x. x.way) way_cmp (StandsIn fs) a.blocks)
    same.2 a.merge.listed) b.merge.listed in
    a.file.spelled ∙ (λ i. graph_bytes (same.0 i) (same.1 i) (blocks i)) ∙ sym b.file.spelled

-- behind some of the files nothing is left that isn't a file
no_break : (v p : ℕ) (a b : List (List Block)) (rest : List ℕ) → AreFiles v p a → AreFiles v p b
    → joined (graph_bytes v p) a ≡ joined (graph_bytes v p) b ++ rest → (rest ≡ [] → ⊥)
    → ((front behind : List ℕ) (bs : List Block) → rest ≡ front ++ behind → IsFile v p front bs → ⊥) → ⊥
no_break v p [] [] rest first second same more none = more (sym same)
no_break v p (f ∷ fs) [] rest first second same more none =
    none (graph_bytes v p f) (joined (graph_bytes v p) fs) f (sym same) first.0
no_break v p [] (g ∷ gs) rest first second same more none =
    none_spelled v p g (joined (graph_bytes v p) gs ++ rest)
    (same ∙ append_assoc (graph_bytes v p g) (joined (graph_bytes v p) gs) rest)
no_break v p (f ∷ fs) (g ∷ gs) rest first second same more none =
    let spell : List Block → List ℕ = graph_bytes v p in
    let one = one_front v v p p (spell f) (spell g) (joined spell fs) (joined spell gs ++ rest) f g first.0 second.0
    (same ∙ append_assoc (spell g) (joined spell gs) rest) in
    no_break v p fs gs rest first.1 second.1 one.3 more none

graphs_unbroken : (bytes : List ℕ) (number : ℕ) → IsMergeable bytes → BreaksAt bytes number → ⊥
graphs_unbroken bytes number good (inl bad) = of_first good.files good.graphs.some good.graphs.each good.graphs.spelled
  where
    of_first : (files : List (List Block)) → (files ≡ [] → ⊥) → AreFiles good.version good.profile files
        → bytes ≡ joined (graph_bytes good.version good.profile) files → ⊥
    of_first [] some each spelled = some refl
    of_first (f ∷ fs) some each spelled =
        bad.1 (graph_bytes good.version good.profile f) (joined (graph_bytes good.version good.profile) fs) spelled
        (grammar good.version good.profile (graph_bytes good.version good.profile f) f each.0)
graphs_unbroken bytes number good (inr bad) =
    let break = bad.2 in
    let same : joined (graph_bytes good.version good.profile) good.files
    ≡ joined (graph_bytes break.version break.profile) break.files ++ break.rest = sym good.graphs.spelled ∙ break.parts
    in
    let kind = same_kind good.version break.version good.profile break.profile good.files break.files break.rest
    good.graphs.some break.graphs.some good.graphs.each break.graphs.each same in
    let each : AreFiles break.version break.profile good.files = subst (λ n. AreFiles break.version n good.files)
    kind.profile (subst (λ n. AreFiles n good.profile good.files) kind.version good.graphs.each) in
    no_break break.version break.profile good.files break.files break.rest each break.graphs.each
    ((λ i. joined (graph_bytes (sym kind.version i) (sym kind.profile i)) good.files) ∙ same) break.more break.none

pub not_refused : (bytes : List ℕ) (fault : MergeFault) → IsMergeable bytes → IsRefusedFor fault bytes → ⊥
not_refused bytes (Graph number) good bad = graphs_unbroken bytes number good bad
not_refused bytes (Twice way) good bad =
    let same = same_files good.version bad.version good.profile bad.profile good.files bad.files bytes good.graphs
    bad.graphs in
    good.once way (subst (λ fs. StandsTwice fs way) (sym same.2) bad.twice)
