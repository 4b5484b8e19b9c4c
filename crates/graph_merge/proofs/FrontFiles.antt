-- Graph files that bytes begin with, one behind another.
use Rattle.std.proofs.Common.{◌≡◌, ℕ, ◌+◌, ◌<◌, ◌≤◌, Bool, true, false, List, [], ◌∷◌, ◌++◌, length, flat_map}
use Rattle.std.proofs.Common.{refl, inr, sym, ap, subst, ◌∙◌, arith, append_assoc, append-nil, length-append}
use Rattle.std.proofs.lemmas.Grind.{flat_map-append}
use Rattle.road_base.specs.Bytes.{u32_bytes, u64_bytes, joined}
use Rattle.road_base.proofs.Appends.{joined_more, all_more}
use Rattle.road_model.specs.declared.blocks.Block.{Block}
use Rattle.road_model.specs.Format.{magic_bytes, block_bytes, graph_bytes, is_sourced}
use Rattle.graph_file.specs.GraphReading.{IsFile}
use Rattle.graph_file.proofs.GraphFiles.{grammar, one_front}
use Rattle.graph_merge.specs.declared.collecting.CollectedGraphs.{CollectedGraphs}
use Rattle.graph_merge.specs.Merging.{AreFiles, BreaksAt, HasNoFront}
use Rattle.graph_merge.specs.Collecting.{HasFront, HasAll, HasNone}

-- a graph's bytes are some
magic_some : (sourced : Bool) (rest : List ℕ) → 1 ≤ length (magic_bytes sourced ++ rest)
magic_some false rest = omega arith
magic_some true rest = omega arith

pub bytes_some : (version profile : ℕ) (bs : List Block) → 1 ≤ length (graph_bytes version profile bs)
bytes_some version profile bs = magic_some (is_sourced version)
    (u32_bytes profile ++ (u64_bytes (length bs) ++ joined (block_bytes (is_sourced version)) bs))

-- as many bytes as files, or more
files_short : (version profile : ℕ) (files : List (List Block))
    → length files ≤ length (joined (graph_bytes version profile) files)
files_short version profile [] = omega arith
files_short version profile (f ∷ fs) =
    let head = bytes_some version profile f in
    let rest = files_short version profile fs in
    let all = length-append (graph_bytes version profile f) (joined (graph_bytes version profile) fs) in
    omega (arith, head, rest, all)

pub count_short : (count : ℕ) (g : CollectedGraphs) (bytes rest : List ℕ) → HasFront count g bytes rest
    → count + length rest ≤ length bytes
count_short count g bytes rest has =
    let some = files_short g.version g.profile has.files in
    let counted = has.count_is in
    let all = ap length has.parts ∙ length-append (joined (graph_bytes g.version g.profile) has.files) rest in
    omega (arith, some, counted, all)

-- behind a graph there is less
pub shorter : (version profile : ℕ) (bs : List Block) (bytes rest : List ℕ)
    → bytes ≡ graph_bytes version profile bs ++ rest → length rest < length bytes
shorter version profile bs bytes rest parts =
    let some = bytes_some version profile bs in
    let all = ap length parts ∙ length-append (graph_bytes version profile bs) rest in
    omega (arith, some, all)

-- the first graph was read
pub first_read : (g : CollectedGraphs) (bs : List Block) (bytes rest : List ℕ)
    → IsFile g.version g.profile (graph_bytes g.version g.profile bs) bs
    → bytes ≡ graph_bytes g.version g.profile bs ++ rest → g.blocks.items ≡ bs → HasFront 1 g bytes rest
first_read g bs bytes rest file parts is = record {
  files = bs ∷ [];
  count_is = refl;
  has = record { some = λ e. cc; each = (file, tt); blocks_are = is ∙ sym (append-nil bs) };
  parts = parts ∙ ap (λ l. l ++ rest) (sym (append-nil (graph_bytes g.version g.profile bs)));
}

more_some : {A : Type 0} (xs : List A) (x : A) → xs ++ x ∷ [] ≡ [] → ⊥
more_some [] x e = cc
more_some (y ∷ xs) x e = cc

-- one more was read
pub next_read : (count : ℕ) (old new : CollectedGraphs) (all bytes rest : List ℕ) (version profile : ℕ)
    (bs : List Block)
    → HasFront count old all bytes → version ≡ old.version → profile ≡ old.profile
    → IsFile version profile (graph_bytes version profile bs) bs → bytes ≡ graph_bytes version profile bs ++ rest
    → new.version ≡ old.version → new.profile ≡ old.profile → new.blocks.items ≡ old.blocks.items ++ bs
    → HasFront (count + 1) new all rest
next_read count old new all bytes rest version profile bs has same_version same_profile file parts version_is profile_is
    blocks_is =
    let v : version ≡ new.version = same_version ∙ sym version_is in
    let p : profile ≡ new.profile = same_profile ∙ sym profile_is in
    let files : List (List Block) = has.files in
    let spell : List Block → List ℕ = graph_bytes new.version new.profile in
    let mine : IsFile new.version new.profile (spell bs) bs =
    subst (λ n. IsFile new.version n (graph_bytes new.version n bs) bs) p
    (subst (λ n. IsFile n profile (graph_bytes n profile bs) bs) v file) in
    let each : AreFiles new.version new.profile files = subst (λ n. AreFiles new.version n files) (sym profile_is)
    (subst (λ n. AreFiles n old.profile files) (sym version_is) has.has.each) in
    let head : graph_bytes version profile bs ≡ spell bs = λ i. graph_bytes (v i) (p i) bs in
    let front : joined (graph_bytes old.version old.profile) files ≡ joined spell files =
    λ i. joined (graph_bytes (sym version_is i) (sym profile_is i)) files in
    record {
      files = files ++ bs ∷ [];
      count_is = length-append files (bs ∷ []) ∙ ap (λ n. n + 1) has.count_is;
      has = record {
        some = more_some files bs;
        each = all_more (λ f. IsFile new.version new.profile (spell f) f) files bs each mine;
        blocks_are =
            blocks_is ∙ ap (λ l. l ++ bs) has.has.blocks_are
            ∙ ap (λ l. flat_map (λ f. f) files ++ l) (sym (append-nil bs))
            ∙ sym (flat_map-append (λ f. f) files (bs ∷ []));
      };
      parts =
          has.parts ∙ ap (λ l. l ++ bytes) front
          ∙ ap (λ l. joined spell files ++ l) (parts ∙ ap (λ l. l ++ rest) head)
          ∙ sym (append_assoc (joined spell files) (spell bs) rest)
          ∙ ap (λ l. l ++ rest) (sym (joined_more spell files bs));
    }

-- nothing is left
pub all_read : (count : ℕ) (g : CollectedGraphs) (bytes rest : List ℕ) → HasFront count g bytes rest → rest ≡ []
    → HasAll g bytes
all_read count g bytes rest has none = record {
  files = has.files;
  has = has.has;
  spelled = has.parts ∙ ap (λ l. joined (graph_bytes g.version g.profile) has.files ++ l) none
      ∙ append-nil (joined (graph_bytes g.version g.profile) has.files);
}

-- what is left begins with no graph of this version and profile
pub breaks : (count : ℕ) (g : CollectedGraphs) (bytes rest : List ℕ) → HasFront count g bytes rest → (rest ≡ [] → ⊥)
    → HasNone g.version g.profile rest → BreaksAt bytes (count + 1)
breaks count g bytes rest has more none = inr (
  count,
  refl,
  record {
    version = g.version;
    profile = g.profile;
    files = has.files;
    rest = rest;
    graphs = record { some = has.has.some; each = has.has.each; spelled = refl };
    count_is = has.count_is;
    parts = has.parts;
    more = more;
    none = none;
  },
)

-- where no front is in the grammar, none is a file
pub none_of_any : (version profile : ℕ) (bytes : List ℕ) → HasNoFront bytes → HasNone version profile bytes
none_of_any version profile bytes none front rest bs parts file =
    none front rest parts (grammar version profile front bs file)

-- a graph of another version or profile stands there, so none of this one does
pub other_version : (v w p q : ℕ) (bytes rest : List ℕ) (bs : List Block) → IsFile v p (graph_bytes v p bs) bs
    → bytes ≡ graph_bytes v p bs ++ rest → (v ≡ w → ⊥) → HasNone w q bytes
other_version v w p q bytes rest bs file parts apart front behind others is other =
    apart (one_front v w p q (graph_bytes v p bs) front rest behind bs others file other (sym parts ∙ is)).0

pub other_profile : (v w p q : ℕ) (bytes rest : List ℕ) (bs : List Block) → IsFile v p (graph_bytes v p bs) bs
    → bytes ≡ graph_bytes v p bs ++ rest → (p ≡ q → ⊥) → HasNone w q bytes
other_profile v w p q bytes rest bs file parts apart front behind others is other =
    apart (one_front v w p q (graph_bytes v p bs) front rest behind bs others file other (sym parts ∙ is)).1
