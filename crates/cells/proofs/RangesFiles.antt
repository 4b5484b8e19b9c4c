-- Graph files that stand one behind another are told by their bytes.
use Rattle.std.proofs.Common.{◌≡◌, ℕ, Bool, true, false, List, [], ◌∷◌, ◌++◌, Contains, refl, sym, ap, subst, ◌∙◌}
use Rattle.std.specs.List.{AllZip}
use Rattle.road_base.specs.Bytes.{joined}
use Rattle.ordered_lists.proofs.ListMembers.{contains_head, contains_later}
use Rattle.road_model.specs.declared.blocks.Block.{Block}
use Rattle.road_model.specs.Format.{graph_bytes, magic_bytes, is_sourced}
use Rattle.graph_file.specs.GraphReading.{IsFile}
use Rattle.graph_merge.specs.Merging.{AreFiles}
use Rattle.cells.specs.Ranges.{all_bytes}

-- a graph file tells its own end
abbrev pub OneFront : Type 0
OneFront = (v w m n : ℕ) (x y r s : List ℕ) (a b : List Block) → IsFile v m x a → IsFile w n y b → x ++ r ≡ y ++ s
    → (v ≡ w) × (m ≡ n) × (a ≡ b) × (r ≡ s)

-- the bytes are a graph file of some version and profile
pub record IsSomeFile (graph : List ℕ) : Type 0 where
  pub version : ℕ
  pub profile : ℕ
  pub blocks : List Block
  pub file : IsFile version profile graph blocks

-- a graph file has some bytes
no_magic : (sourced : Bool) (r s : List ℕ) → [] ≡ (magic_bytes sourced ++ r) ++ s → ⊥
no_magic false r s e = cc
no_magic true r s e = cc

no_bytes : (v p : ℕ) (bs : List Block) (s : List ℕ) → [] ≡ graph_bytes v p bs ++ s → ⊥
no_bytes v p bs s e = no_magic (is_sourced v) _ s e

no_file : (v p : ℕ) (graph : List ℕ) (bs : List Block) (s : List ℕ) → IsFile v p graph bs → [] ≡ graph ++ s → ⊥
no_file v p graph bs s file e = no_bytes v p bs s (e ∙ ap (λ l. l ++ s) file.spelled)

module _ (one : OneFront) where
  -- one list of blocks, of one version and one profile
  pub same_file : (v w m n : ℕ) (graph : List ℕ) (a b : List Block) → IsFile v m graph a → IsFile w n graph b
      → (v ≡ w) × (m ≡ n) × (a ≡ b)
  same_file v w m n graph a b f g = let s = one v w m n graph graph [] [] a b f g refl in (s.0, s.1, s.2)

  module _ (v p : ℕ) where
    -- graphs whose bytes are those of these files, one behind another, are the files
    pub told : (graphs : List (List ℕ)) (files : List (List Block)) → ((g : List ℕ) → Contains graphs g → IsSomeFile g)
        → AreFiles v p files → all_bytes graphs ≡ joined (graph_bytes v p) files → AllZip (IsFile v p) graphs files
    told [] [] some are e = tt
    told [] (f ∷ fs) some are e = absurd (no_bytes v p f _ e)
    told (g ∷ gs) [] some are e =
        let h = some g (contains_head g gs) in absurd (no_file h.version h.profile g h.blocks _ h.file (sym e))
    told (g ∷ gs) (f ∷ fs) some are e =
        let h = some g (contains_head g gs) in
        let s = one h.version v h.profile p g (graph_bytes v p f) (all_bytes gs) (joined (graph_bytes v p) fs)
        h.blocks f h.file are.0 e in
        let of_version : IsFile v h.profile g h.blocks = subst (λ k. IsFile k h.profile g h.blocks) s.0 h.file in
        let of_profile : IsFile v p g h.blocks = subst (λ k. IsFile v k g h.blocks) s.1 of_version in (
          subst (λ (bs : List Block). IsFile v p g bs) s.2 of_profile,
          told gs fs (λ x has. some x (contains_later g x gs has)) are.1 s.3,
        )

-- the files of such graphs
module _ (v p : ℕ) where
  pub are_files : (graphs : List (List ℕ)) (files : List (List Block)) → AllZip (IsFile v p) graphs files
      → AreFiles v p files
  are_files [] [] zip = tt
  are_files [] (f ∷ fs) zip = absurd zip
  are_files (g ∷ gs) [] zip = absurd zip
  are_files (g ∷ gs) (f ∷ fs) zip =
      (subst (λ (x : List ℕ). IsFile v p x f) (zip.0).spelled zip.0, are_files gs fs zip.1)

  pub spelled : (graphs : List (List ℕ)) (files : List (List Block)) → AllZip (IsFile v p) graphs files
      → all_bytes graphs ≡ joined (graph_bytes v p) files
  spelled [] [] zip = refl
  spelled [] (f ∷ fs) zip = absurd zip
  spelled (g ∷ gs) [] zip = absurd zip
  spelled (g ∷ gs) (f ∷ fs) zip = λ i. (zip.0).spelled i ++ spelled gs fs zip.1 i
