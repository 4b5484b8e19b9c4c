-- The bytes of a graph file. All numbers are little endian.
use Rattle.std.specs.Prelude.{◌≡◌, ℕ, ◌+◌, ◌-◌, ◌<◌, ◌≤◌, ◌^◌, List, [], ◌∷◌, ◌++◌, length, map, IsTrue, FitsSigned}
use Rattle.std.specs.Prelude.{◌==◌, ◌⊎◌, Bool, true, false, codes}
use Rattle.std.specs.List.{AllByRecursion}
use Rattle.std.specs.Ordering.{nat_cmp, ordering_then}
use Rattle.std.specs.Int.{w64}
use Rattle.std.specs.declared.cmp.Ordering.{Ordering}
use Rattle.road_base.specs.declared.ids.Dir.{Dir}
use Rattle.road_base.specs.declared.ids.Dir.TheVariants.{Forward, Backward}
use Rattle.road_base.specs.Profiles.{IsProfile}
use Rattle.road_base.specs.Bytes.{u32_bytes, u64_bytes, i32_bytes, i64_bytes, joined}
use Rattle.road_base.specs.Objects.{Objects}
use Rattle.road_model.specs.declared.lists.PieceName.{PieceName}
use Rattle.road_model.specs.declared.lists.Place.{Place}
use Rattle.road_model.specs.declared.lists.TurnArc.{TurnArc}
use Rattle.road_model.specs.declared.lists.Context.{Context}
use Rattle.road_model.specs.declared.lists.Piece.{Piece}
use Rattle.road_model.specs.declared.blocks.Block.{Block}
use Rattle.road_model.specs.Rules.{Rules}
use Rattle.ordered_lists.specs.Orders.{Lists, rises}
use Rattle.road_model.specs.Orders.{way_cmp, dir_cmp, name_cmp, names_cmp}
use Rattle.road_model.specs.Blocks.{IsRoadBlock}

-- ---- spelling

abbrev pub dir_bytes : Dir → List ℕ
dir_bytes Forward = 0 ∷ []
dir_bytes Backward = 1 ∷ []

abbrev pub name_bytes : PieceName → List ℕ
name_bytes n = i64_bytes n.way.0 ++ (u32_bytes n.index ++ dir_bytes n.dir)

abbrev pub place_bytes : Place → List ℕ
place_bytes p = i64_bytes p.node.0 ++ (i32_bytes p.location.lon ++ i32_bytes p.location.lat)

-- the arc's piece, and how many pieces its target has
abbrev pub arc_bytes : TurnArc → List ℕ
arc_bytes a = name_bytes a.piece ++ u32_bytes a.length

-- how many pieces it has, and the names of all of them
abbrev pub source_bytes : List PieceName → List ℕ
source_bytes s = u32_bytes (length s) ++ joined name_bytes s

abbrev pub sources_bytes : Bool → List (List PieceName) → List ℕ
sources_bytes false ss = []
sources_bytes true ss = u64_bytes (length ss) ++ joined source_bytes ss

-- how many pieces it has, the names of all but the last, its arcs, and its sources in a file that has them
abbrev pub context_bytes : Bool → Context → List ℕ
context_bytes sourced c = u32_bytes (length c.before + 1)
    ++ (joined name_bytes c.before ++ (u64_bytes (length c.arcs) ++ (joined arc_bytes c.arcs
    ++ sources_bytes sourced c.sources)))

-- a mark, in a file that has sources
abbrev pub mark_bytes : Bool → Bool → List ℕ
mark_bytes false zone = []
mark_bytes true false = 0 ∷ []
mark_bytes true true = 1 ∷ []

-- its positions and direction, its mark, its nodes and its contexts
abbrev pub piece_bytes : Bool → Piece → List ℕ
piece_bytes sourced p =
    u32_bytes p.name.index ++ (u32_bytes p.end
    ++ (dir_bytes p.name.dir ++ (mark_bytes sourced p.zone ++ (joined place_bytes p.places
    ++ (u64_bytes (length p.contexts) ++ joined (context_bytes sourced) p.contexts)))))

abbrev pub block_bytes : Bool → Block → List ℕ
block_bytes sourced b = i64_bytes b.way.0
    ++ (u32_bytes (length b.pieces) ++ joined (piece_bytes sourced) b.pieces)

-- the versions of graph files
abbrev pub IsVersion : ℕ → Type 0
IsVersion v = (v ≡ 1) ⊎ (v ≡ 2)

-- whether a file of the version has marks and sources: version 2 has
abbrev pub is_sourced : ℕ → Bool
is_sourced v = v == 2

abbrev pub magic_bytes : Bool → List ℕ
magic_bytes false = codes "OSMROAD1"
magic_bytes true = codes "OSMROAD2"

-- the magic of the version, the profile's number, how many blocks there are, and the blocks
abbrev pub graph_bytes : ℕ → ℕ → List Block → List ℕ
graph_bytes version profile blocks = magic_bytes (is_sourced version)
    ++ (u32_bytes profile ++ (u64_bytes (length blocks) ++ joined (block_bytes (is_sourced version)) blocks))

-- ---- grammar

-- each source has a piece at least, and all pieces before the context's last but one, and the sources ascend
pub record AreSourcesForm (c : Context) : Type 0 where
  pub some : AllByRecursion (λ s. (1 ≤ length s) × (length c.before ≤ length s) × (length s < 2 ^ 32)) c.sources
  pub ascend : IsTrue (rises names_cmp c.sources)

pub record IsContextForm (sourced : Bool) (c : Context) : Type 0 where
  pub short : length c.before < 2 ^ 32 - 1
  pub arcs_ascend : IsTrue (rises name_cmp (map (λ a. a.piece) c.arcs))
  pub targets : AllByRecursion (λ a. (1 ≤ a.length) × (a.length ≤ length c.before + 2)) c.arcs
  pub sources : IsTrue sourced → AreSourcesForm c

abbrev pub place_cmp : PieceName → PieceName → Ordering
place_cmp a b = ordering_then (nat_cmp a.index b.index) (dir_cmp a.dir b.dir)

abbrev pub begins_alone : List Context → Type 0
begins_alone [] = ⊥
begins_alone (c ∷ cs) = c.before ≡ []

pub record IsPieceForm (sourced : Bool) (p : Piece) : Type 0 where
  pub ascends : p.name.index < p.end
  pub bounded : p.end ≤ 65534
  pub place_count : length p.places ≡ p.end - p.name.index + 1
  pub first_alone : begins_alone p.contexts
  pub contexts_ascend : IsTrue (rises names_cmp (map (λ c. c.before) p.contexts))
  pub contexts : AllByRecursion (IsContextForm sourced) p.contexts

pub record IsBlockForm (sourced : Bool) (b : Block) : Type 0 where
  pub some : b.pieces ≡ [] → ⊥
  pub ascend : IsTrue (rises place_cmp (map (λ p. p.name) b.pieces))
  pub pieces : AllByRecursion (IsPieceForm sourced) b.pieces

-- ---- each number fits its bytes, and so is read again as it was

abbrev pub NameFits : PieceName → Type 0
NameFits n = FitsSigned w64 n.way.0 × (n.index < 2 ^ 32)

pub record SourcesFit (ss : List (List PieceName)) : Type 0 where
  pub names : AllByRecursion (AllByRecursion NameFits) ss
  pub count : length ss < 2 ^ 64

-- a file without sources says nothing of them
pub record ContextFits (sourced : Bool) (c : Context) : Type 0 where
  pub names : AllByRecursion NameFits c.before
  pub arcs : AllByRecursion (λ a. NameFits a.piece × (a.length < 2 ^ 32)) c.arcs
  pub arc_count : length c.arcs < 2 ^ 64
  pub sources : IsTrue sourced → SourcesFit c.sources

pub record PieceFits (sourced : Bool) (p : Piece) : Type 0 where
  pub places : AllByRecursion (λ x. FitsSigned w64 x.node.0) p.places
  pub contexts : AllByRecursion (ContextFits sourced) p.contexts
  pub context_count : length p.contexts < 2 ^ 64

pub record BlockFits (sourced : Bool) (b : Block) : Type 0 where
  pub way : FitsSigned w64 b.way.0
  pub pieces : AllByRecursion (PieceFits sourced) b.pieces

-- The bytes are in the grammar of a graph file of either version: they spell blocks that ascend by way, each with
-- pieces that ascend by position and direction, each with its contexts, of which the first has one piece, by length and
-- names, each with its arcs by name, and in version 2 with its sources by length and names. Locations are in range by
-- their type.
pub record IsGraphFile (bytes : List ℕ) : Type 0 where
  pub version : ℕ
  pub known_version : IsVersion version
  pub profile : ℕ
  pub known : IsProfile profile
  pub blocks : List Block
  pub ascend : IsTrue (rises way_cmp (map (λ b. b.way) blocks))
  pub forms : AllByRecursion (IsBlockForm (is_sourced version)) blocks
  pub fit : AllByRecursion (BlockFits (is_sourced version)) blocks
  pub count : length blocks < 2 ^ 64
  pub spelled : bytes ≡ graph_bytes version profile blocks

-- ---- the graph of an object map

-- the bytes are those of the object map's graph, of version 2: the blocks of all ways with pieces, ascending by way
pub record IsGraph (M : Objects) (P : Rules) (bytes : List ℕ) : Type 0 where
  pub blocks : List Block
  pub listed : Lists (λ b. b.way) way_cmp (IsRoadBlock M P) blocks
  pub spelled : bytes ≡ graph_bytes 2 P.number blocks
