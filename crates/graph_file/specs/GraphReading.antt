-- What the parts of a graph file have to be, to be read back.
use Rattle.std.specs.Prelude.{◌≡◌, ℕ, ◌+◌, ◌-◌, ◌<◌, ◌≤◌, ◌^◌, Bool, true, false, List, [], ◌++◌, length, map, IsTrue}
use Rattle.std.specs.Prelude.{FitsSigned}
use Rattle.std.specs.List.{AllByRecursion}
use Rattle.std.specs.Int.{w64}
use Rattle.road_base.specs.declared.ids.WayId.{WayId}
use Rattle.road_base.specs.Profiles.{IsProfile}
use Rattle.road_base.specs.Bytes.{u32_bytes, u64_bytes, joined}
use Rattle.road_model.specs.declared.lists.PieceName.{PieceName}
use Rattle.road_model.specs.declared.lists.Place.{Place}
use Rattle.road_model.specs.declared.lists.TurnArc.{TurnArc}
use Rattle.road_model.specs.declared.lists.Context.{Context}
use Rattle.road_model.specs.declared.lists.Piece.{Piece}
use Rattle.road_model.specs.declared.blocks.Block.{Block}
use Rattle.road_model.specs.Format.{graph_bytes, IsVersion, is_sourced}
use Rattle.road_model.specs.Format.{dir_bytes, name_bytes, mark_bytes, NameFits}
use Rattle.road_model.specs.Format.{ContextFits, PieceFits, IsContextForm, IsPieceForm, begins_alone, place_cmp}
use Rattle.ordered_lists.specs.Orders.{rises}
use Rattle.road_model.specs.Orders.{name_cmp, names_cmp, way_cmp}
use Rattle.graph_file.specs.declared.extent.Extent.{Extent}

-- each value
abbrev pub Any : {A : Type 0} → A → Type 0
Any x = Unit {0}

abbrev pub PlaceFits : Place → Type 0
PlaceFits p = FitsSigned w64 p.node.0

abbrev pub ArcFits : TurnArc → Type 0
ArcFits a = NameFits a.piece × (a.length < 2 ^ 32)

-- how many there are, in eight bytes, and each one's bytes
abbrev pub list_bytes : {A : Type 0} → (A → List ℕ) → List A → List ℕ
list_bytes spell xs = u64_bytes (length xs) ++ joined spell xs

abbrev pub ListFits : {A : Type 0} → (A → Type 0) → List A → Type 0
ListFits Fits xs = (length xs < 2 ^ 64) × AllByRecursion Fits xs

-- the names before a context's last, and in front how many pieces it has
abbrev pub before_bytes : List PieceName → List ℕ
before_bytes names = u32_bytes (length names + 1) ++ joined name_bytes names

abbrev pub BeforeFits : List PieceName → Type 0
BeforeFits names = (length names < 2 ^ 32 - 1) × AllByRecursion NameFits names

-- the names of a source
abbrev pub SourceFits : List PieceName → Type 0
SourceFits names = (length names < 2 ^ 32) × AllByRecursion NameFits names

-- ---- what a file without sources leaves out

-- the fact holds of a file without sources
abbrev pub Unless : Bool → Type 0 → Type 0
Unless false P = P
Unless true P = Unit {0}

-- a mark, which is false where none is spelled
abbrev pub MarkFits : Bool → Bool → Type 0
MarkFits sourced zone = Unless sourced (zone ≡ false)

-- the sources of a context, which are none where none are spelled
abbrev pub SourcesAre : Bool → List (List PieceName) → Type 0
SourcesAre false sources = sources ≡ []
SourcesAre true sources = ListFits SourceFits sources

-- a context without sources
abbrev pub IsBareContext : Context → Type 0
IsBareContext c = c.sources ≡ []

-- a piece without a mark, and without sources
pub record IsBarePiece (p : Piece) : Type 0 where
  pub unmarked : p.zone ≡ false
  pub contexts : AllByRecursion IsBareContext p.contexts

-- a block without marks and sources
abbrev pub IsBareBlock : Block → Type 0
IsBareBlock b = AllByRecursion IsBarePiece b.pieces

-- ---- contexts, pieces and blocks

-- arcs that may lead from a context with these names before its last one
abbrev pub AreArcsOf : List PieceName → List TurnArc → Type 0
AreArcsOf before arcs = IsTrue (rises name_cmp (map (λ a. a.piece) arcs))
    × AllByRecursion (λ a. (1 ≤ a.length) × (a.length ≤ length before + 2)) arcs

-- sources that a context with these names before its last one may have
abbrev pub AreSourcesOf : List PieceName → List (List PieceName) → Type 0
AreSourcesOf before sources = AllByRecursion (λ s. (1 ≤ length s) × (length before ≤ length s)) sources
    × IsTrue (rises names_cmp sources)

pub record IsContext (sourced : Bool) (c : Context) : Type 0 where
  pub form : IsContextForm sourced c
  pub fits : ContextFits sourced c
  pub bare : Unless sourced (IsBareContext c)

-- contexts of a piece, and so many that eight bytes count them
pub record AreContexts (sourced : Bool) (cs : List Context) : Type 0 where
  pub some : ListFits (IsContext sourced) cs
  pub alone : begins_alone cs
  pub ascend : IsTrue (rises names_cmp (map (λ c. c.before) cs))

-- the positions of a piece, then its direction and its mark
abbrev pub extent_bytes : Bool → Extent → List ℕ
extent_bytes sourced e = u32_bytes e.index ++ (u32_bytes e.end ++ (dir_bytes e.dir ++ mark_bytes sourced e.zone))

pub record IsExtent (sourced : Bool) (e : Extent) : Type 0 where
  pub ascends : e.index < e.end
  pub bounded : e.end ≤ 65534
  pub mark : MarkFits sourced e.zone

-- a piece of the way
pub record IsPieceAt (sourced : Bool) (way : WayId) (p : Piece) : Type 0 where
  pub way_is : p.name.way ≡ way
  pub form : IsPieceForm sourced p
  pub fits : PieceFits sourced p
  pub bare : Unless sourced (IsBarePiece p)

-- a block whose pieces are those of its way
pub record IsWayBlock (sourced : Bool) (b : Block) : Type 0 where
  pub way : FitsSigned w64 b.way.0
  pub count : length b.pieces < 2 ^ 32
  pub some : b.pieces ≡ [] → ⊥
  pub ascend : IsTrue (rises place_cmp (map (λ p. p.name) b.pieces))
  pub pieces : AllByRecursion (IsPieceAt sourced b.way) b.pieces

abbrev pub IsOfItsWay : Block → Type 0
IsOfItsWay b = AllByRecursion (λ p. p.name.way ≡ b.way) b.pieces

-- the bytes are a graph file of this version and profile with these blocks, whose pieces are those of their way, and
-- which have neither marks nor sources if the version has none
pub record IsFile (version profile : ℕ) (bytes : List ℕ) (blocks : List Block) : Type 0 where
  pub known_version : IsVersion version
  pub known : IsProfile profile
  pub spelled : bytes ≡ graph_bytes version profile blocks
  pub some : ListFits (IsWayBlock (is_sourced version)) blocks
  pub ascend : IsTrue (rises way_cmp (map (λ b. b.way) blocks))

-- the bytes are a graph file of this version and profile with these blocks, and then the rest
pub record BeginsFile (version profile : ℕ) (bytes : List ℕ) (blocks : List Block) (rest : List ℕ) : Type 0 where
  pub file : IsFile version profile (graph_bytes version profile blocks) blocks
  pub parts : bytes ≡ graph_bytes version profile blocks ++ rest
