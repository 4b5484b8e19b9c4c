-- What a cell's graph, or that of some ways, has of a map's blocks, by what a run gave.
use Rattle.std.proofs.Common.{◌≡◌, ◌⊎◌, ℕ, List, Contains, inl, inr, sym, subst}
use Rattle.std.specs.FinMap.{empty}
use Rattle.road_base.specs.declared.event.Event.{Event}
use Rattle.road_base.specs.declared.ids.WayId.{WayId}
use Rattle.road_base.specs.Objects.{Objects}
use Rattle.road_base.specs.Applying.{IsApplied}
use Rattle.opl_lexer.specs.declared.mode.Mode.{Mode}
use Rattle.opl_lexer.specs.declared.mode.Mode.TheVariants.{Extract}
use Rattle.opl_lexer.specs.Reading.{ReadAll}
use Rattle.ordered_lists.proofs.Decided.{Decided}
use Rattle.road_model.specs.declared.blocks.Block.{Block}
use Rattle.road_model.specs.Rules.{Rules}
use Rattle.road_model.specs.Blocks.{IsRoadBlock}
use Rattle.graph_file.specs.GraphReading.{IsFile}
use Rattle.access_profile.specs.Profiles.{rules_of}
use Rattle.compiled_graph.specs.Building.{HasBlocksAmong}
use Rattle.map_cells.specs.Cells.{Passes}
use Rattle.map_cells.specs.Owners.{IsOwn}
use Rattle.last_words.specs.declared.status.Status.TheVariants.{Done}
use Rattle.cells.specs.declared.command.ProfileNumber.{ProfileNumber}
use Rattle.cells.specs.declared.command.MapCommand.{MapCommand}
use Rattle.cells.specs.declared.command.MapCommand.TheVariants.{Part, Rest, Ways}
use Rattle.cells.specs.Commands.{number_of}
use Rattle.cells.specs.Made.{IsPart, IsRestOf, IsOfWays}
use Rattle.cells.specs.Outcomes.{TextRefusal, OfTooMuch, OfFault, MapGives, OfText, OfMap, IsMade}
use Rattle.cells.specs.WholeGraph.{AreObjectsOf, CompiledCell, IsCompiledCell, CompiledWays, AreCompiledWays, IsNamed}
use Rattle.cells.proofs.WholeMembers.{decided_way_in}

-- an input gives one list of events, and these leave one map
abbrev pub OneReading : Type 0
OneReading = (mode : Mode) (bytes : List ℕ) (events others : List Event) → ReadAll mode bytes events
    → ReadAll mode bytes others → events ≡ others

abbrev pub OneMap : Type 0
OneMap = (M N O : Objects) (events : List Event) → IsApplied M events N → IsApplied M events O → N ≡ O

-- what a run that ended well made of the events of its text
record IsMadeOf (command : MapCommand) (text out : List ℕ) : Type 0 where
  events : List Event
  read : ReadAll Extract text events
  made : IsMade command events out

pub not_refused : {Over : List ℕ → Type 0} {MayGoOn : Type 0} (bytes out : List ℕ)
    → TextRefusal Over MayGoOn bytes Done out → ⊥
not_refused bytes out (OfTooMuch over is line) = cc
not_refused bytes out (OfFault few fault refused is line) = cc

made_of : (command : MapCommand) (text out : List ℕ) → MapGives command text Done out → IsMadeOf command text out
made_of command text out (OfText refusal) = absurd (not_refused text out refusal)
made_of command text out (OfMap few events read made is) = record { events = events; read = read; made = made }

-- the graph is a file of blocks of M
pub record IsFileOf (M : Objects) (P : Rules) (graph : List ℕ) : Type 0 where
  pub blocks : List Block
  pub file : IsFile 2 P.number graph blocks
  pub sound : (b : Block) → Contains blocks b → IsRoadBlock M P b

-- the graph is a file that has the block
pub record HasIn (P : Rules) (graph : List ℕ) (b : Block) : Type 0 where
  pub blocks : List Block
  pub file : IsFile 2 P.number graph blocks
  pub has : Contains blocks b

module _ (M : Objects) (P : Rules) (ways : List WayId) (graph : List ℕ) (among : HasBlocksAmong M P ways graph) where
  among_file : IsFileOf M P graph
  among_file = record {
    blocks = among.blocks;
    file = among.file;
    sound = λ b has. (among.listed.sound b has).road;
  }

  among_has : (b : Block) → Contains ways b.way → IsRoadBlock M P b → HasIn P graph b
  among_has b has road = record {
    blocks = among.blocks;
    file = among.file;
    has = among.listed.complete b (record { among = has; road = road });
  }

module _ (M : Objects) (profile : ProfileNumber) where
  abbrev rules : Rules
  rules = rules_of (number_of profile)

  module _ (c : CompiledWays) (are : AreCompiledWays M profile c) where
    ways_made : HasBlocksAmong M rules c.ways c.graph
    ways_made =
        let m = made_of (Ways profile c.ways) c.text c.graph are.made in
        let made : IsOfWays rules c.ways m.events c.graph = m.made in
        made.whole M (λ w has.
        are.kept made.objects w (record { events = m.events; read = m.read; applied = made.applied }) has)

    pub ways_file : IsFileOf M rules c.graph
    ways_file = among_file M rules c.ways c.graph ways_made

    pub ways_has : (b : Block) → Contains c.ways b.way → IsRoadBlock M rules b → HasIn rules c.graph b
    ways_has = among_has M rules c.ways c.graph ways_made

  module _ (c : CompiledCell) (is : IsCompiledCell M profile c) where
    -- what `part` made of the objects of the text
    record CellPart : Type 0 where
      events : List Event
      read : ReadAll Extract c.text events
      part : IsPart c.cut rules events c.graph

    cell_part : CellPart
    cell_part =
        let m = made_of (Part c.cut profile) c.text c.graph is.part in
        record { events = m.events; read = m.read; part = m.made }

    cell_held : AreObjectsOf c.text cell_part.part.objects
    cell_held = record { events = cell_part.events; read = cell_part.read; applied = cell_part.part.applied }

    pub cell_objects : (objects : Objects) × AreObjectsOf c.text objects
    cell_objects = (cell_part.part.objects, cell_held)

    cell_made : HasBlocksAmong M rules (cell_part.part.ways) c.graph
    cell_made = cell_part.part.whole M (is.kept cell_part.part.objects cell_held)

    pub cell_file : IsFileOf M rules c.graph
    cell_file = among_file M rules cell_part.part.ways c.graph cell_made

    -- an own way passes, and its block is in the cell's graph, or the lines name it
    module _ (one_reading : OneReading) (one_map : OneMap) where
      same_objects : (A B : Objects) → AreObjectsOf c.text A → AreObjectsOf c.text B → A ≡ B
      same_objects A B a b =
          let e = one_reading Extract c.text a.events b.events a.read b.read in
          one_map empty A B b.events (subst (λ events. IsApplied empty events A) e a.applied) b.applied

      fails_named : (w : WayId) → IsOwn cell_part.part.objects c.cut.cell w
          → (Passes cell_part.part.objects c.cut.area w → ⊥) → IsNamed c.rest w
      fails_named w own fails =
          let m = made_of (Rest c.cut) c.text c.rest is.rest in
          let rest : IsRestOf c.cut m.events c.rest = m.made in
          let same = same_objects cell_part.part.objects rest.objects cell_held
          (record { events = m.events; read = m.read; applied = rest.applied }) in (
            rest.failing,
            rest.spelled,
            rest.are.all w (subst (λ O. IsOwn O c.cut.cell w) same own)
                (λ passes. fails (subst (λ O. Passes O c.cut.area w) (sym same) passes)),
          )

      own_cases : (b : Block) → IsOwn cell_part.part.objects c.cut.cell b.way → IsRoadBlock M rules b
          → Decided (Contains cell_part.part.ways b.way) → HasIn rules c.graph b ⊎ IsNamed c.rest b.way
      own_cases b own road (inl has) = inl (among_has M rules cell_part.part.ways c.graph cell_made b has road)
      own_cases b own road (inr none) = inr (fails_named b.way own (λ passes.
          none (cell_part.part.listed.complete b.way (own, passes))))

      pub own_block : (objects : Objects) → AreObjectsOf c.text objects → (b : Block) → IsOwn objects c.cut.cell b.way
          → IsRoadBlock M rules b → HasIn rules c.graph b ⊎ IsNamed c.rest b.way
      own_block objects are b own road =
          let same = same_objects objects cell_part.part.objects are cell_held in
          own_cases b (subst (λ O. IsOwn O c.cut.cell b.way) same own) road (decided_way_in b.way cell_part.part.ways)
