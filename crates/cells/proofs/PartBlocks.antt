-- The blocks of a part are the map's.
use Rattle.std.proofs.Common.{◌≡◌, ◌≤◌, ◌+◌, ℕ, List, ◌++◌, ◌∷◌, length, map, IsTrue, refl, ap, subst, arith}
use Rattle.std.specs.Prelude.{◌↔◌, Contains, IfOk, Result, Ok, Err}
use Rattle.std.specs.Cmp.{IsTotalOrder}
use Rattle.std.specs.FinMap.{empty}
use Rattle.std.specs.List.{flat_map}
use Rattle.std.proofs.lemmas.List.{map-id}
use Rattle.road_base.specs.declared.event.Event.{Event}
use Rattle.road_base.specs.declared.ids.WayId.{WayId}
use Rattle.road_base.specs.Objects.{Objects}
use Rattle.road_base.specs.Applying.{IsApplied}
use Rattle.opl_lexer.specs.Letters.{newline}
use Rattle.ordered_lists.specs.Orders.{Lists, rises}
use Rattle.ordered_lists.proofs.AscendingLists.{lists_unique}
use Rattle.road_model.specs.declared.blocks.Block.{Block}
use Rattle.road_model.specs.Orders.{way_cmp}
use Rattle.road_model.specs.Rules.{Rules}
use Rattle.road_model.specs.Blocks.{IsBlock}
use Rattle.compiled_graph.specs.Building.{HasBlocksAmong, IsBlockAmong}
use Rattle.map_cells.specs.declared.area.Area.{Area}
use Rattle.map_cells.specs.Cells.{IsCell, Passes, IsCut}
use Rattle.cell_check.specs.declared.checking.Failing.{Failing}
use Rattle.cell_check.specs.Checks.{AreFailing}
use Rattle.cell_plan.specs.CellPlans.{places_in}
use Rattle.cells.specs.declared.command.CutCell.{CutCell}
use Rattle.cells.specs.Texts.{failing_line, report_lines}
use Rattle.cells.specs.Made.{IsOwnPassing, IsPart, IsReport, IsOfWays, places_of}
use Rattle.cells.specs.Run.{BuildsPart}

pub if_ok : {T E : Type 0} (r : Result T E) (Before After : T → Type 0) → ((t : T) → Before t → After t)
    → IfOk r Before → IfOk r After
if_ok (Ok t) Before After next is = next t is
if_ok (Err e) Before After next is = is

pub names_rise : (ways : List WayId) → IsTrue (rises way_cmp (map (λ w. w) ways)) → IsTrue (rises way_cmp ways)
names_rise ways up = subst (λ (l : List WayId). IsTrue (rises way_cmp l)) (map-id ways) up

module _ (P : Rules) (M C : Objects) (ways : List WayId)
    (same : (w : WayId) (b : Block) → Contains ways w → IsBlock M P w b ↔ IsBlock C P w b) where
  into_map : (b : Block) → IsBlockAmong C P ways b → IsBlockAmong M P ways b
  into_map b is = record {
    among = is.among;
    road = record { block = (same b.way b is.among).1 is.road.block; some = is.road.some };
  }

  out_of_map : (b : Block) → IsBlockAmong M P ways b → IsBlockAmong C P ways b
  out_of_map b is = record {
    among = is.among;
    road = record { block = (same b.way b is.among).0 is.road.block; some = is.road.some };
  }

  pub blocks_of_map : (out : List ℕ) → HasBlocksAmong C P ways out → HasBlocksAmong M P ways out
  blocks_of_map out has = record {
    blocks = has.blocks;
    listed = record {
      ascending = has.listed.ascending;
      sound = λ b i. into_map b (has.listed.sound b i);
      complete = λ b is. has.listed.complete b (out_of_map b is);
    };
    file = has.file;
  }

-- the law of cells, and that of cuts
abbrev pub CellLaw : Rules → Type 0
CellLaw P = (M C : Objects) (area : Area) (w : WayId) (b : Block) → IsCell M C area → Passes C area w
    → IsBlock M P w b ↔ IsBlock C P w b

abbrev pub CutLaw : Rules → Type 0
CutLaw P = (M C : Objects) (w : WayId) (b : Block) → IsCut M C w → IsBlock M P w b ↔ IsBlock C P w b

module _ (P : Rules) (events : List Event) (objects : Objects) (applied : IsApplied empty events objects)
    (ways : List WayId) where
  pub is_part : CellLaw P → (cut : CutCell) → Lists (λ w. w) way_cmp (IsOwnPassing objects cut) ways
      → (out : List ℕ) → HasBlocksAmong objects P ways out → IsPart cut P events out
  is_part law cut listed out has = record {
    objects = objects;
    applied = applied;
    ways = ways;
    listed = listed;
    blocks = has;
    whole = λ M is. blocks_of_map P M objects ways
        (λ w b i. law M objects cut.area w b is (listed.sound w i).1) out has;
  }

  pub is_report : CellLaw P → (cut : CutCell) → Lists (λ w. w) way_cmp (IsOwnPassing objects cut) ways
      → (failing : List Failing) → AreFailing objects cut.area cut.cell failing
      → (graph : List ℕ) → HasBlocksAmong objects P ways graph → (out : List ℕ)
      → out ≡ graph ++ newline ∷ report_lines (places_in cut.cell (places_of events)) ways failing
      → IsReport cut P events out
  unfolding is_part
  is_report law cut listed failing are graph has out spelled = record {
    graph = graph;
    part = is_part law cut listed graph has;
    lines = flat_map failing_line failing;
    rest = record { objects = objects; applied = applied; failing = failing; are = are; spelled = refl };
    spelled = spelled;
  }

  pub is_of_ways : CutLaw P → (out : List ℕ) → HasBlocksAmong objects P ways out → IsOfWays P ways events out
  is_of_ways law out has = record {
    objects = objects;
    applied = applied;
    blocks = has;
    whole = λ M are. blocks_of_map P M objects ways (λ w b i. law M objects w b (are w i)) out has;
  }

-- ---- how many are built

abbrev pub OneMap : Type 0
OneMap = (M N O : Objects) (events : List Event) → IsApplied M events N → IsApplied M events O → N ≡ O

pub nothing_built : (cut : CutCell) (events : List Event) (n : ℕ) → BuildsPart cut events n n
nothing_built cut events n = λ objects ways applied listed. omega arith

pub part_built : OneMap → IsTotalOrder way_cmp → (cut : CutCell) (events : List Event) (objects : Objects)
    → IsApplied empty events objects → (ways : List WayId) → Lists (λ w. w) way_cmp (IsOwnPassing objects cut) ways
    → (old new : ℕ) → new ≤ old + length ways → BuildsPart cut events old new
part_built one total cut events objects applied ways listed old new built = λ others own also are.
    let same = one empty others objects events also applied in
    let alike = subst (λ (M : Objects). Lists (λ w. w) way_cmp (IsOwnPassing M cut) own) same are in
    let list = lists_unique (λ w. w) way_cmp total (IsOwnPassing objects cut) ways own listed alike in
    let long = ap (λ (l : List WayId). length l) list in
    omega arith
