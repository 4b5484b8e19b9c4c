-- Ways by whose pieces other arcs lead than before.
use Rattle.std.specs.Prelude.{◌≡◌, ◌⊎◌, List, Contains}
use Rattle.road_base.specs.declared.ids.WayId.{WayId}
use Rattle.road_model.specs.declared.lists.Context.{Context}
use Rattle.road_model.specs.declared.lists.Piece.{Piece}
use Rattle.road_model.specs.declared.lists.PieceName.{PieceName}
use Rattle.road_model.specs.declared.lists.TurnArc.{TurnArc}
use Rattle.touched_ways.specs.Altering.{ListsArc, ListsArcBehind}

-- each of the arcs is one of the others, or leads by a piece of one of the ways
abbrev pub AreArcsLed : List TurnArc → List TurnArc → List WayId → Type 0
AreArcsLed arcs others led = (a : TurnArc) → Contains arcs a → Contains others a ⊎ Contains led a.piece.way

-- each arc of the contexts stands in the others behind the same names, or leads by a piece of one of the ways
abbrev pub AreLedBehind : List Context → List Context → List WayId → Type 0
AreLedBehind contexts others led = (before : List PieceName) (a : TurnArc) → ListsArcBehind contexts before a
    → ListsArcBehind others before a ⊎ Contains led a.piece.way

-- each arc of the pieces stands in the others in the same context, or leads by a piece of one of the ways
abbrev pub AreLed : List Piece → List Piece → List WayId → Type 0
AreLed pieces others led = (name : PieceName) (before : List PieceName) (a : TurnArc) → ListsArc pieces name before a
    → ListsArc others name before a ⊎ Contains led a.piece.way

-- an arc of these leads by a piece of the way
abbrev pub LeadTo : List TurnArc → WayId → Type 0
LeadTo arcs w = (a : TurnArc) × Contains arcs a × (a.piece.way ≡ w)

-- the contexts list an arc that leads by a piece of the way
abbrev pub LeadBehind : List Context → WayId → Type 0
LeadBehind contexts w = (before : List PieceName) × (a : TurnArc) × ListsArcBehind contexts before a × (a.piece.way ≡ w)

-- the pieces list an arc that leads by a piece of the way
abbrev pub ListArcTo : List Piece → WayId → Type 0
ListArcTo pieces w =
    (name : PieceName) × (before : List PieceName) × (a : TurnArc) × ListsArc pieces name before a × (a.piece.way ≡ w)

-- one of the ways lists an arc that leads by a piece of the way, in its pieces before or in those behind
abbrev pub IsLedFrom : (WayId → List Piece) → (WayId → List Piece) → List WayId → WayId → Type 0
IsLedFrom before after ways w = (v : WayId) × Contains ways v × (ListArcTo (before v) w ⊎ ListArcTo (after v) w)
