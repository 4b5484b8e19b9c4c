-- Arcs that others lack, and the ways by whose pieces they lead.
use Rattle.std.proofs.Common.{◌≡◌, ◌⊎◌, inl, inr, List, [], ◌∷◌, ◌++◌, Contains, sym, ap, subst, ◌∙◌}
use Rattle.road_base.specs.declared.ids.WayId.{WayId}
use Rattle.road_model.specs.declared.lists.Context.{Context}
use Rattle.road_model.specs.declared.lists.Piece.{Piece}
use Rattle.road_model.specs.declared.lists.PieceName.{PieceName}
use Rattle.road_model.specs.declared.lists.TurnArc.{TurnArc}
use Rattle.touched_ways.specs.Altering.{ListsArc, ListsArcBehind, ListSameArcs}
use Rattle.change_apply.specs.Sourcing.{AreArcsLed, AreLed, AreLedBehind}
use Rattle.ordered_lists.proofs.ListMembers.{contains_none, contains_more}

-- nothing is lost of the ways
abbrev pub Keeps : List WayId → List WayId → Type 0
Keeps led more = (w : WayId) → Contains led w → Contains more w

-- what is said of an arc goes on holding
still : {A : Type 0} (led more : List WayId) (w : WayId) → Keeps led more → A ⊎ Contains led w → A ⊎ Contains more w
still led more w keeps (inl here) = inl here
still led more w keeps (inr there) = inr (keeps w there)

-- what was added has this
abbrev pub AddsOnly : List WayId → List WayId → (WayId → Type 0) → Type 0
AddsOnly led more Is = (w : WayId) → Contains more w → Contains led w ⊎ Is w

pub adds_none : (led : List WayId) (Is : WayId → Type 0) → AddsOnly led led Is
adds_none led Is w has = inl has

-- so has what is added by one step more
pub adds_more : (first led more : List WayId) (Is Next : WayId → Type 0) → AddsOnly first led Is
    → AddsOnly led more Next → ((w : WayId) → Next w → Is w) → AddsOnly first more Is
adds_more first led more Is Next so_far step all w has = elim (step w has)
    [ inl earlier ↦ so_far w earlier | inr new ↦ inr (all w new) ]

-- ---- arcs

pub no_arcs : (others : List TurnArc) (led : List WayId) → AreArcsLed [] others led
no_arcs others led a has = absurd (contains_none a has)

pub more_arcs : (arcs others : List TurnArc) (led more : List WayId) (arc : TurnArc) → AreArcsLed arcs others led
    → Keeps led more → Contains others arc ⊎ Contains more arc.piece.way
    → AreArcsLed (arcs ++ arc ∷ []) others more
more_arcs arcs others led more arc are keeps is a has = elim (contains_more arcs arc a has) [
  | inl earlier ↦ still led more a.piece.way keeps (are a earlier)
  | inr same ↦ subst (λ x. Contains others x ⊎ Contains more x.piece.way) (sym same) is
]

-- ---- contexts

pub no_contexts : (others : List Context) (led : List WayId) → AreLedBehind [] others led
no_contexts others led before a l = absurd (contains_none l.context l.listed)

module _ (contexts others : List Context) (led more : List WayId) (context : Context) (arcs : List TurnArc)
    (are : AreLedBehind contexts others led) (keeps : Keeps led more) (is : AreArcsLed context.arcs arcs more)
    (among : (a : TurnArc) → Contains arcs a → ListsArcBehind others context.before a) where
  last_context : (before : List PieceName) (a : TurnArc) (c : Context) → c ≡ context → c.before ≡ before
      → Contains c.arcs a → ListsArcBehind others before a ⊎ Contains more a.piece.way
  last_context before a c same behind has =
      elim (is a (subst (λ x. Contains x.arcs a) same has)) [
        | inl here ↦ inl (subst (λ l. ListsArcBehind others l a) (ap (λ x. x.before) (sym same) ∙ behind)
            (among a here))
        | inr there ↦ inr there
      ]

  pub more_contexts : AreLedBehind (contexts ++ context ∷ []) others more
  more_contexts before a l = elim (contains_more contexts context l.context l.listed) [
    | inl earlier ↦ still led more a.piece.way keeps (are before a (record {
      context = l.context;
      listed = earlier;
      behind = l.behind;
      arc = l.arc;
    }))
    | inr same ↦ last_context before a l.context same l.behind l.arc
  ]

-- ---- pieces

pub no_pieces : (others : List Piece) (led : List WayId) → AreLed [] others led
no_pieces others led name before a l = absurd (contains_none l.piece l.listed)

module _ (pieces others : List Piece) (led more : List WayId) (piece : Piece) (contexts : List Context)
    (are : AreLed pieces others led) (keeps : Keeps led more) (is : AreLedBehind piece.contexts contexts more)
    (among : (before : List PieceName) (a : TurnArc) → ListsArcBehind contexts before a
    → ListsArc others piece.name before a) where
  last_piece : (name : PieceName) (before : List PieceName) (a : TurnArc) (p : Piece) → p ≡ piece → p.name ≡ name
      → ListsArcBehind p.contexts before a → ListsArc others name before a ⊎ Contains more a.piece.way
  last_piece name before a p same named has =
      elim (is before a (subst (λ x. ListsArcBehind x.contexts before a) same has)) [
        | inl here ↦ inl (subst (λ n. ListsArc others n before a) (ap (λ x. x.name) (sym same) ∙ named)
            (among before a here))
        | inr there ↦ inr there
      ]

  pub more_pieces : AreLed (pieces ++ piece ∷ []) others more
  more_pieces name before a l = elim (contains_more pieces piece l.piece l.listed) [
    | inl earlier ↦ still led more a.piece.way keeps (are name before a (record {
      piece = l.piece;
      listed = earlier;
      named = l.named;
      arc = l.arc;
    }))
    | inr same ↦ last_piece name before a l.piece same l.named l.arc
  ]

-- ---- both ways

led_still : (pieces others : List Piece) (led more : List WayId) → Keeps led more → AreLed pieces others led
    → AreLed pieces others more
led_still pieces others led more keeps are name before a l = still led more a.piece.way keeps (are name before a l)

one_way : (pieces others : List Piece) (led : List WayId) (w : WayId) → (Contains led w → ⊥) → AreLed pieces others led
    → (name : PieceName) (before : List PieceName) (a : TurnArc) → a.piece.way ≡ w → ListsArc pieces name before a
    → ListsArc others name before a
one_way pieces others led w not are name before a of l = elim (are name before a l) [
  | inl here ↦ here
  | inr there ↦ absurd (not (subst (Contains led) of there))
]

-- a way that isn't among these has the same arcs in both
pub same_arcs_but : (was is : List Piece) (some led : List WayId) → Keeps some led → AreLed was is some
    → AreLed is was led → (w : WayId) → (Contains led w → ⊥) → ListSameArcs w was is
same_arcs_but was is some led keeps first second w not name before a of = (
  one_way was is led w not (led_still was is some led keeps first) name before a of,
  one_way is was led w not second name before a of,
)

-- ---- the blocks of some ways

-- of each of the ways both blocks list the same arcs to all ways that aren't among these
abbrev pub AreAlike : (WayId → List Piece) → (WayId → List Piece) → List WayId → List WayId → Type 0
AreAlike before after ways led =
    (v w : WayId) → Contains ways v → (Contains led w → ⊥) → ListSameArcs w (before v) (after v)

pub none_alike : (before after : WayId → List Piece) (led : List WayId) → AreAlike before after [] led
none_alike before after led v w has = absurd (contains_none v has)

pub more_alike : (before after : WayId → List Piece) (ways led more : List WayId) (way : WayId)
    → AreAlike before after ways led → Keeps led more
    → ((w : WayId) → (Contains more w → ⊥) → ListSameArcs w (before way) (after way))
    → AreAlike before after (ways ++ way ∷ []) more
more_alike before after ways led more way are keeps is v w has not = elim (contains_more ways way v has) [
  | inl earlier ↦ are v w earlier (λ i. not (keeps w i))
  | inr same ↦ subst (λ x. ListSameArcs w (before x) (after x)) (sym same) (is w not)
]
