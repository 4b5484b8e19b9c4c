-- The context of some names among those of a piece, of pieces and of blocks.
use Rattle.std.proofs.Common.{◌≡◌, List, Option, Some, None, IfSome, IfNone, Contains, sym, ◌∙◌, ap, subst}
use Rattle.std.specs.Prelude.{◌↔◌}
use Rattle.std.specs.FinMap.{FinMap, get, values}
use Rattle.ordered_lists.proofs.ListMembers.{contains_map, contains_from_map, contains_flat, contains_from_flat}
use Rattle.road_base.specs.declared.ids.WayId.{WayId}
use Rattle.road_model.specs.declared.lists.PieceName.{PieceName}
use Rattle.road_model.specs.declared.lists.Context.{Context}
use Rattle.road_model.specs.declared.lists.Piece.{Piece}
use Rattle.road_model.specs.declared.blocks.Block.{Block}
use Rattle.road_model.specs.Orders.{way_cmp}
use Rattle.context_search.specs.declared.spots.Spot.{Spot}
use Rattle.context_search.specs.Listed.{AreInOrder, contexts_in}
use Rattle.context_search.specs.Marks.{At, at_by, at_of, key_of, contexts_at, contexts_over}

abbrev Key : Type 0
Key = PieceName × List PieceName

-- nothing in the list has these names
abbrev Lacks : List At → Key → Type 0
Lacks xs k = (x : At) → Contains xs x → key_of x ≡ k → ⊥

some_more : {X : Type 0} (o : Option X) (P Q : X → Type 0) → ((x : X) → P x → Q x) → IfSome o P → IfSome o Q
some_more None P Q f h = tt
some_more (Some x) P Q f h = f x h

none_more : {X : Type 0} (o : Option X) (P Q : Type 0) → (P → Q) → IfNone o P → IfNone o Q
none_more None P Q f h = f h
none_more (Some x) P Q f h = tt

-- ---- of a piece

pub on_piece : (e : Piece) (contexts : List Context) (c : Context) → contexts ≡ e.contexts → Contains contexts c
    → Contains (contexts_at e) (at_by e c)
on_piece e contexts c same has = contains_map (at_by e) e.contexts c (subst (λ l. Contains l c) same has)

pub none_on_piece : (e : Piece) (contexts : List Context) (before : List PieceName) → contexts ≡ e.contexts
    → ((c : Context) → Contains contexts c → c.before ≡ before → ⊥) → (x : At) → Contains (contexts_at e) x
    → key_of x ≡ (e.name, before) → ⊥
none_on_piece e contexts before same none x has k =
    let f = contains_from_map (at_by e) e.contexts x has in
    none f.0 (subst (λ l. Contains l f.0) (sym same) f.1)
    (ap (λ (z : At). z.context.before) (sym f.2) ∙ ap (λ (q : Key). q.1) k)

of_piece : (e : Piece) (x : At) → Contains (contexts_at e) x → x.piece ≡ e
of_piece e x has = let f = contains_from_map (at_by e) e.contexts x has in ap (λ (z : At). z.piece) f.2

-- ---- of pieces

module _ (pieces : List Piece) (name : PieceName) (before : List PieceName) (e : Piece) (there : Contains pieces e)
    (named : e.name ≡ name) (r : Option Spot) where
  pub among_pieces : IfSome r (λ s. Contains (contexts_at e) (at_of s))
      → IfSome r (λ s. Contains (contexts_over pieces) (at_of s))
  among_pieces h = some_more r (λ s. Contains (contexts_at e) (at_of s))
      (λ s. Contains (contexts_over pieces) (at_of s))
      (λ s has. contains_flat contexts_at pieces e (at_of s) there has) h

  pub named_among : IfSome r (λ s. key_of (at_of s) ≡ (e.name, before))
      → IfSome r (λ s. key_of (at_of s) ≡ (name, before))
  named_among h = subst (λ n. IfSome r (λ s. key_of (at_of s) ≡ (n, before))) named h

  pub none_among : ((p : Piece) → Contains pieces p → p.name ≡ name → Some e ≡ Some p)
      → IfNone r (Lacks (contexts_at e) (e.name, before)) → IfNone r (Lacks (contexts_over pieces) (name, before))
  none_among only h = none_more r (Lacks (contexts_at e) (e.name, before))
      (Lacks (contexts_over pieces) (name, before))
      (λ none x has k.
      let f = contains_from_flat contexts_at pieces x has in
      let of = of_piece f.0 x f.2 in
      let n : f.0.name ≡ name = ap (λ (p : Piece). p.name) (sym of) ∙ ap (λ (q : Key). q.0) k in
      let found : Some e ≡ Some f.0 = only f.0 f.1 n in
      let same : f.0 ≡ e = cc in
      none x (subst (λ p. Contains (contexts_at p) x) same f.2) (k ∙ ap (λ m. (m, before)) (sym named))) h

pub none_named : (pieces : List Piece) (name : PieceName) (before : List PieceName)
    → ((p : Piece) → Contains pieces p → p.name ≡ name → None ≡ Some p)
    → (x : At) → Contains (contexts_over pieces) x → key_of x ≡ (name, before) → ⊥
none_named pieces name before only x has k =
    let f = contains_from_flat contexts_at pieces x has in
    let of = of_piece f.0 x f.2 in
    let n : f.0.name ≡ name = ap (λ (p : Piece). p.name) (sym of) ∙ ap (λ (q : Key). q.0) k in
    let found : None ≡ Some f.0 = only f.0 f.1 n in
    cc

piece_over : (pieces : List Piece) (x : At) → Contains (contexts_over pieces) x → Contains pieces x.piece
piece_over pieces x has =
    let f = contains_from_flat contexts_at pieces x has in
    subst (Contains pieces) (sym (of_piece f.0 x f.2)) f.1

-- ---- of blocks

module _ (m : FinMap way_cmp Block) (order : AreInOrder m)
    (each : (b : Block) → Contains (values m) b ↔ (get m b.way ≡ Some b)) where
  pub in_blocks : (w : WayId) (b : Block) → get m w ≡ Some b → (pieces : List Piece) → pieces ≡ b.pieces
      → (r : Option Spot) → IfSome r (λ s. Contains (contexts_over pieces) (at_of s))
      → IfSome r (λ s. Contains (contexts_in m) (at_of s))
  in_blocks w b at pieces same r h =
      let there : Contains (values m) b
      = (each b).1 (subst (λ v. get m v ≡ Some b) (sym (order.ways w b at)) at) in
      some_more r (λ s. Contains (contexts_over pieces) (at_of s)) (λ s. Contains (contexts_in m) (at_of s))
      (λ s has. contains_flat (λ (c : Block). contexts_over c.pieces) (values m) b (at_of s) there
      (subst (λ l. Contains (contexts_over l) (at_of s)) same has)) h

  -- the block of a context of these names is that of the piece's way
  pub block_of : (x : At) (name : PieceName) (before : List PieceName) → Contains (contexts_in m) x
      → key_of x ≡ (name, before) → (b : Block) × (get m name.way ≡ Some b) × Contains (contexts_over b.pieces) x
  block_of x name before has k =
      let f = contains_from_flat (λ (c : Block). contexts_over c.pieces) (values m) x has in
      let b = f.0 in
      let at : get m b.way ≡ Some b = (each b).0 f.1 in
      let of : x.piece.name.way ≡ b.way = order.named b.way b at x.piece (piece_over b.pieces x f.2) in
      let w : b.way ≡ name.way = sym of ∙ ap (λ (q : Key). q.0.way) k in
      (b, subst (λ v. get m v ≡ Some b) w at, f.2)

  pub none_in_blocks : (name : PieceName) (before : List PieceName) (b : Block) → get m name.way ≡ Some b
      → (pieces : List Piece) → pieces ≡ b.pieces → (r : Option Spot)
      → IfNone r (Lacks (contexts_over pieces) (name, before)) → IfNone r (Lacks (contexts_in m) (name, before))
  none_in_blocks name before b at pieces same r h =
      none_more r (Lacks (contexts_over pieces) (name, before)) (Lacks (contexts_in m) (name, before))
      (λ none x has k.
      let o = block_of x name before has k in
      let both : Some b ≡ Some o.0 = sym at ∙ o.1 in
      let one : o.0 ≡ b = cc in
      none x (subst (λ l. Contains (contexts_over l) x) (sym same)
      (subst (λ (c : Block). Contains (contexts_over c.pieces) x) one o.2)) k) h

  pub no_block : (name : PieceName) (before : List PieceName) → get m name.way ≡ None
      → (x : At) → Contains (contexts_in m) x → key_of x ≡ (name, before) → ⊥
  no_block name before none x has k =
      let o = block_of x name before has k in
      let both : None ≡ Some o.0 = sym none ∙ o.1 in
      cc
