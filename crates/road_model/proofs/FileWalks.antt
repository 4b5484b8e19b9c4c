-- The walks over the blocks of a graph file are those of its object map.
use Rattle.std.proofs.Common.{◌≡◌, ℕ, ◌-◌, List, [], ◌∷◌, ◌++◌, length, map, drop, refl, sym, ap, ◌∙◌, subst, arith}
use Rattle.std.proofs.Common.{length-append, Contains, IsTrue}
use Rattle.std.proofs.lemmas.List.{map-append, map-id, length-map}
use Rattle.road_base.specs.declared.ids.Step.{Step}
use Rattle.road_base.specs.Objects.{Objects}
use Rattle.ordered_lists.proofs.ListMembers.{In, in_from_contains}
use Rattle.ordered_lists.proofs.Splits.{Nil, Last, ends, same_last}
use Rattle.road_model.specs.declared.lists.PieceName.{PieceName}
use Rattle.road_model.specs.declared.lists.TurnArc.{TurnArc}
use Rattle.road_model.specs.declared.lists.Piece.{Piece}
use Rattle.road_model.specs.declared.blocks.Block.{Block}
use Rattle.road_model.specs.Rules.{Rules}
use Rattle.road_model.specs.Pieces.{Span, IsPiece, spell}
use Rattle.road_model.specs.Contexts.{Every, One, Many, spell_all}
use Rattle.road_model.specs.Network.{IsContext, IsArc, spell_pieces}
use Rattle.ordered_lists.specs.Orders.{Lists, rises}
use Rattle.road_model.specs.Orders.{way_cmp, name_cmp, names_cmp}
use Rattle.road_model.specs.Blocks.{IsPieceEntry, IsArcEntry, IsSourceEntry, IsBlock, IsRoadBlock, name_of}
use Rattle.road_model.specs.Walks.{WalksTo, Start, Go, IsWalk, IsJunctionDrive}
use Rattle.road_model.specs.FileWalks.{HasPiece, HasContext, HasArc, last_names, FileWalksTo, Begin, Follow}
use Rattle.road_model.specs.FileWalks.{HasSource, LeadsTo, IsReadFrom, IsNamedWalk, AreFileWalks, piece_steps}
use Rattle.road_model.proofs.LongestContext.{Every-tail}
use Rattle.road_model.proofs.UniqueEntries.{one_piece}
use Rattle.road_model.proofs.SomeGraph.{names_tell, context_of, piece_entry, entry_named, has_block}
use Rattle.road_model.proofs.WalkLists.{context_pieces, reached}
use Rattle.road_model.proofs.WalkLaw.{spelled, one_to_one, onto}
use Rattle.road_model.proofs.FiniteWords.{continues}
use Rattle.road_model.proofs.FilePlaces.{entry_steps, entry_passed}

-- what stands behind a list is left when as much as the list is dropped
behind_dropped : {A : Type 0} (xs ys : List A) (n : ℕ) → n ≡ length xs → drop n (xs ++ ys) ≡ ys
behind_dropped [] ys n e = ap (λ k. drop k ys) e
behind_dropped (x ∷ xs) ys n e = ap (λ k. drop k (x ∷ (xs ++ ys))) e ∙ behind_dropped xs ys (length xs) refl

-- the last names of a list are those of its end
last_of : (xs ys : List PieceName) (n : ℕ) → n ≡ length ys → last_names n (xs ++ ys) ≡ ys
last_of xs ys n e =
    let l = length-append xs ys in
    behind_dropped xs ys (length (xs ++ ys) - n) (omega arith)

-- a block that holds a piece has pieces
pub some_piece : (b : Block) (e : Piece) → Contains b.pieces e → b.pieces ≡ [] → ⊥
some_piece b e i n = let h : In e [] = subst (In e) n (in_from_contains b.pieces e i) in absurd h

module _ (M : Objects) (P : Rules) where
  -- ---- from what stands in the blocks to the object map

  names_of : (b : List Span) (q : Span) → map name_of (b ++ q ∷ []) ≡ map name_of b ++ name_of q ∷ []
  names_of b q = map-append name_of b (q ∷ [])

  context_some : IsContext M P [] → ⊥
  context_some (One p e h) = cc
  context_some (Many m) = let e = m.is in cc

  -- the pieces before a context's last one, and that piece
  pub context_ends : (c : List Span) → IsContext M P c → (b : List Span) × (q : Span) × (c ≡ b ++ q ∷ [])
  context_ends c k = elim (ends c) [
    | Nil e ↦ absurd (context_some (subst (IsContext M P) e k))
    | Last b q e ↦ (b, q, e)
  ]

  last_piece : (b : List Span) (q : Span) → IsContext M P (b ++ q ∷ []) → IsPiece M P q
  last_piece b q k = (Every-tail (IsPiece M P) b (q ∷ []) (context_pieces M P (b ++ q ∷ []) k)).0

  -- where an arc leads, by names
  target_names : (c : List Span) (a : TurnArc) (k : IsArcEntry M P c a) →
      last_names a.length (map name_of c ++ a.piece ∷ []) ≡ map name_of k.target
  target_names c a k =
      let to = k.arc.to in
      let whole : map name_of c ++ a.piece ∷ [] ≡ map name_of to.front ++ map name_of k.target =
      ap (λ n. map name_of c ++ n ∷ []) k.named ∙ sym (names_of c k.piece) ∙ ap (map name_of) to.is
      ∙ map-append name_of to.front k.target in
      ap (last_names a.length) whole
      ∙ last_of (map name_of to.front) (map name_of k.target) a.length (k.length_is ∙ sym (length-map k.target name_of))

  pub context_before : (p : Span) (b : List Span) (c : IsContext M P (b ++ p ∷ [])) →
      (context_of M P p b c).1.before ≡ b
  unfolding context_of
  context_before p b c = refl

  module _ (bs : List Block) (listed : Lists (λ (b : Block). b.way) way_cmp (IsRoadBlock M P) bs) where
    entry_is : (p : Piece) (h : HasPiece bs p) → IsPieceEntry M P h.block.way p
    entry_is p h = (listed.sound h.block h.in_file).block.pieces.sound p h.in_block

    -- the context of the object map that stands there under these names
    record Spot (names : List PieceName) (h : HasContext bs names) : Type 0 where
      pieces : List Span
      is : IsContext M P pieces
      named : map name_of pieces ≡ names
      arcs : Lists (λ (a : TurnArc). a.piece) name_cmp (IsArcEntry M P pieces) h.context.arcs
      before : List Span
      last : Span
      ends : pieces ≡ before ++ last ∷ []
      sources : Lists (λ (s : List PieceName). s) names_cmp (IsSourceEntry M P last pieces) h.context.sources

    spot : (names : List PieceName) (h : HasContext bs names) → Spot names h
    spot names h =
        let e = entry_is h.piece h.stands in
        let k = e.contexts.sound h.context h.in_piece in
        record {
          pieces = k.before ++ e.piece ∷ [];
          is = k.context;
          named = names_of k.before e.piece ∙ (λ i. sym k.named i ++ sym e.named i ∷ []) ∙ sym h.named;
          arcs = k.arcs;
          before = k.before;
          last = e.piece;
          ends = refl;
          sources = k.sources;
        }

    -- ---- from the object map to what stands in the blocks

    -- the piece as it is written
    record Written (p : Span) : Type 0 where
      entry : Piece
      stands : HasPiece bs entry
      way_entry : IsPieceEntry M P p.way entry
      same : way_entry.piece ≡ p

    written : (p : Span) → IsPiece M P p → Written p
    written p i =
        let h = has_block M P p.way in
        let e = piece_entry M P p.way p (record { is = i; way = refl }) in
        let n = entry_named M P p.way p (record { is = i; way = refl }) in
        let c = h.1.pieces.complete e.0 e.1 in
        let r : IsRoadBlock M P h.0
        = record { block = subst (λ v. IsBlock M P v h.0) (sym h.1.way) h.1; some = some_piece h.0 e.0 c } in
        record {
          entry = e.0;
          stands = record { block = h.0; in_file = listed.complete h.0 r; in_block = c };
          way_entry = e.1;
          same = one_piece M P e.1.piece p e.1.is i (sym e.1.named ∙ n);
        }

    written_name : (p : Span) (w : Written p) → w.entry.name ≡ name_of p
    written_name p w = w.way_entry.named ∙ ap name_of w.same

    stands_by : (b : List Span) (q : Span) → IsContext M P (b ++ q ∷ []) → (w : Written q) →
        HasContext bs (map name_of (b ++ q ∷ []))
    stands_by b q k w =
        let e = w.way_entry in
        let t = context_of M P e.piece b (subst (λ z. IsContext M P (b ++ z ∷ [])) (sym w.same) k) in
        let before : t.1.before ≡ b = context_before e.piece b
        (subst (λ z. IsContext M P (b ++ z ∷ [])) (sym w.same) k) in
        record {
          piece = w.entry;
          stands = w.stands;
          context = t.0;
          in_piece = e.contexts.complete t.0 t.1;
          named = names_of b q
              ∙ (λ i. sym (t.1.named ∙ ap (map name_of) before) i ++ sym (written_name q w) i ∷ []);
        }

    stands : (c : List Span) → IsContext M P c → HasContext bs (map name_of c)
    stands c k =
        let s = context_ends c k in
        let l = subst (IsContext M P) s.2 k in
        subst (λ d. HasContext bs (map name_of d)) (sym s.2) (stands_by s.0 s.1 l (written s.1 (last_piece s.0 s.1 l)))

    same_spot : (c : List Span) → IsContext M P c → (names : List PieceName) (h : HasContext bs names) →
        map name_of c ≡ names → (s : Spot names h) → s.pieces ≡ c
    same_spot c k names h e s = names_tell M P s.pieces c (context_pieces M P s.pieces s.is) (context_pieces M P c k)
        (s.named ∙ sym e)

    -- ---- walks

    leads : (b c : List Span) (t : Span) → IsArc M P b t c → HasArc bs (map name_of b) (name_of t) (map name_of c)
    leads b c t arc =
        let from = stands b arc.from in
        let s = spot (map name_of b) from in
        let same = same_spot b arc.from (map name_of b) from refl s in
        let a : TurnArc = record { piece = name_of t; length = length c } in
        let k : IsArcEntry M P b a = record { piece = t; target = c; arc = arc; named = refl; length_is = refl } in
        record {
          from = from;
          arc = a;
          in_context = s.arcs.complete a (subst (λ l. IsArcEntry M P l a) (sym same) k);
          by = refl;
          leads = sym (target_names b a k);
        }

    -- an arc that stands there is one of the object map
    record Led (names : List PieceName) (n : PieceName) (target : List PieceName) : Type 0 where
      from : List Span
      piece : Span
      to : List Span
      arc : IsArc M P from piece to
      from_is : names ≡ map name_of from
      piece_is : n ≡ name_of piece
      to_is : target ≡ map name_of to

    led : (names : List PieceName) (n : PieceName) (target : List PieceName) → HasArc bs names n target →
        Led names n target
    led names n target arc =
        let s = spot names arc.from in
        let k = s.arcs.sound arc.arc arc.in_context in
        record {
          from = s.pieces;
          piece = k.piece;
          to = k.target;
          arc = k.arc;
          from_is = sym s.named;
          piece_is = sym arc.by ∙ k.named;
          to_is = arc.leads
              ∙ (λ i. last_names arc.arc.length (sym s.named i ++ sym arc.by i ∷ []))
              ∙ target_names s.pieces arc.arc k;
        }

    driven : (d c : List Span) → WalksTo M P d c → FileWalksTo bs (map name_of d) (map name_of c)
    driven d c (Start p i e f) = Begin (name_of p) (stands (p ∷ []) (One p refl i)) (ap (map name_of) e)
        (ap (map name_of) f)
    driven d c (Go e b t w arc q) = Follow (map name_of e) (map name_of b) (name_of t) (driven e b w) (leads b c t arc)
        (ap (map name_of) q ∙ names_of e t)

    -- a context with one name is one piece
    alone : (c : List Span) (n : PieceName) → map name_of c ≡ n ∷ [] → (p : Span) × (c ≡ p ∷ []) × (name_of p ≡ n)
    alone [] n e = cc
    alone (p ∷ []) n e = (p, refl, cc)
    alone (p ∷ q ∷ c) n e = cc

    begins : (n : PieceName) → HasContext bs (n ∷ []) → IsNamedWalk M P (n ∷ []) (n ∷ [])
    begins n h =
        let s = spot (n ∷ []) h in
        let a = alone s.pieces n s.named in
        let i : IsPiece M P a.0 = (subst (Every (IsPiece M P)) a.1 (context_pieces M P s.pieces s.is)).0 in
        record {
          pieces = a.0 ∷ [];
          longest = a.0 ∷ [];
          walks = Start a.0 i refl refl;
          walk_is = ap (λ m. m ∷ []) (sym a.2);
          context_is = ap (λ m. m ∷ []) (sym a.2);
        }

    follows : (front names : List PieceName) (n : PieceName) (target : List PieceName) →
        IsNamedWalk M P front names → HasArc bs names n target → IsNamedWalk M P (front ++ n ∷ []) target
    follows front names n target w arc =
        let l = led names n target arc in
        let same : l.from ≡ w.longest = names_tell M P l.from w.longest (context_pieces M P l.from l.arc.from)
        (context_pieces M P w.longest (reached M P w.pieces w.longest w.walks).longest.holds)
        (sym l.from_is ∙ w.context_is) in
        record {
          pieces = w.pieces ++ l.piece ∷ [];
          longest = l.to;
          walks = Go w.pieces l.from l.piece (subst (WalksTo M P w.pieces) (sym same) w.walks) l.arc refl;
          walk_is = (λ i. w.walk_is i ++ l.piece_is i ∷ []) ∙ sym (names_of w.pieces l.piece);
          context_is = l.to_is;
        }

    walked : (walk context : List PieceName) → FileWalksTo bs walk context → IsNamedWalk M P walk context
    walked walk context (Begin n h e f) = subst (λ l. IsNamedWalk M P l context) (sym e)
        (subst (IsNamedWalk M P (n ∷ [])) (sym f) (begins n h))
    walked walk context (Follow front names n w arc e) = subst (λ l. IsNamedWalk M P l context) (sym e)
        (follows front names n context (walked front names w) arc)

    unwalked : (walk context : List PieceName) → IsNamedWalk M P walk context → FileWalksTo bs walk context
    unwalked walk context w = subst (λ l. FileWalksTo bs l context) (sym w.walk_is)
        (subst (FileWalksTo bs (map name_of w.pieces)) (sym w.context_is) (driven w.pieces w.longest w.walks))

    targets : (names : List PieceName) (n : PieceName) (target : List PieceName) → HasArc bs names n target →
        HasContext bs target
    targets names n target arc =
        let l = led names n target arc in
        subst (HasContext bs) (sym l.to_is) (stands l.to l.arc.to.holds)

    -- ---- sources

    -- a source that is listed is where an arc leads on
    source_leads : (target names : List PieceName) → HasSource bs target names → LeadsTo bs names target
    source_leads target names h =
        let s = spot target h.to in
        let k = s.sources.sound names h.listed in
        record {
          before = map name_of s.before;
          piece = name_of s.last;
          ends = sym s.named ∙ ap (map name_of) s.ends ∙ names_of s.before s.last;
          arc = subst (HasArc bs names (name_of s.last)) s.named
              (subst (λ l. HasArc bs l (name_of s.last) (map name_of s.pieces)) (sym k.named)
              (leads k.from s.pieces s.last k.arc));
        }

    -- the last piece of a context is told by its last name
    last_is : (target : List PieceName) (h : HasContext bs target) (s : Spot target h) (before : List PieceName)
        (p : Span) → IsPiece M P p → target ≡ before ++ name_of p ∷ [] → s.last ≡ p
    last_is target h s before p i e =
        let is : IsPiece M P s.last = last_piece s.before s.last (subst (IsContext M P) s.ends s.is) in
        let same = same_last (map name_of s.before) (name_of s.last) before (name_of p)
        (sym (names_of s.before s.last) ∙ ap (map name_of) (sym s.ends) ∙ s.named ∙ e) in
        one_piece M P s.last p is i same.last

    -- an arc that leads to a context has its own context among the sources there
    leads_source : (target names : List PieceName) → LeadsTo bs names target → HasSource bs target names
    leads_source target names h =
        let l = led names h.piece target h.arc in
        let to = targets names h.piece target h.arc in
        let s = spot target to in
        let same : s.pieces ≡ l.to = same_spot l.to l.arc.to.holds target to (sym l.to_is) s in
        let last : s.last ≡ l.piece = last_is target to s h.before l.piece l.arc.by
        (h.ends ∙ ap (λ n. h.before ++ n ∷ []) l.piece_is) in
        let arc : IsArc M P l.from s.last s.pieces = subst (IsArc M P l.from s.last) (sym same)
        (subst (λ p. IsArc M P l.from p l.to) (sym last) l.arc) in
        record {
          to = to;
          listed = s.sources.complete names (record { from = l.from; arc = arc; named = l.from_is });
        }

    once : (names : List PieceName) (h : HasContext bs names) → IsTrue (rises names_cmp h.context.sources)
    once names h =
        let s = spot names h in
        subst (λ l. IsTrue (rises names_cmp l)) (map-id h.context.sources) s.sources.ascending

    -- ---- what walks spell

    spell_named : (d : List Span) (es : List Piece) → Every (IsPiece M P) d → Every (HasPiece bs) es →
        map (λ (e : Piece). e.name) es ≡ map name_of d → spell_all piece_steps es ≡ spell_pieces d
    spell_named [] [] i h e = refl
    spell_named [] (x ∷ es) i h e = cc
    spell_named (p ∷ d) [] i h e = cc
    spell_named (p ∷ d) (x ∷ es) i h e =
        let n : x.name ≡ name_of p = cc in
        let f : map (λ (e : Piece). e.name) es ≡ map name_of d = cc in
        let k = entry_is x h.0 in
        let same : k.piece ≡ p = one_piece M P k.piece p k.is i.0 (sym k.named ∙ n) in
        let a : piece_steps x ≡ spell p = entry_steps M P x h.0.block.way k ∙ ap spell same in
        let r = spell_named d es i.1 h.1 f in
        λ j. a j ++ r j

    pieces_named : (d : List Span) → Every (IsPiece M P) d →
        (es : List Piece) × Every (HasPiece bs) es × (map (λ (e : Piece). e.name) es ≡ map name_of d)
    pieces_named [] i = ([], tt, refl)
    pieces_named (p ∷ d) i =
        let w = written p i.0 in
        let n = written_name p w in
        let r = pieces_named d i.1 in
        (w.entry ∷ r.0, (w.stands, r.1), λ j. n j ∷ r.2 j)

    walk_pieces : (d c : List Span) → WalksTo M P d c → Every (IsPiece M P) d
    walk_pieces d c w = (reached M P d c w).pieces

    -- the walk of the object map whose drive is read
    record Read (walk : List PieceName) (s : List Step) : Type 0 where
      pieces : List Span
      is : IsWalk M P pieces
      named : walk ≡ map name_of pieces
      spells : spell_pieces pieces ≡ s

    read_by : (walk : List PieceName) (s : List Step) (r : IsReadFrom bs walk s) →
        IsNamedWalk M P walk r.context → Read walk s
    read_by walk s r w = record {
      pieces = w.pieces;
      is = record { context = w.longest; walks = w.walks };
      named = w.walk_is;
      spells = sym (spell_named w.pieces r.pieces (walk_pieces w.pieces w.longest w.walks) r.are.stand
          (r.are.named ∙ w.walk_is)) ∙ r.spelled;
    }

    read : (walk : List PieceName) (s : List Step) → IsReadFrom bs walk s → Read walk s
    read walk s r = read_by walk s r (walked walk r.context r.walks)

    one_drive : (walk : List PieceName) (s t : List Step) → IsReadFrom bs walk s → IsReadFrom bs walk t → s ≡ t
    one_drive walk s t a b =
        let r = read walk s a in
        let q = read walk t b in
        let rc = r.is in let qc = q.is in
        let same = names_tell M P r.pieces q.pieces (walk_pieces r.pieces rc.context rc.walks)
        (walk_pieces q.pieces qc.context qc.walks) (sym r.named ∙ q.named) in
        sym r.spells ∙ ap spell_pieces same ∙ q.spells

    read_back : (d : List Span) → IsWalk M P d → IsReadFrom bs (map name_of d) (spell_pieces d)
    read_back d w =
        let i = walk_pieces d w.context w.walks in
        let e = pieces_named d i in
        record {
          context = map name_of w.context;
          walks = driven d w.context w.walks;
          pieces = e.0;
          are = record { stand = e.1; named = e.2 };
          spelled = spell_named d e.0 i e.1 e.2;
        }

    to_junctions : (s : List Step) → ((walk : List PieceName) × IsReadFrom bs walk s) → IsJunctionDrive M P s
    to_junctions s w =
        let r = read w.0 s w.1 in
        subst (IsJunctionDrive M P) r.spells (spelled M P r.pieces r.is)

    from_junctions : (s : List Step) → IsJunctionDrive M P s → (walk : List PieceName) × IsReadFrom bs walk s
    from_junctions s j =
        let o = onto M P (continues M P) s j in
        (map name_of o.walk, subst (IsReadFrom bs (map name_of o.walk)) o.spelled (read_back o.walk o.is))

    one_walk : (v w : List PieceName) (s : List Step) → IsReadFrom bs v s → IsReadFrom bs w s → v ≡ w
    one_walk v w s a b =
        let r = read v s a in
        let q = read w s b in
        let same = one_to_one M P r.pieces q.pieces r.is q.is (r.spells ∙ sym q.spells) in
        r.named ∙ ap (map name_of) same ∙ sym q.named

    pub file_walks : AreFileWalks M P bs
    file_walks = record {
      walks = λ w c. (walked w c, unwalked w c);
      targets = targets;
      spelled = read_back;
      one_drive = one_drive;
      drives = λ s. (to_junctions s, from_junctions s);
      one_walk = one_walk;
      places = λ p h. entry_passed M P p h.block.way (entry_is p h);
      sources = λ target names. (source_leads target names, leads_source target names);
      once = once;
    }
