-- The walks with phases over the blocks of a graph file are those of its object map: phases go by marks, and the mark
-- of a piece is told by its name.
use Rattle.std.proofs.Common.{◌≡◌, List, [], ◌∷◌, ◌++◌, map, Some, Bool, inl, inr, refl, sym, ap, ◌∙◌, subst}
use Rattle.std.proofs.lemmas.List.{map-append}
use Rattle.road_base.specs.declared.ids.Step.{Step}
use Rattle.road_base.specs.Objects.{Objects}
use Rattle.ordered_lists.specs.Orders.{Lists}
use Rattle.ordered_lists.proofs.Splits.{same_last, cons_not_nil}
use Rattle.ordered_lists.proofs.ListMembers.{In, in_left, in_end}
use Rattle.road_model.specs.declared.lists.PieceName.{PieceName}
use Rattle.road_model.specs.declared.lists.Piece.{Piece}
use Rattle.road_model.specs.declared.blocks.Block.{Block}
use Rattle.road_model.specs.Rules.{Rules}
use Rattle.road_model.specs.Driving.{is_marked}
use Rattle.road_model.specs.Orders.{way_cmp}
use Rattle.road_model.specs.Pieces.{Span}
use Rattle.road_model.specs.Contexts.{Every}
use Rattle.road_model.specs.Network.{spell_pieces}
use Rattle.road_model.specs.Blocks.{IsRoadBlock, IsPieceEntry, name_of}
use Rattle.road_model.specs.Walks.{WalksTo, Start, Go}
use Rattle.road_model.specs.FileWalks.{HasPiece, HasContext, HasArc, FileWalksTo, Begin, Follow, IsReadFrom}
use Rattle.road_model.specs.FileWalks.{AreFileWalks}
use Rattle.destination_drives.specs.declared.phases.Phase.{Phase}
use Rattle.destination_drives.specs.Phases.{started, gone}
use Rattle.destination_drives.specs.ZoneWalks.{ZoneWalksTo, Start as ZoneStart, Go as ZoneGo, IsZoneWalk}
use Rattle.destination_drives.specs.ZoneWalks.{IsZonedJunctionDrive, AreZoneWalked}
use Rattle.zone_files.specs.ZoneFileWalks.{ZoneFileWalksTo, Begin as ZoneBegin, Follow as ZoneFollow}
use Rattle.zone_files.specs.ZoneFileWalks.{IsZoneReadFrom, IsNamedZoneWalk, AreZoneFileWalks}

-- a list of one is a list with a last element and something earlier only if nothing is earlier
one_last : {A : Type 0} (n : A) (front : List A) (m : A) → n ∷ [] ≡ front ++ m ∷ [] → (front ≡ []) × (n ≡ m)
one_last n front m e = let s = same_last [] n front m e in (sym s.front, s.last)

module _ (M : Objects) (P : Rules) where
  abbrev mark : PieceName → Bool
  mark n = is_marked M P n.way n.dir

  -- the phase behind pieces of these names
  data PhasedTo : List PieceName → Phase → Type 0 where
    One : {names : List PieceName} {phase : Phase} (n : PieceName) → names ≡ n ∷ [] → phase ≡ started (mark n)
        → PhasedTo names phase
    More : {names : List PieceName} {phase : Phase} (front : List PieceName) (n : PieceName) (earlier : Phase)
        → PhasedTo front earlier → gone earlier (mark n) ≡ Some phase → names ≡ front ++ n ∷ [] → PhasedTo names phase

  some_phased : (names : List PieceName) (f : Phase) → PhasedTo names f → names ≡ [] → ⊥
  some_phased names f (One n e h) z = cons_not_nil [] n [] (sym e ∙ z)
  some_phased names f (More front n earlier ph g e) z = cons_not_nil front n [] (sym e ∙ z)

  some_walked : (d c : List Span) → WalksTo M P d c → map name_of d ≡ [] → ⊥
  some_walked d c (Start p i e h) z = cons_not_nil [] (name_of p) [] (sym (ap (map name_of) e) ∙ z)
  some_walked d c (Go e b t w arc q) z =
      cons_not_nil (map name_of e) (name_of t) [] (sym (ap (map name_of) q ∙ map-append name_of e (t ∷ [])) ∙ z)

  -- ---- over the object map

  phased : (d c : List Span) (f : Phase) → ZoneWalksTo M P d c f → WalksTo M P d c × PhasedTo (map name_of d) f
  phased d c f (ZoneStart p i e h k) = (Start p i e h, One (name_of p) (ap (map name_of) e) k)
  phased d c f (ZoneGo e b g t w arc s q) =
      let r = phased e b g w in (
        Go e b t r.0 arc q,
        More (map name_of e) (name_of t) g r.1 s (ap (map name_of) q ∙ map-append name_of e (t ∷ [])),
      )

  with_phases : (d c : List Span) (f : Phase) (names : List PieceName) → WalksTo M P d c → PhasedTo names f
      → names ≡ map name_of d → ZoneWalksTo M P d c f
  with_phases d c f names (Start p i e h) (One n en k) is =
      let n_is = (one_last (name_of p) [] n (sym (ap (map name_of) e) ∙ sym is ∙ en)).1 in
      ZoneStart p i e h (k ∙ ap (λ m. started (mark m)) (sym n_is))
  with_phases d c f names (Start p i e h) (More front n earlier ph s q) is =
      absurd (some_phased front earlier ph
      (one_last (name_of p) front n (sym (ap (map name_of) e) ∙ sym is ∙ q)).0)
  with_phases d c f names (Go e b t w arc q) (One n en k) is =
      absurd (some_walked e b w
      (one_last n (map name_of e) (name_of t) (sym en ∙ is ∙ ap (map name_of) q ∙ map-append name_of e (t ∷ []))).0)
  with_phases d c f names (Go e b t w arc q) (More front n earlier ph s r) is =
      let same = same_last front n (map name_of e) (name_of t)
      (sym r ∙ is ∙ ap (map name_of) q ∙ map-append name_of e (t ∷ [])) in
      ZoneGo e b earlier t (with_phases e b earlier front w ph same.front) arc
      (ap (λ m. gone earlier (mark m)) (sym same.last) ∙ s) q

  -- ---- over the blocks

  module _ (bs : List Block) (listed : Lists (λ (b : Block). b.way) way_cmp (IsRoadBlock M P) bs) where
    entry_mark : (p : Piece) (h : HasPiece bs p) → IsPieceEntry M P h.block.way p → p.zone ≡ mark p.name
    entry_mark p h e = e.marked ∙ ap (λ w. is_marked M P w e.piece.dir) (sym e.of) ∙ ap mark (sym e.named)

    marks : (p : Piece) → HasPiece bs p → p.zone ≡ mark p.name
    marks p h = entry_mark p h ((listed.sound h.block h.in_file).block.pieces.sound p h.in_block)

    -- a piece stands under the name
    record Standing (n : PieceName) : Type 0 where
      piece : Piece
      stands : HasPiece bs piece
      named : piece.name ≡ n

    read_phases : (walk context : List PieceName) (f : Phase) → ZoneFileWalksTo bs walk context f
        → FileWalksTo bs walk context × PhasedTo walk f
    read_phases walk context f (ZoneBegin p h k e c s) =
        (Begin p.name k e c, One p.name e (s ∙ ap started (marks p h)))
    read_phases walk context f (ZoneFollow front names earlier p w h arc s e) =
        let r = read_phases front names earlier w in (
          Follow front names p.name r.0 arc e,
          More front p.name earlier r.1 (ap (gone earlier) (sym (marks p h)) ∙ s) e,
        )

    some_read : (walk context : List PieceName) → FileWalksTo bs walk context → walk ≡ [] → ⊥
    some_read walk context (Begin n k e c) z = cons_not_nil [] n [] (sym e ∙ z)
    some_read walk context (Follow front names n w arc e) z = cons_not_nil front n [] (sym e ∙ z)

    with_marks : (walk context : List PieceName) (f : Phase) (names : List PieceName) → FileWalksTo bs walk context
        → PhasedTo names f → names ≡ walk → ((n : PieceName) → In n walk → Standing n)
        → ZoneFileWalksTo bs walk context f
    with_marks walk context f names (Begin m k e c) (One n en h) is all =
        let s = all m (subst (In m) (sym e) (inl refl)) in
        let own : m ≡ s.piece.name = sym s.named in
        let same : n ≡ m = (one_last n [] m (sym en ∙ is ∙ e)).1 in
        ZoneBegin s.piece s.stands (subst (λ l. HasContext bs (l ∷ [])) own k) (e ∙ ap (λ l. l ∷ []) own)
        (c ∙ ap (λ l. l ∷ []) own)
        (h ∙ ap (λ l. started (mark l)) (same ∙ own) ∙ ap started (sym (marks s.piece s.stands)))
    with_marks walk context f names (Begin m k e c) (More front n earlier ph s q) is all =
        absurd (some_phased front earlier ph (one_last m front n (sym e ∙ sym is ∙ q)).0)
    with_marks walk context f names (Follow front to m w arc e) (One n en h) is all =
        absurd (some_read front to w (one_last n front m (sym en ∙ is ∙ e)).0)
    with_marks walk context f names (Follow front to m w arc e) (More start n earlier ph g q) is all =
        let same = same_last start n front m (sym q ∙ is ∙ e) in
        let s = all m (subst (In m) (sym e) (in_end front m [])) in
        ZoneFollow front to earlier s.piece
        (with_marks front to earlier start w ph same.front
        (λ l i. all l (subst (In l) (sym e) (in_left front (m ∷ []) l i))))
        s.stands (subst (λ l. HasArc bs to l context) (sym s.named) arc)
        (ap (gone earlier) (marks s.piece s.stands) ∙ ap (λ l. gone earlier (mark l)) (s.named ∙ sym same.last) ∙ g)
        (e ∙ ap (λ l. front ++ l ∷ []) (sym s.named))

    -- each name of pieces that stand there is that of one
    standing : (ps : List Piece) (names : List PieceName) → Every (HasPiece bs) ps
        → map (λ (p : Piece). p.name) ps ≡ names → (n : PieceName) → In n names → Standing n
    standing [] names h e n i = let none : In n [] = subst (In n) (sym e) i in absurd none
    standing (p ∷ ps) names h e n i =
        let own : In n (p.name ∷ map (λ (p : Piece). p.name) ps) = subst (In n) (sym e) i in
        elim own [
          | inl same ↦ record { piece = p; stands = h.0; named = sym same }
          | inr more ↦ standing ps (map (λ (p : Piece). p.name) ps) h.1 refl n more
        ]

    module _ (file : AreFileWalks M P bs) (zones : AreZoneWalked M P) where
      all_stand : (walk context : List PieceName) → FileWalksTo bs walk context → (n : PieceName) → In n walk
          → Standing n
      all_stand walk context w n i =
          let named = (file.walks walk context).0 w in
          let read = file.spelled named.pieces (record { context = named.longest; walks = named.walks }) in
          standing read.pieces walk read.are.stand (read.are.named ∙ sym named.walk_is) n i

      walked : (walk context : List PieceName) (f : Phase) → ZoneFileWalksTo bs walk context f
          → IsNamedZoneWalk M P walk context f
      walked walk context f w =
          let r = read_phases walk context f w in
          let named = (file.walks walk context).0 r.0 in
          record {
            pieces = named.pieces;
            longest = named.longest;
            walks = with_phases named.pieces named.longest f walk named.walks r.1 named.walk_is;
            walk_is = named.walk_is;
            context_is = named.context_is;
          }

      unwalked : (walk context : List PieceName) (f : Phase) → IsNamedZoneWalk M P walk context f
          → ZoneFileWalksTo bs walk context f
      unwalked walk context f w =
          let r = phased w.pieces w.longest f w.walks in
          let read = (file.walks walk context).1 (record {
            pieces = w.pieces;
            longest = w.longest;
            walks = r.0;
            walk_is = w.walk_is;
            context_is = w.context_is;
          }) in
          with_marks walk context f (map name_of w.pieces) read r.1 (sym w.walk_is) (all_stand walk context read)

      unphased : (walk : List PieceName) (s : List Step) → IsZoneReadFrom bs walk s → IsReadFrom bs walk s
      unphased walk s r = record {
        context = r.context;
        walks = (read_phases walk r.context r.phase r.walks).0;
        pieces = r.pieces;
        are = r.are;
        spelled = r.spelled;
      }

      read_drive : (s : List Step) → ((walk : List PieceName) × IsZoneReadFrom bs walk s) → IsZonedJunctionDrive M P s
      read_drive s r =
          let w = walked r.0 r.1.context r.1.phase r.1.walks in
          let d : IsZoneWalk M P w.pieces = record { context = w.longest; phase = r.1.phase; walks = w.walks } in
          let plain = (phased w.pieces w.longest r.1.phase w.walks).0 in
          let back : IsReadFrom bs (map name_of w.pieces) (spell_pieces w.pieces) =
          file.spelled w.pieces (record { context = w.longest; walks = plain }) in
          let same : spell_pieces w.pieces ≡ s = file.one_drive r.0 (spell_pieces w.pieces) s
          (subst (λ l. IsReadFrom bs l (spell_pieces w.pieces)) (sym w.walk_is) back) (unphased r.0 s r.1) in
          subst (IsZonedJunctionDrive M P) same (zones.zoned w.pieces d)

      drive_read : (s : List Step) → IsZonedJunctionDrive M P s → (walk : List PieceName) × IsZoneReadFrom bs walk s
      drive_read s j =
          let o = zones.onto s j in
          let z = o.is in
          let plain = (phased o.walk z.context z.phase z.walks).0 in
          let back : IsReadFrom bs (map name_of o.walk) (spell_pieces o.walk) =
          file.spelled o.walk (record { context = z.context; walks = plain }) in (
            map name_of o.walk,
            record {
              context = map name_of z.context;
              phase = z.phase;
              walks = unwalked (map name_of o.walk) (map name_of z.context) z.phase (record {
                pieces = o.walk;
                longest = z.context;
                walks = z.walks;
                walk_is = refl;
                context_is = refl;
              });
              pieces = back.pieces;
              are = back.are;
              spelled = back.spelled ∙ o.spelled;
            },
          )

      pub zone_file_walks : AreZoneFileWalks M P bs
      zone_file_walks = record {
        marks = marks;
        walks = λ w c f. (walked w c f, unwalked w c f);
        drives = λ s. (read_drive s, drive_read s);
        one_walk = λ v w s a b. file.one_walk v w s (unphased v s a) (unphased w s b);
      }
