-- Graph files and the blocks that are read from them.
use Rattle.std.proofs.Common.{◌≡◌, ℕ, ◌<◌, ◌≤◌, ◌^◌, Bool, true, false, not, List, [], ◌∷◌, ◌++◌, length, map, drop}
use Rattle.std.proofs.Common.{IsTrue, refl, inl, inr, sym, ap, subst, ◌∙◌, arith, append-nil, append_assoc, codes}
use Rattle.std.specs.Prelude.{◌==◌}
use Rattle.std.specs.List.{AllByRecursion}
use Rattle.std.specs.Ordering.{is_lt}
use Rattle.std.specs.declared.cmp.Ordering.TheVariants.{Less, Greater}
use Rattle.std.specs.FinMap.{FinMap, entries, insert, entries-insert, put, empty}
use Rattle.std.proofs.lemmas.Bool.{and_parts, or_cases, eqb-true}
use Rattle.std.proofs.lemmas.List.{drop_at}
use Rattle.road_base.specs.Profiles.{IsProfile}
use Rattle.road_base.specs.Bytes.{u32_bytes}
use Rattle.road_base.specs.declared.ids.WayId.{WayId}
use Rattle.ordered_lists.proofs.Comparisons.{less, over, turned}
use Rattle.road_model.specs.declared.lists.Piece.{Piece}
use Rattle.road_model.specs.declared.blocks.Block.{Block}
use Rattle.ordered_lists.specs.Orders.{rises, rises_from}
use Rattle.road_model.specs.Orders.{way_cmp}
use Rattle.road_model.specs.BlockMap.{entry_of}
use Rattle.road_model.specs.Format.{magic_bytes, block_bytes, graph_bytes, is_sourced, IsVersion, IsPieceForm}
use Rattle.road_model.specs.Format.{IsBlockForm, PieceFits, BlockFits, IsGraphFile}
use Rattle.ordered_lists.proofs.AscendingLists.{rest_rises}
use Rattle.spelled_bytes.specs.Reading.{Begins, IsOneSpelling}
use Rattle.spelled_bytes.specs.OneSpelling.{u32_one, differ}
use Rattle.graph_file.specs.GraphReading.{list_bytes, ListFits, Unless, IsBarePiece, IsBareBlock, IsPieceAt, IsWayBlock}
use Rattle.graph_file.specs.GraphReading.{IsOfItsWay, IsFile, BeginsFile}
use Rattle.graph_file.specs.OneSpelling.{list_one, block_one, three}
use Rattle.graph_file.proofs.Files.{way_cmp_total, no_entries}
use Rattle.graph_file.proofs.PieceCount.{few_pieces}
use Rattle.graph_file.proofs.SpelledBlocks.{as_many, block_at, same_file, same_ways, way_blocks}

-- ---- the bytes behind the magic

cancel : (a x y : List ℕ) → a ++ x ≡ a ++ y → x ≡ y
cancel a x y e = sym (drop_at a x (length a) refl) ∙ ap (drop (length a)) e ∙ drop_at a y (length a) refl

-- the number of a profile fits its bytes, and so no two have one spelling
pub profile_fits : (n : ℕ) → IsProfile n → n < 2 ^ 32
profile_fits n known = elim (or_cases (n == 1) (n == 2) known) [
  | inl one ↦ let e : n ≡ 1 = eqb-true n 1 one in omega (arith, e)
  | inr two ↦ let e : n ≡ 2 = eqb-true n 2 two in omega (arith, e)
]

pub profile_one : IsOneSpelling u32_bytes IsProfile
profile_one x y bytes r s first second = u32_one x y bytes r s
    (record { fits = profile_fits x first.fits; parts = first.parts })
    (record { fits = profile_fits y second.fits; parts = second.parts })

-- a file begins with the magic of its version, and that of another version begins otherwise
seven : (bytes r s : List ℕ) → bytes ≡ codes "OSMROAD1" ++ r → bytes ≡ codes "OSMROAD2" ++ s → ⊥
seven bytes r s first second =
    differ 49 50 (drop 7 bytes) r s refl (ap (drop 7) first) (ap (drop 7) second)

pub other_magic : (sourced : Bool) (bytes r s : List ℕ) → bytes ≡ magic_bytes sourced ++ r
    → bytes ≡ magic_bytes (not sourced) ++ s → ⊥
other_magic false bytes r s first second = seven bytes r s first second
other_magic true bytes r s first second = seven bytes s r second first

pub magic_one : (v w : ℕ) → IsVersion v → IsVersion w → (bytes r s : List ℕ) → bytes ≡ magic_bytes (is_sourced v) ++ r
    → bytes ≡ magic_bytes (is_sourced w) ++ s → v ≡ w
magic_one v w (inl one) (inl other) bytes r s first second = one ∙ sym other
magic_one v w (inr two) (inr other) bytes r s first second = two ∙ sym other
magic_one v w (inl one) (inr two) bytes r s first second = absurd (seven bytes r s
    (first ∙ ap (λ n. magic_bytes (is_sourced n) ++ r) one) (second ∙ ap (λ n. magic_bytes (is_sourced n) ++ s) two))
magic_one v w (inr two) (inl one) bytes r s first second = absurd (seven bytes s r
    (second ∙ ap (λ n. magic_bytes (is_sourced n) ++ s) one) (first ∙ ap (λ n. magic_bytes (is_sourced n) ++ r) two))

-- what a file's bytes are and what stands behind them, part by part
pub in_parts : (version profile : ℕ) (bs : List Block) (r : List ℕ) → graph_bytes version profile bs ++ r
    ≡ magic_bytes (is_sourced version) ++ (u32_bytes profile ++ (list_bytes (block_bytes (is_sourced version)) bs ++ r))
in_parts version profile bs r = three (magic_bytes (is_sourced version)) (u32_bytes profile)
    (list_bytes (block_bytes (is_sourced version)) bs) r

-- a whole file has nothing behind it
pub begins_whole : (version profile : ℕ) (bytes : List ℕ) (bs : List Block) → IsFile version profile bytes bs
    → BeginsFile version profile bytes bs []
begins_whole version profile bytes bs file = record {
  file = record {
    known_version = file.known_version;
    known = file.known;
    spelled = refl;
    some = file.some;
    ascend = file.ascend;
  };
  parts = file.spelled ∙ sym (append-nil (graph_bytes version profile bs));
}

-- a file in front of bytes
pub begins_front : (version profile : ℕ) (x r : List ℕ) (bs : List Block) → IsFile version profile x bs
    → BeginsFile version profile (x ++ r) bs r
begins_front version profile x r bs file = record {
  file = (begins_whole version profile x bs file).file;
  parts = ap (λ l. l ++ r) file.spelled;
}

-- what is behind the magic of the version v begins with the profile's number, where the bytes begin with a file
pub numbered : (v : ℕ) → IsVersion v → (bytes rest : List ℕ) → bytes ≡ magic_bytes (is_sourced v) ++ rest
    → (version profile : ℕ) (bs : List Block) (r : List ℕ) → BeginsFile version profile bytes bs r
    → (v ≡ version) × Begins u32_bytes IsProfile rest profile (list_bytes (block_bytes (is_sourced v)) bs ++ r)
numbered v known bytes rest head version profile bs r begins =
    let behind : List ℕ = u32_bytes profile ++ (list_bytes (block_bytes (is_sourced version)) bs ++ r) in
    let parts : bytes ≡ magic_bytes (is_sourced version) ++ behind = begins.parts ∙ in_parts version profile bs r in
    let same : v ≡ version = magic_one v version known begins.file.known_version bytes rest behind head parts in (
      same,
      record {
        fits = begins.file.known;
        parts = cancel (magic_bytes (is_sourced v)) rest
            (u32_bytes profile ++ (list_bytes (block_bytes (is_sourced v)) bs ++ r))
            (sym head ∙ begins.parts ∙ ap (λ n. graph_bytes n profile bs ++ r) (sym same) ∙ in_parts v profile bs r);
      },
    )

-- and what is behind it
pub behind : (v : ℕ) → IsVersion v → (bytes front rest : List ℕ) (number : ℕ)
    → bytes ≡ magic_bytes (is_sourced v) ++ front → Begins u32_bytes IsProfile front number rest
    → (version profile : ℕ) (bs : List Block) (r : List ℕ) → BeginsFile version profile bytes bs r
    → (number ≡ profile) × Begins (list_bytes (block_bytes (is_sourced v))) (ListFits (IsWayBlock (is_sourced v))) rest
    bs r
behind v known bytes front rest number head found version profile bs r begins =
    let spelled : List ℕ = list_bytes (block_bytes (is_sourced v)) bs ++ r in
    let first = numbered v known bytes front head version profile bs r begins in
    let same = profile_one number profile front rest spelled found first.1 in (
      same.0,
      record {
        fits = subst (λ n. ListFits (IsWayBlock (is_sourced n)) bs) (sym first.0) begins.file.some;
        parts = same.1;
      },
    )

pub blocks_one : (sourced : Bool)
    → IsOneSpelling (list_bytes (block_bytes sourced)) (ListFits (IsWayBlock sourced))
blocks_one sourced = list_one (block_bytes sourced) (IsWayBlock sourced) (block_one sourced)

-- ---- blocks that are put one behind the other

last_above : (y : Block) (ys : List Block) (x : Block) (zs : List Block)
    → IsTrue (rises_from way_cmp y.way (map (λ b. b.way) (ys ++ x ∷ zs))) → IsTrue (is_lt (way_cmp y.way x.way))
last_above y [] x zs up = (and_parts _ _ up).0
last_above y (k ∷ ys) x zs up =
    let p = and_parts _ _ up in over way_cmp way_cmp_total y.way k.way x.way p.0 (last_above k ys x zs p.1)

put_last : (ys : List Block) (x : Block) (zs : List Block) → IsTrue (rises way_cmp (map (λ b. b.way) (ys ++ x ∷ zs)))
    → put way_cmp x.way x (map entry_of ys) ≡ map entry_of (ys ++ x ∷ [])
put_last [] x zs up = refl
put_last (y ∷ ys) x zs up =
    let e : way_cmp x.way y.way ≡ Greater = turned way_cmp way_cmp_total y.way x.way Less
    (less _ (last_above y ys x zs up)) in
    rw e (ap (λ l. entry_of y ∷ l) (put_last ys x zs (rest_rises way_cmp y.way (map (λ b. b.way) (ys ++ x ∷ zs)) up)))

pub none_put : (m : FinMap way_cmp Block) → m ≡ empty → entries m ≡ map entry_of []
none_put m is = ap entries is ∙ no_entries

pub one_put : (all ys : List Block) (x : Block) (zs : List Block) (m n : FinMap way_cmp Block)
    → IsTrue (rises way_cmp (map (λ b. b.way) all)) → all ≡ ys ++ x ∷ zs → entries m ≡ map entry_of ys
    → n ≡ insert m x.way x → entries n ≡ map entry_of (ys ++ x ∷ [])
one_put all ys x zs m n up is so_far next =
    ap entries next ∙ entries-insert way_cmp_total m x.way x ∙ ap (put way_cmp x.way x) so_far
    ∙ put_last ys x zs (subst (λ l. IsTrue (rises way_cmp (map (λ b. b.way) l))) is up)

pub one_more : (all ys : List Block) (x : Block) (zs : List Block) → all ≡ ys ++ x ∷ zs → all ≡ (ys ++ x ∷ []) ++ zs
one_more all ys x zs is = is ∙ sym (append_assoc ys (x ∷ []) zs)

-- ---- the grammar says no more and no less than what is read

all_to : {A : Type 0} (F G : A → Type 0) → ((x : A) → F x → G x) → (xs : List A) → AllByRecursion F xs
    → AllByRecursion G xs
all_to F G to [] all = tt
all_to F G to (x ∷ xs) all = (to x all.0, all_to F G to xs all.1)

block_form : (sourced : Bool) (b : Block) → IsWayBlock sourced b → IsBlockForm sourced b
block_form sourced b is = record {
  some = is.some;
  ascend = is.ascend;
  pieces = all_to (IsPieceAt sourced b.way) (IsPieceForm sourced) (λ p at. at.form) b.pieces is.pieces;
}

block_fits : (sourced : Bool) (b : Block) → IsWayBlock sourced b → BlockFits sourced b
block_fits sourced b is = record {
  way = is.way;
  pieces = all_to (IsPieceAt sourced b.way) (PieceFits sourced) (λ p at. at.fits) b.pieces is.pieces;
}

of_its_way : (sourced : Bool) (b : Block) → IsWayBlock sourced b → IsOfItsWay b
of_its_way sourced b is =
    all_to (IsPieceAt sourced b.way) (λ p. p.name.way ≡ b.way) (λ p at. at.way_is) b.pieces is.pieces

pub forms : (sourced : Bool) (bs : List Block) → AllByRecursion (IsWayBlock sourced) bs
    → AllByRecursion (IsBlockForm sourced) bs
forms sourced = all_to (IsWayBlock sourced) (IsBlockForm sourced) (block_form sourced)

pub ways : (sourced : Bool) (bs : List Block) → AllByRecursion (IsWayBlock sourced) bs → AllByRecursion IsOfItsWay bs
ways sourced = all_to (IsWayBlock sourced) IsOfItsWay (of_its_way sourced)

-- what is read of a file of version 1 has no marks and no sources
bare_block : (b : Block) → IsWayBlock false b → IsBareBlock b
bare_block b is = all_to (IsPieceAt false b.way) IsBarePiece (λ p at. at.bare) b.pieces is.pieces

pub bare_blocks : (version : ℕ) (bs : List Block) → AllByRecursion (IsWayBlock (is_sourced version)) bs → version ≡ 1
    → AllByRecursion IsBareBlock bs
bare_blocks version bs all one =
    all_to (IsWayBlock false) IsBareBlock bare_block bs
    (subst (λ v. AllByRecursion (IsWayBlock (is_sourced v)) bs) one all)

pub grammar : (version profile : ℕ) (bytes : List ℕ) (bs : List Block) → IsFile version profile bytes bs
    → IsGraphFile bytes
grammar version profile bytes bs file = record {
  version = version;
  known_version = file.known_version;
  profile = profile;
  known = file.known;
  blocks = bs;
  ascend = file.ascend;
  forms = forms (is_sourced version) bs file.some.1;
  fit = all_to (IsWayBlock (is_sourced version)) (BlockFits (is_sourced version)) (block_fits (is_sourced version)) bs
      file.some.1;
  count = file.some.0;
  spelled = file.spelled;
}

-- each block's own pieces, without marks and sources where none are spelled
unless_piece : (sourced : Bool) (p : Piece) (ps : List Piece) → Unless sourced (AllByRecursion IsBarePiece (p ∷ ps))
    → Unless sourced (IsBarePiece p) × Unless sourced (AllByRecursion IsBarePiece ps)
unless_piece false p ps bare = bare
unless_piece true p ps bare = (tt, tt)

unless_block : (sourced : Bool) (b : Block) (bs : List Block) → Unless sourced (AllByRecursion IsBareBlock (b ∷ bs))
    → Unless sourced (AllByRecursion IsBarePiece b.pieces) × Unless sourced (AllByRecursion IsBareBlock bs)
unless_block false b bs bare = bare
unless_block true b bs bare = (tt, tt)

own_pieces : (sourced : Bool) (w : WayId) (ps : List Piece) → AllByRecursion (IsPieceForm sourced) ps
    → AllByRecursion (PieceFits sourced) ps → AllByRecursion (λ p. p.name.way ≡ w) ps
    → Unless sourced (AllByRecursion IsBarePiece ps) → AllByRecursion (IsPieceAt sourced w) ps
own_pieces sourced w [] form fits own bare = tt
own_pieces sourced w (p ∷ ps) form fits own bare =
    let each = unless_piece sourced p ps bare in (
      record { way_is = own.0; form = form.0; fits = fits.0; bare = each.0 },
      own_pieces sourced w ps form.1 fits.1 own.1 each.1,
    )

own_blocks : (sourced : Bool) (bs : List Block) → AllByRecursion (IsBlockForm sourced) bs
    → AllByRecursion (BlockFits sourced) bs → AllByRecursion IsOfItsWay bs
    → Unless sourced (AllByRecursion IsBareBlock bs) → AllByRecursion (IsWayBlock sourced) bs
own_blocks sourced [] form fits own bare = tt
own_blocks sourced (b ∷ bs) form fits own bare =
    let each = unless_block sourced b bs bare in (
      record {
        way = fits.0.way;
        count =
            let few : length b.pieces ≤ 131068 = few_pieces sourced b.pieces form.0.ascend form.0.pieces in
            omega arith;
        some = form.0.some;
        ascend = form.0.ascend;
        pieces = own_pieces sourced b.way b.pieces form.0.pieces fits.0.pieces own.0 each.0;
      },
      own_blocks sourced bs form.1 fits.1 own.1 each.1,
    )

-- blocks of their ways, in form, are the file that they spell
pub file_of : (version profile : ℕ) (bytes : List ℕ) (bs : List Block) → IsVersion version → IsProfile profile
    → bytes ≡ graph_bytes version profile bs → length bs < 2 ^ 64 → IsTrue (rises way_cmp (map (λ b. b.way) bs))
    → AllByRecursion (IsBlockForm (is_sourced version)) bs → AllByRecursion (BlockFits (is_sourced version)) bs
    → AllByRecursion IsOfItsWay bs → Unless (is_sourced version) (AllByRecursion IsBareBlock bs)
    → IsFile version profile bytes bs
file_of version profile bytes bs known_version known spelled count up form fits own bare = record {
  known_version = known_version;
  known = known;
  spelled = spelled;
  some = (count, own_blocks (is_sourced version) bs form fits own bare);
  ascend = up;
}

-- the file that bytes begin with has one version, one profile and one list of blocks, and one end
pub one_begins : (v w m n : ℕ) (bytes r s : List ℕ) (a b : List Block) → BeginsFile v m bytes a r
    → BeginsFile w n bytes b s → (v ≡ w) × (m ≡ n) × (a ≡ b) × (r ≡ s)
one_begins v w m n bytes r s a b f g =
    let known = f.file.known_version in
    let rest : List ℕ = list_bytes (block_bytes (is_sourced v)) a ++ r in
    let front : List ℕ = u32_bytes m ++ rest in
    let head : bytes ≡ magic_bytes (is_sourced v) ++ front = f.parts ∙ in_parts v m a r in
    let mine = numbered v known bytes front head v m a r f in
    let same = numbered v known bytes front head w n b s g in
    let other = behind v known bytes front rest m head mine.1 w n b s g in
    let own = behind v known bytes front rest m head mine.1 v m a r f in
    let blocks = blocks_one (is_sourced v) a b rest r s own.1 other.1 in
    (same.0, other.0, blocks.0, blocks.1)

-- the bytes of a file have one version, one profile and one list of blocks
pub one_file : (v w m n : ℕ) (bytes : List ℕ) (a b : List Block) → IsFile v m bytes a → IsFile w n bytes b
    → (v ≡ w) × (m ≡ n) × (a ≡ b)
one_file v w m n bytes a b f g =
    let one = one_begins v w m n bytes [] [] a b (begins_whole v m bytes a f) (begins_whole w n bytes b g) in
    (one.0, one.1, one.2)

pub one_front : (v w m n : ℕ) (x y r s : List ℕ) (a b : List Block) → IsFile v m x a → IsFile w n y b
    → x ++ r ≡ y ++ s → (v ≡ w) × (m ≡ n) × (a ≡ b) × (r ≡ s)
one_front v w m n x y r s a b f g same =
    one_begins v w m n (y ++ s) r s a b
    (subst (λ l. BeginsFile v m l a r) same (begins_front v m x r a f)) (begins_front w n y s b g)

-- what the bytes of a file are spelled for
pub file_profile : (v w m n : ℕ) (bytes : List ℕ) (a b : List Block) → IsFile v m bytes a → IsVersion w → IsProfile n
    → bytes ≡ graph_bytes w n b → (v ≡ w) × (m ≡ n)
file_profile v w m n bytes a b file known_version known spelled =
    let rest : List ℕ = list_bytes (block_bytes (is_sourced w)) b in
    let is = numbered w known_version bytes (u32_bytes n ++ rest) spelled v m a [] (begins_whole v m bytes a file) in (
      sym is.0,
      (profile_one m n (u32_bytes n ++ rest) (list_bytes (block_bytes (is_sourced w)) a ++ []) rest is.1
          (record { fits = known; parts = refl })).0,
    )

-- the file of a grammar's bytes: that of blocks whose pieces are those of their way
pub file_in_grammar : (bytes : List ℕ) (is : IsGraphFile bytes)
    → IsFile is.version is.profile bytes (map (block_at (is_sourced is.version)) is.blocks)
file_in_grammar bytes is =
    let b = is_sourced is.version in
    record {
      known_version = is.known_version;
      known = is.known;
      spelled = is.spelled ∙ sym (same_file is.version is.profile is.blocks);
      some = (
        subst (λ n. n < 2 ^ 64) (sym (as_many (block_at b) is.blocks)) is.count,
        way_blocks b is.blocks is.forms is.fit,
      );
      ascend = subst (λ l. IsTrue (rises way_cmp l)) (sym (same_ways b is.blocks)) is.ascend;
    }

-- where bytes begin with no file, no front of them is in the grammar
pub none_in_front : (bytes : List ℕ)
    → ((version profile : ℕ) (bs : List Block) (rest : List ℕ) → BeginsFile version profile bytes bs rest → ⊥)
    → (front rest : List ℕ) → bytes ≡ front ++ rest → IsGraphFile front → ⊥
none_in_front bytes none front rest parts is =
    let bs : List Block = map (block_at (is_sourced is.version)) is.blocks in
    none is.version is.profile bs rest
    (subst (λ l. BeginsFile is.version is.profile l bs rest) (sym parts)
    (begins_front is.version is.profile front rest bs (file_in_grammar front is)))

-- behind a file something is left, so the whole is in no grammar
pub more_in_none : (version profile : ℕ) (bytes r : List ℕ) (bs : List Block)
    → BeginsFile version profile bytes bs r → (r ≡ [] → ⊥) → IsGraphFile bytes → ⊥
more_in_none version profile bytes r bs begins more is =
    let all : List Block = map (block_at (is_sourced is.version)) is.blocks in
    more (one_begins version is.version profile is.profile bytes r [] bs all begins
    (begins_whole is.version is.profile bytes all (file_in_grammar bytes is))).3
