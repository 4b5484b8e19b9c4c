-- Words that are cut at commas.
use Rattle.std.proofs.Common.{◌≡◌, ◌≢◌, ◌==◌, ◌<◌, ℕ, List, [], ◌∷◌, ◌++◌, Bool, true, false, cond}
use Rattle.std.proofs.Common.{Option, Some, None, length, get_or, refl, sym, ap, ◌∙◌, arith}
use Rattle.std.proofs.Common.{ℤ, pos, negsuc, FitsSigned, Bor}
use Rattle.std.specs.Prelude.{IfSome, IfNone, ◌&&◌}
use Rattle.std.specs.Int.{w32, w64, cast_signed, cast_unsigned}
use Rattle.std.proofs.lemmas.Int.{ints, to_z-of_z}
use Rattle.std.proofs.lemmas.Str.Pattern.{IsSplitOnceResult, split_parts}
use Rattle.road_base.specs.Ranges.{is_in_range}
use Rattle.std.specs.List.{onto_first}
use Rattle.std.proofs.lemmas.Bool.Decides.{nat_tests}
use Rattle.std.proofs.lemmas.List.Splits.{slice_split_none, slice_split_at}
use Rattle.std.proofs.lemmas.List.Elements.{All-from_get_or}
use Rattle.opl_lexer.specs.Parts.{parts}
use Rattle.map_cells.specs.declared.area.Area.{Area}
use Rattle.cells.specs.Commands.{area_of_parts, area_between}

differs : (b stop : ℕ) → (b ≡ stop → ⊥) → (b == stop) ≡ false
differs b stop never = grind (arith, nat_tests)

-- what stands before a comma, and the parts behind it
pub parts_comma : (word front behind : List ℕ) → word ≡ front ++ (44 ∷ behind)
    → ((i : ℕ) → i < length front → get_or front i 0 ≢ 44) → parts 44 word ≡ front ∷ parts 44 behind
parts_comma word front behind is none = ap (parts 44) is ∙ slice_split_at (λ b. b == 44) front 44 behind
    (All-from_get_or (λ b. (b == 44) ≡ false) front 0 (λ i h. differs (get_or front i 0) 44 (none i h))) refl

pub parts_alone : (word : List ℕ) → ((i : ℕ) → i < length word → get_or word i 0 ≢ 44) → parts 44 word ≡ word ∷ []
parts_alone word none = slice_split_none (λ b. b == 44) word
    (All-from_get_or (λ b. (b == 44) ≡ false) word 0 (λ i h. differs (get_or word i 0) 44 (none i h)))

-- there is always a part
record HasPart (word : List ℕ) : Type 0 where
  first : List ℕ
  others : List (List ℕ)
  are : parts 44 word ≡ first ∷ others

onto : (b : ℕ) (first : List ℕ) (others : List (List ℕ)) → onto_first b (first ∷ others) ≡ (b ∷ first) ∷ others
onto b first others = refl

one_part : (b : ℕ) (bs : List ℕ) (cuts : Bool) → HasPart bs
    → (first : List ℕ) × (others : List (List ℕ)) × (cond cuts ([] ∷ parts 44 bs) (onto_first b (parts 44 bs))
    ≡ first ∷ others)
one_part b bs true h = ([], parts 44 bs, refl)
one_part b bs false h = (b ∷ h.first, h.others, ap (onto_first b) h.are)

has_part : (word : List ℕ) → HasPart word
has_part [] = record { first = []; others = []; are = refl }
has_part (b ∷ bs) = let p = one_part b bs (b == 44) (has_part bs) in record { first = p.0; others = p.1; are = p.2 }

-- five parts are no area
pub no_fifth : (west south east north behind : List ℕ)
    → area_of_parts (west ∷ south ∷ east ∷ north ∷ parts 44 behind) ≡ None
no_fifth west south east north behind =
    let h = has_part behind in
    ap (λ l. area_of_parts (west ∷ south ∷ east ∷ north ∷ l)) h.are

-- ---- where a word is cut

pub cut_some : (word : List ℕ) (r : Option (Bor (List ℕ) × Bor (List ℕ))) → IsSplitOnceResult 44 word r
    → IfSome r (λ x. parts 44 word ≡ x.0.now ∷ parts 44 x.1.now)
cut_some word None h = tt
cut_some word (Some x) h =
    let m = split_parts 44 word (Some x) h (omega arith) in parts_comma word x.0.now x.1.now m.0 m.1

pub cut_none : (word : List ℕ) (r : Option (Bor (List ℕ) × Bor (List ℕ))) → IsSplitOnceResult 44 word r
    → IfNone r (parts 44 word ≡ word ∷ [])
cut_none word None h = parts_alone word (split_parts 44 word None h (omega arith))
cut_none word (Some x) h = tt

-- ---- numbers of 32 bits

units_fit : (lon lat : ℤ) → true ≡ is_in_range lon lat → FitsSigned w32 lon × FitsSigned w32 lat
units_fit (pos x) (pos y) h = (grind (arith, ints), grind (arith, ints))
units_fit (pos x) (negsuc y) h = (grind (arith, ints), grind (arith, ints))
units_fit (negsuc x) (pos y) h = (grind (arith, ints), grind (arith, ints))
units_fit (negsuc x) (negsuc y) h = (grind (arith, ints), grind (arith, ints))

same_number : (z : ℤ) → FitsSigned w64 z → FitsSigned w32 z
    → cast_signed w32 (cast_unsigned w32 (cast_signed w64 (cast_unsigned w64 z))) ≡ z
same_number z long short =
    ap (λ (y : ℤ). cast_signed w32 (cast_unsigned w32 y)) (to_z-of_z w64 z long) ∙ to_z-of_z w32 z short

-- an area of numbers that were passed on in 32 bits
pub area_made : (w s e n : ℤ) → FitsSigned w64 w → FitsSigned w64 s → FitsSigned w64 e → FitsSigned w64 n
    → true ≡ is_in_range w s → true ≡ is_in_range e n
    → (a : Area) → a.west ≡ cast_signed w32 (cast_unsigned w32 (cast_signed w64 (cast_unsigned w64 w)))
    → a.south ≡ cast_signed w32 (cast_unsigned w32 (cast_signed w64 (cast_unsigned w64 s)))
    → a.east ≡ cast_signed w32 (cast_unsigned w32 (cast_signed w64 (cast_unsigned w64 e)))
    → a.north ≡ cast_signed w32 (cast_unsigned w32 (cast_signed w64 (cast_unsigned w64 n)))
    → Some a ≡ area_between w s e n
area_made w s e n fw fs fe fn first second a west south east north =
    let corner = units_fit w s first in
    let other = units_fit e n second in
    let made : ℤ → ℤ → ℤ → ℤ → Area = λ x y z v. record { west = x; south = y; east = z; north = v } in
    let whole : a ≡ made w s e n =
    ap (λ (x : ℤ). made x a.south a.east a.north) (west ∙ same_number w fw corner.0)
    ∙ (ap (λ (x : ℤ). made w x a.east a.north) (south ∙ same_number s fs corner.1)
    ∙ (ap (λ (x : ℤ). made w s x a.north) (east ∙ same_number e fe other.0)
    ∙ ap (λ (x : ℤ). made w s e x) (north ∙ same_number n fn other.1))) in
    let both : (is_in_range w s && is_in_range e n) ≡ true =
    ap (λ (x : Bool). x && is_in_range e n) (sym first) ∙ ap (λ (x : Bool). true && x) (sym second) in
    ap (λ (b : Area). Some b) whole
    ∙ sym (ap (λ (x : Bool). cond x (Some (record { west = w; south = s; east = e; north = n })) None) both)

-- a test of numbers that were passed on is one of the numbers
pub passed_on : (x y : ℤ) → FitsSigned w64 x → FitsSigned w64 y
    → true ≡ is_in_range (cast_signed w64 (cast_unsigned w64 x)) (cast_signed w64 (cast_unsigned w64 y))
    → true ≡ is_in_range x y
passed_on x y fx fy is = is
    ∙ (ap (λ (z : ℤ). is_in_range z (cast_signed w64 (cast_unsigned w64 y))) (to_z-of_z w64 x fx)
    ∙ ap (λ (z : ℤ). is_in_range x z) (to_z-of_z w64 y fy))
