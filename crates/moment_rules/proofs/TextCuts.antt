-- Texts, cut at a byte.
use Rattle.std.specs.Prelude.{◌≡◌, ◌<◌, ℕ, List, [], ◌∷◌, Option, Some, None, length}
use Rattle.std.proofs.Common.{arith, subst}
use Rattle.std.proofs.lemmas.List.{take_all}
use Rattle.std.proofs.lemmas.List.Splits.{length-slice_split}
use Rattle.std.specs.Prelude.{◌==◌, refl}
use Rattle.memchr.specs.Find.{IsFirstByte, is_byte}
use Rattle.opl_lexer.specs.Parts.{parts, Lacks}
use Rattle.opl_lexer.proofs.Cuts.{lacks_before, parts_alone}
use Rattle.moment_rules.specs.Shapes.{one_or_two}

-- a text without such a byte is one part
pub uncut : (stop : ℕ) (bs : List ℕ) (r : Option ℕ) → IsFirstByte (is_byte stop) bs r → r ≡ None
    → parts stop bs ≡ bs ∷ []
uncut stop bs None first e =
    parts_alone stop bs (subst (Lacks stop) (take_all (length bs) bs (omega arith))
    (lacks_before stop bs (length bs) (omega arith) first))
uncut stop bs (Some at) first e = cc

some_part : (stop : ℕ) (bs : List ℕ) → 0 < length (parts stop bs)
some_part stop bs = omega (arith, length-slice_split (λ b. b == stop) bs)

too_many : (a b : List ℕ) (ps : List (List ℕ)) → 0 < length ps → one_or_two (a ∷ b ∷ ps) ≡ None
too_many a b [] some = absurd (omega arith)
too_many a b (p ∷ ps) some = refl

-- a text that is cut twice has too many parts
pub three_parts : (stop : ℕ) (text a b rest more : List ℕ) → parts stop text ≡ a ∷ parts stop rest
    → parts stop rest ≡ b ∷ parts stop more → one_or_two (parts stop text) ≡ None
three_parts stop text a b rest more one two = rw (one, two) (too_many a b (parts stop more) (some_part stop more))
