-- Escapes read one by one.
use Rattle.std.specs.Prelude.{◌≡◌, ◌++◌, ℕ, List, [], ◌∷◌, Bool, true, false, IsTrue, Option, Some, None, option_map}
use Rattle.std.specs.Prelude.{length, take, refl}
use Rattle.std.specs.Str.{IsUtf8, IsCharBoundary}
use Rattle.std.specs.Char.{encode_utf8}
use Rattle.std.specs.Str.Parse.{digits_value}
use Rattle.std.proofs.Common.{sym, ◌∙◌, ap, append_assoc, append-nil, arith, length-append}
use Rattle.std.proofs.Math.Seq.{take-append_seam}
use Rattle.std.proofs.lemmas.Str.{IsCharBoundary-from_take}
use Rattle.opl_lexer.specs.Escapes.{is_code, character, joined, read_parts, unescaped}
use Rattle.opl_lexer.specs.Parts.{Lacks, IsCutAt}
use Rattle.opl_lexer.proofs.Cuts.{parts_first, parts_alone}

-- ---- one escape

pub character_some : (code : List ℕ) (v : ℕ) → IsTrue (is_code code) → v ≡ digits_value 16 code
    → character code ≡ Some (encode_utf8 v)
unfolding character
character_some code v good same = rw (good, same) refl

not_true : (b : Bool) → ¬ IsTrue b → b ≡ false
not_true true n = absurd (n refl)
not_true false n = refl

pub character_none : (code : List ℕ) → ¬ IsTrue (is_code code) → character code ≡ None
unfolding character
character_none code bad = rw (not_true (is_code code) bad) refl

joined_without : (text : List ℕ) (c : Option (List ℕ)) → joined text c None ≡ None
joined_without text (Some c) = refl
joined_without text None = refl

-- ---- a text, by where its percent signs stand

pub plain_text : (text : List ℕ) → Lacks 37 text → unescaped text ≡ Some text
plain_text text lacks = ap read_parts (parts_alone 37 text lacks)

pub open_escape : (text front behind : List ℕ) → IsCutAt 37 text front behind → Lacks 37 behind → unescaped text ≡ None
open_escape text front behind cut lacks =
    ap read_parts (parts_first 37 text front behind cut ∙ ap (λ l. front ∷ l) (parts_alone 37 behind lacks))
    ∙ joined_without front (character behind)

pub one_escape : (text front behind code rest : List ℕ) → IsCutAt 37 text front behind → IsCutAt 37 behind code rest
    → unescaped text ≡ joined front (character code) (unescaped rest)
one_escape text front behind code rest cut close =
    ap read_parts (parts_first 37 text front behind cut ∙ ap (λ l. front ∷ l) (parts_first 37 behind code rest close))

pub bad_escape : (text front behind code rest : List ℕ) → IsCutAt 37 text front behind → IsCutAt 37 behind code rest
    → ¬ IsTrue (is_code code) → unescaped text ≡ None
bad_escape text front behind code rest cut close bad =
    one_escape text front behind code rest cut close
    ∙ ap (λ c. joined front c (unescaped rest)) (character_none code bad)

-- ---- the loop

-- what has been read of the text stands behind the start, and the rest is still to be read
pub record HasRead (text start rest out : List ℕ) : Type 0 where
  pub front : List ℕ
  pub written : out ≡ start ++ front
  pub left : unescaped text ≡ option_map (λ more. front ++ more) (unescaped rest)

map_nothing : (o : Option (List ℕ)) → o ≡ option_map (λ more. [] ++ more) o
map_nothing (Some x) = refl
map_nothing None = refl

pub HasRead-start : (text start : List ℕ) → HasRead text start text start
HasRead-start text start = record { front = []; written = sym (append-nil start); left = map_nothing (unescaped text) }

map_joined : (front text c : List ℕ) (o : Option (List ℕ))
    → option_map (λ more. front ++ more) (joined text (Some c) o)
    ≡ option_map (λ more. (front ++ (text ++ c)) ++ more) o
map_joined front text c (Some x) = ap Some
    (sym (append_assoc front (text ++ c) x ∙ ap (λ l. front ++ l) (append_assoc text c x)))
map_joined front text c None = refl

-- text without escapes, and an escape behind it
pub HasRead-more : (text start rest out plain behind code more : List ℕ) (v : ℕ) → HasRead text start rest out
    → IsCutAt 37 rest plain behind → IsCutAt 37 behind code more → IsTrue (is_code code) → v ≡ digits_value 16 code
    → HasRead text start more ((out ++ plain) ++ encode_utf8 v)
HasRead-more text start rest out plain behind code more v read cut close good same =
    let c = encode_utf8 v in
    let step : unescaped rest ≡ joined plain (Some c) (unescaped more) =
    one_escape rest plain behind code more cut close
    ∙ ap (λ x. joined plain x (unescaped more)) (character_some code v good same) in
    record {
      front = read.front ++ (plain ++ c);
      written = append_assoc out plain c ∙ (ap (λ l. l ++ (plain ++ c)) read.written
          ∙ append_assoc start read.front (plain ++ c));
      left = read.left ∙ (ap (λ o. option_map (λ more. read.front ++ more) o) step
          ∙ map_joined read.front plain c (unescaped more));
    }

-- the rest has no escape
pub HasRead-end : (text start rest out : List ℕ) → HasRead text start rest out → Lacks 37 rest
    → option_map (λ read. start ++ read) (unescaped text) ≡ Some (out ++ rest)
HasRead-end text start rest out read lacks =
    let whole : unescaped text ≡ Some (read.front ++ rest) = read.left
    ∙ ap (λ o. option_map (λ more. read.front ++ more) o) (plain_text rest lacks) in
    ap (λ o. option_map (λ r. start ++ r) o) whole
    ∙ ap Some (sym (ap (λ l. l ++ rest) read.written ∙ append_assoc start read.front rest))

-- the rest can't be read
pub HasRead-bad : (text start rest out : List ℕ) → HasRead text start rest out → unescaped rest ≡ None
    → unescaped text ≡ None
HasRead-bad text start rest out read bad = read.left ∙ ap (λ o. option_map (λ more. read.front ++ more) o) bad

-- there it may be cut
pub kept_boundary : (start out part : List ℕ) → out ≡ start ++ part → IsUtf8 start → IsUtf8 out
    → IsCharBoundary out (length start)
kept_boundary start out part same before after =
    let front : take (length start) out ≡ start = rw same (take-append_seam start part) in
    IsCharBoundary-from_take out (length start) after (rw same (omega (arith, length-append start part)))
    (rw front before)
