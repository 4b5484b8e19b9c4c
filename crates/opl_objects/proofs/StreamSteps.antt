-- What a reader knows after more bytes, and at the end.
use Rattle.std.specs.Prelude.{◌≡◌, ◌==◌, ◌<◌, ◌≤◌, ◌+◌, ◌++◌, ℕ, List, [], ◌∷◌, false, Option, Some, None, length, map}
use Rattle.std.specs.Prelude.{refl}
use Rattle.std.specs.List.{AllZip, filter}
use Rattle.std.proofs.Common.{arith, sym, ◌∙◌, ap, subst, append_assoc, append-nil}
use Rattle.std.proofs.lemmas.List.{length-append, map-append}
use Rattle.std.proofs.lemmas.List.Elements.{All-append, All-nil, filter-append}
use Rattle.road_base.specs.declared.event.Event.{Event}
use Rattle.opl_lexer.specs.declared.mode.Mode.{Mode}
use Rattle.opl_lexer.specs.Parts.{parts, Lacks}
use Rattle.opl_lexer.specs.Lines.{lines, whole_lines, ended, without_return}
use Rattle.opl_lexer.specs.Faults.{line_fault}
use Rattle.opl_lexer.specs.Spelling.{Spells}
use Rattle.opl_lexer.specs.Reading.{FaultAt, ReadAll, at_line, first_fault, ended_fault, object_lines, is_taken}
use Rattle.opl_objects.specs.declared.fault.ReadError.{ReadError}
use Rattle.opl_objects.specs.declared.fault.ReadError.TheVariants.{Fault, NoMemory}
use Rattle.opl_objects.specs.declared.reader.Reader.{Reader}
use Rattle.opl_objects.specs.StreamLines.{Adds, IsFaultOf, fault_at}
use Rattle.opl_objects.specs.Feeding.{IsOpen, HasRead, Stands, EndedBy, RefusedBy, answered, counted}
use Rattle.opl_objects.proofs.StreamParts.{parts_append, parts_alone, parts_ended, whole_lines_are}
use Rattle.opl_objects.proofs.StreamFaults.{first_fault-next, lines_last, ended_none, ended_some, ended_fault-stays}
use Rattle.opl_objects.proofs.StreamFaults.{ended_fault-is_first}

-- ---- the events of lines

AllZip-append : (mode : Mode) (xs ys : List (List ℕ)) (es ds : List Event) → AllZip (Spells mode) xs es
    → AllZip (Spells mode) ys ds → AllZip (Spells mode) (xs ++ ys) (es ++ ds)
AllZip-append mode [] ys [] ds p q = q
AllZip-append mode [] ys (e ∷ es) ds p q = absurd p
AllZip-append mode (x ∷ xs) ys [] ds p q = absurd p
AllZip-append mode (x ∷ xs) ys (e ∷ es) ds p q = (p.0, AllZip-append mode xs ys es ds p.1 q)

object_lines-append : (xs ys : List (List ℕ)) → object_lines (xs ++ ys) ≡ object_lines xs ++ object_lines ys
object_lines-append xs ys = ap (filter is_taken) (map-append without_return xs ys)
    ∙ filter-append is_taken (map without_return xs) (map without_return ys)

said_more : (mode : Mode) (front : List (List ℕ)) (line : List ℕ) (old new : List Event)
    → AllZip (Spells mode) (object_lines front) old → Adds mode line old new
    → AllZip (Spells mode) (object_lines (front ++ (line ∷ []))) new
said_more mode front line old new said adds =
    rw (object_lines-append front (line ∷ []), adds.added)
    (AllZip-append mode (object_lines front) (object_lines (line ∷ [])) old adds.more said adds.said)

good_more : (mode : Mode) (front : List (List ℕ)) (line : List ℕ) (old new : List Event)
    → first_fault mode 1 front ≡ None → Adds mode line old new → first_fault mode 1 (front ++ (line ∷ [])) ≡ None
good_more mode front line old new good adds = first_fault-next mode front line good
    ∙ ap (at_line (length front + 1)) adds.good

bad_more : (mode : Mode) (front : List (List ℕ)) (line : List ℕ) (number : ℕ) (p : FaultAt) → number ≡ length front
    → first_fault mode 1 front ≡ None → at_line (number + 1) (line_fault mode (without_return line)) ≡ Some p
    → first_fault mode 1 (front ++ (line ∷ [])) ≡ Some p
bad_more mode front line number p count good bad =
    first_fault-next mode front line good ∙ (ap (λ n. at_line (n + 1) (line_fault mode (without_return line)))
    (sym count) ∙ bad)

-- ---- bytes that go on

pub none_lacks : Lacks 10 []
none_lacks = All-nil (λ b. (b == 10) ≡ false)

lacks_append : (front line : List ℕ) → Lacks 10 front → Lacks 10 line → Lacks 10 (front ++ line)
lacks_append front line p q = All-append (λ b. (b == 10) ≡ false) front line p q

-- what is known of the parts of all bytes is known of the whole lines
open_from : (mode : Mode) (fed held : List ℕ) (front : List (List ℕ)) (events : List Event) (number : ℕ)
    → parts 10 fed ≡ front ++ (held ∷ []) → Lacks 10 held → number ≡ length front → first_fault mode 1 front ≡ None
    → AllZip (Spells mode) (object_lines front) events → IsOpen mode fed held events number
open_from mode fed held front events number split lacks count good said =
    let whole : front ≡ whole_lines fed = sym (whole_lines_are fed held front split) in
    record {
      split = split ∙ ap (λ ls. ls ++ (held ∷ [])) whole;
      open_line = lacks;
      count = count ∙ ap length whole;
      good = ap (first_fault mode 1) (sym whole) ∙ good;
      said = subst (λ (ls : List (List ℕ)). AllZip (Spells mode) (object_lines ls) events) whole said;
    }

pub open_none : (mode : Mode) → IsOpen mode [] [] [] 0
unfolding first_fault
open_none mode = open_from mode [] [] [] [] 0 refl none_lacks refl refl tt

pub open_hold : (mode : Mode) (fed held part : List ℕ) (events : List Event) (number : ℕ)
    → IsOpen mode fed held events number → Lacks 10 part → IsOpen mode (fed ++ part) (held ++ part) events number
open_hold mode fed held part events number known p =
    let lacks : Lacks 10 (held ++ part) = lacks_append held part known.open_line p in
    let split = parts_append fed part held (whole_lines fed) known.split
    ∙ ap (λ ps. whole_lines fed ++ ps) (parts_alone (held ++ part) lacks) in
    open_from mode (fed ++ part) (held ++ part) (whole_lines fed) events number split lacks known.count known.good
    known.said

-- the parts where a newline ends the line that is held
parts_end : (mode : Mode) (fed held line : List ℕ) (events : List Event) (number : ℕ)
    → IsOpen mode fed held events number → Lacks 10 line
    → parts 10 (fed ++ (line ++ (10 ∷ []))) ≡ (whole_lines fed ++ ((held ++ line) ∷ [])) ++ ([] ∷ [])
parts_end mode fed held line events number known p =
    let lacks : Lacks 10 (held ++ line) = lacks_append held line known.open_line p in
    let front = whole_lines fed in
    parts_append fed (line ++ (10 ∷ [])) held front known.split
    ∙ (ap (λ bs. front ++ parts 10 bs) (sym (append_assoc held line (10 ∷ [])))
    ∙ (ap (λ ps. front ++ ps) (parts_ended (held ++ line) lacks)
    ∙ sym (append_assoc front ((held ++ line) ∷ []) ([] ∷ []))))

pub open_end : (mode : Mode) (fed held line : List ℕ) (old new : List Event) (number : ℕ)
    → IsOpen mode fed held old number → Lacks 10 line → Adds mode (held ++ line) old new
    → IsOpen mode (fed ++ (line ++ (10 ∷ []))) [] new (number + 1)
open_end mode fed held line old new number known p adds =
    let front = whole_lines fed in
    let count : number + 1 ≡ length (front ++ ((held ++ line) ∷ [])) = omega
    (arith, length-append front ((held ++ line) ∷ []), known.count) in
    open_from mode (fed ++ (line ++ (10 ∷ []))) [] (front ++ ((held ++ line) ∷ [])) new (number + 1)
    (parts_end mode fed held line old number known p) none_lacks count
    (good_more mode front (held ++ line) old new known.good adds)
    (said_more mode front (held ++ line) old new known.said adds)

bad_end : (mode : Mode) (fed held line : List ℕ) (old : List Event) (number : ℕ) (p : FaultAt)
    → IsOpen mode fed held old number → Lacks 10 line
    → at_line (number + 1) (line_fault mode (without_return (held ++ line))) ≡ Some p
    → ended_fault mode (fed ++ (line ++ (10 ∷ []))) ≡ Some p
bad_end mode fed held line old number p known lacks bad =
    let front = whole_lines fed in
    ap (first_fault mode 1) (whole_lines_are (fed ++ (line ++ (10 ∷ []))) [] (front ++ ((held ++ line) ∷ []))
    (parts_end mode fed held line old number known lacks))
    ∙ bad_more mode front (held ++ line) number p known.count known.good bad

pub ended_by : (mode : Mode) (fed held line : List ℕ) (old : List Event) (number : ℕ) (e : ReadError)
    → IsOpen mode fed held old number → Lacks 10 line → IsFaultOf e mode (number + 1) (held ++ line)
    → EndedBy e mode (fed ++ (line ++ (10 ∷ [])))
ended_by mode fed held line old number (Fault fault) known lacks bad = bad_end mode fed held line old number
    (fault_at fault) known lacks bad
ended_by mode fed held line old number NoMemory known lacks bad = tt

pub ended_by-stays : (mode : Mode) (fed more : List ℕ) (e : ReadError) → EndedBy e mode fed
    → EndedBy e mode (fed ++ more)
ended_by-stays mode fed more (Fault fault) ended = ended_fault-stays mode fed more (fault_at fault) ended
ended_by-stays mode fed more NoMemory ended = tt

-- ---- the end of the input

pub all_read : (mode : Mode) (fed held : List ℕ) (events : List Event) (number : ℕ) → IsOpen mode fed held events number
    → held ≡ [] → ReadAll mode fed events
all_read mode fed held events number known empty =
    let all : lines fed ≡ whole_lines fed = lines_last fed held known.split
    ∙ (ap (λ bs. whole_lines fed ++ ended (bs ∷ [])) empty
    ∙ (ap (λ ls. whole_lines fed ++ ls) ended_none ∙ append-nil (whole_lines fed))) in
    record {
      good = ap (first_fault mode 1) all ∙ known.good;
      each = subst (λ (ls : List (List ℕ)). AllZip (Spells mode) (object_lines ls) events) (sym all) known.said;
    }

lines_more : (mode : Mode) (fed held : List ℕ) (events : List Event) (number : ℕ) → IsOpen mode fed held events number
    → 0 < length held → lines fed ≡ whole_lines fed ++ (held ∷ [])
lines_more mode fed held events number known some = lines_last fed held known.split
    ∙ ap (λ ls. whole_lines fed ++ ls) (ended_some held some)

pub all_read_last : (mode : Mode) (fed held : List ℕ) (old new : List Event) (number : ℕ)
    → IsOpen mode fed held old number → 0 < length held → Adds mode held old new → ReadAll mode fed new
all_read_last mode fed held old new number known some adds =
    let all = lines_more mode fed held old number known some in
    record {
      good = ap (first_fault mode 1) all ∙ good_more mode (whole_lines fed) held old new known.good adds;
      each = subst (λ (ls : List (List ℕ)). AllZip (Spells mode) (object_lines ls) new) (sym all)
          (said_more mode (whole_lines fed) held old new known.said adds);
    }

pub refused_last : (mode : Mode) (fed held : List ℕ) (old : List Event) (number : ℕ) (e : ReadError)
    → IsOpen mode fed held old number → 0 < length held → IsFaultOf e mode (number + 1) held → RefusedBy e mode fed
refused_last mode fed held old number (Fault fault) known some bad =
    ap (first_fault mode 1) (lines_more mode fed held old number known some)
    ∙ bad_more mode (whole_lines fed) held number (fault_at fault) known.count known.good bad
refused_last mode fed held old number NoMemory known some bad = tt

pub refused_by : (mode : Mode) (fed : List ℕ) (e : ReadError) → EndedBy e mode fed → RefusedBy e mode fed
refused_by mode fed (Fault fault) ended = ended_fault-is_first mode fed (fault_at fault) ended
refused_by mode fed NoMemory ended = tt

-- ---- a reader

pub open_of : (mode : Mode) (fed : List ℕ) (reader : Reader) → HasRead mode fed reader → answered reader ≡ None
    → IsOpen mode fed reader.held.items reader.events.items reader.lines
open_of mode fed reader read none = subst (λ (e : Option ReadError). Stands e mode fed reader) none read.stands

pub ended_of : (mode : Mode) (fed : List ℕ) (reader : Reader) (e : ReadError) → HasRead mode fed reader
    → answered reader ≡ Some e → EndedBy e mode fed
ended_of mode fed reader e read some = subst (λ (r : Option ReadError). Stands r mode fed reader) some read.stands

pub has_open : (mode : Mode) (fed : List ℕ) (reader : Reader) → reader.mode ≡ mode → answered reader ≡ None
    → counted reader ≤ length fed → IsOpen mode fed reader.held.items reader.events.items reader.lines
    → HasRead mode fed reader
has_open mode fed reader same none fits known = record {
  mode_is = same;
  stands = subst (λ (e : Option ReadError). Stands e mode fed reader) (sym none) known;
  fits
      = fits;
}

pub has_ended : (mode : Mode) (fed : List ℕ) (reader : Reader) (e : ReadError) → reader.mode ≡ mode
    → answered reader ≡ Some e → counted reader ≤ length fed → EndedBy e mode fed → HasRead mode fed reader
has_ended mode fed reader e same some fits ended = record {
  mode_is = same;
  stands = subst (λ (r : Option ReadError). Stands r mode fed reader) (sym some) ended;
  fits
      = fits;
}

-- what is counted grows by no more than the bytes that are fed
pub fits_more : (fed more : List ℕ) (old new : ℕ) → old ≤ length fed → new ≤ old + length more
    → new ≤ length (fed ++ more)
fits_more fed more old new fits grown = omega (arith, length-append fed more)

-- a reader that has refused has read whatever follows
pub has_more : (mode : Mode) (fed more : List ℕ) (reader : Reader) (e : ReadError) → answered reader ≡ Some e
    → HasRead mode fed reader → HasRead mode (fed ++ more) reader
has_more mode fed more reader e some read =
    has_ended mode (fed ++ more) reader e read.mode_is some
    (fits_more fed more (counted reader) (counted reader) read.fits (omega arith))
    (ended_by-stays mode fed more e (ended_of mode fed reader e read some))
