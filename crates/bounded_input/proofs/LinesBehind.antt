-- Lines behind other lines: their faults and their events.
use Rattle.std.specs.Prelude.{◌≡◌, ◌==◌, ◌<◌, ◌≤◌, ◌+◌, ◌-◌, ◌++◌, ℕ, List, [], ◌∷◌, Bool, true, false, length, map}
use Rattle.std.specs.Prelude.{Option, Some, None, count_by, refl}
use Rattle.std.specs.List.{AllZip, filter, onto_first}
use Rattle.std.specs.Option.{option_map, option_or}
use Rattle.std.proofs.Common.{arith, sym, ◌∙◌, ap, subst, append_assoc, append-nil}
use Rattle.std.proofs.lemmas.List.{length-append, length-take-le, map-append}
use Rattle.std.proofs.lemmas.List.Elements.{All-nil, filter-append}
use Rattle.std.proofs.lemmas.List.Splits.{slice_split-cons_yes, slice_split-cons_no, length-slice_split}
use Rattle.std.proofs.lemmas.List.Sums.{count_by-le-length}
use Rattle.road_base.specs.declared.event.Event.{Event}
use Rattle.opl_lexer.specs.declared.fault.FaultKind.{FaultKind}
use Rattle.opl_lexer.specs.declared.mode.Mode.{Mode}
use Rattle.opl_lexer.specs.Parts.{parts}
use Rattle.opl_lexer.specs.Lines.{lines, whole_lines, ended, without_return}
use Rattle.opl_lexer.specs.Faults.{line_fault}
use Rattle.opl_lexer.specs.Spelling.{Spells}
use Rattle.opl_lexer.specs.Reading.{FaultAt, ReadAll, at_line, first_fault, ended_fault, input_fault, object_lines}
use Rattle.opl_lexer.specs.Reading.{is_taken}
use Rattle.opl_objects.specs.Feeding.{IsOpen}
use Rattle.opl_objects.proofs.StreamParts.{parts_some, parts_append, parts_alone, last_part, whole_lines_are}
use Rattle.opl_objects.proofs.StreamFaults.{first_fault-append, lines_last, ended_none}
use Rattle.bounded_input.specs.StreamFaults.{behind_lines}

abbrev is_end : ℕ → Bool
is_end b = b == 10

-- ---- faults

-- lines that are counted from further on
first_fault-shift : (mode : Mode) (n k : ℕ) (ls : List (List ℕ))
    → first_fault mode (n + k) ls ≡ option_map (behind_lines n) (first_fault mode k ls)
unfolding first_fault
first_fault-shift mode n k [] = refl
first_fault-shift mode n k (line ∷ ls) =
    let number : n + k + 1 ≡ n + (k + 1) = omega arith in
    let more = ap (λ m. first_fault mode m ls) number ∙ first_fault-shift mode n (k + 1) ls in
    by_fault (line_fault mode (without_return line)) more
  where
    by_fault : (f : Option (ℕ × FaultKind))
        → first_fault mode (n + k + 1) ls ≡ option_map (behind_lines n) (first_fault mode (k + 1) ls)
        → option_or (at_line (n + k) f) (first_fault mode (n + k + 1) ls)
        ≡ option_map (behind_lines n) (option_or (at_line k f) (first_fault mode (k + 1) ls))
    by_fault None more = more
    by_fault (Some f) more = refl

-- behind good lines the others decide
behind_good : (mode : Mode) (xs ys : List (List ℕ)) → first_fault mode 1 xs ≡ None
    → first_fault mode 1 (xs ++ ys) ≡ option_map (behind_lines (length xs)) (first_fault mode 1 ys)
behind_good mode xs ys good =
    let number : 1 + length xs ≡ length xs + 1 = omega arith in
    first_fault-append mode 1 xs ys
    ∙ (ap (λ f. option_or f (first_fault mode (1 + length xs) ys)) good
    ∙ (ap (λ n. first_fault mode n ys) number ∙ first_fault-shift mode (length xs) 1 ys))

-- a fault stands at one of the lines
fault_line : (mode : Mode) (k : ℕ) (ls : List (List ℕ)) (first : FaultAt) → first_fault mode k ls ≡ Some first
    → first.line < k + length ls
unfolding first_fault
fault_line mode k [] first e = cc
fault_line mode k (line ∷ ls) first e =
    by_fault (line_fault mode (without_return line)) e
    (λ later. let below = fault_line mode (k + 1) ls first later in omega arith)
  where
    by_fault : (f : Option (ℕ × FaultKind))
        → option_or (at_line k f) (first_fault mode (k + 1) ls) ≡ Some first
        → (first_fault mode (k + 1) ls ≡ Some first → first.line < k + length (line ∷ ls))
        → first.line < k + length (line ∷ ls)
    by_fault None e more = more e
    by_fault (Some f) e more =
        let here : k ≡ first.line = ap (λ (o : Option FaultAt). line_of o) e in omega arith
      where
        line_of : Option FaultAt → ℕ
        line_of None = 0
        line_of (Some fault) = fault.line

-- ---- how many lines there are

pub whole_count : (bs : List ℕ) → length (whole_lines bs) ≡ count_by is_end bs
whole_count bs =
    let all = length-slice_split is_end bs in
    omega (arith, length-take-le (length (parts 10 bs) - 1) (parts 10 bs) (omega (arith, all)))

pub whole_few : (bs : List ℕ) → length (whole_lines bs) ≤ length bs
whole_few bs = omega (arith, whole_count bs, count_by-le-length is_end bs)

last_one : (last : List ℕ) → length (ended (last ∷ [])) ≤ 1
unfolding ended
last_one [] = omega arith
last_one (b ∷ bs) = omega arith

few_lines : (bs : List ℕ) → length (lines bs) ≤ length bs + 1
few_lines bs =
    let last = last_part bs in
    omega (
      arith,
      ap (λ ls. length ls) (lines_last bs last.0 last.1),
      length-append (whole_lines bs) (ended (last.0 ∷ [])),
      last_one last.0,
      whole_few bs,
    )

pub fault_few : (mode : Mode) (bs : List ℕ) (first : FaultAt) → input_fault mode bs ≡ Some first
    → first.line ≤ length bs + 1
fault_few mode bs first e = omega (arith, fault_line mode 1 (lines bs) first e, few_lines bs)

-- ---- bytes that end with a newline

parts_closed : (front : List ℕ) → parts 10 (front ++ 10 ∷ []) ≡ parts 10 front ++ ([] ∷ [])
parts_closed [] = slice_split-cons_yes is_end 10 [] refl
parts_closed (b ∷ bs) =
    let more = parts_closed bs in
    elim (is_end b) as (λ r. is_end b ≡ r → parts 10 (b ∷ (bs ++ 10 ∷ [])) ≡ parts 10 (b ∷ bs) ++ ([] ∷ [])) [
      | true ↦ λ e. slice_split-cons_yes is_end b (bs ++ 10 ∷ []) e
          ∙ (ap (λ ps. [] ∷ ps) more ∙ ap (λ ps. ps ++ ([] ∷ [])) (sym (slice_split-cons_yes is_end b bs e)))
      | false ↦ λ e. slice_split-cons_no is_end b (bs ++ 10 ∷ []) e
          ∙ (ap (onto_first b) more ∙ (sym (onto_front (parts 10 bs) (parts_some bs))
          ∙ ap (λ ps. ps ++ ([] ∷ [])) (sym (slice_split-cons_no is_end b bs e))))
    ] refl
  where
    onto_front : (ps : List (List ℕ)) → 0 < length ps
        → onto_first b ps ++ ([] ∷ []) ≡ onto_first b (ps ++ ([] ∷ []))
    onto_front [] some = absurd (omega arith)
    onto_front (p ∷ ps) some = refl

-- their lines are whole
closed : (bytes front : List ℕ) → bytes ≡ front ++ 10 ∷ [] → parts 10 bytes ≡ whole_lines bytes ++ ([] ∷ [])
closed bytes front e =
    let split = ap (parts 10) e ∙ parts_closed front in
    split ∙ ap (λ ls. ls ++ ([] ∷ [])) (sym (whole_lines_are bytes [] (parts 10 front) split))

all_whole : (bytes : List ℕ) → parts 10 bytes ≡ whole_lines bytes ++ ([] ∷ []) → lines bytes ≡ whole_lines bytes
all_whole bytes split = lines_last bytes [] split
    ∙ (ap (λ ls. whole_lines bytes ++ ls) ended_none ∙ append-nil (whole_lines bytes))

-- ---- events

AllZip-append : (mode : Mode) (xs ys : List (List ℕ)) (es ds : List Event) → AllZip (Spells mode) xs es
    → AllZip (Spells mode) ys ds → AllZip (Spells mode) (xs ++ ys) (es ++ ds)
AllZip-append mode [] ys [] ds p q = q
AllZip-append mode [] ys (e ∷ es) ds p q = absurd p
AllZip-append mode (x ∷ xs) ys [] ds p q = absurd p
AllZip-append mode (x ∷ xs) ys (e ∷ es) ds p q = (p.0, AllZip-append mode xs ys es ds p.1 q)

object_lines-append : (xs ys : List (List ℕ)) → object_lines (xs ++ ys) ≡ object_lines xs ++ object_lines ys
object_lines-append xs ys = ap (filter is_taken) (map-append without_return xs ys)
    ∙ filter-append is_taken (map without_return xs) (map without_return ys)

said_behind : (mode : Mode) (all xs ys : List (List ℕ)) (events more : List Event) → all ≡ xs ++ ys
    → AllZip (Spells mode) (object_lines xs) events → AllZip (Spells mode) (object_lines ys) more
    → AllZip (Spells mode) (object_lines all) (events ++ more)
said_behind mode all xs ys events more e p q =
    subst (λ (ls : List (List ℕ)). AllZip (Spells mode) ls (events ++ more))
    (sym (ap object_lines e ∙ object_lines-append xs ys))
    (AllZip-append mode (object_lines xs) (object_lines ys) events more p q)

-- ---- whole lines are read on

module _ (mode : Mode) (read held : List ℕ) (events : List Event) (n : ℕ) where
  module _ (more_bytes front : List ℕ) (known : IsOpen mode read held events n) (ends : more_bytes ≡ front ++ 10 ∷ [])
    where
      closed_lines : parts 10 (held ++ more_bytes) ≡ whole_lines (held ++ more_bytes) ++ ([] ∷ [])
      closed_lines = closed (held ++ more_bytes) (held ++ front)
          (ap (λ l. held ++ l) ends ∙ sym (append_assoc held front (10 ∷ [])))

      both : parts 10 (read ++ more_bytes) ≡ (whole_lines read ++ whole_lines (held ++ more_bytes)) ++ ([] ∷ [])
      both = parts_append read more_bytes held (whole_lines read) known.split
          ∙ (ap (λ ps. whole_lines read ++ ps) closed_lines
          ∙ sym (append_assoc (whole_lines read) (whole_lines (held ++ more_bytes)) ([] ∷ [])))

      all_lines : whole_lines (read ++ more_bytes) ≡ whole_lines read ++ whole_lines (held ++ more_bytes)
      all_lines = whole_lines_are (read ++ more_bytes) [] (whole_lines read ++ whole_lines (held ++ more_bytes)) both

      fault_behind : ended_fault mode (read ++ more_bytes)
          ≡ option_map (behind_lines n) (input_fault mode (held ++ more_bytes))
      fault_behind = ap (first_fault mode 1) all_lines
          ∙ (behind_good mode (whole_lines read) (whole_lines (held ++ more_bytes)) known.good
          ∙ (ap (λ m. option_map (behind_lines m) (first_fault mode 1 (whole_lines (held ++ more_bytes))))
          (sym known.count)
          ∙ ap (λ ls. option_map (behind_lines n) (first_fault mode 1 ls))
          (sym (all_whole (held ++ more_bytes) closed_lines))))

      pub closed_fault : (first : FaultAt) → input_fault mode (held ++ more_bytes) ≡ Some first
          → ended_fault mode (read ++ more_bytes) ≡ Some (behind_lines n first)
      closed_fault first e = fault_behind ∙ ap (option_map (behind_lines n)) e

      pub closed_events : (more : List Event) → ReadAll mode (held ++ more_bytes) more
          → IsOpen mode (read ++ more_bytes) [] (events ++ more) (n + length (whole_lines (held ++ more_bytes)))
      closed_events more all = record {
        split = both ∙ ap (λ ls. ls ++ ([] ∷ [])) (sym all_lines);
        open_line = All-nil (λ b. (b == 10) ≡ false);
        count = omega (
          arith,
          known.count,
          ap (λ ls. length ls) all_lines,
          length-append (whole_lines read) (whole_lines (held ++ more_bytes)),
        );
        good = fault_behind ∙ ap (option_map (behind_lines n)) all.good;
        said = said_behind mode (whole_lines (read ++ more_bytes)) (whole_lines read) (whole_lines (held ++ more_bytes))
            events more all_lines known.said
            (subst (λ (ls : List (List ℕ)). AllZip (Spells mode) (object_lines ls) more)
            (all_whole (held ++ more_bytes) closed_lines) all.each);
      }

  -- ---- the end

  module _ (known : IsOpen mode read held events n) where
    last_lines : lines read ≡ whole_lines read ++ lines held
    last_lines = lines_last read held known.split
        ∙ ap (λ ps. whole_lines read ++ ended ps) (sym (parts_alone held known.open_line))

    last_behind : input_fault mode read ≡ option_map (behind_lines n) (input_fault mode held)
    last_behind = ap (first_fault mode 1) last_lines
        ∙ (behind_good mode (whole_lines read) (lines held) known.good
        ∙ ap (λ m. option_map (behind_lines m) (first_fault mode 1 (lines held))) (sym known.count))

    pub last_fault : (first : FaultAt) → input_fault mode held ≡ Some first
        → input_fault mode read ≡ Some (behind_lines n first)
    last_fault first e = last_behind ∙ ap (option_map (behind_lines n)) e

    pub last_events : (more : List Event) → ReadAll mode held more → ReadAll mode read (events ++ more)
    last_events more all = record {
      good = last_behind ∙ ap (option_map (behind_lines n)) all.good;
      each = said_behind mode (lines read) (whole_lines read) (lines held) events more last_lines known.said all.each;
    }
