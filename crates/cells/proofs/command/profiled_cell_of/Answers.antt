use Rattle.std.proofs.Common.{ℕ, List, Bor, map, arith}
use Rattle.std.proofs.lemmas.List.{length-map}
use Rattle.cells.proofs.OtherWords.{no_profiled_cell}
use Rattle.cells.proofs.command.profiled_cell_of.Goals as goal

abbrev text : Bor (List ℕ) → List ℕ
text w = w.now

pub returns-in-len1 : goal.returns-in-len1
returns-in-len1 c =
    let long = length-map c.args.words.now text in
    let few = c.in-len1.len_below in
    no_profiled_cell (map text c.args.words.now) (λ e. omega arith) (λ e. omega arith)

pub returns-in_default : goal.returns-in_default
returns-in_default c =
    let long = length-map c.args.words.now text in
    let many = c.in_default.len_at_least in
    no_profiled_cell (map text c.args.words.now) (λ e. omega arith) (λ e. omega arith)
