-- The lines that are put, each with its newline.
use Rattle.std.specs.Prelude.{◌++◌, ℕ, List, [], ◌∷◌, codes}
use Rattle.std.specs.Fmt.{decimal}
use Rattle.opl_lexer.specs.Letters.{newline}
use Rattle.drive_queries.specs.declared.totals.Totals.{Totals}
use Rattle.reply_lines.specs.Texts.{counts_bytes}
use Rattle.road_io.specs.declared.outside.Which.{Which}
use Rattle.road_io.specs.declared.outside.Which.TheVariants.{A, B}

abbrev pub usage_line : List ℕ
usage_line =
    codes "usage: osmroad STORE create N|apply N|session|graph [MOMENT]|audit|checkpoint|raise, or osmroad - "
    ++ (codes "compile|compile 2|inspect|sample N" ++ newline ∷ [])

abbrev pub no_store_line : List ℕ
no_store_line = codes "no store" ++ newline ∷ []

abbrev pub store_exists_line : List ℕ
store_exists_line = codes "store exists" ++ newline ∷ []

abbrev pub created_line : ℕ → List ℕ
created_line n = codes "created " ++ (decimal n ++ newline ∷ [])

abbrev pub applied_line : ℕ → List ℕ
applied_line n = codes "applied " ++ (decimal n ++ newline ∷ [])

-- the kept number
abbrev pub checkpoint_line : ℕ → List ℕ
checkpoint_line n = codes "checkpoint " ++ (decimal n ++ newline ∷ [])

-- the kept number of a store that was raised
abbrev pub raise_line : ℕ → List ℕ
raise_line n = codes "profile 2 sequence " ++ (decimal n ++ newline ∷ [])

-- how large a graph is
abbrev pub counts_line : Totals → List ℕ
counts_line totals = counts_bytes totals ++ newline ∷ []

-- `sample Q ways W pieces P contexts C arcs A bytes LEN`, with its newline: how large the graph behind change Q is
abbrev pub sample_line : ℕ → Totals → ℕ → List ℕ
sample_line q totals bytes = codes "sample "
    ++ (decimal q ++ (codes " "
    ++ (counts_bytes totals ++ (codes " bytes " ++ (decimal bytes ++ newline ∷ [])))))

-- bytes that are no graph file
abbrev pub refused_graph_line : List ℕ
refused_graph_line = codes "refused graph" ++ newline ∷ []

-- the number that came, and the kept one
abbrev pub sequence_line : ℕ → ℕ → List ℕ
sequence_line n kept = codes "sequence " ++ (decimal n ++ (codes " kept " ++ (decimal kept ++ newline ∷ [])))

abbrev pub file_letter : Which → List ℕ
file_letter A = codes "a"
file_letter B = codes "b"

-- the file, and the place of the gate of its first part in fault
abbrev pub damaged_line : Which → ℕ → List ℕ
damaged_line file offset = codes "damaged " ++ (file_letter file ++ (codes " " ++ (decimal offset ++ newline ∷ [])))
