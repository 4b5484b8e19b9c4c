-- Lines that are put, each with its newline.
use Rattle.std.specs.Prelude.{◌++◌, ℕ, List, [], ◌∷◌, codes}
use Rattle.std.specs.Fmt.{decimal}
use Rattle.opl_lexer.specs.Letters.{newline}
use Rattle.opl_lexer.specs.Reading.{FaultAt}
use Rattle.opl_objects.specs.Texts.{kind_name}

abbrev pub limit_line : List ℕ
limit_line = codes "limit" ++ newline ∷ []

-- `refused line L field F KIND`, with its newline
abbrev pub refused_line : FaultAt → List ℕ
refused_line fault = codes "refused line "
    ++ (decimal fault.line ++ (codes " field "
    ++ (decimal fault.field ++ (codes " " ++ (kind_name fault.kind ++ newline ∷ [])))))
