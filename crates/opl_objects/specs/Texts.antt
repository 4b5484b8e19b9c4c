-- The texts of faults, without a newline.
use Rattle.std.specs.Prelude.{◌++◌, ℕ, List, codes}
use Rattle.std.specs.Fmt.{decimal}
use Rattle.opl_lexer.specs.Reading.{FaultAt}
use Rattle.opl_lexer.specs.declared.fault.FaultKind.{FaultKind}
use Rattle.opl_lexer.specs.declared.fault.FaultKind.TheVariants.{NotUtf8, UnknownLine, UnknownField, Repeated}
use Rattle.opl_lexer.specs.declared.fault.FaultKind.TheVariants.{BadNumber, BadEscape, BadTag, BadMember, BadRef}
use Rattle.opl_lexer.specs.declared.fault.FaultKind.TheVariants.{BadCoordinate, BadFlag, NoVersion, TooMany}

abbrev pub kind_name : FaultKind → List ℕ
kind_name NotUtf8 = codes "NotUtf8"
kind_name UnknownLine = codes "UnknownLine"
kind_name UnknownField = codes "UnknownField"
kind_name Repeated = codes "Repeated"
kind_name BadNumber = codes "BadNumber"
kind_name BadEscape = codes "BadEscape"
kind_name BadTag = codes "BadTag"
kind_name BadMember = codes "BadMember"
kind_name BadRef = codes "BadRef"
kind_name BadCoordinate = codes "BadCoordinate"
kind_name BadFlag = codes "BadFlag"
kind_name NoVersion = codes "NoVersion"
kind_name TooMany = codes "TooMany"

-- `line L field F KIND`
abbrev pub fault_bytes : FaultAt → List ℕ
fault_bytes fault = codes "line "
    ++ (decimal fault.line ++ (codes " field " ++ (decimal fault.field ++ (codes " " ++ kind_name fault.kind))))
