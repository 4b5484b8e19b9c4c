-- Lines that are read field by field.
use Rattle.std.specs.Prelude.{ℕ, List}
use Rattle.opl_lexer.specs.Fields.{fields}
use Rattle.opl_lexer.specs.declared.field_iter.FieldIter.{FieldIter}

-- the fields that are still to come
abbrev pub fields_left : FieldIter → List (List ℕ)
fields_left iter = fields iter.rest.now
