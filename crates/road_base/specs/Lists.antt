-- The items of a list, however they are held.
use Rattle.std.specs.Prelude.{List, [], Option, None, Some, Box, Vec}
use Rattle.std.specs.declared.alloc.Global.{Global}

abbrev pub boxed_items : {T : Type 0} → Option (Box (Vec T Global) Global) → List T
boxed_items None = []
boxed_items (Some list) = list.value.items
