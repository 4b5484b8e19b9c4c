-- Facts of what an option has.
use Rattle.std.proofs.Common.{Option, Some, None, IfSome, IfNone}

pub if_some : {X : Type 0} (o : Option X) (A B : X → Type 0) → ((x : X) → A x → B x) → IfSome o A → IfSome o B
if_some None A B f h = h
if_some (Some x) A B f h = f x h

pub if_none : {X : Type 0} (o : Option X) (A B : Type 0) → (A → B) → IfNone o A → IfNone o B
if_none None A B f h = f h
if_none (Some x) A B f h = h
