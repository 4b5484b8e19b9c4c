use Rattle.std.proofs.Common.{inl, inr, Result, Ok, Err, OnOk}
use Rattle.change_apply.proofs.SourcedArcs.{same_arcs_but}
use Rattle.change_apply.proofs.sources.add_either.Goals as goal

on_both : {T E : Type 0} {A B C : Type 0} (r : Result T E) → OnOk r A → OnOk r B → (A → B → C) → OnOk r C
on_both (Ok x) a b f = f a b
on_both (Err e) a b f = tt

on_one : {T E : Type 0} {A B : Type 0} (r : Result T E) → OnOk r A → (A → B) → OnOk r B
on_one (Ok x) a f = f a
on_one (Err e) a f = tt

pub returns-clause-only : goal.returns-clause-only
returns-clause-only c =
    on_one c.add_pieces-2.result c.add_pieces-2.ensures.only (λ only w has. elim (only w has) [
      | inl first ↦ elim (c.in_ok-add_pieces.ensures.only w first)
          [ inl old ↦ inl old | inr was ↦ inr (inl was) ]
      | inr now ↦ inr (inr now)
    ])

pub returns-clause-alike : goal.returns-clause-alike
returns-clause-alike c =
    on_both c.add_pieces-2.result c.add_pieces-2.ensures.keeps c.add_pieces-2.ensures.led (λ keeps led.
    same_arcs_but c.args.was.now c.args.is.now c.add_pieces.new.led.items c.add_pieces-2.new.led.items keeps
    c.in_ok-add_pieces.ensures.led led)
