use Rattle.std.proofs.Common.{◌∙◌, ap, sym}
use Rattle.context_search.specs.Marks.{at_of, names_behind}
use Rattle.context_search.proofs.following.target.Goals as goal

pub unreachable-requires : goal.unreachable-requires
unreachable-requires c =
    let x = at_of c.args.from.now in
    let names = c.deref.ensures.value ∙ c.in_ok-put_names.ensures
    ∙ ap (names_behind x) c.saturating_sub-count.ensures in
    let t = c.requires.targets x c.args.arc c.requires.listed c.requires.has in
    c.in-None.ensures.none t.0 t.1 (t.2 ∙ ap (λ ns. (c.args.arc.piece, ns)) (sym names))

pub returns-clause-named : goal.returns-clause-named
returns-clause-named c =
    let x = at_of c.args.from.now in
    let names = c.deref.ensures.value ∙ c.in_ok-put_names.ensures
    ∙ ap (names_behind x) c.saturating_sub-count.ensures in
    c.in-Some.ensures.named ∙ ap (λ ns. (c.args.arc.piece, ns)) names
