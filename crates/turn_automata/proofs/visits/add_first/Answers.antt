use Rattle.std.proofs.Common.{◌≡◌, ◌<◌, length, Some, slice_get, refl, sym, ap, ◌∙◌, subst, arith}
use Rattle.std.proofs.lemmas.Option.{slice_get_read}
use Rattle.restrictions.specs.declared.word_list.Word.{Word}
use Rattle.turn_automata.proofs.WordVisits.{first_more}
use Rattle.turn_automata.proofs.visits.add_first.Goals as goal

pub returns : goal.returns
returns c =
    let W = c.args.words.now in
    let w = c.index-words-word.result in
    let at : slice_get W c.args.word ≡ Some w = slice_get_read W (length W) c.args.word w refl c.requires.within
    c.index-words-word.is in
    let same : c.items.result.now ≡ w.steps = c.items.ensures
    ∙ ap (λ (z : Word). z.steps) (sym c.index-words-word.is) in
    let some : 0 < length c.items.result.now = grind (arith, c.is_empty.ensures, c.if-is_empty.false) in
    first_more W c.args.visits.now.items c.push.new.self.items c.args.word w c.requires.before at
    (subst (λ xs. 0 < length xs) same some) c.in_ok-push.ensures.items
