use Rattle.std.proofs.Common.{length, refl}
use Rattle.std.proofs.lemmas.Option.{slice_get_read}
use Rattle.std.proofs.lemmas.Result.{on_ok_weaker}
use Rattle.turn_automata.proofs.turns.mark.Goals as goal

pub returns-then-word : goal.returns-then-word
returns-then-word c =
    let W = c.args.words.now in
    let at = slice_get_read W (length W) c.args.visit.word c.index-words-visit.result refl c.requires.within
    c.index-words-visit.is in
    on_ok_weaker c.mark_only.result (λ h vs old. h W vs at old) c.mark_only.ensures

pub returns-else-word : goal.returns-else-word
returns-else-word c =
    let W = c.args.words.now in
    let at = slice_get_read W (length W) c.args.visit.word c.index-words-visit.result refl c.requires.within
    c.index-words-visit.is in
    on_ok_weaker c.mark_no.result (λ h vs old. h W vs at old) c.mark_no.ensures
