use Rattle.std.proofs.Common.{◌≡◌, List, ℕ, length, inr, sym, ap, ◌∙◌, le_refl}
use Rattle.std.proofs.lemmas.List.{take_all}
use Rattle.road_io.specs.Outside.{Outside, extended}
use Rattle.road_io.proofs.ToldCalls.{told_weaker}
use Rattle.last_words.specs.Puts.{PutsSome}
use Rattle.last_words.proofs.words.put_last.Goals as goal

-- all of a chunk is a front of it
puts_all : (chunk : List ℕ) (w v : Outside) → v ≡ extended chunk w → PutsSome chunk w v
puts_all chunk w v is = inr (
  length chunk,
  is ∙ ap (λ (l : List ℕ). extended l w)
      (sym (take_all (length chunk) chunk (le_refl (length chunk)))),
)

pub returns-in-Ok-clause-files : goal.returns-in-Ok-clause-files
returns-in-Ok-clause-files g c =
    let chunk = c.args.chunk.now in
    told_weaker (g.W.Site.outside c.args.site.now) (g.W.Site.outside c.put.new.self) (λ w v. v ≡ extended chunk w)
    (PutsSome chunk) c.in-Ok.ensures.told (puts_all chunk)
