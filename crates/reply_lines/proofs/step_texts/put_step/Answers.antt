use Rattle.std.proofs.Common.{◌≡◌, [], drop, arith, rules, refl}
use Rattle.std.specs.Int.{w64}
use Rattle.std.proofs.lemmas.List.{drop_all}
use Rattle.reply_lines.proofs.step_texts.put_step.Goals as goal

pub returns-clause-written : goal.returns-clause-written
returns-clause-written c =
    let end : drop 48 c.args.room.now ≡ [] = drop_all 48 c.args.room.now (omega arith) in
    let way : mir.Val.to_z w64 (mir.Val.of_z w64 c.args.step.way.0) ≡ c.args.step.way.0 = search rules in
    rw (
      c.put_byte.ensures.written,
      c.put_signed-start.ensures.written,
      c.put_byte-start-2.ensures.written,
      c.put_decimal-start.ensures.written,
      c.put_byte-start.ensures.written,
      end,
      c.dir_sign.ensures,
      way,
      c.from.ensures,
    )
    refl
