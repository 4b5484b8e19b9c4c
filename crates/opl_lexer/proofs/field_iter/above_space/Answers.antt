use Rattle.std.proofs.Common.{leb, w8, take, arith}
use Rattle.std.proofs.lemmas.Bool.Decides.{nat_tests}
use Rattle.std.proofs.lemmas.List.{length-take-le}
use Rattle.std.proofs.lemmas.Simd.{bitmask_splat}
use Rattle.opl_lexer.proofs.LowBytes.{all_above, first_within, above_first}
use Rattle.opl_lexer.proofs.field_iter.above_space.Goals as goal

pub returns-then-low-eq0-clause-above : goal.returns-then-low-eq0-clause-above
returns-then-low-eq0-clause-above c =
    let bytes = c.args.bytes.now in
    let bits = bitmask_splat w8 leb (take 16 bytes) 16 32 (length-take-le 16 bytes c.requires) (omega arith) in
    all_above bytes _ (record { room = c.requires; bits = bits }) c.if-low-eq0.true

pub returns-clause-bound : goal.returns-clause-bound
returns-clause-bound c =
    let bytes = c.args.bytes.now in
    let bits = bitmask_splat w8 leb (take 16 bytes) 16 32 (length-take-le 16 bytes c.requires) (omega arith) in
    first_within bytes _ (record { room = c.requires; bits = bits })
    (let some = c.if-low-eq0.false in grind (arith, nat_tests))

pub returns-clause-above : goal.returns-clause-above
returns-clause-above c =
    let bytes = c.args.bytes.now in
    let bits = bitmask_splat w8 leb (take 16 bytes) 16 32 (length-take-le 16 bytes c.requires) (omega arith) in
    above_first bytes _ (record { room = c.requires; bits = bits })
    (let some = c.if-low-eq0.false in grind (arith, nat_tests))
