use Rattle.std.proofs.Common.{◌≡◌, [], Some, arith}
use Rattle.opl_lexer.specs.Reading.{input_fault}
use Rattle.opl_objects.specs.StreamLines.{fault_at}
use Rattle.bounded_input.proofs.LinesBehind.{fault_few}
use Rattle.bounded_input.proofs.stream.read_lines.Goals as goal

-- the first fault of the bytes
first_is : (c : goal.In-Err-Fault)
    → input_fault c.args.mode c.args.bytes.now ≡ Some (fault_at c.in-Err-Fault.fault)
first_is c =
    let all = c.feed.ensures.read c.args.mode [] c.new-reader.ensures.read in
    rw c.in-Err-Fault.field-0-is at (c.in-Err-Fault.ensures.err c.args.mode c.args.bytes.now all)

pub behind-requires : goal.behind-requires
behind-requires c =
    omega (arith, fault_few c.args.mode c.args.bytes.now (fault_at c.in-Err-Fault.fault) (first_is c), c.requires)

pub returns-in-Ok-clause-ok : goal.returns-in-Ok-clause-ok
returns-in-Ok-clause-ok c =
    c.in-Ok.ensures.ok c.args.mode c.args.bytes.now (c.feed.ensures.read c.args.mode [] c.new-reader.ensures.read)

pub returns-in-Err-Fault-clause-err : goal.returns-in-Err-Fault-clause-err
returns-in-Err-Fault-clause-err c =
    let all = c.feed.ensures.read c.args.mode [] c.new-reader.ensures.read in (
      fault_at c.in-Err-Fault.fault,
      rw c.in-Err-Fault.field-0-is at (c.in-Err-Fault.ensures.err c.args.mode c.args.bytes.now all),
      c.behind.ensures,
    )
