use Rattle.std.proofs.Common.{◌≡◌, ◌<◌, ◌^◌, length, rules}
use Rattle.road_model.specs.Format.{graph_bytes}
use Rattle.graph_file.proofs.GraphFiles.{file_of}
use Rattle.graph_file.proofs.writer.GraphWriter.finish.Goals as goal

pub returns-clause-file : goal.returns-clause-file
returns-clause-file c = λ version profile blocks known bare has up own.
    let h = has.count in
    let l = c.args.self.long in
    let spelled : c.set_count.new.bytes.items ≡ graph_bytes version profile blocks = search rules in
    let count : length blocks < 2 ^ 64 = search rules in
    file_of version profile c.set_count.new.bytes.items blocks has.known_version known spelled count up has.forms
    has.fit own bare
