use Rattle.std.specs.Str.Lines.{lines}
use Rattle.device_cli.specs.Command.{row_of}
use Rattle.device_library.{specs.Call.files_named, proofs.CallEnd.memory-call}
use Rattle.device_library.proofs.call.call.Goals as goal

pub returns-in-Err-given_files-clause-call : goal.returns-in-Err-given_files-clause-call
returns-in-Err-given_files-clause-call c = λ utf8.
    memory-call (files_named c.args.image.now c.args.script.now c.args.key.now c.args.other.now)
    (row_of (lines c.args.words.now)) c.show_line.new.piece c.show_line.new.count
    c.show_line.result c.show_line.ensures.same
