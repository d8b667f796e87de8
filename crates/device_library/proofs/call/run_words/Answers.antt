use Rattle.std.proofs.Common.{rules}
use Rattle.outside_edge.specs.File.{named_files}
use Rattle.input_files.specs.CommandLine.{texts}
use Rattle.device_cli.specs.Command.{row_of}
use Rattle.device_library.proofs.CallEnd.{told-call}
use Rattle.device_library.proofs.call.run_words.Goals as goal

pub returns : goal.returns
returns c =
    record {
      call = told-call (named_files c.args.files.items) c.as_bytes.result.now c.new-shelf.result
          c.run-status.new.shelf c.new-text.result c.run-status.new.sink
          (row_of (texts c.args.words.now)) c.run-status.result c.tell.result c.tell.new.piece
          c.tell.new.count (search rules) (search rules) (search rules) c.run-status.ensures.run
          c.tell.ensures.told;
      fits = c.tell.ensures.fits;
    }
