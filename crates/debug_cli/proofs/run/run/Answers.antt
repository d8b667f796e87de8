use Rattle.std.proofs.Common.{◌≡◌, Some, rules}
use Rattle.input_files.specs.CommandLine.{texts}
use Rattle.debug_cli.specs.Session.{live_row, session_row_of}
use Rattle.debug_cli.proofs.run.run.Goals as goal

pub returns-in-Some-live_files : goal.returns-in-Some-live_files
returns-in-Some-live_files g c =
    let files = c.in-Some-live_files.files in
    let row : session_row_of (texts c.args.arguments.now)
    ≡ Some (live_row files.image.name.now files.key.name.now) = search rules in
    rw row (c.run_live.ensures (g.I.Interrupts.left c.args.interrupts))
