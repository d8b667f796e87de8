use Rattle.std.proofs.Common.{Ok, refl}
use Rattle.mem_map.specs.Image.{byte_in}
use Rattle.debug_cli.{specs.Session.{run_with, Debugs, Service, debug_row}, proofs.ServedSession.{debug_end, refused-answer, served-answer}}
use Rattle.debug_cli.proofs.debug.run_debug.Goals as goal

pub returns-in-Ok : goal.returns-in-Ok
returns-in-Ok g c =
    let found = c.in-Ok.values in
    let service : Service = Debugs (run_with found.0 (byte_in found.1.0) found.1.1) in
    let reads = c.in-Ok.ensures debug_end in
    let served = c.serve_run.ensures in
    served-answer g.S.Shelf g.R.Source g.W.Sink c.args.shelf.now c.read.new.shelf _
    (record { source = c.args.source.now; sink = c.args.sink })
    (record { source = c.serve_run.new.source; sink = c.serve_run.result.1 })
    (debug_row c.args.files.now.image.name.now c.args.files.now.script.name.now
    c.args.files.now.key.name.now) service
    c.serve_run.result.0
    (reads.values.reaches (Ok service) (refl {a = Ok service})) reads.kept served.served
    served.source_faults served.sink_faults

pub returns-in-Err : goal.returns-in-Err
returns-in-Err g c =
    rw c.of_refusal.ensures
    (refused-answer g.S.Shelf g.R.Source g.W.Sink c.args.shelf.now c.read.new.shelf _
    (record { source = c.args.source.now; sink = c.args.sink })
    (debug_row c.args.files.now.image.name.now c.args.files.now.script.name.now
    c.args.files.now.key.name.now) _ c.in-Err.refusal
    (c.in-Err.ensures debug_end))
