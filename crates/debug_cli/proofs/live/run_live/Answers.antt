use Rattle.std.proofs.Common.{Ok, refl}
use Rattle.mem_map.specs.Image.{byte_in}
use Rattle.debug_cli.{specs.Session.{start_with, Lives, Service, live_row}, proofs.ServedSession.{live_end, refused-answer, served-answer}}
use Rattle.debug_cli.proofs.live.run_live.Goals as goal

pub returns-in-Ok : goal.returns-in-Ok
returns-in-Ok g c = λ left.
    let found = c.in-Ok.values in
    let service : Service = Lives (start_with found.0 (byte_in found.1)) in
    let reads = c.in-Ok.ensures live_end in
    let served = c.serve_life.ensures in
    served-answer g.S.Shelf g.R.Source g.W.Sink c.args.shelf.now c.read.new.shelf left
    (record { source = c.args.source.now; sink = c.args.sink })
    (record { source = c.serve_life.new.source; sink = c.serve_life.result.1 })
    (live_row c.args.files.now.image.name.now c.args.files.now.key.name.now) service
    c.serve_life.result.0
    (reads.values.reaches (Ok service) (refl {a = Ok service})) reads.kept served.served
    served.source_faults served.sink_faults

pub returns-in-Err : goal.returns-in-Err
returns-in-Err g c = λ left.
    rw c.of_refusal.ensures
    (refused-answer g.S.Shelf g.R.Source g.W.Sink c.args.shelf.now c.read.new.shelf left
    (record { source = c.args.source.now; sink = c.args.sink })
    (live_row c.args.files.now.image.name.now c.args.files.now.key.name.now) _ c.in-Err.refusal
    (c.in-Err.ensures live_end))
