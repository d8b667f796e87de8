-- The run that a debugger is given is that of its files.
use Rattle.std.proofs.{Common.{◌≡◌, ℕ, List, [], Option, refl, subst, arith}, lemmas.List.append-nil}
use Rattle.hmac_core.specs.Hash.{Hash}
use Rattle.mem_map.specs.{Image.{byte_in, image_byte}, declared.image.Image.Image}
use Rattle.play_script.specs.Script.{TimedEvent, events_of}
use Rattle.device_trace.specs.Start.{with_key}
use Rattle.outside_edge.specs.declared.{sink.Sink.Ghosts as SinkGhosts, source.Source.Ghosts as SourceGhosts}
use Rattle.source_server.{specs.{declared.served.Served.TheVariants.Own, Serving.Serves}, proofs.ServedPieces.none_served}
use Rattle.debug_link.{specs.declared.talk_end.TalkEnd.TheVariants.Memory, proofs.Interrupts.{may-come, none-came}}
use Rattle.debug_session.specs.Place.{Run}
use Rattle.debug_walk.specs.{Copies.played_run, Walk.second_flag, declared.run.Run.Run as GivenRun}
use Rattle.device_debug.specs.{Session.StandsInRun, declared.run_debugger.RunDebugger.RunDebugger}
use Rattle.debug_cli.specs.Session.{first_of, debug_promise}
use Rattle.source_server.specs.declared.halt.Halt.TheVariants as halt
use Rattle.debug_cli.proofs.debug.serve_run.Goals as goal

-- the run of these files, by any digest
abbrev files_run : {D : Type 0} → Hash D → List ℕ → Image → List TimedEvent → Run
files_run hash key image script =
    record {
      start = with_key second_flag.value hash.digest_of key (image_byte (byte_in image));
      events_at = events_of script;
    }

played-files : {D : Type 0} (hash : Hash D) (run : GivenRun) (key : List ℕ) (image : Image)
    (script : List TimedEvent)
    → run.key.now ≡ key → run.image.now ≡ image → run.script.now ≡ script
    → played_run hash run ≡ files_run hash key image script
played-files hash run key image script key_is image_is script_is =
    rw (← key_is, ← image_is, ← script_is) refl

-- a debugger of this run stands where its first session does
stands-first : {D I : Type 0} (hash : Hash D) (debugger : RunDebugger D I) (run : GivenRun)
    (key : List ℕ) (image : Image) (script : List TimedEvent)
    → run.key.now ≡ key → run.image.now ≡ image → run.script.now ≡ script
    → StandsInRun hash debugger (first_of (played_run hash run))
    → StandsInRun hash debugger (first_of (files_run hash key image script))
stands-first hash debugger run key image script key_is image_is script_is stands =
    subst (λ (one : Run). StandsInRun hash debugger (first_of one))
    (played-files hash run key image script key_is image_is script_is) stands

-- nothing was taken and put: there was no memory for a debugger
none-served : {R W : Type 0} (r : SourceGhosts R) (w : SinkGhosts W) (run : Run)
    (left : Option ℕ) (source : R) (sink : W)
    → Serves r (debug_promise w run left sink) source source sink (Own Memory)
none-served r w run left source sink =
    none_served r (debug_promise w run left sink) source sink (halt.Own Memory) (
      [],
      refl,
      may-come 0 left left (none-came left),
      (0, omega arith, λ before holds. rw (append-nil before) holds),
    )

pub returns-in_default-clause-served : goal.returns-in_default-clause-served
returns-in_default-clause-served g c =
    record {
      ended = Own Memory;
      answer = refl;
      serves = none-served g.R.Source g.W.Sink _ _ c.args.source.now c.args.sink;
    }

pub returns-clause-served : goal.returns-clause-served
returns-clause-served g c =
    let stands =
    stands-first _ c.in-Ok.debugger c.new-run.result c.args.key.now c.args.image.now
    c.args.script.now
    c.new-run.ensures.key c.new-run.ensures.image c.new-run.ensures.script
    c.in-Ok.ensures.1 in
    record {
      ended = c.serve-served.result;
      answer = c.served_status.ensures;
      serves =
          rw c.into_sink.ensures
          (rw (c.new-packets.ensures, c.in-Ok.ensures.0) at (c.serve-served.ensures.serves _ stands
          (rw c.new-packets.ensures refl)));
    }
