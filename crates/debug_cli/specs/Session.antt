-- The commands that serve a source: `debug`, whose packets drive a device through a run, and
-- `live`, whose lines say what happens to a device.
use Rattle.std.specs.Prelude.{◌≡◌, ◌<◌, ◌≤◌, ◌⊎◌, ◌↔◌, ℕ, List, [], ◌∷◌, bytes_eq, codes, length, Option, Some, None, IfSome, Ok, if◌then◌else◌}
use Rattle.device_trace.specs.Start.{Start, with_key}
use Rattle.outside_edge.specs.{Calls.Rose, Shelf.KeepsFiles, declared.{shelf.Shelf.Ghosts as ShelfGhosts, sink.Sink.Ghosts as SinkGhosts, source.Source.Ghosts as SourceGhosts}}
use Rattle.source_server.specs.{declared.served.Served.Served, Serving.{Ports, Serves}, Responder.Promise, Taken.{KeepsLimit, most_input}}
use Rattle.debug_link.specs.{Serving.talk_promise, declared.talk_end.TalkEnd.TalkEnd}
use Rattle.debug_session.specs.{Place.Run, Session.first_session}
use Rattle.device_debug.specs.Session.{run_reply, RunSession}
use Rattle.device_live.specs.Conversation.{life_promise}
use Rattle.input_files.specs.{declared.status.Status.{Status, TheVariants.{Done, Words, Memory, Spent}}, FileKind.{image_kind, key_kind, script_kind}, Reading.{IsUnread, Reaches, first_refusal}, Row.{RowOf, Ends, read_file}}
use Rattle.debug_cli.specs.Status.{status_of_life, status_of_talk}
use Rattle.device_types.specs.Address.{Bytes}
use Rattle.part_definitions.specs.TrustedFlag.{aux}
use Rattle.mem_map.specs.Image.{image_byte}
use Rattle.play_script.specs.Script.{TimedEvent, events_of}
use Rattle.sha2.specs.Sha256.{sha256}

-- What the files of a command give: a device at power-on, or a run of it for a debugger.

-- what `play` powers a device on with, of a key and an image
abbrev pub start_with : Bytes → (ℕ → Option ℕ) → Start
start_with key image = with_key aux sha256 key (image_byte image)

-- the run of `play` with the same files
abbrev pub run_with : Bytes → (ℕ → Option ℕ) → List TimedEvent → Run
run_with key image script =
    record { start = start_with key image; events_at = events_of script }

-- before the first packet of a run
abbrev pub first_of : Run → RunSession
first_of run = record { run = run; session = first_session }

-- what serves a source: a debugger of a run, or a device at power-on
pub data Service : Type 0 where
  Debugs : Run → Service
  Lives : Start → Service

-- the rows that read the files of a command in their order
abbrev pub debug_row : List ℕ → List ℕ → List ℕ → RowOf Service
debug_row image script key =
    read_file key_kind key (λ key.
    read_file image_kind image (λ image.
    read_file script_kind script (λ script. Ends (Ok (Debugs (run_with key image script))))))

abbrev pub live_row : List ℕ → List ℕ → RowOf Service
live_row image key =
    read_file key_kind key (λ key.
    read_file image_kind image (λ image. Ends (Ok (Lives (start_with key image)))))

-- `debug IMAGE SCRIPT KEY`
abbrev pub debug_row_of : List (List ℕ) → Option (RowOf Service)
debug_row_of (command ∷ image ∷ script ∷ key ∷ []) =
    if bytes_eq command (codes "debug") then Some (debug_row image script key) else None
debug_row_of arguments = None

-- `live IMAGE KEY`
abbrev pub live_row_of : List (List ℕ) → Option (RowOf Service)
live_row_of (command ∷ image ∷ key ∷ []) =
    if bytes_eq command (codes "live") then Some (live_row image key) else None
live_row_of arguments = None

abbrev pub or_row : Option (RowOf Service) → Option (RowOf Service) → Option (RowOf Service)
or_row None other = other
or_row (Some row) other = Some row

-- the one or the other
abbrev pub session_row_of : List (List ℕ) → Option (RowOf Service)
session_row_of arguments = or_row (debug_row_of arguments) (live_row_of arguments)

-- a source was served under a promise of what is put, and this is the answer to how that ended
pub record EndsWith {R W Own : Type 0} (r : SourceGhosts R) (promise : Promise W Own)
    (answer_to : Served Own → Status) (old new : Ports R W) (status : Status) : Type 0 where
  pub ended : Served Own
  pub answer : status ≡ answer_to ended
  pub serves : Serves r promise old.source new.source new.sink ended

-- what a debugger of a run promises, where it is told how many interrupts come or not
abbrev pub debug_promise : {W : Type 0} → SinkGhosts W → Run → Option ℕ → W → Promise W TalkEnd
debug_promise w run left first =
    talk_promise w run_reply (record { session = first_of run; sink = first; left = left })

-- what was put is the conversation of the bytes that the source gave, with no more interrupts than
-- come, or a prefix of it; or there was no memory for a device, and nothing was taken or put
abbrev pub HasServed : {R W : Type 0} → SourceGhosts R → SinkGhosts W → Option ℕ → Service
    → Ports R W → Ports R W → Status → Type 0
HasServed r w left (Debugs run) old new status =
    EndsWith r (debug_promise w run left old.sink) status_of_talk old new status
HasServed r w left (Lives start) old new status =
    EndsWith r (life_promise w start old.sink) status_of_life old new status
    ⊎ ((status ≡ Memory) × (new ≡ old))

-- an answer to arguments that may spell a command, where it is told how many interrupts come or not
pub record IsSessionAnswer {S R W : Type 0} (s : ShelfGhosts S) (r : SourceGhosts R)
    (w : SinkGhosts W) (shelf shelf_after : S) (left : Option ℕ) (old new : Ports R W)
    (command : Option (RowOf Service)) (status : Status) : Type 0 where
  pub words : (status ≡ Words) ↔ (command ≡ None)
  pub unread : status ≡ Words → (shelf_after ≡ shelf) × (new ≡ old)
  -- the files were refused, and nothing was taken or put, or they were read without fault, and what
  -- they give served the source
  pub answers : IfSome command (λ row.
      (IsUnread s shelf shelf_after row status × (new ≡ old))
      ⊎ ((service : Service) × Reaches (s.files shelf) row (Ok service)
      × HasServed r w left service old new status))
  -- where files and input are told, no file is refused, the input is not too long, and no fault was
  -- counted, all was answered or memory ran out
  pub complete : IfSome command (λ row. IfSome (s.files shelf) (λ contents.
      IfSome (r.left old.source) (λ bytes.
      first_refusal row contents ≡ None
      → length bytes < most_input
      → ¬ Rose (s.faults shelf) (s.faults shelf_after)
      → ¬ Rose (r.faults old.source) (r.faults new.source)
      → ¬ Rose (w.faults old.sink) (w.faults new.sink)
      → (status ≡ Done) ⊎ (status ≡ Memory))))
  pub limit : KeepsLimit r old.source new.source (status ≡ Spent)
  pub kept : KeepsFiles s.files s.faults s.misses shelf shelf_after
  pub source_counted : r.faults old.source ≤ r.faults new.source
  pub sink_counted : w.faults old.sink ≤ w.faults new.sink
