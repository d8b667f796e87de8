-- What a command answers to each end of its source.
use Rattle.std.specs.declared.alloc.AllocError.{AllocError}
use Rattle.source_server.specs.declared.served.Served.{Served}
use Rattle.source_server.specs.declared.served.Served.TheVariants as served
use Rattle.debug_link.specs.{declared.talk_end.TalkEnd.{TalkEnd, TheVariants.{Closed, Memory}}}
use Rattle.input_files.specs.declared.status.Status.{Status}
use Rattle.input_files.specs.declared.status.Status.TheVariants as status

-- where an end of its own is answered so
abbrev pub status_of : {Own : Type 0} → (Own → Status) → Served Own → Status
status_of own_status served.Done = status.Done
status_of own_status served.Spent = status.Spent
status_of own_status served.ReadFault = status.ReadFault
status_of own_status served.WriteFault = status.WriteFault
status_of own_status (served.Own own) = own_status own

-- a debugger that has closed its session is at the end, and there may be no memory
abbrev pub talk_status : TalkEnd → Status
talk_status Closed = status.Done
talk_status Memory = status.Memory

abbrev pub status_of_talk : Served TalkEnd → Status
status_of_talk = status_of talk_status

abbrev pub status_of_life : Served AllocError → Status
status_of_life = status_of (λ error. status.Memory)
