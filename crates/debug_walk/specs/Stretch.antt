-- What is kept of the steps since a boundary, from step to step.
use Rattle.std.specs.{Prelude.{ℕ, ◌==◌, ◌&&◌, ◌||◌, Bool, false, List, Option, None, is_some, if◌then◌else◌}, Option.option_or}
use Rattle.device_types.specs.{Kind.{is_boot, is_cpu, is_rom}, declared.{bus_record.BusRecord.BusRecord, kind.Kind.Kind}}
use Rattle.debug_session.specs.{Cause.is_due, Watched.{first_hit, hits_of, last_hit}, declared.{seen_accesses.SeenAccesses.SeenAccesses, watch.Watch.Watch}}
use Rattle.debug_walk.specs.declared.stretch.Stretch.{Stretch}

abbrev pub is_instruction : Kind → Bool
is_instruction kind = is_cpu kind || is_rom kind

abbrev pub stretch_from : ℕ → ℕ → Stretch
stretch_from place level =
    record {
      place = place;
      level = level;
      begins = false;
      boots = false;
      first_hit = None;
      last_hit = None;
      refused = None;
    }

-- the stretch of the last step of a row that begins at a place of this one: behind others it begins
-- anew, at the same level
abbrev pub stretch_of_last : Stretch → ℕ → ℕ → Stretch
stretch_of_last stretch from last =
    if last == from then stretch else stretch_from last stretch.level

-- with the step of this record, before which so many were made
abbrev pub stretch_with : Stretch → ℕ → BusRecord → SeenAccesses → List Watch → Stretch
stretch_with before step entry seen watches =
    record before {
      begins = before.begins || (step == before.place && is_instruction entry.kind);
      boots = is_boot entry.kind;
      first_hit = option_or before.first_hit (first_hit (hits_of seen watches));
      last_hit = last_hit before.last_hit (hits_of seen watches);
      refused = option_or before.refused entry.reset;
    }

-- so far there is something to stop for behind it: a hit, or so many steps
abbrev pub has_cause : Stretch → Option ℕ → ℕ → Bool
has_cause stretch until place = is_some stretch.first_hit || is_due until stretch.place place
