-- The accesses of a step that hit watched bytes. As GDB's manual has it, a watchpoint stops at a
-- write of its bytes, a read watchpoint at a read, an access watchpoint at either.
use Rattle.std.specs.{Prelude.{ℕ, ◌&&◌, ◌++◌, ◌+◌, Bool, true, List, [], ◌∷◌, Option, Some, None, is_some, nat_le, nat_lt, if◌then◌else◌}, List.list_any}
use Rattle.word_arith.specs.declared.size.Size.TheVariants.{Word}
use Rattle.device_types.specs.{declared.{access.Access.{Access, TheVariants.{Fetch, Write}}, bus_record.BusRecord.BusRecord}, Access.{bytes_of, is_read, is_write}, Map.{AUX_WORD, EXEC_WORD}}
use Rattle.debug_session.specs.{declared.{seen_accesses.SeenAccesses.SeenAccesses, watch.{Hit.Hit, Watch.Watch, WatchKind.WatchKind}}}
use Rattle.debug_session.specs.declared.watch.WatchKind.TheVariants as watch

-- an access that is no fetch
abbrev pub data_access : Option Access → Option Access
data_access (Some (Fetch place)) = None
data_access access = access

-- the accesses of a refused step were not made
abbrev pub made_access : BusRecord → Option Access → Option Access
made_access entry access = if is_some entry.reset then None else data_access access

-- the word of a flag is as if written where the flag changes
abbrev pub flag_access : ℕ → Bool → Option Access
flag_access place changed = if changed then Some (Write place Word 0) else None

-- what a watch sees of a step
abbrev pub seen_accesses : BusRecord → Bool → Bool → SeenAccesses
seen_accesses entry exec_changed aux_changed =
    record {
      cpu = made_access entry entry.cpu;
      dma = made_access entry entry.dma;
      exec = flag_access EXEC_WORD exec_changed;
      aux = flag_access AUX_WORD aux_changed;
    }

abbrev pub is_of_kind : WatchKind → Access → Bool
is_of_kind watch.Write access = is_write access
is_of_kind watch.Read access = is_read access
is_of_kind watch.Either access = true

abbrev pub is_watched : Watch → ℕ → Bool
is_watched one place = nat_le one.first place && nat_lt place (one.first + one.size)

abbrev pub first_watched : Watch → List ℕ → Option ℕ
first_watched one [] = None
first_watched one (place ∷ places) =
    if is_watched one place then Some place else first_watched one places

-- a hit names the first byte of the access that is watched
abbrev pub hit_where : WatchKind → Option ℕ → Option Hit
hit_where kind None = None
hit_where kind (Some place) = Some (record { kind = kind; place = place })

abbrev pub hit_by : Access → Watch → Option Hit
hit_by access one =
    if is_of_kind one.kind access
    then hit_where one.kind (first_watched one (bytes_of access)) else None

abbrev pub some_hit : Option Hit → List Hit
some_hit None = []
some_hit (Some hit) = hit ∷ []

abbrev pub hits_by_access : Access → List Watch → List Hit
hits_by_access access [] = []
hits_by_access access (one ∷ watches) =
    some_hit (hit_by access one) ++ hits_by_access access watches

abbrev pub hits_by : Option Access → List Watch → List Hit
hits_by None watches = []
hits_by (Some access) watches = hits_by_access access watches

-- an access hits a watch
abbrev pub is_hit : List Watch → Access → Bool
is_hit watches access = list_any (λ one. is_some (hit_by access one)) watches

-- the hits of a step, in this order
abbrev pub hits_of : SeenAccesses → List Watch → List Hit
hits_of seen watches =
    hits_by seen.cpu watches ++ hits_by seen.dma watches
    ++ hits_by seen.exec watches ++ hits_by seen.aux watches

abbrev pub first_hit : List Hit → Option Hit
first_hit [] = None
first_hit (hit ∷ hits) = Some hit

-- the last of these hits, or the one before them where there are none
abbrev pub last_hit : Option Hit → List Hit → Option Hit
last_hit before [] = before
last_hit before (hit ∷ hits) = last_hit (Some hit) hits
