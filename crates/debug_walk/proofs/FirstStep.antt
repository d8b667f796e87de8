-- The boot hits no watch where it is refused.
use Rattle.std.{proofs.{Common.{◌≡◌, ◌∙◌, ◌++◌, ℕ, Bool, true, false, List, [], ◌∷◌, Option, Some, None, refl, ap, sym, arith}, lemmas.Bool.{cond-true, false≢true}}, specs.{Prelude.{◌==◌, ◌&&◌, is_some, if◌then◌else◌}, List.list_any}}
use Rattle.hmac_core.specs.Hash.{Hash}
use Rattle.device_types.specs.{declared.{access.Access.Access, kind.Kind.{Kind, TheVariants.Boot}, rule.Rule.Rule}, Bounds.are_valid, ExecFlag.{clears, exec, fetches_at, is_set, starts_run, SeenRecord}, Kind.is_cpu, Map.{AUX_WORD, EXEC_WORD}}
use Rattle.part_definitions.specs.TrustedFlag.{aux, clears_aux}
use Rattle.device_trace.specs.{Blank.blank_seen, Logs.{logged_bounds, power_on_logs, progress_after, with_events, with_record}, Progress.{Held, stands_at_boundary}, Signals.signals_at, Step.{next_record, record_of}, Trace.logs_after}
use Rattle.debug_session.{specs.{Watched.{data_access, flag_access, hits_by, made_access}, declared.{watch.{Hit.Hit, Watch.Watch}, command.Way.TheVariants.{Ahead, Back}}, Cause.{behind, hit_on, hits}, Place.{Run, aux_at, differs, exec_at, logs_at, sight_at, step_at, step_sight, view_of}, Sight.{Sight, StepSight}}, proofs.Views.next-at}
use Rattle.debug_walk.{specs.{Copies.played_run, Walk.IsStretch, declared.{run.Run.Run as GivenRun, stretch.Stretch.Stretch}}, proofs.Places.first-kind}

-- a boot starts no run
not-started : (now : SeenRecord) → now.entry.kind ≡ Boot → starts_run now ≡ false
not-started now is =
    ap (λ (kind : Kind).
    is_cpu kind && fetches_at now.entry.cpu now.entry.pc && (now.entry.pc == now.bounds.er_min)
    && are_valid now.bounds) is

not-among : (cleared starts : Bool) (now : SeenRecord) → starts_run now ≡ false
    → list_any starts_run (if cleared then [] else now ∷ []) ≡ false
not-among true starts now none = refl
not-among false starts now none = rw none refl

not-set : (clears_it : Option ℕ → SeenRecord → Bool) (now : SeenRecord) → now.entry.kind ≡ Boot
    → is_set clears_it (now ∷ []) ≡ false
not-set clears_it now is = not-among (clears_it None now) false now (not-started now is)

-- the record of the boot, and the bounds before it
abbrev seen-first : Run → SeenRecord
seen-first run =
    record {
      entry = step_at run 0;
      bounds = logged_bounds run.start (with_events power_on_logs (run.events_at 0));
    }

module _ (run : Run) where
  exec-first : exec_at run 0 ≡ false
  unfolding exec logs_at logs_after
  exec-first = refl

  exec-next : exec_at run 1 ≡ false
  unfolding exec logs_at logs_after with_record with_events step_at
  exec-next = not-set clears (seen-first run) (first-kind run)

  refused-first : (rule : Option Rule) (kind : Kind) (cpu : Option Access) (value : ℕ)
      → kind ≡ Boot → stands_at_boundary (progress_after rule kind Held cpu value) ≡ false
      → is_some rule ≡ true
  refused-first (Some rule) kind cpu value boot none = refl
  refused-first None kind cpu value boot none = absurd (false≢true (sym none))

  is-refused : (sight_at run 1).boundary ≡ false → is_some (step_at run 0).reset ≡ true
  unfolding sight_at logs_at logs_after with_record with_events step_at
  is-refused none =
      refused-first (step_at run 0).reset (step_at run 0).kind (step_at run 0).cpu
      (step_at run 0).value (first-kind run) none

aux-first : {D : Type 0} (hash : Hash D) (given : GivenRun)
    → aux_at (played_run hash given) 0 ≡ false
unfolding aux logs_at logs_after
aux-first hash given = refl

aux-next : {D : Type 0} (hash : Hash D) (given : GivenRun)
    → aux_at (played_run hash given) 1 ≡ false
unfolding aux logs_at logs_after with_record with_events step_at next_record record_of signals_at
aux-next hash given =
    not-set clears_aux (blank_seen (seen-first (played_run hash given)))
    (first-kind (played_run hash given))

no-choice : (here : Bool) (none : List Sight) → (if here then none else none) ≡ none
no-choice true none = refl
no-choice false none = refl

module _ {D : Type 0} (hash : Hash D) (given : GivenRun) where
  abbrev run : Run
  run = played_run hash given

  none-seen : (access : Option Access) (watches : List Watch) → (sight_at run 1).boundary ≡ false
      → hits_by (made_access (step_at run 0) access) watches ≡ []
  none-seen access watches none =
      ap (λ (made : Option Access). hits_by made watches)
      (cond-true (is_some (step_at run 0).reset) None (data_access access) (is-refused run none))

  exec-same : differs (exec_at run 0) (exec_at run 1) ≡ false
  exec-same = λ i. differs (exec-first run i) (exec-next run i)

  aux-same : differs (aux_at run 0) (aux_at run 1) ≡ false
  aux-same = λ i. differs (aux-first hash given i) (aux-next hash given i)

  none-hit : (watches : List Watch) → (sight_at run 1).boundary ≡ false
      → (step_sight run 0).hits watches ≡ []
  unfolding step_sight
  none-hit watches none =
      λ i. none-seen (step_at run 0).cpu watches none i
      ++ none-seen (step_at run 0).dma watches none i
      ++ hits_by (flag_access EXEC_WORD (exec-same i)) watches
      ++ hits_by (flag_access AUX_WORD (aux-same i)) watches

  none-behind : (watches : List Watch) → (sight_at run 1).boundary ≡ false
      → hits watches (behind (view_of run) 1) ≡ []
  none-behind watches none =
      ap (λ (earlier : List Sight). hits watches (earlier ++ view_of run 0 ∷ []))
      (no-choice (view_of run 0).boundary [])
      ∙ ap (λ (step : StepSight). step.hits watches ++ []) (next-at run 0 (omega arith))
      ∙ ap (λ (made : List Hit). made ++ []) (none-hit watches none)

  -- so what is kept of it is the same for all watches
  pub kept-of-boot : (watches : List Watch) (stretch : Stretch)
      → (sight_at run 1).boundary ≡ false → IsStretch [] run 1 stretch
      → IsStretch watches run 1 stretch
  kept-of-boot watches stretch none kept =
      record {
        begin = kept.begin;
        begins = kept.begins;
        boot = kept.boot;
        first = kept.first
            ∙ ap (λ (made : List Hit). hit_on Ahead made)
            (none-behind [] none ∙ sym (none-behind watches none));
        last = kept.last
            ∙ ap (λ (made : List Hit). hit_on Back made)
            (none-behind [] none ∙ sym (none-behind watches none));
        refused = kept.refused;
      }
