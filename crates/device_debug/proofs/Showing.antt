-- What a debugger shows of where it stands.
use Rattle.std.{proofs.{Common.{◌≡◌, ◌∙◌, ℕ, true, false, List, [], Option, Some, Result, ap, sym}, lemmas.Bool.{cond-false, cond-true, eq-eqb, ne_eqb}}, specs.Prelude.{◌==◌, codes, min}}
use Rattle.hex.specs.Hex.{encode_lower}
use Rattle.hmac_core.specs.Hash.{Hash}
use Rattle.outside_edge.specs.declared.sink.Sink.{Ghosts as SinkGhosts}
use Rattle.debug_link.specs.{Writing.PacketSink, declared.{answer_fault.AnswerFault.AnswerFault, connection.Connection.Connection}}
use Rattle.debug_session.{specs.{Place.{is_shown, sight_at}, Session.{Session, says}, Shown.{bytes_or, bytes_shown, memory_body, registers_bytes, registers_shown}, Sight.Sight}, proofs.Views.view-at}
use Rattle.debug_walk.{specs.{Walk.OfWalk, declared.walk.Walk.Walk}, proofs.ShownBytes.{none-there, some-there}}
use Rattle.device_debug.{specs.{Session.{DebuggerStandsFor, Gives, run_at, view_in}, declared.debugger.Debugger.Debugger}, proofs.Answering.{holds-here, said-so}}

module _ (here : Sight) (first size : ℕ) where
  abbrev body_with : Option ℕ → List ℕ
  body_with byte = bytes_or byte (bytes_shown here first (min size 2048))

  -- no bytes are asked for
  no-body : size ≡ 0 → [] ≡ memory_body here first size
  no-body none =
      sym (cond-true (size == 0) [] (body_with (here.byte_at first)) (eq-eqb size 0 none))

  some-body : {byte : Option ℕ} → (size ≡ 0 → ⊥) → here.byte_at first ≡ byte
      → body_with byte ≡ memory_body here first size
  some-body some is =
      rw (← is)
      (sym (cond-false (size == 0) [] (body_with (here.byte_at first)) (ne_eqb size 0 some)))

sight-here : {D : Type 0} (hash : Hash D) (debugger : Debugger D) (session : Session)
    → DebuggerStandsFor hash debugger session
    → sight_at (run_at hash debugger) session.place ≡ view_in hash debugger session.place
sight-here hash debugger session stands =
    sym (view-at (run_at hash debugger) session.place stands.stands.within)

-- what was put is what its memory shows
abbrev pub SaysMemory : {D W : Type 0} → Hash D → SinkGhosts W → PacketSink W → PacketSink W
    → Debugger D → ℕ → ℕ → Result Connection AnswerFault → Type 0
SaysMemory hash w old new debugger first size result =
    Gives hash w old new debugger debugger
    (λ session. says session (memory_body (view_in hash debugger session.place) first size)) result

module _ {D W : Type 0} {hash : Hash D} {w : SinkGhosts W} where
  -- its registers were put
  pub registers-said : {old new : PacketSink W} {debugger : Debugger D} {halted : Walk D}
      {bytes items : List ℕ} {result : Result Connection AnswerFault}
      → bytes ≡ items → debugger.halted ≡ Some halted
      → OfWalk hash halted (λ run place.
      items ≡ registers_bytes (sight_at run place).registers)
      → Gives hash w old new debugger debugger (λ session. says session (encode_lower bytes))
      result
      → Gives hash w old new debugger debugger
      (λ session. says session (registers_shown (view_in hash debugger session.place))) result
  registers-said {debugger = debugger} {halted} {bytes} {items} are is shown gives =
      said-so (encode_lower bytes)
      (λ session. registers_shown (view_in hash debugger session.place))
      (λ session stands. ap (λ (one : List ℕ). encode_lower one)
      (are ∙ holds-here hash debugger session halted
      (λ run place. items ≡ registers_bytes (sight_at run place).registers) is stands shown
      ∙ ap (λ (one : Sight). registers_bytes one.registers)
      (sight-here hash debugger session stands)))
      gives

  module _ {old new : PacketSink W} {debugger : Debugger D} (first size : ℕ)
      {result : Result Connection AnswerFault} where
    memory-so : (body : List ℕ)
        → ((session : Session) → DebuggerStandsFor hash debugger session
        → body ≡ memory_body (sight_at (run_at hash debugger) session.place) first size)
        → Gives hash w old new debugger debugger (λ session. says session body) result
        → SaysMemory hash w old new debugger first size result
    memory-so body is gives =
        said-so body (λ session. memory_body (view_in hash debugger session.place) first size)
        (λ session stands. is session stands
        ∙ ap (λ (one : Sight). memory_body one first size)
        (sight-here hash debugger session stands))
        gives

    -- no bytes were asked for
    pub nothing-shown : size ≡ 0
        → Gives hash w old new debugger debugger (λ session. says session []) result
        → SaysMemory hash w old new debugger first size result
    nothing-shown none gives =
        memory-so []
        (λ session stands. no-body (sight_at (run_at hash debugger) session.place) first size none)
        gives

    -- the first can't be shown
    pub secret-refused : (size ≡ 0 → ⊥) → is_shown first ≡ false
        → Gives hash w old new debugger debugger (λ session. says session (codes "E01")) result
        → SaysMemory hash w old new debugger first size result
    secret-refused some secret gives =
        memory-so (codes "E01")
        (λ session stands. some-body (sight_at (run_at hash debugger) session.place) first size some
        (none-there (run_at hash debugger) session.place first secret))
        gives

    -- it can, and bytes were put
    pub memory-said : {halted : Walk D} {bytes items : List ℕ}
        → (size ≡ 0 → ⊥) → is_shown first ≡ true
        → bytes ≡ items → debugger.halted ≡ Some halted
        → OfWalk hash halted
        (λ run place. items ≡ bytes_shown (sight_at run place) first (min size 2048))
        → Gives hash w old new debugger debugger
        (λ session. says session (encode_lower bytes)) result
        → SaysMemory hash w old new debugger first size result
    memory-said {halted} {bytes} {items} some shown are is of_halted gives =
        memory-so (encode_lower bytes)
        (λ session stands. ap (λ (one : List ℕ). encode_lower one)
        (are ∙ holds-here hash debugger session halted
        (λ run place. items ≡ bytes_shown (sight_at run place) first (min size 2048)) is stands
        of_halted)
        ∙ some-body (sight_at (run_at hash debugger) session.place) first size some
        (some-there (run_at hash debugger) session.place first shown).1)
        gives
