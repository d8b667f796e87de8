use Rattle.std.{proofs.Common.{◌≡◌, refl}, specs.{Prelude.{◌++◌, [], codes}, Fmt.digits}}
use Rattle.hex.specs.Hex.{encode_with}
use Rattle.word_arith.specs.{Op2.alu_result, Op1.shift_result}
use Rattle.msp_decode.specs.Head.{head_of}
use Rattle.part_definitions.specs.{FirstRule.first_rule, NextAccess.{next_access, entry_access}, MonitorRule.{key_rule, atomicity_rule}}
use Rattle.device_types.specs.ExecFlag.{exec}
use Rattle.device_trace.specs.{Example.{start_with, quiet_steps, letter_a}, Logs.{with_events, with_record}, Signals.signals_at, Step.{record_of, next_record}, Trace.logs_after}
use Rattle.trace_files.specs.TraceText.{trace_lines, trace_text}

row : trace_text (start_with letter_a) (quiet_steps 2 [])
    ≡ codes "t 0 boot 0000 rfffe - 0 0 0000 c000 0000 0000 0000 0000 0000 0 -\n"
    ++ codes "t 1 cpu c000 fc000 - 0 0 40b2 40b2 0000 0000 0000 0000 0000 0 -\n"
unfolding digits encode_with alu_result shift_result head_of next_access entry_access key_rule
    atomicity_rule exec with_events with_record signals_at first_rule record_of next_record
    logs_after trace_lines
row = refl
