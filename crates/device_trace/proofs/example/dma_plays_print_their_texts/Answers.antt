use Rattle.std.{proofs.Common.refl, specs.Fmt.digits}
use Rattle.hex.specs.Hex.{encode_with}
use Rattle.word_arith.specs.{Op2.alu_result, Op1.shift_result}
use Rattle.msp_decode.specs.Head.{head_of}
use Rattle.part_definitions.specs.{FirstRule.first_rule, NextAccess.{next_access, entry_access}, MonitorRule.{key_rule, atomicity_rule}}
use Rattle.device_types.specs.ExecFlag.{exec}
use Rattle.device_trace.specs.{Logs.{with_events, with_record}, Signals.signals_at, Step.{record_of, next_record}, Trace.logs_after, Text.{lines_of, play_text}}
use Rattle.device_trace.proofs.example.dma_plays_print_their_texts.Goals as goal

pub returns : goal.returns
unfolding digits encode_with alu_result shift_result head_of next_access entry_access key_rule
    atomicity_rule exec with_events with_record signals_at first_rule record_of next_record
    logs_after lines_of play_text
returns c = refl
