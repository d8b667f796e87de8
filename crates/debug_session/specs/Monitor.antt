-- The commands of a user behind `monitor`, and their texts.
use Rattle.std.specs.{Prelude.{ℕ, ◌++◌, ◌-◌, zero, suc, List, [], codes, min}, Fmt.decimal}
use Rattle.printed_lines.specs.Line.{flag_digit}
use Rattle.debug_session.specs.{Request.most_steps, declared.request.Request.{Request, TheVariants.{Steps, Flags, Play as PlayText, Trace, Until, Help, Other}}, Sight.{Sight, StepSight, View}}

-- a text of so many steps from a place on
abbrev pub texts_from : View → (StepSight → List ℕ) → ℕ → ℕ → List ℕ
texts_from view text place zero = []
texts_from view text place (suc steps) =
    text (view place).next ++ texts_from view text (suc place) steps

abbrev pub help_text : List ℕ
help_text =
    codes "monitor steps     how many bus steps were made\n"
    ++ codes "monitor flags     EXEC and AUX\n"
    ++ codes "monitor play      what play prints of these steps\n"
    ++ codes "monitor trace N   the last N lines of their trace file, N in 1..1000\n"
    ++ codes "monitor until N   continue and reverse-continue stop at N steps too; "
    ++ codes "0 takes this back\n"

abbrev pub flags_text : Sight → List ℕ
flags_text here =
    codes "exec " ++ flag_digit here.exec ++ codes " aux " ++ flag_digit here.aux ++ codes "\n"

-- the last so many lines of a trace file
abbrev pub last_lines : View → ℕ → ℕ → List ℕ
last_lines view place lines =
    texts_from view (λ step. step.trace_line) (place - lines) (min lines place)

abbrev pub request_text : View → ℕ → Request → List ℕ
request_text view place Steps =
    decimal place ++ codes " steps of " ++ decimal most_steps ++ codes "\n"
request_text view place Flags = flags_text (view place)
request_text view place PlayText =
    texts_from view (λ step. step.lines) 0 place ++ (view place).end_line
request_text view place (Trace lines) = last_lines view place lines
request_text view place (Until number) = []
request_text view place Help = help_text
request_text view place Other = codes "no such command: monitor help\n"
