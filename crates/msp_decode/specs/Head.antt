-- The head of an instruction word, as a function that computes.
use Rattle.std.specs.Prelude.{◌/◌, ◌%◌, ◌==◌, ◌&&◌, ◌||◌, not, nat_lt, if◌then◌else◌, Option, Some, None}
use Rattle.word_arith.specs.{declared.size.Size.Size, Number.Word16}
use Rattle.msp_decode.specs.{declared.{one.One.One, source_form.SourceForm.SourceForm, head.Head.{Head, TheVariants.{Two, One as OneOperand, Reti, Jump}}}, Spelling.{RETI_WORD, has_size, takes_result, writes_operand}, Field.{op2_of, one_of, cond_of, size_of_bit, source_of, dest_of, offset_of}}

abbrev pub two_head : Word16 → Head
two_head word =
    Two (op2_of (word / 0x1000)) (size_of_bit (word / 0x40 % 2))
    (source_of (word / 0x10 % 4) (word / 0x100 % 16)) (dest_of (word / 0x80 % 2) (word % 16))

-- a word of one operand: the operation has this size, and a source that is written takes a result
abbrev pub one_head : Word16 → Option Head
one_head word =
    let op : One = one_of (word / 0x80 % 8) in
    let size : Size = size_of_bit (word / 0x40 % 2) in
    let source : SourceForm = source_of (word / 0x10 % 4) (word % 16) in
    if has_size op size && (takes_result source || not (writes_operand op))
    then Some (OneOperand op size source) else None

abbrev pub jump_head : Word16 → Head
jump_head word = Jump (cond_of (word / 0x400 % 8)) (offset_of (word % 0x400))

-- the head that a word below 2 ^ 16 spells, if it is legal
unfoldable pub head_of : Word16 → Option Head
head_of word =
    if nat_lt word 0x1000 then None
    else if nat_lt word 0x1300 then one_head word
    else if word == RETI_WORD then Some Reti
    else if nat_lt word 0x2000 then None
    else if nat_lt word 0x4000 then Some (jump_head word)
    else Some (two_head word)
