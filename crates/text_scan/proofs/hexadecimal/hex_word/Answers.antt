use Rattle.std.proofs.Common.{◌∙◌, Ok, ap, sym}
use Rattle.text_scan.proofs.HexDigits.{digits-from_decoded}
use Rattle.text_scan.proofs.hexadecimal.hex_word.Goals as goal

pub returns-in-Ok : goal.returns-in-Ok
returns-in-Ok c =
    let decodes = sym c.from_hex.ensures ∙ c.in-Ok.is in
    rw (digits-from_decoded c.args.word.now c.in-Ok.bytes 2 decodes, decodes)
    (ap Ok c.from_be_bytes.ensures)
