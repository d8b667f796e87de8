use Rattle.std.proofs.Common.{◌≡◌, ◌∙◌, true, sym}
use Rattle.hex_loader.specs.HexText.{is_record_start, record_bytes, data_line}
use Rattle.hex_loader.proofs.hex_text.write_line_at.Goals as goal

pub returns-clause-puts : goal.returns-clause-puts
returns-clause-puts g c = λ image shows.
    let begins : is_record_start image c.args.place
    ≡ true = sym (c.is_record_start.ensures image shows) ∙ c.if-not-is_record_start.false in
    let line : c.deref-2.result.now ≡ data_line c.args.place (record_bytes image c.args.place) =
    cc (c.record_bytes.ensures image shows) in
    rw begins (rw line at c.put_all.ensures.puts)
