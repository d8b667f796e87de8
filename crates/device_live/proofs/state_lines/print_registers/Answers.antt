use Rattle.device_live.specs.Life.{play_lived}
use Rattle.device_live.proofs.state_lines.print_registers.Goals as goal

pub returns-clause-puts : goal.returns-clause-puts
returns-clause-puts g c = λ start life stands.
    rw (c.registers.ensures start (play_lived life) stands) at c.print_words.ensures.puts
