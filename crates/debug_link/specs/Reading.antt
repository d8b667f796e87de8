-- What a reader of packets keeps of the one that comes.
use Rattle.std.specs.Prelude.{◌≡◌}
use Rattle.debug_link.specs.{HeldBody.held_of, Link.{Link, Between, Within, Ended, HalfChecked, Message, Silence, Again, Damage, Whole}, declared.packet_reader.{PacketReader.PacketReader, Heard.Heard}}
use Rattle.debug_link.specs.declared.packet_reader.Stage.TheVariants as stage
use Rattle.debug_link.specs.declared.packet_reader.Heard.TheVariants as heard

-- a reader stands for what came of a packet
abbrev pub ReaderStandsFor : PacketReader → Link → Type 0
ReaderStandsFor reader Between = reader.stage ≡ stage.Between
ReaderStandsFor reader (Within body) =
    (reader.stage ≡ stage.Body) × (reader.body ≡ held_of body)
ReaderStandsFor reader (Ended body) =
    (reader.stage ≡ stage.FirstDigit) × (reader.body ≡ held_of body)
ReaderStandsFor reader (HalfChecked body first) =
    (reader.stage ≡ stage.SecondDigit first) × (reader.body ≡ held_of body)

abbrev pub heard_of : Message → Heard
heard_of Silence = heard.Silence
heard_of Again = heard.Again
heard_of Damage = heard.Damage
heard_of (Whole body) = heard.Whole

-- a reader keeps the body of a packet that is whole now
abbrev pub KeepsBody : PacketReader → Message → Type 0
KeepsBody reader Silence = Unit {0}
KeepsBody reader Again = Unit {0}
KeepsBody reader Damage = Unit {0}
KeepsBody reader (Whole body) = reader.body ≡ held_of body
