-- A desk's value stands for its devices, its policy and the lines of each device so far.
use Rattle.std.specs.Prelude.{◌≡◌, ℕ, List, [], Option}
use Rattle.sha2.specs.Sha256.{sha256}
use Rattle.mem_map.specs.Image.{byte_in}
use Rattle.report_verifier.specs.Policy.{PolicyFields}
use Rattle.desk_memory.specs.Entry.{Entry}
use Rattle.verifier_desk.specs.{declared.desk.Desk.Desk, DeviceKey.DeviceKey, DeskLine.DeviceLine, Replies.DeskFields, Standing.{AreDistinct, StatesStand}}

pub record DeskStandsFor (desk : Desk) (fields : DeskFields) (lines : List ℕ → List DeviceLine)
    : Type 0 where
  pub digest : fields.digest ≡ sha256
  pub devices : fields.devices ≡ desk.keys
  pub image : fields.image ≡ byte_in desk.image
  pub policy : fields.policy ≡ desk.policy
  pub distinct : AreDistinct fields.devices
  pub states : StatesStand fields desk.states.items lines

-- no lines of any device
abbrev pub no_lines_of : List ℕ → List DeviceLine
no_lines_of name = []

-- a desk of these devices, by SHA-256, whose memory has these entries
abbrev pub desk_with :
    List DeviceKey → (ℕ → Option ℕ) → PolicyFields → List Entry → DeskFields
desk_with devices image policy entries =
    record { digest = sha256; devices = devices; image = image; policy = policy; entries = entries }
