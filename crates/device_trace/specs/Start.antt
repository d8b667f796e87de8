-- What a trace is of: what the device is powered on with, its second flag, and the words that its
-- calls write.
use Rattle.std.specs.Prelude.{ℕ, Bool, List, slice_index}
use Rattle.word_arith.specs.Number.{Word16}
use Rattle.device_types.specs.{ExecFlag.SeenHistory, Address.{Contents, Bytes}}
use Rattle.part_definitions.specs.{Attestation.{CallItem, DecisionWrite, MacWrite, written_word}, Memory.PowerOn, Hmac.Digest}

pub record Start : Type 0 where
  pub power : PowerOn
  -- what the second flag is after these records, which are blanked
  pub second_flag : SeenHistory → Bool
  -- what a call writes as an item, after so many released words of the play and these of the call
  pub call_word : ℕ → CallItem → List Word16 → Word16

-- what the calls write by this digest, with the key that is read in them
abbrev pub word_by : Digest → ℕ → CallItem → List Word16 → Word16
word_by digest releases item words = written_word digest words item

-- with the device key, the calls write what the digest gives
abbrev pub with_key : (SeenHistory → Bool) → Digest → Bytes → Contents → Start
with_key flag digest key image =
    record {
      power = record { key = λ i. slice_index key i; image = image };
      second_flag = flag;
      call_word = word_by digest;
    }

-- the next of these words at each write of the decision or the MAC, 0 past their end and elsewhere
abbrev pub mac_word : List Word16 → ℕ → CallItem → Word16
mac_word words releases DecisionWrite = slice_index words releases
mac_word words releases (MacWrite i) = slice_index words releases
mac_word words releases item = 0

-- without a key: its bytes read as 0, and these are the words that the calls release
abbrev pub without_key : (SeenHistory → Bool) → List Word16 → Contents → Start
without_key flag words image =
    record {
      power = record { key = λ i. 0; image = image };
      second_flag = flag;
      call_word = λ releases item _. mac_word words releases item;
    }
