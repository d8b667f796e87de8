-- What a MAC is of, and what a call decides and writes on it.
use Rattle.std.specs.{Prelude.{◌==◌, ◌-◌, ◌++◌, List, [], ◌∷◌, map, take, drop, if◌then◌else◌}, List.range_with_len}
use Rattle.word_arith.specs.Number.{Word16}
use Rattle.device_types.specs.{Map.{EXEC_WORD, COUNTER, metadata_region}, Address.{Contents, Bytes}}
use Rattle.part_definitions.specs.{Attestation.{attestation_tag, word_of_bytes}, Metadata.counter_in, Region.{metadata_bytes, rest_bytes}, Request.{ATTESTS, request_decision}, Hmac.Digest}

-- the metadata, and the bytes of ER and OR where the bounds are valid
pub record AttestedBytes : Type 0 where
  pub metadata : Bytes
  pub rest : Bytes

abbrev pub attested_bytes_in : Contents → AttestedBytes
attested_bytes_in bytes = record { metadata = metadata_bytes bytes; rest = rest_bytes bytes }

-- without the EXEC word and the AUX word, behind which the counter stands
abbrev pub without_flag_words : AttestedBytes → AttestedBytes
without_flag_words contents =
    record contents {
      metadata =
          take (EXEC_WORD - metadata_region.first) contents.metadata
          ++ drop (COUNTER - metadata_region.first) contents.metadata;
    }

abbrev pub tag_of : Digest → Bytes → AttestedBytes → Bytes
tag_of digest key contents = attestation_tag digest key contents.metadata contents.rest

-- the decision on the request in the metadata, where these bytes of a counter are kept
abbrev pub decision_of : Digest → Bytes → AttestedBytes → Bytes → Word16
decision_of digest key contents kept = request_decision digest key contents.metadata kept

-- what a whole call writes to the MAC: the decision, and behind it, where it attests, the tag
abbrev pub call_words : Digest → Bytes → AttestedBytes → Bytes → List Word16
call_words digest key contents kept =
    decision_of digest key contents kept
    ∷ (if decision_of digest key contents kept == ATTESTS
    then map (word_of_bytes (tag_of digest key contents)) (range_with_len 0 16) else [])

-- the counter that a call leaves: the request's, where it attests
abbrev pub counter_left : Digest → Bytes → AttestedBytes → Bytes → Bytes
counter_left digest key contents kept =
    if decision_of digest key contents kept == ATTESTS then counter_in contents.metadata else kept
