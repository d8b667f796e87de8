-- The kinds of file that only a desk reads.
use Rattle.std.specs.Prelude.{ℕ, List, Result, Ok, Err, if◌then◌else◌}
use Rattle.device_types.specs.declared.version.Version.TheVariants.{Two}
use Rattle.text_scan.specs.{declared.{fault_at.FaultAt.FaultAt, fault_kind.FaultKind.TheVariants.Word}, Reader.◌>>=◌}
use Rattle.report_verifier.specs.{Policy.PolicyFields, PolicyGrammar.policy_of, Verdict.same_version}
use Rattle.verifier_desk.specs.DeviceKey.{DeviceKey, devices_of}
use Rattle.input_files.specs.declared.bad_file.BadFile.TheVariants as bad
use Rattle.input_files.specs.{FileKind.policy_limit, Row.FileKind}
use Rattle.desk_cli.specs.StateFile.{NumberedEntries, numbered_entries_of}

-- the longest file of keys, in bytes
abbrev pub keys_limit : ℕ
keys_limit = 262144

abbrev pub keys_kind : FileKind (List DeviceKey)
keys_kind = record { limit = keys_limit; grammar = devices_of; refusal = bad.Keys }

-- a desk's policy is of version 2; one of version 1 has its fault at line 0
abbrev pub desk_policy_of : List ℕ → Result PolicyFields FaultAt
desk_policy_of text = do
  policy ← policy_of text
  if same_version policy.version Two then Ok policy else Err (record { line = 0; kind = Word })

abbrev pub desk_policy_kind : FileKind PolicyFields
desk_policy_kind =
    record { limit = policy_limit; grammar = desk_policy_of; refusal = bad.Policy }

-- the longest text of states, in bytes
abbrev pub states_limit : ℕ
states_limit = 4194304

-- the states of a memory, as `states` prints them
abbrev pub states_kind : FileKind NumberedEntries
states_kind =
    record { limit = states_limit; grammar = numbered_entries_of; refusal = bad.States }
