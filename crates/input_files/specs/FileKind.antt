-- The kinds of file that several commands read.
use Rattle.std.specs.Prelude.{ℕ, List, Option}
use Rattle.hex_loader.specs.HexImage.{image_of}
use Rattle.play_script.specs.{Grammar.script_of, Script.TimedEvent}
use Rattle.report_verifier.specs.{Policy.PolicyFields, PolicyGrammar.policy_of}
use Rattle.text_scan.specs.Key.{key_of}
use Rattle.input_files.specs.Row.{FileKind}
use Rattle.input_files.specs.declared.bad_file.BadFile.TheVariants as bad

-- The limits of files that several commands read. Sizes are in bytes.

-- the longest file of a policy
abbrev pub policy_limit : ℕ
policy_limit = 65536

-- the longest file of an image, of a script, of a source and of reports
abbrev pub text_limit : ℕ
text_limit = 1048576

-- an image gives the byte at each place that has one
abbrev pub image_kind : FileKind (ℕ → Option ℕ)
image_kind = record { limit = text_limit; grammar = image_of; refusal = bad.Image }

-- a key's file has 256 bytes at most
abbrev pub key_kind : FileKind (List ℕ)
key_kind = record { limit = 256; grammar = key_of; refusal = bad.Key }

abbrev pub script_kind : FileKind (List TimedEvent)
script_kind = record { limit = text_limit; grammar = script_of; refusal = bad.Script }

abbrev pub policy_kind : FileKind PolicyFields
policy_kind = record { limit = policy_limit; grammar = policy_of; refusal = bad.Policy }
