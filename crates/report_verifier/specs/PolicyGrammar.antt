-- The grammar of a policy, and its first fault. Version 1 is `er`, then `or`, then challenges;
-- version 2 is `version 2`, then `er`, `or` and `flag`, then requests.
use Rattle.std.specs.{Prelude.{ℕ, ◌==◌, ◌&&◌, Bool, List, [], ◌∷◌, ◌++◌, length, if◌then◌else◌, Result, Ok, Err, codes}, List.list_any, Str.{bytes_eq, Lines.lines}}
use Rattle.device_types.specs.{declared.{bounds.Bounds.Bounds, version.Version.{Version, TheVariants.{One, Two}}}, Bounds.bounds_with}
use Rattle.text_scan.specs.{declared.{fault_at.FaultAt.FaultAt, fault_kind.FaultKind.{FaultKind, TheVariants.{Word, Missing, Order, Twice}}}, WordValue.{ends_of, hex_block_of, number_of}, LineFold.text_fold, Reader.◌>>=◌, Word.{words_of, next_word, end_of}}
use Rattle.text_scan.specs.declared.fault_kind.FaultKind.TheVariants as kinds
use Rattle.report_verifier.specs.{declared.{flag_kind.FlagKind.{FlagKind, TheVariants.{Exec, Aux, Plain}}, asked.Asked.Asked, policy_line.PolicyLine.{PolicyLine, TheVariants.{VersionTwo, Executable, Output, Flag, Request, Challenge}}, draft.Draft.{Draft, TheVariants.{Empty, VersionKnown, ExecutableKnown, BoundsKnown, Whole}}}, Policy.PolicyFields, Validity.are_valid_for}

-- `version 2`
unfoldable pub version_line_of : List (List ℕ) → Result (PolicyLine × List (List ℕ)) FaultKind
version_line_of words = do
  version ← number_of 2 2 words
  Ok (VersionTwo, version.1)

-- `er H4 H4`
unfoldable pub executable_line_of : List (List ℕ) → Result (PolicyLine × List (List ℕ)) FaultKind
executable_line_of words = do
  ends ← ends_of words
  Ok (Executable ends.0.0 ends.0.1, ends.1)

-- `or H4 H4`
unfoldable pub output_line_of : List (List ℕ) → Result (PolicyLine × List (List ℕ)) FaultKind
output_line_of words = do
  ends ← ends_of words
  Ok (Output ends.0.0 ends.0.1, ends.1)

abbrev pub flag_named : List ℕ → Result FlagKind FaultKind
flag_named word =
    if bytes_eq word (codes "exec") then Ok Exec
    else if bytes_eq word (codes "aux") then Ok Aux
    else if bytes_eq word (codes "plain") then Ok Plain
    else Err Word

-- `flag F`
unfoldable pub flag_line_of : List (List ℕ) → Result (PolicyLine × List (List ℕ)) FaultKind
flag_line_of words = do
  word ← next_word words
  flag ← flag_named word.0
  Ok (Flag flag, word.1)

-- `ask H64 N`
unfoldable pub request_line_of : List (List ℕ) → Result (PolicyLine × List (List ℕ)) FaultKind
request_line_of words = do
  chal ← hex_block_of 32 words
  count ← number_of 1 4294967295 chal.1
  Ok (Request (record { chal = chal.0; count = count.0 }), count.1)

-- `chal H64`
unfoldable pub challenge_line_of : List (List ℕ) → Result (PolicyLine × List (List ℕ)) FaultKind
challenge_line_of words = do
  chal ← hex_block_of 32 words
  Ok (Challenge chal.0, chal.1)

-- the keywords of version 1
abbrev pub line_by_keyword : List ℕ → List (List ℕ) → Result (PolicyLine × List (List ℕ)) FaultKind
line_by_keyword keyword words =
    if bytes_eq keyword (codes "er") then executable_line_of words
    else if bytes_eq keyword (codes "or") then output_line_of words
    else if bytes_eq keyword (codes "chal") then challenge_line_of words
    else Err Word

-- in version 2 there are three more; `chal` is read in its form there too
abbrev pub kind_for :
    Version → List ℕ → List (List ℕ) → Result (PolicyLine × List (List ℕ)) FaultKind
kind_for One keyword words = line_by_keyword keyword words
kind_for Two keyword words =
    if bytes_eq keyword (codes "version") then version_line_of words
    else if bytes_eq keyword (codes "flag") then flag_line_of words
    else if bytes_eq keyword (codes "ask") then request_line_of words
    else line_by_keyword keyword words

-- the version of a policy whose next line has this keyword: the first line says it
abbrev pub version_after : Draft → List ℕ → Version
version_after Empty keyword = if bytes_eq keyword (codes "version") then Two else One
version_after VersionKnown keyword = Two
version_after (ExecutableKnown version er_min er_max) keyword = version
version_after (BoundsKnown policy) keyword = Two
version_after (Whole policy) keyword = policy.version

-- what a line says after what was said before
unfoldable pub policy_line_of : Draft → List (List ℕ) → Result PolicyLine FaultKind
policy_line_of draft words = do
  keyword ← next_word words
  line ← kind_for (version_after draft keyword.0) keyword.0 keyword.1
  end ← end_of line.1
  Ok line.0

-- a policy with no request
abbrev pub policy_with : Version → Bounds → FlagKind → PolicyFields
policy_with version bounds flag =
    record { version = version; bounds = bounds; flag = flag; requests = [] }

-- once the bounds are known a policy of version 1 is whole; in version 2 the flag is to come
abbrev pub draft_with : Version → Bounds → Draft
draft_with One bounds = Whole (policy_with One bounds Exec)
draft_with Two bounds = BoundsKnown (policy_with Two bounds Plain)

abbrev pub with_bounds : Version → Bounds → Result Draft FaultKind
with_bounds version bounds =
    if are_valid_for version bounds then Ok (draft_with version bounds) else Err kinds.Bounds

abbrev pub with_request : PolicyFields → Asked → PolicyFields
with_request policy asked = record policy { requests = policy.requests ++ asked ∷ [] }

abbrev pub is_same_request : Asked → Asked → Bool
is_same_request left right = bytes_eq left.chal right.chal && (left.count == right.count)

-- a line before asks the same
abbrev pub has_request : PolicyFields → Asked → Bool
has_request policy asked = list_any (is_same_request asked) policy.requests

-- a request stands once, so that no report answers two of them
abbrev pub with_new_request : PolicyFields → Asked → Result Draft FaultKind
with_new_request policy asked =
    if has_request policy asked then Err Twice else Ok (Whole (with_request policy asked))

-- a challenge alone is a request of version 1
abbrev pub with_challenge : Version → PolicyFields → List ℕ → Result Draft FaultKind
with_challenge One policy chal =
    Ok (Whole (with_request policy (record { chal = chal; count = 0 })))
with_challenge Two policy chal = Err Order

-- a line after what was said before: the lines come in this order
abbrev pub draft_after : Draft → PolicyLine → Result Draft FaultKind
draft_after Empty VersionTwo = Ok VersionKnown
draft_after Empty (Executable first last) = Ok (ExecutableKnown One first last)
draft_after VersionKnown (Executable first last) = Ok (ExecutableKnown Two first last)
draft_after (ExecutableKnown version er_min er_max) (Output first last) =
    with_bounds version (bounds_with er_min er_max first last)
draft_after (BoundsKnown policy) (Flag flag) = Ok (Whole (record policy { flag = flag }))
draft_after (Whole policy) (Request asked) = with_new_request policy asked
draft_after (Whole policy) (Challenge chal) = with_challenge policy.version policy chal
draft_after draft line = Err Order

unfoldable pub draft_with_line : Draft → List ℕ → Result Draft FaultKind
draft_with_line draft line = do
  entry ← policy_line_of draft (words_of line)
  draft_after draft entry

-- a text that ends too early has the fault in its last line
abbrev pub whole_policy : ℕ → Draft → Result PolicyFields FaultAt
whole_policy last (Whole policy) = Ok policy
whole_policy last draft = Err (record { line = last; kind = Missing })

-- a policy, or its first fault
unfoldable pub policy_of : List ℕ → Result PolicyFields FaultAt
policy_of text = do
  draft ← text_fold draft_with_line Empty text
  whole_policy (length (lines text)) draft
