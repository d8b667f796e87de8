-- What a row puts is put of a lawful play.
use Rattle.std.{proofs.{Common.{◌≡◌, ◌<◌, ℕ, Bool, true, false, List, Option, Some, Result, Ok, Err, refl, length, subst, unwrap_or, arith}, lemmas.List.{Elements.All-from_get_or, FromFn.get_or-range_with_len}}, specs.Prelude.{if◌then◌else◌, nat_lt}}
use Rattle.part_definitions.specs.TrustedFlag.{aux}
use Rattle.device_trace.specs.Trace.{play_of}
use Rattle.play_script.specs.Script.{events_of}
use Rattle.text_scan.{specs.{Key.key_of, declared.fault_at.FaultAt.FaultAt}, proofs.HexBytes.key_of-ok}
use Rattle.hex_loader.{specs.HexImage.image_of, proofs.ImageBytes.image_of-bytes}
use Rattle.hmac_core.proofs.SameBytes.{sha256-bytes}
use Rattle.sha2.{proofs.Facts256.length-sha256, specs.Sha256.sha256}
use Rattle.mac_coverage.specs.Coverage.{Gives32Bytes, IsDeviceKey, IsOfBytes}
use Rattle.report_verifier.{specs.{Policy.PolicyFields, PolicyGrammar.policy_of, Validity.are_valid_for, Judge.{Judge, judge_with}}, proofs.PolicyBounds.policy_of-valid}
use Rattle.input_files.specs.{Row.{FileKind, RowOf, Ends, Reads, go_on, read_file, file_value}, Reading.{Files, Reaches}, FileKind.{image_kind, key_kind, policy_kind, script_kind}}
use Rattle.device_cli.{specs.{Row.{Always, DevicePlay, Outcome, start_in}, Load.{load_key, load_image}, FileKind.reports_kind, Answer.{IsLawful, IsLawfulRow, IsPutLawfully}, Play.{play_with, steps_row}, Acceptance.EachAcceptHasGrounds, Round.{RoundsHaveGrounds, round_row}, Verify.verify_row, Work.{load_play, work_row}}, proofs.Grounds.each_accept-has_grounds}
use Rattle.device_play.proofs.WatchedPlay.{keeps_key_hidden, obeys_laws}

-- the value of a kind of file is that of its grammar
value-grammar : {M : Type 0} (long : Bool) (past : FaultAt) (read : Result M FaultAt) (value : M)
    → (if long then Err past else read) ≡ Ok value → read ≡ Ok value
value-grammar true past read value is = absurd (cc is)
value-grammar false past read value is = is

is-value : {M : Type 0} (kind : FileKind M) (bytes : List ℕ) (value : M)
    → file_value kind bytes ≡ Ok value → kind.grammar bytes ≡ Ok value
is-value kind bytes value is =
    value-grammar (nat_lt kind.limit (length bytes)) _ (kind.grammar bytes) value is

go_on-always : {M End : Type 0} (is_so : End → Type 0) (kind : FileKind M) (onward : M → RowOf End)
    (read : Result M FaultAt)
    → ((value : M) → read ≡ Ok value → Always is_so (onward value))
    → Always is_so (go_on kind onward read)
go_on-always is_so kind onward (Ok value) always = always value refl
go_on-always is_so kind onward (Err fault) always = tt

-- it is always so of a row that goes on to what is so with every value of a file
pub read-always : {M End : Type 0} (is_so : End → Type 0) (kind : FileKind M) (name : List ℕ)
    (onward : M → RowOf End)
    → ((value : M) (bytes : List ℕ) → kind.grammar bytes ≡ Ok value → Always is_so (onward value))
    → Always is_so (read_file kind name onward)
read-always is_so kind name onward always = λ bytes.
    go_on-always is_so kind onward (file_value kind bytes)
    (λ value is. always value bytes (is-value kind bytes value is))

-- and so of the end that it comes to
pub reached-always : {End : Type 0} (is_so : End → Type 0) (files : Files) (row : RowOf End)
    (end : End) → Always is_so row → Reaches files row (Ok end) → is_so end
reached-always is_so files (Ends (Ok reached)) end always is =
    let same : reached ≡ end = cc is in
    subst is_so same always
reached-always is_so files (Ends (Err fault)) end always is = absurd (cc is)
reached-always is_so files (Reads name onward) end always (bytes, finds, reaches) =
    reached-always is_so files (onward bytes) end (always bytes) reaches

device_key : (bytes key : List ℕ) → key_of bytes ≡ Ok key → IsDeviceKey key
device_key bytes key is =
    let good = key_of-ok bytes key is in
    record {
      size = good.0;
      bytes = All-from_get_or (λ byte. byte < 256) key 0 (λ i within. good.1 i);
    }

sha256_gives : Gives32Bytes sha256
sha256_gives = record { size = length-sha256; bytes = sha256-bytes }

is-lawful : (device_play : DevicePlay) → IsDeviceKey device_play.key → IsOfBytes device_play.image
    → IsLawful device_play
is-lawful device_play device_key bytes =
    record {
      gives = sha256_gives;
      hides_key = keeps_key_hidden (start_in device_play) device_play.play;
      laws = obeys_laws aux sha256 device_play.key device_play.image device_play.play
          device_key bytes;
    }

image_bytes : (bytes : List ℕ) (image : ℕ → Option ℕ) → image_of bytes ≡ Ok image
    → IsOfBytes (λ place. unwrap_or (image place) 0)
image_bytes bytes image is = λ place. rw is at (image_of-bytes bytes place)

-- what is put of a play
pub steps_row_lawful : (outcome : DevicePlay → Outcome) (image script key : List ℕ) (steps : ℕ)
    → ((device_play : DevicePlay) → (outcome device_play).device_play ≡ Some device_play)
    → IsLawfulRow (steps_row outcome image script key steps)
steps_row_lawful outcome image script key steps plays =
    read-always IsPutLawfully key_kind key _ (λ key_read key_bytes key_is.
    read-always IsPutLawfully image_kind image _ (λ image_read bytes image_is.
    read-always IsPutLawfully script_kind script _ (λ script_read script_bytes script_is.
    rw (plays (play_with steps key_read image_read script_read))
    (is-lawful (play_with steps key_read image_read script_read)
    (device_key key_bytes key_read key_is) (image_bytes bytes image_read image_is)))))

valid_bounds : (bytes : List ℕ) (policy : PolicyFields) → policy_of bytes ≡ Ok policy
    → are_valid_for policy.version policy.bounds ≡ true
valid_bounds bytes policy is = rw is at (policy_of-valid bytes)

-- with a judge
pub round_row_lawful : (all : Bool) (image script key policy : List ℕ) (steps : ℕ)
    → IsLawfulRow (round_row all image script key policy steps)
round_row_lawful all image script key policy steps =
    read-always IsPutLawfully key_kind key _ (λ key_read key_bytes key_is.
    read-always IsPutLawfully image_kind image _ (λ image_read bytes image_is.
    read-always IsPutLawfully script_kind script _ (λ script_read script_bytes script_is.
    read-always IsPutLawfully policy_kind policy _ (λ policy_read policy_bytes policy_is.
    is-lawful (play_with steps key_read image_read script_read)
    (device_key key_bytes key_read key_is) (image_bytes bytes image_read image_is)))))

-- what is put of verdicts is put of no play
pub verify_row_lawful : (all : Bool) (image policy key reports : List ℕ)
    → IsLawfulRow (verify_row all image policy key reports)
verify_row_lawful all image policy key reports =
    read-always IsPutLawfully key_kind key _ (λ key_read key_bytes key_is.
    read-always IsPutLawfully image_kind image _ (λ image_read image_bytes image_is.
    read-always IsPutLawfully policy_kind policy _ (λ policy_read policy_bytes policy_is.
    read-always IsPutLawfully reports_kind reports _ (λ reports_read reports_bytes reports_is.
    tt))))

abbrev AcceptsHaveGrounds : Judge × DevicePlay → Type 0
AcceptsHaveGrounds judged = EachAcceptHasGrounds judged.0 (start_in judged.1) judged.1.play

pub rounds_have_grounds : RoundsHaveGrounds
rounds_have_grounds image script key policy steps =
    read-always AcceptsHaveGrounds key_kind key _ (λ key_read key_bytes key_is.
    read-always AcceptsHaveGrounds image_kind image _ (λ image_read bytes image_is.
    read-always AcceptsHaveGrounds script_kind script _ (λ script_read script_bytes script_is.
    read-always AcceptsHaveGrounds policy_kind policy _ (λ policy_read policy_bytes policy_is.
    each_accept-has_grounds aux (judge_with key_read image_read policy_read)
    (λ place. unwrap_or (image_read place) 0) (play_of (events_of script_read) steps)
    (device_key key_bytes key_read key_is) (image_bytes bytes image_read image_is)
    (image_bytes bytes image_read image_is) sha256_gives
    (valid_bounds policy_bytes policy_read policy_is)))))

pub load_device_key : IsDeviceKey load_key
load_device_key =
    record {
      size = refl;
      bytes = λ k d h. rw (get_or-range_with_len 0 64 k d h) (omega (arith, h));
    }

pub work_row_lawful : (seed : ℕ) → IsLawfulRow (work_row seed)
unfolding load_play
work_row_lawful seed = is-lawful (load_play seed) load_device_key (image_of-bytes load_image)
