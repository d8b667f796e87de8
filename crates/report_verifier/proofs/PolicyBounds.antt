-- The bounds of a policy that is read are valid.
use Rattle.std.{proofs.Common.{◌≡◌, ℕ, List, [], ◌∷◌, Bool, true, false, Result, Ok, Err, IfOk, refl, length}, specs.{Prelude.if◌then◌else◌, Str.Lines.lines}}
use Rattle.device_types.specs.{declared.{bounds.Bounds.Bounds, version.Version.{Version, TheVariants.{One, Two}}}, Bounds.bounds_with}
use Rattle.text_scan.specs.{declared.{fault_at.FaultAt.FaultAt, fault_kind.FaultKind.FaultKind}, LineFold.{text_lines, lines_fold, text_fold, utf8_of}, Reader.{◌>>=◌, in_line}, Word.{is_passed_over, words_of}}
use Rattle.text_scan.specs.declared.fault_kind.FaultKind.TheVariants as kinds
use Rattle.report_verifier.specs.{declared.{asked.Asked.Asked, draft.Draft.{Draft, TheVariants.{Empty, VersionKnown, ExecutableKnown, BoundsKnown, Whole}}, policy_line.PolicyLine.{PolicyLine, TheVariants.{VersionTwo, Executable, Output, Flag, Request, Challenge}}}, Policy.PolicyFields, PolicyGrammar.{policy_of, policy_line_of, draft_with, has_request, with_request, with_challenge, draft_after, draft_with_line, whole_policy}, Validity.are_valid_for}

-- the bounds that a draft has are valid in its version
abbrev IsValidPolicy : PolicyFields → Type 0
IsValidPolicy policy = are_valid_for policy.version policy.bounds ≡ true

abbrev HasValidBounds : Draft → Type 0
HasValidBounds (BoundsKnown policy) = IsValidPolicy policy
HasValidBounds (Whole policy) = IsValidPolicy policy
HasValidBounds draft = Unit {0}

draft_with-valid : (version : Version) (bounds : Bounds) → are_valid_for version bounds ≡ true
    → HasValidBounds (draft_with version bounds)
draft_with-valid One bounds valid = valid
draft_with-valid Two bounds valid = valid

with_bounds-valid : (version : Version) (bounds : Bounds) (test : Bool)
    → are_valid_for version bounds ≡ test
    → IfOk (if test then Ok (draft_with version bounds) else Err kinds.Bounds) HasValidBounds
with_bounds-valid version bounds true valid = draft_with-valid version bounds valid
with_bounds-valid version bounds false valid = tt

with_challenge-valid : (version : Version) (policy : PolicyFields) (chal : List ℕ)
    → IsValidPolicy policy → IfOk (with_challenge version policy chal) HasValidBounds
with_challenge-valid One policy chal valid = valid
with_challenge-valid Two policy chal valid = tt

with_new_request-valid : (policy : PolicyFields) (asked : Asked) (again : Bool)
    → IsValidPolicy policy
    → IfOk (if again then Err kinds.Twice else Ok (Whole (with_request policy asked)))
    HasValidBounds
with_new_request-valid policy asked true valid = tt
with_new_request-valid policy asked false valid = valid

with_entry-valid : (draft : Draft) (line : PolicyLine) → HasValidBounds draft
    → IfOk (draft_after draft line) HasValidBounds
with_entry-valid Empty VersionTwo valid = tt
with_entry-valid Empty (Executable first last) valid = tt
with_entry-valid Empty (Output first last) valid = tt
with_entry-valid Empty (Flag flag) valid = tt
with_entry-valid Empty (Request asked) valid = tt
with_entry-valid Empty (Challenge chal) valid = tt
with_entry-valid VersionKnown VersionTwo valid = tt
with_entry-valid VersionKnown (Executable first last) valid = tt
with_entry-valid VersionKnown (Output first last) valid = tt
with_entry-valid VersionKnown (Flag flag) valid = tt
with_entry-valid VersionKnown (Request asked) valid = tt
with_entry-valid VersionKnown (Challenge chal) valid = tt
with_entry-valid (ExecutableKnown version er_min er_max) VersionTwo valid = tt
with_entry-valid (ExecutableKnown version er_min er_max) (Executable first last) valid = tt
with_entry-valid (ExecutableKnown version er_min er_max) (Output first last) valid =
    with_bounds-valid version (bounds_with er_min er_max first last) _ refl
with_entry-valid (ExecutableKnown version er_min er_max) (Flag flag) valid = tt
with_entry-valid (ExecutableKnown version er_min er_max) (Request asked) valid = tt
with_entry-valid (ExecutableKnown version er_min er_max) (Challenge chal) valid = tt
with_entry-valid (BoundsKnown policy) VersionTwo valid = tt
with_entry-valid (BoundsKnown policy) (Executable first last) valid = tt
with_entry-valid (BoundsKnown policy) (Output first last) valid = tt
with_entry-valid (BoundsKnown policy) (Flag flag) valid = valid
with_entry-valid (BoundsKnown policy) (Request asked) valid = tt
with_entry-valid (BoundsKnown policy) (Challenge chal) valid = tt
with_entry-valid (Whole policy) VersionTwo valid = tt
with_entry-valid (Whole policy) (Executable first last) valid = tt
with_entry-valid (Whole policy) (Output first last) valid = tt
with_entry-valid (Whole policy) (Flag flag) valid = tt
with_entry-valid (Whole policy) (Request asked) valid =
    with_new_request-valid policy asked (has_request policy asked) valid
with_entry-valid (Whole policy) (Challenge chal) valid =
    with_challenge-valid policy.version policy chal valid

with_line-valid : (draft : Draft) (line : List ℕ) → HasValidBounds draft
    → IfOk (draft_with_line draft line) HasValidBounds
unfolding draft_with_line
with_line-valid draft line valid = by_entry (policy_line_of draft (words_of line))
  where
    by_entry : (entry : Result PolicyLine FaultKind)
        → IfOk (entry >>= (λ entry. draft_after draft entry)) HasValidBounds
    by_entry (Ok entry) = with_entry-valid draft entry valid
    by_entry (Err kind) = tt

one_more-valid : (draft : Draft) (line : ℕ × List ℕ) (lines : List (ℕ × List ℕ)) (skips : Bool)
    (next : Result Draft FaultKind) → HasValidBounds draft
    → IfOk next HasValidBounds
    → ((after : Draft) → HasValidBounds after
    → IfOk (lines_fold draft_with_line after lines) HasValidBounds)
    → IfOk (if skips then lines_fold draft_with_line draft lines
    else (in_line line.0 next >>= (λ after. lines_fold draft_with_line after lines)))
    HasValidBounds
one_more-valid draft line lines true next valid valid_next later = later draft valid
one_more-valid draft line lines false (Ok after) valid valid_next later = later after valid_next
one_more-valid draft line lines false (Err kind) valid valid_next later = tt

state_after-valid : (draft : Draft) (lines : List (ℕ × List ℕ)) → HasValidBounds draft
    → IfOk (lines_fold draft_with_line draft lines) HasValidBounds
unfolding lines_fold
state_after-valid draft [] valid = valid
state_after-valid draft (line ∷ lines) valid =
    one_more-valid draft line lines (is_passed_over line.1) (draft_with_line draft line.1) valid
    (with_line-valid draft line.1 valid)
    (λ after valid_after. state_after-valid after lines valid_after)

whole-valid : (last : ℕ) (draft : Draft) → HasValidBounds draft
    → IfOk (whole_policy last draft) IsValidPolicy
whole-valid last Empty valid = tt
whole-valid last VersionKnown valid = tt
whole-valid last (ExecutableKnown version first end) valid = tt
whole-valid last (BoundsKnown policy) valid = tt
whole-valid last (Whole policy) valid = valid

draft-valid : (last : ℕ) (draft : Result Draft FaultAt) → IfOk draft HasValidBounds
    → IfOk (draft >>= whole_policy last) IsValidPolicy
draft-valid last (Ok after) valid = whole-valid last after valid
draft-valid last (Err fault) valid = tt

pub policy_of-valid : (text : List ℕ)
    → IfOk (policy_of text) IsValidPolicy
unfolding policy_of text_fold
policy_of-valid text = by_case (utf8_of text)
  where
    by_case : (sound : Result Unit FaultAt)
        → IfOk ((sound >>= (λ is. lines_fold draft_with_line Empty (text_lines text)))
        >>= whole_policy (length (lines text)))
        IsValidPolicy
    by_case (Err fault) = tt
    by_case (Ok is) =
        draft-valid (length (lines text)) (lines_fold draft_with_line Empty (text_lines text))
        (state_after-valid Empty (text_lines text) tt)
