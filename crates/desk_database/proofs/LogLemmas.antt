-- What two reads say of a log and its database.
use Rattle.std.{proofs.{Common.{◌≡◌, ◌≢◌, ◌+◌, ◌<◌, ◌≤◌, ℕ, suc, Bool, true, false, List, Option, Some, IfSome, length, slice_index, refl, sym, ap, subst, subst₂, ◌∙◌, inl, inr, arith, add-zero, get_or-drop}, lemmas.Bool.cases_Bool}, specs.Prelude.{◌==◌, if◌then◌else◌}}
use Rattle.sqlite_format.specs.Bytes.{u32_at}
use Rattle.sqlite_wal.{specs.{Format.{content, page_number}, Recovery.{Image, Replays, file_page, frame, frame_at, page_after}}, proofs.{PartLemmas.{frames_len-le, slice_index-part}, RecoveryLemmas.{committed_within, replays_once}}}
use Rattle.desk_database.specs.{declared.log_fit.LogFit.{LogFit, TheVariants.{Begun, Fits, Other}}, Log.{FitsAs, FitsLog, FitsMaking, HasFrames, IsLogFit, IsOfFile, IsOfMaking, IsVersionFit, IsWholeFirst, file_version, first_page_by, stored_page, version_after}}

u32_same : (f g : List ℕ) (a b : ℕ)
    → ((i : ℕ) → i < 4 → slice_index f (a + i) ≡ slice_index g (b + i)) → u32_at f a ≡ u32_at g b
u32_same f g a b same =
    let first : slice_index f a ≡ slice_index g b = simp add-zero at (same 0 (omega arith)) in
    let last : slice_index f (a + 2 + 1) ≡ slice_index g (b + 2 + 1) =
    ap (slice_index f) (omega arith) ∙ same 3 (omega arith) ∙ ap (slice_index g) (omega arith) in
    omega (arith, first, same 1 (omega arith), same 2 (omega arith), last)

version_in_frame : (log : List ℕ) (at : ℕ)
    → u32_at (content (frame stored_page log at)) 60 ≡ u32_at log (frame_at stored_page at + 84)
version_in_frame log at =
    u32_same (content (frame stored_page log at)) log 60 (frame_at stored_page at + 84) (λ i low.
    get_or-drop 24 (frame stored_page log at) (60 + i) 0
    ∙ slice_index-part log (frame_at stored_page at) 4120 (24 + (60 + i)) (omega arith)
    ∙ ap (slice_index log) (omega arith))

pub version_in_file : (db : List ℕ) → u32_at (file_page stored_page db 1) 60 ≡ u32_at db 60
version_in_file db =
    u32_same (file_page stored_page db 1) db 60 60
    (λ i low. slice_index-part db 0 4096 (60 + i) (omega arith) ∙ ap (slice_index db) (omega arith))

-- of the frames that recovery takes
module _ (image : Image) (frames : ℕ) (replays : Replays stored_page image.log frames) where
  pub fits_without : frames ≡ 0 → FitsLog image
  fits_without none others again =
      inl (replays_once stored_page image.log others frames again replays ∙ none)

  fits_with : (Fit : ℕ → ℕ → Type 0) → 100 ≤ length image.db
      → (IsWholeFirst image.db → Fit (file_version image.db) (version_after image frames))
      → FitsAs Fit image
  fits_with Fit long is others again =
      let same = replays_once stored_page image.log frames others replays again in
      inr (
        long,
        λ whole. subst (λ n. Fit (file_version image.db) (version_after image n)) same (is whole),
      )

  pub fits_torn : 100 ≤ length image.db → ¬ IsWholeFirst image.db → FitsLog image
  fits_torn long torn = fits_with IsOfFile long (λ whole. absurd (torn whole))

  pub short_is_other : frames ≢ 0 → length image.db < 100 → ¬ FitsMaking image
  short_is_other some short fits = elim (fits frames replays) [
    | inl none ↦ some none
    | inr is ↦ absurd (omega (arith, short, is.0))
  ]

  is_not_fit : (Fit : ℕ → ℕ → Type 0) → frames ≢ 0 → IsWholeFirst image.db
      → ¬ Fit (file_version image.db) (version_after image frames) → ¬ FitsAs Fit image
  is_not_fit Fit some whole other fits = elim (fits frames replays) [
    | inl none ↦ some none
    | inr is ↦ other (is.1 whole)
  ]

  -- where no frame has the first page
  pub fits_by_file : 100 ≤ length image.db
      → page_after stored_page image.log image.db 1 frames ≡ file_page stored_page image.db 1
      → FitsLog image
  fits_by_file long page =
      fits_with IsOfFile long
      (λ whole. inl (ap (λ (p : List ℕ). u32_at p 60) page ∙ version_in_file image.db))

  by_versions : (fit : LogFit) → frames ≢ 0 → IsWholeFirst image.db
      → IsVersionFit (file_version image.db) (version_after image frames) fit → IsLogFit image fit
  by_versions Fits some whole is = fits_with IsOfFile (omega (arith, whole.0)) (λ same. is)
  by_versions Begun some whole is = (
    fits_with IsOfMaking (omega (arith, whole.0)) (λ same. is.0),
    is_not_fit IsOfFile some whole is.1,
  )
  by_versions Other some whole other = is_not_fit IsOfMaking some whole other

  -- where one has it
  pub fits_by_log : (at file log : ℕ) (fit : LogFit)
      → page_after stored_page image.log image.db 1 frames
      ≡ content (frame stored_page image.log at)
      → file ≡ file_version image.db → log ≡ u32_at image.log (frame_at stored_page at + 84)
      → frames ≢ 0 → IsWholeFirst image.db → IsVersionFit file log fit → IsLogFit image fit
  fits_by_log at file log fit page in_file in_log some whole is =
      let version : log ≡ version_after image frames =
      in_log ∙ sym (version_in_frame image.log at)
      ∙ sym (ap (λ (p : List ℕ). u32_at p 60) page) in
      by_versions fit some whole (subst₂ (λ f v. IsVersionFit f v fit) in_file version is)

  -- a frame that recovery takes is in the file
  pub frame_within : (at : ℕ) → at < frames
      → frame_at stored_page at + 4120 ≤ length image.log
  frame_within at low = elim replays [
    | inl ignored ↦ absurd (omega (arith, ignored.1, low))
    | inr committed ↦ (committed.0.valid at low).within
  ]

  -- more frames than 32 bits number
  pub too_long : 4294967294 < frames → frame_at stored_page 4294967294 ≤ length image.log
  too_long many = elim replays [
    | inl ignored ↦ absurd (omega (arith, ignored.1, many))
    | inr committed ↦ omega (
      arith,
      committed_within stored_page image.log frames committed.0,
      frames_len-le stored_page 4294967294 frames (omega (arith, many)),
    )
  ]

pub is_of_making : (image : Image) → FitsLog image → FitsMaking image
is_of_making image fits frames replays = elim (fits frames replays) [
  | inl none ↦ inl none
  | inr is ↦ inr (is.0, λ whole. inr (is.1 whole))
]

page_of_next : (log db numbers : List ℕ) (at : ℕ) (last : Option ℕ) → HasFrames log numbers
    → at < length numbers
    → page_after stored_page log db 1 at ≡ first_page_by log db last
    → page_after stored_page log db 1 (suc at)
    ≡ first_page_by log db (if slice_index numbers at == 1 then Some at else last)
page_of_next log db numbers at last has low page =
    elim (cases_Bool (page_number (frame stored_page log at) == 1)) [
      | inl is ↦ rw (has at low, is) refl
      | inr other ↦ rw (has at low, other) page
    ]

-- the last frame that has the first page, among one more
pub page_step : (log db numbers : List ℕ) (at : ℕ) (last : Option ℕ) → HasFrames log numbers
    → at < length numbers
    → page_after stored_page log db 1 at ≡ first_page_by log db last
    → page_after stored_page log db 1 (at + 1)
    ≡ first_page_by log db (if slice_index numbers at == 1 then Some at else last)
page_step log db numbers at last has low page =
    let next : suc at ≡ at + 1 = omega arith in
    ap (page_after stored_page log db 1) (sym next)
    ∙ page_of_next log db numbers at last has low page

pub within_step : (count at : ℕ) (last : Option ℕ) (is : Bool) → at < count
    → IfSome last (λ n. n < count) → IfSome (if is then Some at else last) (λ n. n < count)
within_step count at last true low within = low
within_step count at last false low within = within
