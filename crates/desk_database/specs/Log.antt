-- Whether a log is that of a file's last opening, by SQLite's user version.
use Rattle.std.specs.Prelude.{◌≡◌, ◌⊎◌, ◌<◌, ◌≤◌, ℕ, List, Option, None, Some, length, slice_index, take, drop, ◌==◌, ◌+◌, ◌%◌, ◌^◌, if◌then◌else◌, [], ◌∷◌}
use Rattle.sqlite_pool.specs.{Header.user_version, Stored.sum_bytes}
use Rattle.sqlite_wal.specs.{Format.{content, page_number}, Recovery.{Image, Replays, file_page, frame, page_after}}
use Rattle.desk_database.specs.{MemoryTables.page_size, declared.{first_page.FirstPage.{FirstPage, TheVariants.{Short, Torn, Whole}}, log_fit.LogFit.{LogFit, TheVariants.{Begun, Fits, Other}}}}
use Rattle.sqlite_value.specs.Order.{Row, column}
use Rattle.sqlite_trees.specs.{Objects.{number_in, version_tree, with_version}, Tree.Trees}

-- SQLite's user version counts the commits of a memory.

abbrev pub user_version_in : List Row → ℕ
user_version_in [] = 0
user_version_in (row ∷ more) = number_in (column row 1)

abbrev pub version_of : Trees → ℕ
version_of trees = user_version_in (trees version_tree)

abbrev pub next_version : ℕ → ℕ
next_version version = (version + 1) % 2 ^ 32

-- these trees, counted once more
abbrev pub with_next_version : Trees → Trees
with_next_version trees = with_version trees (next_version (version_of trees))

-- The version of a memory that is made: a new one, or the next where a making before was cut off.
abbrev pub first_version : ℕ → ℕ → ℕ
first_version version new = if version == 0 then new else next_version version

-- these trees, once a memory is made over them
abbrev pub with_first_version : Trees → ℕ → Trees
with_first_version trees new = with_version trees (first_version (version_of trees) new)

-- the bytes of a page as it is stored
abbrev pub stored_page : ℕ
stored_page = 4096

-- behind so many bytes of a page stands their sum (SQLite's cksumvfs)
abbrev pub EndsWithSum : ℕ → List ℕ → Type 0
EndsWithSum size page = drop size page ≡ sum_bytes (take size page)

-- The first page of the database file is whole. A crash that cuts off its copy from the log leaves
-- any bytes of it.
abbrev pub IsWholeFirst : List ℕ → Type 0
IsWholeFirst db = (stored_page ≤ length db) × EndsWithSum page_size (file_page stored_page db 1)

-- the version that the header of the database file says
abbrev pub file_version : List ℕ → ℕ
file_version db = user_version db

-- what the database file has as its first page
abbrev pub IsFirstPage : List ℕ → FirstPage → Type 0
IsFirstPage db Short = length db < 100
IsFirstPage db Torn = (100 ≤ length db) × ¬ IsWholeFirst db
IsFirstPage db (Whole version) = IsWholeFirst db × (version ≡ file_version db)

-- the version of the first page behind the first frames of the log, so many as these
abbrev pub version_after : Image → ℕ → ℕ
version_after image frames = user_version (page_after stored_page image.log image.db 1 frames)

-- a log's version is that of its file, or one more
abbrev pub IsOfFile : ℕ → ℕ → Type 0
IsOfFile file version = (version ≡ file) ⊎ (version ≡ next_version file)

-- the same, or no commit of a memory was copied into the file yet
abbrev pub IsOfMaking : ℕ → ℕ → Type 0
IsOfMaking file version = (file ≡ 0) ⊎ IsOfFile file version

-- Where recovery takes a frame of a log there is a database file, and if its first page is whole
-- the versions of the two fit. If that page is not whole a copy of it was cut off, and the log is
-- the one that it was copied from.
abbrev pub FitsAs : (ℕ → ℕ → Type 0) → Image → Type 0
FitsAs Fit image =
    (frames : ℕ) → Replays stored_page image.log frames
    → (frames ≡ 0)
    ⊎ ((100 ≤ length image.db)
    × (IsWholeFirst image.db → Fit (file_version image.db) (version_after image frames)))

-- the log is of the last opening of its file
abbrev pub FitsLog : Image → Type 0
FitsLog image = FitsAs IsOfFile image

-- or of a making that was cut off
abbrev pub FitsMaking : Image → Type 0
FitsMaking image = FitsAs IsOfMaking image

-- recovery can take what the log has
abbrev pub CanReplay : List ℕ → Type 0
CanReplay log = (frames : ℕ) × Replays stored_page log frames

-- what was found of the versions of a file and of its log
abbrev pub IsVersionFit : ℕ → ℕ → LogFit → Type 0
IsVersionFit file version Fits = IsOfFile file version
IsVersionFit file version Begun = IsOfMaking file version × ¬ IsOfFile file version
IsVersionFit file version Other = ¬ IsOfMaking file version

-- what was found of a log
abbrev pub IsLogFit : Image → LogFit → Type 0
IsLogFit image Fits = FitsLog image
IsLogFit image Begun = FitsMaking image × ¬ FitsLog image
IsLogFit image Other = ¬ FitsMaking image

-- the first page by the last frame that has it, or else by the database file
abbrev pub first_page_by : List ℕ → List ℕ → Option ℕ → List ℕ
first_page_by log db None = file_page stored_page db 1
first_page_by log db (Some at) = content (frame stored_page log at)

-- the log has frames of these pages
abbrev pub HasFrames : List ℕ → List ℕ → Type 0
HasFrames log numbers =
    (i : ℕ) → i < length numbers
    → slice_index numbers i ≡ page_number (frame stored_page log i)
