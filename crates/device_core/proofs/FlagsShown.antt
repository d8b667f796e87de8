-- What memory shows of the flags after a step.
use Rattle.std.proofs.Common.{◌≡◌, ◌∙◌, Bool, true, false, ◌∷◌, map, if◌then◌else◌, refl, sym, ap}
use mathlib.Core.Bool.{beq}
use Rattle.device_types.specs.{TraceFlag.Flag, ExecFlag.{SeenRecord, SeenHistory}}
use Rattle.device_trace.specs.{Blank.blank_seen, Logs.{aux_shown, flags_shown, goes_on_in_call, records_until_call}, Start.Start}
use Rattle.device_core.specs.FlagsKept.{LeavesFlags}

until-more :
    (now : SeenRecord) (before : SeenHistory) (stays : Bool)
    → goes_on_in_call now.entry ≡ stays
    → records_until_call (now ∷ before)
    ≡ (if stays then records_until_call before else now ∷ before)
until-more now before stays is = rw is refl

-- the second flag is shown anew after each step but those of a call after its first
pub aux-more :
    (start : Start) (now : SeenRecord) (before : SeenHistory) (stays is_set : Bool)
    → stays ≡ goes_on_in_call now.entry
    → is_set ≡ start.second_flag (map blank_seen (now ∷ before))
    → (if stays then aux_shown start before else is_set) ≡ aux_shown start (now ∷ before)
aux-more start now before true is_set is same =
    ap (λ records. start.second_flag (map blank_seen records))
    (sym (until-more now before true (sym is)))
aux-more start now before false is_set is same =
    same
    ∙ ap (λ records. start.second_flag (map blank_seen records))
    (sym (until-more now before false (sym is)))

either-same :
    (stays shown was is : Bool)
    → shown ≡ was → is ≡ was → (if stays then shown else is) ≡ shown
either-same true shown was is same kept = refl
either-same false shown was is same kept = kept ∙ sym same

-- steps that leave both flags as they are leave what is shown
pub flags-kept :
    {G : Type 0} (flag : Flag G) (start : Start) (now : SeenRecord) (before : SeenHistory)
    → start.second_flag ≡ flag.value
    → aux_shown start before ≡ flag.value (map blank_seen before)
    → LeavesFlags flag now before
    → flags_shown start (now ∷ before) ≡ flags_shown start before
flags-kept flag start now before same shown leaves =
    let after :
    start.second_flag (map blank_seen (now ∷ before)) ≡ flag.value (map blank_seen before) =
    rw same leaves.same_second in
    let aux : aux_shown start (now ∷ before) ≡ aux_shown start before =
    sym (aux-more start now before (goes_on_in_call now.entry)
    (start.second_flag (map blank_seen (now ∷ before))) refl refl)
    ∙ either-same (goes_on_in_call now.entry) _ _ _ shown after in
    rw (aux, leaves.same_exec) refl

-- two flags that compare as equal
pub same_where_equal : (x y : Bool) → beq x y ≡ true → x ≡ y
same_where_equal true true same = refl
same_where_equal true false same = sym same
same_where_equal false true same = same
same_where_equal false false same = refl
