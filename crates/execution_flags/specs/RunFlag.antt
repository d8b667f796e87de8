-- A flag of a run, and which records it stands for having seen.
use Rattle.std.{specs.Prelude.{◌≡◌, Bool, refl}, proofs.Common.{◌∙◌, sym}}
use Rattle.device_types.specs.{ExecFlag.{SeenHistory, is_set, exec, clears}, TraceFlag.Flag}
use Rattle.execution_flags.specs.declared.run_flag.RunFlag.{RunFlag}
use Rattle.part_definitions.specs.TrustedFlag.{aux, clears_aux}

-- the flag is as these records, the newest first, left it
abbrev pub RunFlagStandsFor :
    {C : Type 0} → (SeenHistory → Bool) → RunFlag C → SeenHistory → Type 0
RunFlagStandsFor value flag records = flag.is_set ≡ value records

abbrev pub flag_of_run : {C : Type 0} → (SeenHistory → Bool) → Flag (RunFlag C)
flag_of_run value =
    record {
      value = value;
      has_seen = RunFlagStandsFor value;
      passes = λ flag now before seen same. seen ∙ sym same;
    }

-- The second flag is a flag of a run.

pub aux-of_run : (records : SeenHistory) → aux records ≡ is_set clears_aux records
unfolding aux
aux-of_run records = refl

-- The EXEC flag is a flag of a run.

pub exec-of_run : (records : SeenHistory) → exec records ≡ is_set clears records
unfolding exec
exec-of_run records = refl
