-- What a policy says: the bounds and the flag that reports shall name, and the requests that were
-- sent.
use Rattle.std.specs.{Prelude.{ℕ, List, Option, Some, None}, List.slice_get}
use Rattle.device_types.specs.{declared.{bounds.Bounds.Bounds, version.Version.Version}}
use Rattle.report_verifier.specs.{declared.{flag_kind.FlagKind.FlagKind, asked.Asked.Asked, expect.Expect.Expect}}

pub record PolicyFields : Type 0 where
  pub version : Version
  pub bounds : Bounds
  pub flag : FlagKind
  pub requests : List Asked

-- what a report on a request shall name
abbrev pub expectation : PolicyFields → Option Asked → Option Expect
expectation policy None = None
expectation policy (Some asked) =
    Some (
    record {
      version = policy.version;
      chal = asked.chal;
      count = asked.count;
      bounds = policy.bounds;
      flag = policy.flag;
    }
    )

-- what report i shall name, from 0
abbrev pub expect_at : PolicyFields → ℕ → Option Expect
expect_at policy i = expectation policy (slice_get policy.requests i)
