-- What an attestation report tells.
use Rattle.std.specs.Prelude.{ℕ, Bool, Option, option_map}
use Rattle.device_types.specs.{declared.{bounds.Bounds.Bounds, report_view.ReportView.ReportView, version.Version.Version}, Address.Bytes}

-- the step that finished the call, the EXEC flag, the second flag and the counter of the request
-- (false and 0 in version 1), challenge and bounds, the bytes of OR where they are valid, the MAC
pub record ReportFields : Type 0 where
  pub version : Version
  pub step : ℕ
  pub exec : Bool
  pub aux : Bool
  pub count : ℕ
  pub chal : Bytes
  pub bounds : Bounds
  pub output : Option Bytes
  pub mac : Bytes

-- what a view of memory tells
abbrev pub fields_of : ReportView → ReportFields
fields_of view =
    record {
      version = view.version;
      step = view.step;
      exec = view.exec;
      aux = view.aux;
      count = view.count;
      chal = view.chal;
      bounds = view.bounds;
      output = option_map (λ bytes. bytes.now) view.output;
      mac = view.mac;
    }
