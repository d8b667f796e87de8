-- The names of faults.
use Rattle.std.specs.Prelude.{ℕ, List, [], ◌∷◌, codes}
use Rattle.text_scan.specs.{declared.fault_kind.FaultKind.{FaultKind, TheVariants.{TooLong, Utf8, Word, Digit, Count, Range, Extra, Missing, Order, Bounds, Output, NoColon, Check, RecordType, Place, AfterEnd, NoEnd, Syntax, Mnemonic, Operand, Undefined, Twice, Overlap}}}
use Rattle.named_value.specs.Names.{Names}

abbrev pub fault_name : FaultKind → List ℕ
fault_name TooLong = codes "TooLong"
fault_name Utf8 = codes "Utf8"
fault_name Word = codes "Word"
fault_name Digit = codes "Digit"
fault_name Count = codes "Count"
fault_name Range = codes "Range"
fault_name Extra = codes "Extra"
fault_name Missing = codes "Missing"
fault_name Order = codes "Order"
fault_name Bounds = codes "Bounds"
fault_name Output = codes "Output"
fault_name NoColon = codes "NoColon"
fault_name Check = codes "Check"
fault_name RecordType = codes "RecordType"
fault_name Place = codes "Place"
fault_name AfterEnd = codes "AfterEnd"
fault_name NoEnd = codes "NoEnd"
fault_name Syntax = codes "Syntax"
fault_name Mnemonic = codes "Mnemonic"
fault_name Operand = codes "Operand"
fault_name Undefined = codes "Undefined"
fault_name Twice = codes "Twice"
fault_name Overlap = codes "Overlap"

abbrev pub fault_names : Names FaultKind
fault_names = record {
  values =
      TooLong ∷ Utf8 ∷ Word ∷ Digit ∷ Count ∷ Range ∷ Extra ∷ Missing ∷ Order ∷ Bounds ∷ Output
      ∷ NoColon ∷ Check ∷ RecordType ∷ Place ∷ AfterEnd ∷ NoEnd ∷ Syntax ∷ Mnemonic ∷ Operand
      ∷ Undefined ∷ Twice ∷ Overlap ∷ [];
  name = fault_name;
}
