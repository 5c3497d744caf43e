-- The text of a fault: its name, then its values in decimal after one space each.
use Rattle.std.specs.Prelude.{ℕ, List, ◌++◌, codes}
use Rattle.std.specs.Fmt.{decimal}
use Rattle.price_certificate.specs.declared.verdict.Fault.{Fault}
use Rattle.price_certificate.specs.declared.verdict.Fault.TheVariants.{WrongLengths, BadNumber, ItemTwice, OutOfReach, OverLimit, PriceTooLow, SumsDiffer}

abbrev pub fault_line : Fault → List ℕ
fault_line WrongLengths = codes "WrongLengths"
fault_line (BadNumber place) = codes "BadNumber " ++ decimal place
fault_line (ItemTwice item) = codes "ItemTwice " ++ decimal item
fault_line (OutOfReach item bin) = codes "OutOfReach " ++ (decimal item ++ (codes " " ++ decimal bin))
fault_line (OverLimit bin) = codes "OverLimit " ++ decimal bin
fault_line (PriceTooLow item bin) = codes "PriceTooLow " ++ (decimal item ++ (codes " " ++ decimal bin))
fault_line (SumsDiffer prices weight) = codes "SumsDiffer " ++ (decimal prices ++ (codes " " ++ decimal weight))
