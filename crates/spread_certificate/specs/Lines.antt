-- The text of a fault: its name, then its values in decimal after one space each, or the text of the fault that it has.
use Rattle.std.specs.Prelude.{ℕ, List, ◌++◌, codes}
use Rattle.std.specs.Fmt.{decimal}
use Rattle.price_certificate.specs.Lines.{fault_line}
use Rattle.spread_certificate.specs.declared.verdict.EvenFault.{EvenFault}
use Rattle.spread_certificate.specs.declared.verdict.EvenFault.TheVariants as even
use Rattle.spread_certificate.specs.declared.verdict.SpreadFault.{SpreadFault}
use Rattle.spread_certificate.specs.declared.verdict.SpreadFault.TheVariants as spread

abbrev pub even_line : EvenFault → List ℕ
even_line even.NoJobs = codes "NoJobs"
even_line (even.SlackTooHigh slack) = codes "SlackTooHigh " ++ decimal slack
even_line even.WrongLengths = codes "WrongLengths"
even_line (even.CoversOther witness plan) = codes "CoversOther " ++ (decimal witness ++ (codes " " ++ decimal plan))
even_line (even.LeavesOther witness plan) = codes "LeavesOther " ++ (decimal witness ++ (codes " " ++ decimal plan))
even_line (even.Witness fault) = codes "Witness " ++ fault_line fault
even_line (even.LevelTooHigh collector) = codes "LevelTooHigh " ++ decimal collector
even_line (even.PriceTooLow item bin) = codes "PriceTooLow " ++ (decimal item ++ (codes " " ++ decimal bin))
even_line (even.SumsDiffer prices worth) = codes "SumsDiffer " ++ (decimal prices ++ (codes " " ++ decimal worth))
even_line (even.OffLevel collector) = codes "OffLevel " ++ decimal collector
even_line (even.CapsTooHigh collector) = codes "CapsTooHigh " ++ decimal collector

abbrev pub spread_line : SpreadFault → List ℕ
spread_line spread.WrongCaps = codes "WrongCaps"
spread_line (spread.CapTooHigh bin) = codes "CapTooHigh " ++ decimal bin
spread_line (spread.Free fault) = codes "Free " ++ fault_line fault
spread_line (spread.Within fault) = codes "Within " ++ fault_line fault
spread_line (spread.Even fault) = codes "Even " ++ even_line fault
