-- `read_number` meets its contract: the value so far with the digits left makes the number of the whole text, and the digits passed are decimal. Assumes nothing.
use Rattle.std.proofs.Common.{◌≡◌, ◌^◌, ◌<◌, map, drop}
use Rattle.wire.specs.Numbers.{number_on}
use Rattle.script.specs.Scan.{all}
use Rattle.script.specs.Decimal.{is_decimal, decimal_value}
use Rattle.script.proofs.DecimalLaws.{value_of}
use Rattle.script.proofs.reading.read_number.Given as goal

abbrev pub invariant-loop-b : goal.invariant-loop-b
invariant-loop-b l =
    (l.v < 2 ^ 64) × (all is_decimal (drop l.b-index l.text) ≡ all is_decimal l.text) × (number_on 10 l.v (map decimal_value (drop l.b-index l.text)) ≡ value_of l.text)
