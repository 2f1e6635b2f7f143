-- What a part of an answer is written as.
use Rattle.std.specs.Prelude.{ℕ, List}
use Rattle.script_writing.specs.Decimal.{decimal_text}
use Rattle.script_writing.specs.Shown.{shown_text}
use Rattle.script_writing.specs.declared.texts.Part.{Part}
use Rattle.script_writing.specs.declared.texts.Part.TheVariants as part

abbrev pub part_text : Part → List ℕ
part_text (part.Text words) = words.now
part_text (part.Number n) = decimal_text n
part_text (part.Bytes bytes) = shown_text bytes.now
