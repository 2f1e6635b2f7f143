-- The answers to `report` and `alike`, part by part, in the words of the script language. Those to `name` and `set` are in `reports`.
use Rattle.std.specs.Prelude.{ℕ, Bool, true, false, List, [], ◌∷◌}
use Rattle.wire.specs.Answer.{Answer, result, refused}
use Rattle.fingerprint.specs.ClientHello.{ClientHello}
use Rattle.fingerprint.specs.Report.{report}
use Rattle.reports.specs.Lines.{report_text}
use Rattle.script_writing.specs.Decimal.{decimal_text}
use Rattle.answers.specs.Answers.{refused_word}

-- "yes"
abbrev pub yes_word : List ℕ
yes_word = 121 ∷ 101 ∷ 115 ∷ []

-- "no"
abbrev pub no_word : List ℕ
no_word = 110 ∷ 111 ∷ []

-- `report HELLO`: the report's lines, or `refused N`
abbrev pub report_answer : Answer ClientHello → List (List ℕ)
report_answer (result v) = report_text (report v)
report_answer (refused n) = refused_word ∷ decimal_text n ∷ []

-- "`yes` or `no`"
abbrev pub alike_parts : Bool → List (List ℕ)
alike_parts true = yes_word ∷ []
alike_parts false = no_word ∷ []
