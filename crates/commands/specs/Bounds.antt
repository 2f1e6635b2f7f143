-- Bounds that a command keeps. What the system reads has no contract; that of the text is in `script`, `answers` and `answers_reader`.
use Rattle.std.specs.Prelude.{ℕ, ◌≤◌}
use Rattle.answers.specs.declared.Said.{Said}
use Rattle.answers.specs.Said.{said_count, handed_count}

-- the text fits the output, and what is handed back for `_` fits its buffer
pub record Fits (last out : ℕ) (r : Said) : Type 0 where
  pub text : said_count r ≤ out
  pub held : handed_count r ≤ last
