-- Lines: "a command and its operands, parted by single spaces".
use Rattle.std.specs.Prelude.{ℕ, zero, suc, ◌+◌, ◌-◌, Bool, cond, not, ◌&&◌, List, [], length, take, drop, nat_lt, Option, Some, None}
use Rattle.std.specs.Option.{is_some}
use Rattle.script.specs.Scan.{space, find_of}
use Rattle.script.specs.declared.words.Word as code

-- where a word of a line stands
abbrev pub Word : Type 0
Word = code.Word

-- the word with k words before it, of those from a place on: each ends at the next space or at the line's end
unfoldable pub word_from : List ℕ → ℕ → ℕ → Option Word
word_from line zero at = Some (record { start = at; end = find_of line at space })
word_from line (suc k) at = cond (nat_lt (find_of line at space) (length line)) (word_from line k (find_of line at space + 1)) None

unfoldable pub word_of : List ℕ → ℕ → Option Word
word_of line k = word_from line k 0

abbrev pub is_there : Option Word → Bool
is_there w = is_some w

-- a word's bytes
abbrev pub word_text : List ℕ → Option Word → List ℕ
word_text line (Some w) = take (w.end - w.start) (drop w.start line)
word_text line None = []

-- just so many operands after the command: the last of them is there, and none after it
unfoldable pub has_operands : List ℕ → ℕ → Bool
has_operands line n = is_there (word_of line n) && not (is_there (word_of line (n + 1)))
