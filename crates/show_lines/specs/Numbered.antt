-- A cursor of the code that has a number, which may be one that no row of the grammar has.
use Rattle.std.specs.Prelude.{ℕ, cond, ltb}
use Rattle.show_lines.specs.Lines.{Cursor}
use Rattle.show_lines.specs.declared.by_number.Cursor as code

abbrev pub cursor_by : code.Cursor → Cursor
cursor_by c = record { at = c.at; what = c.what; list = c.list; body = c.body; block = c.block }

-- the row that stands for a number: its own, or that of what is left of the hello
abbrev pub known_number : ℕ → ℕ
known_number what = cond (ltb what 27) what 25

abbrev pub known : Cursor → Cursor
known c = record { at = c.at; what = known_number c.what; list = c.list; body = c.body; block = c.block }
