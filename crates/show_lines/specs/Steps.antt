-- The lines of a hello as the code goes over them.
use Rattle.std.specs.Prelude.{ℕ, ◌≡◌, ◌≤◌, ◌<◌, List, length, Option, None, Some}
use Rattle.show_lines.specs.Lines.{line_at, next, start, Ready, Reaches}
use Rattle.show_lines.specs.Rows.{cursor_of}
use Rattle.show_lines.specs.declared.cursor.Cursor.{Cursor}
use Rattle.show_lines.specs.declared.cursor.Line.{Line}
use Rattle.show_lines.specs.declared.cursor.Lines.{Lines}

-- a line may be asked for
abbrev pub GoesOn : Lines → Type 0
GoesOn s = (length s.hello.now ≤ 65536) × Ready (length s.hello.now) (cursor_of s.cursor)

-- the first line of a hello is asked for first
pub record Begins (h : List ℕ) (s : Lines) : Type 0 where
  pub hello : s.hello.now ≡ h
  pub first : cursor_of s.cursor ≡ start h
  pub goes_on : GoesOn s

-- the line at the cursor is given, and the next one is asked for next
pub record LineGiven (old : Lines) (c : Cursor) (line : Line) (new : Lines) : Type 0 where
  pub here : c ≡ old.cursor
  pub inside : c.at < length old.hello.now
  pub is : line ≡ line_at old.hello.now (cursor_of c)
  pub ready : Ready (length old.hello.now) (cursor_of c)
  pub reaches : Reaches (length old.hello.now) (cursor_of c) line
  pub hello : new.hello.now ≡ old.hello.now
  pub next : cursor_of new.cursor ≡ next old.hello.now (cursor_of c) line
  pub forward : c.at < new.cursor.at

-- or there is none, and nothing changes
abbrev pub GivesLine : Lines → Option (Cursor × Line) → Lines → Type 0
GivesLine old None new = (length old.hello.now ≤ old.cursor.at) × (new ≡ old)
GivesLine old (Some (c, line)) new = LineGiven old c line new
