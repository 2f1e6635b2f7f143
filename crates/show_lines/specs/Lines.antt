-- The lines of a listing: where each begins and ends, and what it is. A line begins where the one before it ended. Where a length is not
-- true, the listing goes on with what is there: a line that is cut takes what is left of its part, and so does a list.
use Rattle.std.specs.Prelude.{ℕ, zero, suc, ◌+◌, ◌-◌, ◌<◌, ◌≤◌, min, ◌≡◌, Bool, cond, not, ◌&&◌, List, [], ◌∷◌, length, take, drop, get_or, eqb, leb, ltb}
use Rattle.std.proofs.Math.Option.{Option, none, some}
use Rattle.std.specs.Prelude.{Some, None}
use Rattle.std.specs.Prelude as std
use Rattle.std.specs.Option.{is_some}
use Rattle.wire.specs.Numbers.{number}
use Rattle.wire.specs.Sums.{indicator, total}
use Rattle.fingerprint_bodies.specs.Body.{kind}
use Rattle.fingerprint_bodies.specs.Entries.{bind}
use Rattle.fingerprint_bodies.specs.Forms.{varint_at}
use Rattle.fingerprint.specs.Code.{slot}
use Rattle.show_lines.specs.Grammar.{column, body_line}
use Rattle.show_lines.specs.declared.cursor.Line.{Line}

-- a place in the hello, what stands there, and the ends of the list, the body and the block that were last opened
pub record Cursor : Type 0 where
  pub at : ℕ
  pub what : ℕ
  pub list : ℕ
  pub body : ℕ
  pub block : ℕ

-- the columns of the grammar
abbrev pub front_of : ℕ → ℕ
front_of what = column what 0

abbrev pub width_of : ℕ → ℕ
width_of what = column what 1

-- what is as long as a line says stands on the line itself
abbrev pub is_vector : ℕ → Bool
is_vector what = eqb (column what 2) 1

-- or on lines of its own
abbrev pub opens : ℕ → Bool
opens what = eqb (column what 2) 2

abbrev pub part_of : ℕ → ℕ
part_of what = column what 3

-- the choice by part: the suites, the block, a body, its list, or the hello
abbrev pub by_part : {A : Type 0} → ℕ → A → A → A → A → A → A
by_part p suites block body list hello = cond (eqb p 1) suites (cond (eqb p 2) block (cond (eqb p 3) body (cond (eqb p 4) list hello)))

-- the end of the part in which a line stands, of a hello of n bytes
unfoldable pub part_end : ℕ → Cursor → ℕ
part_end n c = by_part (part_of c.what) c.list c.block c.body c.list n

-- ---- One line

-- a line's front: its bytes, and the length that it says
pub record Front : Type 0 where
  pub bytes : ℕ
  pub said : ℕ

-- what the code has of it: no front where it is cut, or where the line takes all that is left
abbrev pub line : ℕ → std.Option ℕ → ℕ → Line
line end front said = record { end = end; front = front; said = said }

-- a parameter's front: id and length, "with any varint widths"
unfoldable pub parameter_front : List ℕ → Option Front
parameter_front rest =
    bind (varint_at rest) (λ i.
    bind (varint_at i.rest) (λ n.
    some (record { bytes = length rest - length n.rest; said = n.value.number })))

-- any other: so many bytes, the last of which are the length
unfoldable pub fixed_front : ℕ → List ℕ → Option Front
fixed_front what rest =
    cond (leb (front_of what) (length rest))
    (some (record { bytes = front_of what; said = number 256 (take (width_of what) (drop (front_of what - width_of what) rest)) }))
    none

-- the line that begins at a place and has these bytes in its part: one whose front is cut takes them all, one that says more than there
-- are too
abbrev pub line_from : ℕ → ℕ → List ℕ → Option Front → Line
line_from what at rest none = line (at + length rest) None 0
line_from what at rest (some f) = line (at + cond (is_vector what) (min (f.bytes + f.said) (length rest)) f.bytes) (Some f.bytes) f.said

unfoldable pub line_of : ℕ → List ℕ → ℕ → Line
line_of what rest at =
    cond (eqb what 22) (line_from what at rest (parameter_front rest))
    (cond (eqb (front_of what) 0) (line (at + length rest) None 0) (line_from what at rest (fixed_front what rest)))

unfoldable pub line_at : List ℕ → Cursor → Line
line_at h c = line_of c.what (take (part_end (length h) c - c.at) (drop c.at h)) c.at

-- ---- What stands after it

abbrev pub in_hello : ℕ → ℕ → ℕ → ℕ
in_hello n at what = cond (ltb at n) what 26

-- after a body: the next extension; after the block: the rest of the hello
abbrev pub after_body : ℕ → ℕ → ℕ → ℕ
after_body n at block = cond (ltb at block) 9 (in_hello n at 25)

abbrev pub after_list : ℕ → ℕ → ℕ → ℕ → ℕ
after_list n at body block = cond (ltb at body) 24 (after_body n at block)

-- what is due, where its part goes on; else what stands after that part: after the suites, the compression
unfoldable pub settled : ℕ → Cursor → ℕ
settled n c =
    by_part (part_of c.what)
    (cond (ltb c.at c.list) c.what (in_hello n c.at 7))
    (after_body n c.at c.block)
    (cond (ltb c.at c.body) c.what (after_body n c.at c.block))
    (cond (ltb c.at c.list) c.what (after_list n c.at c.body c.block))
    (in_hello n c.at c.what)

abbrev pub settle : ℕ → Cursor → Cursor
settle n c = record { at = c.at; what = settled n c; list = c.list; body = c.body; block = c.block }

-- what stands inside: an extension's type says it; suites that say more than is left are not listed
unfoldable pub inside : List ℕ → Cursor → Line → ℕ
inside h c l =
    cond (eqb c.what 9) (body_line (slot (kind (number 256 (take 2 (drop c.at h))))))
    (cond (eqb c.what 5 && ltb (length h - l.end) l.said) 25 (column c.what 4))

-- the cursor at the first line inside, which ends the part in which that line stands
unfoldable pub opened : Cursor → ℕ → ℕ → ℕ → Cursor
opened c at what end =
    by_part (part_of what)
    (record { at = at; what = what; list = end; body = c.body; block = c.block })
    (record { at = at; what = what; list = c.list; body = c.body; block = end })
    (record { at = at; what = what; list = c.list; body = end; block = c.block })
    (record { at = at; what = what; list = end; body = c.body; block = c.block })
    (record { at = at; what = what; list = c.list; body = c.body; block = c.block })

-- what is due after a line that opens nothing: a first byte that is not 01 begins no ClientHello
unfoldable pub due : List ℕ → Cursor → ℕ
due h c = cond (eqb c.what 0 && not (eqb (get_or h c.at 0) 1)) 25 (column c.what 5)

unfoldable pub next : List ℕ → Cursor → Line → Cursor
next h c l =
    settle (length h)
    (cond (opens c.what && is_some l.front)
    (opened c l.end (inside h c l) (min (l.end + l.said) (part_end (length h) c)))
    (record { at = l.end; what = due h c; list = c.list; body = c.body; block = c.block }))

unfoldable pub start : List ℕ → Cursor
start h = settle (length h) (record { at = 0; what = 0; list = 0; body = 0; block = 0 })

-- ---- All lines

pub record Row : Type 0 where
  pub at : ℕ
  pub end : ℕ
  pub what : ℕ

abbrev pub row : ℕ → ℕ → ℕ → Row
row at end what = record { at = at; end = end; what = what }

-- a line takes a byte at least, so the count of the bytes is fuel enough
unfoldable pub listed : ℕ → List ℕ → Cursor → List Row
listed zero h c = []
listed (suc f) h c =
    cond (ltb c.at (length h)) (record { at = c.at; end = (line_at h c).end; what = c.what } ∷ listed f h (next h c (line_at h c))) []

-- "hello at most 16,384 bytes": no more are listed line by line, and the last line has the rest
unfoldable pub most : ℕ
most = 16384

unfoldable pub rows : List ℕ → List Row
rows h = listed (length (take most h)) (take most h) (start (take most h))

-- ---- What the lines are: one after the other they take every byte, and end at `end`

abbrev pub Tiles : ℕ → List Row → ℕ → Type 0
Tiles at [] end = at ≡ end
Tiles at (r ∷ rs) end = (r.at ≡ at) × (at < r.end) × Tiles r.end rs end

-- a place lies in a row; how many rows of a list it lies in
abbrev pub holds : ℕ → Row → Bool
holds p r = leb r.at p && ltb p r.end

unfoldable pub count_holding : ℕ → List Row → ℕ
count_holding p rs = total (λ r. indicator (holds p r)) rs

-- ---- What the code keeps from line to line

-- the ends of parts lie in a hello of n bytes, and the part of what stands at the cursor goes on there
pub record Ready (n : ℕ) (c : Cursor) : Type 0 where
  pub inside : c.at ≤ n
  pub list : c.list ≤ n
  pub body : c.body ≤ n
  pub block : c.block ≤ n
  pub goes_on : c.at < n → c.at < part_end n c

-- the bytes of a front, where there is one
abbrev pub front_bytes : std.Option ℕ → ℕ
front_bytes None = 0
front_bytes (Some n) = n

-- a line begins at the cursor, has a byte at least, and ends in its part
pub record Reaches (n : ℕ) (c : Cursor) (l : Line) : Type 0 where
  pub forward : c.at < l.end
  pub within : l.end ≤ part_end n c
  pub front : c.at + front_bytes l.front ≤ l.end
