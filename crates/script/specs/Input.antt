-- The lines of a script, from what is read of it chunk by chunk.
use Rattle.std.specs.Prelude.{◌≡◌, ℕ, ◌+◌, ◌-◌, ◌%◌, ◌^◌, ◌≤◌, Bool, true, false, cond, ◌||◌, List, length, take, drop, ◌==◌, nat_le, nat_lt}
use Rattle.wire.specs.Front.{front_at}
use Rattle.script.specs.Scan.{distance}
use Rattle.script.specs.declared.input.Input.{Input}

abbrev pub line_feed : ℕ
line_feed = 10

-- before the first read: line 1, nothing taken
abbrev pub start_of : Input
start_of = record { start = 0; end = 0; length = 0; number = 1; long = false; whole = false; over = false }

-- at the script's end, what has been taken of a line is a line
abbrev pub ended_of : Input → Input
ended_of s =
    record { start = 0; end = 0; length = s.length; number = s.number; long = s.long; whole = s.long || nat_lt 0 s.length; over = true }

-- n bytes read, to the chunk's front; none at the script's end
abbrev pub filled_of : Input → ℕ → Input
filled_of s n =
    cond (n == 0) (ended_of s)
    (record { start = 0; end = n; length = s.length; number = s.number; long = s.long; whole = s.whole; over = s.over })

-- the chunk's bytes that are still to be taken, and of these the line's
abbrev pub pending : List ℕ → Input → List ℕ
pending chunk s = take (s.end - s.start) (drop s.start chunk)

abbrev pub part_of : List ℕ → Input → List ℕ
part_of chunk s = take (distance line_feed (pending chunk s)) (pending chunk s)

-- whether n bytes more fit a line of at most so many
abbrev pub fits : ℕ → ℕ → Input → Bool
fits n most s = nat_le n (most - s.length)

-- "A line may have up to 524,288 bytes": what does not fit makes it too long
abbrev pub appended_of : ℕ → ℕ → Input → Input
appended_of n most s =
    record {
      start = s.start;
      end = s.end;
      length = cond (fits n most s) (s.length + n) s.length;
      number = s.number;
      long = cond (fits n most s) s.long true;
      whole = s.whole;
      over = s.over;
    }

-- the chunk is taken up to a place; where it has a byte there, that is the line feed
abbrev pub passed_of : Input → ℕ → Input
passed_of s place =
    record {
      start = cond (nat_lt place s.end) (place + 1) place;
      end = s.end;
      length = s.length;
      number = s.number;
      long = s.long;
      whole = cond (nat_lt place s.end) true s.whole;
      over = s.over;
    }

-- the next line: its number is one more
abbrev pub next_line_of : Input → Input
next_line_of s =
    record { start = s.start; end = s.end; length = 0; number = (s.number + 1) % 2 ^ 64; long = false; whole = false; over = s.over }

-- the bytes still to be taken lie in the chunk, and those taken in the line
pub record Held (chunk line : ℕ) (s : Input) : Type 0 where
  pub order : s.start ≤ s.end
  pub read : s.end ≤ chunk
  pub taken : s.length ≤ line

-- what adding bytes to the line promises
pub record Appended (part : List ℕ) (s r : Input) (old new : List ℕ) : Type 0 where
  pub is : r ≡ appended_of (length part) (length old) s
  pub output : new ≡ cond (fits (length part) (length old) s) (front_at s.length part old) old
  pub within : r.length ≤ length old

-- what taking bytes of the chunk promises
pub record Taken (chunk : List ℕ) (s r : Input) (old new : List ℕ) : Type 0 where
  pub is : r ≡ passed_of (appended_of (length (part_of chunk s)) (length old) s) (s.start + length (part_of chunk s))
  pub output : new ≡ cond (fits (length (part_of chunk s)) (length old) s) (front_at s.length (part_of chunk s) old) old
  pub held : Held (length chunk) (length old) r
