-- What `show` and `show-frames` say: a listing, with the reader's or the joiner's stop.
use Rattle.std.specs.Prelude.{ℕ, ◌+◌, ◌≤◌, ◌<◌, ◌⊎◌, List, ◌++◌, length}
use Rattle.frames.specs.Stops.{join_stops}
use Rattle.fingerprint_stops.specs.Stops.{stopped_at}
use Rattle.show_marks.specs.Text.{verdict_parts, LinesParts}
use Rattle.show_hello.specs.Listing.{all_rows}
use Rattle.show_frames.specs.Frames.{rows_of, room, shown_rows}
use Rattle.answers.specs.Said.{plain, said_count, Says}
use Rattle.answers.specs.declared.Said.{Said}

-- `show HELLO`: the verdict, a line for each row of the hello, and the last
pub record ShowsHello (h : List ℕ) (r : Said) (old new : List ℕ) : Type 0 where
  pub lines : List (List ℕ)
  pub are : LinesParts 4 h (stopped_at h) (all_rows h) lines
  pub says : Says plain (verdict_parts 4 (stopped_at h) ++ lines) r old new

-- `show-frames FRAMES`: the same of frames, as many of their lines as there is room for
pub record ShowsFrames (bs : List ℕ) (r : Said) (old new : List ℕ) : Type 0 where
  pub count : ℕ
  pub lines : List (List ℕ)
  pub are : LinesParts 5 bs (join_stops bs) (shown_rows count bs) lines
  pub whole : (length (rows_of bs) ≤ count) ⊎ (length old < said_count r + room)
  pub says : Says plain (verdict_parts 5 (join_stops bs) ++ lines) r old new
