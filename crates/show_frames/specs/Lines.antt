-- The lines of frames as the code goes over them.
use Rattle.std.specs.Prelude.{ℕ, ◌≡◌, ◌+◌, ◌≤◌, ◌<◌, length, drop, Option, None, Some}
use Rattle.show_frames.specs.Frames.{line_size}
use Rattle.show_frames.specs.declared.Lines.{Lines}

-- the line at the place, after which the lines go on where it ends; or there is none, and the place stays
abbrev pub GivesLine : Lines → Option (ℕ × ℕ) → Lines → Type 0
GivesLine old None new = (length old.frames.now ≤ old.at) × (new.at ≡ old.at)
GivesLine old (Some (at, size)) new =
    (at ≡ old.at) × (at < length old.frames.now) × (size ≡ line_size (drop at old.frames.now)) × (1 ≤ size)
    × (at + size ≤ length old.frames.now) × (new.at ≡ at + size) × (new.frames.now ≡ old.frames.now)
