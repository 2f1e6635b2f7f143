-- Where the joiner stops: the number of the refusal (document 01, questions 10 to 15) and the place in the list of frames.
use Rattle.std.specs.Prelude.{ℕ, zero, suc, ◌+◌, ◌≡◌, cond, List, [], ◌∷◌, length, drop}
use Rattle.std.specs.Prelude as std
use Rattle.std.proofs.Math.Option.{Option, none, some}
use Rattle.wire.specs.Answer.{Answer, result, refused}
use Rattle.wire.specs.Stops.{Stopped, stopped, stop_of, StopBounds}
use Rattle.wire.specs.declared.Stop.{Stop}
use Rattle.frames.specs.Frame.{Piece}
use Rattle.frames.specs.Read.{read_frame, extent}
use Rattle.frames.specs.Join.{place_frame, join, roomy, out_after, marks_after}

-- `and_then` with the place at which the question is asked: a refusal stops there
abbrev pub stop_at : {A : Type 0} → ℕ → Answer A → (A → Option Stopped) → Option Stopped
stop_at at (result a) next = next a
stop_at at (refused n) next = some (stopped n at)

-- the first of two stops
abbrev pub first_stop : Option Stopped → Option Stopped → Option Stopped
first_stop none next = next
first_stop (some s) next = some s

-- where `place_all` stops: at the frame that is refused, whose place in the list is `at`
unfoldable pub place_stops : ℕ → ℕ → List ℕ → List Piece → Option Stopped
place_stops zero at bs placed = none
place_stops (suc n) at [] placed = none
place_stops (suc n) at (b ∷ bs) placed =
    stop_at at (read_frame (b ∷ bs))
    (λ f. stop_at at (place_frame (b ∷ bs) f placed)
    (λ more. place_stops n (at + extent f) (drop (extent f) (b ∷ bs)) more))

-- where `join` stops: 11 to 14 at a frame; once all frames are placed, 15 at the end of the list
unfoldable pub join_stops : List ℕ → Option Stopped
join_stops bs = first_stop (place_stops (length bs) 0 bs []) (stop_at (length bs) (join bs) (λ s. none))

-- 10, which is asked before any frame, at place 0
unfoldable pub joiner_stops : List ℕ → List ℕ → List ℕ → Option Stopped
joiner_stops bs out marks = cond (roomy out marks) (join_stops bs) (some (stopped 10 0))

-- ---- What the answer of the code promises

pub record StopsAt (bs out marks : List ℕ) (r : std.Option Stop) (out' marks' : List ℕ) : Type 0 where
  pub is : stop_of r ≡ joiner_stops bs out marks
  pub output : out' ≡ out_after bs out marks
  pub marked : marks' ≡ marks_after bs out marks
  pub bounds : StopBounds (length bs) r
