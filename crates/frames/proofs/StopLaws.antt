-- Where the joiner stops: the number is that of its answer, and the place lies in the list of frames or at its end. Assumes nothing.
use Prim.Native.Nat.{ℕ, zero, suc, ◌+◌, ◌≤◌, ◌<◌}
use mathlib.Core.Path.{◌≡◌, refl}
use mathlib.Core.List.{List, [], ◌∷◌}
use mathlib.Core.Option.{Option, none, some}
use native.Mathlib.Omega.{arith}
use lib.ListN.{length, drop, length-drop}
use Rattle.wire.specs.Answer.{Answer, result, refused, and_then}
use Rattle.wire.proofs.AnswerLaws.{apart}
use Rattle.wire.specs.Stops.{Stopped, stopped, Numbered, StopWithin}
use Rattle.frames.specs.Frame.{Piece}
use Rattle.frames.specs.Read.{read_frame, extent}
use Rattle.frames.specs.declared.reading.Frame.{Frame}
use Rattle.frames.specs.Join.{place_frame, place_all, close, join}
use Rattle.frames.specs.Stops.{stop_at, first_stop, place_stops, join_stops}
use Rattle.frames.proofs.ReadBack.{extent-bounds}

-- ---- a turn of `place_stops`

pub stop-none : (n at : ℕ) (bs : List ℕ) (placed : List Piece) → length bs ≤ 0 → place_stops n at bs placed ≡ none
unfolding place_stops
stop-none zero at bs placed h = refl
stop-none (suc n) at [] placed h = refl
stop-none (suc n) at (b ∷ bs) placed h = absurd (omega arith)

pub stop-read : (n at : ℕ) (bs : List ℕ) (placed : List Piece) (s : Frame) → read_frame bs ≡ result s
    → place_stops (suc n) at bs placed ≡ stop_at at (place_frame bs s placed) (λ more. place_stops n (at + extent s) (drop (extent s) bs) more)
unfolding place_stops read_frame
stop-read n at [] placed s e = absurd (apart e)
stop-read n at (b ∷ bs) placed s e = rw e

pub stop-unread : (n at : ℕ) (bs : List ℕ) (placed : List Piece) (k : ℕ) → 0 < length bs → read_frame bs ≡ refused k
    → place_stops (suc n) at bs placed ≡ some (stopped k at)
unfolding place_stops
stop-unread n at [] placed k h e = absurd (omega arith)
stop-unread n at (b ∷ bs) placed k h e = rw e

-- ---- a question, and what follows it

numbered-then : {A B : Type 0} (a : Answer A) (at : ℕ) (f : A → Option Stopped) (g : A → Answer B) → ((x : A) → Numbered (f x) (g x))
    → Numbered (stop_at at a f) (and_then a g)
numbered-then (result x) at f g h = h x
numbered-then (refused n) at f g h = refl

within-then : {A : Type 0} (n : ℕ) (a : Answer A) (at : ℕ) (f : A → Option Stopped) → at ≤ n → ((x : A) → a ≡ result x → StopWithin n (f x))
    → StopWithin n (stop_at at a f)
within-then n (result x) at f l h = h x refl
within-then n (refused k) at f l h = l

-- ---- all frames

place-numbered : (n at : ℕ) (bs : List ℕ) (placed : List Piece) → Numbered (place_stops n at bs placed) (place_all n bs placed)
unfolding place_stops place_all
place-numbered zero at bs placed = tt
place-numbered (suc n) at [] placed = tt
place-numbered (suc n) at (b ∷ bs) placed =
    numbered-then (read_frame (b ∷ bs)) at _ _
    (λ f.
    numbered-then (place_frame (b ∷ bs) f placed) at _ _
    (λ more. place-numbered n (at + extent f) (drop (extent f) (b ∷ bs)) more))

place-within : (most n at : ℕ) (bs : List ℕ) (placed : List Piece) → at + length bs ≤ most → StopWithin most (place_stops n at bs placed)
unfolding place_stops
place-within most zero at bs placed h = tt
place-within most (suc n) at [] placed h = tt
place-within most (suc n) at (b ∷ bs) placed h =
    within-then most (read_frame (b ∷ bs)) at _ (omega arith)
    (λ f e.
    within-then most (place_frame (b ∷ bs) f placed) at _ (omega arith)
    (λ more l.
    place-within most n (at + extent f) (drop (extent f) (b ∷ bs)) more
    (omega (arith, length-drop (extent f) (b ∷ bs), extent-bounds (b ∷ bs) f e))))

numbered-whole : {A : Type 0} (at : ℕ) (a : Answer A) → Numbered (stop_at at a (λ s. none)) a
numbered-whole at (result s) = tt
numbered-whole at (refused n) = refl

-- THE NUMBER OF THE STOP IS THE NUMBER OF THE ANSWER, and there is no stop exactly where frames join
pub stop-numbered : (bs : List ℕ) → Numbered (join_stops bs) (join bs)
unfolding join_stops join
stop-numbered bs = go (place_stops (length bs) 0 bs []) (place_all (length bs) bs []) (place-numbered (length bs) 0 bs [])
  where
    go : (s : Option Stopped) (a : Answer (List Piece)) → Numbered s a
        → Numbered (first_stop s (stop_at (length bs) (and_then a close) (λ s. none))) (and_then a close)
    go none (result placed) t = numbered-whole (length bs) (close placed)
    go none (refused n) t = absurd t
    go (some s) (result placed) t = absurd t
    go (some s) (refused n) t = t

-- THE PLACE LIES IN THE LIST, OR AT ITS END
pub stop-within : (bs : List ℕ) → StopWithin (length bs) (join_stops bs)
unfolding join_stops
stop-within bs = go (place_stops (length bs) 0 bs []) (join bs) (place-within (length bs) (length bs) 0 bs [] (omega arith))
  where
    go : (s : Option Stopped) (a : Answer (List ℕ)) → StopWithin (length bs) s → StopWithin (length bs) (first_stop s (stop_at (length bs) a (λ s. none)))
    go none (result l) w = tt
    go none (refused n) w = omega arith
    go (some s) a w = w
