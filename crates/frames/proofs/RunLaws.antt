-- The frames one after the other: a turn of `place_all`, fuel beyond the bytes changes nothing, and what a loop over them keeps. Assumes nothing.
use Prim.Native.Nat.{ℕ, zero, suc, ◌+◌, ◌-◌, ◌≤◌, ◌<◌}
use mathlib.Core.Path.{◌≡◌, refl, sym, ◌∙◌}
use mathlib.Core.List.{List, [], ◌∷◌}
use mathlib.Core.Option.{none, some}
use native.Mathlib.Omega.{arith}
use lib.ListN.{length, drop, length-drop}
use lib.Seq.{drop-drop}
use Rattle.wire.specs.Answer.{result, refused, and_then}
use Rattle.wire.proofs.AnswerLaws.{apart, and_then-agree}
use Rattle.wire.specs.Stops.{stopped}
use Rattle.frames.specs.Frame.{Piece}
use Rattle.frames.specs.Read.{read_frame, extent}
use Rattle.frames.specs.declared.reading.Frame.{Frame}
use Rattle.frames.specs.Join.{place_frame, place_all, close, join}
use Rattle.frames.specs.Stops.{stop_at, place_stops, join_stops}
use Rattle.frames.specs.Buffers.{Refuses, unread, unlaid}
use Rattle.frames.proofs.ReadBack.{extent-bounds}
use Rattle.frames.proofs.StopLaws.{stop-none, stop-read, stop-unread}

-- ---- a turn

-- no bytes, no frames
pub place_none : (n : ℕ) (bs : List ℕ) (placed : List Piece) → length bs ≤ 0 → place_all n bs placed ≡ result placed
unfolding place_all
place_none zero bs placed h = refl
place_none (suc n) [] placed h = refl
place_none (suc n) (b ∷ bs) placed h = absurd (omega arith)

-- a frame that was read; where there is no byte, there is none
pub place_read : (n : ℕ) (bs : List ℕ) (placed : List Piece) (s : Frame) → read_frame bs ≡ result s
    → place_all (suc n) bs placed ≡ and_then (place_frame bs s placed) (λ more. place_all n (drop (extent s) bs) more)
unfolding place_all read_frame
place_read n [] placed s e = absurd (apart e)
place_read n (b ∷ bs) placed s e = rw e

-- a frame that was not
pub place-unread : (n : ℕ) (bs : List ℕ) (placed : List Piece) (k : ℕ) → 0 < length bs → read_frame bs ≡ refused k → place_all (suc n) bs placed ≡ refused k
unfolding place_all
place-unread n [] placed k h e = absurd (omega arith)
place-unread n (b ∷ bs) placed k h e = rw e

-- ---- fuel beyond the bytes changes nothing

pub place-fuel : (n m : ℕ) (bs : List ℕ) (placed : List Piece) → length bs ≤ n → length bs ≤ m → place_all n bs placed ≡ place_all m bs placed
unfolding place_all
place-fuel zero m bs placed h k = sym (place_none m bs placed h)
place-fuel (suc n) zero bs placed h k = place_none (suc n) bs placed k
place-fuel (suc n) (suc m) [] placed h k = refl
place-fuel (suc n) (suc m) (b ∷ bs) placed h k =
    and_then-agree (read_frame (b ∷ bs)) _ _
    (λ s e.
    and_then-agree (place_frame (b ∷ bs) s placed) _ _
    (λ more l.
    let rest = drop (extent s) (b ∷ bs) in
    let short : length rest ≤ length bs = omega (arith, length-drop (extent s) (b ∷ bs), extent-bounds (b ∷ bs) s e) in
    place-fuel n m rest more (omega (arith, short)) (omega (arith, short))))

-- ---- a loop over the frames

-- enough fuel is left for the bytes from a place on, they give what all give, and stop where all stop
pub record Running (bs : List ℕ) (at : ℕ) (placed : List Piece) : Type 0 where
  pub within : at ≤ length bs
  pub fuel : ℕ
  pub enough : length bs - at ≤ fuel
  pub rest : place_all fuel (drop at bs) placed ≡ place_all (length bs) bs []
  pub stop : place_stops fuel at (drop at bs) placed ≡ place_stops (length bs) 0 bs []

pub starts : (bs : List ℕ) → Running bs 0 []
starts bs = record { within = omega arith; fuel = length bs; enough = omega arith; rest = refl; stop = refl }

-- a refusal of the first frame is the refusal of all
place-stopped : (n : ℕ) (bs : List ℕ) (placed : List Piece) (k : ℕ) → 0 < length bs → Refuses bs placed k → place_all (suc n) bs placed ≡ refused k
place-stopped n bs placed k h (unread e) = place-unread n bs placed k h e
place-stopped n bs placed k h (unlaid s e l) = place_read n bs placed s e ∙ rw l

stops-there : (n at : ℕ) (bs : List ℕ) (placed : List Piece) (k : ℕ) → 0 < length bs → Refuses bs placed k
    → place_stops (suc n) at bs placed ≡ some (stopped k at)
stops-there n at bs placed k h (unread e) = stop-unread n at bs placed k h e
stops-there n at bs placed k h (unlaid s e l) = stop-read n at bs placed s e ∙ rw l

module _ (bs : List ℕ) (at : ℕ) (placed : List Piece) (i : Running bs at placed) where
  -- where a frame was read, there was a byte
  past : (s : Frame) → read_frame (drop at bs) ≡ result s → at < length bs
  past s e = let b = extent-bounds (drop at bs) s e in omega (arith, b, length-drop at bs)

  pub goes_on :
      (s : Frame) (more : List Piece) (used : ℕ) → read_frame (drop at bs) ≡ result s → place_frame (drop at bs) s placed ≡ result more → used ≡ extent s
      → Running bs (at + used) more
  goes_on s more used e l w = go i.fuel i.enough i.rest i.stop
    where
      go : (n : ℕ) → length bs - at ≤ n → place_all n (drop at bs) placed ≡ place_all (length bs) bs []
          → place_stops n at (drop at bs) placed ≡ place_stops (length bs) 0 bs [] → Running bs (at + used) more
      go zero h r t = absurd (omega (arith, past s e))
      go (suc n) h r t =
          let b = extent-bounds (drop at bs) s e in
          record {
            within = omega (arith, b, length-drop at bs);
            fuel = n;
            enough = omega (arith, b);
            rest = rw (w, ← drop-drop) (sym (place_read n (drop at bs) placed s e ∙ rw l) ∙ r);
            stop = rw (w, ← drop-drop) (sym (stop-read n at (drop at bs) placed s e ∙ rw l) ∙ t);
          }

  pub stops : (n : ℕ) → at < length bs → Refuses (drop at bs) placed n → (join bs ≡ refused n) × (join_stops bs ≡ some (stopped n at))
  unfolding join join_stops
  stops n h e = go i.fuel i.enough i.rest i.stop
    where
      some_left : 0 < length (drop at bs)
      some_left = omega (arith, length-drop at bs)

      go : (m : ℕ) → length bs - at ≤ m → place_all m (drop at bs) placed ≡ place_all (length bs) bs []
          → place_stops m at (drop at bs) placed ≡ place_stops (length bs) 0 bs [] → (join bs ≡ refused n) × (join_stops bs ≡ some (stopped n at))
      go zero k r t = absurd (omega arith)
      go (suc m) k r t =
          (rw (← r, place-stopped m (drop at bs) placed n some_left e), rw (← t, stops-there m at (drop at bs) placed n some_left e))

  module _ (h : length bs ≤ at) where
    none_left : length (drop at bs) ≤ 0
    none_left = omega (arith, length-drop at bs)

    pub ends : join bs ≡ close placed
    unfolding join
    ends = rw (← i.rest, place_none i.fuel (drop at bs) placed none_left)

    -- once all frames are placed, the end of the list is the only place to stop at
    pub ends_there : join_stops bs ≡ stop_at (length bs) (join bs) (λ s. none)
    unfolding join_stops
    ends_there = rw (← i.stop, stop-none i.fuel at (drop at bs) placed none_left)
