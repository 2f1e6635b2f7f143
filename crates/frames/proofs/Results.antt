-- What a caller gets of the joiner's and the writer's results: they lie within the output, and its front is the stream, or the frames. Assumes nothing.
use Prim.Native.Nat.{ℕ, ◌-◌, ◌≤◌}
use mathlib.Core.Path.{◌≡◌}
use mathlib.Core.Bool.{Bool, true, ◌&&◌}
use mathlib.Core.List.{List}
use native.Mathlib.Omega.{arith}
use lib.ListN.{length, take, replicate}
use lib.Dec.{leb}
use lib.Seq.{take_at}
use Rattle.wire.specs.Answer.{Answer, result, refused, ask}
use Rattle.wire.proofs.AnswerLaws.{apart, same-result, ask-yes}
use Rattle.wire.proofs.FrontLaws.{take-front}
use Rattle.frames.specs.Join.{limit, join, roomy, ended, join_of, placed_of, padded, out_after}
use Rattle.frames.proofs.RoomLaws.{within-room}
use Rattle.frames.specs.Cut.{frames_of, cut_of, after_cut}

module _ (bs out marks : List ℕ) (e : ℕ) (r : join_of bs out marks ≡ result e) where
  room : (roomy out marks ≡ true) × (ended (join bs) ≡ result e)
  unfolding join_of
  room = ask-yes (roomy out marks) 10 (ended (join bs)) e r

  pub end-within : e ≤ limit → e ≤ length out
  end-within h = omega (arith, (within-room out marks room.0).0)

  pub stream-taken : take e (out_after bs out marks) ≡ placed_of (join bs)
  unfolding out_after padded
  stream-taken = rw room.0 (go (join bs) room.1)
    where
      go : (a : Answer (List ℕ)) → ended a ≡ result e → take e (padded (placed_of a) (length out)) ≡ placed_of a
      go (result s) q = take_at s (replicate (length out - length s) 0) e (same-result (length s) e q)
      go (refused n) q = absurd (apart q)

module _ (c : ℕ) (hello out : List ℕ) (n : ℕ) (r : cut_of c hello (length out) ≡ result n) where
  all-long : length (frames_of c hello) ≡ n
  unfolding cut_of
  all-long = go (leb 1 c && leb c limit) (leb (length hello) limit) (leb (length (frames_of c hello)) (length out)) r
    where
      go : (x y z : Bool) → ask x 24 (ask y 25 (ask z 26 (result (length (frames_of c hello))))) ≡ result n → length (frames_of c hello) ≡ n
      go x y z q =
          let a = ask-yes x 24 _ n q in
          let b = ask-yes y 25 _ n a.1 in
          same-result (length (frames_of c hello)) n (ask-yes z 26 _ n b.1).1

  pub frames-taken : take n (after_cut c hello out) ≡ frames_of c hello
  unfolding after_cut
  frames-taken = rw (r, ← all-long) (take-front (frames_of c hello) out)
