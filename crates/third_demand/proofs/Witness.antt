-- The third demand speaks of something: every hello that is made is sent in lists of frames as the demand allows them, among them one with
-- overlap, repeats, an empty frame, PADDING, PING and numbers in longer varints; and of each profile a hello is made. Assumes nothing.
use Prim.Native.Nat.{ℕ, zero, suc, ◌≤◌, ◌<◌}
use mathlib.Core.Path.{◌≡◌, refl}
use mathlib.Core.List.{List, [], ◌∷◌}
use native.Mathlib.Nat.{le_refl}
use native.Mathlib.Omega.{arith}
use lib.ListN.{length, replicate, length-replicate}
use lib.Dec.{lit<}
use borrow.Author.Tests.{lt-ltb, le-leb}
use Rattle.wire.specs.Numbers.{Bytes}
use Rattle.profiles.specs.Profile.{for_browser}
use Rattle.profiles.specs.Sizes.{longest, tape_needed}
use Rattle.profiles.specs.Test.{all}
use Rattle.profiles.specs.Table.{row_of}
use Rattle.profiles.proofs.Table.{table-length, table-tape}
use Rattle.frames.specs.Frame.{Frame, encode_all}
use Rattle.frames.specs.Join.{limit}
use Rattle.frames.specs.Cut.{cut, frames_of}
use Rattle.frames.specs.Lists.{Carry}
use Rattle.frames.proofs.CutJoined.{cut-carries}
use Rattle.tls.specs.Hello.{hello}
use Rattle.tls.specs.Make.{plain, ask_name, ask_room, make_with, make_of}
use Rattle.third_demand.specs.Demand.{Greeting, hello_of, MadeHello, Sent}
use Rattle.third_demand.proofs.MadeLaws.{short}
use Rattle.third_demand.proofs.MixedFrames.{backward, mixed, backward-carries, mixed-carries}

-- ---- Every made hello

-- a greeting whose hello is sent in other frames
abbrev pub sent_in : Greeting → List Frame → Greeting
sent_in g fs = record {
  browser = g.browser;
  name = g.name;
  scid = g.scid;
  tape = g.tape;
  room = g.room;
  frames = fs;
  out = g.out;
  marks = g.marks;
}

module _ (g : Greeting) (m : MadeHello g) (out-room : limit ≤ length g.out) (marks-room : limit ≤ length g.marks) (c : ℕ) (some : 1 ≤ c) where
  in-frames : (fs : List Frame) → Carry fs (hello_of g) → Sent (sent_in g fs)
  in-frames fs carried =
      record {
        made = record { answer = m.answer; is = m.is; scid-bytes = m.scid-bytes; tape-bytes = m.tape-bytes };
        carried = carried;
        out-room = out-room;
        marks-room = marks-room;
      }

  -- CUT AT EVERY C: the bytes of these frames are what the frame writer writes
  pub cut-sent : Sent (sent_in g (cut c (hello_of g)))
  cut-sent = in-frames (cut c (hello_of g)) (cut-carries c (hello_of g) some (short g m))

  pub cut-written : encode_all (cut c (hello_of g)) ≡ frames_of c (hello_of g)
  unfolding frames_of
  cut-written = refl

  -- AND IN REVERSED ORDER, WITH PADDING BETWEEN
  pub backward-sent : Sent (sent_in g (backward (cut c (hello_of g))))
  backward-sent =
      in-frames (backward (cut c (hello_of g))) (backward-carries (hello_of g) (cut c (hello_of g)) (cut-carries c (hello_of g) some (short g m)))

  -- AND WITH ALL ELSE THAT THE DEMAND ALLOWS
  pub mixed-sent : (d : ℕ) → 1 ≤ d → Sent (sent_in g (mixed c d (hello_of g)))
  mixed-sent d some-too = in-frames (mixed c d (hello_of g)) (mixed-carries c d (hello_of g) some some-too (short g m))

-- ---- A hello of each profile is made

-- for the name "a", from a tape of zeros; tape and output of just the length that document 01's table has
abbrev pub from_zeros : ℕ → Greeting
from_zeros b = record {
  browser = b;
  name = 0x61 ∷ [];
  scid = [];
  tape = replicate (row_of b).tape_needed 0;
  room = (row_of b).hello_length 1 0 200;
  frames = [];
  out = replicate limit 0;
  marks = replicate limit 0;
}

zeros : (n : ℕ) → Bytes (replicate n 0)
zeros zero i = lit< tt
zeros (suc n) zero = lit< tt
zeros (suc n) (suc i) = zeros n i

pub each-made : (b : ℕ) → b < 3 → MadeHello (from_zeros b)
unfolding make_of make_with ask_name ask_room plain all
each-made b h =
    let tape : List ℕ = replicate (row_of b).tape_needed 0 in
    record {
      answer = record { length = length (hello_of (from_zeros b)); drawn = (hello (for_browser b) (0x61 ∷ []) [] tape).next };
      is =
          rw (
            lt-ltb b 3 h,
            le-leb (tape_needed (for_browser b)) (length tape) (omega (arith, table-tape b h, length-replicate {A = ℕ} (row_of b).tape_needed 0)),
            le-leb (longest (for_browser b) 1 0) ((row_of b).hello_length 1 0 200) (omega (arith, table-length b h 1 0 200 (lit< tt))),
          );
      scid-bytes = λ i. lit< tt;
      tape-bytes = zeros (row_of b).tape_needed;
    }

-- AND SENT IN A LIST WITH ALL THAT THE DEMAND ALLOWS
pub each-sent : (b : ℕ) → b < 3 → (c d : ℕ) → 1 ≤ c → 1 ≤ d → Sent (sent_in (from_zeros b) (mixed c d (hello_of (from_zeros b))))
each-sent b h c d some some-too =
    let room : limit ≤ length {A = ℕ} (replicate limit 0) = rw (length-replicate {A = ℕ} limit 0) (le_refl limit) in
    mixed-sent (from_zeros b) (each-made b h) room room c some d some-too
