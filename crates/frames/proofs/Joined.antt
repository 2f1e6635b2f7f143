-- Theorem 1: whole frames that agree with a hello and cover it are joined to exactly the hello, whatever the buffers held. Assumes nothing.
use Prim.Native.Nat.{ℕ, ◌+◌, ◌-◌, ◌≤◌}
use mathlib.Core.Path.{◌≡◌, sym, ◌∙◌}
use mathlib.Core.Bool.{true}
use mathlib.Core.Logic.{⊎_elim}
use mathlib.Core.List.{List, []}
use native.Mathlib.Nat.{le_refl}
use native.Mathlib.Omega.{arith}
use lib.ListN.{length, get_or, length-replicate}
use Rattle.wire.specs.Answer.{result}
use Rattle.wire.proofs.ListLaws.{lt-or-le}
use Rattle.frames.specs.Frame.{Piece, Frame, encode_all, AllWhole, pieces}
use Rattle.frames.specs.Stream.{byte_at, end_of}
use Rattle.frames.specs.Join.{limit, join, roomy, join_of, padded, out_after, marks_after}
use Rattle.frames.specs.Lists.{LiesIn, PartOf, Carry, StreamOf, JoinedExactly}
use Rattle.frames.proofs.FrameLists.{place-encoded}
use Rattle.frames.proofs.StreamLaws.{end_of-least, covered-below}
use Rattle.frames.proofs.PlaceLaws.{join_pieces, Joinable, pieces-joined}

-- whole frames are joined as their pieces are
pub join-encoded : (fs : List Frame) → AllWhole fs → join (encode_all fs) ≡ join_pieces (pieces fs)
unfolding join
join-encoded fs w = rw (place-encoded fs (length (encode_all fs)) [] w (le_refl (length (encode_all fs))))

pub in-buffers : (bs s out marks : List ℕ) → join bs ≡ result s → roomy out marks ≡ true → JoinedExactly bs s out marks
unfolding join_of out_after marks_after padded
in-buffers bs s out marks e r =
    record { is = rw (r, e); output = rw (r, e); marked = rw (r, e, length-replicate {A = ℕ} (length s) 1) }

-- ---- the hello

part-byte : (hello : List ℕ) (p : Piece) (i : ℕ) → PartOf hello p → LiesIn i p → byte_at p i ≡ get_or hello i 0
unfolding byte_at
part-byte hello p i w l =
    let z : p.offset + (i - p.offset) ≡ i = omega (arith, l.0) in
    w.agrees (i - p.offset) (omega (arith, l.0, l.1)) ∙ rw z

module _ (hello : List ℕ) (fs : List Frame) (c : Carry fs hello) where
  ends_there : end_of (pieces fs) ≡ length hello
  ends_there =
      let most : end_of (pieces fs) ≤ length hello = end_of-least (pieces fs) (length hello) (λ p a. (c.parts p a).within) in
      ⊎_elim
      (λ h. absurd (omega (arith, covered-below (pieces fs) (end_of (pieces fs)) (c.covers (end_of (pieces fs)) h))))
      (λ h. omega (arith, most, h))
      (lt-or-le (end_of (pieces fs)) (length hello))

  joinable : length hello ≤ limit → Joinable (pieces fs)
  joinable l =
      record {
        fit = record {
          ends = λ p a. omega (arith, l, (c.parts p a).within);
          agree = λ p q a b i m n. part-byte hello p i (c.parts p a) m ∙ sym (part-byte hello q i (c.parts q b) n);
        };
        gapless = λ i h. c.covers i (rw ends_there at h);
      }

  the-stream : StreamOf (pieces fs) hello
  the-stream = record { long = sym ends_there; byte = λ p a i m. sym (part-byte hello p i (c.parts p a) m) }

-- JOINED EXACTLY
pub joined-exactly : (hello : List ℕ) (fs : List Frame) → length hello ≤ limit → Carry fs hello → join (encode_all fs) ≡ result hello
joined-exactly hello fs l c = join-encoded fs c.whole ∙ pieces-joined (pieces fs) hello (joinable hello fs c l) (the-stream hello fs c)

pub joined-in-buffers :
    (hello out marks : List ℕ) (fs : List Frame) → length hello ≤ limit → Carry fs hello → roomy out marks ≡ true
    → JoinedExactly (encode_all fs) hello out marks
joined-in-buffers hello out marks fs l c r = in-buffers (encode_all fs) hello out marks (joined-exactly hello fs l c) r
