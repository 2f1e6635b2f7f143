-- What `read_frame` and `read_crypto` promise, by what their code has read and tested. Assumes nothing.
use Prim.Native.Nat.{ℕ, ◌+◌, ◌-◌, ◌≤◌, ◌<◌}
use mathlib.Core.Path.{◌≡◌, refl}
use mathlib.Core.List.{List, [], ◌∷◌}
use native.Mathlib.Omega.{arith}
use lib.ListN.{length, drop, get_or, length-drop}
use borrow.Author.Tests.{le-leb, lt-leb, eq-eqb, ne_eqb}
use Rattle.wire.specs.Answer.{result, and_then}
use Rattle.varint.specs.Varint.{Found}
use Rattle.varint.specs.declared.Varint.{Varint}
use Rattle.std.specs.Prelude.{Ok, Err}
use Rattle.wire.specs.declared.refusals.Refusal.{Refusal}
use Rattle.wire.specs.declared.refusals.Refusal.TheVariants as no
use Rattle.frames.specs.Read.{read_crypto, read_frame, CryptoFound, FrameFound}
use Rattle.frames.specs.declared.reading.CryptoFrame.{CryptoFrame}
use Rattle.frames.specs.declared.reading.Frame.TheVariants as frame

-- ---- the body of a CRYPTO frame

module _ (s : List ℕ) where
  pub no-offset : (e : Refusal) → Found (drop 1 s) (Err e) → CryptoFound s (Err no.FrameCut)
  unfolding read_crypto
  no-offset e f = record { is = rw (← f.is); bounds = tt }

  module _ (o : Varint) (f : Found (drop 1 s) (Ok o)) where
    pub no_length : (e : Refusal) → Found (drop (1 + o.width) s) (Err e) → CryptoFound s (Err no.FrameCut)
    unfolding read_crypto
    no_length e g = record { is = rw (← f.is, ← g.is); bounds = tt }

    pub within-offset : 1 ≤ length s → 1 + o.width ≤ length s
    within-offset h = omega (arith, f.bounds.1, length-drop 1 s)

    module _ (l : Varint) (g : Found (drop (1 + o.width) s) (Ok l)) where
      pub within-length : 1 ≤ length s → 1 + o.width + l.width ≤ length s
      within-length h = omega (arith, within-offset h, g.bounds.1, length-drop (1 + o.width) s)

      pub no_body : length s - (1 + o.width + l.width) < l.value → CryptoFound s (Err no.FrameCut)
      unfolding read_crypto
      no_body h =
          record {
            is = rw (← f.is, ← g.is, lt-leb (1 + o.width + l.width + l.value) (length s) (omega arith));
            bounds = tt;
          }

      pub whole : 1 ≤ length s → l.value ≤ length s - (1 + o.width + l.width)
          → CryptoFound s (Ok (record { offset = o.value; start = 1 + o.width + l.width; end = 1 + o.width + l.width + l.value }))
      unfolding read_crypto
      whole h k =
          record {
            is = rw (← f.is, ← g.is, le-leb (1 + o.width + l.width + l.value) (length s) (omega (arith, within-length h)));
            bounds = (omega arith, omega arith, omega (arith, within-length h), f.bounds.2);
          }

-- ---- a frame, by its type

pub no-frame : (s : List ℕ) → length s ≡ 0 → FrameFound s (Err no.FrameCut)
unfolding read_frame
no-frame [] h = record { is = refl; bounds = tt }
no-frame (t ∷ s) h = absurd (omega arith)

pub is-padding : (s : List ℕ) → 1 ≤ length s → get_or s 0 0 ≡ 0 → FrameFound s (Ok frame.Padding)
unfolding read_frame
is-padding [] h e = absurd (omega arith)
is-padding (t ∷ s) h e = record { is = rw e; bounds = tt }

pub is-ping : (s : List ℕ) → 1 ≤ length s → get_or s 0 0 ≡ 1 → FrameFound s (Ok frame.Ping)
unfolding read_frame
is-ping [] h e = absurd (omega arith)
is-ping (t ∷ s) h e = record { is = rw e; bounds = tt }

-- what the body is decides, once the type is 06
by-body : (s : List ℕ) → 1 ≤ length s → get_or s 0 0 ≡ 6 → read_frame s ≡ and_then (read_crypto s) (λ c. result (frame.Crypto c))
unfolding read_frame
by-body [] h e = absurd (omega arith)
by-body (t ∷ s) h e = rw (eq-eqb t 6 e, ne_eqb t 0 (λ z. omega arith), ne_eqb t 1 (λ z. omega arith))

pub is-crypto : (s : List ℕ) (c : CryptoFrame) → 1 ≤ length s → get_or s 0 0 ≡ 6 → CryptoFound s (Ok c) → FrameFound s (Ok (frame.Crypto c))
is-crypto s c h e f = record { is = rw (by-body s h e, ← f.is); bounds = f.bounds }

pub is-cut : (s : List ℕ) (k : Refusal) → 1 ≤ length s → get_or s 0 0 ≡ 6 → CryptoFound s (Err k) → FrameFound s (Err k)
is-cut s k h e f = record { is = rw (by-body s h e, ← f.is); bounds = tt }

pub is-unknown : (s : List ℕ) → 1 ≤ length s → (get_or s 0 0 ≡ 0 → ⊥) → (get_or s 0 0 ≡ 1 → ⊥) → (get_or s 0 0 ≡ 6 → ⊥) → FrameFound s (Err no.UnknownFrame)
unfolding read_frame
is-unknown [] h a b c = absurd (omega arith)
is-unknown (t ∷ s) h a b c = record { is = rw (ne_eqb t 0 a, ne_eqb t 1 b, ne_eqb t 6 c); bounds = tt }
