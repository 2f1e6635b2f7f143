-- How the extents of an extension hang on the name's length n, the connection id's length s and the payload's length P: what is drawn
-- goes by P alone, and for ECH only; and both numbers grow with all three. Assumes nothing.
use Prim.Native.Nat.{ℕ, ◌+◌, ◌-◌, ◌*◌, ◌≤◌, ◌<◌}
use mathlib.Core.Path.{◌≡◌, refl, ap}
use mathlib.Core.Bool.{Bool, true, false, cond}
use native.Mathlib.Nat.{le_refl}
use native.Mathlib.Omega.{arith}
use borrow.Author.Tests.{lt-ltb}
use lib.ListN.{length}
use lib.Dec.{eqb}
use Rattle.wire.specs.Sums.{total}
use Rattle.wire.proofs.SumLaws.{total-le}
use Rattle.varint.specs.Varint.{width, first_above, class}
use Rattle.profiles.specs.Profile.{Parameter, varint, bytes, version_info, scid_source, grease, Profile}
use Rattle.profiles.specs.Sizes.{Extent, written-only, parameter_draws, parameter_length, extension_extent}

abbrev parameters_extent : Profile → ℕ → Extent
parameters_extent p s = record {
  written = 4 + total (parameter_length s) p.quic_tp;
  drawn = total parameter_draws p.quic_tp + 8 * (length p.quic_tp - 1);
}

abbrev ech_extent : ℕ → Extent
ech_extent pay = record { written = 46 + pay; drawn = 48 + pay }

-- a relation between the extents at two settings holds where it does for the three types that the settings play a part in
module _ (R : Extent → Extent → Type 0) (same : (e : Extent) → R e e) where
  either : (b : Bool) {x y u v : Extent} → R x u → R y v → R (cond b x y) (cond b u v)
  either true h k = h
  either false h k = k

  when : (b : Bool) {x y u v : Extent} → (b ≡ true → R x u) → R y v → R (cond b x y) (cond b u v)
  when true h k = h refl
  when false h k = k

  extents-related : (p : Profile) (n s pay m r other t : ℕ)
      → R (written-only (9 + n)) (written-only (9 + m))
      → R (parameters_extent p s) (parameters_extent p r)
      → (eqb t 0xfe0d ≡ true → R (ech_extent pay) (ech_extent other))
      → R (extension_extent p n s pay t) (extension_extent p m r other t)
  unfolding extension_extent
  extents-related p n s pay m r other t name parameters ech =
      either (eqb t 0x0000) name
      (either (eqb t 0x0010) (same _)
      (either (eqb t 0x000a) (same _)
      (either (eqb t 0x000d) (same _)
      (either (eqb t 0x002b) (same _)
      (either (eqb t 0x0033) (same _)
      (either (eqb t 0x0039) parameters
      (either (eqb t 0x001b) (same _)
      (when (eqb t 0xfe0d) ech
      (same _)))))))))

-- ---- what is drawn

-- neither name nor connection id plays a part in it, and the payload for ECH only
pub drawn-same : (p : Profile) (n s pay m r other t : ℕ) → (eqb t 0xfe0d ≡ true → pay ≡ other)
    → (extension_extent p n s pay t).drawn ≡ (extension_extent p m r other t).drawn
drawn-same p n s pay m r other t h =
    extents-related (λ d e. d.drawn ≡ e.drawn) (λ e. refl) p n s pay m r other t refl refl (λ e. ap (λ (k : ℕ). 48 + k) (h e))

-- ---- both grow

-- neither number is larger
pub record ExtentWithin (d e : Extent) : Type 0 where
  pub written-le : d.written ≤ e.written
  pub drawn-le : d.drawn ≤ e.drawn

within_same : (e : Extent) → ExtentWithin e e
within_same e = record { written-le = le_refl e.written; drawn-le = le_refl e.drawn }

within-ech : (pay other : ℕ) → pay ≤ other → ExtentWithin (ech_extent pay) (ech_extent other)
within-ech pay other h = record { written-le = omega arith; drawn-le = omega arith }

-- with the payload
pub payload-grows : (p : Profile) (n s pay other t : ℕ) → pay ≤ other → ExtentWithin (extension_extent p n s pay t) (extension_extent p n s other t)
payload-grows p n s pay other t h =
    extents-related ExtentWithin within_same p n s pay n s other t (within_same _) (within_same _) (λ e. within-ech pay other h)

-- a length below 64 is itself written in one byte
one_byte : (s : ℕ) → s < 64 → width (class s) ≡ 1
unfolding class first_above
one_byte s h = rw (lt-ltb s 64 h)

parameter-grows : (s r : ℕ) → s ≤ r → r < 64 → (q : Parameter) → parameter_length s q ≤ parameter_length r q
unfolding parameter_length
parameter-grows s r h k (varint i v) = le_refl _
parameter-grows s r h k (bytes i b) = le_refl _
parameter-grows s r h k (version_info i) = le_refl _
parameter-grows s r h k (scid_source i) = omega (arith, one_byte s (omega arith), one_byte r k)
parameter-grows s r h k grease = le_refl _

-- with name and connection id
pub extent-grows : (p : Profile) (n s m r pay t : ℕ) → n ≤ m → s ≤ r → r < 64
    → ExtentWithin (extension_extent p n s pay t) (extension_extent p m r pay t)
extent-grows p n s m r pay t hn hs hr =
    extents-related ExtentWithin within_same p n s pay m r pay t
    (record { written-le = omega arith; drawn-le = le_refl 0 })
    (record {
      written-le = omega (arith, total-le (parameter_length s) (parameter_length r) (parameter-grows s r hs hr) p.quic_tp);
      drawn-le = le_refl _;
    })
    (λ e. within_same _)
