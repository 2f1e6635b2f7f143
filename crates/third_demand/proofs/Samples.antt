-- Closed inputs that tell a run from wrong ones, whatever output and marks held; and a report that no run of two greetings has. Assumes
-- nothing.
use Prim.Native.Nat.{ℕ, zero, suc, ◌≤◌, ◌<◌}
use mathlib.Core.Path.{◌≡◌, refl, sym, ap, ◌∙◌}
use mathlib.Core.Bool.{◌&&◌}
use mathlib.Core.List.{List, [], ◌∷◌, ◌++◌}
use native.Mathlib.Omega.{arith}
use lib.ListN.{length, take, get_or, replicate}
use lib.Dec.{eqb, leb, lit<}
use borrow.Author.Tests.{eqb-true}
use Rattle.std.specs.Prelude.{Ok, Some}
use Rattle.wire.specs.Answer.{result, refused}
use Rattle.wire.specs.Refusals.{answer_of}
use Rattle.wire.specs.Numbers.{digits, number_on, number}
use Rattle.wire.specs.Front.{front}
use Rattle.wire.proofs.AnswerLaws.{ask-yes, and_then-result, same-ok}
use Rattle.wire.proofs.SumLaws.{and_right}
use Rattle.varint.specs.Varint.{first_above, class, form, class_at, read_of}
use Rattle.profiles.specs.Profile.{for_browser}
use Rattle.profiles.specs.Test.{all}
use Rattle.profiles.proofs.Table.{curl-tape}
use Rattle.frames.specs.Frame.{encode, encode_all}
use Rattle.frames.specs.Read.{read_crypto, read_frame}
use Rattle.frames.specs.Stream.{has, byte_at, filled, held, end_of, each, values, agrees, gapless, stream}
use Rattle.frames.specs.Join.{limit, place, place_all, close, join, join_of}
use Rattle.frames.specs.Lists.{JoinedExactly}
use Rattle.frames.specs.Cut.{cut_from, cut}
use Rattle.frames.proofs.Joined.{in-buffers}
use Rattle.tls.specs.Hello.{hello}
use Rattle.tls.specs.Make.{plain, ask_name, ask_room, make_with, make_of, after_make}
use Rattle.fingerprint_lists.specs.Arrays.{span}
use Rattle.fingerprint.specs.ClientHello.{ClientHello}
use Rattle.fingerprint.specs.Reader.{read_extensions, read_fields, read}
use Rattle.fingerprint.specs.declared.Fingerprint.{Fingerprint}
use Rattle.third_demand.specs.Run.{Handed, handed, Went, RunDemand}
use Rattle.third_demand.specs.declared.Greeted.{Greeted}
use Rattle.third_demand.specs.declared.Outcome.{Outcome}
use Rattle.third_demand.proofs.ThirdDemand.{with-room}
use Rattle.third_demand.proofs.RunLaws.{name-stands}
use Rattle.third_demand.proofs.MixedFrames.{between, backward, wide, mixed}
use Rattle.third_demand.proofs.Witness.{from_zeros, each-made}

-- the hello of `from_zeros 2`, and a frame of an unknown type
abbrev pub side : List ℕ → Handed
side out = handed 2 (0x61 ∷ []) [] (replicate 416 0) (0x04 ∷ []) (replicate 491 0) out

module _ (out marks : List ℕ) (r : Greeted) (hello out' marks' : List ℕ) (w : Went (side out) marks r hello out' marks') where
  -- a run that makes from the connection id, which is empty, is refused with 8
  pub made-from-tape : answer_of r.made ≡ result (each-made 2 (lit< tt)).answer
  made-from-tape = w.made.is ∙ (each-made 2 (lit< tt)).is

  -- a run that joins the tape, whose zeros are PADDING, ends at 0
  pub frames-joined : limit ≤ length out → limit ≤ length marks → answer_of r.joined ≡ refused 11
  unfolding join_of join place_all read_frame
  frames-joined h k = w.joined.is ∙ rw (with-room out marks h k)

pub from-connection-id : make_of 2 (0x61 ∷ []) [] [] 491 ≡ refused 8
unfolding make_of make_with ask_name ask_room plain all for_browser
from-connection-id = rw curl-tape

-- ---- A call that does nothing: what stands in its buffers afterwards, whatever they held. Of the writers, `write-four` (varint) and `cut-by-2`
-- (crustdelta_c) say it.

-- 01, the type of a ClientHello, in front of the maker's output
pub make-writes : (b : ℕ) → b < 3 → (old : List ℕ) → length old ≡ (from_zeros b).room
    → get_or (after_make b (0x61 ∷ []) [] (from_zeros b).tape old) 0 0 ≡ 1
unfolding after_make front hello
make-writes b h old long = rw (long, (each-made b h).is)

-- the joiner's output and marks, for a frame with the byte aa
pub join-writes : (out marks : List ℕ) → limit ≤ length out → limit ≤ length marks
    → JoinedExactly (0x06 ∷ 0x00 ∷ 0x01 ∷ 0xaa ∷ []) (0xaa ∷ []) out marks
unfolding join place_all read_frame read_crypto read_of class_at number number_on place agrees each close gapless filled has end_of stream values held byte_at
join-writes out marks h k = in-buffers (0x06 ∷ 0x00 ∷ 0x01 ∷ 0xaa ∷ []) (0xaa ∷ []) out marks refl (with-room out marks h k)

-- ---- The witness's list of frames

-- of aa bb cc dd, with 3 data bytes and with 2: overlap, repeats, an empty frame, PADDING, PING, and numbers in 1, 2, 4 and 8 bytes
pub mixed-bytes : encode_all (mixed 3 2 (0xaa ∷ 0xbb ∷ 0xcc ∷ 0xdd ∷ []))
    ≡ (6 ∷ 3 ∷ 1 ∷ 0xdd ∷ 0 ∷ 6 ∷ 0 ∷ 3 ∷ 0xaa ∷ 0xbb ∷ 0xcc ∷ [])
    ++ ((1 ∷ 6 ∷ 0x80 ∷ 0 ∷ 0 ∷ 4 ∷ 0x40 ∷ 0 ∷ [])
    ++ ((6 ∷ 0xc0 ∷ 0 ∷ 0 ∷ 0 ∷ 0 ∷ 0 ∷ 0 ∷ 0 ∷ 0xc0 ∷ 0 ∷ 0 ∷ 0 ∷ 0 ∷ 0 ∷ 0 ∷ 2 ∷ 0xaa ∷ 0xbb ∷ [])
    ++ ((6 ∷ 0xc0 ∷ 0 ∷ 0 ∷ 0 ∷ 0 ∷ 0 ∷ 0 ∷ 2 ∷ 0xc0 ∷ 0 ∷ 0 ∷ 0 ∷ 0 ∷ 0 ∷ 0 ∷ 2 ∷ 0xcc ∷ 0xdd ∷ [])
    ++ (6 ∷ 0 ∷ 3 ∷ 0xaa ∷ 0xbb ∷ 0xcc ∷ 6 ∷ 3 ∷ 1 ∷ 0xdd ∷ []))))
unfolding encode_all encode mixed backward between wide cut cut_from class first_above form digits
mixed-bytes = refl

-- ---- A report that points the name at the hello's start

-- what is accepted begins with 01
first_byte : (h : List ℕ) (v : ClientHello) → read h ≡ result v → get_or h 0 0 ≡ 1
unfolding read read_fields
first_byte h v e =
    let before = and_then-result (read_fields h) read_extensions v e in
    let short = ask-yes (leb (length h) 16384) 16 _ before.value before.is in
    let begun = ask-yes (leb 1 (length h) && eqb (get_or h 0 0) 1) 17 _ before.value short.1 in
    eqb-true (get_or h 0 0) 1 (and_right (leb 1 (length h)) (eqb (get_or h 0 0) 1) begun.0)

begins : (n : ℕ) (h name : List ℕ) → take n h ≡ name → 1 ≤ get_or name 0 0 → get_or name 0 0 ≡ get_or h 0 0
begins zero h name e k = absurd (omega (arith, ap (λ (l : List ℕ). get_or l 0 0) e))
begins (suc n) [] name e k = ap (λ (l : List ℕ). get_or l 0 0) (sym e)
begins (suc n) (b ∷ h) name e k = ap (λ (l : List ℕ). get_or l 0 0) (sym e)

-- question 6 lets only names through that begin with 33 or more
pub not-at-start : {s t : Handed} {n m : ℕ} {r : Outcome} {hello out other-hello other-out : List ℕ}
    → RunDemand s t n m r hello out other-hello other-out → 33 ≤ get_or s.name 0 0 → (long : ℕ)
    → (f : Fingerprint) → r.first.report ≡ Ok f → f.sni ≡ Some (span 0 long) → ⊥
not-at-start {s} {t} {n} {m} {r} {hello} {out} d printed long f there e =
    let a = d.first in
    let stands = name-stands a in
    let x = stands.named in
    let shown-is : stands.shown ≡ f = same-ok (sym stands.there ∙ there) in
    let same : Some x.range ≡ Some (span 0 long) = sym x.is ∙ ap (λ (g : Fingerprint). g.sni) shown-is ∙ e in
    let range : x.range ≡ span 0 long = cc in
    let bytes : take long (take n out) ≡ s.name = rw range at x.bytes in
    omega (arith, begins long (take n out) s.name bytes (omega arith), first_byte (take n out) a.value a.accepted)
