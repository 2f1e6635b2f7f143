-- Theorem 2: bytes are joined exactly where they are acceptable, and any frame that covers a place gives the stream its byte there. Assumes nothing.
use Prim.Native.Nat.{ℕ}
use mathlib.Core.Path.{◌≡◌, sym, ◌∙◌}
use mathlib.Core.Logic.{◌↔◌}
use mathlib.Core.List.{List, [], reverse}
use native.Mathlib.Nat.{le_refl}
use lib.ListN.{length}
use Rattle.wire.specs.Answer.{result}
use Rattle.wire.specs.Numbers.{Bytes}
use Rattle.wire.proofs.AnswerLaws.{and_then-result}
use Rattle.frames.specs.Frame.{Frame, encode_all, AllWhole, pieces}
use Rattle.frames.specs.Stream.{stream}
use Rattle.frames.specs.Join.{place_all, close, join}
use Rattle.frames.specs.Lists.{Acceptable, Accepted, StreamOf, Within}
use Rattle.frames.proofs.FrameLists.{encoded-placed}
use Rattle.frames.proofs.PlaceLaws.{join_pieces, Joinable, stream-reverse, pieces-joined, joined-pieces, joined_same}
use Rattle.frames.proofs.Joined.{join-encoded}

pub accepted-acceptable : (bs s : List ℕ) → Bytes bs → join bs ≡ result s → Acceptable bs
unfolding join
accepted-acceptable bs s b e =
    let f = and_then-result (place_all (length bs) bs []) close s e in
    let w = encoded-placed (length bs) bs [] f.value b (le_refl (length bs)) f.is in
    let joined : join_pieces (pieces w.frames) ≡ result s = rw w.places f.after in
    let j = (joined-pieces (pieces w.frames) s joined).joinable in
    record {
      frames = w.frames;
      bytes = w.bytes;
      whole = w.whole;
      ends = j.fit.ends;
      agree = j.fit.agree;
      gapless = j.gapless;
    }

pub acceptable-accepted : (bs : List ℕ) → Acceptable bs → Accepted bs
acceptable-accepted bs a =
    let ps = pieces a.frames in
    let j : Joinable (pieces a.frames) = record { fit = record { ends = a.ends; agree = a.agree }; gapless = a.gapless } in
    let joined : join (encode_all a.frames) ≡ result (stream (reverse ps)) =
    join-encoded a.frames a.whole ∙ pieces-joined ps (stream (reverse ps)) j (stream-reverse ps j.fit) in
    record { stream = stream (reverse ps); is = rw a.bytes joined }

-- ACCEPTED EXACTLY WHERE ACCEPTABLE
pub accepted-exactly : (bs : List ℕ) → Bytes bs → Accepted bs ↔ Acceptable bs
accepted-exactly bs b = ((λ a. accepted-acceptable bs a.stream b a.is), acceptable-accepted bs)

-- THE STREAM ENDS AT THE LARGEST END, and each of its places has the byte of any frame that covers it
pub stream-determined : (fs : List Frame) (s : List ℕ) → AllWhole fs → join (encode_all fs) ≡ result s → StreamOf (pieces fs) s
stream-determined fs s w e = (joined-pieces (pieces fs) s (sym (join-encoded fs w) ∙ e)).stream

-- NEITHER THE ORDER OF THE FRAMES nor how often one comes changes the stream; nor do PADDING and PING
pub any_order :
    (fs gs : List Frame) (s : List ℕ) → AllWhole fs → AllWhole gs → Within (pieces fs) (pieces gs) → Within (pieces gs) (pieces fs)
    → join (encode_all fs) ≡ result s → join (encode_all gs) ≡ result s
any_order fs gs s w v a b e = join-encoded gs v ∙ joined_same (pieces fs) (pieces gs) s a b (sym (join-encoded fs w) ∙ e)
