-- A whole part that is written part by part, each drawn from where the one before stopped. Assumes nothing.
use Prim.Native.Nat.{ℕ, ◌+◌, ◌≤◌}
use mathlib.Core.Path.{◌≡◌, refl, sym, ◌∙◌}
use mathlib.Core.List.{List, [], ◌++◌}
use native.Mathlib.Omega.{arith}
use lib.ListN.{length, length-append}
use Rattle.wire.proofs.FrontLaws.{piece-length}
use Rattle.wire.specs.Front.{front}
use Rattle.wire.proofs.Writing.{Writing, lent_from, back_from, begins, next-room, writes, finished, headed}
use Rattle.tape.specs.Part.{Part, undrawn, followed, wrapped, Room, Puts}
use Rattle.tape.specs.declared.Wrote.{Wrote}

-- n bytes of the whole stand; the rest is still to be written, and its draws end where those of the whole do
pub record Drawing (whole rest : Part) (old out : List ℕ) (n : ℕ) : Type 0 where
  pub writing : Writing whole.bytes rest.bytes old out n
  pub ends : rest.next ≡ whole.next

pub starts : (whole : Part) (old : List ℕ) → length whole.bytes ≤ length old → Drawing whole whole old old 0
starts whole old h = record { writing = begins whole.bytes old h; ends = refl }

-- the rest, written in another way
pub same-part : {whole rest other : Part} {old out : List ℕ} {n : ℕ} → rest ≡ other → Drawing whole rest old out n → Drawing whole other old out n
same-part e d = rw (sym e) d

module _ {whole : Part} {old out : List ℕ} {n : ℕ} (a : Part) (f : ℕ → Part) (d : Drawing whole (followed a f) old out n) where
  -- what the writer of the next part asks for
  pub part_room : {k : ℕ} → Room whole (length old) k → a.next ≤ (f a.next).next → Room a (length (lent_from n out)) k
  part_room r h =
      let w = d.writing in
      let rest = (f a.next).bytes in
      let all : n + length a.bytes + length rest ≡ length whole.bytes = piece-length whole.bytes a.bytes rest n w.within w.left in
      record { fits = next-room a.bytes rest w refl; small = omega (arith, r.small); there = omega (arith, h, d.ends, r.there) }

  -- the next part was written to the output after n bytes
  pub part-next : {r : Wrote} {part : List ℕ} → Puts a r (lent_from n out) part → Drawing whole (f r.next) old (back_from n out part) (n + r.length)
  part-next p = rw p.next record { writing = writes a.bytes (f a.next).bytes d.writing p.put; ends = d.ends }

pub part-finished : {whole : Part} {old out : List ℕ} {n t : ℕ} → Drawing whole (undrawn [] t) old out n → Puts whole (record { length = n; next = t }) old out
part-finished d = record { put = finished d.writing; next = d.ends }

-- a part was written after the place of its head, which tells its length, and then the head over the front
pub headed-part : (head : ℕ → List ℕ) {k : ℕ} → ((n : ℕ) → length (head n) ≡ k) → (a : Part) {w : Wrote} {old part new : List ℕ}
    → k + length a.bytes ≤ length old → Puts a w (lent_from k old) part → new ≡ front (head w.length) (back_from k old part)
    → Puts (wrapped (λ b. head (length b) ++ b) a) (record { length = k + w.length; next = w.next }) old new
headed-part head long a {w} {old} {part} h p e =
    let count = p.put.count in
    let here = rw count at e in
    record {
      put = record {
        count = omega (arith, count, length-append (head (length a.bytes)) a.bytes, long (length a.bytes));
        output = here ∙ headed (head (length a.bytes)) a.bytes old part (long (length a.bytes)) h p.put.output;
      };
      next = p.next;
    }
