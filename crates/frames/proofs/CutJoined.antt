-- Cut and joined: the frames of a hello carry it, so joining them gives it back, for every c of 1 or more. Assumes nothing.
use Prim.Native.Nat.{ℕ, zero, suc, ◌+◌, ◌-◌, ◌≤◌, ◌<◌}
use mathlib.Core.Path.{◌≡◌, refl, ap, ◌∙◌}
use mathlib.Core.Bool.{true}
use mathlib.Core.Logic.{inl, inr, ⊎_elim}
use mathlib.Core.List.{List, [], ◌∷◌}
use native.Mathlib.Omega.{arith}
use lib.ListN.{length, take, drop, get_or, length-take, length-drop}
use lib.Seq.{get_or-take, get_or-drop, drop-drop}
use Rattle.wire.specs.Answer.{result}
use Rattle.wire.proofs.ListLaws.{lt-or-le}
use Rattle.varint.specs.Varint.{class, Holds}
use Rattle.varint.proofs.TableLaws.{class-small, class-holds}
use Rattle.frames.specs.Frame.{Piece, AllWhole, pieces}
use Rattle.frames.specs.Join.{limit, join, roomy}
use Rattle.frames.specs.Lists.{Among, Covered, PartOf, Carry, JoinedExactly}
use Rattle.frames.specs.Cut.{cut_from, cut, frames_of}
use Rattle.frames.proofs.Joined.{joined-exactly, in-buffers}

-- the shortest width holds a number
class-whole : (v : ℕ) → v ≤ limit → Holds (class v) v
class-whole v h = let small : class v < 4 = class-small v (omega arith) in record { known = small; below = class-holds v small }

module _ (hello : List ℕ) (c : ℕ) where
  left : (at : ℕ) (bs : List ℕ) → bs ≡ drop at hello → length bs ≡ length hello - at
  left at bs e = ap length e ∙ length-drop at hello

  -- the data of a frame, cut from what stands from its offset on
  piece-part : (at : ℕ) (bs : List ℕ) → bs ≡ drop at hello → 0 < length bs → PartOf hello (record { offset = at; bytes = take c bs })
  piece-part at bs e h =
      record {
        within = omega (arith, length-take c bs, left at bs e);
        agrees = λ j l. get_or-take c bs j 0 (omega (arith, length-take c bs)) ∙ ap (λ (s : List ℕ). get_or s j 0) e ∙ get_or-drop at hello j 0;
      }

  -- what the frame after it is cut from
  next : (at : ℕ) (bs : List ℕ) → bs ≡ drop at hello → drop c bs ≡ drop (at + c) hello
  next at bs e = ap (λ (s : List ℕ). drop c s) e ∙ drop-drop c at hello

  parts_from : (n at : ℕ) (bs : List ℕ) → bs ≡ drop at hello → (p : Piece) → Among p (pieces (cut_from n c at bs)) → PartOf hello p
  unfolding cut_from pieces
  parts_from zero at bs e p a = absurd a
  parts_from (suc n) at [] e p a = absurd a
  parts_from (suc n) at (b ∷ bs) e p (inl q) = rw q (piece-part at (b ∷ bs) e (omega arith))
  parts_from (suc n) at (b ∷ bs) e p (inr a) = parts_from n (at + c) (drop c (b ∷ bs)) (next at (b ∷ bs) e) p a

  whole_from : length hello ≤ limit → (n at : ℕ) (bs : List ℕ) → bs ≡ drop at hello → AllWhole (cut_from n c at bs)
  unfolding cut_from
  whole_from h zero at bs e = tt
  whole_from h (suc n) at [] e = tt
  whole_from h (suc n) at (b ∷ bs) e =
      let l : length (b ∷ bs) ≡ length hello - at = left at (b ∷ bs) e in (
        (class-whole at (omega arith), class-whole (length (take c (b ∷ bs))) (omega (arith, length-take c (b ∷ bs)))),
        whole_from h n (at + c) (drop c (b ∷ bs)) (next at (b ∷ bs) e),
      )

  covers-from : 1 ≤ c → (n at : ℕ) (bs : List ℕ) → bs ≡ drop at hello → length bs ≤ n → (i : ℕ) → at ≤ i → i < length hello
      → Covered (pieces (cut_from n c at bs)) i
  unfolding cut_from pieces
  covers-from k zero at bs e f i a l = absurd (omega (arith, left at bs e))
  covers-from k (suc n) at [] e f i a l = absurd (omega (arith, left at [] e))
  covers-from k (suc n) at (b ∷ bs) e f i a l =
      ⊎_elim
      (λ p.
      record {
        by = record { offset = at; bytes = take c (b ∷ bs) };
        among = inl refl;
        lies = (a, omega (arith, length-take c (b ∷ bs), left at (b ∷ bs) e));
      })
      (λ q.
      let r : Covered (pieces (cut_from n c (at + c) (drop c (b ∷ bs)))) i =
      covers-from k n (at + c) (drop c (b ∷ bs)) (next at (b ∷ bs) e) (omega (arith, length-drop c (b ∷ bs))) i q l in
      record { by = r.by; among = inr r.among; lies = r.lies })
      (lt-or-le i (at + c))

pub cut-carries : (c : ℕ) (hello : List ℕ) → 1 ≤ c → length hello ≤ limit → Carry (cut c hello) hello
unfolding cut
cut-carries c hello k h =
    record {
      whole = whole_from hello c h (length hello) 0 hello refl;
      parts = parts_from hello c (length hello) 0 hello refl;
      covers = λ i l. covers-from hello c k (length hello) 0 hello refl (omega arith) i (omega arith) l;
    }

-- CUT AND JOINED
pub cut-joined : (c : ℕ) (hello : List ℕ) → 1 ≤ c → length hello ≤ limit → join (frames_of c hello) ≡ result hello
unfolding frames_of
cut-joined c hello k h = joined-exactly hello (cut c hello) h (cut-carries c hello k h)

pub cut-joined-in-buffers : (c : ℕ) (hello out marks : List ℕ) → 1 ≤ c → length hello ≤ limit → roomy out marks ≡ true → JoinedExactly (frames_of c hello) hello out marks
cut-joined-in-buffers c hello out marks k h r = in-buffers (frames_of c hello) hello out marks (cut-joined c hello k h) r
