-- Parts of an answer, written one after the other. Assumes nothing.
use Prim.Native.Nat.{ℕ, ◌+◌, ◌-◌, ◌≤◌, zero-le}
use mathlib.Core.Path.{◌≡◌, refl, sym, ap, ◌∙◌, subst}
use mathlib.Core.List.{List, [], ◌∷◌, ◌++◌, append_assoc, append-nil}
use native.Mathlib.Omega.{arith}
use lib.ListN.{length, drop, length-append, length-drop}
use lib.Seq.{length-take-le}
use borrow.Author.Tests.{le-leb}
use borrow.Rule.Slice.PartMut.{mid_of, put_mid}
use Rattle.wire.specs.Front.{front}
use Rattle.wire.proofs.FrontLaws.{length_front, lent-front}
use Rattle.script_writing.specs.Shown.{fitted, Written}
use Rattle.script_writing.specs.Answers.{fitted_all, WrittenAll}

pub all-as : (ts us : List (List ℕ)) (r : ℕ) (old new : List ℕ) → ts ≡ us → WrittenAll ts r old new → WrittenAll us r old new
all-as ts us r old new e w = subst (λ (x : List (List ℕ)). WrittenAll x r old new) e w

fitted_all-append : (ts us : List (List ℕ)) (room : ℕ) → fitted_all (ts ++ us) room ≡ fitted_all ts room ++ fitted_all us (room - length (fitted_all ts room))
unfolding fitted_all
fitted_all-append [] us room = let z : room - 0 ≡ room = omega arith in rw z
fitted_all-append (t ∷ ts) us room =
    let n : ℕ = length (fitted t room) in
    let m : ℕ = length (fitted_all ts (room - n)) in
    let e : room - n - m ≡ room - (n + m) = omega arith in
    rw (fitted_all-append ts us (room - n), length-append, append_assoc, e)

-- no part
pub written_none : (out : List ℕ) → WrittenAll [] 0 out out
unfolding fitted_all front
written_none out = record { put = record { count = refl; output = refl }; within = zero-le }

-- one part
pub written_one : (t : List ℕ) (r : ℕ) (old new : List ℕ) → Written t r old new → WrittenAll (t ∷ []) r old new
unfolding fitted_all
written_one t r old new w =
    record { put = record { count = rw append-nil w.put.count; output = rw append-nil w.put.output }; within = w.within }

-- parts after parts: n bytes stand, the rest of the output was lent, written over and given back
pub written-more :
    (ts us : List (List ℕ)) (n m k : ℕ) (old mid part : List ℕ) → WrittenAll ts n old mid → k ≡ length mid - n → WrittenAll us m (mid_of n k mid) part
    → WrittenAll (ts ++ us) (n + m) old (put_mid n k mid part)
written-more ts us n m k old mid part a d b =
    let f : List ℕ = fitted_all ts (length old) in
    let c : n ≡ length f = a.put.count in
    let h : n ≤ length old = a.within in
    let same : length mid ≡ length old = ap length a.put.output ∙ length_front f old (omega arith) in
    let lent : length (mid_of n k mid) ≡ length old - n =
    length-take-le k (drop n mid) (rw length-drop (omega arith)) ∙ (omega arith) in
    let whole : fitted_all (ts ++ us) (length old) ≡ f ++ fitted_all us (length (mid_of n k mid)) =
    fitted_all-append ts us (length old) ∙ rw (lent, ← c) in
    record {
      put = record {
        count = rw (whole, length-append) (omega (arith, b.put.count));
        output = rw whole (lent-front f (fitted_all us (length (mid_of n k mid))) old mid part n k (sym c) a.put.output d b.put.output);
      };
      within = omega (arith, b.within, lent);
    }

-- the same, of a part `&mut out[n..]`
pub written_then : {ts us : List (List ℕ)} {n m : ℕ} {old mid part : List ℕ} → WrittenAll ts n old mid → WrittenAll us m (mid_of n (length mid - n) mid) part
    → WrittenAll (ts ++ us) (n + m) old (put_mid n (length mid - n) mid part)
written_then {ts} {us} {n} {m} {old} {mid} {part} a b = written-more ts us n m (length mid - n) old mid part a refl b

-- all of the parts, where there is room for them
unfoldable pub joined : List (List ℕ) → List ℕ
joined [] = []
joined (t ∷ ts) = t ++ joined ts

pub all_fit : (ts : List (List ℕ)) (room : ℕ) → length (joined ts) ≤ room → fitted_all ts room ≡ joined ts
unfolding joined fitted_all fitted
all_fit [] room h = refl
all_fit (t ∷ ts) room h =
    let l = length-append t (joined ts) in
    let a : length t ≤ room = omega arith in
    rw (le-leb (length t) room a, all_fit ts (room - length t) (omega arith))
