-- The name's questions, 5 and 6: what callers cite of them is `before-name`, `named-bytes` and `named`. Assumes nothing.
use Prim.Native.Nat.{ℕ, zero, suc, ◌+◌, ◌≤◌, ◌<◌}
use mathlib.Core.Path.{◌≡◌, refl, sym}
use mathlib.Core.Bool.{Bool, true, ◌&&◌, and-true, and_assoc}
use mathlib.Core.List.{List, [], ◌∷◌, ◌++◌}
use native.Mathlib.Numerals.{add-one}
use native.Mathlib.Omega.{arith}
use lib.ListN.{length, take, get_or}
use lib.Seq.{take-suc}
use lib.Dec.{leb, lit<}
use borrow.Author.Tests.{leb-true}
use Rattle.wire.specs.Answer.{Answer, result}
use Rattle.wire.specs.Numbers.{Bytes}
use Rattle.wire.proofs.AnswerLaws.{ask-yes}
use Rattle.wire.proofs.SumLaws.{and_left, and_right}
use Rattle.profiles.specs.Test.{all}
use Rattle.tls.specs.Make.{plain, ask_name}
use Rattle.tls.proofs.QuestionLaws.{Before, none, more}

-- ---- each byte 33 to 126

all_append : {A : Type 0} (q : A → Bool) (a b : List A) → all q (a ++ b) ≡ (all q a && all q b)
unfolding all
all_append q [] b = refl
all_append q (x ∷ a) b = rw (all_append q a b) (sym (and_assoc (q x) (all q a) (all q b)))

pub plain-none : true ≡ plain []
unfolding plain all
plain-none = refl

-- one more byte, as the loop tests it
pub plain_more : (name : List ℕ) (i : ℕ) → i < length name
    → (plain (take i name) && leb 33 (get_or name i 0) && leb (get_or name i 0) 126) ≡ plain (take (i + 1) name)
unfolding plain all
plain_more name i h =
    let q : ℕ → Bool = λ b. leb 33 b && leb b 126 in
    let b = get_or name i 0 in
    rw (add-one i, take-suc name i 0 h, all_append q (take i name) (b ∷ []), and-true (q b))
    (and_assoc (all q (take i name)) (leb 33 b) (leb b 126))

plain-bytes : (name : List ℕ) → plain name ≡ true → Bytes name
unfolding plain all
plain-bytes name e = go name e
  where
    one : ℕ → Bool
    one b = leb 33 b && leb b 126

    go : (l : List ℕ) → all one l ≡ true → Bytes l
    go [] e j = lit< tt
    go (b ∷ l) e zero = omega (arith, leb-true b 126 (and_right (leb 33 b) (leb b 126) (and_left (one b) (all one l) e)))
    go (b ∷ l) e (suc j) = go l (and_right (one b) (all one l) e) j

-- ---- the two questions

-- the questions by themselves
abbrev pub as_name : List ℕ → Answer (Unit {0})
as_name name = ask_name name (result tt)

pub before-name : {A : Type 0} (next : Answer A) (name : List ℕ) → Before next (ask_name name next) (as_name name)
unfolding ask_name
before-name next name =
    more (leb 1 (length name) && leb (length name) 255) 5 (more (plain name) 6 (none next))

-- what passes is 1 to 255 bytes
pub record Named (name : List ℕ) : Type 0 where
  pub some : 1 ≤ length name
  pub short : length name ≤ 255
  pub bytes : Bytes name

-- they are answered "yes" where a result stands behind them
pub named-bytes : {A : Type 0} (name : List ℕ) (next : Answer A) (a : A) → ask_name name next ≡ result a → Named name × (next ≡ result a)
unfolding ask_name
named-bytes name next a e =
    let n = length name in
    let five = ask-yes (leb 1 n && leb n 255) 5 _ a e in
    let six = ask-yes (plain name) 6 next a five.1 in (
      record {
        some = leb-true 1 n (and_left (leb 1 n) (leb n 255) five.0);
        short = leb-true n 255 (and_right (leb 1 n) (leb n 255) five.0);
        bytes = plain-bytes name six.0;
      },
      six.1,
    )

-- the same of the questions by themselves
pub named : (name : List ℕ) → as_name name ≡ result tt → Named name
named name e = (named-bytes name (result tt) tt e).0
