-- Writers of words, one after the other. Assumes nothing.
use Prim.Native.Nat.{ℕ, ◌+◌, ◌-◌, zero-le}
use mathlib.Core.Path.{◌≡◌, refl}
use mathlib.Core.List.{List, [], ◌∷◌, ◌++◌}
use lib.ListN.{length}
use borrow.Rule.Slice.PartMut.{mid_of, put_mid}
use Rattle.wire.proofs.FrontLaws.{front-none}
use Rattle.script_writing.specs.Shown.{Written}
use Rattle.script_writing.specs.Answers.{fitted_all, WrittenAll}
use Rattle.script_writing.proofs.AnswerLaws.{written_one, written-more}
use Rattle.show_words.specs.Code.{Wrote}

pub wrote-text : {t : List ℕ} {r : ℕ} {old new : List ℕ} → Written t r old new → Wrote r old new
wrote-text {t} {r} {old} {new} w = record { parts = t ∷ []; is = written_one t r old new w }

pub all_none : (old : List ℕ) → WrittenAll [] 0 old old
unfolding fitted_all
all_none old = record { put = record { count = refl; output = front-none old }; within = zero-le }

pub wrote_none : (old : List ℕ) → Wrote 0 old old
wrote_none old = record { parts = []; is = all_none old }

-- n bytes stand, the rest of the output was lent, written over and given back
module _ {n m k : ℕ} {old mid part : List ℕ} where
  pub wrote-more : Wrote n old mid → k ≡ length mid - n → Wrote m (mid_of n k mid) part → Wrote (n + m) old (put_mid n k mid part)
  wrote-more a e b = record { parts = a.parts ++ b.parts; is = written-more a.parts b.parts n m k old mid part a.is e b.is }
