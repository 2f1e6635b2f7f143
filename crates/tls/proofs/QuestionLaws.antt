-- Questions asked by themselves, as the code asks them: whether all are answered "yes", or the number of the first "no". Assumes nothing.
use Prim.Native.Nat.{ℕ}
use mathlib.Core.Path.{◌≡◌, refl, sym}
use mathlib.Core.Bool.{Bool, true, false}
use Rattle.wire.specs.Answer.{Answer, result, refused, ask}
use Rattle.wire.proofs.AnswerLaws.{apart}

-- questions before some answer, and the same questions by themselves
pub record Before {A : Type 0} (next asked : Answer A) (q : Answer (Unit {0})) : Type 0 where
  pub yes : q ≡ result tt → asked ≡ next
  pub no : (n : ℕ) → q ≡ refused n → asked ≡ refused n

pub none : {A : Type 0} (next : Answer A) → Before next next (result tt)
none next = record { yes = λ e. refl; no = λ n e. absurd (apart (sym e)) }

-- one question more
pub more : {A : Type 0} {next asked : Answer A} {q : Answer (Unit {0})} (b : Bool) (k : ℕ) → Before next asked q → Before next (ask b k asked) (ask b k q)
more true k a = a
more false k a = record { yes = λ e. absurd (apart e); no = λ n e. cc }
