-- The number of a refusal as the answer of `crustdelta_read`. Assumes nothing.
use Prim.Native.Nat.{ℕ, ◌+◌, ◌^◌, ◌≤◌}
use mathlib.Core.Path.{◌≡◌, refl}
use native.Mathlib.Omega.{arith}
use Rattle.wire.specs.Answer.{Answer, result, refused}
use Rattle.wire.specs.Refusals.{question}
use Rattle.wire.specs.declared.refusals.Refusal.{Refusal}
use Rattle.fingerprint.specs.ClientHello.{ClientHello}
use Rattle.fingerprint.specs.Report.{number_of}
use Rattle.fingerprint.proofs.Accepted.{Numbered}
use Rattle.fingerprint.proofs.StepLaws.{question-some}
use Rattle.crustdelta_c.specs.Calls.{read_answer}

-- the reader's refusals have numbers up to 23
pub refusal-bound : (n : ℕ) (a : Answer ClientHello) → Numbered a → n ≡ number_of a → n ≤ 23
unfolding number_of
refusal-bound n (result v) f e = omega arith
refusal-bound n (refused k) f e = omega (arith, f.1)

pub none-refused : (a : Answer ClientHello) → Numbered a → 0 ≡ number_of a → 0 ≡ read_answer a
unfolding number_of read_answer
none-refused (result v) f e = refl
none-refused (refused k) f e = absurd (omega (arith, f.0))

pub one-refused : (a : Answer ClientHello) (r : Refusal) → question r ≡ number_of a → 2 ^ 32 + question r ≡ read_answer a
unfolding number_of read_answer
one-refused (result v) r e = absurd (question-some r e)
one-refused (refused k) r e = rw e
