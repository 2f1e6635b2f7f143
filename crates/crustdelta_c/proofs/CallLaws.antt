-- The answers of the maker, the joiner and the frame writer as single numbers. Assumes nothing.
use Prim.Native.Nat.{ℕ}
use mathlib.Core.Path.{ap}
use mathlib.Core.List.{List}
use Rattle.std.specs.Prelude.{Result}
use Rattle.wire.specs.Answer.{Answer, result, and_then, coded}
use Rattle.wire.specs.Refusals.{answer_of}
use Rattle.wire.specs.declared.refusals.Refusal.{Refusal}
use Rattle.frames.specs.Join.{Joins}
use Rattle.frames.specs.Cut.{Cuts}
use Rattle.tls.specs.Make.{Makes}
use Rattle.tls.specs.declared.Hello.{Hello}
use Rattle.crustdelta_c.specs.Calls.{MakeCoded, JoinCoded, CutCoded}

-- one part of the maker's answer
pub made-coded : (part : Hello → ℕ) {browser : ℕ} {name scid tape old new : List ℕ} {r : Result Hello Refusal} → Makes browser name scid tape old r new
    → MakeCoded part browser name scid tape old (coded (and_then (answer_of r) (λ h. result (part h)))) new
made-coded part m = record { is = ap (λ (a : Answer Hello). coded (and_then a (λ h. result (part h)))) m.is; output = m.output }

pub joined-coded : {bs out marks out' marks' : List ℕ} {r : Result ℕ Refusal} → Joins bs out marks r out' marks' → JoinCoded bs out marks (coded (answer_of r)) out' marks'
joined-coded j = record { is = ap coded j.is; output = j.output; marked = j.marked }

pub cut-coded : {c : ℕ} {hello old new : List ℕ} {r : Result ℕ Refusal} → Cuts c hello old r new → CutCoded c hello old (coded (answer_of r)) new
cut-coded k = record { is = ap coded k.is; output = k.output }
