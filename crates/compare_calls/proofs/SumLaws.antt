-- What a write of a varint gives, as one number; and the loop of `compare_varint_sum`: what is still to be read gives the rest of the sum.
-- Assumes nothing.
use Rattle.std.proofs.Common.{◌≡◌, ℕ, zero, suc, ◌+◌, ◌-◌, ◌%◌, ◌^◌, ◌<◌, ◌≤◌, List, length, drop, sym, refl, ap, ◌∙◌, arith, length-drop}
use Rattle.std.specs.Prelude.{Result}
use Rattle.wire.specs.Answer.{Answer, result, refused, and_then, coded}
use Rattle.wire.specs.Refusals.{answer_of}
use Rattle.wire.specs.declared.refusals.Refusal.{Refusal}
use Rattle.varint.specs.Varint.{read_of, Written}
use Rattle.varint.specs.declared.Varint.{Varint}
use Rattle.compare_calls.specs.Sums.{coded_width, sum_from, sum_of, PutCoded}

pub written-coded : {v : ℕ} {old new : List ℕ} {r : Result ℕ Refusal} → Written v old r new → PutCoded v old (coded (answer_of r)) new
written-coded w = record { is = ap coded w.is; output = w.output }

pub width-coded : (a : Answer Varint) → coded (and_then a (λ x. result x.width)) ≡ coded_width a
width-coded (result x) = refl
width-coded (refused n) = refl

-- enough fuel is left for the bytes that are still to be read, and they give the whole sum
pub record Summing (s left : List ℕ) (sum : ℕ) : Type 0 where
  pub fuel : ℕ
  pub enough : length left ≤ fuel
  pub rest : sum_from fuel left sum ≡ sum_of s

pub starts : (s : List ℕ) → Summing s s 0
unfolding sum_of
starts s = record { fuel = length s; enough = omega arith; rest = refl }

-- a turn of the definition
sum-read : (n : ℕ) (s : List ℕ) (sum : ℕ) (x : Varint) → read_of s ≡ result x → sum_from (suc n) s sum ≡ sum_from n (drop x.width s) ((sum + x.value) % 2 ^ 64)
unfolding sum_from
sum-read n s sum x e = rw e

sum-refused : (n : ℕ) (s : List ℕ) (sum k : ℕ) → read_of s ≡ refused k → sum_from n s sum ≡ sum
unfolding sum_from
sum-refused zero s sum k e = refl
sum-refused (suc n) s sum k e = rw e

module _ (s left : List ℕ) (sum : ℕ) (i : Summing s left sum) where
  pub goes_on : (x : Varint) → read_of left ≡ result x → 1 ≤ x.width → x.width ≤ length left → Summing s (drop x.width left) ((sum + x.value) % 2 ^ 64)
  goes_on x e w l = go i.fuel i.enough i.rest
    where
      go : (n : ℕ) → length left ≤ n → sum_from n left sum ≡ sum_of s → Summing s (drop x.width left) ((sum + x.value) % 2 ^ 64)
      go zero k r = absurd (omega arith)
      go (suc n) k r = record { fuel = n; enough = omega (arith, length-drop x.width left); rest = sym (sum-read n left sum x e) ∙ r }

  pub stops : (k : ℕ) → read_of left ≡ refused k → sum ≡ sum_of s
  stops k e = sym (sum-refused i.fuel left sum k e) ∙ i.rest
