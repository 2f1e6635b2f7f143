-- `read_number` meets its contract: the value so far with the digits left makes the number of the whole text, and the digits passed are decimal. Assumes nothing.
use Rattle.std.proofs.Common.{◌≡◌, ℕ, ◌+◌, ◌-◌, ◌*◌, ◌^◌, ◌≤◌, map, get_or, drop, rules, sym, refl, ap, ◌∙◌, arith}
use Rattle.std.specs.Prelude.{Some}
use Rattle.std.proofs.lemmas.Bool.{eqb-true, eqb-false}
use Rattle.wire.specs.Numbers.{number}
use Rattle.script.specs.Decimal.{is_decimal, decimal_value}
use Rattle.script.proofs.ScanLaws.{all-fails, all-next, all_end}
use Rattle.script.proofs.DecimalLaws.{value_of, number-none, number-bad, number-large, number-value, value-next, value-end, value-least}
use Rattle.script.proofs.reading.read_number.Goals as goal
use Rattle.script.proofs.reading.read_number.Goals.{Else-not-is_ascii_digit}

pub returns-then-is_empty : goal.returns-then-is_empty
returns-then-is_empty c = number-none c.args.text.now (eqb-true _ 0 (sym c.is_empty.ensures ∙ c.if-is_empty.true))

pub loop-b-init : goal.loop-b-init
unfolding number
loop-b-init c = (omega arith, refl, refl)

pub returns-then-not-is_ascii_digit : goal.returns-then-not-is_ascii_digit
unfolding is_decimal
returns-then-not-is_ascii_digit c =
    let s = c.args.text.now in
    let l = c.loop-b in
    number-bad s (sym l.invariant.1 ∙ all-fails is_decimal s l.b-index c.loop-b-test.true (sym c.is_ascii_digit.ensures.value ∙ c.if-not-is_ascii_digit.true))

pub returns-in_err-checked_mul : goal.returns-in_err-checked_mul
returns-in_err-checked_mul c =
    let s = c.args.text.now in
    let l = c.loop-b in
    let large : 2 ^ 64 ≤ l.v * 10 = search rules in
    let next = value-next s l.b-index l.v c.loop-b-test.true in
    let least = value-least (l.v * 10 + (get_or s l.b-index 0 - 48)) (map decimal_value (drop (l.b-index + 1) s)) in
    c.from_residual.ensures ∙ number-large s (omega (arith, large, l.invariant.2, next, least))

pub returns-in_err-v : goal.returns-in_err-v
returns-in_err-v c =
    let s = c.args.text.now in
    let l = c.loop-b in
    let large : 2 ^ 64 ≤ l.v * 10 + (get_or s l.b-index 0 - 48) = omega (arith, c.in_err-v.ensures, c.in_ok-checked_mul.ensures, c.from.ensures) in
    let next = value-next s l.b-index l.v c.loop-b-test.true in
    let least = value-least (l.v * 10 + (get_or s l.b-index 0 - 48)) (map decimal_value (drop (l.b-index + 1) s)) in
    c.from_residual-in_err-v.ensures ∙ number-large s (omega (arith, large, l.invariant.2, next, least))

pub loop-b-preserved : goal.loop-b-preserved
unfolding is_decimal
loop-b-preserved c =
    let s = c.args.text.now in
    let l = c.loop-b in
    let v : c.in_ok-v.v ≡ l.v * 10 + (get_or s l.b-index 0 - 48) = omega (arith, c.in_ok-v.ensures, c.in_ok-checked_mul.ensures, c.from.ensures) in (
      omega (arith, c.in_ok-v.ensures),
      sym (all-next is_decimal s l.b-index c.loop-b-test.true (sym c.is_ascii_digit.ensures.value ∙ c.if-not-is_ascii_digit.false)) ∙ l.invariant.1,
      rw v (sym (value-next s l.b-index l.v c.loop-b-test.true) ∙ l.invariant.2),
    )

pub returns : goal.returns
returns c =
    let s = c.args.text.now in
    let l = c.loop-b in
    let v : l.v ≡ value_of s = sym (value-end s l.b-index l.v (omega arith)) ∙ l.invariant.2 in
    ap (λ (x : ℕ). Some x) v ∙ number-value s (omega (arith, eqb-false _ 0 (sym c.is_empty.ensures ∙ c.if-is_empty.false))) (sym l.invariant.1 ∙ all_end is_decimal s l.b-index (omega arith)) (rw (← v) l.invariant.0)
