-- `script::reading::piece_end` meets its contract: the first byte says which search ends the piece. Assumes nothing.
use Rattle.std.proofs.Common.{◌≡◌, ℕ, ◌+◌, length, sym, ap, ◌∙◌, arith}
use Rattle.std.specs.Prelude.{Option}
use Rattle.std.specs.Option.{unwrap_or}
use Rattle.script.specs.Scan.{plus, quote, find_of}
use Rattle.script.proofs.ScanLaws.{place-some, place-none, find-least, find-most, find-or}
use Rattle.script.proofs.PieceLaws.{end-past, end-plain, end-closed, end-open}
use Rattle.script.proofs.reading.piece_end.Goals as goal

pub returns-then-operand-from : goal.returns-then-operand-from
returns-then-operand-from c =
    let start = c in
    end-past start.args.operand.now start.args.from c.if-operand-from.true

pub returns-in-Some : goal.returns-in-Some
returns-in-Some c =
    let s = c.args.operand.now in
    let i = c.args.from in
    let p = place-some s (i + 1) quote c.in-Some.close (sym c.in-Some.is ∙ c.find-2.ensures.is) in
    record {
      is = end-closed s i c.in-Some.close c.if-operand-from.false c.if-operand-from-ne34.false p.0 p.1;
      least = omega (arith, p.0, find-least s (i + 1) quote);
      most = omega (arith, p.1);
    }

pub returns-in-None : goal.returns-in-None
returns-in-None c =
    let s = c.args.operand.now in
    let i = c.args.from in
    record {
      is = end-open s i c.if-operand-from.false c.if-operand-from-ne34.false (place-none s (i + 1) quote (sym c.in-None.is ∙ c.find-2.ensures.is));
      least = omega arith;
      most = omega arith;
    }

pub returns-then-operand-from-ne34 : goal.returns-then-operand-from-ne34
returns-then-operand-from-ne34 c =
    let s = c.args.operand.now in
    let i = c.args.from in
    let e : c.unwrap_or.result ≡ find_of s i plus = c.unwrap_or.ensures ∙ ap (λ (r : Option ℕ). unwrap_or r (length s)) c.find.ensures.is ∙ find-or s i plus (omega arith) in
    record {
      is = e ∙ end-plain s i c.if-operand-from.false c.if-operand-from-ne34.true;
      least = omega (arith, e, find-least s i plus);
      most = omega (arith, e, find-most s i plus (omega arith));
    }
