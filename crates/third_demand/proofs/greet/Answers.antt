-- `third_demand::greet` meets its contract: each call's answer and buffer are those of the call. Assumes nothing.
use Prim.Native.Nat.{ℕ}
use mathlib.Core.Path.{◌≡◌, sym, ap, ◌∙◌}
use mathlib.Core.List.{List}
use lib.ListN.{take}
use lib.Seq.{length-take-le}
use native.Mathlib.Omega.{arith}
use Rattle.wire.specs.Refusals.{answer_of}
use Rattle.fingerprint.specs.Reader.{read}
use Rattle.fingerprint.specs.Report.{parsed_of, told_report}
use Rattle.third_demand.specs.Demand.{front_of}
use Rattle.third_demand.proofs.RunLaws.{end-inside, front-part}
use Rattle.third_demand.proofs.greet.Goals as goal

pub slice_bounds-parse_clienthello-end : goal.slice_bounds-parse_clienthello-end
slice_bounds-parse_clienthello-end c =
    let joined = c.reassemble_crypto-joined in
    omega (arith, end-inside joined.ensures, joined.auto, c.unwrap_or.ensures)

pub slice_bounds-parse_clienthello-end-2 : goal.slice_bounds-parse_clienthello-end-2
slice_bounds-parse_clienthello-end-2 c =
    let joined = c.reassemble_crypto-joined in
    sym (length-take-le c.unwrap_or.result joined.new.out (omega (arith, end-inside joined.ensures, joined.auto, c.unwrap_or.ensures)))

pub returns : goal.returns
returns c =
    let joined = c.reassemble_crypto-joined in
    let parsed = c.parse_clienthello-report.ensures in
    let out : List ℕ = joined.new.out in
    let front : take c.unwrap_or.result out ≡ front_of (answer_of joined.result) out = rw c.unwrap_or.ensures (front-part joined.result out) in
    record {
      bytes = (λ i. (c.type_inv.scid i).fits, λ i. (c.type_inv.tape i).fits);
      went = record {
        made = c.generate_client_hello-made.ensures;
        joined = joined.ensures;
        report = parsed.is ∙ ap (λ (h : List ℕ). parsed_of (read h)) front;
        tells = parsed.tells ∙ ap (λ (h : List ℕ). told_report (read h)) front;
      };
    }
