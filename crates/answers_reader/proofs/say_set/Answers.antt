-- `say_set` writes the types of the set. Assumes nothing.
use Prim.Native.Nat.{ℕ}
use mathlib.Core.Path.{◌≡◌, ap, ◌∙◌}
use mathlib.Core.List.{List}
use Rattle.wire.specs.Numbers.{Bytes}
use Rattle.fingerprint.specs.Reader.{read}
use Rattle.fingerprint.specs.Calls.{extension_set}
use Rattle.fingerprint_lists.specs.Arrays.{Types}
use Rattle.reports.specs.Lines.{set_text}
use Rattle.reports.specs.Code.{set_parts}
use Rattle.reports.proofs.ShowLaws.{set-shown, set-filled}
use Rattle.answers.proofs.AnswerLaws.{says-result}
use Rattle.answers_reader.proofs.ReaderLaws.{set-few}
use Rattle.answers_reader.proofs.say_set.Goals as goal

pub put_set-requires : goal.put_set-requires
put_set-requires c =
    let h : List ℕ = c.args.hello.now in
    let bytes : Bytes h = λ i. (c.type_inv.hello i).fits in
    let e = c.extension_set-types.ensures in
    rw e (set-filled (extension_set (read h)) (set-few h bytes))

pub returns : goal.returns
returns c =
    let args = c.args in
    let set = c.extension_set-types in
    let put = c.put_set in
    let types : List ℕ = extension_set (read args.hello.now) in
    let shown : set_parts set.result ≡ set_text types = ap (λ (t : Types). set_parts t) set.ensures ∙ set-shown types in
    says-result (set_text types) put.result args.out.now put.new.out (rw shown at put.ensures)
