-- The refusal is that of the head, or of the walk. Assumes nothing.
use Prim.Native.Nat.{ℕ}
use mathlib.Core.Path.{◌≡◌, refl, sym, ap, ◌∙◌}
use mathlib.Core.List.{List}
use Rattle.std.specs.Prelude.{Result, Ok, Err}
use Rattle.std.specs.Result.{result_err}
use Rattle.wire.specs.Refusals.{told_number}
use Rattle.wire.specs.declared.refusals.Refusal.{Refusal}
use Rattle.fingerprint.specs.Reader.{read}
use Rattle.fingerprint.specs.Report.{number_of, refusal_number}
use Rattle.fingerprint.specs.Code.{HeadFound, SurveyAs}
use Rattle.fingerprint.specs.declared.head.Head.{Head}
use Rattle.fingerprint.specs.declared.walk.Survey.{Survey}
use Rattle.fingerprint.proofs.ReportLaws.{read-refused, read-number}
use Rattle.fingerprint.proofs.reading.refusal.Goals as goal

err-number : {A : Type 0} (r : Result A Refusal) → refusal_number (result_err r) ≡ told_number r
err-number (Ok a) = refl
err-number (Err e) = refl

walk-number : (h : List ℕ) (head : Head) → HeadFound h head → (r : Result Survey Refusal) (types ids : List ℕ) → SurveyAs h head.block r types ids
    → told_number r ≡ number_of (read h)
walk-number h head f (Ok s) types ids w = read-number h (Ok (head, s)) types ids (f, w)
walk-number h head f (Err e) types ids w = read-number h (Err e) types ids (read-refused f _ w)

pub returns-in-Ok : goal.returns-in-Ok
returns-in-Ok c =
    ap refusal_number c.err.ensures.value
    ∙ err-number c.survey_block.result
    ∙ walk-number c.args.hello.now c.in-Ok.head c.in-Ok.ensures c.survey_block.result _ _ c.survey_block.ensures

pub returns-in-Err : goal.returns-in-Err
unfolding number_of
returns-in-Err c = sym (ap number_of c.in-Err.ensures)
