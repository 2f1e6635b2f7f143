-- The parameters that are sent are the profile's, each with its value, in another order; and so are their ids. Assumes nothing.
use Prim.Native.Nat.{ℕ, ◌+◌, ◌^◌, ◌≤◌, ◌<◌}
use mathlib.Core.Path.{◌≡◌, refl, sym, ap, ◌∙◌}
use mathlib.Core.Bool.{true, cond}
use mathlib.Core.List.{List, [], ◌∷◌, map}
use lib.Dec.{leb}
use borrow.Author.Tests.{le-leb, lt-leb}
use Rattle.wire.specs.Sums.{total, Permutation}
use Rattle.wire.proofs.SumLaws.{total-map, and_left, and_right}
use Rattle.profiles.specs.Profile.{Parameter, varint, bytes, version_info, scid_source, grease}
use Rattle.profiles.specs.Sizes.{parameter_draws}
use Rattle.profiles.specs.Test.{all, id_of, parameter_ok}
use Rattle.profiles.proofs.TestLaws.{varint-ok, bytes_ok, version-info-ok, scid-source-ok}
use Rattle.tape.specs.Tape.{next_u64, grease_id}
use Rattle.tape.proofs.DrawnNumbers.{grease-least}
use Rattle.tape.proofs.ShuffleLaws.{shuffle-permutes}
use Rattle.tls_parameters.specs.Parameters.{Resolved, none, resolve, resolved, after_parameters, sent_parameters}

pub sent-permutes : (ps : List Parameter) (scid tape : List ℕ) (at : ℕ) → Permutation (resolved ps scid tape at) (sent_parameters ps scid tape at)
unfolding sent_parameters
sent-permutes ps scid tape at = shuffle-permutes none (resolved ps scid tape at) tape (after_parameters ps at)

-- an id as the test of profiles counts it: every id from 2^61 on, as GREASE's are, is 2^61
unfoldable pub folded : ℕ → ℕ
folded x = cond (leb (2 ^ 61) x) (2 ^ 61) x

pub folded-below : (x : ℕ) → x < 2 ^ 61 → folded x ≡ x
unfolding folded
folded-below x h = rw (lt-leb (2 ^ 61) x h)

pub folded-above : (x : ℕ) → 2 ^ 61 ≤ x → folded x ≡ 2 ^ 61
unfolding folded
folded-above x h = rw (le-leb (2 ^ 61) x h)

pub folded-id : (p : Parameter) (scid tape : List ℕ) (at : ℕ) → parameter_ok p ≡ true → folded (resolve p scid tape at).id ≡ id_of p
unfolding resolve
folded-id (varint i v) scid tape at e = folded-below i (varint-ok i v e).0
folded-id (bytes i b) scid tape at e = folded-below i (bytes_ok i b e).0
folded-id (version_info i) scid tape at e = folded-below i (version-info-ok i e)
folded-id (scid_source i) scid tape at e = folded-below i (scid-source-ok i e)
folded-id grease scid tape at e = folded-above (grease_id (next_u64 tape at)) (grease-least (next_u64 tape at))

-- in profile order
resolved-ids : (ps : List Parameter) (scid tape : List ℕ) (at : ℕ) → all parameter_ok ps ≡ true
    → map id_of ps ≡ map (λ r. folded r.id) (resolved ps scid tape at)
unfolding all resolved
resolved-ids [] scid tape at e = refl
resolved-ids (p ∷ ps) scid tape at e =
    rw (folded-id p scid tape at (and_left (parameter_ok p) (all parameter_ok ps) e))
    (ap (λ (l : List ℕ). id_of p ∷ l) (resolved-ids ps scid tape (at + parameter_draws p) (and_right (parameter_ok p) (all parameter_ok ps) e)))

pub ids-permute : (ps : List Parameter) (scid tape : List ℕ) (at : ℕ) → all parameter_ok ps ≡ true
    → Permutation (map id_of ps) (map (λ r. folded r.id) (sent_parameters ps scid tape at))
ids-permute ps scid tape at e f =
    let fold : Resolved → ℕ = λ r. folded r.id in
    ap (λ (l : List ℕ). total f l) (resolved-ids ps scid tape at e)
    ∙ total-map fold f (resolved ps scid tape at)
    ∙ sent-permutes ps scid tape at (λ r. f (fold r))
    ∙ sym (total-map fold f (sent_parameters ps scid tape at))
