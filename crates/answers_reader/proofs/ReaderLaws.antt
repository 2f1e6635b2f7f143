-- What the commands of the reader need of its answers. Assumes nothing.
use Prim.Native.Nat.{ℕ, ◌≤◌}
use mathlib.Core.Path.{◌≡◌, refl}
use mathlib.Core.List.{List}
use native.Mathlib.Omega.{arith}
use lib.ListN.{length}
use Rattle.wire.specs.Answer.{Answer, result, refused}
use Rattle.wire.specs.Numbers.{Bytes}
use Rattle.fingerprint.specs.ClientHello.{ClientHello}
use Rattle.fingerprint.specs.Reader.{read}
use Rattle.fingerprint.specs.Report.{report}
use Rattle.fingerprint.specs.Calls.{extension_set}
use Rattle.fingerprint.proofs.RisingLaws.{length-rising}
use Rattle.fingerprint.proofs.ShownLaws.{in-range}

-- a set has at most 64 types
few-types : (h : List ℕ) → Bytes h → (a : Answer ClientHello) → read h ≡ a → length (extension_set a) ≤ 64
unfolding extension_set
few-types h b (result v) e =
    omega (arith, length-rising (report v).extensions, (in-range h b v e).counts.types)
few-types h b (refused n) e = omega arith

pub set-few : (h : List ℕ) → Bytes h → length (extension_set (read h)) ≤ 64
set-few h b = few-types h b (read h) refl
