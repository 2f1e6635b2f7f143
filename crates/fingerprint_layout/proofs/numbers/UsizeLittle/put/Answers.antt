-- The two low bytes of a count are those of its rest by 65,536. Assumes nothing.
use Prim.Native.Nat.{ℕ, ◌%◌, ◌/◌}
use mathlib.Core.Path.{◌≡◌, ap, ◌∙◌}
use mathlib.Core.List.{List}
use native.Mathlib.Omega.{arith}
use Rattle.wire.specs.Front.{front}
use Rattle.fingerprint_layout.specs.Layout.{little}
use Rattle.fingerprint_layout.proofs.numbers.UsizeLittle.put.Goals as goal

low-bytes : (n : ℕ) → little 2 (n % 65536) ≡ little 2 n
unfolding little
low-bytes n =
    let low : n % 65536 % 256 ≡ n % 256 = omega arith in
    let high : n % 65536 / 256 % 256 ≡ n / 256 % 256 = omega arith in
    rw (low, high)

pub returns : goal.returns
returns c = c.put.ensures ∙ ap (λ (l : List ℕ). front l c.args.out.now) (low-bytes c.args.self)
