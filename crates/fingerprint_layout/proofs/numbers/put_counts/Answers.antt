-- The counts are written, and then the numbers of the case that the name is. Assumes nothing.
use Prim.Native.Nat.{ℕ, ◌*◌}
use mathlib.Core.Path.{sym, refl, ap, ◌∙◌}
use mathlib.Core.List.{◌++◌}
use Rattle.std.specs.Prelude.{Option}
use Rattle.wire.proofs.Writing.{filled, joined, put_as}
use Rattle.fingerprint_lists.specs.declared.Span.{Span}
use Rattle.fingerprint_layout.specs.Layout.{littles, name_numbers}
use Rattle.fingerprint_layout.proofs.PieceLaws.{length-littles, littles-append, plainly}
use Rattle.fingerprint_layout.proofs.numbers.put_counts.Goals as goal

pub returns-in-Some : goal.returns-in-Some
unfolding name_numbers
returns-in-Some c =
    let counts = c.args.counts.now in
    let e = sym (littles-append 2 counts _) ∙ ap (λ (n : Option Span). littles 2 (counts ++ name_numbers n)) (sym c.in-Some.is) in
    let first = filled (length-littles 2 counts ∙ ap (λ (n : ℕ). 2 * n) c.told-counts) (plainly 2 counts _ c.put_numbers.ensures) in
    (put_as e (joined first (filled refl (plainly 2 _ _ c.put_numbers-in-Some.ensures)))).output

pub returns-in-None : goal.returns-in-None
unfolding name_numbers
returns-in-None c =
    let counts = c.args.counts.now in
    let e = sym (littles-append 2 counts _) ∙ ap (λ (n : Option Span). littles 2 (counts ++ name_numbers n)) (sym c.in-None.is) in
    let first = filled (length-littles 2 counts ∙ ap (λ (n : ℕ). 2 * n) c.told-counts) (plainly 2 counts _ c.put_numbers.ensures) in
    (put_as e (joined first (filled refl (plainly 2 _ _ c.put_numbers-in-None.ensures)))).output
