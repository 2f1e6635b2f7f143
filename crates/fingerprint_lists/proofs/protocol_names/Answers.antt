use mathlib.Core.Path.{ap, ◌∙◌}
use mathlib.Core.List.{List}
use Prim.Native.Nat.{ℕ, ◌+◌}
use lib.ListN.{length, length-drop}
use Rattle.fingerprint_bodies.specs.Entries.{or_empty, all_entries}
use Rattle.fingerprint_bodies.specs.Forms.{one_name}
use Rattle.fingerprint_lists.specs.Arrays.{spans_of, placed}
use Rattle.fingerprint_lists.proofs.GoodLaws.{names-after}
use native.Mathlib.Omega.{arith}
use Rattle.fingerprint_lists.proofs.protocol_names.Goals as goal

pub names-requires : goal.names-requires
names-requires c =
    let s = c.args.body.now in
    let after = c.after.ensures in
    (rw after (names-after s c.requires.0).found, omega (arith, ap length after, length-drop 2 s, c.requires.1))

pub returns : goal.returns
returns c =
    let s = c.args.body.now in
    c.names.ensures
    ∙ ap (λ (l : List ℕ). spans_of (placed (c.args.start + 2) (or_empty (all_entries one_name l)))) c.after.ensures
    ∙ ap (λ (l : List (List ℕ)). spans_of (placed (c.args.start + 2) l)) (names-after s c.requires.0).is
