-- A name is told by its length: its bytes are its count and those it counts. Assumes nothing.
use mathlib.Core.Path.{◌∙◌, ap}
use mathlib.Core.Option.{some}
use lib.ListN.{length, drop, length-drop}
use lib.Seq.{length-take-le}
use native.Mathlib.Omega.{arith}
use Prim.Native.Nat.{ℕ, ◌+◌}
use Rattle.fingerprint_bodies.specs.Entries.{entry}
use Rattle.fingerprint_bodies.specs.Forms.{one_name}
use Rattle.fingerprint_bodies.specs.Code.{NameFound}
use Rattle.fingerprint_bodies.proofs.EntryLaws.{shown-some, shown-none}
use Rattle.fingerprint_bodies.proofs.NameListed.at_front.Goals as goal

pub returns-in_err-length : goal.returns-in_err-length
returns-in_err-length c = rw c.from_residual.ensures (shown-none length one_name c.args.rest.now (rw c.in_err-length.was at c.one_name.ensures))

pub returns : goal.returns
returns c =
    let bs = c.args.rest.now in
    let n = c.in_ok-length.length in
    let f : NameFound bs n = rw c.in_ok-length.was at c.one_name.ensures in
    let long = length-take-le n (drop 1 bs) (omega (arith, f.within, length-drop 1 bs)) in
    record {
      is = shown-some length one_name bs _ _ f.is ∙ ap (λ (k : ℕ). some (entry k (drop (1 + n) bs))) long;
      some = omega arith;
      within = f.within;
    }
