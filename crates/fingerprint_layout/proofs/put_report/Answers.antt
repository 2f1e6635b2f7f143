-- The lists are written, and then the counts before them. Assumes nothing.
use Rattle.fingerprint_bodies.specs.Body as value
use Rattle.fingerprint_layout.proofs.WrittenLaws.{report-put}
use native.Mathlib.Omega.{arith}
use Rattle.fingerprint_layout.proofs.put_report.Goals as goal

pub name_in-requires : goal.name_in-requires
name_in-requires c =
    let pre = c.requires in
    rw c.body.ensures (omega (arith, pre.1.inside value.name, pre.1.short))

pub returns : goal.returns
returns c =
    let middle = c in
    let args = middle.args in
    let pre = middle.requires in
    let put-first-lists = middle.put_first_lists in
    let put-last-lists = c.put_last_lists in
    report-put args.out.now (omega (arith, pre.0)) put-first-lists.ensures put-last-lists.ensures (rw c.body.ensures at c.name_in.ensures) c.put_counts.ensures
