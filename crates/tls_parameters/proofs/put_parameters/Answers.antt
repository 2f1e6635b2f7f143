-- The loop keeps `Writing`: what is left are the parameters from the next one on. Assumes nothing.
use native.Mathlib.Omega.{arith}
use Rattle.wire.proofs.Writing.{begins}
use Rattle.profiles.specs.declared.TpEntry.TheVariants as entry
use Rattle.tls_parameters.specs.Parameters.{parameters}
use Rattle.tls_parameters.specs.Writing.{sent_of}
use Rattle.tls_parameters.specs.declared.Placed.{Placed}
use Rattle.tls_parameters.proofs.OrderLaws.{placed-room, placed-small, placed-written, placed-finished}
use Rattle.tls_parameters.proofs.put_parameters.Goals as goal

-- what stands for a missing one
abbrev missing : Placed
missing = record { parameter = entry.Varint 0 0; at = 0 }

pub loop-p-init : goal.loop-p-init
loop-p-init c =
    let args = c.args in
    begins (parameters (sent_of args.placed.now args.scid.now args.tape.now)) args.out.now c.requires.fits

pub put_parameter-n-requires : goal.put_parameter-n-requires
put_parameter-n-requires c =
    let args = c.args in
    let loop = c.loop-p in
    let one = c.requires.each loop.p-index missing c.loop-p-test.true in
    record {
      varints = one.0;
      fits = placed-room args.placed.now args.scid.now args.tape.now loop.p-index missing loop.invariant c.loop-p-test.true;
      there = one.1;
      small = placed-small args.placed.now args.scid.now args.tape.now loop.p-index missing loop.invariant c.loop-p-test.true c.requires.small;
    }

pub overflow_add-n : goal.overflow_add-n
overflow_add-n c =
    let args = c.args in
    let loop = c.loop-p in
    let written = placed-written args.placed.now args.scid.now args.tape.now loop.p-index missing loop.invariant c.loop-p-test.true c.put_parameter-n.ensures in
    omega (arith, written.within, c.requires.fits)

pub loop-p-preserved : goal.loop-p-preserved
loop-p-preserved c =
    let args = c.args in
    let loop = c.loop-p in
    placed-written args.placed.now args.scid.now args.tape.now loop.p-index missing loop.invariant c.loop-p-test.true c.put_parameter-n.ensures

pub returns : goal.returns
returns c =
    let args = c.args in
    let loop = c.loop-p in
    placed-finished args.placed.now args.scid.now args.tape.now loop.p-index (omega arith) loop.invariant
