-- Version and random, session id, suites, each to the part after the last. Assumes nothing.
use Prim.Native.Nat.{◌+◌, ◌-◌, ◌≤◌}
use mathlib.Core.Path.{◌≡◌}
use mathlib.Core.List.{◌++◌}
use lib.ListN.{length, take, drop, length-drop}
use lib.Seq.{length-take-le}
use Rattle.wire.specs.Front.{Put}
use Rattle.wire.specs.Vectors.{vector}
use Rattle.wire.proofs.Writing.{Writing, lent_from, back_from, place-within, next-room, last-room, last_written}
use Rattle.profiles.specs.Code.{profile_of}
use Rattle.tape.specs.Tape.{rand_bytes}
use Rattle.tls.specs.Hello.{fields}
use Rattle.tls.proofs.BuildLaws.{length-first}
use Rattle.tls.proofs.HelloLaws.{closing, length-session, length-closing, length_fields, random-stands, drawn-session, session-stands}
use native.Mathlib.Omega.{arith}
use Rattle.tls.proofs.making.put_fields.Goals as goal
use Rattle.tls.proofs.making.put_fields.Goals.{After-slice_known-2-1, After-slice_known-3-1, Start}

at-most-16 : (c : Start) → length (profile_of c.args.profile.now).cipher_suites ≤ 16
at-most-16 c = omega (arith, c.requires.0.suites, length-first c.args.profile.now.suite_count c.args.profile.now.cipher_suites)

-- version and random stand
random :
    (c : After-slice_known-2-1) →
    let args = c.args in
    let put-random = c.put_random in
    let session-length = c.session_length-s in
    let tape = args.tape.now in
    let p = profile_of args.profile.now in
    Writing (fields p tape) (vector 1 (rand_bytes session-length.result tape 32) ++ closing p.cipher_suites) args.out.now put-random.new.out 34
random c =
    let args = c.args in
    let session-length = c.session_length-s in
    let pre = c.requires in
    let put-random = c.put_random in
    random-stands (profile_of args.profile.now) args.tape.now session-length.ensures.0 pre.1 put-random.ensures

-- the session id was drawn, to the part after them
drawn :
    (c : After-slice_known-3-1) →
    let args = c.args in
    let put = c.put_vector-a in
    Put (vector 1 (rand_bytes c.session_length-s.result args.tape.now 32)) put.result (lent_from 34 c.put_random.new.out) put.new.out
drawn c =
    let s = c.session_length-s in
    drawn-session (profile_of c.args.profile.now) c.args.tape.now s.ensures.0 (omega (arith, c.requires.2, s.ensures.0)) c.put_vector-a.ensures

-- and stands
session :
    (c : After-slice_known-3-1) →
    let args = c.args in
    let put = c.put_vector-a in
    let p = profile_of args.profile.now in
    Writing (fields p args.tape.now) (closing p.cipher_suites) args.out.now (back_from 34 c.put_random.new.out put.new.out) (34 + put.result)
session c =
    let args = c.args in
    let p = profile_of args.profile.now in
    let stands = random-stands p args.tape.now c.session_length-s.ensures.0 c.requires.1 c.put_random.ensures in
    session-stands p args.tape.now c.session_length-s.ensures.0 stands (drawn c)

pub put_random-requires : goal.put_random-requires
put_random-requires c =
    let pre = c.requires in
    let args = c.args in
    let long = length_fields (profile_of args.profile.now) args.tape.now in
    (omega (arith, pre.1), omega (arith, pre.2))

pub slice_bounds-put_vector-count : goal.slice_bounds-put_vector-count
slice_bounds-put_vector-count c = place-within (random c)

pub slice_bounds-put_vector-start : goal.slice_bounds-put_vector-start
slice_bounds-put_vector-start c = place-within (random c)

pub put_vector-a-requires : goal.put_vector-a-requires
put_vector-a-requires c =
    let args = c.args in
    let s = c.session_length-s in
    let tape = args.tape.now in
    let rest = closing (profile_of args.profile.now).cipher_suites in
    let long : length (take (32 + s.result - 32) (drop 32 tape)) ≡ s.result = omega (arith, length-take-le (32 + s.result - 32) (drop 32 tape) (omega (arith, length-drop 32 tape, c.requires.2, s.ensures.0))) in
    let room = next-room (vector 1 (rand_bytes s.result tape 32)) rest (random (goal.at.put_vector-a-requires c).After-slice_known-2-1) (length-session s.result tape) in
    (omega arith, omega (arith, room, long), omega (arith, long, s.ensures.1))

pub overflow_add-a : goal.overflow_add-a
overflow_add-a c =
    let s = c.session_length-s in
    let tape = c.args.tape.now in
    let put = drawn-session (profile_of c.args.profile.now) tape s.ensures.0 (omega (arith, c.requires.2, s.ensures.0)) c.put_vector-a.ensures in
    omega (arith, put.count, length-session s.result tape, s.ensures.1)

pub slice_bounds-put_suites-count : goal.slice_bounds-put_suites-count
slice_bounds-put_suites-count c = place-within (session c)

pub slice_bounds-put_suites-start : goal.slice_bounds-put_suites-start
slice_bounds-put_suites-start c = place-within (session c)

pub put_suites-requires : goal.put_suites-requires
put_suites-requires c =
    let start = (goal.at.put_suites-requires c).Start in
    let p = start.args.profile.now in
    let suites = (profile_of p).cipher_suites in
    rw c.suites.ensures
    (last-room (closing suites) (session (goal.at.put_suites-requires c).After-slice_known-3-1) (length-closing suites), omega (arith, at-most-16 start))

pub overflow_add-result : goal.overflow_add-result
overflow_add-result c =
    let put-suites = c.put_suites in
    let session-length = c.session_length-s in
    let start = (goal.at.overflow_add-result c).Start in
    let p = start.args.profile.now in
    let put = put-suites.ensures in
    omega (arith, session-length.ensures.1, (drawn (goal.at.overflow_add-result c).After-slice_known-3-1).count, length-session session-length.result start.args.tape.now, rw c.suites.ensures at put.count, length-closing (profile_of p).cipher_suites, at-most-16 start)

pub returns : goal.returns
returns c =
    let put-suites = c.put_suites in
    let p = c.args.profile.now in
    last_written (closing (profile_of p).cipher_suites) (session (goal.at.returns c).After-slice_known-3-1) (rw c.suites.ensures at put-suites.ensures)
