-- The head, the key and the payload, each to the part after the last. Assumes nothing.
use Prim.Native.Nat.{ℕ, ◌+◌, ◌-◌, ◌%◌}
use mathlib.Core.Path.{◌≡◌, sym}
use mathlib.Core.List.{List, [], ◌∷◌, ◌++◌, append_assoc}
use lib.ListN.{length, length-append}
use Rattle.wire.specs.Numbers.{digits}
use Rattle.wire.specs.Vectors.{vector}
use Rattle.wire.proofs.Writing.{filled, joined, put_as}
use Rattle.tape.specs.Tape.{rand_bytes, next_u64, payload_length}
use Rattle.tape.proofs.DrawLaws.{rand_bytes-part}
use Rattle.tls_extensions.specs.Extensions.{ext_encrypted_client_hello}
use Rattle.tls_extensions.proofs.LengthLaws.{length-random-vector, length-ech-body, length-encrypted-client-hello}
use Rattle.tls_extensions.proofs.HeadLaws.{length-head, extension-is}
use native.Mathlib.Omega.{arith}
use Rattle.tls_extensions.proofs.ext_encrypted_client_hello.Goals as goal
use Rattle.tls_extensions.proofs.ext_encrypted_client_hello.Goals.{After-payload_length-n}

-- head, key and payload one after the other
ech-is : (tape : List ℕ) (at n config : ℕ) → n ≡ payload_length (next_u64 tape (at + 40)) → config ≡ next_u64 tape at % 256
    → (((digits 256 2 65037 ++ digits 256 2 (42 + n)) ++ (0 ∷ 0 ∷ 1 ∷ 0 ∷ 1 ∷ config ∷ [])) ++ vector 2 (rand_bytes 32 tape (at + 8)))
    ++ vector 2 (rand_bytes n tape (at + 48))
    ≡ (ext_encrypted_client_hello tape at).bytes
unfolding ext_encrypted_client_hello
ech-is tape at n config e f =
    let head : List ℕ = digits 256 2 65037 ++ digits 256 2 (42 + n) in
    let fixed : List ℕ = 0 ∷ 0 ∷ 1 ∷ 0 ∷ 1 ∷ config ∷ [] in
    let key : List ℕ = vector 2 (rand_bytes 32 tape (at + 8)) in
    let payload : List ℕ = vector 2 (rand_bytes n tape (at + 48)) in
    let long : 42 + n ≡ length (fixed ++ (key ++ payload)) = sym (length-ech-body config n tape at) in
    rw (sym e, sym f, append_assoc (head ++ fixed) key payload, append_assoc head fixed (key ++ payload), long)
    (extension-is 65037 (fixed ++ (key ++ payload)))

drawn-length :
    (c : After-payload_length-n) →
    let args = c.args in
    c.payload_length-n.result ≡ payload_length (next_u64 args.tape.now (args.at + 40))
drawn-length c = rw c.next_u64-2.ensures.0 at c.payload_length-n.ensures.0

pub returns : goal.returns
unfolding ext_encrypted_client_hello
returns c =
    let args = c.args in
    let payload-length = c.payload_length-n in
    let put-ech-head = c.put_ech_head in
    let at = args.at in
    let tape = args.tape.now in
    let n = payload-length.result in
    let n-is = drawn-length (goal.at.returns c).After-payload_length-n in
    let next-u64 = c.next_u64 in
    let config = next-u64.result % 256 in
    let first = digits 256 2 65037 ++ digits 256 2 (42 + n) in
    let fixed : List ℕ = 0 ∷ 0 ∷ 1 ∷ 0 ∷ 1 ∷ config ∷ [] in
    let ten : length (first ++ fixed) ≡ 10 = omega (arith, length-append first fixed, length-head 65037 (42 + n)) in
    let head = filled ten put-ech-head.ensures in
    let whole-key : at + 40 - (at + 8) ≡ 32 = omega arith in
    let whole-payload : at + 48 + n - (at + 48) ≡ n = omega arith in
    let drawn-key = rw (whole-key, ← (rand_bytes-part 32 tape (at + 8) (omega (arith, c.requires.1)))) at c.put_vector.ensures in
    let key = filled (length-random-vector 32 tape (at + 8)) drawn-key.output in
    let payload = rw (whole-payload, ← (rand_bytes-part n tape (at + 48) (omega (arith, c.requires.1, n-is)))) at c.put_vector-2.ensures in
    let whole = put_as (ech-is tape at n config n-is (rw next-u64.ensures.0)) (joined (joined head key) payload) in
    record { put = filled (rw n-is (length-encrypted-client-hello tape at)) whole.output; next = rw n-is }
