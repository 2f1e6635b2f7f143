-- The parts of a hello: the fields before the extensions, the block of extensions, the body, and the whole. Assumes nothing.
use Prim.Native.Nat.{ℕ, suc, ◌+◌, ◌-◌, ◌*◌, ◌≤◌, ◌<◌}
use mathlib.Core.Path.{◌≡◌, refl, sym, ap, ◌∙◌}
use mathlib.Core.List.{List, [], ◌∷◌, ◌++◌, append_assoc, map}
use native.Mathlib.Nat.{mod-eq_of_lt}
use native.Mathlib.Omega.{arith}
use lib.ListN.{length, take, drop, length-append}
use Rattle.wire.specs.Front.{front, Put}
use Rattle.wire.specs.Numbers.{digits}
use Rattle.wire.specs.Vectors.{vector, words}
use Rattle.wire.proofs.ListLaws.{length-part-to-end}
use Rattle.wire.proofs.NumberLaws.{length_digits}
use Rattle.wire.proofs.VectorLaws.{length-vector, length-words}
use Rattle.wire.proofs.Writing.{Writing, lent_from, back_from, filled, writes, first-written, last_written, last-room, length_back}
use Rattle.profiles.specs.Profile.{Profile}
use Rattle.profiles.specs.Sizes.{session_length, after_order}
use Rattle.profiles.specs.Code.{type_number, profile_of, Sound}
use Rattle.profiles.specs.declared.ExtType.{ExtType}
use Rattle.profiles.specs.declared.Profile as code
use Rattle.tape.specs.Tape.{rand_bytes}
use Rattle.tape.specs.Part.{Puts}
use Rattle.tape.specs.declared.Wrote.{Wrote}
use Rattle.tape.proofs.DrawLaws.{length-rand_bytes, rand_bytes-part}
use Rattle.tape.proofs.PartLaws.{headed-part}
use Rattle.tls.specs.Hello.{build_extensions, fields, block, body, hello}
use Rattle.tls.specs.Writing.{ExtensionsRoom, counted_block, BlockRoom, BodyRoom, HelloRoom}
use Rattle.tls.proofs.OrderLaws.{Ordered}

-- ---- the fields before the extensions

-- a number below 256 is its one digit
one-digit : (n : ℕ) → n < 256 → digits 256 1 n ≡ n ∷ []
unfolding digits
one-digit n h = rw (mod-eq_of_lt h)

-- version and random
abbrev pub opening : List ℕ → List ℕ
opening tape = digits 256 2 771 ++ rand_bytes 32 tape 0

pub length-opening : (tape : List ℕ) → length (opening tape) ≡ 34
length-opening tape = omega (arith, length-append (digits 256 2 771) (rand_bytes 32 tape 0), length_digits 256 2 771, length-rand_bytes 32 tape 0)

pub length-session : (n : ℕ) (tape : List ℕ) → length (vector 1 (rand_bytes n tape 32)) ≡ 1 + n
length-session n tape = omega (arith, length-vector 1 (rand_bytes n tape 32), length-rand_bytes n tape 32)

pub session-is : (n : ℕ) (tape : List ℕ) → n < 256 → (n ∷ []) ++ rand_bytes n tape 32 ≡ vector 1 (rand_bytes n tape 32)
unfolding vector
session-is n tape h = rw (length-rand_bytes n tape 32, one-digit n h)

-- the suites with their length, and the one compression method
abbrev pub closing : List ℕ → List ℕ
closing suites = vector 2 (words suites) ++ vector 1 (0 ∷ [])

pub closing-is : (suites : List ℕ) → digits 256 2 (2 * length suites) ++ (words suites ++ (1 ∷ 0 ∷ [])) ≡ closing suites
unfolding vector digits
closing-is suites = rw (length-words suites) (sym (append_assoc (digits 256 2 (2 * length suites)) (words suites) (1 ∷ 0 ∷ [])))

pub length-closing : (suites : List ℕ) → length (closing suites) ≡ 4 + 2 * length suites
length-closing suites =
    omega (arith, length-append (vector 2 (words suites)) (vector 1 (0 ∷ [])), length-vector 2 (words suites), length-words suites, length-vector 1 (0 ∷ []))

pub fields-is : (p : Profile) (tape : List ℕ)
    → opening tape ++ (vector 1 (rand_bytes (session_length p) tape 32) ++ closing p.cipher_suites) ≡ fields p tape
unfolding fields
fields-is p tape = append_assoc (digits 256 2 771) (rand_bytes 32 tape 0) (vector 1 (rand_bytes (session_length p) tape 32) ++ closing p.cipher_suites)

pub length_fields : (p : Profile) (tape : List ℕ) → length (fields p tape) ≡ 39 + session_length p + 2 * length p.cipher_suites
length_fields p tape =
    let session : List ℕ = vector 1 (rand_bytes (session_length p) tape 32) in
    sym (ap length (fields-is p tape))
    ∙ omega (
      arith,
      length-append (opening tape) (session ++ closing p.cipher_suites),
      length-append session (closing p.cipher_suites),
      length-opening tape,
      length-session (session_length p) tape,
      length-closing p.cipher_suites,
    )

module _ (p : Profile) (tape : List ℕ) {s : ℕ} (e : s ≡ session_length p) where
  -- version and random stand
  pub random-stands : {old new : List ℕ} → length (fields p tape) ≤ length old → new ≡ front (opening tape) old
      → Writing (fields p tape) (vector 1 (rand_bytes s tape 32) ++ closing p.cipher_suites) old new 34
  random-stands h n =
      let rest : List ℕ = vector 1 (rand_bytes (session_length p) tape 32) ++ closing p.cipher_suites in
      rw (e, ← fields-is p tape) (first-written (opening tape) rest (rw (fields-is p tape) h) (filled (length-opening tape) n))

  -- the session id, which was drawn from the place after the random
  pub drawn-session : {old new : List ℕ} {n : ℕ} → 32 + s ≤ length tape → Put (vector 1 (take (32 + s - 32) (drop 32 tape))) n old new
      → Put (vector 1 (rand_bytes s tape 32)) n old new
  drawn-session h p =
      let count : 32 + s - 32 ≡ s = omega arith in
      rw (count, ← (rand_bytes-part s tape 32 h)) at p

  -- and the session id
  pub session-stands : {old out part : List ℕ} {n : ℕ} → Writing (fields p tape) (vector 1 (rand_bytes s tape 32) ++ closing p.cipher_suites) old out 34
      → Put (vector 1 (rand_bytes s tape 32)) n (lent_from 34 out) part → Writing (fields p tape) (closing p.cipher_suites) old (back_from 34 out part) (34 + n)
  session-stands w q = writes (vector 1 (rand_bytes s tape 32)) (closing p.cipher_suites) w q

-- ---- the block, the body and the hello: what each writer asks for, and what it gives

module _ (p : code.Profile) (name scid tape : List ℕ) where
  abbrev P : Profile
  P = profile_of p

  abbrev extensions : List ℕ
  extensions = (block P name scid tape).bytes

  module _ {types : List ExtType} {next : ℕ} (o : Ordered p tape types next) where
    block-is : build_extensions P name scid tape (map type_number types) next ≡ block P name scid tape
    unfolding block
    block-is = rw (o.is, o.after)

    pub extensions-room : (old : List ℕ) → BlockRoom p name scid tape (length old) → ExtensionsRoom p types name scid tape next (length (lent_from 2 old))
    extensions-room old r =
        let count : length (vector 2 extensions) ≡ 2 + length extensions = length-vector 2 extensions in
        record {
          sound = r.sound;
          short_name = r.short_name;
          short_id = r.short_id;
          has = rw block-is
              record {
                fits = omega (arith, r.has.fits, length-part-to-end old 2);
                small = omega (arith, r.has.small);
                there = r.has.there;
              };
        }

    module _ (old : List ℕ) {part : List ℕ} {w : Wrote} (r : BlockRoom p name scid tape (length old))
        (q : Puts (build_extensions (profile_of p) name scid tape (map type_number types) next) w (lent_from 2 old) part) where
      put-block : Puts (block P name scid tape) w (lent_from 2 old) part
      put-block = rw block-is at q

      fits : 2 + length extensions ≤ length old
      fits = omega (arith, r.has.fits, length-vector 2 extensions)

      pub block-small : 2 + w.length < 65536
      block-small = omega (arith, put-block.put.count, r.has.small, length-vector 2 extensions)

      pub block_back : 2 ≤ length (back_from 2 old part)
      block_back = omega (arith, fits, length_back 2 extensions old fits put-block.put.output)

      pub block-put : {new : List ℕ} → new ≡ front (digits 256 2 w.length) (back_from 2 old part)
          → Puts (counted_block (profile_of p) name scid tape) (record { length = 2 + w.length; next = w.next }) old new
      unfolding vector
      block-put e = headed-part (λ n. digits 256 2 n) (λ n. length_digits 256 2 n) (block P name scid tape) fits put-block e

  pub block-long : {room : ℕ} → BlockRoom p name scid tape room → 2 ≤ room
  block-long r = omega (arith, r.has.fits, length-vector 2 extensions)

  pub block-rises : ((ts : List ℕ) (at : ℕ) → at ≤ (build_extensions (profile_of p) name scid tape ts at).next)
      → after_order (profile_of p) ≤ (block (profile_of p) name scid tape).next
  unfolding block
  block-rises h = h _ _

  -- the draws of the extensions begin after those of the order
  pub fields-room : {room : ℕ} → BodyRoom p name scid tape room → after_order (profile_of p) ≤ (block (profile_of p) name scid tape).next
      → Sound p × (length (fields (profile_of p) tape) ≤ room) × (32 + session_length (profile_of p) ≤ length tape)
  unfolding body
  fields-room r h =
      let all = length-append (fields P tape) (vector 2 extensions) in
      (r.sound, omega (arith, all, r.has.fits), omega (arith, h, r.has.there))

  module _ {old out : List ℕ} {a : ℕ} (r : BodyRoom p name scid tape (length old)) (q : Put (fields (profile_of p) tape) a old out) where
    pub fields-stand : Writing (body (profile_of p) name scid tape).bytes (counted_block (profile_of p) name scid tape).bytes old out a
    unfolding body
    fields-stand = first-written (fields P tape) (vector 2 extensions) r.has.fits q

    pub block_room : BlockRoom p name scid tape (length (lent_from a out))
    unfolding body
    block_room =
        record {
          sound = r.sound;
          short_name = r.short_name;
          short_id = r.short_id;
          has = record {
            fits = last-room (vector 2 extensions) fields-stand refl;
            small = omega (arith, r.has.small, length-append (fields P tape) (vector 2 extensions));
            there = r.has.there;
          };
        }

    pub body-put : {part : List ℕ} {w : Wrote} → Puts (counted_block (profile_of p) name scid tape) w (lent_from a out) part
        → Puts (body (profile_of p) name scid tape) (record { length = a + w.length; next = w.next }) old (back_from a out part)
    unfolding body
    body-put b = record { put = last_written (vector 2 extensions) fields-stand b.put; next = b.next }

  length-hello : length (hello P name scid tape).bytes ≡ 4 + length (body P name scid tape).bytes
  unfolding hello
  length-hello = omega (arith, length-vector 3 (body P name scid tape).bytes)

  hello-next : (hello P name scid tape).next ≡ (body P name scid tape).next
  unfolding hello
  hello-next = refl

  pub hello-long : {room : ℕ} → HelloRoom p name scid tape room → 4 ≤ room
  hello-long r = omega (arith, r.has.fits, length-hello)

  pub body-room : (old : List ℕ) → HelloRoom p name scid tape (length old) → BodyRoom p name scid tape (length (lent_from 4 old))
  body-room old r =
      record {
        sound = r.sound;
        short_name = r.short_name;
        short_id = r.short_id;
        has = record {
          fits = omega (arith, r.has.fits, length-hello, length-part-to-end old 4);
          small = omega (arith, r.has.small, length-hello);
          there = omega (arith, r.has.there, hello-next);
        };
      }

  module _ (old : List ℕ) {part : List ℕ} {w : Wrote} (r : HelloRoom p name scid tape (length old)) (q : Puts (body (profile_of p) name scid tape) w (lent_from 4 old) part) where
    roomy : 4 + length (body P name scid tape).bytes ≤ length old
    roomy = omega (arith, r.has.fits, length-hello)

    pub body-small : 4 + w.length < 65536
    body-small = omega (arith, q.put.count, r.has.small, length-hello)

    pub body_back : 4 ≤ length (back_from 4 old part)
    body_back = omega (arith, roomy, length_back 4 (body P name scid tape).bytes old roomy q.put.output)

    -- the message type stands
    pub type-stands : {out : List ℕ} → out ≡ front (1 ∷ []) (back_from 4 old part)
        → Writing (1 ∷ digits 256 3 w.length) (digits 256 3 w.length) (back_from 4 old part) out 1
    type-stands e = first-written (1 ∷ []) (digits 256 3 w.length) (omega (arith, body_back, length_digits 256 3 w.length)) (filled refl e)

    pub hello-put : {new : List ℕ} → new ≡ front (1 ∷ digits 256 3 w.length) (back_from 4 old part)
        → Puts (hello (profile_of p) name scid tape) (record { length = 4 + w.length; next = w.next }) old new
    unfolding hello vector
    hello-put e = headed-part (λ n. 1 ∷ digits 256 3 n) (λ n. ap suc (length_digits 256 3 n)) (body P name scid tape) roomy q e
