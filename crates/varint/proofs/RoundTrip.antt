-- What is written is read, in every width that holds a value; what is read is the form of its class; `size` is the least width. Assumes nothing.
use Prim.Native.Nat.{ℕ, suc, ◌+◌, ◌-◌, ◌*◌, ◌/◌, ◌%◌, ◌^◌, ◌≤◌, ◌<◌}
use mathlib.Core.Path.{◌≡◌, refl}
use mathlib.Core.List.{List, [], ◌∷◌, ◌++◌}
use native.Mathlib.Nat.{div-add-mod', mod-lt}
use native.Mathlib.Omega.{arith}
use mathlib.Core.Logic.{⊎_elim}
use lib.ListN.{length, get_or, take, drop, length-append, get_or-append}
use lib.Dec.{leb}
use lib.Seq.{take_at, get_or-take, length-take-le}
use borrow.Author.Tests.{lt-ltb, le-ltb, le-leb, lt-leb, leb-true}
use Rattle.wire.specs.Answer.{result}
use Rattle.wire.specs.Numbers.{Bytes, digits, number_on, number}
use Rattle.wire.specs.Front.{front}
use Rattle.wire.proofs.NumberLaws.{above, length_digits, number_digits, above-number_on, digits_number, bytes_take}
use Rattle.wire.proofs.AnswerLaws.{apart, ask-yes, same-result}
use Rattle.wire.proofs.ListLaws.{lt-or-le, at-four}
use Rattle.varint.specs.Varint.{width, ceiling, class, form, shortest, class_at, size_of, write_of, after_write, read_of}
use Rattle.varint.specs.declared.Varint.{Varint}
use Rattle.varint.proofs.TableLaws.{class-holds, class-least, class-small, width-rises, width_positive, ceiling-positive}

pub length-form : (c v : ℕ) → length (form c v) ≡ width c
unfolding form
length-form c v = length_digits 256 (width c) (c * ceiling c + v)

-- a class and a value that it holds make a number of as many bytes as the class is wide, with the class at its top
record Shape (c v : ℕ) : Type 0 where
  fits : above 256 (width c) (c * ceiling c + v) ≡ 0
  top : get_or (digits 256 (width c) (c * ceiling c + v)) 0 0 / 64 ≡ c
  rest : (c * ceiling c + v) % ceiling c ≡ v

shape : (v c : ℕ) → c < 4 → v < ceiling c → Shape c v
unfolding above digits
shape v =
    at-four (λ c. v < ceiling c → Shape c v)
    (λ h. record { fits = omega arith; top = omega arith; rest = omega arith })
    (λ h. record { fits = omega arith; top = omega arith; rest = omega arith })
    (λ h. record { fits = omega arith; top = omega arith; rest = omega arith })
    (λ h. record { fits = omega arith; top = omega arith; rest = omega arith })

module _ (c v : ℕ) (rest : List ℕ) (h : c < 4) (l : v < ceiling c) where
  pub class_at-form : class_at (form c v ++ rest) ≡ c
  unfolding class_at form
  class_at-form =
      let long : 0 < length (digits 256 (width c) (c * ceiling c + v)) = rw length_digits (width_positive c h) in
      rw (get_or-append (digits 256 (width c) (c * ceiling c + v)) rest 0 0) (shape v c h l).top

  form-value : number 256 (form c v) % ceiling c ≡ v
  unfolding form
  form-value = rw (number_digits 256 (width c) (c * ceiling c + v) (shape v c h l).fits) (shape v c h l).rest

  -- ONE LAW OVER THE WIDTH: a value written in any width that holds it is read back with that width, whatever follows
  pub form-read : read_of (form c v ++ rest) ≡ result (record { value = v; width = width c })
  unfolding read_of
  form-read =
      let whole : width c ≤ length (form c v ++ rest) = rw (length-append, length-form c v) (omega arith) in
      rw (class_at-form, le-leb (width c) (length (form c v ++ rest)) whole, take_at (form c v) rest (width c) (length-form c v), form-value)

-- ---- back: what is read stands in the form of its class

-- what is above the last bytes of a class's number is the first byte, and above its two top bits the class
top-bits : (n c : ℕ) → c < 4 → n / ceiling c ≡ above 256 (width c - 1) n / 64
unfolding above
top-bits n = at-four (λ c. n / ceiling c ≡ above 256 (width c - 1) n / 64) (omega arith) (omega arith) (omega arith) (omega arith)

form-number : (c : ℕ) (ds : List ℕ) → c < 4 → Bytes ds → length ds ≡ width c → class_at ds ≡ c → form c (number 256 ds % ceiling c) ≡ ds
unfolding form class_at number number_on
form-number c [] h b l e = absurd (omega (arith, width_positive c h))
form-number c (d ∷ ds) h b l e =
    let z : width c - 1 ≡ length ds = omega arith in
    let n = number 256 (d ∷ ds) in
    let top : n / ceiling c ≡ c = rw (top-bits n c h, z, above-number_on 256 ds (0 * 256 + d) (λ i. b (suc i))) (omega arith) in
    let whole : c * ceiling c + n % ceiling c ≡ n = rw top at (div-add-mod' n (ceiling c)) in
    rw (whole, ← l) (digits_number 256 (d ∷ ds) b)

-- the bytes that were read are the value's form in the class that they name
pub record Formed (s : List ℕ) (x : Varint) : Type 0 where
  pub known : class_at s < 4
  pub wide : x.width ≡ width (class_at s)
  pub below : x.value < ceiling (class_at s)
  pub within : x.width ≤ length s
  pub bytes : take x.width s ≡ form (class_at s) x.value

formed : (s : List ℕ) (c : ℕ) → class_at s ≡ c → Bytes s → width c ≤ length s → Formed s (record { value = number 256 (take (width c) s) % ceiling c; width = width c })
unfolding class_at
formed s c e b l =
    let known : c < 4 = omega (arith, b 0) in
    let first : get_or (take (width c) s) 0 0 / 64 ≡ c = rw (get_or-take (width c) s 0 0 (width_positive c known)) e in
    record {
      known = rw e known;
      wide = rw e;
      below = rw e (mod-lt (number 256 (take (width c) s)) (ceiling-positive c known));
      within = l;
      bytes = rw (e, form-number c (take (width c) s) known (bytes_take (width c) s b) (length-take-le (width c) s l) first);
    }

-- ONE LAW OVER THE CLASS, the inverse of `form-read`
pub read-formed : (s : List ℕ) (x : Varint) → Bytes s → read_of s ≡ result x → Formed s x
unfolding read_of
read-formed s x b e =
    let c = class_at s in
    let y : Varint = record { value = number 256 (take (width c) s) % ceiling c; width = width c } in
    let passed = ask-yes (leb (width c) (length s)) 3 (result y) x e in
    rw (same-result y x passed.1) at (formed s c refl b (leb-true (width c) (length s) passed.0))

-- ---- size

-- `size` answers every value below 2^62 with a width that holds it, and no class of a narrower one does
pub record Least (v w : ℕ) : Type 0 where
  pub wide : w ≡ width (class v)
  pub holds : v < ceiling (class v)
  pub least : (c : ℕ) → c < 4 → v < ceiling c → w ≤ width c

pub size-least : (v w : ℕ) → size_of v ≡ result w → Least v w
unfolding size_of
size-least v w e =
    ⊎_elim
    (λ p.
    let small : class v < 4 = class-small v p in
    let f : result (width (class v)) ≡ result w = rw (lt-ltb v (2 ^ 62) p) at e in
    let z : w ≡ width (class v) = cc in
    record { wide = z; holds = class-holds v small; least = λ c h l. rw z (width-rises (class v) c (class-least v c h l) h) })
    (λ q. absurd (apart (rw (le-ltb v (2 ^ 62) q) at e)))
    (lt-or-le v (2 ^ 62))

pub size_small : (v : ℕ) → v < 2 ^ 62 → size_of v ≡ result (width (class v))
unfolding size_of
size_small v h = rw (lt-ltb v (2 ^ 62) h)

-- ---- write, and then read

-- the shortest form is as long as `size` says
pub length-shortest : (v : ℕ) → length (shortest v) ≡ width (class v)
unfolding shortest
length-shortest v = length-form (class v) v

pub shortest-read : (v : ℕ) (rest : List ℕ) → v < 2 ^ 62 → read_of (shortest v ++ rest) ≡ result (record { value = v; width = width (class v) })
unfolding shortest
shortest-read v rest h = form-read (class v) v rest (class-small v h) (class-holds v (class-small v h))

module _ (v : ℕ) (old : List ℕ) (w : ℕ) (e : write_of v (length old) ≡ result w) where
  -- what an answer of `write` says of the value
  write-class : (v < 2 ^ 62) × (w ≡ width (class v))
  unfolding write_of
  write-class =
      ⊎_elim
      (λ p.
      ⊎_elim
      (λ r. absurd (apart (rw (lt-ltb v (2 ^ 62) p, lt-leb (width (class v)) (length old) r) at e)))
      (λ r.
      let f : result (width (class v)) ≡ result w = rw (lt-ltb v (2 ^ 62) p, le-leb (width (class v)) (length old) r) at e in
      (p, (cc)))
      (lt-or-le (length old) (width (class v))))
      (λ q. absurd (apart (rw (le-ltb v (2 ^ 62) q) at e)))
      (lt-or-le v (2 ^ 62))

  -- WHAT `write` WRITES, `read` READS
  pub write_read : read_of (after_write v old) ≡ result (record { value = v; width = w })
  unfolding after_write front
  write_read = rw (e, write-class.1) (shortest-read v (drop (length (shortest v)) old) write-class.0)

  -- and it is the shortest form that is written
  pub write-shortest : after_write v old ≡ front (shortest v) old
  unfolding after_write
  write-shortest = rw e
