-- What `size`, `write` and `read` promise, by what their code has tested. Assumes nothing.
use Prim.Native.Nat.{ℕ, ◌/◌, ◌%◌, ◌^◌, ◌≤◌, ◌<◌}
use mathlib.Core.Path.{◌≡◌, refl, ap, ◌∙◌}
use mathlib.Core.List.{List, [], ◌∷◌}
use native.Mathlib.Nat.{mod-lt, lt_of_lt_of_le}
use native.Mathlib.Omega.{arith}
use lib.ListN.{length, get_or, take}
use lib.Dec.{lit<}
use borrow.Author.Tests.{lt-ltb, le-ltb, le-leb, lt-leb}
use Rattle.wire.specs.Answer.{told}
use Rattle.wire.specs.Numbers.{number}
use Rattle.wire.specs.Front.{front}
use Rattle.varint.specs.Varint.{width, ceiling, class, form, shortest, class_at, size_of, write_of, after_write, read_of}
use Rattle.varint.specs.Varint.{no_varint, WidthBounds, VarintBounds, Sized, Written, Found}
use Rattle.wire.specs.Refusals.{answer_of}
use Rattle.wire.specs.declared.refusals.Refusal.{Refusal}
use Rattle.wire.specs.declared.refusals.Refusal.TheVariants as no
use Rattle.wire.proofs.AnswerLaws.{told-answer}
use Rattle.std.specs.Prelude.{Result, Ok, Err}
use Rattle.varint.specs.declared.Varint.{Varint}
use Rattle.varint.specs.declared.Class.{Class}
use Rattle.varint.specs.declared.Class.TheVariants as class
use Rattle.varint.specs.Code.{place}
use Rattle.varint.proofs.TableLaws.{small-class, large-class, width_positive, width-most, width-rises, ceiling-positive, ceiling-most}

-- ---- what each case tells is what its answer says in numbers, so a promise needs the answer alone

sizes : {v : ℕ} (r : Result ℕ Refusal) → answer_of r ≡ size_of v → WidthBounds r → Sized v r
sizes r e b = record { is = e; tells = told-answer 0 r ∙ ap (told 0) e; bounds = b }

writes : {v : ℕ} {old new : List ℕ} (r : Result ℕ Refusal) → answer_of r ≡ write_of v (length old) → new ≡ after_write v old → WidthBounds r → Written v old r new
writes r e o b = record { is = e; tells = told-answer 0 r ∙ ap (told 0) e; output = o; bounds = b }

finds : {s : List ℕ} (r : Result Varint Refusal) → answer_of r ≡ read_of s → VarintBounds (length s) r → Found s r
finds r e b = record { is = e; tells = told-answer no_varint r ∙ ap (told no_varint) e; bounds = b }

-- a width is one of the tables'
pub place-small : (c : Class) → place c < 4
place-small class.One = lit< tt
place-small class.Two = lit< tt
place-small class.Four = lit< tt
place-small class.Eight = lit< tt

-- ---- size

pub sized-large : (v c : ℕ) → c ≡ class v → 4 ≤ c → Sized v (Err no.ValueTooLarge)
unfolding size_of
sized-large v c e h = sizes (Err no.ValueTooLarge) (rw (le-ltb v (2 ^ 62) (large-class v (rw e at h)))) tt

pub sized : (v c : ℕ) → c ≡ class v → c < 4 → Sized v (Ok (width c))
unfolding size_of
sized v c e h = sizes (Ok (width c)) (rw (lt-ltb v (2 ^ 62) (small-class v (rw e at h)), ← e)) (width_positive c h, width-most c h)

-- ---- write

module _ (v : ℕ) (old : List ℕ) (c : ℕ) (e : c ≡ class v) where
  pub written-large : 4 ≤ c → Written v old (Err no.ValueTooLarge) old
  unfolding write_of after_write
  written-large h =
      let q : 2 ^ 62 ≤ v = large-class v (rw e at h) in
      writes (Err no.ValueTooLarge) (rw (le-ltb v (2 ^ 62) q)) (rw (le-ltb v (2 ^ 62) q)) tt

  module _ (h : c < 4) where
    small : v < 2 ^ 62
    small = small-class v (rw e at h)

    pub written-short : length old < width c → Written v old (Err no.NoRoomForVarint) old
    unfolding write_of after_write
    written-short l =
        writes (Err no.NoRoomForVarint)
        (rw (lt-ltb v (2 ^ 62) small, ← e, lt-leb (width c) (length old) l))
        (rw (lt-ltb v (2 ^ 62) small, ← e, lt-leb (width c) (length old) l))
        tt

    pub written : (new : List ℕ) → width c ≤ length old → new ≡ front (form c v) old → Written v old (Ok (width c)) new
    unfolding write_of after_write shortest
    written new l f =
        writes (Ok (width c))
        (rw (lt-ltb v (2 ^ 62) small, ← e, le-leb (width c) (length old) l))
        (rw (lt-ltb v (2 ^ 62) small, ← e, le-leb (width c) (length old) l) f)
        (width_positive c h, width-most c h)

-- ---- read

pub found_none : (s : List ℕ) → length s < 1 → Found s (Err no.VarintCut)
unfolding read_of class_at
found_none [] h = finds (Err no.VarintCut) refl tt
found_none (b ∷ s) h = absurd (omega arith)

module _ (s : List ℕ) (c : ℕ) (e : get_or s 0 0 / 64 ≡ c) (h : c < 4) where
  -- a class no narrower than k, and fewer bytes than k asks for
  pub found-cut : (k : ℕ) → k ≤ c → length s < width k → Found s (Err no.VarintCut)
  unfolding read_of class_at
  found-cut k o l =
      finds (Err no.VarintCut) (rw (e, lt-leb (width c) (length s) (lt_of_lt_of_le l (width-rises k c o h)))) tt

  pub found : width c ≤ length s → (v : ℕ) → v ≡ number 256 (take (width c) s) % ceiling c → Found s (Ok (record { value = v; width = width c }))
  unfolding read_of class_at
  found l v f =
      let low : number 256 (take (width c) s) % ceiling c < ceiling c = mod-lt (number 256 (take (width c) s)) (ceiling-positive c h) in
      finds (Ok (record { value = v; width = width c }))
      (rw (e, le-leb (width c) (length s) l, f))
      (width_positive c h, l, rw f (lt_of_lt_of_le low (ceiling-most c h)))
