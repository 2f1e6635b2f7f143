-- How many bytes a hello has and how many it draws, whatever the order that was drawn: the sums over the profile. So the output and
-- the tape that the maker asks for suffice. Assumes nothing.
use Prim.Native.Nat.{ℕ, ◌+◌, ◌≤◌, ◌<◌}
use mathlib.Core.Path.{◌≡◌, refl, sym, ap, ◌∙◌}
use mathlib.Core.Bool.{Bool, true, false, true≢false}
use mathlib.Core.List.{List, [], ◌∷◌, ◌++◌}
use native.Mathlib.Omega.{arith}
use borrow.Author.Tests.{eq-eqb, ne_eqb, eqb-true, eqb-false}
use lib.ListN.{length, length-append}
use lib.Dec.{eqb, lit<}
use Rattle.wire.specs.Vectors.{vector}
use Rattle.wire.specs.Sums.{indicator, total, count, distinct}
use Rattle.wire.proofs.VectorLaws.{length-vector}
use Rattle.wire.proofs.SumLaws.{total-le, count-cons, count-permutes, distinct-once}
use Rattle.profiles.specs.Profile.{Profile}
use Rattle.profiles.specs.Sizes.{after_order, extension_extent, hello_length, hello_drawn, longest, tape_needed}
use Rattle.profiles.specs.Test.{passes}
use Rattle.profiles.proofs.TestLaws.{passed}
use Rattle.tape.specs.Tape.{next_u64, payload_length}
use Rattle.tape.specs.Part.{Part}
use Rattle.tape.proofs.DrawnNumbers.{payload-least, payload-most}
use Rattle.tls.specs.Hello.{build_extension, build_extensions, order, fields, block, body, hello, ech_place, payload}
use Rattle.tls.proofs.ExtentLaws.{drawn-same, payload-grows, extent-grows}
use Rattle.tls.proofs.Extents.{Extends, extension-extent}
use Rattle.tls.proofs.Sent.{order-permutes}
use Rattle.tls.proofs.HelloLaws.{length_fields}

-- ---- all extensions, in any order

ech-here : (p : Profile) (t : ℕ) (ts : List ℕ) (at : ℕ) → eqb t 0xfe0d ≡ true → ech_place p (t ∷ ts) at ≡ at
unfolding ech_place
ech-here p t ts at e = rw e

-- how often ECH stands in an order
count-ech : (t : ℕ) (ts : List ℕ) → count 0xfe0d (t ∷ ts) ≡ indicator (eqb t 0xfe0d) + count 0xfe0d ts
count-ech t ts = rw (turned (eqb t 0xfe0d) refl) at (count-cons 0xfe0d t ts)
  where
    turned : (b : Bool) → eqb t 0xfe0d ≡ b → eqb 0xfe0d t ≡ eqb t 0xfe0d
    turned true e = eq-eqb 0xfe0d t (sym (eqb-true t 0xfe0d e)) ∙ sym e
    turned false e = ne_eqb 0xfe0d t (λ q. eqb-false t 0xfe0d e (sym q)) ∙ sym e

not-here : (b : Bool) (n : ℕ) → indicator b + n ≤ 1 → 0 < n → b ≡ false
not-here true n h k = absurd (omega arith)
not-here false n h k = refl

-- where ECH comes after an extension, its place is the one that the rest has for it
ech-later : (p : Profile) (t : ℕ) (ts : List ℕ) (at n s pay : ℕ) → count 0xfe0d (t ∷ ts) ≤ 1 → 0 < count 0xfe0d ts
    → ech_place p (t ∷ ts) at ≡ ech_place p ts (at + (extension_extent p n s pay t).drawn)
unfolding ech_place
ech-later p t ts at n s pay once k =
    let other : eqb t 0xfe0d ≡ false = not-here (eqb t 0xfe0d) (count 0xfe0d ts) (omega (arith, count-ech t ts)) k in
    rw (other, drawn-same p n s pay 0 0 0 t (λ e. absurd (true≢false (sym e ∙ other))))

-- "then what each extension needs, in the order now standing": before ECH the places are as `ech_place` says, and it comes once at most.
extensions-extent : (p : Profile) (name scid tape ts : List ℕ) (at pay : ℕ) → count 0xfe0d ts ≤ 1
    → (0 < count 0xfe0d ts → pay ≡ payload_length (next_u64 tape (ech_place p ts at + 40)))
    → Extends at (build_extensions p name scid tape ts at)
    (record {
      written = total (λ t. (extension_extent p (length name) (length scid) pay t).written) ts;
      drawn = total (λ t. (extension_extent p 0 0 pay t).drawn) ts;
    })
unfolding build_extensions total
extensions-extent p name scid tape [] at pay once h = record { long = refl; ends = omega arith }
extensions-extent p name scid tape (t ∷ ts) at pay once h =
    let n : ℕ = length name in
    let s : ℕ = length scid in
    let a : Part = build_extension p name scid tape t at in
    let counts = count-ech t ts in
    let first = extension-extent p name scid tape t at pay (λ e. rw (ech-here p t ts at e) at (h (omega (arith, counts, ap indicator e)))) in
    let later : 0 < count 0xfe0d ts → pay ≡ payload_length (next_u64 tape (ech_place p ts a.next + 40)) =
    (λ k. rw (first.ends, ← (ech-later p t ts at n s pay once k)) (h (omega (arith, counts)))) in
    let rest = extensions-extent p name scid tape ts a.next pay (omega (arith, counts)) later in
    record {
      long = omega (arith, length-append a.bytes (build_extensions p name scid tape ts a.next).bytes, first.long, rest.long);
      ends = omega (arith, first.ends, rest.ends, drawn-same p n s pay 0 0 pay t (λ e. refl));
    }

-- ---- the hello, for every profile whose types are once each

module _ (p : Profile) (name scid tape : List ℕ) (once : distinct p.extensions_order ≡ true) where
  -- the block, in the order sent
  block-extent :
      Extends (after_order p) (block p name scid tape)
      (record {
        written = total (λ t. (extension_extent p (length name) (length scid) (payload p tape) t).written) p.extensions_order;
        drawn = total (λ t. (extension_extent p 0 0 (payload p tape) t).drawn) p.extensions_order;
      })
  unfolding block payload
  block-extent =
      let sent : List ℕ = order p tape in
      let same = order-permutes p tape in
      let echs : count 0xfe0d sent ≤ 1 =
      omega (arith, count-permutes 0xfe0d p.extensions_order sent same, distinct-once p.extensions_order once 0xfe0d) in
      let all = extensions-extent p name scid tape sent (after_order p) (payload p tape) echs (λ k. refl) in
      record {
        long = all.long ∙ sym (same (λ t. (extension_extent p (length name) (length scid) (payload p tape) t).written));
        ends = omega (arith, all.ends, same (λ t. (extension_extent p 0 0 (payload p tape) t).drawn));
      }

  -- the table's "hello length", as a sum over the profile: for every name, connection id and tape
  pub hello-length : length (hello p name scid tape).bytes ≡ hello_length p (length name) (length scid) (payload p tape)
  unfolding hello body hello_length
  hello-length =
      let extensions : List ℕ = (block p name scid tape).bytes in
      omega (
        arith,
        length-vector 3 (fields p tape ++ vector 2 extensions),
        length-append (fields p tape) (vector 2 extensions),
        length_fields p tape,
        length-vector 2 extensions,
        block-extent.long,
      )

  -- the table's "drawn", likewise
  pub hello-drawn : (hello p name scid tape).next ≡ hello_drawn p (payload p tape)
  unfolding hello body hello_drawn
  hello-drawn = block-extent.ends

-- ---- P = 200 is the most

-- "P = 150 + (draw mod 51) the ECH payload's" length
pub payload-bounds : (p : Profile) (tape : List ℕ) → (150 ≤ payload p tape) × (payload p tape ≤ 200)
unfolding payload
payload-bounds p tape =
    let draw : ℕ = next_u64 tape (ech_place p (order p tape) (after_order p) + 40) in
    (payload-least draw, payload-most draw)

length-grows : (p : Profile) (n s pay other : ℕ) → pay ≤ other → hello_length p n s pay ≤ hello_length p n s other
unfolding hello_length
length-grows p n s pay other h =
    omega (
      arith,
      total-le (λ t. (extension_extent p n s pay t).written) (λ t. (extension_extent p n s other t).written)
          (λ t. (payload-grows p n s pay other t h).written-le) p.extensions_order,
    )

drawn-grows : (p : Profile) (pay other : ℕ) → pay ≤ other → hello_drawn p pay ≤ hello_drawn p other
unfolding hello_drawn
drawn-grows p pay other h =
    omega (
      arith,
      total-le (λ t. (extension_extent p 0 0 pay t).drawn) (λ t. (extension_extent p 0 0 other t).drawn)
          (λ t. (payload-grows p 0 0 pay other t h).drawn-le) p.extensions_order,
    )

-- "the hello's length with P = 200" grows with name and connection id
pub longest-grows : (p : Profile) (n s m r : ℕ) → n ≤ m → s ≤ r → r < 64 → longest p n s ≤ longest p m r
unfolding hello_length
longest-grows p n s m r hn hs hr =
    omega (
      arith,
      total-le (λ t. (extension_extent p n s 200 t).written) (λ t. (extension_extent p m r 200 t).written)
          (λ t. (extent-grows p n s m r 200 t hn hs hr).written-le) p.extensions_order,
    )

-- ---- what the maker asks for suffices

module _ (p : Profile) (name scid tape : List ℕ) where
  -- "Tape as long as the table says? Output at least the hello's length with P = 200?" Where the answers are "yes", the hello fits the
  -- output, and its draws are on the tape.
  pub suffices : distinct p.extensions_order ≡ true
      → (length (hello p name scid tape).bytes ≤ longest p (length name) (length scid)) × ((hello p name scid tape).next ≤ tape_needed p)
  suffices once =
      let most = (payload-bounds p tape).1 in (
        omega (arith, hello-length p name scid tape once, length-grows p (length name) (length scid) (payload p tape) 200 most),
        omega (arith, hello-drawn p name scid tape once, drawn-grows p (payload p tape) 200 most),
      )

  -- "Name of 1 to 255 bytes? Connection id at most 20 bytes?" Then "hello at most 16,384 bytes?" is answered "yes".
  pub hello-fits : passes p ≡ true → length name ≤ 255 → length scid ≤ 20 → length (hello p name scid tape).bytes ≤ 16384
  hello-fits test n s =
      let facts = passed p test in
      omega (
        arith,
        (suffices facts.types-once).0,
        longest-grows p (length name) (length scid) 255 20 n s (lit< tt),
        facts.hello-small,
      )
