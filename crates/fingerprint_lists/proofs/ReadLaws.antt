-- What the loops that read lists out of bodies need, and the structs that they make. Assumes nothing.
use Prim.Native.Nat.{ℕ, suc, ◌+◌, ◌-◌, ◌*◌, ◌/◌, ◌<◌, ◌≤◌}
use mathlib.Core.Path.{◌≡◌, refl, ap, ◌∙◌}
use mathlib.Core.List.{List, [], ◌∷◌, map}
use native.Mathlib.Omega.{arith}
use lib.ListN.{length, take, drop, replicate, length-drop, length-map}
use lib.LanesLaws.{map-replicate}
use lib.Seq.{drop-cons}
use Rattle.std.proofs.lemmas.List.{map-append}
use Rattle.wire.specs.Numbers.{number}
use Rattle.wire.proofs.ListLaws.{part_to_end}
use Rattle.fingerprint_bodies.specs.Forms.{words_in}
use Rattle.profiles.specs.declared.Group.{Group}
use Rattle.fingerprint_lists.specs.declared.Span.{Span}
use Rattle.fingerprint_lists.specs.Arrays.{Words, Groups, group, span, padded, words_of, groups_of, Part, span_of, spans_of}

-- ---- 16-bit numbers

module _ (l : List ℕ) (i : ℕ) where
  -- v is the number of the first two bytes of the part `&l[2 * i..]`
  pub words-next : i < length l / 2 → {v : ℕ} → v ≡ number 256 (take 2 (take (length l - 2 * i) (drop (2 * i) l)))
      → words_in (drop (2 * i) l) ≡ v ∷ words_in (drop (2 * (i + 1)) l)
  unfolding words_in
  words-next h p =
      let e : 2 * (i + 1) ≡ suc (suc (2 * i)) = omega arith in
      rw (p, part_to_end l (2 * i), e, drop-cons l (2 * i) 0 (omega arith), drop-cons l (suc (2 * i)) 0 (omega arith))

  pub words-end : length l / 2 ≤ i → words_in (drop (2 * i) l) ≡ []
  unfolding words_in
  words-end h = short (drop (2 * i) l) (omega (arith, length-drop (2 * i) l))
    where
      short : (bs : List ℕ) → length bs < 2 → words_in bs ≡ []
      short [] h = refl
      short (a ∷ []) h = refl
      short (a ∷ b ∷ bs) h = absurd (omega arith)

-- ---- the structs

map-padded : (m : ℕ) (l : List ℕ) → map group (padded m 0 l) ≡ padded m (group 0) (map group l)
unfolding padded
map-padded m l = map-append group l (replicate (m - length l) 0) ∙ rw (length-map l group, map-replicate group (m - length l) 0) refl

pub words_same : (l items : List ℕ) (n : ℕ) → items ≡ padded 64 0 l → n ≡ length l → record { items = items; count = n } ≡ words_of l
unfolding words_of
words_same l items n p q = λ i. record { items = p i; count = q i }

pub groups-same : (l : List ℕ) (items : List Group) (n : ℕ) → items ≡ padded 64 (group 0) (map group l) → n ≡ length (map group l) → record { items = items; count = n } ≡ groups_of l
unfolding groups_of
groups-same l items n p q = λ i. record { items = p i; count = (q ∙ length-map l group) i }

-- words, and the groups that they name
pub groups-from : (w : Words) (g : Groups) (l : List ℕ) → w ≡ words_of l → g.items ≡ map group w.items → g.count ≡ w.count → g ≡ groups_of l
unfolding words_of groups_of
groups-from w g l e p q =
    let items : g.items ≡ padded 64 (group 0) (map group l) = p ∙ ap (λ (x : Words). map group x.items) e ∙ map-padded 64 l in
    let count : g.count ≡ length l = q ∙ ap (λ (x : Words). x.count) e in
    λ i. record { items = items i; count = count i }

pub spans-same : (l : List Part) (items : List Span) (n : ℕ) → items ≡ padded 16 (span 0 0) (map span_of l) → n ≡ length (map span_of l) → record { items = items; count = n } ≡ spans_of l
unfolding spans_of
spans-same l items n p q = λ i. record { items = p i; count = (q ∙ length-map l span_of) i }
