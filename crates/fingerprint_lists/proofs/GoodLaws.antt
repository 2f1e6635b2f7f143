-- Bodies that were found good, and the empty bodies of extensions that are not there: the lists that they hold. Assumes nothing.
use Prim.Native.Nat.{ℕ, suc, ◌%◌, ◌/◌, ◌≤◌}
use mathlib.Core.Path.{◌≡◌, refl, sym, ◌∙◌}
use mathlib.Core.Bool.{Bool, true, false, cond, ◌&&◌}
use mathlib.Core.List.{List, [], ◌∷◌}
use mathlib.Core.Option.{Option, none, some}
use native.Mathlib.Omega.{arith}
use borrow.Author.Tests.{le-leb, leb-true, eqb-true}
use lib.ListN.{length, drop, drop_of_length-le}
use lib.Dec.{eqb, leb}
use Rattle.wire.proofs.SumLaws.{and_right}
use Rattle.fingerprint_bodies.specs.Entries.{bind, or_empty, whole, at_least, entries, all_entries}
use Rattle.fingerprint_bodies.specs.Forms.{words_in, even_words, word_list, one_name, some_names, protocol_names, one_share, key_shares}
use Rattle.fingerprint_bodies.specs.Code.{within, is_whole, prefix_bytes, Found, Good}
use Rattle.fingerprint_bodies.specs.declared.Prefix.{Prefix}
use Rattle.fingerprint_bodies.specs.declared.Prefix.TheVariants as one
use Rattle.fingerprint_bodies.proofs.PieceLaws.{whole_is, whole-not, whole-short}

within-found : {A : Type 0} (m : ℕ) (x : Option (List A)) → within m x ≡ 0 → Found m x
unfolding within or_empty
within-found m none e = absurd (omega arith)
within-found m (some l) e = record { there = refl; few = go (leb (length l) m) refl e }
  where
    go : (t : Bool) → leb (length l) m ≡ t → ◌≡◌ {A = ℕ} (cond t 0 23) 0 → length l ≤ m
    go true q e = leb-true (length l) m q
    go false q e = absurd (omega arith)

-- a length takes a byte at least
pub some_bytes : (p : Prefix) → 1 ≤ prefix_bytes p
some_bytes one.OneByte = omega arith
some_bytes one.TwoBytes = omega arith

-- ---- an extension that is not there

pub no_words : (width : ℕ) → 1 ≤ width → or_empty (word_list width []) ≡ []
unfolding word_list bind or_empty
no_words width h = rw (whole-short width [] h)

pub no_names : or_empty (protocol_names []) ≡ []
unfolding protocol_names bind or_empty
no_names = rw (whole-short 2 [] (omega arith))

pub no-shares : or_empty (key_shares []) ≡ []
unfolding key_shares bind or_empty
no-shares = rw (whole-short 2 [] (omega arith))

-- ---- a list after a count that reaches exactly the end

module _ {A : Type 0} (f : List ℕ → Option (List A)) (m width : ℕ) (bs : List ℕ) where
  whole-good : within m (bind (whole width bs) f) ≡ 0 → bind (whole width bs) f ≡ f (drop width bs)
  unfolding bind within
  whole-good e = go (is_whole width bs) refl
    where
      go : (t : Bool) → is_whole width bs ≡ t → bind (whole width bs) f ≡ f (drop width bs)
      go true q = rw (whole_is width bs q)
      go false q = absurd (let z : ◌≡◌ {A = ℕ} 21 0 = rw (whole-not width bs q) at e in omega (arith, z))

-- 16-bit numbers
pub length-words_in : (bs : List ℕ) → length (words_in bs) ≡ length bs / 2
unfolding words_in
length-words_in [] = refl
length-words_in (a ∷ []) = refl
length-words_in (a ∷ b ∷ bs) = omega (arith, length-words_in bs)

-- these bytes hold the words that were found, at most 64
pub record HoldsWords (bs : List ℕ) (x : Option (List ℕ)) : Type 0 where
  pub is : words_in bs ≡ or_empty x
  pub few : length bs ≤ 128

holds-words : (bs : List ℕ) → within 64 (even_words bs) ≡ 0 → HoldsWords bs (even_words bs)
unfolding even_words within or_empty
holds-words bs e = go (leb 2 (length bs) && eqb (length bs % 2) 0) refl e
  where
    go : (t : Bool) → leb 2 (length bs) && eqb (length bs % 2) 0 ≡ t → within 64 (cond t (some (words_in bs)) none) ≡ 0
        → HoldsWords bs (cond t (some (words_in bs)) none)
    go true q e =
        let even : length bs % 2 ≡ 0 = eqb-true (length bs % 2) 0 (and_right (leb 2 (length bs)) (eqb (length bs % 2) 0) q) in
        record { is = refl; few = omega (arith, even, (within-found 64 (some (words_in bs)) e).few, length-words_in bs) }
    go false q e = absurd (omega arith)

pub words-after : (width : ℕ) (bs : List ℕ) → 1 ≤ width → Good 64 (word_list width) bs → HoldsWords (drop width bs) (word_list width bs)
unfolding words_in word_list
words-after width [] h g = rw (drop_of_length-le {A = ℕ} [] {i = width} (omega arith)) (record { is = sym (no_words width h); few = omega arith })
words-after width (b ∷ bs) h g =
    let good = g (omega arith) in
    let q = whole-good even_words 64 width (b ∷ bs) good in
    rw q (holds-words (drop width (b ∷ bs)) (rw q at good))

-- a list that was found in the bytes after the count, of at most m entries, is that of the body
pub record FoundAfter {A : Type 0} (m : ℕ) (after x : Option (List A)) : Type 0 where
  pub found : Found m after
  pub is : or_empty after ≡ or_empty x

pub shares-after : (bs : List ℕ) → Good 64 key_shares bs → FoundAfter 64 (all_entries one_share (drop 2 bs)) (key_shares bs)
unfolding key_shares all_entries entries or_empty
shares-after [] g = record { found = record { there = refl; few = omega arith }; is = sym no-shares }
shares-after (b ∷ bs) g =
    let good = g (omega arith) in
    let q = whole-good (λ l. all_entries one_share l) 64 2 (b ∷ bs) good in
    rw q (record { found = within-found 64 (all_entries one_share (drop 2 (b ∷ bs))) (rw q at good); is = refl })

some-names : (x : Option (List (List ℕ))) → within 16 (bind x (λ ns. at_least 1 ns)) ≡ 0 → bind x (λ ns. at_least 1 ns) ≡ x
unfolding bind at_least within
some-names none e = refl
some-names (some []) e = absurd (omega arith)
some-names (some (n ∷ ns)) e = rw (le-leb 1 (suc (length ns)) (omega arith))

pub names-after : (bs : List ℕ) → Good 16 protocol_names bs → FoundAfter 16 (all_entries one_name (drop 2 bs)) (protocol_names bs)
unfolding protocol_names some_names all_entries entries or_empty
names-after [] g = record { found = record { there = refl; few = omega arith }; is = sym no_names }
names-after (b ∷ bs) g =
    let good = g (omega arith) in
    let q = whole-good some_names 16 2 (b ∷ bs) good in
    let p = q ∙ some-names (all_entries one_name (drop 2 (b ∷ bs))) (rw q at good) in
    rw p (record { found = within-found 16 (all_entries one_name (drop 2 (b ∷ bs))) (rw p at good); is = refl })
