-- The places in a body lie in it, or at its end. Assumes nothing.
use Prim.Native.Nat.{ℕ, zero, suc, ◌+◌, ◌≤◌}
use mathlib.Core.Path.{◌≡◌, refl}
use mathlib.Core.Bool.{Bool, true, false, cond, ◌&&◌, ◌||◌}
use mathlib.Core.List.{List, [], ◌∷◌, ◌++◌}
use mathlib.Core.Option.{Option, none, some}
use native.Mathlib.Omega.{arith}
use lib.ListN.{length, drop, length-drop}
use lib.Dec.{eqb, leb, ltb}
use borrow.Author.Tests.{leb-true, ltb-true, eqb-false}
use Rattle.wire.specs.Sums.{member}
use Rattle.fingerprint_bodies.specs.Entries.{Entry, bind, mapped, whole}
use Rattle.fingerprint_bodies.specs.Body.{Parameter, Body, Kind, name, groups, algorithms, protocols, versions, shares, parameters, other}
use Rattle.fingerprint_bodies.specs.Forms.{even_words, word_list, one_entry, server_name, one_name, some_names, protocol_names, one_share, key_shares, one_parameter, id_of, body_of}
use Rattle.fingerprint_bodies.specs.Code.{asked_of, asked, is_whole}
use Rattle.fingerprint_bodies.proofs.BindLaws.{bind-some, mapped-some}
use Rattle.fingerprint_stops.specs.Stops.{size_of, word_size, entry_size, passed, list_at, broken, most, past, repeated_or, repeated_from, repeated_at, in_body, body_place}
use Rattle.fingerprint_stops.proofs.LengthLaws.{whole_length, parameter-shorter}

pub unless-within : (b : Bool) (m n : ℕ) → m ≤ n → cond b 0 m ≤ n
unless-within true m n h = omega arith
unless-within false m n h = h

-- ---- entries

size-within : {A : Type 0} (bs : List ℕ) (x : Option (Entry A)) → size_of bs x ≤ length bs
size-within bs none = omega arith
size-within bs (some e) = omega arith

word-within : (bs : List ℕ) → word_size bs ≤ length bs
unfolding word_size
word-within bs = go (leb 2 (length bs)) refl
  where
    go : (b : Bool) → leb 2 (length bs) ≡ b → cond b 2 0 ≤ length bs
    go true e = leb-true 2 (length bs) e
    go false e = omega arith

pub entry-within : (k : Kind) (bs : List ℕ) → entry_size k bs ≤ length bs
unfolding entry_size
entry-within name bs = omega arith
entry-within groups bs = word-within bs
entry-within algorithms bs = word-within bs
entry-within protocols bs = size-within bs (one_name bs)
entry-within versions bs = word-within bs
entry-within shares bs = size-within bs (one_share bs)
entry-within parameters bs = size-within bs (one_parameter bs)
entry-within other bs = omega arith

pub passed-within : (k : Kind) (n : ℕ) (bs : List ℕ) → passed k n bs ≤ length bs
unfolding passed
passed-within k zero bs = omega arith
passed-within k (suc n) bs =
    go (eqb (entry_size k bs) 0) (passed-within k n (drop (entry_size k bs) bs))
  where
    go : (b : Bool) → passed k n (drop (entry_size k bs) bs) ≤ length (drop (entry_size k bs) bs)
        → cond b 0 (entry_size k bs + passed k n (drop (entry_size k bs) bs)) ≤ length bs
    go true h = omega arith
    go false h = omega (arith, h, length-drop (entry_size k bs) bs, entry-within k bs)

-- ---- a body

broken-within : (k : Kind) (bs : List ℕ) → broken k bs ≤ length bs
unfolding broken
broken-within k bs = go (eqb (list_at k) 0) (is_whole (list_at k) bs) (ltb (list_at k) (length bs)) refl
  where
    go : (a b c : Bool) → ltb (list_at k) (length bs) ≡ c
        → cond a (passed k (length bs) bs) (cond (b && c) (list_at k + passed k (length bs) (drop (list_at k) bs)) 0) ≤ length bs
    go true b c e = passed-within k (length bs) bs
    go false true true e =
        omega (arith, passed-within k (length bs) (drop (list_at k) bs), length-drop (list_at k) bs, ltb-true (list_at k) (length bs) e)
    go false true false e = omega arith
    go false false c e = omega arith

repeated-within : (f : ℕ) (before bs : List ℕ) → repeated_from f before bs ≤ length bs
unfolding repeated_from
repeated-within zero before bs = omega arith
repeated-within (suc f) before bs = go (one_parameter bs) refl (λ id rest. repeated-within f (before ++ (id ∷ [])) rest)
  where
    go : (x : Option (Entry Parameter)) → one_parameter bs ≡ x → ((id : ℕ) (rest : List ℕ) → repeated_from f (before ++ (id ∷ [])) rest ≤ length rest)
        → repeated_or before bs x (λ id rest. repeated_from f (before ++ (id ∷ [])) rest) ≤ length bs
    go none e h = omega arith
    go (some p) e h =
        unless-within (member (id_of p.value) before) _ (length bs) (omega (arith, h (id_of p.value) p.rest, parameter-shorter bs p e))

-- a body in its form is no shorter than the length before its list
after-whole : {A B : Type 0} (make : A → B) (width : ℕ) (bs : List ℕ) (f : List ℕ → Option A) (v : B)
    → mapped make (bind (whole width bs) f) ≡ some v → width ≤ length bs
after-whole make width bs f v e =
    let m = mapped-some make (bind (whole width bs) f) v e in
    let p = bind-some (whole width bs) f m.value m.is in
    omega (arith, whole_length width bs p.value p.is)

list_inside : (k : Kind) (bs : List ℕ) (v : Body) → body_of k bs ≡ some v → list_at k ≤ length bs
unfolding body_of list_at server_name word_list protocol_names key_shares
list_inside name bs v e = after-whole _ 2 bs one_entry v e
list_inside groups bs v e = after-whole _ 2 bs even_words v e
list_inside algorithms bs v e = after-whole _ 2 bs even_words v e
list_inside protocols bs v e = after-whole _ 2 bs some_names v e
list_inside versions bs v e = after-whole _ 1 bs even_words v e
list_inside shares bs v e = after-whole _ 2 bs _ v e
list_inside parameters bs v e = omega arith
list_inside other bs v e = omega arith

past-within : (k : Kind) (bs : List ℕ) → list_at k ≤ length bs → past k bs ≤ length bs
unfolding past
past-within k bs h = omega (arith, h, passed-within k (most k) (drop (list_at k) bs), length-drop (list_at k) bs)

pub in-body-within : (k : Kind) (bs : List ℕ) → in_body k bs ≤ length bs
unfolding in_body repeated_at asked
in-body-within k bs = go (eqb (asked k bs) 21) (eqb (asked k bs) 22) refl
  where
    formed : (x : Option Body) → body_of k bs ≡ x → eqb (asked_of x) 21 ≡ false → list_at k ≤ length bs
    formed none e q = absurd (eqb-false 21 21 q refl)
    formed (some v) e q = list_inside k bs v e

    go : (a b : Bool) → eqb (asked k bs) 21 ≡ a → cond a (broken k bs) (cond b (repeated_from (length bs) [] bs) (past k bs)) ≤ length bs
    go true b e = broken-within k bs
    go false true e = repeated-within (length bs) [] bs
    go false false e = past-within k bs (formed (body_of k bs) refl e)

pub body-within : (k : Kind) (bs : List ℕ) → body_place k bs ≤ 4 + length bs
unfolding body_place
body-within k bs = go (eqb (length bs) 0 || eqb (asked k bs) 0)
  where
    go : (b : Bool) → cond b 0 (4 + in_body k bs) ≤ 4 + length bs
    go true = omega arith
    go false = omega (arith, in-body-within k bs)
