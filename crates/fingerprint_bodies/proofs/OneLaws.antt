-- One entry at the front of some bytes, by what the code asks of it. Assumes nothing.
use Prim.Native.Nat.{ℕ, ◌+◌, ◌-◌, ◌≤◌, ◌<◌, zero, suc, zero-le}
use mathlib.Core.Path.{◌≡◌, refl, sym, ap, ◌∙◌}
use mathlib.Core.Bool.{cond}
use mathlib.Core.Logic.{⊎_elim}
use mathlib.Core.List.{List}
use mathlib.Core.Option.{Option, none, some}
use native.Mathlib.Omega.{arith}
use borrow.Author.Tests.{le-leb}
use lib.ListN.{length, take, drop, get_or, length-drop}
use lib.Seq.{length-take-le, drop-drop}
use lib.Dec.{leb}
use Rattle.wire.specs.Numbers.{number}
use Rattle.wire.proofs.ListLaws.{lt-or-le}
use Rattle.varint.proofs.ByteLaws.{number-one}
use Rattle.fingerprint_bodies.specs.Entries.{Entry, entry, bind, shown, vector_at}
use Rattle.fingerprint_bodies.specs.Body.{Share}
use Rattle.fingerprint_bodies.specs.Forms.{one_name, one_share}
use Rattle.fingerprint_bodies.proofs.BindLaws.{none-some, same_some, mapped-some}
use Rattle.fingerprint_bodies.proofs.PieceLaws.{number-there, number_cut, vector-short, vector-there, vector-cut}

-- ---- A vector of one byte or more, and what is made of it

module _ {B : Type 0} (make : Entry (List ℕ) → Entry B) (width : ℕ) (bs : List ℕ) where
  unfoldable filled : Option (Entry B)
  filled = bind (vector_at width bs) (λ v. cond (leb 1 (length v.value)) (some (make v)) none)

  module _ (n : ℕ) (is : number 256 (take width bs) ≡ n) (h : width ≤ length bs) where
    filled-empty : n ≡ 0 → filled ≡ none
    unfolding filled bind
    filled-empty e = rw (vector-there width bs 0 (is ∙ e) h zero-le)

    filled-cut : length bs - width < n → filled ≡ none
    unfolding filled bind
    filled-cut k = rw (vector-cut width bs n is h k)

    filled-there : 1 ≤ n → n ≤ length bs - width → filled ≡ some (make (entry (take n (drop width bs)) (drop n (drop width bs))))
    unfolding filled bind
    filled-there s k =
        let long : length (take n (drop width bs)) ≡ n = length-take-le n (drop width bs) (omega (arith, length-drop width bs)) in
        rw (vector-there width bs n is h k, le-leb 1 (length (take n (drop width bs))) (omega (arith, long)))

  filled-short : length bs < width + 1 → filled ≡ none
  unfolding filled bind
  filled-short h =
      let n : ℕ = number 256 (take width bs) in
      let exact : width ≤ length bs → filled ≡ none =
      λ k. ⊎_elim (λ cut. filled-cut n refl k cut) (λ empty. filled-empty n refl k (omega arith)) (lt-or-le (length bs - width) n) in
      ⊎_elim (λ short. rw (vector-short width bs short)) exact (lt-or-le (length bs) width)

-- ---- A name

module _ (bs : List ℕ) where
  pub name-short : length bs < 2 → one_name bs ≡ none
  unfolding one_name filled
  name-short h = filled-short (λ e. e) 1 bs h

  module _ (h : 1 ≤ length bs) where
    pub name-empty : get_or bs 0 0 ≡ 0 → one_name bs ≡ none
    unfolding one_name filled
    name-empty e = filled-empty (λ e. e) 1 bs (get_or bs 0 0) (number-one bs h) h e

    pub name-cut : length bs - 1 < get_or bs 0 0 → one_name bs ≡ none
    unfolding one_name filled
    name-cut k = filled-cut (λ e. e) 1 bs (get_or bs 0 0) (number-one bs h) h k

    pub name-there : (n : ℕ) → n ≡ get_or bs 0 0 → 1 ≤ n → n ≤ length bs - 1 → one_name bs ≡ some (entry (take n (drop 1 bs)) (drop (1 + n) bs))
    unfolding one_name filled
    name-there n e s k = filled-there (λ e. e) 1 bs n (number-one bs h ∙ sym e) h s k ∙ rw (drop-drop n 1 bs)

-- what a name takes: its length's byte and those it counts
name-is : (bs : List ℕ) (e : Entry (List ℕ)) → one_name bs ≡ some e → 1 + length e.value + length e.rest ≡ length bs
name-is bs e q =
    ⊎_elim (λ h. absurd (none-some (sym (name-short bs h) ∙ q)))
    (λ h. ⊎_elim (λ k. absurd (none-some (sym (name-cut bs (omega arith) k) ∙ q))) (λ k. go h k (get_or bs 0 0) refl) (lt-or-le (length bs - 1) (get_or bs 0 0))) (lt-or-le (length bs) 2)
  where
    go : 2 ≤ length bs → get_or bs 0 0 ≤ length bs - 1 → (n : ℕ) → get_or bs 0 0 ≡ n → 1 + length e.value + length e.rest ≡ length bs
    go h k zero z = absurd (none-some (sym (name-empty bs (omega arith) z) ∙ q))
    go h k (suc m) z =
        let n = suc m in
        let there = name-there bs (omega arith) n (sym z) (omega arith) (omega (arith, z, k)) in
        let same : e ≡ entry (take n (drop 1 bs)) (drop (1 + n) bs) = same_some _ _ (sym q ∙ there) in
        let long = length-take-le n (drop 1 bs) (omega (arith, length-drop 1 bs, z, k)) in
        rw same (omega (arith, long, length-drop (1 + n) bs, z, k))

pub name-takes : (bs new : List ℕ) (n : ℕ) → shown length one_name bs ≡ some (entry n new) → 1 + n + length new ≡ length bs
unfolding shown
name-takes bs new n q =
    let e = mapped-some (λ e. entry (length e.value) e.rest) (one_name bs) (entry n new) q in
    let v : length e.value.value ≡ n = ap (λ (x : Entry ℕ). x.value) e.made in
    let r : e.value.rest ≡ new = ap (λ (x : Entry ℕ). x.rest) e.made in
    omega (arith, name-is bs e.value e.is, v, ap length r)

-- ---- A key share

module _ (bs : List ℕ) where
  abbrev share : Entry (List ℕ) → Entry Share
  share k = entry (record { group = number 256 (take 2 bs); key = k.value }) k.rest

  share-is : 2 ≤ length bs → one_share bs ≡ filled share 2 (drop 2 bs)
  unfolding one_share filled bind
  share-is h = rw (number-there 2 bs h)

  pub share-short : length bs < 5 → one_share bs ≡ none
  unfolding one_share bind
  share-short h =
      ⊎_elim (λ short. rw (number_cut 2 bs short))
      (λ k. share-is k ∙ filled-short share 2 (drop 2 bs) (omega (arith, length-drop 2 bs))) (lt-or-le (length bs) 2)

  module _ (n : ℕ) (is : number 256 (take 2 (drop 2 bs)) ≡ n) (h : 4 ≤ length bs) where
    pub share-empty : n ≡ 0 → one_share bs ≡ none
    share-empty e = share-is (omega arith) ∙ filled-empty share 2 (drop 2 bs) n is (omega (arith, length-drop 2 bs)) e

    pub share-cut : length bs - 4 < n → one_share bs ≡ none
    share-cut k = share-is (omega arith) ∙ filled-cut share 2 (drop 2 bs) n is (omega (arith, length-drop 2 bs)) (omega (arith, length-drop 2 bs))

    pub share-there : 1 ≤ n → n ≤ length bs - 4
        → one_share bs ≡ some (entry (record { group = number 256 (take 2 bs); key = take n (drop 4 bs) }) (drop (4 + n) bs))
    share-there s k =
        share-is (omega arith)
        ∙ filled-there share 2 (drop 2 bs) n is (omega (arith, length-drop 2 bs)) s (omega (arith, length-drop 2 bs))
        ∙ rw (drop-drop 2 2 bs, drop-drop n 4 bs)
