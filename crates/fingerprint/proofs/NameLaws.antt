-- The name of a report: where the note of server_name says it is. Assumes nothing.
use Prim.Native.Nat.{ℕ, zero, suc, ◌+◌, ◌-◌, ◌≤◌, ◌<◌}
use mathlib.Core.Path.{◌≡◌, refl, sym, ap, ◌∙◌}
use mathlib.Core.Bool.{Bool, true, false}
use mathlib.Core.Logic.{⊎_elim}
use mathlib.Core.List.{List, [], ◌∷◌}
use mathlib.Core.Option.{Option, none, some}
use native.Mathlib.Omega.{arith}
use lib.ListN.{length, take, drop, length-drop}
use lib.Seq.{drop-drop, take-nil, length-take-le}
use lib.Dec.{eqb, leb}
use borrow.Author.Tests.{lt-ltb, le-ltb}
use Rattle.wire.specs.Numbers.{number}
use Rattle.wire.proofs.ListLaws.{lt-or-le}
use Rattle.fingerprint_bodies.specs.Entries.{Entry, entry, bind, number_at, whole, at_least}
use Rattle.fingerprint_bodies.specs.Body.{name}
use Rattle.fingerprint_bodies.specs.Forms.{one_entry, server_name}
use Rattle.fingerprint_bodies.specs.Code.{formed, is_whole}
use Rattle.fingerprint_bodies.proofs.BindLaws.{none-some, same_some, bind-some, cond-next, cond-some, at_least-some}
use Rattle.fingerprint_bodies.proofs.PieceLaws.{whole_is, whole-not}
use Rattle.fingerprint_bodies.proofs.AskLaws.{asked-name}
use Rattle.fingerprint_lists.specs.Arrays.{span, part}
use Rattle.fingerprint_lists.specs.declared.Span.{Span}
use Rattle.fingerprint.specs.ClientHello.{Extension}
use Rattle.fingerprint.specs.Report.{names_in, gathered, first_of}
use Rattle.fingerprint.specs.Code.{part_of, Noted, name_in}
use Rattle.std.specs.Prelude.{Some, None}

-- ---- A name in its form is its body without the first five bytes

whole-drops : (width : ℕ) (bs l : List ℕ) → whole width bs ≡ some l → l ≡ drop width bs
whole-drops width bs l e = go (is_whole width bs) refl
  where
    go : (b : Bool) → is_whole width bs ≡ b → l ≡ drop width bs
    go true t = same_some l (drop width bs) (sym e ∙ whole_is width bs t)
    go false t = absurd (none-some (sym (whole-not width bs t) ∙ e))

entry-drops : (bs n : List ℕ) → one_entry bs ≡ some n → (n ≡ drop 3 bs) × (1 ≤ length n)
unfolding one_entry number_at
entry-drops bs n e =
    let t = bind-some (number_at 1 bs) _ n e in
    let at = cond-some (leb 1 (length bs)) (entry (number 256 (take 1 bs)) (drop 1 bs)) t.value t.is in
    let inside = cond-next (eqb t.value.value 0) (bind (whole 2 t.value.rest) (λ m. at_least 1 m)) n t.after in
    let w = bind-some (whole 2 t.value.rest) (λ m. at_least 1 m) n inside.1 in
    let least = at_least-some 1 w.value n w.after in
    let rest : t.value.rest ≡ drop 1 bs = sym (ap (λ (x : Entry ℕ). x.rest) at.1) in (
      sym least.1 ∙ whole-drops 2 t.value.rest w.value w.is ∙ ap (λ (l : List ℕ). drop 2 l) rest ∙ drop-drop 2 1 bs,
      least.0,
    )

pub name-drops : (bs n : List ℕ) → server_name bs ≡ some n → (n ≡ drop 5 bs) × (6 ≤ length bs)
unfolding server_name
name-drops bs n e =
    let w = bind-some (whole 2 bs) one_entry n e in
    let inner = entry-drops w.value n w.after in
    let is : n ≡ drop 5 bs = inner.0 ∙ ap (λ (l : List ℕ). drop 3 l) (whole-drops 2 bs w.value w.is) ∙ drop-drop 3 2 bs in
    (is, omega (arith, inner.1, ap length is, length-drop 5 bs))

-- ---- What stands after the first bytes of a part

drop-take : (n m : ℕ) (l : List ℕ) → drop n (take (n + m) l) ≡ take m (drop n l)
drop-take zero m l = let e : 0 + m ≡ m = omega arith in rw e
drop-take (suc n) m [] = let e : suc n + m ≡ suc (n + m) = omega arith in rw e (sym (take-nil m))
drop-take (suc n) m (x ∷ l) = let e : suc n + m ≡ suc (n + m) = omega arith in rw e (drop-take n m l)

after-five : (h : List ℕ) (s : Span) → 5 ≤ s.length → drop 5 (part_of h s) ≡ part_of h (span (s.start + 5) (s.length - 5))
after-five h s k =
    let e : s.length ≡ 5 + (s.length - 5) = omega arith in
    ap (λ (m : ℕ). drop 5 (take m (drop s.start h))) e
    ∙ drop-take 5 (s.length - 5) (drop s.start h)
    ∙ ap (λ (l : List ℕ). take (s.length - 5) l) (drop-drop 5 s.start h)

pub length-part-of : (h : List ℕ) (s : Span) → s.start + s.length ≤ length h → length (part_of h s) ≡ s.length
length-part-of h s k = length-take-le s.length (drop s.start h) (omega (arith, length-drop s.start h))

-- ---- The note of server_name

module _ (h : List ℕ) (block : ℕ) (es : List Extension) (s : Span) (n : Noted h block es name s) where
  abbrev bytes : List ℕ
  bytes = part_of h s

  long : length bytes ≡ s.length
  long = length-part-of h s n.inside

  absent : s.length < 5 → server_name bytes ≡ none
  absent k = go (server_name bytes) refl
    where
      go : (x : Option (List ℕ)) → server_name bytes ≡ x → x ≡ none
      go none e = refl
      go (some a) e = absurd (omega (arith, long, (name-drops bytes a e).1, k))

  there : 5 ≤ s.length → server_name bytes ≡ some (drop 5 bytes)
  unfolding formed
  there k = go (server_name bytes) refl (sym (asked-name bytes) ∙ n.good (omega arith))
    where
      go : (x : Option (List ℕ)) → server_name bytes ≡ x → formed x ≡ 0 → x ≡ some (drop 5 bytes)
      go none e f = absurd (let z : ◌≡◌ {A = ℕ} 21 0 = f in omega (arith, z))
      go (some a) e f = ap (λ (l : List ℕ). some l) (name-drops bytes a e).0

  pub name-absent : s.length < 5 → first_of (gathered names_in 0x0000 block es) ≡ none
  unfolding first_of
  name-absent k = rw (n.shows, absent k)

  pub name-there : 5 ≤ s.length
      → first_of (gathered names_in 0x0000 block es) ≡ some (part (s.start + 5) (part_of h (span (s.start + 5) (s.length - 5))))
  unfolding first_of
  name-there k = rw (n.shows, there k, after-five h s k)

-- ---- What the answer of name_in says

at-absent : (p : Span) → Some p ≡ None → ⊥
at-absent p e = let z : ◌≡◌ {A = ℕ} 0 1 = cc in omega arith

same_at : (p q : Span) → Some p ≡ Some q → p ≡ q
same_at p q e = cc

pub absent-short : (s : Span) → name_in s ≡ None → s.length < 5
unfolding name_in
absent-short s e = ⊎_elim (λ k. k) (λ k. absurd (at-absent _ (rw (le-ltb s.length 5 k) at e))) (lt-or-le s.length 5)

pub name-long : (s p : Span) → name_in s ≡ Some p → (5 ≤ s.length) × (p ≡ span (s.start + 5) (s.length - 5))
unfolding name_in
name-long s p e = ⊎_elim short long (lt-or-le s.length 5)
  where
    short : s.length < 5 → (5 ≤ s.length) × (p ≡ span (s.start + 5) (s.length - 5))
    short k = absurd (at-absent p (sym (rw (lt-ltb s.length 5 k) at e)))

    long : 5 ≤ s.length → (5 ≤ s.length) × (p ≡ span (s.start + 5) (s.length - 5))
    long k = (k, sym (same_at (span (s.start + 5) (s.length - 5)) p (rw (le-ltb s.length 5 k) at e)))
