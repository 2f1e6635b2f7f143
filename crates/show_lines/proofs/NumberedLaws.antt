-- Where no row stands for what a cursor has, its line is what is left of the hello, and the end comes after it. Assumes nothing.
use Prim.Native.Nat.{ℕ, ◌+◌, ◌-◌, ◌≤◌, ◌<◌}
use mathlib.Core.Path.{◌≡◌, refl, sym, ap, ◌∙◌}
use mathlib.Core.List.{List}
use native.Mathlib.Omega.{arith}
use borrow.Author.Tests.{ltb-false, le-ltb, ne_eqb}
use lib.Dec.{ltb}
use lib.ListN.{length, take, drop}
use Rattle.std.specs.Prelude.{None}
use Rattle.wire.proofs.ListLaws.{length_part}
use Rattle.show_lines.specs.Grammar.{grammar, column}
use Rattle.show_lines.specs.Lines.{Cursor, line, part_end, line_of, line_at, settled, due, next, Ready, Reaches}
use Rattle.show_lines.specs.Numbered.{known}
use Rattle.show_lines.specs.declared.cursor.Line.{Line}
use Rattle.show_lines.proofs.GrammarLaws.{no_row}
use Rattle.show_lines.proofs.PartLaws.{cond-elim, in-none, hello_part}

-- what is left of the hello
abbrev rest : Cursor → Cursor
rest c = record { at = c.at; what = 25; list = c.list; body = c.body; block = c.block }

known-is : (P : Cursor → Type 0) (c : Cursor) → P c → (27 ≤ c.what → P (rest c)) → P (known c)
known-is P c same other =
    cond-elim (λ (what : ℕ). P (record { at = c.at; what = what; list = c.list; body = c.body; block = c.block })) (ltb c.what 27) c.what 25
    (λ t. same) (λ t. other (ltb-false c.what 27 t))

-- a line that has no front, and stands in no part of the hello
record Bare (what : ℕ) : Type 0 where
  front : column what 0 ≡ 0
  form : column what 2 ≡ 0
  part : column what 3 ≡ 0
  no-parameter : what ≡ 22 → ⊥
  no-first : what ≡ 0 → ⊥
  follows : column (column what 5) 3 ≡ 0

bare-25 : Bare 25
unfolding column grammar
bare-25 =
    record {
      front = refl;
      form = refl;
      part = refl;
      no-parameter = λ e. omega (arith, e);
      no-first = λ e. omega (arith, e);
      follows = refl;
    }

first-part : column 0 3 ≡ 0
unfolding column grammar
first-part = refl

bare : (what : ℕ) → 27 ≤ what → Bare what
bare what k =
    record {
      front = no_row what 0 k;
      form = no_row what 2 k;
      part = no_row what 3 k;
      no-parameter = λ e. omega (arith, e);
      no-first = λ e. omega (arith, e);
      follows = ap (λ (n : ℕ). column n 3) (no_row what 5 k) ∙ first-part;
    }

module _ (c : Cursor) (b : Bare c.what) where
  bare-part : (n : ℕ) → part_end n c ≡ n
  unfolding part_end
  bare-part n = in-none (column c.what 3) c.list c.block c.body c.list n (hello_part b.part)

  bare-line : (h : List ℕ) → line_at h c ≡ line (c.at + length (take (length h - c.at) (drop c.at h))) None 0
  unfolding line_at line_of
  bare-line h = rw (bare-part (length h), ne_eqb c.what 22 b.no-parameter, b.front)

  -- after it stands the end
  module _ (h : List ℕ) (inside : c.at < length h) (l : Line) (is : l ≡ line_at h c) where
    ends : length h ≤ l.end
    ends =
        let e : l.end ≡ c.at + length (take (length h - c.at) (drop c.at h)) = ap (λ (x : Line). x.end) (is ∙ bare-line h) in
        omega (arith, e, length_part h c.at (length h) (omega arith) (omega arith))

    abbrev after : Cursor
    after = record { at = l.end; what = due h c; list = c.list; body = c.body; block = c.block }

    due-is : due h c ≡ column c.what 5
    unfolding due
    due-is = rw (ne_eqb c.what 0 b.no-first)

    settled-is : settled (length h) after ≡ 26
    unfolding settled
    settled-is =
        in-none (column (due h c) 3) _ _ _ _ _ (hello_part (ap (λ (k : ℕ). column k 3) due-is ∙ b.follows)) ∙ rw (le-ltb l.end (length h) ends)

    bare-next : next h c l ≡ record { at = l.end; what = 26; list = c.list; body = c.body; block = c.block }
    unfolding next
    bare-next =
        rw b.form
        (ap (λ (k : ℕ). record { at = l.end; what = k; list = c.list; body = c.body; block = c.block }) settled-is)

-- ---- The cursor with a row that stands for what it has, and the one without

module _ (c : Cursor) where
  alike : (A : Type 0) (f : Cursor → A) → (27 ≤ c.what → f (rest c) ≡ f c) → f (known c) ≡ f c
  alike A f other = known-is (λ (d : Cursor). f d ≡ f c) c refl other

  pub part-alike : (n : ℕ) → part_end n (known c) ≡ part_end n c
  part-alike n = alike ℕ (part_end n) (λ k. bare-part (rest c) bare-25 n ∙ sym (bare-part c (bare c.what k) n))

  pub line-alike : (h : List ℕ) → line_at h (known c) ≡ line_at h c
  line-alike h = alike Line (line_at h) (λ k. bare-line (rest c) bare-25 h ∙ sym (bare-line c (bare c.what k) h))

  pub next-alike : (h : List ℕ) → c.at < length h → (l : Line) → l ≡ line_at h c → next h (known c) l ≡ next h c l
  next-alike h inside l is =
      alike Cursor (λ d. next h d l) (λ k.
      let b = bare c.what k in
      bare-next (rest c) bare-25 h inside l (is ∙ bare-line c b h ∙ sym (bare-line (rest c) bare-25 h))
      ∙ sym (bare-next c b h inside l is))

  pub ready-alike : (n : ℕ) → Ready n c → Ready n (known c)
  ready-alike n r =
      record {
        inside = r.inside;
        list = r.list;
        body = r.body;
        block = r.block;
        goes_on = λ k. rw (part-alike n) (r.goes_on k);
      }

  pub reaches-known : (n : ℕ) (l : Line) → Reaches n c l → Reaches n (known c) l
  reaches-known n l r = record { forward = r.forward; within = rw (part-alike n) r.within; front = r.front }

  pub reaches-alike : (n : ℕ) (l : Line) → Reaches n (known c) l → Reaches n c l
  reaches-alike n l r = record { forward = r.forward; within = rw (part-alike n) at r.within; front = r.front }
