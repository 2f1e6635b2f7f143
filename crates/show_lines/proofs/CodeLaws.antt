-- What the code has read and tested, as the definitions have it. Assumes nothing.
use Prim.Native.Nat.{ℕ, ◌+◌, ◌-◌, ◌*◌, ◌≤◌, ◌<◌, min}
use mathlib.Core.Path.{◌≡◌, refl, sym, ap, ◌∙◌, subst}
use mathlib.Core.Bool.{Bool, true, false, cond, true≢false}
use mathlib.Core.List.{List, [], ◌∷◌}
use native.Mathlib.Omega.{arith}
use borrow.Author.Tests.{eqb-true, eqb-false, eq-eqb, ne_eqb, lt-ltb, le-ltb, le-leb, lt-leb}
use lib.ListN.{length, take, drop, get_or, length-drop}
use lib.Seq.{take_all}
use Rattle.wire.specs.Numbers.{Bytes, number, number_on}
use Rattle.wire.proofs.ListLaws.{part_to_end, length-part-to-end, length_part}
use Rattle.varint.specs.Varint.{Found}
use Rattle.varint.proofs.ByteLaws.{number-one}
use Rattle.varint.specs.declared.Varint.{Varint}
use Rattle.std.specs.Prelude.{Ok, Err, Some, None}
use Rattle.std.specs.Prelude as std
use Rattle.std.specs.Option.{is_some}
use Rattle.std.specs.Int.{from_be_bytes, w32}
use borrow.Rule.Slice.PartMut.{put_mid}
use lib.Dec.{eqb}
use Rattle.wire.specs.declared.refusals.Refusal.{Refusal}
use Rattle.fingerprint_bodies.specs.Entries.{bind}
use Rattle.fingerprint_bodies.specs.Body.{kind}
use Rattle.fingerprint_bodies.specs.Forms.{varint_at}
use Rattle.fingerprint.specs.Code.{slot}
use Rattle.fingerprint_parameters.proofs.OneParameter.{head-within}
use Rattle.show_lines.specs.Grammar.{grammar, column, body_line}
use Rattle.show_lines.specs.Rows.{form_number, front_column}
use Rattle.show_lines.specs.declared.grammar.Kind.{Kind}
use Rattle.show_lines.specs.declared.grammar.Form.{Form}
use Rattle.show_lines.specs.declared.grammar.Form.TheVariants as form
use Rattle.show_lines.specs.Lines.{front_of, width_of, is_vector, part_end, line, front_bytes, parameter_front, fixed_front, line_from, line_of, line_at}
use Rattle.show_lines.specs.Lines.{inside, settle, opened, due, next, Ready, Reaches}
use Rattle.show_lines.specs.Lines.{Cursor}
use Rattle.show_lines.specs.declared.cursor.Line.{Line}
use Rattle.show_lines.proofs.GrammarLaws.{width-in-front, width-most}
use Rattle.show_lines.proofs.PartLaws.{cond-elim}
use Rattle.show_lines.proofs.LineLaws.{line-reaches, extension-front, next-at, ready-next}

-- ---- A number of one, two or three bytes

pub one_byte : (s : List ℕ) → length s ≡ 1 → get_or s 0 0 ≡ number 256 s
one_byte s e = sym (number-one s (omega (arith, e))) ∙ ap (λ (l : List ℕ). number 256 l) (take_all 1 s (omega (arith, e)))

pub two_bytes : (s : List ℕ) → length s ≡ 2 → number 256 (take 2 s) ≡ number 256 s
two_bytes s e = ap (λ (l : List ℕ). number 256 l) (take_all 2 s (omega (arith, e)))

pub three-bytes : (s : List ℕ) → length s ≡ 3 → get_or s 0 0 * 65536 + number 256 (take 2 (drop 1 s)) ≡ number 256 s
unfolding number number_on
three-bytes [] e = absurd (omega (arith, e))
three-bytes (a ∷ []) e = absurd (omega (arith, e))
three-bytes (a ∷ b ∷ []) e = absurd (omega (arith, e))
three-bytes (a ∷ b ∷ c ∷ []) e = omega arith
three-bytes (a ∷ b ∷ c ∷ d ∷ s) e = absurd (omega (arith, e))

pub no_byte : (s : List ℕ) → length s ≡ 0 → 0 ≡ number 256 s
unfolding number number_on
no_byte [] e = refl
no_byte (a ∷ s) e = absurd (omega (arith, e))

-- ---- A number of up to three bytes, which stand behind zeros

abbrev padded : ℕ → List ℕ → List ℕ
padded n s = put_mid (4 - n) (4 - (4 - n)) (0 ∷ 0 ∷ 0 ∷ 0 ∷ []) s

number-padded : (s : List ℕ) → length s ≤ 3 → from_be_bytes w32 (padded (length s) s) ≡ number 256 s
unfolding number number_on
number-padded [] h = omega arith
number-padded (a ∷ []) h = omega arith
number-padded (a ∷ b ∷ []) h = omega arith
number-padded (a ∷ b ∷ c ∷ []) h = omega arith
number-padded (a ∷ b ∷ c ∷ d ∷ s) h = absurd (omega (arith, h))

-- as they were copied
pub behind-zeros : (s part : List ℕ) → length s ≤ 3 → part ≡ s → from_be_bytes w32 (padded (length s) part) ≡ number 256 s
behind-zeros s part h e =
    subst (λ (p : List ℕ). from_be_bytes w32 (padded (length s) p) ≡ number 256 s) (sym e) (number-padded s h)

-- ---- A parameter, by the two numbers that were read

module _ (at : ℕ) (bs : List ℕ) where
  abbrev Parameter : Line → Type 0
  Parameter l = l ≡ line_from 22 at bs (parameter_front bs)

  pub no-id : (k : Refusal) → Found bs (Err k) → Parameter (line (at + length bs) None 0)
  unfolding parameter_front varint_at bind
  no-id k f = rw (← f.is)

  module _ (id : Varint) (f : Found bs (Ok id)) where
    pub no_length : (k : Refusal) → Found (drop id.width bs) (Err k) → Parameter (line (at + length bs) None 0)
    unfolding parameter_front varint_at bind
    no_length k g = rw (← f.is, ← g.is)

    module _ (size : Varint) (g : Found (drop id.width bs) (Ok size)) where
      abbrev front : ℕ
      front = id.width + size.width

      after : length bs - length (drop size.width (drop id.width bs)) ≡ front
      after =
          omega (
            arith,
            length-drop size.width (drop id.width bs),
            length-drop id.width bs,
            head-within bs id f size g,
          )

      pub whole-front : Parameter (line (at + min (front + size.value) (length bs)) (Some front) size.value)
      unfolding parameter_front varint_at bind column grammar
      whole-front = rw (← f.is, ← g.is, after)

-- ---- Any line, by the columns that were looked up

column-none : (n : ℕ) → ◌≡◌ {A = std.Option ℕ} None (front_column n) → n ≡ 0
column-none n =
    cond-elim (λ (x : std.Option ℕ). None ≡ x → n ≡ 0) (eqb n 0) None (Some n) (λ t e. eqb-true n 0 t) (λ t e. absurd (true≢false (sym (ap is_some e))))

pub column-some : (n front : ℕ) → Some front ≡ front_column n → (front ≡ n) × (front ≡ 0 → ⊥)
column-some n front =
    cond-elim (λ (x : std.Option ℕ). Some front ≡ x → (front ≡ n) × (front ≡ 0 → ⊥)) (eqb n 0) None (Some n)
    (λ t e. absurd (true≢false (ap is_some e)))
    (λ t e. let k = ap front_bytes e in (k, λ z. eqb-false n 0 t (sym k ∙ z)))

pub no_vector : (f : Form) → (f ≡ form.Vector → ⊥) → form_number f ≡ 1 → ⊥
no_vector form.Plain h e = omega (arith, e)
no_vector form.Vector h e = h refl
no_vector (form.Opens k) h e = omega (arith, e)

pub no-opens : (f : Form) → ((k : Kind) → f ≡ form.Opens k → ⊥) → form_number f ≡ 2 → ⊥
no-opens form.Plain h e = omega (arith, e)
no-opens form.Vector h e = omega (arith, e)
no-opens (form.Opens k) h e = h k refl

module _ (what at : ℕ) (rest : List ℕ) where
  pub line-parameter : what ≡ 22 → line_from 22 at rest (parameter_front rest) ≡ line_of what rest at
  unfolding line_of
  line-parameter e = rw e

  module _ (other : what ≡ 22 → ⊥) where
    pub line-all : ◌≡◌ {A = std.Option ℕ} None (front_column (front_of what)) → line (at + length rest) None 0 ≡ line_of what rest at
    unfolding line_of
    line-all e = rw (ne_eqb what 22 other, column-none (front_of what) e)

    module _ (front : ℕ) (there : Some front ≡ front_column (front_of what)) where
      f : front ≡ front_of what
      f = (column-some (front_of what) front there).0

      some-front : front ≡ 0 → ⊥
      some-front = (column-some (front_of what) front there).1

      pub line-cut : length rest < front → line (at + length rest) None 0 ≡ line_of what rest at
      unfolding line_of fixed_front
      line-cut k = rw (ne_eqb what 22 other, ← f, ne_eqb front 0 some-front, lt-leb front (length rest) k)

      module _ (k : front ≤ length rest) (width said : ℕ) (w : width ≡ width_of what)
          (s : said ≡ number 256 (take (front - (front - width)) (drop (front - width) rest))) where
        abbrev of-form : Bool → Line
        of-form v = line (at + cond v (min (front + said) (length rest)) front) (Some front) said

        line-is : line_of what rest at ≡ of-form (is_vector what)
        unfolding line_of fixed_front
        line-is =
            let narrow : width ≤ front = rw (w, f) (width-in-front what) in
            let z : front - (front - width) ≡ width = omega (arith, narrow) in
            let t : number 256 (take width (drop (front - width) rest)) ≡ said = sym (rw z at s) in
            rw (ne_eqb what 22 other, ← f, ← w, ne_eqb front 0 some-front, le-leb front (length rest) k, t)

        module _ (form : ℕ) (e : form ≡ column what 2) where
          pub line-vector : form ≡ 1 → line (at + min (front + said) (length rest)) (Some front) said ≡ line_of what rest at
          line-vector v = rw (line-is, eq-eqb (column what 2) 1 (sym e ∙ v))

          pub line_plain : (form ≡ 1 → ⊥) → line (at + front) (Some front) said ≡ line_of what rest at
          line_plain v = rw (line-is, ne_eqb (column what 2) 1 (λ q. v (e ∙ q)))

-- the bytes of a length, as the code cuts them
pub few_bytes : (what : ℕ) (rest : List ℕ) (front width : ℕ) → Some front ≡ front_column (front_of what) → width ≡ width_of what → front ≤ length rest
    → length (take (front - (front - width)) (drop (front - width) rest)) ≤ 3
few_bytes what rest front width there w k =
    let narrow : width ≤ 3 = rw w (width-most what) in
    omega (arith, length_part rest (front - width) front (omega arith) k, narrow)

-- the line at the cursor: the bytes from there to the end of its part
pub line-found :
    (h : List ℕ) (c : Cursor) → Bytes h → Ready (length h) c → c.at < length h → (end : ℕ) → end ≡ part_end (length h) c → (l : Line)
    → l ≡ line_of c.what (take (end - c.at) (drop c.at h)) c.at → (l ≡ line_at h c) × Reaches (length h) c l
unfolding line_at
line-found h c b r k end e l q =
    let is : l ≡ line_at h c = rw (← e) q in
    (is, rw is (line-reaches h c r b k))

-- ---- What stands inside, and after

module _ (h : List ℕ) (c : Cursor) where
  module _ (l : Line) where
    pub type-there : l ≡ line_at h c → c.what ≡ 9 → is_some l.front ≡ true → c.at + front_bytes l.front ≤ l.end → l.end ≤ length h
        → 2 ≤ length (take (length h - c.at) (drop c.at h))
    type-there is w k fits within =
        let four : front_bytes l.front ≡ 4 = rw is (extension-front h c w (rw is at k)) in
        omega (arith, length-part-to-end h c.at, four)

    pub inside-extension : c.what ≡ 9 → (t : ℕ) → t ≡ number 256 (take 2 (take (length h - c.at) (drop c.at h)))
        → body_line (slot (kind t)) ≡ inside h c l
    unfolding inside
    inside-extension w t e = rw (w, e, part_to_end h c.at)

    pub inside-suites : c.what ≡ 5 → length h - l.end < l.said → 25 ≡ inside h c l
    unfolding inside
    inside-suites w k = rw (w, lt-ltb (length h - l.end) l.said k)

    pub inside-whole : c.what ≡ 5 → l.said ≤ length h - l.end → column c.what 4 ≡ inside h c l
    unfolding inside
    inside-whole w k = rw (w, le-ltb (length h - l.end) l.said k)

    pub inside-other : (c.what ≡ 9 → ⊥) → (c.what ≡ 5 → ⊥) → column c.what 4 ≡ inside h c l
    unfolding inside
    inside-other a b = rw (ne_eqb c.what 9 a, ne_eqb c.what 5 b)

  pub due-none : c.what ≡ 0 → (get_or h c.at 0 ≡ 1 → ⊥) → 25 ≡ due h c
  unfolding due
  due-none w k = rw (w, ne_eqb (get_or h c.at 0) 1 k)

  pub due-hello : c.what ≡ 0 → get_or h c.at 0 ≡ 1 → column c.what 5 ≡ due h c
  unfolding due
  due-hello w k = rw (w, k)

  pub due-other : (c.what ≡ 0 → ⊥) → column c.what 5 ≡ due h c
  unfolding due
  due-other w = rw (ne_eqb c.what 0 w)

  -- ---- The cursor after a line

  module _ (l : Line) (r : Ready (length h) c) (e : Reaches (length h) c l) where
    abbrev Next : Cursor → Type 0
    Next d = (d ≡ next h c l) × Ready (length h) d × (c.at < d.at)

    kept : (d : Cursor) → d ≡ next h c l → Next d
    kept d q = (q, rw q (ready-next h c r l e), rw q (omega (arith, next-at h c r l e, e.forward)))

    pub next-inside : column c.what 2 ≡ 2 → is_some l.front ≡ true → (d : Cursor)
        → d ≡ settle (length h) (opened c l.end (inside h c l) (min (l.end + l.said) (part_end (length h) c))) → Next d
    unfolding next
    next-inside f k d q = kept d (rw (f, k) q)

    abbrev Plain : Cursor → Type 0
    Plain d = d ≡ settle (length h) (record { at = l.end; what = due h c; list = c.list; body = c.body; block = c.block })

    pub next-cut : column c.what 2 ≡ 2 → is_some l.front ≡ false → (d : Cursor) → Plain d → Next d
    unfolding next
    next-cut f k d q = kept d (rw (f, k) q)

    pub next-plain : (column c.what 2 ≡ 2 → ⊥) → (d : Cursor) → Plain d → Next d
    unfolding next
    next-plain f d q = kept d (rw (ne_eqb (column c.what 2) 2 f) q)
