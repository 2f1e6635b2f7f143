-- Each line takes a byte at least and ends in its part, what is kept from line to line is kept, and together the lines take every byte,
-- each byte one line. Assumes nothing.
use Prim.Native.Nat.{ℕ, zero, suc, ◌+◌, ◌-◌, ◌≤◌, ◌<◌, min}
use mathlib.Core.Path.{◌≡◌, refl, sym, ap, ◌∙◌, subst}
use mathlib.Core.Bool.{true, cond, ◌&&◌, true≢false}
use mathlib.Core.Logic.{⊎_elim}
use mathlib.Core.List.{List, [], ◌∷◌}
use mathlib.Core.Option.{Option, none, some}
use native.Mathlib.Nat.{zero-add}
use native.Mathlib.Omega.{arith}
use borrow.Author.Tests.{eqb-false, leb-true, ltb-true, ltb-false, lt-ltb, le-ltb, le-leb, lt-leb}
use lib.ListN.{length, take, drop, length-append}
use lib.Seq.{drop_at}
use lib.Dec.{eqb, leb, ltb}
use Rattle.wire.specs.Numbers.{Bytes}
use Rattle.wire.specs.Sums.{total}
use Rattle.wire.proofs.ListLaws.{lt-or-le, length_part}
use Rattle.wire.proofs.NumberLaws.{bytes_take, bytes_drop}
use Rattle.varint.specs.Varint.{form}
use Rattle.varint.proofs.TableLaws.{width_positive}
use Rattle.varint.proofs.RoundTrip.{length-form}
use Rattle.fingerprint_bodies.specs.Entries.{Entry}
use Rattle.fingerprint_bodies.specs.Body.{Number}
use Rattle.fingerprint_bodies.specs.Forms.{varint_at}
use Rattle.fingerprint_bodies.proofs.BindLaws.{bind-some, cond-some, same_some}
use Rattle.fingerprint_bodies.proofs.RoundTrip.{varint-back}
use Rattle.std.specs.Prelude.{Some}
use Rattle.std.specs.Option.{is_some}
use Rattle.show_lines.specs.Grammar.{grammar, column}
use Rattle.show_lines.specs.Lines.{front_of, is_vector, opens, part_end, Front, line, front_bytes, parameter_front, fixed_front, line_from, line_of}
use Rattle.show_lines.specs.Lines.{line_at, inside, opened, due, next, start, Row, listed, most, rows, Tiles, count_holding, Ready, Reaches}
use Rattle.show_lines.specs.Lines.{Cursor}
use Rattle.show_lines.specs.declared.cursor.Line.{Line}
use Rattle.show_lines.proofs.PartLaws.{cond-elim, part-within, Placed, settle-ready, opened-within}

-- ---- A front has a byte at least, and no more than are there

abbrev Fits : List ℕ → Front → Type 0
Fits rest f = (0 < f.bytes) × (f.bytes ≤ length rest)

-- a number takes a byte at least
varint-shorter : (bs : List ℕ) (e : Entry Number) → Bytes bs → varint_at bs ≡ some e
    → (length e.rest < length bs) × Bytes e.rest
varint-shorter bs e b q =
    let back = varint-back bs e b q in
    let f : List ℕ = form e.value.class e.value.number in
    let some_bytes = width_positive e.value.class back.1.known in
    let rest-is : drop (length f) bs ≡ e.rest =
    ap (λ (l : List ℕ). drop (length f) l) (sym back.0) ∙ drop_at f e.rest (length f) refl in (
      omega (arith, ap length back.0, length-append f e.rest, length-form e.value.class e.value.number, some_bytes),
      rw (← rest-is) (bytes_drop (length f) bs b),
    )

parameter-fits : (rest : List ℕ) (f : Front) → Bytes rest → parameter_front rest ≡ some f → Fits rest f
unfolding parameter_front
parameter-fits rest f b q =
    let i = bind-some (varint_at rest) _ f q in
    let id = varint-shorter rest i.value b i.is in
    let n = bind-some (varint_at i.value.rest) _ f i.after in
    let size = varint-shorter i.value.rest n.value id.1 n.is in
    let z : length rest - length n.value.rest ≡ f.bytes = ap (λ (x : Front). x.bytes) (same_some _ f n.after) in
    (omega (arith, z, id.0, size.0), omega (arith, z))

fixed-is : (what : ℕ) (rest : List ℕ) (f : Front) → fixed_front what rest ≡ some f
    → (front_of what ≤ length rest) × (front_of what ≡ f.bytes)
unfolding fixed_front
fixed-is what rest f q =
    let p = cond-some (leb (front_of what) (length rest)) _ f q in
    (leb-true (front_of what) (length rest) p.0, ap (λ (x : Front). x.bytes) p.1)

-- ---- A line that begins at a place, where so many bytes are left of its part

abbrev Goes : ℕ → List ℕ → Line → Type 0
Goes at rest l = (at < l.end) × (l.end ≤ at + length rest) × (at + front_bytes l.front ≤ l.end)

line-from : (what at : ℕ) (rest : List ℕ) (x : Option Front) → 0 < length rest → ((f : Front) → x ≡ some f → Fits rest f)
    → Goes at rest (line_from what at rest x)
line-from what at rest none h k = (omega arith, omega arith, omega arith)
line-from what at rest (some f) h k =
    let some_bytes = (k f refl).0 in
    let there = (k f refl).1 in
    cond-elim (λ (n : ℕ). Goes at rest (line (at + n) (Some f.bytes) f.said)) (is_vector what) _ _
    (λ t. (omega (arith, some_bytes), omega arith, omega (arith, there)))
    (λ t. (omega (arith, some_bytes), omega (arith, there), omega arith))

line-of-goes : (what : ℕ) (rest : List ℕ) (at : ℕ) → Bytes rest → 0 < length rest → Goes at rest (line_of what rest at)
unfolding line_of
line-of-goes what rest at b h =
    cond-elim (Goes at rest) (eqb what 22) _ _
    (λ t. line-from what at rest (parameter_front rest) h (λ f q. parameter-fits rest f b q)) (λ t.
    cond-elim (Goes at rest) (eqb (front_of what) 0) _ _ (λ u. (omega arith, omega arith, omega arith)) (λ u.
    line-from what at rest (fixed_front what rest) h (λ f q.
    let p = fixed-is what rest f q in
    let some-front : front_of what ≡ 0 → ⊥ = eqb-false (front_of what) 0 u in
    (omega (arith, p.1, some-front), omega (arith, p.0, p.1)))))

module _ (h : List ℕ) (c : Cursor) (r : Ready (length h) c) where
  pub line-reaches : Bytes h → c.at < length h → Reaches (length h) c (line_at h c)
  unfolding line_at
  line-reaches b k =
      let end : ℕ = part_end (length h) c in
      let rest : List ℕ = take (end - c.at) (drop c.at h) in
      let on = r.goes_on k in
      let long : length rest ≡ end - c.at = length_part h c.at end (omega (arith, on)) (part-within (length h) c r) in
      let bytes : Bytes rest = bytes_take (end - c.at) (drop c.at h) (bytes_drop c.at h b) in
      let goes = line-of-goes c.what rest c.at bytes (omega (arith, long, on)) in
      record { forward = goes.0; within = omega (arith, goes.1, long, on); front = goes.2 }

  -- ---- What is kept from line to line

  module _ (l : Line) (e : Reaches (length h) c l) where
    -- a cursor after a line, before what stands there is settled
    abbrev after : Cursor
    after =
        cond (opens c.what && is_some l.front)
        (opened c l.end (inside h c l) (min (l.end + l.said) (part_end (length h) c)))
        (record { at = l.end; what = due h c; list = c.list; body = c.body; block = c.block })

    after-placed : Placed (length h) l.end after
    after-placed =
        let end = part-within (length h) c r in
        let in-hello : l.end ≤ length h = omega (arith, e.within, end) in
        cond-elim (Placed (length h) l.end) (opens c.what && is_some l.front) _ _
        (λ t. opened-within (length h) c r l.end (inside h c l) _ in-hello (omega (arith, end)))
        (λ t. (record { at = in-hello; list = r.list; body = r.body; block = r.block }, refl))

    pub next-at : (next h c l).at ≡ l.end
    unfolding next
    next-at = after-placed.1

    pub ready-next : Ready (length h) (next h c l)
    unfolding next
    ready-next = settle-ready (length h) after after-placed.0

pub start-ready : (h : List ℕ) → Ready (length h) (start h)
unfolding start
start-ready h =
    settle-ready (length h) (record { at = 0; what = 0; list = 0; body = 0; block = 0 })
    (record { at = omega arith; list = omega arith; body = omega arith; block = omega arith })

-- ---- An extension whose front is there has its type there

front-of-nine : (rest : List ℕ) (at : ℕ) → is_some (line_of 9 rest at).front ≡ true → front_bytes (line_of 9 rest at).front ≡ 4
unfolding line_of fixed_front column grammar
front-of-nine rest at =
    cond-elim (λ (x : Option Front). is_some (line_from 9 at rest x).front ≡ true → front_bytes (line_from 9 at rest x).front ≡ 4)
    (leb 4 (length rest)) _ none
    (λ t k. refl)
    (λ t k. absurd (true≢false (sym k)))

front-of-extension : (what : ℕ) (rest : List ℕ) (at : ℕ) → what ≡ 9 → is_some (line_of what rest at).front ≡ true
    → front_bytes (line_of what rest at).front ≡ 4
front-of-extension what rest at w = rw w (front-of-nine rest at)

pub extension-front : (h : List ℕ) (c : Cursor) → c.what ≡ 9 → is_some (line_at h c).front ≡ true → front_bytes (line_at h c).front ≡ 4
unfolding line_at
extension-front h c w = front-of-extension c.what (take (part_end (length h) c - c.at) (drop c.at h)) c.at w

-- ---- Each line begins where the one before it ended, and together they take every byte

listed-tiles : (f : ℕ) (h : List ℕ) (c : Cursor) → Bytes h → Ready (length h) c → length h - c.at ≤ f
    → Tiles c.at (listed f h c) (length h)
unfolding listed
listed-tiles zero h c b r k = omega (arith, r.inside)
listed-tiles (suc f) h c b r k =
    cond-elim (λ (rs : List Row). Tiles c.at rs (length h)) (ltb c.at (length h)) _ _
    (λ t.
    let e = line-reaches h c r b (ltb-true c.at (length h) t) in
    let l = line_at h c in
    let on = next-at h c r l e in
    let rest = listed-tiles f h (next h c l) b (ready-next h c r l e) (omega (arith, on, e.forward)) in
    (refl, e.forward, subst (λ (at : ℕ). Tiles at (listed f h (next h c l)) (length h)) on rest))
    (λ t. omega (arith, r.inside, ltb-false c.at (length h) t))

all-tile : (h : List ℕ) → Bytes h → Tiles 0 (listed (length h) h (start h)) (length h)
unfolding start
all-tile h b = listed-tiles (length h) h (start h) b (start-ready h) (omega arith)

pub rows-tile : (h : List ℕ) → Bytes h → Tiles 0 (rows h) (length (take most h))
unfolding rows
rows-tile h b = all-tile (take most h) (bytes_take most h b)

-- ---- A place lies in exactly one row

pub tiles-up : (at : ℕ) (rs : List Row) (end : ℕ) → Tiles at rs end → at ≤ end
tiles-up at [] end t = omega (arith, t)
tiles-up at (r ∷ rs) end (e, f, t) = omega (arith, f, tiles-up r.end rs end t)

module _ (p : ℕ) where
  pub none_before : (at : ℕ) (rs : List Row) (end : ℕ) → Tiles at rs end → p < at → count_holding p rs ≡ 0
  unfolding count_holding total
  none_before at [] end t k = refl
  none_before at (r ∷ rs) end (e, f, t) k =
      rw (lt-leb r.at p (omega (arith, e)), zero-add) (none_before r.end rs end t (omega (arith, f)))

  pub none_after : (at : ℕ) (rs : List Row) (end : ℕ) → Tiles at rs end → end ≤ p → count_holding p rs ≡ 0
  unfolding count_holding total
  none_after at [] end t k = refl
  none_after at (r ∷ rs) end (e, f, t) k =
      let up = tiles-up r.end rs end t in
      rw (le-leb r.at p (omega (arith, e, f, up)), le-ltb p r.end (omega (arith, up)), zero-add) (none_after r.end rs end t k)

  pub one_holds : (at : ℕ) (rs : List Row) (end : ℕ) → Tiles at rs end → at ≤ p → p < end → count_holding p rs ≡ 1
  unfolding count_holding total
  one_holds at [] end t h k = absurd (omega (arith, t))
  one_holds at (r ∷ rs) end (e, f, t) h k =
      ⊎_elim
      (λ (q : p < r.end). rw (le-leb r.at p (omega (arith, e)), lt-ltb p r.end q, none_before r.end rs end t q))
      (λ (q : r.end ≤ p). rw (le-leb r.at p (omega (arith, e)), le-ltb p r.end q, zero-add) (one_holds r.end rs end t q k))
      (lt-or-le p r.end)

-- each byte that is listed stands on one line, and no other place on any
module _ (h : List ℕ) (b : Bytes h) (p : ℕ) where
  pub one-row : p < length (take most h) → count_holding p (rows h) ≡ 1
  one-row k = one_holds p 0 (rows h) (length (take most h)) (rows-tile h b) (omega arith) k

  pub no-row-after : length (take most h) ≤ p → count_holding p (rows h) ≡ 0
  no-row-after k = none_after p 0 (rows h) (length (take most h)) (rows-tile h b) k
