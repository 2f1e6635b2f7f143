-- Taking bytes of a chunk to a line. Assumes nothing.
use Rattle.std.proofs.Common.{◌≡◌, ℕ, ◌+◌, ◌-◌, ◌<◌, ◌≤◌, true, cond, eqb, ltb, List, length, take, drop, sym, refl, ap, ◌∙◌, ap₂, ⊎_elim, zero-le, arith, length-take-le, le-ltb, lt-ltb, eq-eqb, ne_eqb}
use Rattle.wire.proofs.ListLaws.{lt-or-le, length_part}
use Rattle.script.specs.Scan.{distance, find_of}
use Rattle.script.proofs.ScanLaws.{find-most}
use Rattle.script.specs.Input.{line_feed, start_of, filled_of, next_line_of, pending, part_of, passed_of, Held, Appended, Taken}
use Rattle.script.specs.declared.input.Input.{Input}

-- what has been passed lies in the chunk
passed-in : (place end : ℕ) → place ≤ end → cond (ltb place end) (place + 1) place ≤ end
passed-in place end h =
    ⊎_elim (λ p. rw (lt-ltb place end p) (omega arith)) (λ q. rw (le-ltb place end q) h) (lt-or-le place end)

module _ (chunk line : List ℕ) (s : Input) (h : Held (length chunk) (length line) s) (n : ℕ) (f : n ≡ find_of (pending chunk s) 0 line_feed) where
  length-pending : length (pending chunk s) ≡ s.end - s.start
  length-pending = length_part chunk s.start s.end h.order h.read

  line-feed-at : n ≡ distance line_feed (pending chunk s)
  unfolding find_of
  line-feed-at = f ∙ omega arith

  few : n ≤ length (pending chunk s)
  few = rw (← f) at (find-most (pending chunk s) 0 line_feed zero-le)

  pub part-is : take (n - 0) (drop 0 (pending chunk s)) ≡ part_of chunk s
  part-is = let e : n - 0 ≡ n = omega arith in rw (e, line-feed-at)

  pub part_length : length (part_of chunk s) ≡ n
  part_length = rw (← line-feed-at) (length-take-le n (pending chunk s) (omega (arith, few)))

  pub in-chunk : s.start + n ≤ s.end
  in-chunk = omega (arith, few, length-pending, h.order)

  pub took : (t r : Input) (new : List ℕ) → Appended (take (n - 0) (drop 0 (pending chunk s))) s t line new → r ≡ passed_of t (s.start + n) → Taken chunk s r line new
  took t r new a e =
      let b : Appended (part_of chunk s) s t line new = rw part-is at a in
      let end : t.end ≡ s.end = ap (λ (x : Input). x.end) b.is in
      record {
        is = e ∙ ap₂ (λ (x : Input) (k : ℕ). passed_of x (s.start + k)) b.is (sym part_length);
        output = b.output;
        held = rw e (record {
          order = passed-in (s.start + n) t.end (rw end in-chunk);
          read = rw end h.read;
          taken = b.within;
        });
      }

-- ---- the other steps keep the bounds

pub start-held : (chunk line : ℕ) → Held chunk line start_of
start-held chunk line = record { order = zero-le; read = zero-le; taken = zero-le }

pub next-held : (chunk line : ℕ) (s : Input) → Held chunk line s → Held chunk line (next_line_of s)
next-held chunk line s h = record { order = h.order; read = h.read; taken = zero-le }

pub filled-held : (chunk n : ℕ) (s r : Input) → r ≡ filled_of s n → n ≤ chunk → (r.start ≤ r.end) × (r.end ≤ chunk) × (r.length ≡ s.length)
filled-held chunk n s r e h =
    ⊎_elim
    (λ p. rw (e, le-zero n p) (zero-le, zero-le, refl))
    (λ q. rw (e, ne_eqb n 0 (λ z. omega arith)) (zero-le, h, refl))
    (lt-or-le n 1)
  where
    le-zero : (n : ℕ) → n < 1 → eqb n 0 ≡ true
    le-zero n p = eq-eqb n 0 (omega arith)
