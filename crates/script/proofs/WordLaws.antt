-- The words of a line are the parts that `split` gives at each space, and stand one after the other. Assumes nothing.
use Rattle.std.specs.Prelude.{Option, Some, None}
use Rattle.std.specs.List.{slice_get, slice_split, onto_first}
use Rattle.std.specs.Option.{unwrap_or}
use Rattle.std.proofs.Common.{◌≡◌, ℕ, zero, suc, ◌+◌, ◌-◌, ◌<◌, ◌≤◌, Bool, true, false, cond, eqb, ltb, List, [], ◌∷◌, length, take, drop, sym, refl, ap, ◌∙◌, ⊎_elim, zero-le, arith, length-take, length-drop, take_all, le-ltb, lt-ltb, eq-eqb, ne_eqb}
use lib.Seq.{drop-drop}
use Rattle.wire.proofs.ListLaws.{lt-or-le}
use Rattle.script.specs.Scan.{space, distance, find_of, found_of}
use Rattle.script.specs.Words.{word_from, word_of, word_text, is_there, has_operands}
use Rattle.script.proofs.ScanLaws.{place-some, place-none}

-- ---- the first part, which ends at the first such byte

module _ (b : ℕ) where
  pub split-more : (s : List ℕ) → distance b s < length s → slice_split (λ x. eqb x b) s ≡ take (distance b s) s ∷ slice_split (λ x. eqb x b) (drop (suc (distance b s)) s)
  unfolding distance
  split-more [] h = absurd (omega arith)
  split-more (x ∷ s) h = go (eqb x b) h (λ p. split-more s p)
    where
      go : (t : Bool) → cond t 0 (suc (distance b s)) < suc (length s)
          → (distance b s < length s → slice_split (λ x. eqb x b) s ≡ take (distance b s) s ∷ slice_split (λ x. eqb x b) (drop (suc (distance b s)) s))
          → cond t ([] ∷ slice_split (λ x. eqb x b) s) (onto_first x (slice_split (λ x. eqb x b) s))
          ≡ take (cond t 0 (suc (distance b s))) (x ∷ s) ∷ slice_split (λ x. eqb x b) (drop (suc (cond t 0 (suc (distance b s)))) (x ∷ s))
      go true h ih = refl
      go false h ih = ap (λ (l : List (List ℕ)). onto_first x l) (ih (omega arith))

  pub split-last : (s : List ℕ) → length s ≤ distance b s → slice_split (λ x. eqb x b) s ≡ s ∷ []
  unfolding distance
  split-last [] h = refl
  split-last (x ∷ s) h = go (eqb x b) h (λ p. split-last s p)
    where
      go : (t : Bool) → suc (length s) ≤ cond t 0 (suc (distance b s)) → (length s ≤ distance b s → slice_split (λ x. eqb x b) s ≡ s ∷ [])
          → cond t ([] ∷ slice_split (λ x. eqb x b) s) (onto_first x (slice_split (λ x. eqb x b) s)) ≡ (x ∷ s) ∷ []
      go true h ih = absurd (omega arith)
      go false h ih = ap (λ (l : List (List ℕ)). onto_first x l) (ih (omega arith))

-- ---- the words, one part more at a time

abbrev pub parts : List ℕ → List (List ℕ)
parts s = slice_split (λ x. eqb x space) s

pub word-part : (line : List ℕ) (k at : ℕ) → at ≤ length line → word_text line (word_from line k at) ≡ unwrap_or (slice_get (parts (drop at line)) k) []
unfolding word_from find_of
word-part line zero at h =
    let s = drop at line in
    let d = distance space s in
    let e : at + d - at ≡ d = omega arith in
    ⊎_elim (λ p. rw (e, split-more space s p)) (λ q. rw (e, split-last space s q) (take_all d s q)) (lt-or-le d (length s))
word-part line (suc k) at h =
    let s = drop at line in
    let d = distance space s in
    let long : length s ≡ length line - at = length-drop at line in
    ⊎_elim
    (λ p.
    let next : drop (find_of line at space + 1) line ≡ drop (suc d) s = ap (λ (n : ℕ). drop n line) (omega arith) ∙ sym (drop-drop (suc d) at line) in
    rw (lt-ltb (at + d) (length line) (omega arith), split-more space s p) (rw next at (word-part line k (find_of line at space + 1) (omega arith))))
    (λ q. rw (le-ltb (at + d) (length line) (omega arith), split-last space s q))
    (lt-or-le d (length s))

ltb-suc : (a b : ℕ) → ltb (suc a) (suc b) ≡ ltb a b
ltb-suc a b =
    ⊎_elim (λ p. lt-ltb (suc a) (suc b) (omega arith) ∙ sym (lt-ltb a b p)) (λ q. le-ltb (suc a) (suc b) (omega arith) ∙ sym (le-ltb a b q)) (lt-or-le a b)

pub word-there : (line : List ℕ) (k at : ℕ) → at ≤ length line → is_there (word_from line k at) ≡ ltb k (length (parts (drop at line)))
unfolding word_from find_of
word-there line zero at h =
    let s = drop at line in
    let d = distance space s in
    ⊎_elim (λ p. rw (split-more space s p) (sym (lt-ltb 0 (suc (length (parts (drop (suc d) s)))) (omega arith)))) (λ q. rw (split-last space s q)) (lt-or-le d (length s))
word-there line (suc k) at h =
    let s = drop at line in
    let d = distance space s in
    let long : length s ≡ length line - at = length-drop at line in
    ⊎_elim
    (λ p.
    let next : drop (find_of line at space + 1) line ≡ drop (suc d) s = ap (λ (n : ℕ). drop n line) (omega arith) ∙ sym (drop-drop (suc d) at line) in
    rw (lt-ltb (at + d) (length line) (omega arith), split-more space s p)
    (rw next at (word-there line k (find_of line at space + 1) (omega arith)) ∙ sym (ltb-suc k (length (parts (drop (suc d) s))))))
    (λ q. rw (le-ltb (at + d) (length line) (omega arith), split-last space s q) (sym (le-ltb (suc k) 1 (omega arith))))
    (lt-or-le d (length s))

pub operands-count : (line : List ℕ) (n : ℕ) → eqb (length (parts line)) (n + 1) ≡ has_operands line n
unfolding has_operands word_of
operands-count line n =
    let l = length (parts line) in
    rw (word-there line n 0 zero-le, word-there line (n + 1) 0 zero-le)
    (⊎_elim
    (λ p. rw (lt-ltb n l p)
    (⊎_elim (λ q. rw (lt-ltb (n + 1) l q) (ne_eqb l (n + 1) (λ e. omega arith))) (λ q. rw (le-ltb (n + 1) l q) (eq-eqb l (n + 1) (omega arith))) (lt-or-le (n + 1) l)))
    (λ p. rw (le-ltb n l p) (ne_eqb l (n + 1) (λ e. omega arith)))
    (lt-or-le n l))

-- the first parts tell as much: one more than there are to be
pub operands_first : (line : List ℕ) (n : ℕ) → eqb (length (take (n + 1 + 1) (parts line))) (n + 1) ≡ has_operands line n
operands_first line n =
    let l = length (parts line) in
    let m = length-take (n + 1 + 1) (parts line) in
    ⊎_elim
    (λ p. ap (λ (k : ℕ). eqb k (n + 1)) (omega (arith, m)))
    (λ p. ne_eqb _ (n + 1) (λ e. omega (arith, m)) ∙ sym (ne_eqb l (n + 1) (λ e. omega arith)))
    (lt-or-le l (n + 1 + 1))
    ∙ operands-count line n

-- ---- the words by their places, one more at a time

no_more : (line : List ℕ) (left at : ℕ) → 0 < left → length line ≤ find_of line at space → word_from line left at ≡ None
unfolding word_from
no_more line zero at h l = absurd (omega arith)
no_more line (suc n) at h l = rw (le-ltb (find_of line at space) (length line) l)

one_more : (line : List ℕ) (left at : ℕ) → 0 < left → find_of line at space < length line → word_from line left at ≡ word_from line (left - 1) (find_of line at space + 1)
unfolding word_from
one_more line zero at h l = absurd (omega arith)
one_more line (suc n) at h l = let e : suc n - 1 ≡ n = omega arith in rw (lt-ltb (find_of line at space) (length line) l, e)

-- a word begins at `at` after so many that are passed; the word asked for has k before it
pub record Passing (line : List ℕ) (k passed at : ℕ) : Type 0 where
  pub inside : at ≤ length line
  pub rest : word_from line (k - passed) at ≡ word_of line k

pub starts : (line : List ℕ) (k : ℕ) → Passing line k 0 0
unfolding word_of
starts line k = let e : k - 0 ≡ k = omega arith in record { inside = zero-le; rest = rw e refl }

module _ (line : List ℕ) (k passed at : ℕ) (p : Passing line k passed at) where
  pub misses : passed < k → ◌≡◌ {A = Option ℕ} None (found_of line at space) → None ≡ word_of line k
  misses h e = sym (no_more line (k - passed) at (omega arith) (place-none line at space e)) ∙ p.rest

  pub goes_on : (n : ℕ) → passed < k → Some n ≡ found_of line at space → Passing line k (passed + 1) (n + 1)
  goes_on n h e =
      let q = place-some line at space n e in
      let less : k - (passed + 1) ≡ k - passed - 1 = omega arith in
      record {
        inside = omega (arith, q.1);
        rest = rw (less, q.0) (sym (one_more line (k - passed) at (omega arith) (omega (arith, q.0, q.1))) ∙ p.rest);
      }

  pub stands : (end : ℕ) → k ≤ passed → end ≡ find_of line at space → Some (record { start = at; end = end }) ≡ word_of line k
  unfolding word_from
  stands end h e = let z : k - passed ≡ 0 = omega arith in rw e (rw z at p.rest)
