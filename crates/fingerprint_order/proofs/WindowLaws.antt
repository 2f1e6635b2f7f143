-- What a loop over the pairs of neighbours keeps. Assumes nothing.
use Prim.Native.Nat.{ℕ, ◌+◌, ◌-◌, ◌<◌, ◌≤◌}
use mathlib.Core.Path.{◌≡◌, ap, ◌∙◌}
use mathlib.Core.List.{List}
use mathlib.Core.Logic.{◌⊎◌, inl, inr}
use Rattle.wire.proofs.ListLaws.{lt-or-le}
use native.Mathlib.Omega.{arith}
use lib.ListN.{length, take, drop, get_or}
use denote.Ref.{Bor}
use Rattle.std.specs.Prelude.{Option, Some, None}
use Rattle.std.specs.Option.{MatchOption}
use Rattle.std.specs.declared.slice.Windows.{Windows}
use Rattle.std.specs.Slice.Iter.{windows_rest, windows_size}
use Rattle.std.proofs.lemmas.Iterator.{window_more}

-- each id before the pairs that are left is greater than the one before it
pub record Risen (ids : List ℕ) (it : Windows ℕ) : Type 0 where
  pub pairs : windows_size it ≡ 2
  pub few : length (windows_rest it) ≤ length ids
  pub rest : windows_rest it ≡ drop (length ids - length (windows_rest it)) ids
  pub risen : (j : ℕ) → j + length (windows_rest it) < length ids → get_or ids j 0 < get_or ids (j + 1) 0

pub risen-start : (ids : List ℕ) (it : Windows ℕ) → windows_rest it ≡ ids → windows_size it ≡ 2 → Risen ids it
risen-start ids it r z =
    let long = ap length r in
    let none : length ids - length (windows_rest it) ≡ 0 = omega (arith, long) in
    record { pairs = z; few = omega (arith, long); rest = rw none r; risen = λ j h. absurd (omega (arith, long, h)) }

-- a turn
abbrev Turn : Windows ℕ → Option (Bor (List ℕ)) → Windows ℕ → Type 0
Turn s r t =
    (windows_size t ≡ windows_size s)
    × MatchOption r ((length (windows_rest s) < windows_size s) × (t ≡ s)) (λ x. (windows_size s ≤ length (windows_rest s)) × (x.now ≡ take (windows_size s) (windows_rest s)) × (windows_rest t ≡ drop 1 (windows_rest s)) × (length x.now ≡ windows_size s))

-- a pair's place, and its two ids
pub record Pair (ids : List ℕ) (s : Windows ℕ) (w : List ℕ) : Type 0 where
  pub place : ℕ
  pub at : place + length (windows_rest s) ≡ length ids
  pub inside : place + 1 < length ids
  pub one : get_or w 0 0 ≡ get_or ids place 0
  pub two : get_or w 1 0 ≡ get_or ids (place + 1) 0

module _ {ids : List ℕ} {s : Windows ℕ} (i : Risen ids s) where
  module _ (t : Windows ℕ) (r : Option (Bor (List ℕ))) (w : Bor (List ℕ)) (is : r ≡ Some w) (p : Turn s r t) where
    pub pair : Pair ids s w.now
    pair =
        let more = window_more ids s t r w is p (omega (arith, i.pairs)) i.few i.rest in
        let j = length ids - length (windows_rest s) in
        let here : j + 0 ≡ j = omega arith in
        record {
          place = j;
          at = omega (arith, i.few);
          inside = omega (arith, i.few, more.2, i.pairs);
          one = more.3 0 0 (omega (arith, i.pairs)) ∙ ap (λ (k : ℕ). get_or ids k 0) here;
          two = more.3 1 0 (omega (arith, i.pairs));
        }

    pub risen-next : get_or w.now 0 0 < get_or w.now 1 0 → Risen ids t
    risen-next h =
        let more = window_more ids s t r w is p (omega (arith, i.pairs)) i.few i.rest in
        record {
          pairs = p.0 ∙ i.pairs;
          few = omega (arith, more.0, i.few);
          rest = more.1;
          risen = λ j k. go more.0 j k (lt-or-le (j + length (windows_rest s)) (length ids));
        }
      where
        go : length (windows_rest t) + 1 ≡ length (windows_rest s) → (j : ℕ) → j + length (windows_rest t) < length ids
            → (j + length (windows_rest s) < length ids) ⊎ (length ids ≤ j + length (windows_rest s)) → get_or ids j 0 < get_or ids (j + 1) 0
        go m j k (inl before) = i.risen j before
        go m j k (inr here) =
            let q = pair in
            let same : q.place ≡ j = omega (arith, k, here, m, q.at) in
            let rises : get_or ids q.place 0 < get_or ids (q.place + 1) 0 = rw (q.one, q.two) at h in
            rw same at rises

  pub risen-end : (t : Windows ℕ) (r : Option (Bor (List ℕ))) → r ≡ None → Turn s r t → (j : ℕ) → j + 1 < length ids → get_or ids j 0 < get_or ids (j + 1) 0
  risen-end t r is p j h = let few = (rw is at p).1.0 in i.risen j (omega (arith, few, i.pairs, h))
