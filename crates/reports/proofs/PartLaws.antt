-- Loops that write a label and then the parts of each element of a list. Assumes nothing.
use Prim.Native.Nat.{ℕ, ◌+◌, ◌-◌, ◌≤◌, ◌<◌, zero-le}
use mathlib.Core.Path.{◌≡◌, refl, sym, ap, ◌∙◌}
use mathlib.Core.List.{List, [], ◌∷◌, ◌++◌, map, append_assoc, append-nil, map-map}
use native.Mathlib.Numerals.{add-one}
use native.Mathlib.Omega.{arith}
use lib.ListN.{length, take, drop, get_or, length-drop}
use lib.Seq.{take-suc, length-take-le}
use borrow.Rule.Slice.PartMut.{mid_of, put_mid, same_len_mid}
use Rattle.script_writing.specs.Shown.{Written}
use Rattle.script_writing.specs.Answers.{WrittenAll}
use Rattle.script_writing.proofs.AnswerLaws.{all-as, written_one, written-more}
use Rattle.reports.specs.Lines.{each}

-- whatever was written where the loop began, the label and the parts of the first i elements stand now
pub record Listed (label : List ℕ) (parts : ℕ → List (List ℕ)) (count n₀ : ℕ) (out₀ : List ℕ) (n : ℕ) (out : List ℕ) (i : ℕ) : Type 0 where
  pub within : i ≤ count
  pub room : n ≤ length out
  pub long : length out ≡ length out₀
  pub stand : (old : List ℕ) → Written label n₀ old out₀ → WrittenAll (label ∷ parts i) n old out

module _ (label : List ℕ) (parts : ℕ → List (List ℕ)) (count n₀ : ℕ) (out₀ : List ℕ) where
  pub list-start : [] ≡ parts 0 → n₀ ≤ length out₀ → Listed label parts count n₀ out₀ n₀ out₀ 0
  list-start e h =
      record {
        within = zero-le;
        room = h;
        long = refl;
        stand = λ old w. all-as (label ∷ []) _ n₀ old out₀ (ap (λ (ts : List (List ℕ)). label ∷ ts) e) (written_one label n₀ old out₀ w);
      }

  module _ (n i : ℕ) (out : List ℕ) (l : Listed label parts count n₀ out₀ n out i) where
    -- one element more: its parts were written to the part `&mut out[n..]`
    pub list-next :
        (m : ℕ) (ts : List (List ℕ)) (part : List ℕ) → i < count → parts i ++ ts ≡ parts (i + 1) → length part ≡ length (mid_of n (length out - n) out)
        → WrittenAll ts m (mid_of n (length out - n) out) part → Listed label parts count n₀ out₀ (n + m) (put_mid n (length out - n) out part) (i + 1)
    list-next m ts part h e k w =
        let same : length (put_mid n (length out - n) out part) ≡ length out = same_len_mid n (length out - n) out part k in
        let left : length (mid_of n (length out - n) out) ≡ length out - n = length-take-le (length out - n) (drop n out) (rw length-drop (omega arith)) in
        record {
          within = omega arith;
          room = omega (arith, l.room, w.within);
          long = same ∙ l.long;
          stand = λ old first.
              all-as ((label ∷ parts i) ++ ts) _ (n + m) old (put_mid n (length out - n) out part) (ap (λ (us : List (List ℕ)). label ∷ us) e)
              (written-more (label ∷ parts i) ts n m (length out - n) old out part (l.stand old first) refl w);
        }

    pub list-end : (old : List ℕ) → count ≤ i → Written label n₀ old out₀ → WrittenAll (label ∷ parts count) n old out
    list-end old h first =
        let e : i ≡ count = omega (arith, l.within) in
        all-as (label ∷ parts i) (label ∷ parts count) n old out (ap (λ (j : ℕ). label ∷ parts j) e) (l.stand old first)

-- ---- the parts of one element more

module _ {A : Type 0} (items : List A) (i : ℕ) (d : A) (h : i < length items) where
  take_next : take i items ++ (get_or items i d ∷ []) ≡ take (i + 1) items
  take_next = rw add-one (sym (take-suc items i d h))

-- a part for each, by its number
pub by-number : {A : Type 0} (label : List ℕ) (text : ℕ → List ℕ) (number : A → ℕ) (xs : List A) {n : ℕ} {old new : List ℕ}
    → WrittenAll (label ∷ map (λ x. text (number x)) xs) n old new → WrittenAll (label ∷ map text (map number xs)) n old new
by-number label text number xs {n} {old} {new} w =
    all-as _ _ n old new (ap (λ (ts : List (List ℕ)). label ∷ ts) (sym (map-map text number xs))) w

-- the list that a method handed out
pub list-of : {A : Type 0} {label : List ℕ} (text : A → List ℕ) {xs ys : List A} {n : ℕ} {old new : List ℕ}
    → xs ≡ ys → WrittenAll (label ∷ map text xs) n old new → WrittenAll (label ∷ map text ys) n old new
list-of {A} {label} text {xs} {ys} {n} {old} {new} e w = all-as _ _ n old new (ap (λ (l : List A). label ∷ map text l) e) w

each_append : {A : Type 0} (f : A → List (List ℕ)) (xs ys : List A) → each f (xs ++ ys) ≡ each f xs ++ each f ys
unfolding each
each_append f [] ys = refl
each_append f (x ∷ xs) ys = rw (each_append f xs ys, append_assoc)

each-one : {A : Type 0} (f : A → List (List ℕ)) (x : A) → each f (x ∷ []) ≡ f x
unfolding each
each-one f x = append-nil (f x)

-- several parts for each
pub each_next : {A : Type 0} (items : List A) (i : ℕ) (d : A) → i < length items
    → (f : A → List (List ℕ)) → each f (take i items) ++ f (get_or items i d) ≡ each f (take (i + 1) items)
each_next items i d h f =
    ap (λ (ts : List (List ℕ)). each f (take i items) ++ ts) (sym (each-one f (get_or items i d)))
    ∙ sym (each_append f (take i items) (get_or items i d ∷ []))
    ∙ ap (each f) (take_next items i d h)
