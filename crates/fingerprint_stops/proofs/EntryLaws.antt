-- Entries of a body passed over one by one, as the code does it. Assumes nothing.
use Prim.Native.Nat.{ℕ, zero, suc, ◌+◌, ◌-◌, ◌≤◌, ◌<◌}
use mathlib.Core.Path.{◌≡◌, refl, sym, ap, ◌∙◌, subst}
use mathlib.Core.Bool.{true, false}
use mathlib.Core.List.{List, []}
use mathlib.Core.Option.{Option, none, some}
use native.Mathlib.Nat.{sub-zero}
use native.Mathlib.Omega.{arith}
use lib.ListN.{length, drop, length-drop, drop_of_length-le}
use lib.Seq.{drop-drop}
use borrow.Author.Tests.{lt-leb, le-leb, eq-eqb, ne_eqb, lt-ltb, le-ltb}
use Rattle.varint.specs.Varint.{class_at, read_of}
use Rattle.fingerprint_bodies.specs.Entries.{Entry, entry, bind, vector_at, number_at}
use Rattle.fingerprint_bodies.specs.Body.{Kind, name, groups, algorithms, protocols, versions, shares, parameters, other}
use Rattle.fingerprint_bodies.specs.Forms.{one_name, one_share, varint_at, one_parameter}
use Rattle.fingerprint_bodies.specs.declared.Prefix.{Prefix}
use Rattle.fingerprint_bodies.specs.declared.Prefix.TheVariants as one
use Rattle.fingerprint_bodies.specs.Code.{prefix_bytes, is_whole, NameFound, ShareFound}
use Rattle.fingerprint_parameters.specs.Code.{ParameterFound}
use Rattle.fingerprint.specs.Code.{meant}
use Rattle.fingerprint.specs.declared.walk.Kind as code
use Rattle.fingerprint_stops.specs.Stops.{size_of, word_size, entry_size, passed, list_at, broken, most, past}
use Rattle.std.specs.Prelude as std
use Rattle.fingerprint_stops.specs.Code.{SizeAs}

-- ---- one entry

module _ (bs : List ℕ) where
  pub size-there : {A : Type 0} (x : Option (Entry A)) (v : A) (used : ℕ) → used ≤ length bs → x ≡ some (entry v (drop used bs)) → used ≡ size_of bs x
  size-there x v used h e = rw e (omega (arith, h, length-drop used bs))

  size-cut : {A : Type 0} (x : Option (Entry A)) → x ≡ none → 0 ≡ size_of bs x
  size-cut x e = rw e

  pub word-short : length bs < 2 → 0 ≡ word_size bs
  unfolding word_size
  word-short h = rw (lt-leb 2 (length bs) h)

  pub word-there : 2 ≤ length bs → 2 ≡ word_size bs
  unfolding word_size
  word-there h = rw (le-leb 2 (length bs) h)

  pub name-size : (n : ℕ) → NameFound bs n → 1 + n ≡ entry_size protocols bs
  unfolding entry_size
  name-size n f = size-there (one_name bs) _ (1 + n) f.within f.is

  pub name-none : one_name bs ≡ none → 0 ≡ entry_size protocols bs
  unfolding entry_size
  name-none e = size-cut (one_name bs) e

  pub share-size : (group used : ℕ) → ShareFound bs group used → used ≡ entry_size shares bs
  unfolding entry_size
  share-size group used f = size-there (one_share bs) f.found used f.within f.is

  pub share-none : one_share bs ≡ none → 0 ≡ entry_size shares bs
  unfolding entry_size
  share-none e = size-cut (one_share bs) e

  pub parameter-size : (id used : ℕ) → ParameterFound bs id used → used ≡ entry_size parameters bs
  unfolding entry_size
  parameter-size id used f = size-there (one_parameter bs) f.found used f.within f.is

  pub parameter-none : one_parameter bs ≡ none → 0 ≡ entry_size parameters bs
  unfolding entry_size
  parameter-none e = size-cut (one_parameter bs) e

  pub groups-size : word_size bs ≡ entry_size groups bs
  unfolding entry_size
  groups-size = refl

  pub algorithms-size : word_size bs ≡ entry_size algorithms bs
  unfolding entry_size
  algorithms-size = refl

  pub versions-size : word_size bs ≡ entry_size versions bs
  unfolding entry_size
  versions-size = refl

  pub server-name-size : 0 ≡ entry_size name bs
  unfolding entry_size
  server-name-size = refl

  pub other-size : 0 ≡ entry_size other bs
  unfolding entry_size
  other-size = refl

  -- by the kind that the code names
  pub size-as : (c : code.Kind) (r : std.Option ℕ) (k : Kind) (n : ℕ) → meant c ≡ k → n ≡ entry_size k bs → SizeAs r n → SizeAs r (entry_size (meant c) bs)
  size-as c r k n e q s = subst (λ (m : ℕ). SizeAs r m) (q ∙ ap (λ (k : Kind). entry_size k bs) (sym e)) s

-- ---- n entries, of which k were passed over and the next is at a place

module _ (kind : Kind) (l : List ℕ) where
  pub passed_start : (n : ℕ) → passed kind n l ≡ 0 + passed kind (n - 0) (drop 0 l)
  passed_start n = rw (sub-zero n) (omega arith)

  module _ (n k at : ℕ) where
    pub passed-end : n ≤ k → passed kind (n - k) (drop at l) ≡ 0
    unfolding passed
    passed-end h = let z : n - k ≡ 0 = omega arith in rw z

    module _ (h : k < n) where
      fuel : n - k ≡ suc (n - (k + 1))
      fuel = omega arith

      pub passed_none : 0 ≡ entry_size kind (drop at l) → passed kind (n - k) (drop at l) ≡ 0
      unfolding passed
      passed_none e = rw (fuel, ← e)

      pub passed-next : (size : ℕ) → (size ≡ 0 → ⊥) → size ≡ entry_size kind (drop at l)
          → passed kind (n - k) (drop at l) ≡ size + passed kind (n - (k + 1)) (drop (at + size) l)
      unfolding passed
      passed-next size o e = rw (fuel, ← e, ne_eqb size 0 o, drop-drop size at l)

entry-nil : (k : Kind) → entry_size k [] ≡ 0
unfolding entry_size word_size one_name one_share one_parameter bind vector_at number_at varint_at read_of class_at
entry-nil name = refl
entry-nil groups = refl
entry-nil algorithms = refl
entry-nil protocols = refl
entry-nil versions = refl
entry-nil shares = refl
entry-nil parameters = refl
entry-nil other = refl

passed-nil : (k : Kind) (n : ℕ) → passed k n [] ≡ 0
unfolding passed
passed-nil k zero = refl
passed-nil k (suc n) = rw (entry-nil k)

-- ---- what stands before a list

pub prefix-some : (p : Prefix) → 1 ≤ prefix_bytes p
prefix-some one.OneByte = omega arith
prefix-some one.TwoBytes = omega arith

pub list_at-small : (k : Kind) → list_at k ≤ 2
unfolding list_at
list_at-small name = omega arith
list_at-small groups = omega arith
list_at-small algorithms = omega arith
list_at-small protocols = omega arith
list_at-small versions = omega arith
list_at-small shares = omega arith
list_at-small parameters = omega arith
list_at-small other = omega arith

pub list-other : (k : Kind) → (k ≡ name → ⊥) → (k ≡ groups → ⊥) → (k ≡ algorithms → ⊥) → (k ≡ protocols → ⊥) → (k ≡ versions → ⊥) → (k ≡ shares → ⊥) → 0 ≡ list_at k
unfolding list_at
list-other name a b c d e f = absurd (a refl)
list-other groups a b c d e f = absurd (b refl)
list-other algorithms a b c d e f = absurd (c refl)
list-other protocols a b c d e f = absurd (d refl)
list-other versions a b c d e f = absurd (e refl)
list-other shares a b c d e f = absurd (f refl)
list-other parameters a b c d e f = refl
list-other other a b c d e f = refl

-- ---- its most

pub most_other : (k : Kind) → (k ≡ protocols → ⊥) → 64 ≡ most k
unfolding most
most_other name h = refl
most_other groups h = refl
most_other algorithms h = refl
most_other protocols h = absurd (h refl)
most_other versions h = refl
most_other shares h = refl
most_other parameters h = refl
most_other other h = refl

-- ---- a body; its list begins after `width` bytes

module _ (k : Kind) (bs : List ℕ) (width : ℕ) (is : width ≡ list_at k) where
  pub broken-list : width ≡ 0 → passed k (length bs) bs ≡ broken k bs
  unfolding broken
  broken-list e = rw (← is, eq-eqb width 0 e)

  module _ (o : width ≡ 0 → ⊥) where
    pub broken-entries : is_whole width bs ≡ true → width < length bs → width + passed k (length bs) (drop width bs) ≡ broken k bs
    unfolding broken
    broken-entries w l = rw (← is, ne_eqb width 0 o, w, lt-ltb width (length bs) l)

    pub broken-empty : is_whole width bs ≡ true → length bs ≤ width → 0 ≡ broken k bs
    unfolding broken
    broken-empty w l = rw (← is, ne_eqb width 0 o, w, le-ltb width (length bs) l)

    pub broken-length : is_whole width bs ≡ false → 0 ≡ broken k bs
    unfolding broken
    broken-length w = rw (← is, ne_eqb width 0 o, w)

  pub past-short : length bs < width → width ≡ past k bs
  unfolding past
  past-short h = rw (← is, drop_of_length-le bs {i = width} (omega arith), passed-nil k (most k)) (omega arith)

  pub past-there : (n : ℕ) → n ≡ most k → width + passed k n (drop width bs) ≡ past k bs
  unfolding past
  past-there n e = rw (← is, ← e)
