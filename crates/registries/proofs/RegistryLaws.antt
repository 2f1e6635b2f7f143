-- What holds of a registry, and the tests that each of the six tables passes. Assumes nothing.
use Rattle.std.specs.Prelude.{Option, Some, None}
use Rattle.std.specs.List.{find}
use Rattle.std.specs.Option.{is_some, unwrap_or}
use Prim.Native.Nat.{ℕ, zero, suc, ◌+◌, ◌-◌, ◌≤◌, ◌<◌}
use mathlib.Core.Path.{◌≡◌, refl, sym, ap, ◌∙◌}
use mathlib.Core.Bool.{Bool, true, false, not, cond, true≢false}
use mathlib.Core.List.{List, [], ◌∷◌, map}
use native.Mathlib.Nat.{le_of_suc-le-suc, not-suc-le-zero}
use native.Mathlib.Nat.{zero-add}
use native.Mathlib.Decide.{ℕ_discrete}
use native.Mathlib.Omega.{arith}
use lib.ListN.{length, get_or}
use lib.Dec.{ltb, eqb}
use borrow.Author.Tests.{ltb-true, lt-ltb, le-ltb, eq-eqb, ne_eqb}
use Rattle.wire.specs.Sums.{any, member}
use Rattle.wire.proofs.SumLaws.{and_left, and_right, member-nil}
use Rattle.script.specs.Scan.{space, distance, find_of}
use Rattle.script.specs.Words.{Word, word_from, word_of, is_there, has_operands}
use Rattle.registries.specs.Registry.{texts, word, place_of, spare_words, name_in, rises, is_table}
use Rattle.registries.specs.Tables.{suites, suite_names, groups, group_names, algorithms, algorithm_names, types, type_names}
use Rattle.registries.specs.Tables.{versions, version_names, parameters, parameter_names}
use Rattle.registries.specs.Tables.{suite_name, group_name, algorithm_name, type_name, version_name, parameter_name}
use Rattle.registries.specs.Names.{numbers_of, names_of, name_of, Entry, places, Tabled}
use Rattle.registries.specs.declared.Registry.{Registry}
use Rattle.registries.specs.declared.Registry.TheVariants as registry

-- ---- a name, by the number's place

module _ (numbers names : List ℕ) (spare v k : ℕ) (place : k ≡ place_of v numbers) where
  pub name-there : k < length numbers → name_in numbers names spare v ≡ word names k
  unfolding name_in
  name-there h = rw (← place, lt-ltb k (length numbers) h)

  pub name-missing : length numbers ≤ k → name_in numbers names spare v ≡ word spare_words spare
  unfolding name_in
  name-missing h = rw (← place, le-ltb k (length numbers) h)

-- ---- a number that is not there has no place

place_here : (n v : ℕ) (ns : List ℕ) → n ≡ v → place_of v (n ∷ ns) ≡ 0
unfolding place_of distance
place_here n v ns e = rw (eq-eqb n v e)

place-next : (n v : ℕ) (ns : List ℕ) → (n ≡ v → ⊥) → place_of v (n ∷ ns) ≡ suc (place_of v ns)
unfolding place_of distance
place-next n v ns q = rw (ne_eqb n v q)

member-here : (n v : ℕ) (ns : List ℕ) → n ≡ v → member v (n ∷ ns) ≡ true
unfolding member any
member-here n v ns e = rw (eq-eqb v n (sym e))

member-next : (n v : ℕ) (ns : List ℕ) → (n ≡ v → ⊥) → member v (n ∷ ns) ≡ member v ns
unfolding member any
member-next n v ns q = rw (ne_eqb v n (λ e. q (sym e)))

place_none : (v : ℕ) → place_of v [] ≡ 0
unfolding place_of distance
place_none v = refl

pub missing : (v : ℕ) (numbers : List ℕ) → member v numbers ≡ false → place_of v numbers ≡ length numbers
missing v [] h = place_none v
missing v (n ∷ ns) h = go (λ k. missing v ns k) (ℕ_discrete n v)
  where
    go : (member v ns ≡ false → place_of v ns ≡ length ns) → Dec (n ≡ v) → place_of v (n ∷ ns) ≡ suc (length ns)
    go ih (yes e) = absurd (true≢false (rw (member-here n v ns e) at h))
    go ih (no q) = rw (place-next n v ns q) (ap suc (ih (rw (member-next n v ns q) at h)))

pub not-member : (v : ℕ) (numbers : List ℕ) → place_of v numbers ≡ length numbers → member v numbers ≡ false
not-member v [] h = member-nil v
not-member v (n ∷ ns) h = go (λ k. not-member v ns k) (ℕ_discrete n v)
  where
    go : (place_of v ns ≡ length ns → member v ns ≡ false) → Dec (n ≡ v) → member v (n ∷ ns) ≡ false
    go ih (yes e) = absurd (omega (arith, rw (place_here n v ns e) at h))
    go ih (no q) = rw (member-next n v ns q) (ih (omega (arith, rw (place-next n v ns q) at h)))

-- ---- in a table that rises each number is found at its own place

rises-on : (n : ℕ) (ns : List ℕ) → rises (n ∷ ns) ≡ true → rises ns ≡ true
unfolding rises
rises-on n [] r = refl
rises-on n (m ∷ ns) r = and_right (ltb n m) (rises (m ∷ ns)) r

rises-above : (n : ℕ) (ns : List ℕ) (i : ℕ) → rises (n ∷ ns) ≡ true → i < length ns → n < get_or ns i 0
unfolding rises
rises-above n [] i r h = absurd (not-suc-le-zero h)
rises-above n (m ∷ ns) zero r h = ltb-true n m (and_left (ltb n m) (rises (m ∷ ns)) r)
rises-above n (m ∷ ns) (suc i) r h =
    let first : n < m = ltb-true n m (and_left (ltb n m) (rises (m ∷ ns)) r) in
    let later : m < get_or ns i 0 = rises-above m ns i (and_right (ltb n m) (rises (m ∷ ns)) r) (le_of_suc-le-suc h) in
    omega arith

pub found : (numbers : List ℕ) → rises numbers ≡ true → (i : ℕ) → i < length numbers → place_of (get_or numbers i 0) numbers ≡ i
found [] r i h = absurd (not-suc-le-zero h)
found (n ∷ ns) r zero h = place_here n n ns refl
found (n ∷ ns) r (suc i) h =
    let above : n < get_or ns i 0 = rises-above n ns i r (le_of_suc-le-suc h) in
    rw (place-next n (get_or ns i 0) ns (λ e. omega arith)) (ap suc (found ns (rises-on n ns r) i (le_of_suc-le-suc h)))

-- ---- and has a word of its own

there-before : (line : List ℕ) (k at : ℕ) → is_there (word_from line (suc k) at) ≡ true → is_there (word_from line k at) ≡ true
unfolding word_from
there-before line zero at h = refl
there-before line (suc k) at h =
    go (word_from line (suc k) next) (word_from line k next) (there-before line k next) (ltb (find_of line at space) (length line)) h
  where
    next : ℕ
    next = find_of line at space + 1

    go : (a b : Option Word) → (is_there a ≡ true → is_there b ≡ true) → (t : Bool) → is_there (cond t a None) ≡ true
        → is_there (cond t b None) ≡ true
    go a b ih true h = ih h
    go a b ih false h = h

all_there : (line : List ℕ) (n k : ℕ) → k ≤ n → is_there (word_of line n) ≡ true → is_there (word_of line k) ≡ true
unfolding word_of
all_there line zero k l h = let e : k ≡ 0 = omega arith in rw e h
all_there line (suc n) k l h = go (λ m. all_there line n k m (there-before line n 0 h)) (ℕ_discrete k (suc n))
  where
    go : (k ≤ n → is_there (word_of line k) ≡ true) → Dec (k ≡ suc n) → is_there (word_of line k) ≡ true
    go ih (yes e) = rw e h
    go ih (no q) = ih (omega arith)

module _ (numbers names : List ℕ) (t : is_table numbers names ≡ true) (i : ℕ) (h : i < length numbers) where
  pub has_word : is_there (word_of names i) ≡ true
  unfolding is_table has_operands
  has_word =
      let n : ℕ = length numbers - 1 in
      let last : is_there (word_of names n) ≡ true =
      and_left (is_there (word_of names n)) (not (is_there (word_of names (n + 1)))) (and_right (rises numbers) (has_operands names n) t) in
      all_there names n i (omega arith) last

  pub named : (spare : ℕ) → name_in numbers names spare (get_or numbers i 0) ≡ word names i
  unfolding is_table
  named spare =
      let place = found numbers (and_left (rises numbers) (has_operands names (length numbers - 1)) t) i h in
      name-there numbers names spare (get_or numbers i 0) i (sym place) h

-- ---- the six tables

pub rising-tables :
    (is_table suites suite_names ≡ true)
    × (is_table groups group_names ≡ true)
    × (is_table algorithms algorithm_names ≡ true)
    × (is_table types type_names ≡ true)
    × (is_table versions version_names ≡ true)
    × (is_table parameters parameter_names ≡ true)
unfolding
    suites suite_names groups group_names algorithms algorithm_names types type_names versions version_names parameters parameter_names
    texts is_table rises has_operands word_of word_from find_of distance
rising-tables = (refl, refl, refl, refl, refl, refl)

-- what a registry calls a number, by its table
pub name-in-table : (r : Registry) (spare v : ℕ) → name_in (numbers_of r) (names_of r) spare v ≡ name_of r spare v
unfolding suite_name group_name algorithm_name type_name version_name parameter_name
name-in-table registry.Suites spare v = refl
name-in-table registry.Groups spare v = refl
name-in-table registry.Algorithms spare v = refl
name-in-table registry.Types spare v = refl
name-in-table registry.Versions spare v = refl
name-in-table registry.Parameters spare v = refl

-- ---- a name beside its number

abbrev numbers_in : List Entry → List ℕ
numbers_in es = map (λ (e : Entry). e.0) es

abbrev names_in : List Entry → List (List ℕ)
names_in es = map (λ (e : Entry). e.1.now) es

numbers-long : (es : List Entry) → length (numbers_in es) ≡ length es
numbers-long [] = refl
numbers-long (e ∷ es) = ap suc (numbers-long es)

-- the entry that the library finds stands at the number's place
entry-at : (v : ℕ) (es : List Entry) (e : Entry) → find (λ (x : Entry). eqb x.0 v) es ≡ Some e
    → (place_of v (numbers_in es) < length es) × (get_or (names_in es) (place_of v (numbers_in es)) [] ≡ e.1.now)
entry-at v [] e h = absurd (true≢false (ap is_some (sym h)))
entry-at v (x ∷ es) e h = go (λ k. entry-at v es e k) (ℕ_discrete x.0 v)
  where
    go : (find (λ (y : Entry). eqb y.0 v) es ≡ Some e
        → (place_of v (numbers_in es) < length es) × (get_or (names_in es) (place_of v (numbers_in es)) [] ≡ e.1.now))
        → Dec (x.0 ≡ v)
        → (place_of v (numbers_in (x ∷ es)) < length (x ∷ es)) × (get_or (names_in (x ∷ es)) (place_of v (numbers_in (x ∷ es))) [] ≡ e.1.now)
    go ih (yes q) =
        let same : x ≡ e = ap (λ (o : Option Entry). unwrap_or o x) (rw (eq-eqb x.0 v q) at h) in
        rw (place_here x.0 v (numbers_in es) q) (omega arith, ap (λ (y : Entry). y.1.now) same)
    go ih (no q) =
        let more = ih (rw (ne_eqb x.0 v q) at h) in
        rw (place-next x.0 v (numbers_in es) q) (omega (arith, more.0), more.1)

no-entry : (v : ℕ) (es : List Entry) → find (λ (x : Entry). eqb x.0 v) es ≡ None → place_of v (numbers_in es) ≡ length es
no-entry v [] h = place_none v
no-entry v (x ∷ es) h = go (λ k. no-entry v es k) (ℕ_discrete x.0 v)
  where
    go : (find (λ (y : Entry). eqb y.0 v) es ≡ None → place_of v (numbers_in es) ≡ length es) → Dec (x.0 ≡ v)
        → place_of v (numbers_in (x ∷ es)) ≡ suc (length es)
    go ih (yes q) = absurd (true≢false (ap is_some (rw (eq-eqb x.0 v q) at h)))
    go ih (no q) = rw (place-next x.0 v (numbers_in es) q) (ap suc (ih (rw (ne_eqb x.0 v q) at h)))

at-place : (f : ℕ → List ℕ) (n from k : ℕ) → k < n → get_or (map f (places n from)) k [] ≡ f (from + k)
at-place f zero from k h = absurd (omega (arith, h))
at-place f (suc n) from zero h = ap f (omega arith)
at-place f (suc n) from (suc k) h = at-place f n (suc from) k (omega (arith, h)) ∙ ap f (omega arith)

module _ (r : Registry) (es : List Entry) (t : Tabled (numbers_of r) (names_of r) es) (spare v : ℕ) where
  long : length (numbers_of r) ≡ length es
  long = ap length (sym t.numbers_are) ∙ numbers-long es

  pub entry-name : (e : Entry) → find (λ (x : Entry). eqb x.0 v) es ≡ Some e → e.1.now ≡ name_of r spare v
  entry-name e h =
      let found = entry-at v es e h in
      let place : place_of v (numbers_in es) ≡ place_of v (numbers_of r) = ap (place_of v) t.numbers_are in
      let k : ℕ = place_of v (numbers_in es) in
      let there : k < length (numbers_of r) = rw long found.0 in
      sym found.1
      ∙ ap (λ (l : List (List ℕ)). get_or l k []) (sym t.names_are)
      ∙ at-place (word (names_of r)) (length es) 0 k found.0
      ∙ ap (word (names_of r)) (zero-add k)
      ∙ sym (name-there (numbers_of r) (names_of r) spare v k place there)
      ∙ name-in-table r spare v

  pub no-name : find (λ (x : Entry). eqb x.0 v) es ≡ None → word spare_words spare ≡ name_of r spare v
  no-name h =
      let place : length es ≡ place_of v (numbers_of r) = sym (no-entry v es h) ∙ ap (place_of v) t.numbers_are in
      sym (name-missing (numbers_of r) (names_of r) spare v (length es) place (omega (arith, long))) ∙ name-in-table r spare v
