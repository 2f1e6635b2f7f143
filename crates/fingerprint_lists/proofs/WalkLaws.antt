-- Loops over the entries of a list that was found: what stands in the array, and what is still to come. Assumes nothing.
use Prim.Native.Nat.{ℕ, suc, ◌+◌, ◌≤◌}
use mathlib.Core.Path.{◌≡◌, refl, ap, ◌∙◌}
use mathlib.Core.List.{List, [], ◌∷◌, map}
use mathlib.Core.Option.{Option}
use native.Mathlib.Omega.{arith}
use lib.ListN.{length, length-map}
use Rattle.std.specs.Prelude.{Some, None}
use Rattle.fingerprint_bodies.specs.Entries.{Entry, or_empty, all_entries, front_entries, shown}
use Rattle.fingerprint_bodies.specs.Forms.{one_name, one_share, group_of}
use Rattle.fingerprint_bodies.specs.Code.{Found, Gives}
use Rattle.fingerprint_bodies.proofs.OneLaws.{name-takes}
use Rattle.fingerprint_bodies.proofs.YieldLaws.{Holds, holds, front-shown, HoldsNext, holds-next, holds-end}
use Rattle.fingerprint_lists.specs.declared.Span.{Span}
use Rattle.fingerprint_lists.specs.Arrays.{span, span_of, placed}

-- ---- key shares, shown as their groups

abbrev pub share_groups : List ℕ → List ℕ
share_groups l = map group_of (or_empty (all_entries one_share l))

abbrev pub share_form : List ℕ → Option (Entry ℕ)
share_form = shown group_of one_share

module _ (l : List ℕ) (f : Found 64 (all_entries one_share l)) where
  pub front-groups : front_entries share_form l ≡ share_groups l
  front-groups = front-shown group_of one_share l f.there

  pub groups-few : length (share_groups l) ≤ 64
  groups-few = omega (arith, f.few, length-map (or_empty (all_entries one_share l)) group_of)

-- ---- names, shown as their parts of the hello; the first byte of l stands at `start` in the hello

pub length-placed : (at : ℕ) (l : List (List ℕ)) → length (placed at l) ≡ length l
unfolding placed
length-placed at [] = refl
length-placed at (n ∷ ns) = ap suc (length-placed (at + 1 + length n) ns)

abbrev pub name_spans : ℕ → List ℕ → List Span
name_spans start l = map span_of (placed start (or_empty (all_entries one_name l)))

abbrev pub name_form : List ℕ → Option (Entry ℕ)
name_form = shown length one_name

pub spans-few : (start : ℕ) (l : List ℕ) → Found 16 (all_entries one_name l) → length (name_spans start l) ≤ 16
spans-few start l f =
    let es = or_empty (all_entries one_name l) in
    omega (arith, f.few, length-map (placed start es) span_of, length-placed start es)

-- the parts of names of these lengths, from a place on
unfoldable pub spans_at : ℕ → List ℕ → List Span
spans_at at [] = []
spans_at at (n ∷ ns) = span (at + 1) n ∷ spans_at (at + 1 + n) ns

pub spans-placed : (at : ℕ) (l : List (List ℕ)) → map span_of (placed at l) ≡ spans_at at (map length l)
unfolding placed spans_at
spans-placed at [] = refl
spans-placed at (n ∷ ns) = ap (λ (s : List Span). span (at + 1) (length n) ∷ s) (spans-placed (at + 1 + length n) ns)

-- ---- names that are read one after the other: `left` are the lengths of those in the rest, which begins at the place `at`
pub record Names (last at : ℕ) (rest left : List ℕ) : Type 0 where
  pub holds : Holds name_form rest left
  pub within : at + length rest ≤ last

module _ (start : ℕ) (l : List ℕ) (f : Found 16 (all_entries one_name l)) where
  abbrev pub lengths : List ℕ
  lengths = map length (or_empty (all_entries one_name l))

  pub spans-start : name_spans start l ≡ spans_at start lengths
  spans-start = spans-placed start (or_empty (all_entries one_name l))

  pub names-start : Names (start + length l) start l lengths
  names-start = record { holds = rw (front-shown length one_name l f.there) at (holds name_form l); within = omega arith }

module _ {last at : ℕ} {rest left : List ℕ} (w : Names last at rest left) where
  pub name-first : {n : ℕ} {new : List ℕ} → Gives name_form rest (Some n) new → HoldsNext name_form n new left
  name-first g = holds-next name_form w.holds g

  module _ {n : ℕ} {new : List ℕ} (g : Gives name_form rest (Some n) new) where
    pub name-within : at + 1 + n + length new ≤ last
    name-within = omega (arith, w.within, name-takes rest new n g.0)

    pub names-next : Names last (at + (1 + n)) new (name-first g).later
    names-next = record { holds = (name-first g).holds; within = omega (arith, name-within) }

    pub spans-next : spans_at at left ≡ span (at + 1) n ∷ spans_at (at + (1 + n)) (name-first g).later
    unfolding spans_at
    spans-next =
        let e : at + 1 + n ≡ at + (1 + n) = omega arith in
        let f = name-first g in
        ap (λ (l : List ℕ). spans_at at l) f.is ∙ ap (λ (m : ℕ). span (at + 1) n ∷ spans_at m f.later) e

  pub spans-end : {new : List ℕ} → Gives name_form rest None new → spans_at at left ≡ []
  unfolding spans_at
  spans-end g = ap (λ (l : List ℕ). spans_at at l) (holds-end name_form w.holds g)
