-- The place of an extension's "no", by what the code asks of it, and the walk over the extensions. Assumes nothing.
use Prim.Native.Nat.{ℕ, zero, suc, ◌+◌, ◌-◌, ◌%◌, ◌≤◌, ◌<◌}
use mathlib.Core.Path.{◌≡◌, refl, sym, ap, ◌∙◌}
use mathlib.Core.Bool.{Bool, true, false, cond, ◌||◌}
use mathlib.Core.List.{List, [], ◌∷◌, ◌++◌, map, map-append}
use mathlib.Core.Option.{Option, none, some}
use native.Mathlib.Nat.{sub-zero}
use native.Mathlib.Numerals.{add-one}
use native.Mathlib.Omega.{arith}
use lib.ListN.{length, take, drop, set, get_or, replicate, length-append, length-drop, length-replicate, length-set, get_or-replicate, drop_of_length-le}
use lib.Seq.{drop-cons, take-suc-set, length-take-le}
use lib.Dec.{eqb}
use borrow.Author.Tests.{eq-eqb, ne_eqb}
use Rattle.wire.specs.Answer.{refused}
use Rattle.wire.specs.Sums.{member}
use Rattle.wire.specs.Stops.{Stopped, stopped}
use Rattle.fingerprint_bodies.specs.Body.{Kind, kind}
use Rattle.fingerprint_bodies.specs.Code.{asked}
use Rattle.fingerprint_parameters.specs.Code.{Marked}
use Rattle.fingerprint.specs.ClientHello.{Extension, type_of}
use Rattle.fingerprint.specs.Reader.{one_extension, extension}
use Rattle.fingerprint.specs.Code.{HeaderFound, StepFound, Gained}
use Rattle.fingerprint_stops.specs.Stops.{broken, past, repeated_at, in_body, body_place, extension_place, stop_or, walk_stops}

-- ---- a body: n is the number of its first "no"

module _ (k : Kind) (bs : List ℕ) where
  pub place-empty : length bs ≡ 0 → 0 ≡ body_place k bs
  unfolding body_place
  place-empty e = rw (eq-eqb (length bs) 0 e)

  pub place-good : 0 ≡ asked k bs → 0 ≡ body_place k bs
  unfolding body_place
  place-good e = rw (← e) (go (eqb (length bs) 0) (4 + in_body k bs))
    where
      go : (b : Bool) (m : ℕ) → 0 ≡ cond (b || true) 0 m
      go true m = refl
      go false m = refl

  module _ (there : length bs ≡ 0 → ⊥) where
    pub place-broken : 21 ≡ asked k bs → 4 + broken k bs ≡ body_place k bs
    unfolding body_place in_body
    place-broken e = rw (ne_eqb (length bs) 0 there, ← e)

    pub place-repeated : 22 ≡ asked k bs → 4 + repeated_at bs ≡ body_place k bs
    unfolding body_place in_body
    place-repeated e = rw (ne_eqb (length bs) 0 there, ← e)

    pub place-past : (n : ℕ) → n ≡ asked k bs → (n ≡ 0 → ⊥) → (n ≡ 21 → ⊥) → (n ≡ 22 → ⊥) → 4 + past k bs ≡ body_place k bs
    unfolding body_place in_body
    place-past n e a b c = rw (ne_eqb (length bs) 0 there, ← e, ne_eqb n 0 a, ne_eqb n 21 b, ne_eqb n 22 c)

-- ---- an extension

pub place-cut : (known bs : List ℕ) → one_extension bs ≡ none → 0 ≡ extension_place known (one_extension bs)
place-cut known bs e = rw e

module _ {h : List ℕ} {at t start end : ℕ} (known : List ℕ) (f : HeaderFound h at t start end) where
  pub place-known : member t known ≡ true → 0 ≡ extension_place known (one_extension (drop at h))
  place-known m = rw (f.is, m)

  pub place_inside : member t known ≡ false → body_place (kind t) (take (end - start) (drop start h)) ≡ extension_place known (one_extension (drop at h))
  place_inside m = rw (f.is, m)

-- ---- the walk

-- all marks are set
pub all-marked : (l : List ℕ) → Marked (replicate 64 true) l
all-marked l x m = get_or-replicate 64 (x % 64) true false (omega arith)

-- the walk from a place on, after the extensions that were found
unfoldable pub onward : List ℕ → ℕ → List Extension → ℕ → Option Stopped
onward h block found at = walk_stops (length (drop block h) - length found) at found (drop at h)

-- the state before each extension
pub record Stopping (h : List ℕ) (block at count : ℕ) (types ids : List ℕ) : Type 0 where
  pub found : List Extension
  pub is : walk_stops (length (drop block h)) block [] (drop block h) ≡ onward h block found at
  pub forward : length found + block ≤ at
  pub inside : at ≤ length h
  pub count-is : count ≡ length found
  pub few : count ≤ 64
  pub types_are : take count types ≡ map type_of found
  pub types_long : length types ≡ 64
  pub ids-long : length ids ≡ 64

pub stopping-start : (h : List ℕ) (block : ℕ) → block ≤ length h → Stopping h block block 0 (replicate 64 0) (replicate 64 0)
unfolding onward
stopping-start h block l =
    record {
      found = [];
      is = rw (sub-zero (length (drop block h)));
      forward = omega arith;
      inside = l;
      count-is = refl;
      few = omega arith;
      types_are = refl;
      types_long = length-replicate {A = ℕ} 64 0;
      ids-long = length-replicate {A = ℕ} 64 0;
    }

walk-nil : (f at : ℕ) (done : List Extension) → walk_stops f at done [] ≡ none
unfolding walk_stops
walk-nil zero at done = refl
walk-nil (suc f) at done = refl

module _ {h : List ℕ} {block at count : ℕ} {types ids : List ℕ} (w : Stopping h block at count types ids) where
  pub has_room : length (take count types) < 64 → count < 64
  has_room l = omega (arith, l, length-take-le count types (omega (arith, w.few, w.types_long)))

  pub stopping-end : length h ≤ at → none ≡ walk_stops (length (drop block h)) block [] (drop block h)
  unfolding onward
  stopping-end l = sym (w.is ∙ rw (drop_of_length-le h {i = at} l) (walk-nil (length (drop block h) - length w.found) at w.found))

  module _ (l : at < length h) where
    abbrev fuel : ℕ
    fuel = length (drop block h) - (length w.found + 1)

    burn : length (drop block h) - length w.found ≡ suc fuel
    burn = omega (arith, length-drop block h, w.forward)

    here : drop at h ≡ get_or h at 0 ∷ drop (suc at) h
    here = drop-cons h at 0 l

    turn : onward h block w.found at
        ≡ stop_or at (extension_place (map type_of w.found) (one_extension (drop at h))) (extension w.found (drop at h))
        (λ e. walk_stops fuel (at + (length (drop at h) - length e.rest)) (w.found ++ (e.value ∷ [])) e.rest)
    unfolding onward walk_stops
    turn = rw (burn, here)

    pub stopping-stop : (n place : ℕ) → ((done : List Extension) → map type_of done ≡ take count types → extension done (drop at h) ≡ refused n)
        → place ≡ extension_place (take count types) (one_extension (drop at h))
        → some (stopped n (at + place)) ≡ walk_stops (length (drop block h)) block [] (drop block h)
    stopping-stop n place s e =
        sym (w.is ∙ turn ∙ rw (s w.found (sym w.types_are), ← w.types_are, e))

    module _ {t start end : ℕ} {k : Kind} (s : StepFound h at t k start end (take count types)) {n : ℕ} {old new : List ℕ}
        (g : Gained (kind t) (take (end - start) (drop start h)) n old new) where
      abbrev next : Extension
      next = record { type = t; body = s.found }

      room : count < 64
      room = has_room s.room

      after : at + (length (drop at h) - length (drop end h)) ≡ end
      after = omega (arith, length-drop at h, length-drop end h, s.after-header, s.forward, s.inside)

      more : length (w.found ++ (next ∷ [])) ≡ length w.found + 1
      more = length-append w.found (next ∷ [])

      onward-next : onward h block w.found at ≡ onward h block (w.found ++ (next ∷ [])) end
      unfolding onward
      onward-next = turn ∙ rw (s.is w.found (sym w.types_are), after, more)

      pub stopping-next : Stopping h block end (count + 1) (set types count t) new
      stopping-next =
          record {
            found = w.found ++ (next ∷ []);
            is = w.is ∙ onward-next;
            forward = omega (arith, more, w.forward, s.after-header, s.forward);
            inside = s.inside;
            count-is = omega (arith, more, w.count-is);
            few = omega (arith, room);
            types_are =
                rw (add-one count) (take-suc-set types count t (omega (arith, room, w.types_long)))
                ∙ ap (λ (ts : List ℕ). ts ++ (t ∷ [])) w.types_are
                ∙ sym (map-append type_of w.found (next ∷ []));
            types_long = length-set types count t ∙ w.types_long;
            ids-long = g.size;
          }
