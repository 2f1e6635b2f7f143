-- The parameters in profile order, each with the place of its draws; shuffled; and the loops over them. Assumes nothing.
use Prim.Native.Nat.{ℕ, zero, suc, ◌+◌, ◌≤◌, ◌<◌}
use mathlib.Core.Path.{◌≡◌, refl, ◌∙◌, ap}
use mathlib.Core.List.{List, [], ◌∷◌, ◌++◌, map}
use native.Mathlib.Nat.{not-suc-le-zero, le_of_suc-le-suc, zero-lt-suc}
use native.Mathlib.Numerals.{add-one}
use native.Mathlib.Omega.{arith}
use lib.ListN.{length, take, drop, set, get_or, length-set, drop_of_length-le}
use lib.Seq.{drop-cons}
use Rattle.std.specs.List.{All}
use Rattle.wire.specs.Front.{front, Put}
use Rattle.wire.specs.Numbers.{digits}
use Rattle.wire.specs.Vectors.{extension}
use Rattle.wire.proofs.FrontLaws.{piece-length}
use Rattle.wire.proofs.Writing.{Writing, lent_from, back_from, rest-is, next-room, writes, finished, headed}
use Rattle.profiles.specs.Profile.{Parameter, grease}
use Rattle.profiles.specs.Sizes.{parameter_draws}
use Rattle.profiles.specs.Code.{parameter_of}
use Rattle.profiles.specs.declared.TpEntry.{TpEntry}
use Rattle.profiles.specs.declared.TpEntry.TheVariants as entry
use Rattle.tape.specs.Tape.{shuffle, after_shuffle}
use Rattle.tape.specs.Part.{Room}
use Rattle.tape.proofs.ShuffleLaws.{shuffle-default, shuffle-keeps, shuffle-map}
use Rattle.tls_extensions.proofs.LengthLaws.{length-extension}
use Rattle.tls_extensions.proofs.HeadLaws.{length-head, extension-is}
use Rattle.tls_parameters.specs.Parameters.{Resolved, none, resolve, resolved, after_parameters, sent_parameters, parameters, ext_quic_tp}
use Rattle.tls_parameters.specs.Writing.{resolved_bytes, AllVarints, placed_at, resolve_placed, sent_of, Placeable, ParametersRoom}
use Rattle.tls_parameters.specs.declared.Placed.{Placed}
use Rattle.tls_parameters.proofs.LengthLaws.{after-parameters}

-- ---- draws

-- a parameter's draws end before those of all
pub after-within : (ps : List Parameter) (i at : ℕ) → i < length ps
    → after_parameters (take i ps) at + parameter_draws (get_or ps i grease) ≤ after_parameters ps at
unfolding after_parameters
after-within [] i at h = absurd (not-suc-le-zero h)
after-within (p ∷ ps) zero at h = omega (arith, after-parameters ps (at + parameter_draws p))
after-within (p ∷ ps) (suc i) at h = after-within ps i (at + parameter_draws p) (le_of_suc-le-suc h)

-- each has the draws that begin after those of the parameters before it
pub resolved-at : (ps : List Parameter) (scid tape : List ℕ) (at j : ℕ) → j < length ps
    → get_or (resolved ps scid tape at) j none ≡ resolve (get_or ps j grease) scid tape (after_parameters (take j ps) at)
unfolding resolved after_parameters
resolved-at [] scid tape at j h = absurd (not-suc-le-zero h)
resolved-at (p ∷ ps) scid tape at zero h = refl
resolved-at (p ∷ ps) scid tape at (suc j) h = resolved-at ps scid tape (at + parameter_draws p) j (le_of_suc-le-suc h)

-- ---- parameters and the places of their draws

-- the parameters of a list of the code's
abbrev pub listed : List TpEntry → List Parameter
listed ps = map parameter_of ps

pub length-placed : (ps : List TpEntry) (at : ℕ) → length (placed_at ps at) ≡ length ps
unfolding placed_at
length-placed [] at = refl
length-placed (p ∷ ps) at = ap suc (length-placed ps (at + parameter_draws (parameter_of p)))

placed-resolved : (ps : List TpEntry) (scid tape : List ℕ) (at : ℕ) → sent_of (placed_at ps at) scid tape ≡ resolved (listed ps) scid tape at
unfolding placed_at resolved
placed-resolved [] scid tape at = refl
placed-resolved (p ∷ ps) scid tape at =
    ap (λ (l : List Resolved). resolve (parameter_of p) scid tape at ∷ l) (placed-resolved ps scid tape (at + parameter_draws (parameter_of p)))

placed-placeable : (ps : List TpEntry) (tape : List ℕ) (at : ℕ) → AllVarints (listed ps) → after_parameters (listed ps) at ≤ length tape
    → All (Placeable tape) (placed_at ps at)
unfolding placed_at after_parameters
placed-placeable [] tape at ok there k d h = absurd (not-suc-le-zero h)
placed-placeable (p ∷ ps) tape at ok there zero d h =
    (ok 0 (zero-lt-suc (length (listed ps))), omega (arith, after-parameters (listed ps) (at + parameter_draws (parameter_of p)), there))
placed-placeable (p ∷ ps) tape at ok there (suc k) d h =
    placed-placeable ps tape (at + parameter_draws (parameter_of p)) (λ j l. ok (suc j) (omega arith)) there k d (le_of_suc-le-suc h)

-- ---- `place_draws`: the first i parameters are placed, and the next place is the one after their draws

abbrev pub placed_with : TpEntry → ℕ → Placed
placed_with p at = record { parameter = p; at = at }

placed-next : (ps : List TpEntry) (i at : ℕ) (d : TpEntry) → i < length ps
    → placed_at (take (suc i) ps) at ≡ placed_at (take i ps) at ++ (placed_with (get_or ps i d) (after_parameters (listed (take i ps)) at) ∷ [])
unfolding placed_at after_parameters
placed-next [] i at d h = absurd (not-suc-le-zero h)
placed-next (p ∷ ps) zero at d h = refl
placed-next (p ∷ ps) (suc i) at d h =
    ap (λ (l : List Placed). placed_with p at ∷ l) (placed-next ps i (at + parameter_draws (parameter_of p)) d (le_of_suc-le-suc h))

after-next : (ps : List TpEntry) (i at : ℕ) (d : TpEntry) → i < length ps
    → after_parameters (listed (take (suc i) ps)) at ≡ after_parameters (listed (take i ps)) at + parameter_draws (parameter_of (get_or ps i d))
unfolding after_parameters
after-next [] i at d h = absurd (not-suc-le-zero h)
after-next (p ∷ ps) zero at d h = refl
after-next (p ∷ ps) (suc i) at d h = after-next ps i (at + parameter_draws (parameter_of p)) d (le_of_suc-le-suc h)

-- the draws of the first parameters end before those of all
first-within : (ps : List TpEntry) (i at : ℕ) → after_parameters (listed (take i ps)) at ≤ after_parameters (listed ps) at
unfolding after_parameters
first-within [] zero at = omega arith
first-within [] (suc i) at = omega arith
first-within (p ∷ ps) zero at = omega (arith, after-parameters (listed ps) (at + parameter_draws (parameter_of p)))
first-within (p ∷ ps) (suc i) at = first-within ps i (at + parameter_draws (parameter_of p))

take-set : {A : Type 0} (l : List A) (i : ℕ) (v : A) → i < length l → take (suc i) (set l i v) ≡ take i l ++ (v ∷ [])
take-set [] i v h = absurd (not-suc-le-zero h)
take-set (x ∷ l) zero v h = refl
take-set {A} (x ∷ l) (suc i) v h = ap (λ (m : List A). x ∷ m) (take-set l i v (le_of_suc-le-suc h))

pub record Drawn (ps : List TpEntry) (at : ℕ) (placed : List Placed) (next i : ℕ) : Type 0 where
  pub long : length placed ≡ length ps
  pub is : take i placed ≡ placed_at (take i ps) at
  pub after : next ≡ after_parameters (listed (take i ps)) at

pub drawn-none : (ps : List TpEntry) (at : ℕ) (placed : List Placed) → length placed ≡ length ps → Drawn ps at placed at 0
unfolding placed_at after_parameters
drawn-none ps at placed long = record { long = long; is = refl; after = refl }

module _ {ps : List TpEntry} {at : ℕ} {placed : List Placed} {next i : ℕ} (n : Drawn ps at placed next i) (d : TpEntry) (h : i < length ps) where
  pub drawn-more : {k : ℕ} → k ≡ parameter_draws (parameter_of (get_or ps i d))
      → Drawn ps at (set placed i (placed_with (get_or ps i d) next)) (next + k) (i + 1)
  drawn-more e =
      record {
        long = length-set placed i (placed_with (get_or ps i d) next) ∙ n.long;
        is = rw (add-one i, take-set placed i (placed_with (get_or ps i d) next) (omega (arith, h, n.long)), n.is, n.after, placed-next ps i at d h);
        after = rw (add-one i, after-next ps i at d h, e, n.after);
      }

  -- so the next sum does not overflow
  pub next-within : {k : ℕ} → k ≡ parameter_draws (parameter_of (get_or ps i d)) → next + k ≤ after_parameters (listed ps) at
  next-within e = omega (arith, e, n.after, after-next ps i at d h, first-within ps (suc i) at)

-- ---- shuffled

module _ (ps : List TpEntry) (scid tape : List ℕ) (at : ℕ) {shuffled : List Placed}
    (e : (d : Placed) → shuffled ≡ shuffle d (placed_at ps at) tape (after_parameters (listed ps) at)) where
  abbrev some : Placed
  some = placed_with entry.Grease 0

  -- what is written is what the definition sends
  pub shuffled-sent : sent_of shuffled scid tape ≡ sent_parameters (listed ps) scid tape at
  unfolding sent_parameters
  shuffled-sent =
      let f = resolve_placed scid tape in
      let t = after_parameters (listed ps) at in
      ap (λ (l : List Placed). sent_of l scid tape) (e some)
      ∙ shuffle-map f some (placed_at ps at) tape t
      ∙ shuffle-default (f some) none (map f (placed_at ps at)) tape t
      ∙ ap (λ (l : List Resolved). shuffle none l tape t) (placed-resolved ps scid tape at)

  pub shuffled-room : {room : ℕ} → AllVarints (listed ps) → after_parameters (listed ps) at ≤ length tape
      → length (parameters (sent_parameters (listed ps) scid tape at)) ≤ room → length (parameters (sent_parameters (listed ps) scid tape at)) < 65536
      → ParametersRoom shuffled scid tape room
  shuffled-room ok there fits small =
      record {
        each = rw (e some) (shuffle-keeps (Placeable tape) some (placed_at ps at) tape (after_parameters (listed ps) at) (placed-placeable ps tape at ok there));
        fits = rw shuffled-sent fits;
        small = rw shuffled-sent small;
      }

-- ---- `put_parameters`: those from place i on are the one at i, and the others

module _ (placed : List Placed) (scid tape : List ℕ) (i : ℕ) (d : Placed) where
  -- the bytes of the one
  abbrev pub placed_bytes : List ℕ
  placed_bytes = resolved_bytes (parameter_of (get_or placed i d).parameter) scid tape (get_or placed i d).at

  following : i < length placed
      → parameters (sent_of (drop i placed) scid tape) ≡ placed_bytes ++ parameters (sent_of (drop (i + 1) placed) scid tape)
  unfolding parameters
  following h = rw (drop-cons placed i d h, add-one i)

  module _ {whole old out : List ℕ} {n : ℕ} (w : Writing whole (parameters (sent_of (drop i placed) scid tape)) old out n) (h : i < length placed) where
    pub placed-room : length placed_bytes ≤ length (lent_from n out)
    placed-room = next-room placed_bytes (parameters (sent_of (drop (i + 1) placed) scid tape)) (rest-is w (following h)) refl

    pub placed-small : length whole < 65536 → length placed_bytes < 65536
    placed-small s =
        let rest = parameters (sent_of (drop (i + 1) placed) scid tape) in
        let v = rest-is w (following h) in
        omega (arith, s, piece-length whole placed_bytes rest n v.within v.left)

    pub placed-written : {part : List ℕ} {m : ℕ} → Put placed_bytes m (lent_from n out) part
        → Writing whole (parameters (sent_of (drop (i + 1) placed) scid tape)) old (back_from n out part) (n + m)
    placed-written = writes placed_bytes (parameters (sent_of (drop (i + 1) placed) scid tape)) (rest-is w (following h))

pub placed-finished : {whole : List ℕ} (placed : List Placed) (scid tape : List ℕ) (i : ℕ) {old out : List ℕ} {n : ℕ} → length placed ≤ i
    → Writing whole (parameters (sent_of (drop i placed) scid tape)) old out n → Put whole n old out
unfolding parameters
placed-finished placed scid tape i h w = finished (rest-is w (rw (drop_of_length-le placed h)))

-- ---- the extension

module _ (ps : List Parameter) (scid tape : List ℕ) (at : ℕ) {room : ℕ} (r : Room (ext_quic_tp ps scid tape at) room (length tape)) where
  pub draws-there : after_parameters ps at ≤ length tape
  unfolding ext_quic_tp
  draws-there = omega (arith, r.there)

  pub shuffle-there : {n : ℕ} → length ps ≡ n → after_shuffle n (after_parameters ps at) ≤ length tape
  unfolding ext_quic_tp
  shuffle-there e = rw e at r.there

  pub body-fits : 4 + length (parameters (sent_parameters ps scid tape at)) ≤ room
  unfolding ext_quic_tp
  body-fits = rw (length-extension 0x0039 (parameters (sent_parameters ps scid tape at))) at r.fits

  pub body-small : 4 + length (parameters (sent_parameters ps scid tape at)) < 65536
  unfolding ext_quic_tp
  body-small = rw (length-extension 0x0039 (parameters (sent_parameters ps scid tape at))) at r.small

-- the body was written to the part after the head's place, and then the head over the front
pub extension-written : (t : ℕ) (body old part : List ℕ) {n : ℕ} {new : List ℕ} → 4 + length body ≤ length old → Put body n (lent_from 4 old) part
    → new ≡ front (digits 256 2 t ++ digits 256 2 n) (back_from 4 old part) → Put (extension t body) (4 + n) old new
extension-written t body old part {n} h p e =
    record {
      count = omega (arith, p.count, length-extension t body);
      output =
          e
          ∙ headed (digits 256 2 t ++ digits 256 2 n) body old part (length-head t n) h p.output
          ∙ rw p.count (ap (λ (l : List ℕ). front l old) (extension-is t body));
    }
