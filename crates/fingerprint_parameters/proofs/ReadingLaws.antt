-- What `read_ids` has read when it stands before a parameter, and what that says at its end. Assumes nothing.
use Prim.Native.Nat.{ℕ, ◌+◌, ◌≤◌}
use mathlib.Core.Path.{◌≡◌, refl, sym, ap, ◌∙◌}
use mathlib.Core.List.{List, [], ◌∷◌, ◌++◌, append_assoc, append-nil}
use mathlib.Core.Option.{Option, none, some}
use native.Mathlib.Omega.{arith}
use lib.ListN.{length, take, set, get_or, length-append, length-set}
use lib.Seq.{get_or_at, take_at, take_all}
use Rattle.wire.specs.Front.{front}
use Rattle.wire.proofs.FrontLaws.{front-none, front-more}
use Rattle.fingerprint_bodies.specs.Entries.{Entry, mapped, first, all_entries, shown}
use Rattle.fingerprint_bodies.specs.Forms.{one_parameter, transport_parameters, id_of}
use Rattle.fingerprint_bodies.specs.Code.{Gives}
use Rattle.fingerprint_bodies.proofs.EntryLaws.{all_shown, left, left-start, left-next, left_cut, left_end, empty}
use Rattle.fingerprint_bodies.proofs.BindLaws.{none-some, same_some}
use Rattle.fingerprint_parameters.specs.Code.{ids_of, Kept}
use Rattle.std.specs.Prelude.{Some, None}

abbrev ids_form : List ℕ → Option (Entry ℕ)
ids_form = shown id_of one_parameter

ids-form : (body : List ℕ) → ids_of body ≡ all_entries ids_form body
unfolding ids_of transport_parameters
ids-form body = sym (all_shown id_of one_parameter body)

-- k parameters were read, up to this rest: these ids, of which the array has those that it has room for
pub record Reading (body old ids : List ℕ) (rest : List ℕ) (k : ℕ) : Type 0 where
  pub before : List ℕ
  pub long : length before ≡ k
  pub is : ids_of body ≡ mapped (λ r. before ++ r) (left ids_form body k rest)
  pub kept : k ≤ length old → ids ≡ front before old
  pub few : k + length rest ≤ length body
  pub size : length ids ≡ length old

mapped-same : (x : Option (List ℕ)) → x ≡ mapped (λ r. [] ++ r) x
unfolding mapped
mapped-same none = refl
mapped-same (some r) = refl

mapped-last : (a : List ℕ) (y : ℕ) (x : Option (List ℕ)) → mapped (λ r. a ++ r) (first y x) ≡ mapped (λ r. (a ++ (y ∷ [])) ++ r) x
unfolding mapped first
mapped-last a y none = refl
mapped-last a y (some r) = ap (λ (l : List ℕ). some l) (sym (append_assoc a (y ∷ []) r))

pub reading-start : (body ids : List ℕ) → Reading body ids ids body 0
reading-start body ids =
    record {
      before = [];
      long = refl;
      is = ids-form body ∙ left-start ids_form body ∙ mapped-same (left ids_form body 0 body);
      kept = λ p. front-none ids;
      few = omega arith;
      size = refl;
    }

module _ (body old ids rest : List ℕ) (k : ℕ) (r : Reading body old ids rest k) where
  pub reading-next : (id : ℕ) (new : List ℕ) → Gives ids_form rest (Some id) new → Reading body old (set ids k id) new (k + 1)
  reading-next id new g =
      record {
        before = r.before ++ (id ∷ []);
        long = omega (arith, length-append r.before (id ∷ []), r.long);
        is =
            r.is
            ∙ ap (λ (x : Option (List ℕ)). mapped (λ l. r.before ++ l) x) (left-next ids_form body k rest new id (omega (arith, r.few, g.1)) (omega (arith, g.1)) g.0)
            ∙ mapped-last r.before id (left ids_form body (k + 1) new);
        kept = kept_next;
        few = omega (arith, r.few, g.1);
        size = length-set ids k id ∙ r.size;
      }
    where
      kept_next : k + 1 ≤ length old → set ids k id ≡ front (r.before ++ (id ∷ [])) old
      kept_next p =
          let all : List ℕ = r.before ++ (id ∷ []) in
          let counted : length all ≡ k + 1 = omega (arith, length-append r.before (id ∷ []), r.long) in
          let these : take k all ≡ r.before = take_at r.before (id ∷ []) k r.long in
          let this : get_or all k 0 ≡ id = get_or_at r.before id [] 0 k r.long in
          let more = front-more k all old (omega (arith, counted)) (omega (arith, counted, p)) in
          rw (r.kept (omega (arith, p))) (rw (these, this, take_all (k + 1) all (omega (arith, counted))) at more)

  -- at the end a rest is left over, or none is
  module _ {new : List ℕ} (g : Gives ids_form rest None new) where
    pub reading-cut : 1 ≤ length new → Kept (ids_of body) None old ids
    unfolding mapped
    reading-cut i =
        let long : 1 ≤ length rest = rw g.1 at i in
        let cut : ids_of body ≡ none = r.is ∙ rw (left_cut ids_form body k rest (omega (arith, r.few, long)) long g.0) refl in
        record {
          is = rw cut;
          size = r.size;
          output = λ l p q. absurd (none-some (sym cut ∙ p));
        }

    pub reading-end : length new ≡ 0 → Kept (ids_of body) (Some k) old ids
    unfolding mapped
    reading-end e =
        let none_left : rest ≡ [] = rw g.1 at (empty new e) in
        let all : ids_of body ≡ some r.before = r.is ∙ ap (λ (l : List ℕ). mapped (λ l. r.before ++ l) (left ids_form body k l)) none_left ∙ rw (left_end ids_form body k, append-nil) in
        record {
          is = rw all (ap (λ (n : ℕ). Some n) (sym r.long));
          size = r.size;
          output = λ l p q. let z : r.before ≡ l = same_some r.before l (sym all ∙ p) in rw (← z) (r.kept (omega (arith, q, r.long, ap length z)));
        }
