-- Ids that are looked for among those after them. Assumes nothing.
use Prim.Native.Nat.{ℕ}
use mathlib.Core.Path.{◌≡◌, sym, ap, ◌∙◌}
use mathlib.Core.Bool.{true, false}
use mathlib.Core.List.{List}
use mathlib.Core.Option.{Option}
use Rattle.std.specs.Prelude.{Some, None}
use Rattle.wire.specs.Sums.{member, distinct}
use Rattle.fingerprint_bodies.specs.Entries.{Entry, front_entries, shown}
use Rattle.fingerprint_bodies.specs.Forms.{one_parameter, transport_parameters, id_of}
use Rattle.fingerprint_bodies.specs.Code.{Gives}
use Rattle.fingerprint_bodies.proofs.EntryLaws.{There}
use Rattle.fingerprint_bodies.proofs.YieldLaws.{Holds, holds, front-shown, HoldsNext, holds-next, holds-end}
use Rattle.fingerprint_order.proofs.MemberLaws.{distinct_nil, distinct-not, distinct-later}
use Rattle.fingerprint_parameters.specs.Code.{ids_in}

abbrev pub ids_form : List ℕ → Option (Entry ℕ)
ids_form = shown id_of one_parameter

-- these ids are still to come, and are distinct exactly where all are
pub record Later (body rest : List ℕ) : Type 0 where
  pub ids : List ℕ
  pub holds : Holds ids_form rest ids
  pub same : distinct (ids_in body) ≡ distinct ids

pub later-start : (body : List ℕ) → There (transport_parameters body) → Later body body
unfolding transport_parameters
later-start body t =
    record {
      ids = front_entries ids_form body;
      holds = holds ids_form body;
      same = ap (λ (l : List ℕ). distinct l) (sym (front-shown id_of one_parameter body t));
    }

module _ {body rest : List ℕ} (l : Later body rest) where
  -- an id, and those after it
  pub after-id : {id : ℕ} {new : List ℕ} → Gives ids_form rest (Some id) new → HoldsNext ids_form id new l.ids
  after-id g = holds-next ids_form l.holds g

  module _ {id : ℕ} {new : List ℕ} (g : Gives ids_form rest (Some id) new) where
    pub later-twice : member id (after-id g).later ≡ true → distinct (ids_in body) ≡ false
    later-twice m = l.same ∙ ap (λ (x : List ℕ). distinct x) (after-id g).is ∙ distinct-not id (after-id g).later m

    pub later-next : member id (after-id g).later ≡ false → Later body new
    later-next m =
        record {
          ids = (after-id g).later;
          holds = (after-id g).holds;
          same = l.same ∙ ap (λ (x : List ℕ). distinct x) (after-id g).is ∙ distinct-later id (after-id g).later m;
        }

  pub later-end : {new : List ℕ} → Gives ids_form rest None new → distinct (ids_in body) ≡ true
  later-end g = l.same ∙ ap (λ (x : List ℕ). distinct x) (holds-end ids_form l.holds g) ∙ distinct_nil
