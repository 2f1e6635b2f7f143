-- What `any_parameter` promises, by what its code has read and tested. Assumes nothing.
use Prim.Native.Nat.{ℕ, ◌+◌, ◌-◌, ◌≤◌, ◌<◌}
use mathlib.Core.Path.{◌≡◌, refl}
use mathlib.Core.List.{List}
use mathlib.Core.Option.{none}
use native.Mathlib.Omega.{arith}
use lib.ListN.{length, take, drop, length-drop}
use lib.Seq.{drop-drop}
use Rattle.varint.specs.Varint.{class_at, Found}
use Rattle.varint.specs.declared.Varint.{Varint}
use Rattle.std.specs.Prelude.{Ok, Err}
use Rattle.wire.specs.declared.refusals.Refusal.{Refusal}
use Rattle.fingerprint_bodies.specs.Entries.{bind}
use Rattle.fingerprint_bodies.specs.Forms.{varint_at, one_parameter}
use Rattle.fingerprint_bodies.proofs.PieceLaws.{taken-there, taken-cut}
use Rattle.fingerprint_parameters.specs.Code.{ParameterFound}

module _ (bs : List ℕ) where
  pub no-id : (k : Refusal) → Found bs (Err k) → one_parameter bs ≡ none
  unfolding one_parameter varint_at bind
  no-id k f = rw (← f.is)

  module _ (id : Varint) (f : Found bs (Ok id)) where
    pub no_length : (k : Refusal) → Found (drop id.width bs) (Err k) → one_parameter bs ≡ none
    unfolding one_parameter varint_at bind
    no_length k g = rw (← f.is, ← g.is)

    module _ (size : Varint) (g : Found (drop id.width bs) (Ok size)) where
      pub head-within : id.width + size.width ≤ length bs
      head-within = omega (arith, f.bounds.1, g.bounds.1, length-drop id.width bs)

      -- what stands after id and length
      after : length (drop size.width (drop id.width bs)) ≡ length bs - (id.width + size.width)
      after = omega (arith, length-drop size.width (drop id.width bs), length-drop id.width bs)

      pub no_value : length bs - (id.width + size.width) < size.value → one_parameter bs ≡ none
      unfolding one_parameter varint_at bind
      no_value h = rw (← f.is, ← g.is, taken-cut size.value (drop size.width (drop id.width bs)) (omega (arith, after)))

      pub whole-parameter : size.value ≤ length bs - (id.width + size.width) → ParameterFound bs id.value (id.width + size.width + size.value)
      unfolding one_parameter varint_at bind
      whole-parameter h =
          record {
            found =
                record {
                  id = record { class = class_at bs; number = id.value };
                  length_class = class_at (drop id.width bs);
                  value = take size.value (drop size.width (drop id.width bs));
                };
            is =
                rw (
                  ← f.is,
                  ← g.is,
                  taken-there size.value (drop size.width (drop id.width bs)) (omega (arith, after)),
                  drop-drop size.width id.width bs,
                  drop-drop size.value (id.width + size.width) bs,
                );
            id-is = refl;
            some = omega (arith, f.bounds.0);
            within = omega (arith, head-within);
          }
