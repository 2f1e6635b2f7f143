-- A parameter is told by its id, as it is found. Assumes nothing.
use mathlib.Core.Path.{◌∙◌, ap}
use mathlib.Core.Option.{some}
use mathlib.Core.List.{List}
use lib.ListN.{drop}
use Prim.Native.Nat.{ℕ}
use Rattle.std.specs.Prelude as std
use Rattle.std.specs.Prelude.{Some, None}
use Rattle.fingerprint_bodies.specs.declared.Entry as code
use Rattle.fingerprint_bodies.specs.Entries.{entry, shown}
use Rattle.fingerprint_bodies.specs.Forms.{one_parameter, id_of}
use Rattle.fingerprint_bodies.specs.Code.{EntryAs}
use Rattle.fingerprint_bodies.proofs.EntryLaws.{shown-some, shown-none}
use Rattle.fingerprint_parameters.specs.Code.{ParameterAs}
use Rattle.fingerprint_parameters.proofs.ParameterListed.at_front.Goals as goal

told : (r : std.Option (code.Entry ℕ)) (bs : List ℕ) → ParameterAs r bs → EntryAs r (shown id_of one_parameter) bs
told None bs e = shown-none id_of one_parameter bs e
told (Some p) bs f =
    record {
      is = shown-some id_of one_parameter bs _ _ f.is ∙ ap (λ (n : ℕ). some (entry n (drop p.used bs))) f.id-is;
      some = f.some;
      within = f.within;
    }

pub returns : goal.returns
returns c = told c.one_parameter.result c.args.rest.now c.one_parameter.ensures
